use Rattle.std.proofs.Common.{◌≡◌, ◌++◌, ◌∷◌, [], ◌-◌, take, drop, rules}
use Rattle.mds_out.specs.Change.{Write}
use Rattle.mds_out.proofs.Undoing.{unwound_length, unwound_back, unwound_same, length_fits, back_fits}
use Rattle.mds_out.proofs.changes.Changes.add_old.Goals as goal

pub returns-in_err-add_write-clause-same : goal.returns-in_err-add_write-clause-same
returns-in_err-add_write-clause-same c = unwound_length c.args.file.now c.args.self.now c.add_write.new.self (search rules)

pub returns-in_err-add_write-clause-fit : goal.returns-in_err-add_write-clause-fit
returns-in_err-add_write-clause-fit c = λ n le fit. length_fits n c.args.file.now c.args.self.now c.add_write.new.self (search rules) fit

pub returns-clause-back : goal.returns-clause-back
returns-clause-back c = λ now front rest.
    let written : c.add_write.new.self ≡ c.add_cut.new.self ++ Write c.args.from (take (c.args.to - c.args.from) (drop c.args.from c.args.file.now)) ∷ [] = search rules in
    unwound_back c.args.file.now now c.args.self.now c.add_cut.new.self c.add_write.new.self c.args.from c.args.to (search rules) written c.requires.order c.requires.within front rest

pub returns-clause-same : goal.returns-clause-same
returns-clause-same c =
    let written : c.add_write.new.self ≡ c.add_cut.new.self ++ Write c.args.from (take (c.args.to - c.args.from) (drop c.args.from c.args.file.now)) ∷ [] = search rules in
    unwound_same c.args.file.now c.args.self.now c.add_cut.new.self c.add_write.new.self c.args.from c.args.to (search rules) written c.requires.order c.requires.within

pub returns-clause-fit : goal.returns-clause-fit
returns-clause-fit c = λ n le fit.
    let written : c.add_write.new.self ≡ c.add_cut.new.self ++ Write c.args.from (take (c.args.to - c.args.from) (drop c.args.from c.args.file.now)) ∷ [] = search rules in
    back_fits n c.args.file.now c.args.self.now c.add_cut.new.self c.add_write.new.self c.args.from c.args.to (search rules) written c.requires.order c.requires.within le fit
