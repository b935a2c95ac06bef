use Rattle.std.proofs.Common.{◌≡◌, ◌∙◌, min, length, take, refl, sym, ap, arith, rules}
use Rattle.std.proofs.lemmas.List.{take-take, length-take-le}
use Rattle.mds_out.specs.Change.{Cut}
use Rattle.mds_out.specs.Undo.{unwound}
use Rattle.mds_out.proofs.Rooms.{changed_rooms}
use Rattle.mds_out.proofs.Writes.{take_min}
use Rattle.mds_out.proofs.file.File.cut.Goals as goal

pub invariant_of-self-2 : goal.invariant_of-self-2
invariant_of-self-2 c =
    let i = c.self.inside in
    let now = i.current.items in
    let end : c.min-end.result ≡ min c.args.to i.len = search rules in
    let file : take i.len c.deref.result.now ≡ take i.len now = ap (take i.len) c.deref.ensures.value in
    let size : length (take i.len now) ≡ i.len = length-take-le i.len now c.self.invariant.room in
    let front : take c.min-end.result (take c.min-end.result now) ≡ take c.min-end.result (take i.len c.deref.result.now) =
    take-take c.min-end.result c.min-end.result now (omega arith) ∙ sym (take-take c.min-end.result i.len now (omega (arith, end))) ∙ ap (take c.min-end.result) (sym file) in
    let back = c.in_ok-add_old.ensures.back (take c.min-end.result now) front (λ beyond. absurd (omega (arith, beyond, ap length file, size))) in
    changed_rooms now now i.len c.min-end.result i.undo c.add_old.new.self i.since c.add_cut.new.self (Cut c.args.to) c.self.invariant refl (omega (arith, end, c.self.invariant.room))
    (sym (take_min now c.args.to i.len c.min-end.result end c.self.invariant.room)) (back ∙ ap (λ l. unwound l i.undo) file)
    (λ n le. c.in_ok-add_old.ensures.fit n (omega (arith, le, ap length file))) (omega arith) c.in_ok-add_cut.ensures.ok
