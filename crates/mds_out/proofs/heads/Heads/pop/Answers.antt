use Rattle.std.proofs.Common.{◌≡◌, ◌<◌, sym, ◌∙◌, ◌++◌, ◌∷◌, [], length, IsSome, arith, rules}
use Rattle.std.specs.Vec.{vec_len}
use Rattle.mds_out.proofs.Adding.{short_count_back, short_back, last_count_back, last_back}
use Rattle.mds_out.proofs.heads.Heads.pop.Goals as goal

pub invariant_of-self-in-Some : goal.invariant_of-self-in-Some
invariant_of-self-in-Some c =
    short_count_back c.self.inside.longs.items c.self.inside.shorts.items c.pop.new.self.items c.in-Some.head c.in_ok-short.short c.in_ok-short.ensures.items c.self.invariant c.in-Some.ensures

pub returns-in-Some : goal.returns-in-Some
returns-in-Some c =
    sym c.self.view_is
    ∙ short_back c.self.inside.longs.items c.self.inside.shorts.items c.pop.new.self.items c.in-Some.head c.in_ok-short.short c.in_ok-short.ensures.items c.self.invariant c.in-Some.ensures

pub invariant_of-self-in-None : goal.invariant_of-self-in-None
invariant_of-self-in-None c =
    let len : vec_len c.self.inside.longs ≡ length c.self.inside.longs.items = search rules in
    let some : 0 < length c.self.inside.longs.items → IsSome c.pop-in-None.result = λ more. c.pop-in-None.ensures.variant.1 (omega (arith, more, len)) in
    last_count_back c.self.inside.longs.items c.pop-in-None.new.self.items c.pop-in-None.result c.self.inside.shorts.items c.pop.new.self.items c.in_ok-short.short
    c.in_ok-short.ensures.items c.in-None.ensures c.self.invariant c.pop-in-None.ensures.items some

pub returns-in-None : goal.returns-in-None
returns-in-None c =
    let len : vec_len c.self.inside.longs ≡ length c.self.inside.longs.items = search rules in
    let some : 0 < length c.self.inside.longs.items → IsSome c.pop-in-None.result = λ more. c.pop-in-None.ensures.variant.1 (omega (arith, more, len)) in
    last_back c.args.self.now c.self.inside.longs.items c.pop-in-None.new.self.items c.pop-in-None.result c.self.inside.shorts.items c.pop.new.self.items c.in_ok-short.short
    c.self.view_is c.in_ok-short.ensures.items c.in-None.ensures c.self.invariant c.pop-in-None.ensures.items some
