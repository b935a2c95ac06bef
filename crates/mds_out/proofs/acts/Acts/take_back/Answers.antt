use Rattle.std.proofs.Common.{◌≡◌, ◌∙◌, sym, ap, length, sum_by, ◌+◌, ◌-◌, ◌++◌, ◌∷◌, [], arith}
use Rattle.std.proofs.lemmas.List.Sums.{sum_by_push}
use Rattle.mds_out.specs.Kept.{bytes_in, acts_of}
use Rattle.mds_out.proofs.Adding.{acts_back}
use Rattle.mds_out.proofs.acts.Acts.take_back.Goals as goal

pub returns-in-Some : goal.returns-in-Some
returns-in-Some c acts act is =
    let written = c.self.inside.written.items in
    let left : sum_by bytes_in (c.pop.new.self ++ c.in-Some.head ∷ []) ≡ length written = ap (sum_by bytes_in) (sym c.in-Some.ensures) ∙ c.self.invariant in
    ap (λ w. acts_of w c.pop.new.self) c.truncate.ensures.items
    ∙ acts_back written c.pop.new.self c.in-Some.head (c.len.result - c.bytes.result) acts act left
    (omega (arith, left, sum_by_push bytes_in c.pop.new.self c.in-Some.head, c.bytes.ensures, c.len.ensures))
    (ap (acts_of written) (sym c.in-Some.ensures) ∙ c.self.view_is ∙ is)
