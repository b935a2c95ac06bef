use Rattle.std.proofs.Common.{ℕ, sym, subst}
use Rattle.frame_pool.specs.Frames.{Frames, Lacks, taken}
use Rattle.frame_pool.proofs.Counting.{lacks-taken}
use Rattle.rows_store.proofs.merges.merge.Goals as goal

pub give-requires : goal.give-requires
give-requires g c =
    let pool = c.in_ok-pool.pool in
    let P : Frames → Type 0 = λ now. Lacks now c.merge_through-said.new.frame.number in
    let Q : ℕ → Type 0 = λ number. Lacks (taken pool c.in-Some.frame) number in
    subst P (sym c.in-Some.ensures.out) (subst Q (sym c.merge_through-said.ensures) (lacks-taken pool c.in-Some.frame c.in-Some.ensures.free))
