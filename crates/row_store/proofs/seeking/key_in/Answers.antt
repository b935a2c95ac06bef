use Rattle.std.proofs.Common.{◌∙◌, ◌+◌, ℕ, sym, ap, subst, arith}
use Rattle.frame_pool.specs.Frames.{Frames, Lacks, free_frames, taken}
use Rattle.frame_pool.proofs.Counting.{lacks-taken, free_frames-taken, free_frames-given, free_frames-none}
use Rattle.row_store.proofs.seeking.key_in.Goals as goal

pub unreachable-requires : goal.unreachable-requires
unreachable-requires g c = let none = rw c.in_default.is at c.take.ensures.none in omega (arith, free_frames-none c.args.pool.now none, c.requires.frames)

pub give-requires : goal.give-requires
give-requires g c =
    let P : Frames → Type 0 = λ now. Lacks now c.key_through-found.new.frame.number in
    let Q : ℕ → Type 0 = λ number. Lacks (taken c.args.pool.now c.in-Some.frame) number in
    subst P (sym c.in-Some.ensures.out) (subst Q (sym c.key_through-found.ensures.frame) (lacks-taken c.args.pool.now c.in-Some.frame c.in-Some.ensures.free))

pub returns-clause-frames : goal.returns-clause-frames
returns-clause-frames g c =
    let P : Frames → Type 0 = λ now. Lacks now c.key_through-found.new.frame.number in
    let Q : ℕ → Type 0 = λ number. Lacks (taken c.args.pool.now c.in-Some.frame) number in
    let lacks = subst P (sym c.in-Some.ensures.out) (subst Q (sym c.key_through-found.ensures.frame) (lacks-taken c.args.pool.now c.in-Some.frame c.in-Some.ensures.free)) in
    ap free_frames c.give.ensures ∙ free_frames-given c.take.new.self c.key_through-found.new.frame lacks
    ∙ ap (λ (now : Frames). free_frames now + 1) c.in-Some.ensures.out ∙ free_frames-taken c.args.pool.now c.in-Some.frame c.in-Some.ensures.free
