use Rattle.std.proofs.Common.{◌≡◌, ◌∙◌, ◌+◌, sym, ap, subst, arith}
use Rattle.frame_pool.proofs.Counting.{lacks-taken, free_frames-taken, free_frames-given, free_frames-none}
use Rattle.frame_pool.specs.Frames.{Frames, Lacks, taken, free_frames}
use Rattle.row_store.proofs.merges.turn.Goals as goal

pub unreachable-requires : goal.unreachable-requires
unreachable-requires g c = omega (arith, free_frames-none c.args.pool.now c.in_default.ensures.none, c.requires.frames)

pub give-requires : goal.give-requires
give-requires g c =
    let frame = c.in-Some.frame in
    let out : c.take.new.self ≡ taken c.args.pool.now frame = c.in-Some.ensures.out in
    subst (λ (p : Frames). Lacks p c.turn_with-turned.new.frame.number) (sym out) (subst (Lacks (taken c.args.pool.now frame)) (sym c.turn_with-turned.ensures.frame) (lacks-taken c.args.pool.now frame c.in-Some.ensures.free))

pub returns-clause-frames : goal.returns-clause-frames
returns-clause-frames g c =
    let frame = c.in-Some.frame in
    let out : c.take.new.self ≡ taken c.args.pool.now frame = c.in-Some.ensures.out in
    let lacks = subst (λ (p : Frames). Lacks p c.turn_with-turned.new.frame.number) (sym out) (subst (Lacks (taken c.args.pool.now frame)) (sym c.turn_with-turned.ensures.frame) (lacks-taken c.args.pool.now frame c.in-Some.ensures.free)) in
    ap (λ (p : Frames). free_frames p) c.give.ensures ∙ free_frames-given c.take.new.self c.turn_with-turned.new.frame lacks ∙ ap (λ (p : Frames). free_frames p + 1) out ∙ free_frames-taken c.args.pool.now frame c.in-Some.ensures.free
