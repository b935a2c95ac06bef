use Rattle.std.proofs.Common.{sym, ap, ◌∙◌, map, Some}
use Rattle.std.proofs.lemmas.List.Elements.{All-push, All-same}
use Rattle.frame_pool.specs.Frames.{bytes_of, IsWhole}
use Rattle.frame_pool.proofs.Places.{fresh_more}
use Rattle.frame_pool.proofs.pool.Pool.new.Goals as goal

pub loop-number-preserved : goal.loop-number-preserved
loop-number-preserved c =
    let places = c.loop-number.places.items in
    let buffer = c.in_ok-vec.field-0 in
    let pushed = c.in_ok-push.ensures.items in
    let vec = c.in_ok-vec.ensures in (
      ap (map bytes_of) pushed ∙ fresh_more places buffer _ c.loop-number.invariant.0 (vec.items_if_clones_equal (λ y e. e)),
      All-same IsWhole _ _ pushed (All-push IsWhole places (Some buffer) c.loop-number.invariant.1 (sym buffer.ok.0 ∙ vec.len)),
    )
