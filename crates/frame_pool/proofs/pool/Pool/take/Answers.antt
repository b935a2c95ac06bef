use Rattle.std.proofs.Common.{sym, ap, ◌∙◌, map, is_some, None, slice_set}
use Rattle.std.specs.Prelude.{position}
use Rattle.std.proofs.lemmas.List.{map-set}
use Rattle.frame_pool.specs.Frames.{Frames, bytes_of}
use Rattle.frame_pool.proofs.Places.{if_none, all_out, found_free, seen_free}
use Rattle.frame_pool.proofs.pool.Pool.take.Goals as goal

pub returns-in_err-number-clause-none : goal.returns-in_err-number-clause-none
returns-in_err-number-clause-none c =
    if_none _ _ (all_out c.self.inside.places.items _ c.self.view_is (sym (c.in_err-number.ensures ∙ ap (position is_some) c.deref.ensures.value)))

pub returns-in_err-block-clause-none : goal.returns-in_err-block-clause-none
returns-in_err-block-clause-none c =
    found_free c.self.inside.places.items _ _ (sym (c.in_ok-number.ensures ∙ ap (position is_some) c.deref.ensures.value)) c.index_mut.ensures.value (sym c.in_err-block.ensures.value)

pub returns-clause-free : goal.returns-clause-free
returns-clause-free c =
    seen_free c.self.inside.places.items _ _ _ c.in_ok-block.block c.self.view_is (sym (c.in_ok-number.ensures ∙ ap (position is_some) c.deref.ensures.value))
    c.index_mut.ensures.value c.in_ok-block.ensures.value

pub returns-clause-out : goal.returns-clause-out
returns-clause-out c =
    let places = c.self.inside.places.items in
    let number = c.in_ok-number.number in
    ap (λ place. map bytes_of (slice_set places number place)) c.take.ensures.after
    ∙ map-set bytes_of places number None ∙ ap (λ (frames : Frames). slice_set frames number None) c.self.view_is
