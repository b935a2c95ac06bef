-- What goes out and comes back: of one frame, and of how many are free.
use Rattle.std.proofs.Common.{◌≡◌, refl, sym, ap, ◌∙◌, ℕ, zero, suc, ◌+◌, ◌≤◌, List, [], ◌∷◌, Option, Some, None, is_some, arith}
use Rattle.std.specs.Prelude.{All, IsNone, slice_get, slice_set, if◌then◌else◌}
use Rattle.std.proofs.lemmas.List.Elements.{All-weaker}
use Rattle.std.proofs.lemmas.List.Sums.{sum_by-set, sum_by-le}
use Rattle.std.proofs.lemmas.Option.{get_or_from_slice_get, slice_get_within}
use Rattle.frame_pool.specs.Frames.{FrameOut, Frames, IsFree, Lacks, free_frames, taken, given}

set_get : {X : Type 0} (xs : List X) (k : ℕ) (x y : X) → slice_get xs k ≡ Some x → slice_get (slice_set xs k y) k ≡ Some y
set_get [] k x y here = cc
set_get (z ∷ xs) zero x y here = refl
set_get (z ∷ xs) (suc k) x y here = set_get xs k x y here

set_twice : {X : Type 0} (xs : List X) (k : ℕ) (x y : X) → slice_set (slice_set xs k x) k y ≡ slice_set xs k y
set_twice [] k x y = refl
set_twice (z ∷ xs) zero x y = refl
set_twice (z ∷ xs) (suc k) x y = ap (λ rest. z ∷ rest) (set_twice xs k x y)

-- a frame that goes out is lacked from then on
pub lacks-taken : (frames : Frames) (frame : FrameOut) → IsFree frames frame → Lacks (taken frames frame) frame.number
lacks-taken frames frame free = set_get frames frame.number (Some frame.bytes) None free

-- a frame that comes back after it went out is there with what its holder left, and the others are as they were
pub given-taken : (frames : Frames) (frame left : FrameOut) → left.number ≡ frame.number → given (taken frames frame) left ≡ given frames left
given-taken frames frame left same = ap (λ number. given (slice_set frames number None) left) (sym same) ∙ set_twice frames left.number None (Some left.bytes)

abbrev one : Option (List ℕ) → ℕ
one frame = if is_some frame then 1 else 0

-- one frame fewer is free once it is out
pub free_frames-taken : (frames : Frames) (frame : FrameOut) → IsFree frames frame → free_frames (taken frames frame) + 1 ≡ free_frames frames
free_frames-taken frames frame free =
    let was = ap one (get_or_from_slice_get frames frame.number (Some frame.bytes) None free) in
    omega (arith, was, sum_by-set one frames frame.number None None (slice_get_within frames frame.number (Some frame.bytes) free))

-- one frame more is free once it has come back
pub free_frames-given : (frames : Frames) (frame : FrameOut) → Lacks frames frame.number → free_frames (given frames frame) ≡ free_frames frames + 1
free_frames-given frames frame out =
    let was = ap one (get_or_from_slice_get frames frame.number None None out) in
    omega (arith, was, sum_by-set one frames frame.number (Some frame.bytes) None (slice_get_within frames frame.number None out))

none_free : (frame : Option (List ℕ)) → IsNone frame → one frame ≤ 0
none_free None out = omega arith
none_free (Some bytes) out = cc

-- where every frame is out none is free
pub free_frames-none : (frames : Frames) → All IsNone frames → free_frames frames ≡ 0
free_frames-none frames out = omega (arith, sum_by-le one 0 frames (All-weaker IsNone (λ frame. one frame ≤ 0) none_free frames out))
