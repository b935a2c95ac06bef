-- How a pool keeps its frames, against what is seen of it.
use Rattle.std.proofs.Common.{◌≡◌, refl, sym, ap, subst, ◌∙◌, ℕ, ◌+◌, ◌≤◌, nat_lt, List, ◌∷◌, ◌++◌, [], Option, Some, None, map, length, get_or, is_some, Bool, true, false, arith}
use Rattle.std.proofs.lemmas.Bool.Decides.{nat_tests}
use Rattle.std.specs.Prelude.{All, IsNone, IfNone, position, slice_get, replicate, if◌then◌else◌}
use Rattle.std.specs.List.{position_or_len}
use Rattle.std.specs.Option.{option_map}
use Rattle.std.specs.Global.{Vec}
use Rattle.std.proofs.lemmas.Option.{slice_get-map, slice_get_read}
use Rattle.std.proofs.lemmas.List.Elements.{All-map, All-weaker}
use Rattle.std.proofs.lemmas.List.Sums.{fails_before_first}
use Rattle.std.proofs.lemmas.List.Quantifiers.{position-Some}
use Rattle.frame_pool.specs.Frames.{Frames, fresh, bytes_of}
use Rattle.frame_pool.specs.declared.TheConstants.{FRAME_BYTES}
use Rattle.std.proofs.lemmas.List.{map-append, replicate-append-replicate}

pub if_none : {T : Type 0} (o : Option T) (P : Type 0) → P → IfNone o P
if_none None P holds = holds
if_none (Some x) P holds = tt

out_kept : (place : Option (Vec ℕ)) → IsNone place → IsNone (bytes_of place)
out_kept None out = refl
out_kept (Some buffer) out = cc

not_within : {X : Type 0} (within : Bool) (x : X) → (if within then Some x else None) ≡ None → within ≡ false
not_within true x none = cc
not_within false x none = refl

none_free : (places : List (Option (Vec ℕ))) → position is_some places ≡ None → All IsNone places
none_free places none k d within =
    let past = not_within (nat_lt (position_or_len is_some places) (length places)) _ none in
    let all : length places ≤ position_or_len is_some places = grind (arith, nat_tests) in
    fails_before_first is_some places k d (omega arith)

-- where no first free frame is found, every frame is out
pub all_out : (places : List (Option (Vec ℕ))) (frames : Frames) → map bytes_of places ≡ frames → position is_some places ≡ None → All IsNone frames
all_out places frames seen none =
    let P : Frames → Type 0 = All IsNone in
    subst P seen (All-map IsNone bytes_of places (All-weaker IsNone (λ place. IsNone (bytes_of place)) out_kept places (none_free places none)))

-- the first free frame that is found lies within the pool and is none that is out
pub found_free : {P : Type 0} (places : List (Option (Vec ℕ))) (number : ℕ) (place : Option (Vec ℕ)) → position is_some places ≡ Some number → place ≡ get_or places number place → place ≡ None → P
found_free places number place found read out =
    let free = (position-Some is_some places number place found).1 in
    let kept : is_some place ≡ true = ap is_some read ∙ free in
    let gone : is_some place ≡ false = ap is_some out in
    cc

-- and is seen with the bytes of its buffer
pub seen_free : (places : List (Option (Vec ℕ))) (frames : Frames) (number : ℕ) (place : Option (Vec ℕ)) (buffer : Vec ℕ) → map bytes_of places ≡ frames
    → position is_some places ≡ Some number → place ≡ get_or places number place → Some buffer ≡ place → slice_get frames number ≡ Some (Some buffer.items)
seen_free places frames number place buffer seen found read is =
    let within = (position-Some is_some places number place found).0 in
    let at : slice_get places number ≡ Some place = slice_get_read places (length places) number place refl within read in
    ap (λ (fs : Frames). slice_get fs number) (sym seen) ∙ slice_get-map bytes_of places number ∙ ap (option_map bytes_of) at ∙ ap (λ p. Some (bytes_of p)) (sym is)

-- one more fresh frame
pub fresh_more : (places : List (Option (Vec ℕ))) (buffer : Vec ℕ) (count : ℕ) → map bytes_of places ≡ fresh count → buffer.items ≡ replicate FRAME_BYTES 0
    → map bytes_of (places ++ Some buffer ∷ []) ≡ fresh (count + 1)
fresh_more places buffer count seen zeros =
    map-append bytes_of places (Some buffer ∷ [])
    ∙ ap (λ (frames : Frames). frames ++ Some buffer.items ∷ []) seen
    ∙ ap (λ bytes. fresh count ++ Some bytes ∷ []) zeros
    ∙ replicate-append-replicate count 1 (Some (replicate FRAME_BYTES 0))
