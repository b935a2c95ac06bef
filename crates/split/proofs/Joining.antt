-- Pieces joined in order.
use Rattle.std.proofs.Common.{◌≡◌, ◌∙◌, sym, ap, refl, ℕ, zero, suc, ◌+◌, ◌-◌, ◌*◌, ◌/◌, ◌<◌, ◌≤◌, max, min, leb, Bool, true, false, List, [], ◌∷◌, ◌++◌, append_assoc, length, take, drop, set, get_or, Option, Some, None, is_some, unwrap_or, arith}
use Rattle.std.proofs.lemmas.List.{append-nil, take_all, drop_all, take_min, length-drop}
use Rattle.std.proofs.Math.Seq.{take-add}
use Rattle.std.proofs.lemmas.Bool.{leb-true, leb-false}
use Rattle.mds_base.specs.declared.row.Row.{Row}
use Rattle.split.proofs.Moving.{take_whole}
use Rattle.split.specs.Pieces.{pieces_in, piece_of, first_pieces, Collected, all_rows}

-- with one piece more
pub joined_more : (pieces : Collected) (i : ℕ) (d : Option (List Row)) → i < length pieces → all_rows (take (i + 1) pieces) ≡ all_rows (take i pieces) ++ unwrap_or (get_or pieces i d) []
joined_more [] i d within = absurd (omega (arith, within))
joined_more (p ∷ pieces) zero d within = append-nil (unwrap_or p [])
joined_more (p ∷ pieces) (suc i) d within =
    ap (λ n. all_rows (take n (p ∷ pieces))) (let e : suc i + 1 ≡ suc (i + 1) = omega arith in e)
    ∙ ap (λ rows. unwrap_or p [] ++ rows) (joined_more pieces i d (omega (arith, within)))
    ∙ sym (append_assoc (unwrap_or p []) (all_rows (take i pieces)) (unwrap_or (get_or pieces i d) []))

pub unset : (pieces : Collected) (i : ℕ) (piece : Option (List Row)) → get_or pieces i None ≡ None → set (set pieces i piece) i None ≡ pieces
unset [] i piece none = refl
unset (p ∷ pieces) zero piece none = ap (λ q. q ∷ pieces) (sym none)
unset (p ∷ pieces) (suc i) piece none = ap (λ l. p ∷ l) (unset pieces i piece none)

-- the first pieces are the first rows
first_rows : (rows : List Row) (count : ℕ) → first_pieces rows count ≡ take (64 * count) rows
first_rows rows zero = refl
first_rows rows (suc count) =
    ap (λ front. front ++ piece_of rows count) (first_rows rows count)
    ∙ sym (take-add (64 * count) 64 rows)
    ∙ ap (λ n. take n rows) (let e : 64 * count + 64 ≡ 64 * suc count = omega arith in e)

pub all_pieces : (rows : List Row) → first_pieces rows (pieces_in rows) ≡ rows
all_pieces rows = first_rows rows (pieces_in rows) ∙ take_whole (64 * pieces_in rows) rows (omega arith)

none_left : (n : ℕ) (rows : List Row) → length rows ≤ n → take 64 (drop n rows) ≡ []
none_left n rows past = ap (take 64) (drop_all n rows past)

-- the piece, by the places where it begins and ends
pub piece_between : (rows : List Row) (index start end : ℕ) → start ≡ min (length rows) (index * 64) → end ≡ min (length rows) (start + 64) → take (end - start) (drop start rows) ≡ piece_of rows index
piece_between rows index start end begins ends = elim (leb (index * 64) (length rows)) as (λ b. leb (index * 64) (length rows) ≡ b → take (end - start) (drop start rows) ≡ piece_of rows index) [
  | true ↦ λ is.
      let within = leb-true (index * 64) (length rows) is in
      let first : start ≡ 64 * index = omega (arith, begins, within) in
      let count : end - start ≡ min 64 (length (drop start rows)) = omega (arith, ends, first, within, length-drop start rows) in
      ap (λ n. take n (drop start rows)) count ∙ take_min 64 (drop start rows) ∙ ap (λ n. take 64 (drop n rows)) first
  | false ↦ λ is.
      let past = leb-false (index * 64) (length rows) is in
      let none : end - start ≡ 0 = omega (arith, ends, begins, past) in
      ap (λ n. take n (drop start rows)) none ∙ sym (none_left (64 * index) rows (omega (arith, past)))
] refl

pub no_piece : (piece : Option (List Row)) → is_some piece ≡ false → piece ≡ None
no_piece None is = refl
no_piece (Some rows) is = let never : true ≡ false = is in cc
