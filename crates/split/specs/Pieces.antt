-- A half in pieces of at most 64 rows, and the pieces that were collected.
use Rattle.std.specs.Prelude.{ℕ, zero, suc, ◌∷◌, ◌+◌, ◌*◌, ◌/◌, ◌==◌, ◌++◌, if◌then◌else◌, List, [], take, drop, set}
use Rattle.std.specs.Prelude.{replicate, get_or, length, max, Option, Some, None, is_some, unwrap_or}
use Rattle.std.specs.List.{list_all}
use Rattle.mds_base.specs.declared.row.Row.{Row}

-- how many pieces rows are sent in: one also of none
abbrev pub pieces_in : List Row → ℕ
pieces_in rows = max 1 ((length rows + 63) / 64)

-- the piece with this index
abbrev pub piece_of : List Row → ℕ → List Row
piece_of rows index = take 64 (drop (64 * index) rows)

-- the first pieces, so many, joined in order
abbrev pub first_pieces : List Row → ℕ → List Row
first_pieces rows zero = []
first_pieces rows (suc count) = first_pieces rows count ++ piece_of rows count

-- what was collected: at each index the piece, where it came
abbrev pub Collected : Type 0
Collected = List (Option (List Row))

-- what is kept of so many pieces: none of them where what is kept is of another number
abbrev pub kept_of : Collected → ℕ → Collected
kept_of pieces count = if length pieces == count then pieces else replicate count None

-- with a piece more; one that is kept already stays
abbrev pub with_piece : Collected → ℕ → List Row → Collected
with_piece pieces index rows = if is_some (get_or pieces index None) then pieces else set pieces index (Some rows)

abbrev pub collected : Collected → ℕ → ℕ → List Row → Collected
collected pieces index count rows = with_piece (kept_of pieces count) index rows

-- the rows of the pieces that came, in order
abbrev pub all_rows : Collected → List Row
all_rows [] = []
all_rows (piece ∷ pieces) = unwrap_or piece [] ++ all_rows pieces

-- all rows, where no piece is missing
abbrev pub whole_of : Collected → Option (List Row)
whole_of pieces = if list_all is_some pieces then Some (all_rows pieces) else None
