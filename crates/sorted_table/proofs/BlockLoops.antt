-- The loops over the rows of a block: what is left to read gives what all of it gives.
use Rattle.std.proofs.Common.{◌≡◌, ◌∙◌, sym, ap, refl, ℕ, suc, ◌+◌, ◌-◌, ◌<◌, ◌≤◌, Bool, true, false, cond, List, [], ◌∷◌, ◌++◌, append_assoc, Option, None, Some, arith}
use Rattle.std.proofs.lemmas.List.{append-nil}
use Rattle.mds_base.specs.declared.row_key.RowKey.{RowKey}
use Rattle.sorted_table.specs.declared.table_row.TableRow.{TableRow}
use Rattle.sorted_table.specs.Reading.{◌>>=◌, row_at, rows_at, behind_at}
use Rattle.sorted_table.specs.TableRows.{row_spelling}
use Rattle.sorted_table.proofs.Readers.{IsBytes, bytes_behind}
use Rattle.sorted_table.proofs.Rows.{row_reads}

-- these rows, and then those that are read
abbrev joined : List TableRow → Option (List TableRow × List ℕ) → Option (List TableRow × List ℕ)
joined rows read = read >>= λ x. Some (rows ++ x.0, x.1)

-- so many rows were read, and these bytes are left
pub record HasRead (count : ℕ) (bytes : List ℕ) (place : ℕ) (rows : List TableRow) (rest : List ℕ) : Type 0 where
  pub gives : joined rows (rows_at (count - place) rest) ≡ rows_at count bytes
  pub fits : IsBytes rest

pub read_none : (count : ℕ) (bytes : List ℕ) → IsBytes bytes → HasRead count bytes 0 [] bytes
read_none count bytes fits = record { fits = fits; gives = same (rows_at (count - 0) bytes) ∙ ap (λ n. rows_at n bytes) (omega arith) }
  where
    same : (r : Option (List TableRow × List ℕ)) → joined [] r ≡ r
    same None = refl
    same (Some x) = refl

left : (count place : ℕ) → place < count → count - place ≡ suc (count - (place + 1))
left count place lt = omega arith

pub read_fails : (count : ℕ) (bytes : List ℕ) (place : ℕ) (rows : List TableRow) (rest : List ℕ) → HasRead count bytes place rows rest → place < count → row_at rest ≡ None → rows_at count bytes ≡ None
read_fails count bytes place rows rest has lt none =
    let step : rows_at (count - place) rest ≡ None = rw (left count place lt, none) refl in
    sym has.gives ∙ ap (joined rows) step

pub read_more : (count : ℕ) (bytes : List ℕ) (place : ℕ) (rows : List TableRow) (rest : List ℕ) (row : TableRow) (after : List ℕ) → HasRead count bytes place rows rest → place < count → row_at rest ≡ Some (row, after) → HasRead count bytes (place + 1) (rows ++ row ∷ []) after
read_more count bytes place rows rest row after has lt read =
    let step : rows_at (count - place) rest ≡ (rows_at (count - (place + 1)) after >>= λ x. Some (row ∷ x.0, x.1)) = rw (left count place lt, read) refl in
    record { fits = bytes_behind rest (row_spelling row) after (row_reads.found rest row after has.fits read).1 has.fits; gives = moved (rows_at (count - (place + 1)) after) ∙ ap (joined rows) (sym step) ∙ has.gives }
  where
    moved : (r : Option (List TableRow × List ℕ)) → joined (rows ++ row ∷ []) r ≡ joined rows (r >>= λ x. Some (row ∷ x.0, x.1))
    moved None = refl
    moved (Some x) = ap (λ (all : List TableRow). Some (all, x.1)) (append_assoc rows (row ∷ []) x.0)

pub read_all : (count : ℕ) (bytes : List ℕ) (place : ℕ) (rows : List TableRow) (rest : List ℕ) → HasRead count bytes place rows rest → count ≤ place → rows_at count bytes ≡ Some (rows, rest)
read_all count bytes place rows rest has end =
    let none : count - place ≡ 0 = omega arith in
    sym has.gives ∙ ap (λ n. joined rows (rows_at n rest)) none ∙ ap (λ (all : List TableRow). Some (all, rest)) (append-nil rows)

-- all rows so far pass the test, and these bytes are left
pub record Seeks (count : ℕ) (before : RowKey → Bool) (bytes : List ℕ) (place : ℕ) (rest : List ℕ) : Type 0 where
  pub gives : behind_at (count - place) before rest ≡ behind_at count before bytes
  pub fits : IsBytes rest

pub seek_none : (count : ℕ) (before : RowKey → Bool) (bytes : List ℕ) → IsBytes bytes → Seeks count before bytes 0 bytes
seek_none count before bytes fits = record { fits = fits; gives = ap (λ n. behind_at n before bytes) (omega arith) }

pub seek_fails : (count : ℕ) (before : RowKey → Bool) (bytes : List ℕ) (place : ℕ) (rest : List ℕ) → Seeks count before bytes place rest → place < count → row_at rest ≡ None → behind_at count before bytes ≡ None
seek_fails count before bytes place rest has lt none =
    let step : behind_at (count - place) before rest ≡ None = rw (left count place lt, none) refl in
    sym has.gives ∙ step

seek_step : (count : ℕ) (before : RowKey → Bool) (place : ℕ) (rest : List ℕ) (row : TableRow) (after : List ℕ) (b : Bool) → place < count → row_at rest ≡ Some (row, after) → before row.key ≡ b → behind_at (count - place) before rest ≡ cond b (behind_at (count - (place + 1)) before after) (Some (Some row))
seek_step count before place rest row after b lt read is = rw (left count place lt, read, is) refl

pub seek_more : (count : ℕ) (before : RowKey → Bool) (bytes : List ℕ) (place : ℕ) (rest : List ℕ) (row : TableRow) (after : List ℕ) → Seeks count before bytes place rest → place < count → row_at rest ≡ Some (row, after) → before row.key ≡ true → Seeks count before bytes (place + 1) after
seek_more count before bytes place rest row after has lt read is = record { fits = bytes_behind rest (row_spelling row) after (row_reads.found rest row after has.fits read).1 has.fits; gives = sym (seek_step count before place rest row after true lt read is) ∙ has.gives }

pub seek_ends : (count : ℕ) (before : RowKey → Bool) (bytes : List ℕ) (place : ℕ) (rest : List ℕ) (row : TableRow) (after : List ℕ) → Seeks count before bytes place rest → place < count → row_at rest ≡ Some (row, after) → before row.key ≡ false → behind_at count before bytes ≡ Some (Some row)
seek_ends count before bytes place rest row after has lt read is = sym has.gives ∙ seek_step count before place rest row after false lt read is

pub seek_all : (count : ℕ) (before : RowKey → Bool) (bytes : List ℕ) (place : ℕ) (rest : List ℕ) → Seeks count before bytes place rest → count ≤ place → behind_at count before bytes ≡ Some None
seek_all count before bytes place rest has end = let none : count - place ≡ 0 = omega arith in sym has.gives ∙ ap (λ n. behind_at n before rest) none
