-- Blocks are read exactly.
use Rattle.std.proofs.Common.{◌≡◌, ◌∙◌, sym, ap, subst, refl, ℕ, zero, suc, ◌+◌, ◌-◌, ◌<◌, ◌≤◌, ◌^◌, Bool, true, false, cond, ◌&&◌, nat_eq, List, [], ◌∷◌, ◌++◌, append_assoc, length, replicate, None, Some, arith, length-append}
use Rattle.std.specs.Int.{w16, to_be_bytes}
use Rattle.std.specs.List.{AllByRecursion}
use Rattle.std.proofs.lemmas.Bool.Decides.{nat_tests}
use Rattle.std.proofs.lemmas.List.{length-replicate}
use Rattle.mds_base.specs.declared.row_key.RowKey.{RowKey}
use Rattle.sorted_table.specs.declared.table_row.TableRow.{TableRow}
use Rattle.sorted_table.specs.TableRows.{IsRow, key_spelling, marked_spelling, row_spelling, rows_spelling, row_behind}
use Rattle.sorted_table.specs.Reading.{u16_at, rows_at, behind_at, are_zeros, before_zeros, block_at}
use Rattle.sorted_table.specs.Blocks.{block_size, block_spelling}
use Rattle.sorted_table.proofs.Readers.{IsBytes, from_both, then_some, passed, bytes_behind, u16_reads}
use Rattle.sorted_table.proofs.Rows.{rows_again, rows_found, behind_rows}

-- ---- lengths

row_long : (row : TableRow) → 1 ≤ length (row_spelling row)
row_long row = omega (arith, length-append (key_spelling row.key) (marked_spelling row.attr), length-append (to_be_bytes w16 0) (key_spelling row.key))

-- no more rows than bytes
pub fewer_rows : (rows : List TableRow) → length rows ≤ length (rows_spelling rows)
fewer_rows [] = omega arith
fewer_rows (row ∷ rows) = let rest = fewer_rows rows in omega (arith, row_long row, length-append (row_spelling row) (rows_spelling rows))

-- ---- zeros

pub zeros_pass : (n : ℕ) → are_zeros (replicate n 0) ≡ true
zeros_pass zero = refl
zeros_pass (suc n) = zeros_pass n

pub zeros_are : (bytes : List ℕ) → are_zeros bytes ≡ true → bytes ≡ replicate (length bytes) 0
zeros_are [] e = refl
zeros_are (zero ∷ bytes) e = ap (λ (l : List ℕ). 0 ∷ l) (zeros_are bytes e)
zeros_are (suc b ∷ bytes) e =
    let off : nat_eq (suc b) 0 ≡ false = grind (arith, nat_tests) in
    let never : ◌≡◌ {A = Bool} false true = sym (ap (λ x. x && are_zeros bytes) off) ∙ e in
    absurd cc

-- ---- blocks

pub block_again : (rows : List TableRow) → AllByRecursion IsRow rows → length rows < 2 ^ 16 → block_at (block_spelling rows) ≡ Some rows
block_again rows all few =
    let zeros = replicate (4096 - block_size rows) 0 in
    ap block_at (append_assoc (to_be_bytes w16 (length rows)) (rows_spelling rows) zeros)
    ∙ then_some (u16_at (to_be_bytes w16 (length rows) ++ (rows_spelling rows ++ zeros))) (length rows, rows_spelling rows ++ zeros) _ (u16_reads.again (length rows) (rows_spelling rows ++ zeros) few)
    ∙ ap before_zeros (rows_again rows zeros all)
    ∙ ap (λ b. cond b (Some rows) None) (zeros_pass (4096 - block_size rows))

-- the length of a block is that of its rows and what is left
pub block_parts : (block : List ℕ) (count : ℕ) (rest : List ℕ) (rows : List TableRow) (left : List ℕ) → IsBytes block → u16_at block ≡ Some (count, rest) → rows_at count rest ≡ Some (rows, left) → length block ≡ block_size rows + length left
block_parts block count rest rows left fits first second =
    let n = u16_reads.found block count rest fits first in
    let r = rows_found count rest rows left (bytes_behind block (to_be_bytes w16 count) rest n.1 fits) second in
    omega (arith, ap length n.1, length-append (to_be_bytes w16 count) rest, ap length r.parts, length-append (rows_spelling rows) left)

pub record BlockRead (block : List ℕ) (rows : List TableRow) : Type 0 where
  pub all : AllByRecursion IsRow rows
  pub size : block_size rows ≤ length block
  pub bytes : length block ≡ 4096 → block ≡ block_spelling rows

pub block_found : (block : List ℕ) (rows : List TableRow) → IsBytes block → block_at block ≡ Some rows → BlockRead block rows
block_found block rows fits e =
    let a = from_both (u16_at block) _ rows e in
    let b = from_both (rows_at a.0.0 a.0.1) _ rows a.2 in
    let z = passed (are_zeros b.0.1) b.0.0 rows b.2 in
    let n = u16_reads.found block a.0.0 a.0.1 fits a.1 in
    let r = rows_found a.0.0 a.0.1 b.0.0 b.0.1 (bytes_behind block (to_be_bytes w16 a.0.0) a.0.1 n.1 fits) b.1 in
    let long = block_parts block a.0.0 a.0.1 b.0.0 b.0.1 fits a.1 b.1 in
    let whole : block ≡ (to_be_bytes w16 a.0.0 ++ rows_spelling b.0.0) ++ b.0.1 = n.1 ∙ ap (λ l. to_be_bytes w16 a.0.0 ++ l) r.parts ∙ sym (append_assoc (to_be_bytes w16 a.0.0) (rows_spelling b.0.0) b.0.1) in
    let zeros : length block ≡ 4096 → b.0.1 ≡ replicate (4096 - block_size b.0.0) 0 = λ size. zeros_are b.0.1 z.0 ∙ ap (λ k. replicate k 0) (omega arith) in
    let made : BlockRead block b.0.0 = record {
      all = r.all;
      size = omega arith;
      bytes = λ size. whole ∙ ap (λ k. (to_be_bytes w16 k ++ rows_spelling b.0.0) ++ b.0.1) (sym r.count_is) ∙ ap (λ l. (to_be_bytes w16 (length b.0.0) ++ rows_spelling b.0.0) ++ l) (zeros size);
    } in
    subst (BlockRead block) z.1 made

pub behind_block : (block : List ℕ) (before : RowKey → Bool) (rows : List TableRow) (count : ℕ) (rest : List ℕ) → u16_at block ≡ Some (count, rest) → block_at block ≡ Some rows → behind_at count before rest ≡ Some (row_behind before rows)
behind_block block before rows count rest read is =
    let e : before_zeros (rows_at count rest) ≡ Some rows = sym (then_some (u16_at block) (count, rest) (λ x. before_zeros (rows_at x.0 x.1)) read) ∙ is in
    let a = from_both (rows_at count rest) _ rows e in
    let z = passed (are_zeros a.0.1) a.0.0 rows a.2 in
    behind_rows count before rest a.0.0 a.0.1 a.1 ∙ ap (λ r. Some (row_behind before r)) z.1

pub block_length : (rows : List TableRow) → block_size rows ≤ 4096 → length (block_spelling rows) ≡ 4096
block_length rows fits =
    omega (arith, length-append (to_be_bytes w16 (length rows) ++ rows_spelling rows) (replicate (4096 - block_size rows) 0), length-append (to_be_bytes w16 (length rows)) (rows_spelling rows), length-replicate {A = ℕ} (4096 - block_size rows) 0)
