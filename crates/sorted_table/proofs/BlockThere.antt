-- The block of a table at a place, as it stands in the file.
use Rattle.std.specs.Prelude.{IfOk}
use Rattle.std.proofs.Common.{◌≡◌, ◌∙◌, sym, ap, subst, refl, ℕ, zero, suc, ◌+◌, ◌<◌, ◌≤◌, ◌*◌, List, [], ◌∷◌, ◌++◌, append_assoc, length, take, drop, Option, None, Some, Result, Ok, Err, arith}
use Rattle.std.specs.List.{AllByRecursion, slice_get}
use Rattle.std.proofs.lemmas.Option.{same_Some}
use Rattle.md5.specs.Md5.{md5}
use Rattle.mds_out.specs.Known.{OnTold}
use Rattle.sorted_table.specs.declared.fault.TableFault.{TableFault}
use Rattle.sorted_table.specs.declared.fault.TableFault.TheVariants.{Device, Damaged, OutOfMemory}
use Rattle.sorted_table.specs.declared.table_row.TableRow.{TableRow}
use Rattle.sorted_table.specs.Answers.{IsCopyAnswer}
use Rattle.sorted_table.specs.Looks.{IsPlain}
use Rattle.sorted_table.specs.Reading.{block_at}
use Rattle.sorted_table.specs.Blocks.{block_size, block_spelling, blocks_spelling, IsFilled, first_keys}
use Rattle.sorted_table.specs.TableFiles.{table_front, counts_spelling}
use Rattle.sorted_table.specs.Tables.{TableState, HasBlocks, IsSomeTable}
use Rattle.sorted_table.proofs.Filling.{AreSound, are_sound, block_read}
use Rattle.sorted_table.proofs.Looking.{block_bytes, sound_at}
use Rattle.sorted_table.proofs.Verdicts.{first_keys_length}

-- the bytes spell the block at this place, which has a row
pub record IsThere (blocks : List (List TableRow)) (bytes : List ℕ) (place : ℕ) : Type 0 where
  pub rows : List TableRow
  pub at : slice_get blocks place ≡ Some rows
  pub read : block_at bytes ≡ Some rows
  pub some : 0 < length rows

record At (blocks : List (List TableRow)) (place : ℕ) : Type 0 where
  pub rows : List TableRow
  pub at : slice_get blocks place ≡ Some rows
  pub some : 0 < length rows

at_place : (before : ℕ) (blocks : List (List TableRow)) (place : ℕ) → IsFilled before blocks → place < length blocks → At blocks place
at_place before [] place filled within = absurd (omega arith)
at_place before ([] ∷ blocks) place filled within = absurd filled
at_place before ((row ∷ rows) ∷ blocks) zero filled within = record { rows = row ∷ rows; at = refl; some = omega arith }
at_place before ((row ∷ rows) ∷ blocks) (suc place) filled within = let a = at_place (block_size (row ∷ rows)) blocks place filled.2 (omega arith) in record { rows = a.rows; at = a.at; some = a.some }

module _ (table : TableState) where
  pub block_there : (blocks : List (List TableRow)) (bytes block : List ℕ) (place : ℕ) → HasBlocks table blocks bytes → place < length table.firsts → block ≡ take 4096 (drop (4096 * place) bytes) → IsThere blocks block place
  block_there blocks bytes block place has within read_is =
      let number : length table.firsts ≡ length blocks = ap length has.firsts ∙ first_keys_length 4096 blocks has.are.filled in
      let a = at_place 4096 blocks place has.are.filled (omega (arith, number)) in
      let sound = are_sound 4096 blocks has.are.filled has.are.all in
      let tail = counts_spelling blocks ++ md5 (table_front blocks) in
      let whole : bytes ≡ blocks_spelling blocks ++ tail = has.bytes_are ∙ append_assoc (blocks_spelling blocks) (counts_spelling blocks) (md5 (table_front blocks)) in
      let spelled : block ≡ block_spelling a.rows = read_is ∙ ap (λ b. take 4096 (drop (4096 * place) b)) whole ∙ block_bytes blocks tail place a.rows sound a.at in
      let fits = sound_at blocks place a.rows sound a.at in
      record { rows = a.rows; at = a.at; read = ap block_at spelled ∙ block_read a.rows fits.0 fits.1; some = a.some }

  pub block_rows_are : (seen : Option (List ℕ)) (block : List ℕ) (place : ℕ) (found : List TableRow) → place < length table.firsts → OnTold seen (λ bytes. block ≡ take 4096 (drop (4096 * place) bytes)) → block_at block ≡ Some found
      → (blocks : List (List TableRow)) → OnTold seen (HasBlocks table blocks) → OnTold seen (λ _. slice_get blocks place ≡ Some found)
  block_rows_are None block place found within read found_is blocks has = tt
  block_rows_are (Some bytes) block place found within read found_is blocks has =
      let t = block_there blocks bytes block place has within read in
      t.at ∙ sym t.read ∙ found_is

  -- a disk that tells the table is not found to be damaged
  pub block_answer : {T : Type 0} (seen : Option (List ℕ)) (block : List ℕ) (place : ℕ) (result : Result T TableFault) → place < length table.firsts → OnTold seen (λ bytes. block ≡ take 4096 (drop (4096 * place) bytes))
      → OnTold seen (IsSomeTable table) → ((there : List TableRow) → block_at block ≡ Some there → 0 < length there → IsPlain result) → IsCopyAnswer seen result
  block_answer seen block place (Ok found) within read told plain = tt
  block_answer seen block place (Err Device) within read told plain = tt
  block_answer seen block place (Err OutOfMemory) within read told plain = tt
  block_answer None block place (Err (Damaged at damage)) within read told plain = tt
  block_answer (Some bytes) block place (Err (Damaged at damage)) within read told plain =
      let t = block_there told.has.blocks bytes block place told.has.has within read in
      plain t.rows t.read t.some
