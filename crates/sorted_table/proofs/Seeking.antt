-- A table's first key that is not before a start, by one block and the first keys.
use Rattle.std.specs.Prelude.{IfOk, MatchOption}
use Rattle.std.proofs.Common.{◌≡◌, ◌∙◌, sym, ap, subst, refl, ℕ, zero, suc, ◌≤◌, ◌*◌, Bool, true, false, cond, List, [], ◌∷◌, ◌++◌, length, get_or, take, drop, Option, None, Some, Result, Ok, Err, arith}
use Rattle.std.specs.declared.cmp.Ordering.TheVariants.{Less}
use Rattle.std.specs.List.{AllByRecursion, slice_get}
use Rattle.std.specs.List.Sorted.{IsPartitionedBy, IsPartitionPoint}
use Rattle.std.specs.Ordering.{is_lt, is_le}
use Rattle.mds_base.specs.declared.row_key.RowKey.{RowKey}
use Rattle.mds_base.specs.RowKeys.{row_key_cmp}
use Rattle.mds_base.proofs.RowMaps.{row_keys_total}
use Rattle.mds_out.specs.Known.{OnTold}
use Rattle.sorted_table.specs.declared.table_row.TableRow.{TableRow}
use Rattle.sorted_table.specs.declared.fault.TableFault.{TableFault}
use Rattle.sorted_table.specs.declared.fault.TableFault.TheVariants.{Device, Damaged, OutOfMemory}
use Rattle.sorted_table.specs.Starts.{before_at}
use Rattle.sorted_table.specs.TableRows.{Rises, row_behind, key_of}
use Rattle.sorted_table.specs.Reading.{block_at}
use Rattle.sorted_table.specs.Blocks.{block_size, rows_in, IsFilled, first_keys}
use Rattle.sorted_table.specs.Answers.{IsCopyAnswer}
use Rattle.sorted_table.specs.Looks.{IsThis, IsPlain}
use Rattle.sorted_table.specs.Tables.{TableState, HasRows, IsSomeTable}
use Rattle.sorted_table.proofs.BlockThere.{block_there}
use Rattle.sorted_table.proofs.Looking.{below_upto, below_next, all_taken, all_dropped, keys_above, at_place}
use Rattle.sorted_table.proofs.Rising.{less_is, all_right, rises_right}

-- what is below a key that passes the test passes it
abbrev pub IsDownward : (RowKey → Bool) → Type 0
IsDownward before = (a b : RowKey) → row_key_cmp a b ≡ Less → before b ≡ true → before a ≡ true

-- of what is before a start this holds
pub before_down : (place : RowKey) (past : Bool) → IsDownward (before_at place past)
before_down place false a b less before = ap is_lt (row_keys_total.trans a b place less (less_is (row_key_cmp b place) before))
before_down place true a b less before = ap is_le (below_upto a b place less before)

-- ---- rows that pass the test, and those behind them

or_else : Option TableRow → Option TableRow → Option TableRow
or_else None other = other
or_else (Some row) other = Some row

some_else : (row : TableRow) (other : Option TableRow) → key_of (or_else (Some row) other) ≡ Some row.key
unfolding or_else
some_else row other = refl

none_else : (other : Option TableRow) → key_of (or_else None other) ≡ key_of other
unfolding or_else
none_else other = refl

-- the first row of blocks
first_row : List (List TableRow) → Option TableRow
first_row [] = None
first_row ([] ∷ blocks) = first_row blocks
first_row ((row ∷ rows) ∷ blocks) = Some row

first_key_is : (size : ℕ) (blocks : List (List TableRow)) (place : ℕ) → IsFilled size blocks → key_of (first_row (drop place blocks)) ≡ slice_get (first_keys blocks) place
unfolding first_row
first_key_is size [] zero filled = refl
first_key_is size [] (suc place) filled = refl
first_key_is size ([] ∷ blocks) place filled = absurd filled
first_key_is size ((row ∷ rows) ∷ blocks) zero filled = refl
first_key_is size ((row ∷ rows) ∷ blocks) (suc place) filled = first_key_is (block_size (row ∷ rows)) blocks place filled.2

none_dropped : {X : Type 0} (l : List X) → drop 0 l ≡ l
none_dropped [] = refl
none_dropped (x ∷ l) = refl

module _ (before : RowKey → Bool) where
  abbrev Pass : List TableRow → Type 0
  Pass = AllByRecursion (λ row. before row.key ≡ true)

  abbrev KeysPass : List RowKey → Type 0
  KeysPass = AllByRecursion (λ key. before key ≡ true)

  abbrev KeysFail : List RowKey → Type 0
  KeysFail = AllByRecursion (λ key. before key ≡ false)

  behind_passed : (rows more : List TableRow) → Pass rows → row_behind before (rows ++ more) ≡ row_behind before more
  behind_passed [] more pass = refl
  behind_passed (row ∷ rows) more pass = ap (λ b. cond b (row_behind before (rows ++ more)) (Some row)) pass.0 ∙ behind_passed rows more pass.1

  behind_joined : (rows more : List TableRow) → row_behind before (rows ++ more) ≡ or_else (row_behind before rows) (row_behind before more)
  unfolding or_else
  behind_joined [] more = refl
  behind_joined (row ∷ rows) more = ap (λ r. cond (before row.key) r (Some row)) (behind_joined rows more) ∙ pull (before row.key) (row_behind before rows) (row_behind before more)
    where
      pull : (b : Bool) (x y : Option TableRow) → cond b (or_else x y) (Some row) ≡ or_else (cond b x (Some row)) y
      pull true x y = refl
      pull false x y = refl

  -- where no first key passes, the first row is behind
  behind_over : (size : ℕ) (blocks : List (List TableRow)) → IsFilled size blocks → KeysFail (first_keys blocks) → row_behind before (rows_in blocks) ≡ first_row blocks
  unfolding first_row
  behind_over size [] filled fail = refl
  behind_over size ([] ∷ blocks) filled fail = absurd filled
  behind_over size ((row ∷ rows) ∷ blocks) filled fail = ap (λ b. cond b (row_behind before (rows ++ rows_in blocks)) (Some row)) fail.0

abbrev pub IsUpto : (RowKey → Bool) → List RowKey → ℕ → Type 0
IsUpto before firsts upto = IsPartitionPoint (λ first. before first ≡ true) (λ first. before first ≡ false) firsts upto

abbrev pub Parts : (RowKey → Bool) → List RowKey → ℕ → Type 0
Parts before firsts upto = IsPartitionedBy before firsts → IsUpto before firsts upto

module _ (before : RowKey → Bool) (down : IsDownward before) where
  all_pass : (rows : List TableRow) (first : RowKey) → AllByRecursion (λ row. row_key_cmp row.key first ≡ Less) rows → before first ≡ true → Pass before rows
  all_pass [] first all passed = tt
  all_pass (row ∷ rows) first all passed = (down row.key first all.0 passed, all_pass rows first all.1 passed)

  -- first keys that pass come first
  parted : (size : ℕ) (blocks : List (List TableRow)) → IsFilled size blocks → Rises (rows_in blocks) → IsPartitionedBy before (first_keys blocks)
  parted size [] filled rise i j d le within passed = absurd (omega arith)
  parted size ([] ∷ blocks) filled rise i j d le within passed = absurd filled
  parted size ((row ∷ rows) ∷ blocks) filled rise zero zero d le within passed = passed
  parted size ((row ∷ rows) ∷ blocks) filled rise zero (suc j) d le within passed =
      let all = keys_above (block_size (row ∷ rows)) row.key blocks filled.2 (all_right (λ later. row_key_cmp row.key later.key ≡ Less) rows (rows_in blocks) rise.0) in
      let less = at_place (λ later. row_key_cmp row.key later ≡ Less) (first_keys blocks) j d (omega arith) all in
      down row.key (get_or (first_keys blocks) j d) less passed
  parted size ((row ∷ rows) ∷ blocks) filled rise (suc i) zero d le within passed = absurd (omega arith)
  parted size ((row ∷ rows) ∷ blocks) filled rise (suc i) (suc j) d le within passed = parted (block_size (row ∷ rows)) blocks filled.2 (rises_right (row ∷ rows) (rows_in blocks) rise) i j d (omega arith) (omega arith) passed

  -- the block at a place answers for all, or else the first row behind it
  located : (size : ℕ) (blocks : List (List TableRow)) (place : ℕ) (block : List TableRow) → IsFilled size blocks → Rises (rows_in blocks) → slice_get blocks place ≡ Some block → KeysPass before (take (suc place) (first_keys blocks)) → KeysFail before (drop (suc place) (first_keys blocks))
      → row_behind before (rows_in blocks) ≡ or_else (row_behind before block) (first_row (drop (suc place) blocks))
  located size [] place block filled rise at pass fail = absurd cc
  located size ([] ∷ blocks) place block filled rise at pass fail = absurd filled
  located size ((row ∷ rows) ∷ blocks) zero block filled rise at pass fail =
      let same : row ∷ rows ≡ block = cc in
      behind_joined before (row ∷ rows) (rows_in blocks)
      ∙ ap (or_else (row_behind before (row ∷ rows))) (behind_over before (block_size (row ∷ rows)) blocks filled.2 (subst (KeysFail before) (none_dropped (first_keys blocks)) fail) ∙ ap first_row (sym (none_dropped blocks)))
      ∙ ap (λ (b : List TableRow). or_else (row_behind before b) (first_row (drop 0 blocks))) same
  located size ((row ∷ rows) ∷ []) (suc place) block filled rise at pass fail = absurd cc
  located size ((row ∷ rows) ∷ [] ∷ blocks) (suc place) block filled rise at pass fail = absurd filled.2
  located size ((row ∷ rows) ∷ (next ∷ nexts) ∷ blocks) (suc place) block filled rise at pass fail =
      let more = (next ∷ nexts) ++ rows_in blocks in
      let below = all_pass (row ∷ rows) next.key (below_next row rows next (nexts ++ rows_in blocks) rise) pass.1.0 in
      behind_passed before (row ∷ rows) more below
      ∙ located (block_size (row ∷ rows)) ((next ∷ nexts) ∷ blocks) place block filled.2 (rises_right (row ∷ rows) more rise) at pass.1 fail

-- ---- what a table answers

module _ (table : TableState) (before : RowKey → Bool) (down : IsDownward before) where
  point : (rows : List TableRow) (bytes : List ℕ) (upto : ℕ) → HasRows table rows bytes → Parts before table.firsts upto → IsUpto before table.firsts upto
  point rows bytes upto has parts =
      let P : List RowKey → Type 0 = IsPartitionedBy before in
      parts (subst P (sym has.has.firsts) (parted before down 4096 has.blocks has.has.are.filled has.has.are.rise))

  keys_fail : (rows : List TableRow) (bytes : List ℕ) (upto : ℕ) (has : HasRows table rows bytes) → IsUpto before table.firsts upto → KeysFail before (drop upto (first_keys has.blocks))
  keys_fail rows bytes upto has is =
      subst (λ firsts. AllByRecursion (λ first. before first ≡ false) (drop upto firsts)) has.has.firsts
      (all_dropped (λ first. before first ≡ false) table.firsts upto (λ k d le within. is.1 k d le within))

  keys_pass : (rows : List TableRow) (bytes : List ℕ) (upto : ℕ) (has : HasRows table rows bytes) → IsUpto before table.firsts upto → KeysPass before (take upto (first_keys has.blocks))
  keys_pass rows bytes upto has is =
      subst (λ firsts. AllByRecursion (λ first. before first ≡ true) (take upto firsts)) has.has.firsts
      (all_taken (λ first. before first ≡ true) table.firsts upto (λ k d lt within. is.0 k d (omega arith) lt))

  -- the first key, where none is before
  none_before : (rows : List TableRow) (bytes : List ℕ) → HasRows table rows bytes → Parts before table.firsts 0 → key_of (row_behind before rows) ≡ slice_get table.firsts 0
  none_before rows bytes has parts =
      let fail = keys_fail rows bytes 0 has (point rows bytes 0 has parts) in
      ap (λ l. key_of (row_behind before l)) has.rows_are
      ∙ ap key_of (behind_over before 4096 has.blocks has.has.are.filled (subst (KeysFail before) (none_dropped (first_keys has.blocks)) fail))
      ∙ ap (λ (b : List (List TableRow)). key_of (first_row b)) (sym (none_dropped has.blocks)) ∙ first_key_is 4096 has.blocks 0 has.has.are.filled ∙ ap (λ l. slice_get l 0) (sym has.has.firsts)

  -- the last block that begins before, as it stands in the file
  pub record Found (rows : List TableRow) (block : List ℕ) (upto : ℕ) : Type 0 where
    pub there : List TableRow
    pub read : block_at block ≡ Some there
    pub some : (row : TableRow) → row_behind before there ≡ Some row → key_of (row_behind before rows) ≡ Some row.key
    pub none : row_behind before there ≡ None → key_of (row_behind before rows) ≡ slice_get table.firsts upto

  found : (rows : List TableRow) (bytes block : List ℕ) (place : ℕ) → HasRows table rows bytes → Parts before table.firsts (suc place) → suc place ≤ length table.firsts → block ≡ take 4096 (drop (4096 * place) bytes) → Found rows block (suc place)
  found rows bytes block place has parts within read_is =
      let is = point rows bytes (suc place) has parts in
      let t = block_there table has.blocks bytes block place has.has within read_is in
      let from = located before down 4096 has.blocks place t.rows has.has.are.filled has.has.are.rise t.at (keys_pass rows bytes (suc place) has is) (keys_fail rows bytes (suc place) has is) in
      let whole = ap (λ l. key_of (row_behind before l)) has.rows_are ∙ ap key_of from in
      let rest = first_row (drop (suc place) has.blocks) in
      record {
        there = t.rows;
        read = t.read;
        some = λ row is. whole ∙ ap (λ r. key_of (or_else r rest)) is ∙ some_else row rest;
        none = λ is. whole ∙ ap (λ r. key_of (or_else r rest)) is ∙ none_else rest ∙ first_key_is 4096 has.blocks (suc place) has.has.are.filled ∙ ap (λ k. slice_get k (suc place)) (sym has.has.firsts);
      }

  pub seek_first : (seen : Option (List ℕ)) (result : Result (Option RowKey) TableFault) → Parts before table.firsts 0 → IsThis (slice_get table.firsts 0) result → IfOk result (λ found. (rows : List TableRow) → OnTold seen (HasRows table rows) → OnTold seen (λ _. found ≡ key_of (row_behind before rows)))
  seek_first seen (Err e) parts this = tt
  seek_first None (Ok it) parts this = λ all has. tt
  seek_first (Some bytes) (Ok it) parts this = λ all has. this ∙ sym (none_before all bytes has parts)

  seek_some : (seen : Option (List ℕ)) (block : List ℕ) (place : ℕ) (found_key : RowKey) → Parts before table.firsts (suc place) → suc place ≤ length table.firsts → OnTold seen (λ bytes. block ≡ take 4096 (drop (4096 * place) bytes))
      → ((there : List TableRow) → block_at block ≡ Some there → Some found_key ≡ key_of (row_behind before there)) → (rows : List TableRow) → OnTold seen (HasRows table rows) → OnTold seen (λ _. Some found_key ≡ key_of (row_behind before rows))
  seek_some None block place found_key parts within read given rows has = tt
  seek_some (Some bytes) block place found_key parts within read given rows has =
      let f = found rows bytes block place has parts within read in
      go f.there f.some (row_behind before f.there) refl (given f.there f.read)
    where
      go : (there : List TableRow) → ((row : TableRow) → row_behind before there ≡ Some row → key_of (row_behind before rows) ≡ Some row.key) → (r : Option TableRow) → row_behind before there ≡ r → Some found_key ≡ key_of (row_behind before there) → Some found_key ≡ key_of (row_behind before rows)
      go there some None is e = let never : ◌≡◌ {A = Option RowKey} (Some found_key) None = e ∙ ap key_of is in absurd cc
      go there some (Some row) is e = e ∙ ap key_of is ∙ sym (some row is)

  seek_rest : (seen : Option (List ℕ)) (block : List ℕ) (place : ℕ) (result : Result (Option RowKey) TableFault) → Parts before table.firsts (suc place) → suc place ≤ length table.firsts → OnTold seen (λ bytes. block ≡ take 4096 (drop (4096 * place) bytes))
      → ((there : List TableRow) → block_at block ≡ Some there → None ≡ key_of (row_behind before there)) → IsThis (slice_get table.firsts (suc place)) result → IfOk result (λ found. (rows : List TableRow) → OnTold seen (HasRows table rows) → OnTold seen (λ _. found ≡ key_of (row_behind before rows)))
  seek_rest seen block place (Err e) parts within read given this = tt
  seek_rest None block place (Ok next) parts within read given this = λ rows has. tt
  seek_rest (Some bytes) block place (Ok next) parts within read given this = λ rows has.
      let f = found rows bytes block place has parts within read in
      none_left (row_behind before f.there) next (key_of (row_behind before rows)) (slice_get table.firsts (suc place)) (given f.there f.read) f.none this
    where
      none_left : (r : Option TableRow) (next whole first : Option RowKey) → None ≡ key_of r → (r ≡ None → whole ≡ first) → next ≡ first → next ≡ whole
      none_left None next whole first e none this = this ∙ sym (none refl)
      none_left (Some row) next whole first e none this = absurd cc

  pub seek_damage : (seen : Option (List ℕ)) (block : List ℕ) (place : ℕ) (result : Result (Option RowKey) TableFault) → Parts before table.firsts (suc place) → suc place ≤ length table.firsts → OnTold seen (λ bytes. block ≡ take 4096 (drop (4096 * place) bytes))
      → ((there : List TableRow) → block_at block ≡ Some there → IsThis (key_of (row_behind before there)) result) → OnTold seen (IsSomeTable table) → IsCopyAnswer seen result
  seek_damage seen block place (Ok it) parts within read given told = tt
  seek_damage seen block place (Err Device) parts within read given told = tt
  seek_damage seen block place (Err OutOfMemory) parts within read given told = tt
  seek_damage None block place (Err (Damaged at damage)) parts within read given told = tt
  seek_damage (Some bytes) block place (Err (Damaged at damage)) parts within read given told =
      let f = found told.rows bytes block place told.has parts within read in
      given f.there f.read

  pub seek_found : (seen : Option (List ℕ)) (block : List ℕ) (place : ℕ) (there_key : Option RowKey) (result : Result (Option RowKey) TableFault) → Parts before table.firsts (suc place) → suc place ≤ length table.firsts → OnTold seen (λ bytes. block ≡ take 4096 (drop (4096 * place) bytes))
      → ((there : List TableRow) → block_at block ≡ Some there → there_key ≡ key_of (row_behind before there)) → MatchOption there_key (IsThis (slice_get table.firsts (suc place)) result) (λ k. result ≡ Ok (Some k))
      → IfOk result (λ found. (rows : List TableRow) → OnTold seen (HasRows table rows) → OnTold seen (λ _. found ≡ key_of (row_behind before rows)))
  seek_found seen block place None result parts within read given this = seek_rest seen block place result parts within read given this
  seek_found seen block place (Some k) (Err e) parts within read given this = tt
  seek_found seen block place (Some k) (Ok it) parts within read given this = λ rows has.
      let same : it ≡ Some k = cc in
      let P : Option RowKey → Type 0 = λ f. OnTold seen (λ _. f ≡ key_of (row_behind before rows)) in
      subst P (sym same) (seek_some seen block place k parts within read given rows has)

pub copy_plain : (seen : Option (List ℕ)) (result : Result (Option RowKey) TableFault) → IsPlain result → IsCopyAnswer seen result
copy_plain seen (Ok it) plain = tt
copy_plain seen (Err Device) plain = tt
copy_plain seen (Err (Damaged at damage)) plain = absurd plain
copy_plain seen (Err OutOfMemory) plain = tt
