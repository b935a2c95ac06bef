-- A table answers by one block what all its rows answer.
use Rattle.std.specs.Prelude.{IfOk, IsErrOf}
use Rattle.std.proofs.Common.{◌≡◌, ◌∙◌, sym, ap, subst, refl, ℕ, zero, suc, ◌+◌, ◌<◌, ◌≤◌, ◌*◌, true, false, cond, List, [], ◌∷◌, ◌++◌, append_assoc, length, get_or, take, drop, Option, None, Some, Result, Ok, Err, arith}
use Rattle.std.specs.declared.cmp.Ordering.{Ordering}
use Rattle.std.specs.declared.cmp.Ordering.TheVariants.{Less, Equal, Greater}
use Rattle.std.specs.List.{AllByRecursion, slice_get}
use Rattle.std.specs.List.{refill}
use Rattle.mds_out.proofs.Rooms.{lent_whole}
use Rattle.std.specs.List.Sorted.{IsPartitionedBy, IsPartitionPoint}
use Rattle.std.specs.Ordering.{is_lt, is_eq, is_le}
use Rattle.std.proofs.lemmas.List.{take_at, drop_at, drop-drop}
use Rattle.mds_base.specs.declared.row_key.RowKey.{RowKey}
use Rattle.mds_base.specs.RowKeys.{row_key_cmp}
use Rattle.mds_base.proofs.RowMaps.{row_keys_total}
use Rattle.mds_out.specs.Known.{OnTold}
use Rattle.sorted_table.specs.declared.table_row.TableRow.{TableRow}
use Rattle.sorted_table.specs.declared.table_row.Held.{Held}
use Rattle.sorted_table.specs.declared.table_row.Held.TheVariants.{Absent}
use Rattle.sorted_table.specs.declared.fault.TableFault.{TableFault}
use Rattle.sorted_table.specs.declared.fault.TableFault.TheVariants.{Device, Damaged, OutOfMemory}
use Rattle.sorted_table.specs.TableRows.{IsRow, Rises, held_of, held_in, row_from}
use Rattle.sorted_table.specs.Reading.{block_at}
use Rattle.sorted_table.specs.Blocks.{block_size, block_spelling, blocks_spelling, rows_in, IsFilled, first_keys}
use Rattle.sorted_table.specs.Answers.{IsLookAnswer, IsHeldAnswer}
use Rattle.sorted_table.specs.Looks.{bytes_at, held_first}
use Rattle.sorted_table.specs.TableFiles.{table_front, counts_spelling}
use Rattle.sorted_table.specs.Tables.{TableState, HasRows, IsSomeTable}
use Rattle.sorted_table.proofs.BlocksRead.{block_length}
use Rattle.sorted_table.proofs.Rising.{AllAbove, above_above, all_right, rises_left, rises_right}
use Rattle.sorted_table.proofs.Filling.{AreSound, are_sound, block_read}
use Rattle.md5.specs.Md5.{md5}

-- ---- bytes that were lent

pub block_lent : (seen : Option (List ℕ)) (held lent into : List ℕ) (at : ℕ) → lent ≡ held → length lent ≡ 4096 → length into ≡ length lent → OnTold seen (λ bytes. into ≡ take (length lent) (drop at bytes)) → OnTold seen (λ bytes. refill 4096 held into ≡ take 4096 (drop at bytes))
block_lent None held lent into at same size kept read = tt
block_lent (Some bytes) held lent into at same size kept read = lent_whole held into 4096 (kept ∙ ap length same) (sym size ∙ ap length same) ∙ read ∙ ap (λ n. take n (drop at bytes)) size

pub told_at : (seen : ℕ → Option (List ℕ)) (file file' : ℕ) (block block' : List ℕ) (want : List ℕ → List ℕ) → file ≡ file' → block' ≡ block → OnTold (seen file) (λ bytes. block ≡ want bytes) → OnTold (seen file') (λ bytes. block' ≡ want bytes)
told_at seen file file' block block' want files blocks read =
    let P : ℕ → Type 0 = λ f. OnTold (seen f) (λ bytes. block' ≡ want bytes) in
    let Q : List ℕ → Type 0 = λ b. OnTold (seen file) (λ bytes. b ≡ want bytes) in
    subst P files (subst Q (sym blocks) read)

-- ---- orders

pub turned : (a b : RowKey) → row_key_cmp a b ≡ Less → row_key_cmp b a ≡ Greater
turned a b less = row_keys_total.antisymm b a ∙ rw less refl

pub back : (a b : RowKey) → row_key_cmp a b ≡ Greater → row_key_cmp b a ≡ Less
back a b greater = row_keys_total.antisymm b a ∙ rw greater refl

is_greater : (r : Ordering) → is_le r ≡ false → r ≡ Greater
is_greater Less e = absurd cc
is_greater Equal e = absurd cc
is_greater Greater e = refl

-- a key below one that is not above another is below that
pub below_upto : (a b c : RowKey) → row_key_cmp a b ≡ Less → is_le (row_key_cmp b c) ≡ true → row_key_cmp a c ≡ Less
below_upto a b c less upto = go (row_key_cmp b c) refl upto
  where
    go : (r : Ordering) → row_key_cmp b c ≡ r → is_le r ≡ true → row_key_cmp a c ≡ Less
    go Less is upto = row_keys_total.trans a b c less is
    go Equal is upto =
        -- c stands to a as b does
        let turn : row_key_cmp b a ≡ row_key_cmp c a = row_keys_total.congr b c a is in
        back c a (sym turn ∙ turned a b less)
    go Greater is upto = absurd cc

-- ---- rows below and above a key

abbrev AllUnder : List TableRow → RowKey → Type 0
AllUnder rows key = AllByRecursion (λ row. row_key_cmp row.key key ≡ Less) rows

under_all : (rows : List TableRow) (first key : RowKey) → AllByRecursion (λ row. row_key_cmp row.key first ≡ Less) rows → is_le (row_key_cmp first key) ≡ true → AllUnder rows key
under_all [] first key all upto = tt
under_all (row ∷ rows) first key all upto = (below_upto row.key first key all.0 upto, under_all rows first key all.1 upto)

pub held_under : (rows more : List TableRow) (key : RowKey) → AllUnder rows key → held_in (rows ++ more) key ≡ held_in more key
held_under [] more key under = refl
held_under (row ∷ rows) more key under = ap (λ r. cond (is_eq r) (held_of row.attr) (held_in (rows ++ more) key)) under.0 ∙ held_under rows more key under.1

pub held_over : (rows : List TableRow) (key : RowKey) → AllAbove key rows → held_in rows key ≡ Absent
held_over [] key above = refl
held_over (row ∷ rows) key above = ap (λ r. cond (is_eq r) (held_of row.attr) (held_in rows key)) (turned key row.key above.0) ∙ held_over rows key above.1

held_before : (rows more : List TableRow) (key : RowKey) → AllAbove key more → held_in (rows ++ more) key ≡ held_in rows key
held_before [] more key above = held_over more key above
held_before (row ∷ rows) more key above = ap (λ h. cond (is_eq (row_key_cmp row.key key)) (held_of row.attr) h) (held_before rows more key above)

held_step : (row : TableRow) (rows : List TableRow) (key : RowKey) (r : Ordering) → row_key_cmp row.key key ≡ r → Rises (row ∷ rows) → held_first (row_from rows key) key ≡ held_in rows key → held_first (row_from (row ∷ rows) key) key ≡ held_in (row ∷ rows) key
held_step row rows key r is rise rest = go r is
  where
    from_is : (r : Ordering) → row_key_cmp row.key key ≡ r → held_first (row_from (row ∷ rows) key) key ≡ held_first (cond (is_lt r) (row_from rows key) (Some row)) key
    from_is r is = ap (λ x. held_first (cond (is_lt x) (row_from rows key) (Some row)) key) is

    first_is : (r : Ordering) → row_key_cmp row.key key ≡ r → held_first (Some row) key ≡ cond (is_eq r) (held_of row.attr) Absent
    first_is r is = ap (λ x. cond (is_eq x) (held_of row.attr) Absent) is

    in_is : (r : Ordering) → row_key_cmp row.key key ≡ r → held_in (row ∷ rows) key ≡ cond (is_eq r) (held_of row.attr) (held_in rows key)
    in_is r is = ap (λ x. cond (is_eq x) (held_of row.attr) (held_in rows key)) is

    go : (r : Ordering) → row_key_cmp row.key key ≡ r → held_first (row_from (row ∷ rows) key) key ≡ held_in (row ∷ rows) key
    go Less is = from_is Less is ∙ rest ∙ sym (in_is Less is)
    go Equal is = from_is Equal is ∙ first_is Equal is ∙ sym (in_is Equal is)
    go Greater is = from_is Greater is ∙ first_is Greater is ∙ sym (in_is Greater is ∙ held_over rows key (above_above key row.key rows (back row.key key is) rise.0))

-- what the first row that is not below the key says of it is what all rows say
pub held_from : (rows : List TableRow) (key : RowKey) → Rises rows → held_first (row_from rows key) key ≡ held_in rows key
held_from [] key rise = refl
held_from (row ∷ rows) key rise = held_step row rows key (row_key_cmp row.key key) refl rise (held_from rows key rise.1)

-- ---- the first keys

-- all rows from a first key on are above what is below it
over_first : (key : RowKey) (row : TableRow) (rows : List TableRow) → row_key_cmp key row.key ≡ Less → AllAbove row.key rows → AllAbove key (row ∷ rows)
over_first key row rows less all = (less, go rows all)
  where
    go : (later : List TableRow) → AllAbove row.key later → AllAbove key later
    go [] all = tt
    go (x ∷ later) all = (row_keys_total.trans key row.key x.key less all.0, go later all.1)

KeysUnder : List RowKey → RowKey → Type 0
KeysUnder keys key = AllByRecursion (λ first. is_le (row_key_cmp first key) ≡ true) keys

KeysOver : List RowKey → RowKey → Type 0
KeysOver keys key = AllByRecursion (λ first. is_le (row_key_cmp first key) ≡ false) keys

-- rows of blocks whose first keys are all above a key are above it
rows_over : (before : ℕ) (blocks : List (List TableRow)) (key : RowKey) → IsFilled before blocks → Rises (rows_in blocks) → KeysOver (first_keys blocks) key → AllAbove key (rows_in blocks)
unfolding KeysOver
rows_over before [] key filled rise over = tt
rows_over before ([] ∷ blocks) key filled rise over = absurd filled
rows_over before ((row ∷ rows) ∷ blocks) key filled rise over = over_first key row (rows ++ rows_in blocks) (back row.key key (is_greater (row_key_cmp row.key key) over.0)) rise.0

-- the rows of a block are below the first key of the next one
pub below_next : (row : TableRow) (rows : List TableRow) (next : TableRow) (more : List TableRow) → Rises ((row ∷ rows) ++ next ∷ more) → AllByRecursion (λ r. row_key_cmp r.key next.key ≡ Less) (row ∷ rows)
below_next row rows next more rise = (at_end rows rise.0, later rows rise.1)
  where
    at_end : (xs : List TableRow) → AllAbove row.key (xs ++ next ∷ more) → row_key_cmp row.key next.key ≡ Less
    at_end [] all = all.0
    at_end (x ∷ xs) all = at_end xs all.1

    end_of : (x : TableRow) (xs : List TableRow) → AllAbove x.key (xs ++ next ∷ more) → row_key_cmp x.key next.key ≡ Less
    end_of x [] all = all.0
    end_of x (y ∷ xs) all = end_of x xs all.1

    later : (xs : List TableRow) → Rises (xs ++ next ∷ more) → AllByRecursion (λ r. row_key_cmp r.key next.key ≡ Less) xs
    later [] rise = tt
    later (x ∷ xs) rise = (end_of x xs rise.0, later xs rise.1)

-- ---- the block of a key

-- the block of this number answers for all
record Located (blocks : List (List TableRow)) (key : RowKey) (place : ℕ) : Type 0 where
  pub block : List TableRow
  pub at : slice_get blocks place ≡ Some block
  pub rise : Rises block
  pub held : held_in (rows_in blocks) key ≡ held_in block key

located : (before : ℕ) (blocks : List (List TableRow)) (key : RowKey) (place : ℕ) → IsFilled before blocks → Rises (rows_in blocks) → KeysUnder (take (suc place) (first_keys blocks)) key → KeysOver (drop (suc place) (first_keys blocks)) key → place < length (first_keys blocks) → Located blocks key place
unfolding KeysUnder KeysOver
located before [] key place filled rise under over within = absurd (omega arith)
located before ([] ∷ blocks) key place filled rise under over within = absurd filled
located before ((row ∷ rows) ∷ blocks) key zero filled rise under over within =
    let above = rows_over (block_size (row ∷ rows)) blocks key filled.2 (rises_right (row ∷ rows) (rows_in blocks) rise) over in
    record {
      block = row ∷ rows;
      at = refl;
      rise = rises_left (row ∷ rows) (rows_in blocks) rise;
      held = held_before (row ∷ rows) (rows_in blocks) key above;
    }
located before ((row ∷ rows) ∷ []) key (suc place) filled rise under over within = absurd (omega arith)
located before ((row ∷ rows) ∷ [] ∷ blocks) key (suc place) filled rise under over within = absurd filled.2
located before ((row ∷ rows) ∷ (next ∷ nexts) ∷ blocks) key (suc place) filled rise under over within =
    let more = (next ∷ nexts) ++ rows_in blocks in
    let below = under_all (row ∷ rows) next.key key (below_next row rows next (nexts ++ rows_in blocks) rise) under.1.0 in
    let l = located (block_size (row ∷ rows)) ((next ∷ nexts) ∷ blocks) key place filled.2 (rises_right (row ∷ rows) more rise) under.1 over (omega arith) in
    record {
      block = l.block;
      at = l.at;
      rise = l.rise;
      held = held_under (row ∷ rows) more key below ∙ l.held;
    }

-- ---- the bytes of a block

pub block_bytes : (blocks : List (List TableRow)) (tail : List ℕ) (place : ℕ) (block : List TableRow) → AreSound blocks → slice_get blocks place ≡ Some block → take 4096 (drop (4096 * place) (blocks_spelling blocks ++ tail)) ≡ block_spelling block
block_bytes [] tail place block sound at = absurd cc
block_bytes (b ∷ blocks) tail zero block sound at =
    let same : b ≡ block = cc in
    let start : 4096 * 0 ≡ 0 = omega arith in
    ap (λ n. take 4096 (drop n ((block_spelling b ++ blocks_spelling blocks) ++ tail))) start
    ∙ ap (take 4096) (append_assoc (block_spelling b) (blocks_spelling blocks) tail)
    ∙ take_at (block_spelling b) (blocks_spelling blocks ++ tail) 4096 (block_length b sound.0.0) ∙ ap block_spelling same
block_bytes (b ∷ blocks) tail (suc place) block sound at =
    let further : 4096 * suc place ≡ 4096 + 4096 * place = omega arith in
    let rest = blocks_spelling blocks ++ tail in
    ap (λ n. take 4096 (drop n ((block_spelling b ++ blocks_spelling blocks) ++ tail))) further
    ∙ ap (λ l. take 4096 (drop (4096 + 4096 * place) l)) (append_assoc (block_spelling b) (blocks_spelling blocks) tail)
    ∙ ap (take 4096) (sym (drop-drop (4096 * place) 4096 (block_spelling b ++ rest)))
    ∙ ap (λ l. take 4096 (drop (4096 * place) l)) (drop_at (block_spelling b) rest 4096 (block_length b sound.0.0))
    ∙ block_bytes blocks tail place block sound.1 at

pub sound_at : (blocks : List (List TableRow)) (k : ℕ) (b : List TableRow) → AreSound blocks → slice_get blocks k ≡ Some b → (block_size b ≤ 4096) × AllByRecursion IsRow b
sound_at [] k b sound at = absurd cc
sound_at (x ∷ blocks) zero b sound at = let same : x ≡ b = cc in subst (λ (y : List TableRow). (block_size y ≤ 4096) × AllByRecursion IsRow y) same sound.0
sound_at (x ∷ blocks) (suc k) b sound at = sound_at blocks k b sound.1 at

-- ---- places

pub all_taken : (P : RowKey → Type 0) (keys : List RowKey) (n : ℕ) → ((k : ℕ) (d : RowKey) → k < n → k < length keys → P (get_or keys k d)) → AllByRecursion P (take n keys)
all_taken P [] zero all = tt
all_taken P [] (suc n) all = tt
all_taken P (key ∷ keys) zero all = tt
all_taken P (key ∷ keys) (suc n) all = (all 0 key (omega arith) (omega arith), all_taken P keys n (λ k d lt within. all (suc k) d (omega arith) (omega arith)))

pub all_dropped : (P : RowKey → Type 0) (keys : List RowKey) (n : ℕ) → ((k : ℕ) (d : RowKey) → n ≤ k → k < length keys → P (get_or keys k d)) → AllByRecursion P (drop n keys)
all_dropped P [] zero all = tt
all_dropped P [] (suc n) all = tt
all_dropped P (key ∷ keys) zero all = (all 0 key (omega arith) (omega arith), all_dropped P keys 0 (λ k d le within. all (suc k) d (omega arith) (omega arith)))
all_dropped P (key ∷ keys) (suc n) all = all_dropped P keys n (λ k d le within. all (suc k) d (omega arith) (omega arith))

-- first keys rise, so those that are not above a key come first
pub keys_above : (before : ℕ) (key : RowKey) (blocks : List (List TableRow)) → IsFilled before blocks → AllAbove key (rows_in blocks) → AllByRecursion (λ later. row_key_cmp key later ≡ Less) (first_keys blocks)
keys_above before key [] filled above = tt
keys_above before key ([] ∷ blocks) filled above = absurd filled
keys_above before key ((row ∷ rows) ∷ blocks) filled above = (above.0, keys_above (block_size (row ∷ rows)) key blocks filled.2 (all_right (λ later. row_key_cmp key later.key ≡ Less) rows (rows_in blocks) above.1))

pub at_place : (P : RowKey → Type 0) (keys : List RowKey) (k : ℕ) (d : RowKey) → k < length keys → AllByRecursion P keys → P (get_or keys k d)
at_place P [] k d within all = absurd (omega arith)
at_place P (key ∷ keys) zero d within all = all.0
at_place P (key ∷ keys) (suc k) d within all = at_place P keys k d (omega arith) all.1

pub parted : (before : ℕ) (blocks : List (List TableRow)) (key : RowKey) → IsFilled before blocks → Rises (rows_in blocks) → IsPartitionedBy (λ first. is_le (row_key_cmp first key)) (first_keys blocks)
parted before [] key filled rise i j d le within upto = absurd (omega arith)
parted before ([] ∷ blocks) key filled rise i j d le within upto = absurd filled
parted before ((row ∷ rows) ∷ blocks) key filled rise zero zero d le within upto = upto
parted before ((row ∷ rows) ∷ blocks) key filled rise zero (suc j) d le within upto =
    let all = keys_above (block_size (row ∷ rows)) row.key blocks filled.2 (all_right (λ later. row_key_cmp row.key later.key ≡ Less) rows (rows_in blocks) rise.0) in
    let less = at_place (λ later. row_key_cmp row.key later ≡ Less) (first_keys blocks) j d (omega arith) all in
    ap is_le (below_upto row.key (get_or (first_keys blocks) j d) key less upto)
parted before ((row ∷ rows) ∷ blocks) key filled rise (suc i) zero d le within upto = absurd (omega arith)
parted before ((row ∷ rows) ∷ blocks) key filled rise (suc i) (suc j) d le within upto = parted (block_size (row ∷ rows)) blocks key filled.2 (rises_right (row ∷ rows) (rows_in blocks) rise) i j d (omega arith) (omega arith) upto

-- ---- what a table answers

abbrev pub IsUpto : RowKey → List RowKey → ℕ → Type 0
IsUpto key firsts upto = IsPartitionPoint (λ first. is_le (row_key_cmp first key) ≡ true) (λ first. is_le (row_key_cmp first key) ≡ false) firsts upto

abbrev pub Parts : RowKey → List RowKey → ℕ → Type 0
Parts key firsts upto = IsPartitionedBy (λ first. is_le (row_key_cmp first key)) firsts → IsUpto key firsts upto

module _ (table : TableState) (key : RowKey) where
  point : (rows : List TableRow) (bytes : List ℕ) (upto : ℕ) → HasRows table rows bytes → Parts key table.firsts upto → IsUpto key table.firsts upto
  point rows bytes upto has parts =
      let P : List RowKey → Type 0 = IsPartitionedBy (λ first. is_le (row_key_cmp first key)) in
      parts (subst P (sym has.has.firsts) (parted 4096 has.blocks key has.has.are.filled has.has.are.rise))

  over_keys : (rows : List TableRow) (bytes : List ℕ) (upto : ℕ) (has : HasRows table rows bytes) → IsUpto key table.firsts upto → KeysOver (drop upto (first_keys has.blocks)) key
  unfolding KeysOver
  over_keys rows bytes upto has is =
      subst (λ firsts. AllByRecursion (λ first. is_le (row_key_cmp first key) ≡ false) (drop upto firsts)) has.has.firsts
      (all_dropped (λ first. is_le (row_key_cmp first key) ≡ false) table.firsts upto (λ k d le within. is.1 k d le within))

  under_keys : (rows : List TableRow) (bytes : List ℕ) (upto : ℕ) (has : HasRows table rows bytes) → IsUpto key table.firsts upto → KeysUnder (take upto (first_keys has.blocks)) key
  unfolding KeysUnder
  under_keys rows bytes upto has is =
      subst (λ firsts. AllByRecursion (λ first. is_le (row_key_cmp first key) ≡ true) (take upto firsts)) has.has.firsts
      (all_taken (λ first. is_le (row_key_cmp first key) ≡ true) table.firsts upto (λ k d lt within. is.0 k d (omega arith) lt))

  all_keys : (blocks : List (List TableRow)) → KeysOver (drop 0 (first_keys blocks)) key → KeysOver (first_keys blocks) key
  all_keys blocks over = subst (λ (l : List RowKey). KeysOver l key) (none_dropped (first_keys blocks)) over
    where
      none_dropped : (l : List RowKey) → drop 0 l ≡ l
      none_dropped [] = refl
      none_dropped (x ∷ l) = refl

  -- before the first block
  none_held : (rows : List TableRow) (bytes : List ℕ) → HasRows table rows bytes → Parts key table.firsts 0 → held_in rows key ≡ Absent
  none_held rows bytes has parts =
      let over = over_keys rows bytes 0 has (point rows bytes 0 has parts) in
      ap (λ l. held_in l key) has.rows_are ∙ held_over (rows_in has.blocks) key (rows_over 4096 has.blocks key has.has.are.filled has.has.are.rise (all_keys has.blocks over))

  -- the block of the key, as it stands in the file
  pub record Found (rows : List TableRow) (block : List ℕ) : Type 0 where
    pub there : List TableRow
    pub read : block_at block ≡ Some there
    pub held : held_first (row_from there key) key ≡ held_in rows key

  found : (rows : List TableRow) (bytes block : List ℕ) (place : ℕ) → HasRows table rows bytes → Parts key table.firsts (suc place) → suc place ≤ length table.firsts → block ≡ take 4096 (drop (4096 * place) bytes) → Found rows block
  found rows bytes block place has parts within read_is =
      let is = point rows bytes (suc place) has parts in
      let number : length table.firsts ≡ length (first_keys has.blocks) = ap length has.has.firsts in
      let l = located 4096 has.blocks key place has.has.are.filled has.has.are.rise (under_keys rows bytes (suc place) has is) (over_keys rows bytes (suc place) has is) (omega arith) in
      let sound = are_sound 4096 has.blocks has.has.are.filled has.has.are.all in
      let tail = counts_spelling has.blocks ++ md5 (table_front has.blocks) in
      let whole : bytes ≡ blocks_spelling has.blocks ++ tail = has.has.bytes_are ∙ append_assoc (blocks_spelling has.blocks) (counts_spelling has.blocks) (md5 (table_front has.blocks)) in
      let spelled : block ≡ block_spelling l.block = read_is ∙ ap (λ b. take 4096 (drop (4096 * place) b)) whole ∙ block_bytes has.blocks tail place l.block sound l.at in
      let there = sound_at has.blocks place l.block sound l.at in
      record {
        there = l.block;
        read = ap block_at spelled ∙ block_read l.block there.0 there.1;
        held = held_from l.block key l.rise ∙ sym l.held ∙ ap (λ r. held_in r key) (sym has.rows_are);
      }

  -- ---- get

  pub get_none : (seen : Option (List ℕ)) (rows : List TableRow) → Parts key table.firsts 0 → OnTold seen (HasRows table rows) → OnTold seen (λ _. Absent ≡ held_in rows key)
  get_none None rows parts has = tt
  get_none (Some bytes) rows parts has = sym (none_held rows bytes has parts)

  pub get_held : (seen : Option (List ℕ)) (block : List ℕ) (place : ℕ) (result : Result Held TableFault) → Parts key table.firsts (suc place) → suc place ≤ length table.firsts → OnTold seen (λ bytes. block ≡ take 4096 (drop (4096 * place) bytes))
      → ((there : List TableRow) → block_at block ≡ Some there → result ≡ Ok (held_first (row_from there key) key)) → IfOk result (λ held. (rows : List TableRow) → OnTold seen (HasRows table rows) → OnTold seen (λ _. held ≡ held_in rows key))
  get_held seen block place (Err e) parts within read given = tt
  get_held None block place (Ok held) parts within read given = λ rows has. tt
  get_held (Some bytes) block place (Ok held) parts within read given = λ rows has.
      let f = found rows bytes block place has parts within read in
      let same : held ≡ held_first (row_from f.there key) key = same_Ok held (held_first (row_from f.there key) key) (given f.there f.read) in
      same ∙ f.held
    where
      same_Ok : (a b : Held) → ◌≡◌ {A = Result Held TableFault} (Ok a) (Ok b) → a ≡ b
      same_Ok a b e = cc

  pub get_answer : (seen : Option (List ℕ)) (block : List ℕ) (place : ℕ) (result : Result Held TableFault) → Parts key table.firsts (suc place) → suc place ≤ length table.firsts → OnTold seen (λ bytes. block ≡ take 4096 (drop (4096 * place) bytes))
      → ((there : List TableRow) → block_at block ≡ Some there → result ≡ Ok (held_first (row_from there key) key)) → OnTold seen (IsSomeTable table) → (IsErrOf result Device → ⊥) → (IsErrOf result OutOfMemory → ⊥) → IsLookAnswer seen result
  get_answer seen block place (Ok held) parts within read given told no_fault no_memory = tt
  get_answer seen block place (Err Device) parts within read given told no_fault no_memory = tt
  get_answer seen block place (Err OutOfMemory) parts within read given told no_fault no_memory = no_memory refl
  get_answer None block place (Err (Damaged at damage)) parts within read given told no_fault no_memory = tt
  get_answer (Some bytes) block place (Err (Damaged at damage)) parts within read given told no_fault no_memory =
      let f = found told.rows bytes block place told.has parts within read in
      let never = given f.there f.read in
      absurd cc

  -- ---- the same of a block at hand

  pub held_at_hand : (block : List ℕ) (place : ℕ) (result : Result Held TableFault) → Parts key table.firsts (suc place) → suc place ≤ length table.firsts
      → ((there : List TableRow) → block_at block ≡ Some there → result ≡ Ok (held_first (row_from there key) key)) → IfOk result (λ held. (rows : List TableRow) (bytes : List ℕ) → HasRows table rows bytes → block ≡ bytes_at place bytes → held ≡ held_in rows key)
  held_at_hand block place (Err e) parts within given = tt
  held_at_hand block place (Ok held) parts within given = λ rows bytes has is. get_held (Some bytes) block place (Ok held) parts within is given rows has

  pub answer_at_hand : (block : List ℕ) (place : ℕ) (result : Result Held TableFault) → Parts key table.firsts (suc place) → suc place ≤ length table.firsts
      → ((there : List TableRow) → block_at block ≡ Some there → result ≡ Ok (held_first (row_from there key) key)) → (IsErrOf result Device → ⊥) → (IsErrOf result OutOfMemory → ⊥)
      → IsHeldAnswer ((bytes : List ℕ) → IsSomeTable table bytes → block ≡ bytes_at place bytes → ⊥) result
  answer_at_hand block place (Ok held) parts within given no_fault no_memory = tt
  answer_at_hand block place (Err Device) parts within given no_fault no_memory = no_fault refl
  answer_at_hand block place (Err OutOfMemory) parts within given no_fault no_memory = no_memory refl
  answer_at_hand block place (Err (Damaged at damage)) parts within given no_fault no_memory = λ bytes some is. get_answer (Some bytes) block place (Err (Damaged at damage)) parts within is given some no_fault no_memory
