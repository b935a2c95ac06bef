-- Cursors along their tables.
use Rattle.std.specs.Prelude.{◌⊎◌}
use Rattle.std.proofs.Common.{◌≡◌, ◌∙◌, sym, ap, subst, refl, inl, inr, ⊎_elim, ℕ, zero, suc, ◌+◌, ◌<◌, ◌≤◌, Bool, true, false, cond, List, [], ◌∷◌, ◌++◌, map, length, take, drop, get_or, set, replicate, Option, None, Some, arith}
use Rattle.std.specs.List.{AllByRecursion, slice_get}
use Rattle.std.specs.Ordering.{is_eq, is_gt}
use Rattle.std.proofs.lemmas.List.{drop_all}
use Rattle.std.proofs.lemmas.Option.{same_Some}
use Rattle.mds_base.specs.declared.row_key.RowKey.{RowKey}
use Rattle.mds_base.specs.RowKeys.{row_key_cmp}
use Rattle.mds_out.specs.Disk.{Contents}
use Rattle.mds_out.specs.Known.{OnTold}
use Rattle.sorted_table.specs.declared.table_row.TableRow.{TableRow}
use Rattle.sorted_table.specs.declared.table_row.Held.TheVariants.{Absent}
use Rattle.sorted_table.specs.Blocks.{rows_in}
use Rattle.sorted_table.specs.TableRows.{IsRow}
use Rattle.sorted_table.specs.Tables.{TableState, HasBlocks, HoldsBlocks}
use Rattle.sorted_table.proofs.Verdicts.{first_keys_length}
use Rattle.merge_rows.specs.Cursors.{CursorState, at_front, first, lesser, least, passed, cursor_passed, cursor_rows, rest_of, lefts, IsPlaced, HasNext, AllAlong, weight, weights}
use Rattle.merge_rows.specs.Merged.{newest}
use Rattle.merge_rows.specs.Telling.{Tells, AllTell}
use Rattle.merge_rows.proofs.Ordered.{self_equal}
use Rattle.merge_rows.proofs.LeastRows.{all_none, newest_none, least_one}

-- ---- places

module _ (P : CursorState → TableState → Type 0) where
  pub along_length : (cursors : List CursorState) (tables : List TableState) → AllAlong P cursors tables → length cursors ≡ length tables
  along_length [] [] all = refl
  along_length [] (table ∷ tables) all = absurd all
  along_length (cursor ∷ cursors) [] all = absurd all
  along_length (cursor ∷ cursors) (table ∷ tables) all = ap suc (along_length cursors tables all.1)

  pub along_at : (cursors : List CursorState) (tables : List TableState) (k : ℕ) (d : CursorState) (e : TableState) → k < length tables → AllAlong P cursors tables → P (get_or cursors k d) (get_or tables k e)
  along_at [] [] k d e within all = absurd (omega arith)
  along_at [] (table ∷ tables) k d e within all = absurd all
  along_at (cursor ∷ cursors) [] k d e within all = absurd all
  along_at (cursor ∷ cursors) (table ∷ tables) zero d e within all = all.0
  along_at (cursor ∷ cursors) (table ∷ tables) (suc k) d e within all = along_at cursors tables k d e (omega arith) all.1

  pub along_set : (cursors : List CursorState) (tables : List TableState) (k : ℕ) (new : CursorState) (e : TableState) → AllAlong P cursors tables → P new (get_or tables k e) → AllAlong P (set cursors k new) tables
  along_set [] [] k new e all here = tt
  along_set [] (table ∷ tables) k new e all here = absurd all
  along_set (cursor ∷ cursors) [] k new e all here = absurd all
  along_set (cursor ∷ cursors) (table ∷ tables) zero new e all here = (here, all.1)
  along_set (cursor ∷ cursors) (table ∷ tables) (suc k) new e all here = (all.0, along_set cursors tables k new e all.1 here)

  pub along_none : (cursors : List CursorState) (tables : List TableState) → AllAlong P (take 0 cursors) (take 0 tables)
  along_none [] [] = tt
  along_none [] (table ∷ tables) = tt
  along_none (cursor ∷ cursors) [] = tt
  along_none (cursor ∷ cursors) (table ∷ tables) = tt

  pub along_more : (cursors : List CursorState) (tables : List TableState) (k : ℕ) (new : CursorState) (e : TableState) → length cursors ≡ length tables → k < length tables → AllAlong P (take k cursors) (take k tables) → P new (get_or tables k e)
      → AllAlong P (take (suc k) (set cursors k new)) (take (suc k) tables)
  along_more [] [] k new e same within all here = absurd (omega arith)
  along_more [] (table ∷ tables) k new e same within all here = absurd (omega arith)
  along_more (cursor ∷ cursors) [] k new e same within all here = absurd (omega arith)
  along_more (cursor ∷ cursors) (table ∷ tables) zero new e same within all here = (here, along_none cursors tables)
  along_more (cursor ∷ cursors) (table ∷ tables) (suc k) new e same within all here = (all.0, along_more cursors tables k new e (omega arith) (omega arith) all.1 here)

  pub along_all : (cursors : List CursorState) (tables : List TableState) (k : ℕ) → length cursors ≡ length tables → length tables ≤ k → AllAlong P (take k cursors) (take k tables) → AllAlong P cursors tables
  along_all [] [] k same end all = tt
  along_all [] (table ∷ tables) k same end all = absurd (omega arith)
  along_all (cursor ∷ cursors) [] k same end all = absurd (omega arith)
  along_all (cursor ∷ cursors) (table ∷ tables) zero same end all = absurd (omega arith)
  along_all (cursor ∷ cursors) (table ∷ tables) (suc k) same end all = (all.0, along_all cursors tables k (omega arith) (omega arith) all.1)

  pub along_map : (f : CursorState → CursorState) → ((cursor : CursorState) (table : TableState) → P cursor table → P (f cursor) table) → (cursors : List CursorState) (tables : List TableState) → AllAlong P cursors tables → AllAlong P (map f cursors) tables
  along_map f keeps [] [] all = tt
  along_map f keeps [] (table ∷ tables) all = absurd all
  along_map f keeps (cursor ∷ cursors) [] all = absurd all
  along_map f keeps (cursor ∷ cursors) (table ∷ tables) all = (keeps cursor table all.0, along_map f keeps cursors tables all.1)

pub lefts_set : (seen : Contents) (cursors : List CursorState) (tables : List TableState) (blocks : List (List (List TableRow))) (k : ℕ) (new d : CursorState) (e : TableState) → AllTell HasBlocks tables seen blocks
    → ((one : List (List TableRow)) → Tells HasBlocks (get_or tables k e) seen one → rest_of new one ≡ rest_of (get_or cursors k d) one) → lefts (set cursors k new) blocks ≡ lefts cursors blocks
lefts_set seen [] tables blocks k new d e tell same = refl
lefts_set seen (cursor ∷ cursors) [] [] zero new d e tell same = refl
lefts_set seen (cursor ∷ cursors) [] [] (suc k) new d e tell same = refl
lefts_set seen (cursor ∷ cursors) [] (one ∷ blocks) k new d e tell same = absurd tell
lefts_set seen (cursor ∷ cursors) (table ∷ tables) [] k new d e tell same = absurd tell
lefts_set seen (cursor ∷ cursors) (table ∷ tables) (one ∷ blocks) zero new d e tell same = ap (λ (l : List TableRow). l ∷ lefts cursors blocks) (same one tell.0)
lefts_set seen (cursor ∷ cursors) (table ∷ tables) (one ∷ blocks) (suc k) new d e tell same = ap (λ l. rest_of cursor one ∷ l) (lefts_set seen cursors tables blocks k new d e tell.1 same)

pub weights_set : (cursors : List CursorState) (tables : List TableState) (k : ℕ) (new d : CursorState) (e : TableState) → k < length cursors → k < length tables → weight new (get_or tables k e) ≤ weight (get_or cursors k d) (get_or tables k e) → weights (set cursors k new) tables ≤ weights cursors tables
weights_set [] tables k new d e within there le = absurd (omega arith)
weights_set (cursor ∷ cursors) [] k new d e within there le = absurd (omega arith)
weights_set (cursor ∷ cursors) (table ∷ tables) zero new d e within there le = omega (arith, le)
weights_set (cursor ∷ cursors) (table ∷ tables) (suc k) new d e within there le = let rest = weights_set cursors tables k new d e (omega arith) (omega arith) le in omega (arith, rest)

-- ---- all at the front

pub replicate_last : {X : Type 0} (n : ℕ) (x : X) → replicate n x ++ x ∷ [] ≡ replicate (suc n) x
replicate_last zero x = refl
replicate_last (suc n) x = ap (λ l. x ∷ l) (replicate_last n x)

pub placed_front : (tables : List TableState) → AllAlong IsPlaced (replicate (length tables) at_front) tables
placed_front [] = tt
placed_front (table ∷ tables) = (record { within = omega arith; all = tt }, placed_front tables)

none_dropped : (blocks : List (List TableRow)) → drop 0 blocks ≡ blocks
none_dropped [] = refl
none_dropped (block ∷ blocks) = refl

pub lefts_front : (seen : Contents) (tables : List TableState) (blocks : List (List (List TableRow))) → AllTell HasBlocks tables seen blocks → lefts (replicate (length tables) at_front) blocks ≡ map rows_in blocks
lefts_front seen [] [] tell = refl
lefts_front seen [] (one ∷ blocks) tell = absurd tell
lefts_front seen (table ∷ tables) [] tell = absurd tell
lefts_front seen (table ∷ tables) (one ∷ blocks) tell =
    ap (λ (b : List (List TableRow)). rows_in b ∷ lefts (replicate (length tables) at_front) blocks) (none_dropped one) ∙ ap (λ (l : List (List TableRow)). rows_in one ∷ l) (lefts_front seen tables blocks tell.1)

-- ---- one block more

pub told_now : (seen : Option (List ℕ)) (P : List ℕ → Type 0) (bytes : List ℕ) → seen ≡ Some bytes → OnTold seen P → P bytes
told_now seen P bytes is told = let Q : Option (List ℕ) → Type 0 = λ s. OnTold s P in subst Q is told

pub told_so : (seen : Option (List ℕ)) (P : List ℕ → Type 0) (bytes : List ℕ) → seen ≡ Some bytes → P bytes → OnTold seen P
told_so seen P bytes is here = let Q : Option (List ℕ) → Type 0 = λ s. OnTold s P in subst Q (sym is) here

dropped_at : (blocks : List (List TableRow)) (k : ℕ) (block : List TableRow) → slice_get blocks k ≡ Some block → rows_in (drop k blocks) ≡ block ++ rows_in (drop (suc k) blocks)
dropped_at [] k block at = absurd cc
dropped_at (b ∷ blocks) zero block at = let same : b ≡ block = cc in ap (λ (l : List TableRow). l ++ rows_in blocks) same ∙ ap (λ (l : List (List TableRow)). block ++ rows_in l) (sym (none_dropped blocks))
dropped_at (b ∷ blocks) (suc k) block at = dropped_at blocks k block at

nothing : (rows : List TableRow) → length rows ≡ 0 → rows ≡ []
nothing [] none = refl
nothing (row ∷ rows) none = absurd (omega arith)

pub rest_filled : (cursor : CursorState) (table : TableState) (seen : Contents) (next : ℕ) (rows found : List TableRow) → ◌≡◌ {A = CursorState} (record { next = next; rows = rows }) cursor → length rows ≡ 0
    → ((blocks : List (List TableRow)) → HoldsBlocks table seen blocks → OnTold (seen table.file) (λ _. slice_get blocks next ≡ Some found))
    → (blocks : List (List TableRow)) → Tells HasBlocks table seen blocks → rest_of (record { next = next + 1; rows = found }) blocks ≡ rest_of cursor blocks
rest_filled cursor table seen next rows found is none given blocks tells =
    let at : slice_get blocks next ≡ Some found = told_now (seen table.file) (λ _. slice_get blocks next ≡ Some found) tells.bytes tells.told (given blocks (told_so (seen table.file) (HasBlocks table blocks) tells.bytes tells.told tells.has)) in
    let further : next + 1 ≡ suc next = omega arith in
    ap (λ n. found ++ rows_in (drop n blocks)) further ∙ sym (dropped_at blocks next found at) ∙ ap (λ (l : List TableRow). l ++ rows_in (drop next blocks)) (sym (nothing rows none)) ∙ ap (λ (c : CursorState). rest_of c blocks) is

-- ---- the next rows and what is left

-- nothing is left behind a cursor that has no row and no block
at_end : (cursor : CursorState) (table : TableState) (blocks : List (List TableRow)) (bytes : List ℕ) → HasBlocks table blocks bytes → cursor.next ≡ length table.firsts → rows_in (drop cursor.next blocks) ≡ []
at_end cursor table blocks bytes has end =
    let number : length table.firsts ≡ length blocks = ap length has.firsts ∙ first_keys_length 4096 blocks has.are.filled in
    ap rows_in (drop_all cursor.next blocks (omega (arith, number)))

-- the rows that were read, and those behind them
first_joined : (rows more : List TableRow) → (0 < length rows) ⊎ (more ≡ []) → first (rows ++ more) ≡ first rows
first_joined [] more (inl some) = absurd (omega arith)
first_joined [] more (inr none) = ap first none
first_joined (row ∷ rows) more next = refl

passed_joined : (key : RowKey) (rows more : List TableRow) → (0 < length rows) ⊎ (more ≡ []) → passed key rows ++ more ≡ passed key (rows ++ more)
passed_joined key [] more (inl some) = absurd (omega arith)
passed_joined key [] more (inr none) = none ∙ sym (ap (passed key) none)
passed_joined key (row ∷ rows) more next = go (is_eq (row_key_cmp row.key key))
  where
    go : (b : Bool) → cond b rows (row ∷ rows) ++ more ≡ cond b (rows ++ more) (row ∷ rows ++ more)
    go true = refl
    go false = refl

next_or : (cursor : CursorState) (table : TableState) (seen : Contents) (blocks : List (List TableRow)) → HasNext cursor table → Tells HasBlocks table seen blocks → (0 < length cursor.rows) ⊎ (rows_in (drop cursor.next blocks) ≡ [])
next_or cursor table seen blocks (inl some) tells = inl some
next_or cursor table seen blocks (inr end) tells = inr (at_end cursor table blocks tells.bytes tells.has end)

module _ (seen : Contents) where
  pub least_lefts : (cursors : List CursorState) (tables : List TableState) (blocks : List (List (List TableRow))) → AllAlong HasNext cursors tables → AllTell HasBlocks tables seen blocks → least (lefts cursors blocks) ≡ least (map cursor_rows cursors)
  least_lefts [] tables blocks next tell = refl
  least_lefts (cursor ∷ cursors) [] blocks next tell = absurd next
  least_lefts (cursor ∷ cursors) (table ∷ tables) [] next tell = absurd tell
  least_lefts (cursor ∷ cursors) (table ∷ tables) (one ∷ blocks) next tell =
      ap (λ (f : Option TableRow). lesser f (least (lefts cursors blocks))) (first_joined cursor.rows (rows_in (drop cursor.next one)) (next_or cursor table seen one next.0 tell.0))
      ∙ ap (lesser (first cursor.rows)) (least_lefts cursors tables blocks next.1 tell.1)

  pub passed_lefts : (key : RowKey) (cursors : List CursorState) (tables : List TableState) (blocks : List (List (List TableRow))) → AllAlong HasNext cursors tables → AllTell HasBlocks tables seen blocks
      → lefts (map (cursor_passed key) cursors) blocks ≡ map (passed key) (lefts cursors blocks)
  passed_lefts key [] tables blocks next tell = refl
  passed_lefts key (cursor ∷ cursors) [] blocks next tell = absurd next
  passed_lefts key (cursor ∷ cursors) (table ∷ tables) [] next tell = absurd tell
  passed_lefts key (cursor ∷ cursors) (table ∷ tables) (one ∷ blocks) next tell =
      ap (λ (l : List TableRow). l ∷ lefts (map (cursor_passed key) cursors) blocks) (passed_joined key cursor.rows (rows_in (drop cursor.next one)) (next_or cursor table seen one next.0 tell.0))
      ∙ ap (λ l. passed key (rest_of cursor one) ∷ l) (passed_lefts key cursors tables blocks next.1 tell.1)

  pub none_lefts : (cursors : List CursorState) (tables : List TableState) (blocks : List (List (List TableRow))) → AllAlong HasNext cursors tables → AllTell HasBlocks tables seen blocks → least (map cursor_rows cursors) ≡ None
      → (key : RowKey) → newest (lefts cursors blocks) key ≡ Absent
  none_lefts cursors tables blocks next tell none key = newest_none (lefts cursors blocks) key (all_none (lefts cursors blocks) (least_lefts cursors tables blocks next tell ∙ none))

-- ---- a key that was passed

all_passed : (key : RowKey) (rows : List TableRow) → AllByRecursion IsRow rows → AllByRecursion IsRow (passed key rows)
all_passed key [] all = tt
all_passed key (row ∷ rows) all = go (is_eq (row_key_cmp row.key key))
  where
    go : (b : Bool) → AllByRecursion IsRow (cond b rows (row ∷ rows))
    go true = all.1
    go false = all

pub placed_passed : (key : RowKey) (cursor : CursorState) (table : TableState) → IsPlaced cursor table → IsPlaced (cursor_passed key cursor) table
placed_passed key cursor table placed = record { within = placed.within; all = all_passed key cursor.rows placed.all }

all_rows : (cursors : List CursorState) (tables : List TableState) → AllAlong IsPlaced cursors tables → AllByRecursion (λ (rows : List TableRow). AllByRecursion IsRow rows) (map cursor_rows cursors)
all_rows [] [] placed = tt
all_rows [] (table ∷ tables) placed = absurd placed
all_rows (cursor ∷ cursors) [] placed = absurd placed
all_rows (cursor ∷ cursors) (table ∷ tables) placed = (placed.0.all, all_rows cursors tables placed.1)

pub least_row : (cursors : List CursorState) (tables : List TableState) (row : TableRow) → AllAlong IsPlaced cursors tables → least (map cursor_rows cursors) ≡ Some row → IsRow row
least_row cursors tables row placed is = least_one IsRow (map cursor_rows cursors) (all_rows cursors tables placed) row is

-- ---- fewer rows are left

fewer : (key : RowKey) (rows : List TableRow) → length (passed key rows) ≤ length rows
fewer key [] = omega arith
fewer key (row ∷ rows) = go (is_eq (row_key_cmp row.key key))
  where
    go : (b : Bool) → length (cond b rows (row ∷ rows)) ≤ length (row ∷ rows)
    go true = omega arith
    go false = omega arith

fewer_own : (row : TableRow) (rows : List TableRow) → length (passed row.key (row ∷ rows)) < length (row ∷ rows)
fewer_own row rows =
    let own : length (passed row.key (row ∷ rows)) ≡ length rows = ap (λ r. length (cond (is_eq r) rows (row ∷ rows))) (self_equal row.key) in
    omega (arith, own)

weights_fewer : (key : RowKey) (cursors : List CursorState) (tables : List TableState) → weights (map (cursor_passed key) cursors) tables ≤ weights cursors tables
weights_fewer key [] tables = omega arith
weights_fewer key (cursor ∷ cursors) [] = omega arith
weights_fewer key (cursor ∷ cursors) (table ∷ tables) = omega (arith, fewer key cursor.rows, weights_fewer key cursors tables)

lesser_either : (a b : Option TableRow) (row : TableRow) → lesser a b ≡ Some row → (a ≡ Some row) ⊎ (b ≡ Some row)
lesser_either None b row is = inr is
lesser_either (Some x) None row is = inl is
lesser_either (Some x) (Some y) row is = go (is_gt (row_key_cmp x.key y.key)) is
  where
    go : (b : Bool) → ◌≡◌ {A = Option TableRow} (cond b (Some y) (Some x)) (Some row) → (◌≡◌ {A = Option TableRow} (Some x) (Some row)) ⊎ (◌≡◌ {A = Option TableRow} (Some y) (Some row))
    go true is = inr is
    go false is = inl is

fewer_here : (rows : List TableRow) (row : TableRow) → first rows ≡ Some row → length (passed row.key rows) < length rows
fewer_here [] row is = absurd cc
fewer_here (r ∷ rows) row is = subst (λ (x : TableRow). length (passed x.key (r ∷ rows)) < length (r ∷ rows)) (same_Some r row is) (fewer_own r rows)

pub weights_less : (cursors : List CursorState) (tables : List TableState) (row : TableRow) → AllAlong IsPlaced cursors tables → least (map cursor_rows cursors) ≡ Some row → weights (map (cursor_passed row.key) cursors) tables < weights cursors tables
weights_less [] tables row placed is = absurd cc
weights_less (cursor ∷ cursors) [] row placed is = absurd placed
weights_less (cursor ∷ cursors) (table ∷ tables) row placed is =
    ⊎_elim (λ here. omega (arith, fewer_here cursor.rows row here, weights_fewer row.key cursors tables))
    (λ later. omega (arith, fewer row.key cursor.rows, weights_less cursors tables row placed.1 later))
    (lesser_either (first cursor.rows) (least (map cursor_rows cursors)) row is)
