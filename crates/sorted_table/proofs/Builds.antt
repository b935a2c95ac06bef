-- What a builder writes: blocks one behind another, and what is made of them.
use Rattle.std.proofs.Common.{◌≡◌, ◌∙◌, sym, ap, subst, refl, ℕ, zero, suc, ◌+◌, ◌-◌, ◌<◌, ◌≤◌, ◌^◌, ◌*◌, max, Bool, true, false, List, [], ◌∷◌, ◌++◌, append_assoc, length, take, drop, replicate, Option, None, Some, Result, Ok, Err, OnOk, cond, arith, length-append}
use Rattle.std.specs.Prelude.{is_ok}
use Rattle.std.specs.Int.{w16, w32, w64, to_be_bytes}
use Rattle.std.specs.List.{AllByRecursion}
use Rattle.std.specs.declared.cmp.Ordering.TheVariants.{Less}
use Rattle.std.proofs.lemmas.List.{append-nil, take_all, drop_all, take_at, drop_at, length-take-le, length-replicate}
use Rattle.md5.specs.Md5.{Holds, md5}
use Rattle.mds_base.specs.declared.row_key.RowKey.{RowKey}
use Rattle.mds_base.specs.RowKeys.{row_key_cmp}
use Rattle.mds_out.specs.Disk.{Tells, Contents, Lengths, put}
use Rattle.mds_out.specs.Known.{OnTold}
use Rattle.sorted_table.specs.declared.builder.Builder.{Builder}
use Rattle.sorted_table.specs.declared.table_row.TableRow.{TableRow}
use Rattle.sorted_table.specs.TableRows.{IsRow, Rises, row_spelling, rows_spelling}
use Rattle.sorted_table.specs.Blocks.{block_size, block_spelling, blocks_spelling, rows_in, IsFilled, last_size, first_keys}
use Rattle.sorted_table.specs.TableFiles.{AreBlocks, table_front, table_spelling, counts_spelling}
use Rattle.sorted_table.specs.Tables.{TableState, HasRows, IsSomeTable, IsReady, HoldsRows}
use Rattle.sorted_table.specs.Building.{AllBelow, closed, Builds, IsBuilt, HasRoom}
use Rattle.sorted_table.proofs.BlocksRead.{fewer_rows}
use Rattle.sorted_table.proofs.Filling.{rows_in-push, blocks_spelling-push, first_keys-push, last_size-push, filled_left, filled_right, filled_joined, are_sound, blocks_length}
use Rattle.sorted_table.proofs.Rising.{all_joined}
use Rattle.sorted_table.proofs.Verdicts.{first_keys_length, md5_length}

-- ---- what writes leave

taken_none : (bytes : List ℕ) → take 0 bytes ≡ []
taken_none [] = refl
taken_none (b ∷ bytes) = refl

nothing : (before : List ℕ) → length before ≡ 0 → before ≡ []
nothing [] e = refl
nothing (b ∷ before) e = absurd (omega arith)

-- an empty file
pub cut_told : (seen seen' : Option (List ℕ)) (before : List ℕ) → Tells seen seen' (λ old new. new ≡ take 0 old) → length before ≡ 0 → OnTold seen' (λ bytes. bytes ≡ before)
cut_told None None before tells none = tt
cut_told None (Some now) before tells none = absurd tells
cut_told (Some old) None before tells none = absurd tells
cut_told (Some old) (Some now) before tells none = tells ∙ taken_none old ∙ sym (nothing before none)

put_end_is : (before bytes : List ℕ) (at : ℕ) → length before ≡ at → put before at bytes ≡ before ++ bytes
put_end_is before bytes at is =
    let front : take at before ≡ before = take_all at before (omega arith) in
    let back : drop (at + length bytes) before ≡ [] = drop_all (at + length bytes) before (omega arith) in
    ap (λ l. (l ++ bytes) ++ drop (at + length bytes) before) front ∙ ap (λ l. (before ++ bytes) ++ l) back ∙ append-nil (before ++ bytes)

pub behind_told : (seen seen' : Option (List ℕ)) (before bytes : List ℕ) (at : ℕ) → Tells seen seen' (λ old new. new ≡ put old at bytes) → length before ≡ at → OnTold seen (λ held. held ≡ before) → OnTold seen' (λ held. held ≡ before ++ bytes)
behind_told None None before bytes at tells is held = tt
behind_told None (Some now) before bytes at tells is held = absurd tells
behind_told (Some old) None before bytes at tells is held = absurd tells
behind_told (Some old) (Some now) before bytes at tells is held = tells ∙ ap (λ l. put l at bytes) held ∙ put_end_is before bytes at is

-- ---- a block

pub block_made : (present : List TableRow) (count : ℕ) (rows : List ℕ) → rows ≡ rows_spelling present → count ≡ length present → block_size present ≤ 4096
    → take 4096 (to_be_bytes w16 count ++ rows) ++ replicate (4096 - length (to_be_bytes w16 count ++ rows)) 0 ≡ block_spelling present
block_made present count rows rows_are count_is fits =
    let whole : to_be_bytes w16 count ++ rows ≡ to_be_bytes w16 (length present) ++ rows_spelling present = ap (λ n. to_be_bytes w16 n ++ rows) count_is ∙ ap (λ l. to_be_bytes w16 (length present) ++ l) rows_are in
    let size : length (to_be_bytes w16 count ++ rows) ≡ block_size present = ap length whole ∙ length-append (to_be_bytes w16 (length present)) (rows_spelling present) in
    ap (λ l. l ++ replicate (4096 - length (to_be_bytes w16 count ++ rows)) 0) (take_all 4096 (to_be_bytes w16 count ++ rows) (omega arith) ∙ whole)
    ∙ ap (λ n. (to_be_bytes w16 (length present) ++ rows_spelling present) ++ replicate (4096 - n) 0) size

some_rows : (present : List TableRow) → 0 < length (rows_spelling present) → 0 < length present
some_rows [] some = some
some_rows (row ∷ rows) some = omega arith

present_fits : (full : List (List TableRow)) (present : List TableRow) → IsFilled 4096 (closed full present) → 0 < length present → block_size present ≤ 4096
present_fits full [] filled some = absurd (omega arith)
present_fits full (row ∷ rows) filled some = (filled_right 4096 full ((row ∷ rows) ∷ []) filled).1

closed_is : (full : List (List TableRow)) (present : List TableRow) → 0 < length present → closed full present ≡ full ++ present ∷ []
closed_is full [] some = absurd (omega arith)
closed_is full (row ∷ rows) some = refl

full_filled : (full : List (List TableRow)) (present : List TableRow) → IsFilled 4096 (closed full present) → IsFilled 4096 full
full_filled full [] filled = filled
full_filled full (row ∷ rows) filled = filled_left 4096 full ((row ∷ rows) ∷ []) filled

-- ---- a new builder

pub built_none : (b : Builder) (seen : Option (List ℕ)) → b.firsts.items ≡ [] → b.rows.items ≡ [] → b.count ≡ 0 → b.written ≡ 0 → b.number ≡ 0 → Holds b.sum [] → IsBuilt b [] seen
built_none b seen firsts rows count written number sum = record {
  full = [];
  present = [];
  builds = record { rows_are = refl; filled = tt; rise = tt; all = tt; firsts = firsts; spelled = rows; count = count; written = written; number = number; sum = sum; told = λ some. absurd (omega arith) };
  no_room = λ e. omega arith;
}

-- ---- a block that was written

pub blocks_held : (b : Builder) (full : List (List TableRow)) (present rows : List TableRow) (seen : Option (List ℕ)) → Builds b full present rows seen → length (blocks_spelling full) ≡ 4096 * b.written
blocks_held b full present rows seen builds =
    let filled = full_filled full present builds.filled in
    let all = all_full (rows_in full) present (subst (AllByRecursion IsRow) builds.rows_are builds.all) in
    blocks_length full (are_sound 4096 full filled all) ∙ ap (λ n. 4096 * n) (sym builds.written)
  where
    all_full : (xs ys : List TableRow) → AllByRecursion IsRow (xs ++ ys) → AllByRecursion IsRow xs
    all_full [] ys all = tt
    all_full (x ∷ xs) ys all = (all.0, all_full xs ys all.1)

pub block_written : (old new : Builder) (full : List (List TableRow)) (present rows : List TableRow) (seen seen' : Option (List ℕ)) (block : List ℕ) → Builds old full present rows seen → 0 < length present
    → block ≡ take 4096 (to_be_bytes w16 old.count ++ old.rows.items) ++ replicate (4096 - length (to_be_bytes w16 old.count ++ old.rows.items)) 0
    → new.firsts ≡ old.firsts → new.rows.items ≡ [] → new.count ≡ 0 → new.written ≡ old.written + 1 → new.number ≡ old.number → ((m : List ℕ) → Holds old.sum m → Holds new.sum (m ++ block))
    → OnTold seen' (λ held. held ≡ blocks_spelling full ++ block) → Builds new (full ++ present ∷ []) [] rows seen'
block_written old new full present rows seen seen' block builds some block_is firsts none count written number hashed told =
    let blocks_are : closed full present ≡ full ++ present ∷ [] = closed_is full present some in
    let made : block ≡ block_spelling present = block_is ∙ block_made present old.count old.rows.items builds.spelled builds.count (present_fits full present builds.filled some) in
    let whole : blocks_spelling full ++ block ≡ blocks_spelling (full ++ present ∷ []) = ap (λ l. blocks_spelling full ++ l) made ∙ sym (blocks_spelling-push full present) in
    record {
      rows_are = builds.rows_are ∙ sym (rows_in-push full present) ∙ sym (append-nil (rows_in (full ++ present ∷ [])));
      filled = subst (IsFilled 4096) blocks_are builds.filled;
      rise = builds.rise;
      all = builds.all;
      firsts = ap (λ v. v.items) firsts ∙ builds.firsts ∙ ap first_keys blocks_are;
      spelled = none;
      count = count;
      written = omega (arith, written, builds.written, length-append full (present ∷ []));
      number = number ∙ builds.number;
      sum = subst (Holds new.sum) whole (hashed (blocks_spelling full) builds.sum);
      told = λ more. told_as seen' told whole;
    }
  where
    told_as : (seen' : Option (List ℕ)) {a b : List ℕ} → OnTold seen' (λ held. held ≡ a) → a ≡ b → OnTold seen' (λ held. held ≡ b)
    told_as None told e = tt
    told_as (Some held) told e = told ∙ e

-- ---- room for a row

pub room_there : (b : Builder) (size : ℕ) (rows : List TableRow) (seen : Option (List ℕ)) → IsBuilt b rows seen → 1 ≤ size → length b.rows.items + size ≤ 4094 → HasRoom b size rows seen
room_there b size rows seen built some fits = record {
  full = built.full;
  present = built.present;
  builds = built.builds;
  no_room = λ none. let full = built.no_room none in omega arith;
  fits = fits;
}

pub room_made : (old new : Builder) (size : ℕ) (rows : List TableRow) (seen seen' : Option (List ℕ)) (built : IsBuilt old rows seen) → size ≤ 307 → 4094 < length old.rows.items + size → length new.rows.items ≡ 0
    → (0 < length built.present → Builds new (built.full ++ built.present ∷ []) [] rows seen') → HasRoom new size rows seen'
room_made old new size rows seen seen' built small over none written =
    let long : length old.rows.items ≡ length (rows_spelling built.present) = ap length built.builds.spelled in
    record {
      full = built.full ++ built.present ∷ [];
      present = [];
      builds = written (some_rows built.present (omega arith));
      no_room = λ e. omega (arith, last_size-push 4096 built.full built.present);
      fits = omega arith;
    }

-- ---- a row more

rows_spelling-push : (rows : List TableRow) (row : TableRow) → rows_spelling (rows ++ row ∷ []) ≡ rows_spelling rows ++ row_spelling row
rows_spelling-push [] row = append-nil (row_spelling row)
rows_spelling-push (x ∷ rows) row = ap (λ l. row_spelling x ++ l) (rows_spelling-push rows row) ∙ sym (append_assoc (row_spelling x) (rows_spelling rows) (row_spelling row))

rises_push : (rows : List TableRow) (row : TableRow) → Rises rows → AllBelow rows row.key → Rises (rows ++ row ∷ [])
rises_push [] row rise below = (tt, tt)
rises_push (x ∷ rows) row rise below = (all_joined (λ later. row_key_cmp x.key later.key ≡ Less) rows (row ∷ []) rise.0 (below.0, tt), rises_push rows row rise.1 below.1)

closed_push : (full : List (List TableRow)) (present : List TableRow) (row : TableRow) → closed full (present ++ row ∷ []) ≡ full ++ (present ++ row ∷ []) ∷ []
closed_push full [] row = refl
closed_push full (x ∷ present) row = refl

filled_push : (full : List (List TableRow)) (present : List TableRow) (row : TableRow) → IsFilled 4096 (closed full present) → (present ≡ [] → 4096 < last_size 4096 full + length (row_spelling row)) → block_size (present ++ row ∷ []) ≤ 4096
    → IsFilled 4096 (closed full (present ++ row ∷ []))
filled_push full [] row filled over fits = filled_joined 4096 full ((row ∷ []) ∷ []) filled (over refl, fits, tt)
filled_push full (x ∷ present) row filled over fits =
    let last = filled_right 4096 full ((x ∷ present) ∷ []) filled in
    filled_joined 4096 full ((x ∷ present ++ row ∷ []) ∷ []) (filled_left 4096 full ((x ∷ present) ∷ []) filled) (last.0, fits, tt)

keys_push : (full : List (List TableRow)) (present : List TableRow) (row : TableRow) (old new : List RowKey) → old ≡ first_keys (closed full present) → (present ≡ [] → new ≡ old ++ row.key ∷ []) → (0 < length present → new ≡ old) → new ≡ first_keys (closed full (present ++ row ∷ []))
keys_push full [] row old new was first later = first refl ∙ ap (λ l. l ++ row.key ∷ []) was ∙ sym (first_keys-push full row [])
keys_push full (x ∷ present) row old new was first later = later (omega arith) ∙ was ∙ first_keys-push full x present ∙ sym (first_keys-push full x (present ++ row ∷ []))

pub row_added : (old new : Builder) (row : TableRow) (rows : List TableRow) (seen : Option (List ℕ)) → HasRoom old (length (row_spelling row)) rows seen → AllBelow rows row.key → IsRow row
    → (old.count ≡ 0 → new.firsts.items ≡ old.firsts.items ++ row.key ∷ []) → (0 < old.count → new.firsts.items ≡ old.firsts.items) → new.rows.items ≡ old.rows.items ++ row_spelling row
    → new.count ≡ old.count + 1 → new.written ≡ old.written → new.number ≡ old.number + 1 → new.sum ≡ old.sum → IsBuilt new (rows ++ row ∷ []) seen
row_added old new row rows seen room below is first later put_is count written number sum =
    let b = room.builds in
    let spelled : new.rows.items ≡ rows_spelling (room.present ++ row ∷ []) = put_is ∙ ap (λ l. l ++ row_spelling row) b.spelled ∙ sym (rows_spelling-push room.present row) in
    let fits : block_size (room.present ++ row ∷ []) ≤ 4096 = omega (arith, room.fits, ap length spelled, ap length put_is, length-append old.rows.items (row_spelling row)) in
    record {
      full = room.full;
      present = room.present ++ row ∷ [];
      builds = record {
        rows_are = ap (λ (l : List TableRow). l ++ row ∷ []) b.rows_are ∙ append_assoc (rows_in room.full) room.present (row ∷ []);
        filled = filled_push room.full room.present row b.filled room.no_room fits;
        rise = rises_push rows row b.rise below;
        all = all_joined IsRow rows (row ∷ []) b.all (is, tt);
        firsts = keys_push room.full room.present row old.firsts.items new.firsts.items b.firsts (λ none. first (b.count ∙ ap length none)) (λ some. later (omega (arith, b.count, some)));
        spelled = spelled;
        count = omega (arith, count, b.count, length-append room.present (row ∷ []));
        written = written ∙ b.written;
        number = omega (arith, number, b.number, length-append rows (row ∷ []));
        sum = subst (λ s. Holds s (blocks_spelling room.full)) (sym sum) b.sum;
        told = λ some. b.told (omega (arith, written, some));
      };
      no_room = λ none. absurd (omega (arith, ap length none, length-append room.present (row ∷ [])));
    }

-- ---- the end

module _ (b : Builder) (full : List (List TableRow)) (rows : List TableRow) (seen seen' : Option (List ℕ)) (builds : Builds b full [] rows seen) (few : b.written < 2 ^ 32) (few_rows : b.number < 2 ^ 64) where
  rows_same : rows ≡ rows_in full
  rows_same = builds.rows_are ∙ append-nil (rows_in full)

  are_blocks : AreBlocks full
  are_blocks = record {
    filled = builds.filled;
    rise = subst Rises rows_same builds.rise;
    all = subst (AllByRecursion IsRow) rows_same builds.all;
    few = omega (arith, builds.written);
    few_rows = omega (arith, builds.number, ap length rows_same);
  }

  -- the counts and the sum behind the blocks make the table
  pub sealed : (table : TableState) (tail : List ℕ) (sum' : List ℕ) → table.firsts ≡ b.firsts.items → tail ≡ (to_be_bytes w32 b.written ++ to_be_bytes w64 b.number) ++ sum'
      → sum' ≡ md5 (blocks_spelling full ++ (to_be_bytes w32 b.written ++ to_be_bytes w64 b.number)) → OnTold seen' (λ held. held ≡ blocks_spelling full ++ tail) → OnTold seen' (HasRows table rows)
  sealed table tail sum' firsts tail_is sum_is told = go seen' told
    where
      go : (seen' : Option (List ℕ)) → OnTold seen' (λ held. held ≡ blocks_spelling full ++ tail) → OnTold seen' (HasRows table rows)
      go None told = tt
      go (Some held) told =
          let counts = to_be_bytes w32 b.written ++ to_be_bytes w64 b.number in
          let counts_are : counts ≡ counts_spelling full = ap (λ n. to_be_bytes w32 n ++ to_be_bytes w64 b.number) builds.written ∙ ap (λ n. to_be_bytes w32 (length full) ++ to_be_bytes w64 n) (builds.number ∙ ap length rows_same) in
          record {
            blocks = full;
            has = record {
              are = are_blocks;
              bytes_are = told ∙ ap (λ l. blocks_spelling full ++ l) tail_is ∙ sym (append_assoc (blocks_spelling full) counts sum')
                  ∙ ap (λ l. (blocks_spelling full ++ counts) ++ l) sum_is ∙ ap (λ l. (blocks_spelling full ++ l) ++ md5 (blocks_spelling full ++ l)) counts_are;
              firsts = firsts ∙ builds.firsts;
            };
            rows_are = rows_same;
          }

  pub blocks_reach : (table : TableState) → table.firsts ≡ b.firsts.items → 4096 * length table.firsts ≤ 4096 * b.written
  blocks_reach table firsts = omega (arith, ap length firsts, ap length builds.firsts, first_keys_length 4096 full builds.filled, builds.written)

pub ready_of : (table : TableState) (rows : List TableRow) (seen : Contents) (sizes : Lengths) (size : ℕ) → sizes table.file ≡ Some size → size < 2 ^ 63 → 4096 * length table.firsts ≤ size → OnTold (seen table.file) (HasRows table rows) → IsReady table seen sizes
ready_of table rows seen sizes size known short reaches has = record { size = size; known = known; short = short; reaches = reaches; told = some (seen table.file) has }
  where
    some : (held : Option (List ℕ)) → OnTold held (HasRows table rows) → OnTold held (IsSomeTable table)
    some None has = tt
    some (Some bytes) has = record { rows = rows; has = has }

-- ---- the present block, written where it has rows

pub last_none : (b : Builder) (full : List (List TableRow)) (present rows : List TableRow) (seen : Option (List ℕ)) → Builds b full present rows seen → b.count ≡ 0 → Builds b (closed full present) [] rows seen
last_none b full [] rows seen builds none = builds
last_none b full (row ∷ present) rows seen builds none = absurd (omega (arith, builds.count))

pub last_some : (old new : Builder) (full : List (List TableRow)) (present rows : List TableRow) (seen seen' : Option (List ℕ)) → Builds old full present rows seen → 0 < old.count → (0 < length present → Builds new (full ++ present ∷ []) [] rows seen') → Builds new (closed full present) [] rows seen'
last_some old new full present rows seen seen' builds some written =
    let here : 0 < length present = omega (arith, builds.count) in
    subst (λ (blocks : List (List TableRow)). Builds new blocks [] rows seen') (sym (closed_is full present here)) (written here)

pub on_ok_two : {T E A B P : Type 0} (r : Result T E) → (A → B → P) → OnOk r A → OnOk r B → OnOk r P
on_ok_two (Ok x) f a b = f a b
on_ok_two (Err e) f a b = tt

pub filled_as : {T E : Type 0} (r : Result T E) (new old items : List ℕ) (len : ℕ) → new ≡ cond (is_ok r) (take 4096 old ++ replicate (4096 - len) 0) old → old ≡ items → len ≡ length items → OnOk r (new ≡ take 4096 items ++ replicate (4096 - length items) 0)
filled_as (Ok x) new old items len is same count = is ∙ ap (λ l. take 4096 l ++ replicate (4096 - len) 0) same ∙ ap (λ n. take 4096 items ++ replicate (4096 - n) 0) count
filled_as (Err e) new old items len is same count = tt
