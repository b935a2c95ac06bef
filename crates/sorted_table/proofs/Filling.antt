-- Blocks one after another: how they are filled, spelled and kept, and that they are read exactly.
use Rattle.std.proofs.Common.{◌≡◌, ◌∙◌, sym, ap, subst, refl, ℕ, zero, suc, ◌+◌, ◌-◌, ◌<◌, ◌≤◌, ◌^◌, ◌*◌, Bool, true, false, nat_lt, ◌&&◌, List, [], ◌∷◌, ◌++◌, append_assoc, length, take, drop, Option, None, Some, arith, length-append, add-one}
use Rattle.std.specs.List.{AllByRecursion, slice_get}
use Rattle.std.proofs.lemmas.Bool.{lt-ltb, ltb-true}
use Rattle.std.proofs.lemmas.Bool.Decides.{nat_tests}
use Rattle.std.proofs.lemmas.List.{append-nil, take_at, drop_at}
use Rattle.std.proofs.lemmas.Option.{same_Some}
use Rattle.mds_base.specs.declared.row_key.RowKey.{RowKey}
use Rattle.sorted_table.specs.declared.checked.Checked.{Checked}
use Rattle.sorted_table.specs.declared.table_row.TableRow.{TableRow}
use Rattle.sorted_table.specs.TableRows.{IsRow, Rises, row_spelling, rows_spelling}
use Rattle.sorted_table.specs.Reading.{block_at}
use Rattle.sorted_table.specs.Blocks.{block_size, block_spelling, blocks_spelling, rows_in, IsFilled, last_size, first_keys, last_key, rise_behind}
use Rattle.sorted_table.specs.Checks.{IsChecked, IsSpelled, IsRead, follows}
use Rattle.sorted_table.specs.TableFiles.{AreBlocks}
use Rattle.sorted_table.proofs.BlocksRead.{fewer_rows, block_again, block_length}
use Rattle.sorted_table.proofs.Rising.{all_left, all_right, all_joined, and_both, rises_on, rise_later, last_key-append}

-- ---- one block more

pub rows_in-append : (xs ys : List (List TableRow)) → rows_in (xs ++ ys) ≡ rows_in xs ++ rows_in ys
rows_in-append [] ys = refl
rows_in-append (x ∷ xs) ys = ap (λ (l : List TableRow). x ++ l) (rows_in-append xs ys) ∙ sym (append_assoc x (rows_in xs) (rows_in ys))

pub rows_in-push : (xs : List (List TableRow)) (block : List TableRow) → rows_in (xs ++ block ∷ []) ≡ rows_in xs ++ block
rows_in-push xs block = rows_in-append xs (block ∷ []) ∙ ap (λ (l : List TableRow). rows_in xs ++ l) (append-nil block)

pub blocks_spelling-append : (xs ys : List (List TableRow)) → blocks_spelling (xs ++ ys) ≡ blocks_spelling xs ++ blocks_spelling ys
blocks_spelling-append [] ys = refl
blocks_spelling-append (x ∷ xs) ys = ap (λ (l : List ℕ). block_spelling x ++ l) (blocks_spelling-append xs ys) ∙ sym (append_assoc (block_spelling x) (blocks_spelling xs) (blocks_spelling ys))

pub blocks_spelling-push : (xs : List (List TableRow)) (block : List TableRow) → blocks_spelling (xs ++ block ∷ []) ≡ blocks_spelling xs ++ block_spelling block
blocks_spelling-push xs block = blocks_spelling-append xs (block ∷ []) ∙ ap (λ (l : List ℕ). blocks_spelling xs ++ l) (append-nil (block_spelling block))

pub first_keys-push : (xs : List (List TableRow)) (row : TableRow) (rows : List TableRow) → first_keys (xs ++ (row ∷ rows) ∷ []) ≡ first_keys xs ++ row.key ∷ []
first_keys-push [] row rows = refl
first_keys-push ([] ∷ xs) row rows = first_keys-push xs row rows
first_keys-push ((x ∷ block) ∷ xs) row rows = ap (λ (l : List RowKey). x.key ∷ l) (first_keys-push xs row rows)

pub last_size-push : (before : ℕ) (xs : List (List TableRow)) (block : List TableRow) → last_size before (xs ++ block ∷ []) ≡ block_size block
last_size-push before [] block = refl
last_size-push before (x ∷ xs) block = last_size-push (block_size x) xs block

pub filled_left : (before : ℕ) (xs ys : List (List TableRow)) → IsFilled before (xs ++ ys) → IsFilled before xs
filled_left before [] ys filled = tt
filled_left before ([] ∷ xs) ys filled = absurd filled
filled_left before ((row ∷ rows) ∷ xs) ys filled = (filled.0, filled.1, filled_left (block_size (row ∷ rows)) xs ys filled.2)

pub filled_right : (before : ℕ) (xs ys : List (List TableRow)) → IsFilled before (xs ++ ys) → IsFilled (last_size before xs) ys
filled_right before [] ys filled = filled
filled_right before ([] ∷ xs) ys filled = absurd filled
filled_right before ((row ∷ rows) ∷ xs) ys filled = filled_right (block_size (row ∷ rows)) xs ys filled.2

pub filled_joined : (before : ℕ) (xs ys : List (List TableRow)) → IsFilled before xs → IsFilled (last_size before xs) ys → IsFilled before (xs ++ ys)
filled_joined before [] ys first second = second
filled_joined before ([] ∷ xs) ys first second = absurd first
filled_joined before ((row ∷ rows) ∷ xs) ys first second = (first.0, first.1, filled_joined (block_size (row ∷ rows)) xs ys first.2 second)

-- ---- sound blocks

-- the rows of each block fit, and have a spelling
abbrev pub AreSound : List (List TableRow) → Type 0
AreSound = AllByRecursion (λ (block : List TableRow). (block_size block ≤ 4096) × AllByRecursion IsRow block)

pub are_sound : (before : ℕ) (blocks : List (List TableRow)) → IsFilled before blocks → AllByRecursion IsRow (rows_in blocks) → AreSound blocks
are_sound before [] filled all = tt
are_sound before ([] ∷ blocks) filled all = absurd filled
are_sound before ((row ∷ rows) ∷ blocks) filled all = ((filled.1, all_left IsRow (row ∷ rows) (rows_in blocks) all), are_sound (block_size (row ∷ rows)) blocks filled.2 (all_right IsRow (row ∷ rows) (rows_in blocks) all))

pub block_read : (block : List TableRow) → block_size block ≤ 4096 → AllByRecursion IsRow block → block_at (block_spelling block) ≡ Some block
block_read block fits all = block_again block all (omega (arith, fewer_rows block))

pub blocks_length : (blocks : List (List TableRow)) → AreSound blocks → length (blocks_spelling blocks) ≡ 4096 * length blocks
blocks_length [] sound = refl
blocks_length (block ∷ blocks) sound = omega (arith, length-append (block_spelling block) (blocks_spelling blocks), block_length block sound.0.0, blocks_length blocks sound.1)

-- ---- joined bytes

pub left_of : (a b x y : List ℕ) → length a ≡ length b → a ++ x ≡ b ++ y → a ≡ b
left_of a b x y same e = sym (take_at a x (length a) refl) ∙ ap (take (length a)) e ∙ take_at b y (length a) (sym same)

pub right_of : (a b x y : List ℕ) → length a ≡ length b → a ++ x ≡ b ++ y → x ≡ y
right_of a b x y same e = sym (drop_at a x (length a) refl) ∙ ap (drop (length a)) e ∙ drop_at b y (length a) (sym same)

-- the blocks that follow those that were read
pub record Later (xs ys : List (List TableRow)) (more : List ℕ) : Type 0 where
  pub later : List (List TableRow)
  pub is : ys ≡ xs ++ later
  pub more_is : more ≡ blocks_spelling later
  pub sound : AreSound later

no_block : (x : List TableRow) (more : List ℕ) → block_size x ≤ 4096 → block_spelling x ++ more ≡ [] → ⊥
no_block x more fits e = absurd (omega (arith, ap length e, length-append (block_spelling x) more, block_length x fits))

-- Blocks are told by their bytes.
pub same_blocks : (xs ys : List (List TableRow)) (more : List ℕ) → AreSound xs → AreSound ys → blocks_spelling xs ++ more ≡ blocks_spelling ys → Later xs ys more
same_blocks [] ys more first second e = record { later = ys; is = refl; more_is = e; sound = second }
same_blocks (x ∷ xs) [] more first second e = absurd (no_block x (blocks_spelling xs ++ more) first.0.0 (sym (append_assoc (block_spelling x) (blocks_spelling xs) more) ∙ e))
same_blocks (x ∷ xs) (y ∷ ys) more first second e =
    let whole : block_spelling x ++ (blocks_spelling xs ++ more) ≡ block_spelling y ++ blocks_spelling ys = sym (append_assoc (block_spelling x) (blocks_spelling xs) more) ∙ e in
    let long : length (block_spelling x) ≡ length (block_spelling y) = block_length x first.0.0 ∙ sym (block_length y second.0.0) in
    let front = left_of (block_spelling x) (block_spelling y) (blocks_spelling xs ++ more) (blocks_spelling ys) long whole in
    let rest = right_of (block_spelling x) (block_spelling y) (blocks_spelling xs ++ more) (blocks_spelling ys) long whole in
    let same : x ≡ y = same_Some x y (sym (block_read x first.0.0 first.0.1) ∙ ap block_at front ∙ block_read y second.0.0 second.0.1) in
    let further = same_blocks xs ys more first.1 second.1 rest in
    record { later = further.later; is = ap (λ (l : List (List TableRow)). y ∷ l) further.is ∙ ap (λ (b : List TableRow). b ∷ (xs ++ further.later)) (sym same); more_is = further.more_is; sound = further.sound }

-- ---- blocks that were read

abbrev chunk_size : ℕ
chunk_size = 4096

-- these blocks and a chunk more, at the front of a table's blocks: the chunk is the next block
pub record NextIs (xs ys : List (List TableRow)) (chunk : List ℕ) : Type 0 where
  pub block : List TableRow
  pub later : List (List TableRow)
  pub is : ys ≡ xs ++ block ∷ later
  pub read : block_at chunk ≡ Some block

next_is : (xs ys : List (List TableRow)) (chunk more : List ℕ) → length chunk ≡ 4096 → AreSound xs → AreSound ys → (blocks_spelling xs ++ chunk) ++ more ≡ blocks_spelling ys → NextIs xs ys chunk
next_is xs ys chunk more long first second e =
    let l = same_blocks xs ys (chunk ++ more) first second (sym (append_assoc (blocks_spelling xs) chunk more) ∙ e) in
    go l.later l.is l.more_is l.sound
  where
    go : (later : List (List TableRow)) → ys ≡ xs ++ later → chunk ++ more ≡ blocks_spelling later → AreSound later → NextIs xs ys chunk
    go [] is more_is sound = absurd (omega (arith, ap length more_is, length-append chunk more))
    go (block ∷ later) is more_is sound =
        let same = left_of chunk (block_spelling block) more (blocks_spelling later) (long ∙ sym (block_length block sound.0.0)) more_is in
        record { block = block; later = later; is = is; read = ap block_at same ∙ block_read block sound.0.0 sound.0.1 }

module _ (checked : Checked) (bytes chunk : List ℕ) (long : length chunk ≡ 4096) (is : IsSpelled checked bytes) where
  front_is : (ys : List (List TableRow)) (more : List ℕ) → AreBlocks ys → (bytes ++ chunk) ++ more ≡ blocks_spelling ys → NextIs is.blocks ys chunk
  front_is ys more are e =
      next_is is.blocks ys chunk more long (are_sound 4096 is.blocks is.filled is.all) (are_sound 4096 ys are.filled are.all) (ap (λ l. (l ++ chunk) ++ more) (sym is.spelled) ∙ e)

  -- a chunk that is no block
  pub no_next : block_at chunk ≡ None → IsRead None (bytes ++ chunk)
  no_next none more ys are e =
      let n = front_is ys more are e in
      absurd (let never : ◌≡◌ {A = Option (List TableRow)} None (Some n.block) = sym none ∙ n.read in cc)

  follows_is : (ys : List (List TableRow)) (block : List TableRow) (later : List (List TableRow)) → AreBlocks ys → ys ≡ is.blocks ++ block ∷ later → follows checked.size checked.last checked.rows block ≡ true
  follows_is ys [] later are ys_is =
      absurd (filled_right 4096 is.blocks ([] ∷ later) (subst (IsFilled 4096) ys_is are.filled))
  follows_is ys (row ∷ rows) later are ys_is =
      let filled = filled_right 4096 is.blocks ((row ∷ rows) ∷ later) (subst (IsFilled 4096) ys_is are.filled) in
      let all_rows : rows_in ys ≡ rows_in is.blocks ++ ((row ∷ rows) ++ rows_in later) = ap rows_in ys_is ∙ rows_in-append is.blocks ((row ∷ rows) ∷ later) in
      let rise = rise_later (rows_in is.blocks) ((row ∷ rows) ++ rows_in later) (subst Rises all_rows are.rise) in
      let behind : rise_behind checked.last (row ∷ rows) ≡ true = ap (λ k. rise_behind k (row ∷ rows)) is.kept.last ∙ rise_front (last_key None (rows_in is.blocks)) (row ∷ rows) (rows_in later) rise in
      let full : nat_lt 4096 (checked.size + length (row_spelling row)) ≡ true = ap (λ n. nat_lt 4096 (n + length (row_spelling row))) is.kept.size ∙ lt-ltb _ _ filled.0 in
      let few : nat_lt (checked.rows + length (row ∷ rows)) (2 ^ 64) ≡ true = lt-ltb _ _ (omega (arith, are.few_rows, ap length all_rows, is.kept.rows, length-append (rows_in is.blocks) ((row ∷ rows) ++ rows_in later), length-append (row ∷ rows) (rows_in later))) in
      rw (full, behind, few) refl
    where
      rise_front : (before : Option RowKey) (xs ys : List TableRow) → rise_behind before (xs ++ ys) ≡ true → rise_behind before xs ≡ true
      rise_front before [] ys e = refl
      rise_front before (x ∷ xs) ys e = let both = and_both _ (rise_behind (Some x.key) (xs ++ ys)) e in rw (both.0) (rise_front (Some x.key) xs ys both.1)

  -- a block that may not follow
  pub bad_next : (block : List TableRow) → block_at chunk ≡ Some block → follows checked.size checked.last checked.rows block ≡ false → IsRead None (bytes ++ chunk)
  bad_next block read off more ys are e =
      let n = front_is ys more are e in
      let same : n.block ≡ block = same_Some _ _ (sym n.read ∙ read) in
      let on = follows_is ys n.block n.later are n.is in
      absurd (let never : ◌≡◌ {A = Bool} true false = sym on ∙ ap (follows checked.size checked.last checked.rows) same ∙ off in cc)

  -- a block that may
  pub good_next : (after : Checked) (row : TableRow) (rows : List TableRow) → AllByRecursion IsRow (row ∷ rows) → block_size (row ∷ rows) ≤ 4096 → chunk ≡ block_spelling (row ∷ rows) → follows checked.size checked.last checked.rows (row ∷ rows) ≡ true
      → IsChecked after (is.blocks ++ (row ∷ rows) ∷ []) → IsSpelled after (bytes ++ chunk)
  good_next after row rows all fits chunk_is on kept =
      let both = and_both (nat_lt 4096 (checked.size + length (row_spelling row)) && rise_behind checked.last (row ∷ rows)) (nat_lt (checked.rows + length (row ∷ rows)) (2 ^ 64)) on in
      let two = and_both (nat_lt 4096 (checked.size + length (row_spelling row))) (rise_behind checked.last (row ∷ rows)) both.0 in
      let full : 4096 < last_size 4096 is.blocks + length (row_spelling row) = omega (arith, ltb-true _ _ two.0, is.kept.size) in
      let behind : rise_behind (last_key None (rows_in is.blocks)) (row ∷ rows) ≡ true = ap (λ k. rise_behind k (row ∷ rows)) (sym is.kept.last) ∙ two.1 in
      let rows_are : rows_in is.blocks ++ (row ∷ rows) ≡ rows_in (is.blocks ++ (row ∷ rows) ∷ []) = sym (rows_in-push is.blocks (row ∷ rows)) in
      record {
        blocks = is.blocks ++ (row ∷ rows) ∷ [];
        spelled = ap (λ l. l ++ chunk) is.spelled ∙ ap (λ l. blocks_spelling is.blocks ++ l) chunk_is ∙ sym (blocks_spelling-push is.blocks (row ∷ rows));
        filled = filled_joined 4096 is.blocks ((row ∷ rows) ∷ []) is.filled (full, fits, tt);
        rise = subst Rises rows_are (rises_on (rows_in is.blocks) (row ∷ rows) is.rise behind);
        all = subst (AllByRecursion IsRow) rows_are (all_joined IsRow (rows_in is.blocks) (row ∷ rows) is.all all);
        kept = kept;
      }

  pub good_block : (after : Checked) (block : List TableRow) → AllByRecursion IsRow block → block_size block ≤ 4096 → chunk ≡ block_spelling block → follows checked.size checked.last checked.rows block ≡ true
      → IsChecked after (is.blocks ++ block ∷ []) → IsSpelled after (bytes ++ chunk)
  good_block after [] all fits chunk_is on kept = absurd cc
  good_block after (row ∷ rows) all fits chunk_is on kept = good_next after row rows all fits chunk_is on kept

-- what is no table's stays so
pub still_none : (bytes chunk : List ℕ) → IsRead None bytes → IsRead None (bytes ++ chunk)
still_none bytes chunk none more ys are e = none (chunk ++ more) ys are (sym (append_assoc bytes chunk more) ∙ e)

-- ---- what is kept

last_is : (before : Option RowKey) (rows : List TableRow) (last : TableRow) → slice_get rows (length rows - 1) ≡ Some last → last_key before rows ≡ Some last.key
last_is before [] last e = absurd cc
last_is before (row ∷ []) last e = let same : row ≡ last = cc in ap (λ (r : TableRow). Some r.key) same
last_is before (row ∷ next ∷ rows) last e =
    let place : length (row ∷ next ∷ rows) - 1 ≡ suc (length (next ∷ rows) - 1) = omega arith in
    last_is (Some row.key) (next ∷ rows) last (sym (ap (slice_get (row ∷ next ∷ rows)) place) ∙ e)

pub checked_push : (old new : Checked) (rows : List TableRow) (first last : TableRow) (blocks : List (List TableRow)) → slice_get rows 0 ≡ Some first → slice_get rows (length rows - 1) ≡ Some last → new.firsts.items ≡ old.firsts.items ++ first.key ∷ []
    → new.rows ≡ old.rows + length rows → new.last ≡ Some last.key → new.size ≡ block_size rows → IsChecked old blocks → IsChecked new (blocks ++ rows ∷ [])
checked_push old new [] first last blocks first_at last_at firsts number last_is size kept = absurd cc
checked_push old new (row ∷ rows) first last blocks first_at last_at firsts number new_last size kept =
    let same : row ≡ first = cc in
    record {
      firsts = firsts ∙ ap (λ l. l ++ first.key ∷ []) kept.firsts ∙ ap (λ (r : TableRow). first_keys blocks ++ r.key ∷ []) (sym same) ∙ sym (first_keys-push blocks row rows);
      rows = omega (arith, number, kept.rows, ap length (rows_in-push blocks (row ∷ rows)), length-append (rows_in blocks) (row ∷ rows));
      last = new_last ∙ sym (last_is (last_key None (rows_in blocks)) (row ∷ rows) last last_at) ∙ sym (last_key-append None (rows_in blocks) (row ∷ rows)) ∙ ap (last_key None) (sym (rows_in-push blocks (row ∷ rows)));
      size = size ∙ sym (last_size-push 4096 blocks (row ∷ rows));
    }
