-- What a file is, by its blocks, its counts and its sum.
use Rattle.std.proofs.Common.{◌≡◌, ◌∙◌, sym, ap, subst, refl, ℕ, zero, suc, ◌+◌, ◌-◌, ◌<◌, ◌≤◌, ◌^◌, ◌*◌, Bool, true, false, cond, nat_eq, List, [], ◌∷◌, ◌++◌, append_assoc, length, get_or, take, drop, Option, None, Some, arith, length-append, inl, inr}
use Rattle.std.specs.Int.{w32, w64, to_be_bytes, to_le_bytes}
use Rattle.std.specs.List.{AllByRecursion}
use Rattle.std.proofs.lemmas.Bool.Decides.{nat_tests}
use Rattle.std.proofs.lemmas.List.{append-nil, take_at, drop_at, nil_from_length}
use Rattle.std.proofs.lemmas.Option.{same_Some}
use Rattle.md5.specs.Md5.{md5, digest_bytes}
use Rattle.mds_base.specs.declared.row_key.RowKey.{RowKey}
use Rattle.sorted_table.specs.declared.checked.Checked.{Checked}
use Rattle.sorted_table.specs.declared.table_row.TableRow.{TableRow}
use Rattle.sorted_table.specs.Reading.{◌>>=◌, u32_at, u64_at}
use Rattle.sorted_table.specs.Blocks.{blocks_spelling, rows_in, IsFilled, first_keys, block_size}
use Rattle.sorted_table.specs.Checks.{IsChecked, IsSpelled, IsRead}
use Rattle.sorted_table.specs.TableFiles.{AreBlocks, HoldsTable, IsSumOther, IsNone, table_front, table_spelling, counts_spelling}
use Rattle.sorted_table.specs.Tables.{TableState, HasRows, IsSomeTable}
use Rattle.sorted_table.specs.Openings.{counts_at}
use Rattle.sorted_table.proofs.Readers.{IsBytes, from_both, then_some, passed, bytes_behind, u32_reads, u64_reads}
use Rattle.sorted_table.proofs.Filling.{AreSound, are_sound, blocks_length, left_of, right_of, same_blocks, Later}

-- ---- the sum

digest_length : (h : List ℕ) (n : ℕ) → length (digest_bytes h n) ≡ 4 * n
unfolding digest_bytes
digest_length h zero = refl
digest_length h (suc n) = let step = length-append (digest_bytes h n) (to_le_bytes w32 (get_or h n 0)) in omega (arith, step, digest_length h n)

pub md5_length : (m : List ℕ) → length (md5 m) ≡ 16
unfolding md5
md5_length m = digest_length _ 4

-- ---- the counts

pub counts_again : (blocks rows : ℕ) → blocks < 2 ^ 32 → rows < 2 ^ 64 → counts_at (to_be_bytes w32 blocks ++ to_be_bytes w64 rows) ≡ Some (blocks, rows)
counts_again blocks rows few few_rows =
    let rest = to_be_bytes w64 rows in
    let more : rest ≡ rest ++ [] = sym (append-nil rest) in
    then_some (u32_at (to_be_bytes w32 blocks ++ rest)) (blocks, rest) _ (u32_reads.again blocks rest few)
    ∙ then_some (u64_at rest) (rows, []) _ (ap u64_at more ∙ u64_reads.again rows [] few_rows)

pub record CountsRead (bytes : List ℕ) (blocks rows : ℕ) : Type 0 where
  pub few : blocks < 2 ^ 32
  pub few_rows : rows < 2 ^ 64
  pub is : bytes ≡ to_be_bytes w32 blocks ++ to_be_bytes w64 rows

none_left : (l : List ℕ) → nat_eq (length l) 0 ≡ true → l ≡ []
none_left [] e = refl
none_left (x ∷ l) e = let off : nat_eq (length (x ∷ l)) 0 ≡ false = grind (arith, nat_tests) in absurd (let never : ◌≡◌ {A = Bool} true false = sym e ∙ off in cc)

pub counts_found : (bytes : List ℕ) (blocks rows : ℕ) → IsBytes bytes → counts_at bytes ≡ Some (blocks, rows) → CountsRead bytes blocks rows
counts_found bytes blocks rows fits e =
    let a = from_both (u32_at bytes) _ (blocks, rows) e in
    let first = u32_reads.found bytes a.0.0 a.0.1 fits a.1 in
    let b = from_both (u64_at a.0.1) _ (blocks, rows) a.2 in
    let second = u64_reads.found a.0.1 b.0.0 b.0.1 (bytes_behind bytes (to_be_bytes w32 a.0.0) a.0.1 first.1 fits) b.1 in
    let p = passed (nat_eq (length b.0.1) 0) (a.0.0, b.0.0) (blocks, rows) b.2 in
    let rest : a.0.1 ≡ to_be_bytes w64 b.0.0 = second.1 ∙ ap (λ (l : List ℕ). to_be_bytes w64 b.0.0 ++ l) (none_left b.0.1 p.0) ∙ append-nil (to_be_bytes w64 b.0.0) in
    let made : CountsRead bytes a.0.0 b.0.0 = record { few = first.0; few_rows = second.0; is = first.1 ∙ ap (λ (l : List ℕ). to_be_bytes w32 a.0.0 ++ l) rest } in
    let P : ℕ × ℕ → Type 0 = λ x. CountsRead bytes x.0 x.1 in
    subst P p.1 made

-- ---- the first keys

pub first_keys_length : (before : ℕ) (blocks : List (List TableRow)) → IsFilled before blocks → length (first_keys blocks) ≡ length blocks
first_keys_length before [] filled = refl
first_keys_length before ([] ∷ blocks) filled = absurd filled
first_keys_length before ((row ∷ rows) ∷ blocks) filled = ap suc (first_keys_length (block_size (row ∷ rows)) blocks filled.2)

-- ---- the verdict

module _ (bytes front counts kept found : List ℕ) (is : bytes ≡ (front ++ counts) ++ kept) (found_is : found ≡ md5 (front ++ counts)) (size : length kept ≡ 16) (long : 28 ≤ length bytes) where
  before_sum : (place : ℕ) → place ≡ length (front ++ counts) → take place bytes ≡ front ++ counts
  before_sum place at = ap (take place) is ∙ take_at (front ++ counts) kept place (sym at)

  the_sum : (place : ℕ) → place ≡ length (front ++ counts) → drop place bytes ≡ kept
  the_sum place at = ap (drop place) is ∙ drop_at (front ++ counts) kept place (sym at)

  whole : length bytes ≡ length (front ++ counts) + 16
  whole = omega (arith, ap length is, length-append (front ++ counts) kept)

  -- another sum
  pub sum_other : (place : ℕ) → place ≡ length (front ++ counts) → (kept ≡ found → ⊥) → IsSumOther bytes place kept found
  sum_other place at other = record {
    long = long;
    place_is = omega (arith, whole);
    kept_is = sym (the_sum place at);
    found_is = found_is ∙ ap md5 (sym (before_sum place at));
    other = other;
  }

  -- blocks, their counts, and the sum: a table
  pub table_is : (table : TableState) (checked : Checked) → IsBytes counts → IsSpelled checked front → table.firsts ≡ checked.firsts.items → counts_at counts ≡ Some (length checked.firsts.items, checked.rows) → kept ≡ found → IsSomeTable table bytes
  table_is table checked fits spelled firsts counted same =
      let c = counts_found counts (length checked.firsts.items) checked.rows fits counted in
      let number : length checked.firsts.items ≡ length spelled.blocks = ap length spelled.kept.firsts ∙ first_keys_length 4096 spelled.blocks spelled.filled in
      let counts_are : counts ≡ counts_spelling spelled.blocks = c.is ∙ ap (λ n. to_be_bytes w32 n ++ to_be_bytes w64 checked.rows) number ∙ ap (λ n. to_be_bytes w32 (length spelled.blocks) ++ to_be_bytes w64 n) spelled.kept.rows in
      let front_is : front ++ counts ≡ table_front spelled.blocks = ap (λ l. l ++ counts) spelled.spelled ∙ ap (λ l. blocks_spelling spelled.blocks ++ l) counts_are in
      record {
        rows = rows_in spelled.blocks;
        has = record {
          blocks = spelled.blocks;
          has = record {
            are = record { filled = spelled.filled; rise = spelled.rise; all = spelled.all; few = omega (arith, c.few, number); few_rows = omega (arith, c.few_rows, spelled.kept.rows) };
            bytes_are = is ∙ ap (λ l. (front ++ counts) ++ l) (same ∙ found_is) ∙ ap (λ l. l ++ md5 l) front_is;
            firsts = firsts ∙ spelled.kept.firsts;
          };
          rows_are = refl;
        };
      }

  -- a table's file has these blocks and these counts
  pub record Parts (rows : List TableRow) : Type 0 where
    pub blocks : List (List TableRow)
    pub are : AreBlocks blocks
    pub front_is : front ≡ blocks_spelling blocks
    pub counts_are : counts ≡ counts_spelling blocks

  parts_of : (k : ℕ) → length front ≡ 4096 * k → length counts < 4096 → (rows : List TableRow) → HoldsTable rows bytes → Parts rows
  parts_of k aligned few rows h =
      let sound = are_sound 4096 h.blocks h.are.filled h.are.all in
      let both : (front ++ counts) ++ kept ≡ table_front h.blocks ++ md5 (table_front h.blocks) = sym is ∙ h.bytes in
      let lengths : length (front ++ counts) ≡ length (table_front h.blocks) = omega (arith, ap length both, length-append (front ++ counts) kept, length-append (table_front h.blocks) (md5 (table_front h.blocks)), md5_length (table_front h.blocks), size) in
      let same : front ++ counts ≡ table_front h.blocks = left_of (front ++ counts) (table_front h.blocks) kept (md5 (table_front h.blocks)) lengths both in
      let number = blocks_length h.blocks sound in
      let counted : length (counts_spelling h.blocks) ≡ 12 = refl in
      let fronts : length front ≡ length (blocks_spelling h.blocks) = aligned_same (length front) (length counts) (length (blocks_spelling h.blocks)) k (length h.blocks) aligned few number (omega (arith, ap length same, length-append front counts, length-append (blocks_spelling h.blocks) (counts_spelling h.blocks), counted)) in
      record {
        blocks = h.blocks;
        are = h.are;
        front_is = left_of front (blocks_spelling h.blocks) counts (counts_spelling h.blocks) fronts same;
        counts_are = right_of front (blocks_spelling h.blocks) counts (counts_spelling h.blocks) fronts same;
      }
    where
      aligned_same : (f c b k n : ℕ) → f ≡ 4096 * k → c < 4096 → b ≡ 4096 * n → f + c ≡ b + 12 → f ≡ b
      aligned_same f c b k n fk cl bn sum = omega arith

  none_is : (k : ℕ) → kept ≡ found → ((rows : List TableRow) → HoldsTable rows bytes → ⊥) → IsNone bytes 0
  none_is k same none =
      let place : length bytes - 16 ≡ length (front ++ counts) = omega (arith, whole) in
      record {
        long = long;
        place_is = refl;
        sealed = the_sum (length bytes - 16) place ∙ same ∙ found_is ∙ ap md5 (sym (before_sum (length bytes - 16) place));
        none = none;
      }

  -- the blocks are those of no table
  pub no_blocks : (k : ℕ) → length front ≡ 4096 * k → length counts < 4096 → IsRead None front → kept ≡ found → IsNone bytes 0
  no_blocks k aligned few none same = none_is k same (λ rows h.
      let p = parts_of k aligned few rows h in
      none [] p.blocks p.are (append-nil front ∙ p.front_is))

  -- the counts are not those of the blocks
  pub no_counts : (k : ℕ) (checked : Checked) → length front ≡ 4096 * k → length counts < 4096 → IsSpelled checked front → (counts_at counts ≡ Some (length checked.firsts.items, checked.rows) → ⊥) → kept ≡ found → IsNone bytes 0
  no_counts k checked aligned few spelled other same = none_is k same (λ rows h.
      let p = parts_of k aligned few rows h in
      let sound = are_sound 4096 p.blocks p.are.filled p.are.all in
      let first = are_sound 4096 spelled.blocks spelled.filled spelled.all in
      let l = same_blocks spelled.blocks p.blocks [] first sound (append-nil (blocks_spelling spelled.blocks) ∙ sym spelled.spelled ∙ p.front_is) in
      let blocks_are : p.blocks ≡ spelled.blocks = l.is ∙ ap (λ (b : List (List TableRow)). spelled.blocks ++ b) (nothing_later l.later l.sound l.more_is) ∙ append-nil spelled.blocks in
      let number : length checked.firsts.items ≡ length spelled.blocks = ap length spelled.kept.firsts ∙ first_keys_length 4096 spelled.blocks spelled.filled in
      let counted : counts_at counts ≡ Some (length p.blocks, length (rows_in p.blocks)) = ap counts_at p.counts_are ∙ counts_again (length p.blocks) (length (rows_in p.blocks)) p.are.few p.are.few_rows in
      other (counted ∙ ap (λ (b : List (List TableRow)). Some (length b, length (rows_in b))) blocks_are ∙ ap (λ n. Some (n, length (rows_in spelled.blocks))) (sym number) ∙ ap (λ n. Some (length checked.firsts.items, n)) (sym spelled.kept.rows)))
    where
      nothing_later : (later : List (List TableRow)) → AreSound later → [] ≡ blocks_spelling later → later ≡ []
      nothing_later [] sound e = refl
      nothing_later (b ∷ later) sound e = absurd (omega (arith, ap length e, blocks_length (b ∷ later) sound))
