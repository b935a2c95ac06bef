-- What is spelled is read.
use Rattle.std.proofs.Common.{◌≡◌, refl, sym, ap, ◌∙◌, ℕ, zero, suc, ◌+◌, ◌-◌, ◌*◌, ◌<◌, ◌≤◌, ◌^◌, List, [], ◌∷◌, ◌++◌, length, take, drop, get_or, Bool, true, false, nat_eq, nat_lt, nat_le, not, ◌&&◌, arith, append_assoc, length-append}
use Rattle.std.specs.Prelude.{slice_index, slice_range, ◌==◌, if◌then◌else◌}
use Rattle.std.specs.Int.{to_be_bytes, w32, w64}
use Rattle.std.specs.Cmp.Lexicographic.{pointwise}
use Rattle.std.proofs.lemmas.Bool.{and_parts}
use Rattle.std.proofs.lemmas.Bool.Decides.{nat_tests}
use Rattle.std.proofs.lemmas.Cmp.{nat_list_eq_equiv}
use Rattle.std.proofs.lemmas.List.{take_at, drop_at, take_all, length-drop, append-nil}
use Rattle.byteorder.specs.Endian.{big_number}
use Rattle.byteorder.specs.Numbers.{big_number-reads_back}
use Rattle.md5.specs.Md5.{md5}
use Rattle.root_slots.specs.declared.root.Root.{Root}
use Rattle.root_slots.specs.declared.content.Content.TheVariants.{Open, Bad}
use Rattle.root_slots.specs.declared.content.Flaw.TheVariants.{Count, Range, WrongSum}
use Rattle.root_slots.specs.Root.{is_fresh, are_apart, is_root}
use Rattle.root_slots.specs.Slot.{listed, summed, spelling, tables_in, sum_place, root_read, root_content, summed_content, open_content}

-- ---- tables

pub tables_more : (count : ℕ) (bytes : List ℕ) → 0 < count → tables_in count bytes ≡ big_number 4 bytes ∷ tables_in (count - 1) (drop 4 bytes)
tables_more zero bytes some = absurd (omega arith)
tables_more (suc count) bytes some =
    let one : count ≡ suc count - 1 = omega arith in
    ap (λ n. big_number 4 bytes ∷ tables_in n (drop 4 bytes)) one

-- a table more was read
pub table_read : (count k : ℕ) (read rest all : List ℕ) → k < count → read ++ tables_in (count - k) rest ≡ all → (read ++ big_number 4 rest ∷ []) ++ tables_in (count - (k + 1)) (drop 4 rest) ≡ all
table_read count k read rest all more so_far =
    let left : count - k - 1 ≡ count - (k + 1) = omega arith in
    append_assoc read (big_number 4 rest ∷ []) (tables_in (count - (k + 1)) (drop 4 rest))
    ∙ ap (λ n. read ++ big_number 4 rest ∷ tables_in n (drop 4 rest)) (sym left)
    ∙ ap (λ l. read ++ l) (sym (tables_more (count - k) rest (omega arith))) ∙ so_far

-- the same as a loop goes on, which cuts its rest
pub table_step : (count k number : ℕ) (read rest all pushed : List ℕ) → k < count → read ++ tables_in (count - k) rest ≡ all → length rest ≡ 4 * (count - k) → number ≡ big_number 4 rest → pushed ≡ read ++ number ∷ []
    → (pushed ++ tables_in (count - (k + 1)) (take (length rest - 4) (drop 4 rest)) ≡ all) × (length (take (length rest - 4) (drop 4 rest)) ≡ 4 * (count - (k + 1)))
table_step count k number read rest all pushed more so_far long is push =
    let cut : take (length rest - 4) (drop 4 rest) ≡ drop 4 rest = take_all (length rest - 4) (drop 4 rest) (omega (arith, length-drop 4 rest)) in (
      ap (λ l. pushed ++ tables_in (count - (k + 1)) l) cut ∙ ap (λ l. l ++ tables_in (count - (k + 1)) (drop 4 rest)) (push ∙ ap (λ n. read ++ n ∷ []) is)
          ∙ table_read count k read rest all more so_far,
      omega (arith, ap length cut, length-drop 4 rest),
    )

-- all were read
pub tables_read : (count k : ℕ) (read rest all : List ℕ) → count ≤ k → read ++ tables_in (count - k) rest ≡ all → read ≡ all
tables_read count k read rest all done so_far =
    let none : 0 ≡ count - k = omega arith in
    sym (append-nil read) ∙ ap (λ n. read ++ tables_in n rest) none ∙ so_far

pub listed_drop : (tables : List ℕ) (place d : ℕ) → place < length tables → listed (drop place tables) ≡ to_be_bytes w32 (get_or tables place d) ++ listed (drop (place + 1) tables)
listed_drop [] place d within = absurd (omega arith)
listed_drop (table ∷ tables) zero d within = refl
listed_drop (table ∷ tables) (suc place) d within =
    let next : suc (place + 1) ≡ suc place + 1 = omega arith in
    listed_drop tables place d (omega arith) ∙ ap (λ n. to_be_bytes w32 (get_or tables place d) ++ listed (drop n (table ∷ tables))) next

pub length-listed : (tables : List ℕ) → length (listed tables) ≡ 4 * length tables
length-listed [] = refl
length-listed (table ∷ tables) = omega (arith, length-append (to_be_bytes w32 table) (listed tables), length-listed tables)

tables_back : (tables : List ℕ) → ((k : ℕ) → slice_index tables k < 2 ^ 32) → tables_in (length tables) (listed tables) ≡ tables
tables_back [] fit = refl
tables_back (table ∷ tables) fit =
    ap (λ n. n ∷ tables_in (length tables) (listed tables)) (big_number-reads_back 4 table (listed tables) (fit 0))
    ∙ ap (λ l. table ∷ l) (tables_back tables (λ k. fit (suc k)))

-- ---- a root

pub few_tables : (root : Root) → is_root root ≡ true → length root.tables ≤ 64
few_tables root is =
    let a = not (root.number == 0) in
    let b = nat_le (length root.tables) 64 in
    let c = is_fresh root.state root.tables in
    let d = is_fresh root.log_file root.tables in
    let e = not (root.state == root.log_file) in
    let to_e = (and_parts (a && b && c && d && e) (are_apart root.tables) is).0 in
    let to_d = (and_parts (a && b && c && d) e to_e).0 in
    let to_c = (and_parts (a && b && c) d to_d).0 in
    let to_b = (and_parts (a && b) c to_c).0 in
    let few : nat_le (length root.tables) 64 ≡ true = (and_parts a b to_b).1 in
    grind (arith, nat_tests)

pub length-summed : (root : Root) → length (summed root) ≡ 17 + 4 * length root.tables
length-summed root =
    omega (arith, length-append (to_be_bytes w64 root.number ++ to_be_bytes w32 root.state ++ to_be_bytes w32 root.log_file ++ length root.tables ∷ []) (listed root.tables), length-listed root.tables)

-- the sizes of what a root's slot holds fit
pub record Fits (root : Root) : Type 0 where
  pub number : root.number < 2 ^ 64
  pub state : root.state < 2 ^ 32
  pub log_file : root.log_file < 2 ^ 32
  pub tables : (k : ℕ) → slice_index root.tables k < 2 ^ 32
  pub sum : length (md5 (summed root)) ≡ 16
  pub is : is_root root ≡ true

module _ (root : Root) (fits : Fits root) (tail : List ℕ) where
  bytes : List ℕ
  bytes = spelling root ++ tail

  place : ℕ
  place = 17 + 4 * length root.tables

  split : bytes ≡ summed root ++ (md5 (summed root) ++ tail)
  unfolding bytes
  split = append_assoc (summed root) (md5 (summed root)) tail

  before : take place bytes ≡ summed root
  unfolding place
  before = ap (take place) split ∙ take_at (summed root) (md5 (summed root) ++ tail) place (length-summed root)

  kept : slice_range bytes place (place + 16) ≡ md5 (summed root)
  unfolding place
  kept =
      let width : length (md5 (summed root)) ≡ place + 16 - place = omega (arith, fits.sum) in
      ap (λ l. take (place + 16 - place) (drop place l)) split
      ∙ ap (take (place + 16 - place)) (drop_at (summed root) (md5 (summed root) ++ tail) place (length-summed root))
      ∙ take_at (md5 (summed root)) tail (place + 16 - place) width

  tables_kept : slice_range bytes 17 place ≡ listed root.tables
  unfolding place bytes
  tables_kept =
      let width : length (listed root.tables) ≡ place - 17 = omega (arith, length-listed root.tables) in
      ap (take (place - 17)) (append_assoc (listed root.tables) (md5 (summed root)) tail) ∙ take_at (listed root.tables) (md5 (summed root) ++ tail) (place - 17) width

  root_back : root_read bytes ≡ root
  unfolding place bytes
  root_back =
      ap (λ n. record { number = n; state = big_number 4 (slice_range bytes 8 12); log_file = big_number 4 (slice_range bytes 12 16); tables = tables_in (slice_index bytes 16) (slice_range bytes 17 (sum_place bytes)) })
      (big_number-reads_back 8 root.number [] fits.number)
      ∙ ap (λ n. record { number = root.number; state = n; log_file = big_number 4 (slice_range bytes 12 16); tables = tables_in (slice_index bytes 16) (slice_range bytes 17 (sum_place bytes)) })
      (big_number-reads_back 4 root.state [] fits.state)
      ∙ ap (λ n. record { number = root.number; state = root.state; log_file = n; tables = tables_in (slice_index bytes 16) (slice_range bytes 17 (sum_place bytes)) })
      (big_number-reads_back 4 root.log_file [] fits.log_file)
      ∙ ap (λ l. record { number = root.number; state = root.state; log_file = root.log_file; tables = l })
      (ap (tables_in (length root.tables)) tables_kept ∙ tables_back root.tables fits.tables)

  -- a slot that holds a root's spelling is read as this root, whatever follows
  pub read_back : open_content (spelling root ++ tail) ≡ Open root
  unfolding place bytes
  read_back =
      let few = few_tables root fits.is in
      let room : nat_lt 64 (length root.tables) ≡ false = grind (arith, nat_tests) in
      let agrees : pointwise nat_eq (md5 (summed root)) (md5 (summed root)) ≡ true = nat_list_eq_equiv.refl (md5 (summed root)) in
      ap (λ (b : Bool). if b then Bad Count else summed_content bytes place (slice_range bytes place (place + 16)) (md5 (take place bytes))) room
      ∙ ap (λ l. summed_content bytes place l (md5 (take place bytes))) kept
      ∙ ap (λ l. summed_content bytes place (md5 (summed root)) (md5 l)) before
      ∙ ap (λ (b : Bool). if b then root_content (root_read bytes) else Bad (WrongSum place (md5 (summed root)) (md5 (summed root)))) agrees
      ∙ ap root_content root_back
      ∙ ap (λ (b : Bool). if b then Open root else Bad Range) fits.is
