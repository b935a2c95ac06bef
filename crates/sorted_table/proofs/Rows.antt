-- Keys, attributes and rows are read exactly.
use Rattle.std.proofs.Common.{◌≡◌, ◌∙◌, sym, ap, subst, refl, ℕ, zero, suc, ◌<◌, ◌≤◌, ◌^◌, Bool, true, false, cond, nat_eq, nat_lt, nat_le, ◌&&◌, List, [], ◌∷◌, ◌++◌, append_assoc, length, Option, None, Some, arith}
use Rattle.std.specs.Int.{w16, w32, w64, to_be_bytes}
use Rattle.std.specs.List.{AllByRecursion}
use Rattle.std.proofs.lemmas.Bool.Decides.{nat_tests}
use Rattle.std.proofs.lemmas.Option.{same_Some}
use Rattle.mds_base.specs.declared.attr.Attr.{Attr}
use Rattle.mds_base.specs.declared.row_key.RowKey.{RowKey}
use Rattle.mds_base.specs.Entries.{is_stamped}
use Rattle.sorted_table.specs.declared.table_row.TableRow.{TableRow}
use Rattle.sorted_table.specs.TableRows.{IsAttr, IsMarked, IsKey, IsRow, plain_spelling, stamp_spelling, marked_spelling, key_spelling, row_spelling, rows_spelling, row_behind}
use Rattle.sorted_table.specs.Reading.{u16_at, u32_at, u64_at, name_at, key_at, plain_at, stamped_at, marked_some, marked_at, row_at, rows_at, behind_at}
use Rattle.sorted_table.proofs.Readers.{IsBytes, Reads, from_both, then_some, passed, bytes_behind, u16_reads, u32_reads, u64_reads, name_reads, name_spelling}

-- ---- keys

key_whole : (d p r n rest : List ℕ) → (d ++ (p ++ (r ++ n))) ++ rest ≡ d ++ (p ++ (r ++ (n ++ rest)))
key_whole d p r n rest = append_assoc d (p ++ (r ++ n)) rest ∙ ap (λ l. d ++ l) (append_assoc p (r ++ n) rest ∙ ap (λ l. p ++ l) (append_assoc r n rest))

key_again : (key : RowKey) (rest : List ℕ) → IsKey key → key_at (key_spelling key ++ rest) ≡ Some (key, rest)
unfolding key_at
key_again key rest is =
    let n = name_spelling key.name ++ rest in
    let r = to_be_bytes w64 key.rev ++ n in
    let p = to_be_bytes w32 key.part ++ r in
    ap key_at (key_whole (to_be_bytes w64 key.dir) (to_be_bytes w32 key.part) (to_be_bytes w64 key.rev) (name_spelling key.name) rest)
    ∙ then_some (u64_at (to_be_bytes w64 key.dir ++ p)) (key.dir, p) _ (u64_reads.again key.dir p is.dir)
    ∙ then_some (u32_at p) (key.part, r) _ (u32_reads.again key.part r is.part)
    ∙ then_some (u64_at r) (key.rev, n) _ (u64_reads.again key.rev n is.rev)
    ∙ then_some (name_at n) (key.name, rest) _ (name_reads.again key.name rest is.name)

key_found : (bytes : List ℕ) (key : RowKey) (rest : List ℕ) → IsBytes bytes → key_at bytes ≡ Some (key, rest) → IsKey key × (bytes ≡ key_spelling key ++ rest)
unfolding key_at
key_found bytes key rest fits e =
    let a = from_both (u64_at bytes) _ _ e in
    let dir = u64_reads.found bytes a.0.0 a.0.1 fits a.1 in
    let fits_1 = bytes_behind bytes (to_be_bytes w64 a.0.0) a.0.1 dir.1 fits in
    let b = from_both (u32_at a.0.1) _ _ a.2 in
    let part = u32_reads.found a.0.1 b.0.0 b.0.1 fits_1 b.1 in
    let fits_2 = bytes_behind a.0.1 (to_be_bytes w32 b.0.0) b.0.1 part.1 fits_1 in
    let c = from_both (u64_at b.0.1) _ _ b.2 in
    let rev = u64_reads.found b.0.1 c.0.0 c.0.1 fits_2 c.1 in
    let fits_3 = bytes_behind b.0.1 (to_be_bytes w64 c.0.0) c.0.1 rev.1 fits_2 in
    let d = from_both (name_at c.0.1) _ _ c.2 in
    let name = name_reads.found c.0.1 d.0.0 d.0.1 fits_3 d.1 in
    let made : RowKey = record { dir = a.0.0; part = b.0.0; rev = c.0.0; name = d.0.0 } in
    let same : ◌≡◌ {A = RowKey × List ℕ} (made, d.0.1) (key, rest) = same_Some _ _ d.2 in
    let parts : bytes ≡ key_spelling made ++ d.0.1 =
    dir.1 ∙ ap (λ l. to_be_bytes w64 a.0.0 ++ l) (part.1 ∙ ap (λ l. to_be_bytes w32 b.0.0 ++ l) (rev.1 ∙ ap (λ l. to_be_bytes w64 c.0.0 ++ l) name.1))
    ∙ sym (key_whole (to_be_bytes w64 a.0.0) (to_be_bytes w32 b.0.0) (to_be_bytes w64 c.0.0) (name_spelling d.0.0) d.0.1) in
    let Q : RowKey × List ℕ → Type 0 = λ x. IsKey x.0 × (bytes ≡ key_spelling x.0 ++ x.1) in
    subst Q same (record { dir = dir.0; part = part.0; rev = rev.0; name = name.0 }, parts)

pub key_reads : Reads IsKey key_spelling key_at
key_reads = record { again = key_again; found = key_found }

-- ---- attributes

-- attributes without owner and time
pub record IsPlain (attr : Attr) : Type 0 where
  pub is : IsAttr attr
  pub owner : attr.owner ≡ 0
  pub mtime : attr.mtime ≡ 0

within : (dir mode : ℕ) → dir < 2 ^ 48 → mode ≤ 4095 → (nat_lt dir (2 ^ 48) && nat_le mode 4095) ≡ true
within dir mode low most = grind (arith, nat_tests)

within_dir : (dir mode : ℕ) → (nat_lt dir (2 ^ 48) && nat_le mode 4095) ≡ true → dir < 2 ^ 48
within_dir dir mode e = grind (arith, nat_tests)

within_mode : (dir mode : ℕ) → (nat_lt dir (2 ^ 48) && nat_le mode 4095) ≡ true → mode ≤ 4095
within_mode dir mode e = grind (arith, nat_tests)

three_whole : (a b c rest : List ℕ) → (a ++ (b ++ c)) ++ rest ≡ a ++ (b ++ (c ++ rest))
three_whole a b c rest = append_assoc a (b ++ c) rest ∙ ap (λ l. a ++ l) (append_assoc b c rest)

plain : Attr → Attr
plain attr = record attr { owner = 0; mtime = 0 }

plain_again : (attr : Attr) (rest : List ℕ) → IsAttr attr → plain_at (plain_spelling attr ++ rest) ≡ Some (record attr { owner = 0; mtime = 0 }, rest)
unfolding plain_at
plain_again attr rest is =
    let s = to_be_bytes w64 attr.size ++ rest in
    let m = to_be_bytes w16 attr.mode ++ s in
    let made : Attr = record attr { owner = 0; mtime = 0 } in
    ap plain_at (three_whole (to_be_bytes w64 attr.dir) (to_be_bytes w16 attr.mode) (to_be_bytes w64 attr.size) rest)
    ∙ then_some (u64_at (to_be_bytes w64 attr.dir ++ m)) (attr.dir, m) _ (u64_reads.again attr.dir m (omega (arith, is.dir)))
    ∙ then_some (u16_at m) (attr.mode, s) _ (u16_reads.again attr.mode s (omega (arith, is.mode)))
    ∙ then_some (u64_at s) (attr.size, rest) _ (u64_reads.again attr.size rest is.size)
    ∙ ap (λ b. cond b (Some (made, rest)) None) (within attr.dir attr.mode is.dir is.mode)

plain_found : (bytes : List ℕ) (attr : Attr) (rest : List ℕ) → IsBytes bytes → plain_at bytes ≡ Some (attr, rest) → IsPlain attr × (bytes ≡ plain_spelling attr ++ rest)
unfolding plain_at
plain_found bytes attr rest fits e =
    let a = from_both (u64_at bytes) _ _ e in
    let dir = u64_reads.found bytes a.0.0 a.0.1 fits a.1 in
    let fits_1 = bytes_behind bytes (to_be_bytes w64 a.0.0) a.0.1 dir.1 fits in
    let b = from_both (u16_at a.0.1) _ _ a.2 in
    let mode = u16_reads.found a.0.1 b.0.0 b.0.1 fits_1 b.1 in
    let fits_2 = bytes_behind a.0.1 (to_be_bytes w16 b.0.0) b.0.1 mode.1 fits_1 in
    let c = from_both (u64_at b.0.1) _ _ b.2 in
    let size = u64_reads.found b.0.1 c.0.0 c.0.1 fits_2 c.1 in
    let made : Attr = record { dir = a.0.0; mode = b.0.0; size = c.0.0; owner = 0; mtime = 0 } in
    let test = passed (nat_lt a.0.0 (2 ^ 48) && nat_le b.0.0 4095) (made, c.0.1) (attr, rest) c.2 in
    let parts : bytes ≡ plain_spelling made ++ c.0.1 =
    dir.1 ∙ ap (λ l. to_be_bytes w64 a.0.0 ++ l) (mode.1 ∙ ap (λ l. to_be_bytes w16 b.0.0 ++ l) size.1)
    ∙ sym (three_whole (to_be_bytes w64 a.0.0) (to_be_bytes w16 b.0.0) (to_be_bytes w64 c.0.0) c.0.1) in
    let is : IsAttr made = record { dir = within_dir a.0.0 b.0.0 test.0; mode = within_mode a.0.0 b.0.0 test.0; size = size.0; owner = omega arith; mtime = omega arith } in
    let Q : Attr × List ℕ → Type 0 = λ x. IsPlain x.0 × (bytes ≡ plain_spelling x.0 ++ x.1) in
    subst Q test.1 (record { is = is; owner = refl; mtime = refl }, parts)

-- attributes with owner and time
abbrev stamped_spelling : Attr → List ℕ
stamped_spelling attr = plain_spelling attr ++ stamp_spelling attr

stamped_again : (attr : Attr) (rest : List ℕ) → IsAttr attr → is_stamped attr ≡ true → stamped_at (stamped_spelling attr ++ rest) ≡ Some (attr, rest)
unfolding stamped_at
stamped_again attr rest is stamped =
    let t = to_be_bytes w64 attr.mtime ++ rest in
    let o = to_be_bytes w32 attr.owner ++ t in
    ap stamped_at (three_whole (plain_spelling attr) (to_be_bytes w32 attr.owner) (to_be_bytes w64 attr.mtime) rest)
    ∙ then_some (plain_at (plain_spelling attr ++ o)) (record attr { owner = 0; mtime = 0 }, o) _ (plain_again attr o is)
    ∙ then_some (u32_at o) (attr.owner, t) _ (u32_reads.again attr.owner t is.owner)
    ∙ then_some (u64_at t) (attr.mtime, rest) _ (u64_reads.again attr.mtime rest is.mtime)
    ∙ ap (λ b. cond b (Some (attr, rest)) None) stamped

stamped_found : (bytes : List ℕ) (attr : Attr) (rest : List ℕ) → IsBytes bytes → stamped_at bytes ≡ Some (attr, rest) → IsAttr attr × (is_stamped attr ≡ true) × (bytes ≡ stamped_spelling attr ++ rest)
unfolding stamped_at
stamped_found bytes attr rest fits e =
    let a = from_both (plain_at bytes) _ _ e in
    let p = plain_found bytes a.0.0 a.0.1 fits a.1 in
    let fits_1 = bytes_behind bytes (plain_spelling a.0.0) a.0.1 p.1 fits in
    let b = from_both (u32_at a.0.1) _ _ a.2 in
    let owner = u32_reads.found a.0.1 b.0.0 b.0.1 fits_1 b.1 in
    let fits_2 = bytes_behind a.0.1 (to_be_bytes w32 b.0.0) b.0.1 owner.1 fits_1 in
    let c = from_both (u64_at b.0.1) _ _ b.2 in
    let mtime = u64_reads.found b.0.1 c.0.0 c.0.1 fits_2 c.1 in
    let made : Attr = record a.0.0 { owner = b.0.0; mtime = c.0.0 } in
    let test = passed (is_stamped made) (made, c.0.1) (attr, rest) c.2 in
    let parts : bytes ≡ stamped_spelling made ++ c.0.1 =
    p.1 ∙ ap (λ l. plain_spelling a.0.0 ++ l) (owner.1 ∙ ap (λ l. to_be_bytes w32 b.0.0 ++ l) mtime.1)
    ∙ sym (three_whole (plain_spelling a.0.0) (to_be_bytes w32 b.0.0) (to_be_bytes w64 c.0.0) c.0.1) in
    let is : IsAttr made = record { dir = p.0.is.dir; mode = p.0.is.mode; size = p.0.is.size; owner = owner.0; mtime = mtime.0 } in
    let Q : Attr × List ℕ → Type 0 = λ x. IsAttr x.0 × (is_stamped x.0 ≡ true) × (bytes ≡ stamped_spelling x.0 ++ x.1) in
    subst Q test.1 (is, test.0, parts)

-- ---- marks

no_owner : (owner mtime : ℕ) → is_stamped (record { dir = 0; mode = 0; size = 0; owner = owner; mtime = mtime }) ≡ false → owner ≡ 0
no_owner owner mtime e = grind (arith, nat_tests)

no_mtime : (owner mtime : ℕ) → is_stamped (record { dir = 0; mode = 0; size = 0; owner = owner; mtime = mtime }) ≡ false → mtime ≡ 0
no_mtime owner mtime e = grind (arith, nat_tests)

unstamped : (attr : Attr) → is_stamped attr ≡ false → ◌≡◌ {A = Attr} (record attr { owner = 0; mtime = 0 }) attr
unstamped attr e = let o = no_owner attr.owner attr.mtime e in let t = no_mtime attr.owner attr.mtime e in
    ap (λ (n : ℕ). record attr { owner = n; mtime = 0 }) (sym o) ∙ ap (λ (n : ℕ). record attr { owner = attr.owner; mtime = n }) (sym t)

abbrev marked_or : Attr → Bool → List ℕ
marked_or attr b = cond b (2 ∷ (plain_spelling attr ++ stamp_spelling attr)) (1 ∷ plain_spelling attr)

marked_again : (attr : Option Attr) (rest : List ℕ) → IsMarked attr → marked_at (marked_spelling attr ++ rest) ≡ Some (attr, rest)
unfolding marked_at
marked_again None rest is = refl
marked_again (Some attr) rest is =
    elim (is_stamped attr) as (λ b. is_stamped attr ≡ b → marked_at (marked_or attr b ++ rest) ≡ Some (Some attr, rest)) [
      | true ↦ λ e. ap marked_some (stamped_again attr rest is e)
      | false ↦ λ e. ap marked_some (plain_again attr rest is) ∙ ap (λ (a : Attr). Some (Some a, rest)) (unstamped attr e)
    ] refl

plain_is_unstamped : (attr : Attr) → IsPlain attr → is_stamped attr ≡ false
plain_is_unstamped attr p = rw (p.owner, p.mtime) refl

marked_plain : (bytes : List ℕ) (attr : Option Attr) (rest : List ℕ) → IsBytes bytes → marked_some (plain_at bytes) ≡ Some (attr, rest) → IsMarked attr × (1 ∷ bytes ≡ marked_spelling attr ++ rest)
marked_plain bytes attr rest fits e =
    let a = from_both (plain_at bytes) _ _ e in
    let p = plain_found bytes a.0.0 a.0.1 fits a.1 in
    let same : ◌≡◌ {A = Option Attr × List ℕ} (Some a.0.0, a.0.1) (attr, rest) = same_Some _ _ a.2 in
    let Q : Option Attr × List ℕ → Type 0 = λ x. IsMarked x.0 × (1 ∷ bytes ≡ marked_spelling x.0 ++ x.1) in
    subst Q same (p.0.is, ap (λ l. 1 ∷ l) p.1 ∙ ap (λ b. marked_or a.0.0 b ++ a.0.1) (sym (plain_is_unstamped a.0.0 p.0)))

marked_stamped : (bytes : List ℕ) (attr : Option Attr) (rest : List ℕ) → IsBytes bytes → marked_some (stamped_at bytes) ≡ Some (attr, rest) → IsMarked attr × (2 ∷ bytes ≡ marked_spelling attr ++ rest)
marked_stamped bytes attr rest fits e =
    let a = from_both (stamped_at bytes) _ _ e in
    let p = stamped_found bytes a.0.0 a.0.1 fits a.1 in
    let same : ◌≡◌ {A = Option Attr × List ℕ} (Some a.0.0, a.0.1) (attr, rest) = same_Some _ _ a.2 in
    let Q : Option Attr × List ℕ → Type 0 = λ x. IsMarked x.0 × (2 ∷ bytes ≡ marked_spelling x.0 ++ x.1) in
    subst Q same (p.0, ap (λ l. 2 ∷ l) p.2 ∙ ap (λ b. marked_or a.0.0 b ++ a.0.1) (sym p.1))

no_mark : {A : Type 0} (n : ℕ) (a b c d : A) → cond (nat_eq (suc (suc (suc n))) 0) a (cond (nat_eq (suc (suc (suc n))) 1) b (cond (nat_eq (suc (suc (suc n))) 2) c d)) ≡ d
no_mark n a b c d =
    let t : nat_eq (suc (suc (suc n))) 0 ≡ false = grind (arith, nat_tests) in
    let u : nat_eq (suc (suc (suc n))) 1 ≡ false = grind (arith, nat_tests) in
    let v : nat_eq (suc (suc (suc n))) 2 ≡ false = grind (arith, nat_tests) in
    rw (t, u, v) refl

marked_found : (bytes : List ℕ) (attr : Option Attr) (rest : List ℕ) → IsBytes bytes → marked_at bytes ≡ Some (attr, rest) → IsMarked attr × (bytes ≡ marked_spelling attr ++ rest)
unfolding marked_at
marked_found [] attr rest fits e = absurd cc
marked_found (zero ∷ bytes) attr rest fits e =
    let same : ◌≡◌ {A = Option Attr × List ℕ} (None, bytes) (attr, rest) = same_Some _ _ e in
    let Q : Option Attr × List ℕ → Type 0 = λ x. IsMarked x.0 × (0 ∷ bytes ≡ marked_spelling x.0 ++ x.1) in
    subst Q same (tt, refl)
marked_found (suc zero ∷ bytes) attr rest fits e = marked_plain bytes attr rest (λ i. fits (suc i)) e
marked_found (suc (suc zero) ∷ bytes) attr rest fits e = marked_stamped bytes attr rest (λ i. fits (suc i)) e
marked_found (suc (suc (suc n)) ∷ bytes) attr rest fits e =
    let none : ◌≡◌ {A = Option (Option Attr × List ℕ)} None (Some (attr, rest)) = sym (no_mark n _ _ _ None) ∙ e in
    absurd cc

pub marked_reads : Reads IsMarked marked_spelling marked_at
marked_reads = record { again = marked_again; found = marked_found }

-- ---- rows

row_again : (row : TableRow) (rest : List ℕ) → IsRow row → row_at (row_spelling row ++ rest) ≡ Some (row, rest)
unfolding row_at
row_again row rest is =
    let a = marked_spelling row.attr ++ rest in
    ap row_at (append_assoc (key_spelling row.key) (marked_spelling row.attr) rest)
    ∙ then_some (key_at (key_spelling row.key ++ a)) (row.key, a) _ (key_reads.again row.key a is.key)
    ∙ then_some (marked_at a) (row.attr, rest) _ (marked_reads.again row.attr rest is.attr)

row_found : (bytes : List ℕ) (row : TableRow) (rest : List ℕ) → IsBytes bytes → row_at bytes ≡ Some (row, rest) → IsRow row × (bytes ≡ row_spelling row ++ rest)
unfolding row_at
row_found bytes row rest fits e =
    let a = from_both (key_at bytes) _ _ e in
    let key = key_reads.found bytes a.0.0 a.0.1 fits a.1 in
    let fits_1 = bytes_behind bytes (key_spelling a.0.0) a.0.1 key.1 fits in
    let b = from_both (marked_at a.0.1) _ _ a.2 in
    let attr = marked_reads.found a.0.1 b.0.0 b.0.1 fits_1 b.1 in
    let made : TableRow = record { key = a.0.0; attr = b.0.0 } in
    let same : ◌≡◌ {A = TableRow × List ℕ} (made, b.0.1) (row, rest) = same_Some _ _ b.2 in
    let parts : bytes ≡ row_spelling made ++ b.0.1 = key.1 ∙ ap (λ l. key_spelling a.0.0 ++ l) attr.1 ∙ sym (append_assoc (key_spelling a.0.0) (marked_spelling b.0.0) b.0.1) in
    let Q : TableRow × List ℕ → Type 0 = λ x. IsRow x.0 × (bytes ≡ row_spelling x.0 ++ x.1) in
    subst Q same (record { key = key.0; attr = attr.0 }, parts)

pub row_reads : Reads IsRow row_spelling row_at
row_reads = record { again = row_again; found = row_found }

pub rows_again : (rows : List TableRow) (rest : List ℕ) → AllByRecursion IsRow rows → rows_at (length rows) (rows_spelling rows ++ rest) ≡ Some (rows, rest)
rows_again [] rest all = refl
rows_again (row ∷ rows) rest all =
    let more = rows_spelling rows ++ rest in
    ap (rows_at (suc (length rows))) (append_assoc (row_spelling row) (rows_spelling rows) rest)
    ∙ then_some (row_at (row_spelling row ++ more)) (row, more) _ (row_reads.again row more all.0)
    ∙ then_some (rows_at (length rows) more) (rows, rest) _ (rows_again rows rest all.1)

-- rows that were read, so many of them
pub record RowsRead (count : ℕ) (bytes : List ℕ) (rows : List TableRow) (rest : List ℕ) : Type 0 where
  pub count_is : length rows ≡ count
  pub all : AllByRecursion IsRow rows
  pub parts : bytes ≡ rows_spelling rows ++ rest

pub rows_found : (count : ℕ) (bytes : List ℕ) (rows : List TableRow) (rest : List ℕ) → IsBytes bytes → rows_at count bytes ≡ Some (rows, rest) → RowsRead count bytes rows rest
rows_found zero bytes rows rest fits e =
    let same : ◌≡◌ {A = List TableRow × List ℕ} ([], bytes) (rows, rest) = same_Some _ _ e in
    let Q : List TableRow × List ℕ → Type 0 = λ x. RowsRead 0 bytes x.0 x.1 in
    subst Q same (record { count_is = refl; all = tt; parts = refl })
rows_found (suc count) bytes rows rest fits e =
    let a = from_both (row_at bytes) _ _ e in
    let row = row_reads.found bytes a.0.0 a.0.1 fits a.1 in
    let fits_1 = bytes_behind bytes (row_spelling a.0.0) a.0.1 row.1 fits in
    let b = from_both (rows_at count a.0.1) _ _ a.2 in
    let more = rows_found count a.0.1 b.0.0 b.0.1 fits_1 b.1 in
    let same : ◌≡◌ {A = List TableRow × List ℕ} (a.0.0 ∷ b.0.0, b.0.1) (rows, rest) = same_Some _ _ b.2 in
    let Q : List TableRow × List ℕ → Type 0 = λ x. RowsRead (suc count) bytes x.0 x.1 in
    subst Q same (record { count_is = ap suc more.count_is; all = (row.0, more.all); parts = row.1 ∙ ap (λ l. row_spelling a.0.0 ++ l) more.parts ∙ sym (append_assoc (row_spelling a.0.0) (rows_spelling b.0.0) b.0.1) })

-- the first row whose key does not pass a test, among those that are read
pub behind_rows : (count : ℕ) (before : RowKey → Bool) (bytes : List ℕ) (rows : List TableRow) (rest : List ℕ) → rows_at count bytes ≡ Some (rows, rest) → behind_at count before bytes ≡ Some (row_behind before rows)
behind_rows zero before bytes rows rest e =
    let same : ◌≡◌ {A = List TableRow × List ℕ} ([], bytes) (rows, rest) = same_Some _ _ e in
    ap (λ (x : List TableRow × List ℕ). Some (row_behind before x.0)) same
behind_rows (suc count) before bytes rows rest e =
    let a = from_both (row_at bytes) _ _ e in
    let b = from_both (rows_at count a.0.1) _ _ a.2 in
    let same : ◌≡◌ {A = List TableRow × List ℕ} (a.0.0 ∷ b.0.0, b.0.1) (rows, rest) = same_Some _ _ b.2 in
    let more = behind_rows count before a.0.1 b.0.0 b.0.1 b.1 in
    then_some (row_at bytes) a.0 _ a.1
    ∙ ap (λ o. cond (before a.0.0.key) o (Some (Some a.0.0))) more
    ∙ pull (before a.0.0.key) (row_behind before b.0.0) (Some a.0.0)
    ∙ ap (λ (x : List TableRow × List ℕ). Some (row_behind before x.0)) same
  where
    pull : (b : Bool) (x y : Option TableRow) → cond b (Some x) (Some y) ≡ Some (cond b x y)
    pull true x y = refl
    pull false x y = refl
