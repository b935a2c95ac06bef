-- The readers of rows read them exactly, and rows that rise have different names.
use Rattle.std.proofs.Common.{◌≡◌, ◌∙◌, sym, ap, subst, refl, ℕ, zero, suc, ◌-◌, ◌^◌, ◌<◌, ◌≤◌, ◌==◌, ◌&&◌, ◌||◌, not, Bool, true, false, cond, List, [], ◌∷◌, ◌++◌, append_assoc, length, lit≤, lit<, arith, Option, Some, None}
use Rattle.std.specs.Prelude.{IsTrue}
use Rattle.std.specs.Int.{w32, to_be_bytes}
use Rattle.std.specs.List.{AllByRecursion, flat_map, slice_get}
use Rattle.std.proofs.lemmas.Bool.Decides.{nat_tests}
use Rattle.std.proofs.lemmas.List.{append-nil, length-append}
use Rattle.std.proofs.lemmas.List.Folds.{list_any-append}
use Rattle.mds_base.proofs.Grow.{get_last}
use Rattle.mds_base.specs.declared.row.Row.{Row}
use Rattle.mds_base.specs.Entries.{is_stamped}
use Rattle.mds_base.specs.Name.{is_name}
use Rattle.records.specs.LeastFormats.{some_stamped_of}
use Rattle.records.specs.Rows.{attr_spelling, row_spelling, rows_spelling, IsStamped, IsRow, last_of, comes_after, AreRising}
use Rattle.records.specs.Reading.{rising_at, row_with, stamp_at, attr_at, must_be_stamped, row_at, list_after, rows_at}
use Rattle.records.proofs.Decoding.{Follows, same_follows}
use Rattle.records.proofs.ToCome.{Passing, Then, Goes, goes_plainly, tested_reads, go_in_turn, same_goes, Listed, list_goes}
use Rattle.records.proofs.Fields.{NumberOf, number_reads, NameOf, name_reads}
use Rattle.records.proofs.Shapes.{Shape, Done, Number, If, Of, Sound, shape_reads}

-- ---- the attributes of a row

-- the row of this name with attributes within their widths, stamped where it must be
pub record AttrText (stamped must : Bool) (name text : List ℕ) (row : Row) : Type 0 where
  pub name_is : row.name ≡ name
  pub dir : row.attr.dir < 2 ^ 48
  pub mode : row.attr.mode ≤ 4095
  pub size : row.attr.size < 2 ^ 64
  pub stamp : IsStamped stamped row.attr
  pub due : (stamped && must) ≡ true → is_stamped row.attr ≡ true
  pub text_is : text ≡ attr_spelling stamped row.attr

-- the least time of modification of a row that must be stamped, or need not be
abbrev least_time : Bool → ℕ → ℕ
least_time must owner = cond (must && (owner == 0)) 1 0

least_small : (must : Bool) (owner : ℕ) → least_time must owner ≤ 1
least_small must owner = elim (must && (owner == 0)) as (λ b. cond b 1 0 ≤ 1) [ true ↦ lit≤ tt | false ↦ lit≤ tt ]

abbrev stamp_shape : Bool → List ℕ → ℕ → ℕ → ℕ → Shape Row
stamp_shape must name dir mode size = Number 4 0 (2 ^ 32 - 1) (λ owner. Number 8 (least_time must owner) (2 ^ 64 - 1) (λ mtime. Done (row_with name dir mode size owner mtime)))

abbrev attr_shape : Bool → Bool → List ℕ → Shape Row
attr_shape stamped must name = Number 8 0 (2 ^ 48 - 1) (λ dir. Number 2 0 4095 (λ mode. Number 8 0 (2 ^ 64 - 1) (λ size. If stamped (stamp_shape must name dir mode size) (Done (row_with name dir mode size 0 0)))))

stamp_sound : (must : Bool) (name : List ℕ) (dir mode size : ℕ) → Sound (stamp_shape must name dir mode size)
stamp_sound must name dir mode size = (omega arith, lit< tt, λ owner _ _. (let small = least_small must owner in omega arith, lit< tt, λ mtime _ _. tt))

attr_sound : (stamped must : Bool) (name : List ℕ) → Sound (attr_shape stamped must name)
attr_sound stamped must name = (omega arith, lit< tt, λ dir _ _. (omega arith, lit< tt, λ mode _ _. (omega arith, lit< tt, λ size _ _. (λ _. stamp_sound must name dir mode size, λ _. tt))))

attr_parts : (stamped must : Bool) (name : List ℕ) → Follows (Of (attr_shape stamped must name)) (attr_at stamped must name)
unfolding attr_at stamp_at
attr_parts stamped must name = shape_reads (attr_shape stamped must name) (attr_sound stamped must name)

some_not_zero : (n : ℕ) → 1 ≤ n → not (n == 0) ≡ true
some_not_zero n some = grind (arith, nat_tests)

stamp_due : (must : Bool) (owner mtime : ℕ) → least_time must owner ≤ mtime → must ≡ true → (not (owner == 0) || not (mtime == 0)) ≡ true
stamp_due must owner mtime le is = elim (owner == 0) as (λ b. cond (must && b) 1 0 ≤ mtime → (not b || not (mtime == 0)) ≡ true) [
  | true ↦ λ le. let one : cond (must && true) 1 0 ≡ 1 = ap (λ (m : Bool). cond (m && true) 1 0) is in let some : 1 ≤ mtime = subst (λ (n : ℕ). n ≤ mtime) one le in some_not_zero mtime some
  | false ↦ λ _. refl
] le

due_time : (must : Bool) (owner mtime : ℕ) → (must ≡ true → (not (owner == 0) || not (mtime == 0)) ≡ true) → least_time must owner ≤ mtime
due_time false owner mtime due = omega arith
due_time true owner mtime due = elim (owner == 0) as (λ b. (not b || not (mtime == 0)) ≡ true → cond b 1 0 ≤ mtime) [
  | true ↦ λ some. grind (arith, nat_tests)
  | false ↦ λ _. omega arith
] (due refl)

attr_there : (stamped must : Bool) (name text : List ℕ) (row : Row) → Of (attr_shape stamped must name) text row → AttrText stamped must name text row
attr_there false must name text row o =
    let dir = o.ranged.0.1 in
    let size = o.ranged.1.1.0.1 in
    subst (AttrText false must name text) (sym o.value_is) (record { name_is = refl; dir = omega arith; mode = o.ranged.1.0.1; size = omega arith; stamp = (refl, refl); due = λ is. absurd cc; text_is = o.text_is })
attr_there true must name text row o =
    let dir = o.ranged.0.1 in
    let size = o.ranged.1.1.0.1 in
    let owner = o.ranged.1.1.1.0.1 in
    let mtime = o.ranged.1.1.1.1.0 in
    let high = mtime.1 in
    subst (AttrText true must name text) (sym o.value_is) (record { name_is = refl; dir = omega arith; mode = o.ranged.1.0.1; size = omega arith; stamp = (omega arith, omega arith); due = λ is. stamp_due must o.args.1.1.1.0 o.args.1.1.1.1.0 mtime.0 is; text_is = o.text_is })

-- a row is its fields
same_row : (row : Row) (name : List ℕ) → row.name ≡ name → row ≡ row_with name row.attr.dir row.attr.mode row.attr.size row.attr.owner row.attr.mtime
same_row row name is = ap (λ (n : List ℕ). row_with n row.attr.dir row.attr.mode row.attr.size row.attr.owner row.attr.mtime) is

attr_back : (stamped must : Bool) (name text : List ℕ) (row : Row) → AttrText stamped must name text row → Of (attr_shape stamped must name) text row
attr_back false must name text row s =
    let dir = s.dir in
    let size = s.size in
    record {
      args = (row.attr.dir, (row.attr.mode, (row.attr.size, tt)));
      ranged = ((omega arith, omega arith), ((omega arith, s.mode), ((omega arith, omega arith), tt)));
      text_is = s.text_is;
      value_is = same_row row name s.name_is ∙ ap (λ (n : ℕ). row_with name row.attr.dir row.attr.mode row.attr.size n row.attr.mtime) s.stamp.0 ∙ ap (λ (n : ℕ). row_with name row.attr.dir row.attr.mode row.attr.size 0 n) s.stamp.1;
    }
attr_back true must name text row s =
    let dir = s.dir in
    let size = s.size in
    let owner = s.stamp.0 in
    let mtime = s.stamp.1 in
    record {
      args = (row.attr.dir, (row.attr.mode, (row.attr.size, (row.attr.owner, (row.attr.mtime, tt)))));
      ranged = ((omega arith, omega arith), ((omega arith, s.mode), ((omega arith, omega arith), ((omega arith, omega arith), ((due_time must row.attr.owner row.attr.mtime s.due, omega arith), tt)))));
      text_is = s.text_is;
      value_is = same_row row name s.name_is;
    }

attr_reads : (stamped must : Bool) (name : List ℕ) → Follows (AttrText stamped must name) (attr_at stamped must name)
attr_reads stamped must name = same_follows (attr_there stamped must name) (attr_back stamped must name) (attr_parts stamped must name)

-- ---- one row

some_byte : (text name : List ℕ) → NameOf text name → 0 < length text
some_byte text name s = let long = ap length s.text_is in omega arith

abbrev Named : List Row → ℕ → List ℕ → List ℕ → Type 0
Named so_far = Passing NameOf (comes_after (last_of so_far))

abbrev RowText : Bool → List Row → ℕ → ℕ → List ℕ → Row → Type 0
RowText stamped so_far left = Then (Named so_far) (λ name _. AttrText stamped (must_be_stamped stamped so_far left) name)

row_goes : (stamped : Bool) (so_far : List Row) (left : ℕ) → Goes (RowText stamped so_far left) (row_at stamped so_far left)
unfolding row_at rising_at
row_goes stamped so_far left = go_in_turn (tested_reads name_reads some_byte (comes_after (last_of so_far)))
    (λ text name s. (goes_plainly (attr_reads stamped (must_be_stamped stamped so_far left) name)).reads)
    (λ n text name s. (goes_plainly (attr_reads stamped (must_be_stamped stamped so_far left) name)).opens)

abbrev Rowed : Bool → List Row → ℕ → ℕ → List ℕ → List Row → Type 0
Rowed stamped = Listed (RowText stamped)

rows_go : (stamped : Bool) (so_far : List Row) (left : ℕ) → Goes (Rowed stamped so_far left) (list_after (row_at stamped) so_far left)
rows_go stamped so_far left = list_goes (λ _ _. Unit {0}) (λ so_far left _. row_goes stamped so_far left) (λ so_far left n text x _ _. tt) so_far left tt

-- ---- so many rows behind some others

pub record RowsFrom (stamped : Bool) (so_far : List Row) (left missing : ℕ) (text : List ℕ) (whole : List Row) : Type 0 where
  pub rows : List Row
  pub whole_is : whole ≡ so_far ++ rows
  pub count : length rows ≡ left
  pub rising : AreRising stamped missing (last_of so_far) rows
  pub each : AllByRecursion (IsRow stamped) rows
  pub due : stamped ≡ true → 0 < left → some_stamped_of whole ≡ true
  pub text_is : text ≡ flat_map (row_spelling stamped) rows

last_is : (rows : List Row) (row : Row) → last_of (rows ++ row ∷ []) ≡ Some row
last_is rows row = let long : length (rows ++ row ∷ []) - 1 ≡ length rows = omega (arith, length-append rows (row ∷ [])) in ap (slice_get (rows ++ row ∷ [])) long ∙ get_last rows row

-- the stamp that rows must have: an earlier row has it, or the last one
stamped_more : (so_far : List Row) (row : Row) → some_stamped_of (so_far ++ row ∷ []) ≡ (some_stamped_of so_far || (is_stamped row.attr || false))
stamped_more so_far row = list_any-append (λ r. is_stamped r.attr) so_far (row ∷ [])

or_there : (a b : Bool) → (not a ≡ true → b ≡ true) → (a || (b || false)) ≡ true
or_there true b f = refl
or_there false b f = ap (λ (c : Bool). c || false) (f refl)

or_last : (a b : Bool) → (a || (b || false)) ≡ true → not a ≡ true → b ≡ true
or_last true b e off = absurd cc
or_last false true e off = refl
or_last false false e off = absurd cc

and_last : (a b : Bool) → (a && b) ≡ true → b ≡ true
and_last true b e = e
and_last false b e = absurd cc

no_rows : (rows : List Row) → length rows ≡ 0 → rows ≡ []
no_rows [] e = refl
no_rows (row ∷ rows) e = absurd (omega arith)

-- what a row has to be that must be stamped
must_none : (a b : Bool) → (a && ((a && false) && not b)) ≡ true → ⊥
must_none true b e = cc
must_none false b e = cc

must_parts : (a b : Bool) → (a && ((a && true) && not b)) ≡ true → (a ≡ true) × (not b ≡ true)
must_parts true b e = (refl, e)
must_parts false b e = absurd cc

rows_there : (stamped : Bool) (so_far : List Row) (left missing : ℕ) (text : List ℕ) (whole : List Row) → Rowed stamped so_far left missing text whole → RowsFrom stamped so_far left missing text whole
rows_there stamped so_far zero missing text whole e = record { rows = []; whole_is = e.is ∙ sym (append-nil so_far); count = refl; rising = tt; each = tt; due = λ _ some. absurd (omega arith); text_is = e.none }
rows_there stamped so_far (suc left) missing text whole s =
    let row = s.value in
    let r = rows_there stamped (so_far ++ row ∷ []) left missing s.back whole s.second in
    let t = s.first in
    let a = t.second in
    let back = ap length r.text_is in
    let end = ap length a.text_is in
    let both = length-append (attr_spelling stamped row.attr) (flat_map (row_spelling stamped) r.rows) in
    record {
      rows = row ∷ r.rows;
      whole_is = r.whole_is ∙ append_assoc so_far (row ∷ []) r.rows;
      count = ap suc r.count;
      rising = (λ le. ap (comes_after (last_of so_far)) a.name_is ∙ t.first.passes (omega (arith, back, end, both)), subst (λ (o : Option Row). AreRising stamped missing o r.rows) (last_is so_far row) r.rising);
      each = (record { named = subst (λ (n : List ℕ). IsTrue (is_name n)) (sym a.name_is) t.first.spelled.named; dir = a.dir; mode = a.mode; size = a.size; stamp = a.stamp }, r.each);
      due = λ is _. due_of left r is a;
      text_is = s.parts ∙ ap (λ (u : List ℕ). u ++ s.back) (t.parts ∙ ap (λ (u : List ℕ). u ++ t.back) (t.first.spelled.text_is ∙ ap (λ (n : List ℕ). length n ∷ n) (sym a.name_is)) ∙ ap (λ (u : List ℕ). (length row.name ∷ row.name) ++ u) a.text_is)
          ∙ ap (λ (u : List ℕ). row_spelling stamped row ++ u) r.text_is;
    }
  where
    due_of : (left : ℕ) (r : RowsFrom stamped (so_far ++ s.value ∷ []) left missing s.back whole) → stamped ≡ true → AttrText stamped (must_be_stamped stamped so_far left) s.first.value s.first.back s.value → some_stamped_of whole ≡ true
    due_of (suc left) r is a = r.due is (omega arith)
    due_of zero r is a =
        let none : r.rows ≡ [] = no_rows r.rows r.count in
        let one : whole ≡ so_far ++ s.value ∷ [] = r.whole_is ∙ ap (λ (l : List Row). (so_far ++ s.value ∷ []) ++ l) none ∙ append-nil (so_far ++ s.value ∷ []) in
        ap some_stamped_of one ∙ stamped_more so_far s.value ∙ or_there (some_stamped_of so_far) (is_stamped s.value.attr) (λ off. a.due (rw (is, off) refl))

last_stamped : (stamped : Bool) (so_far : List Row) (row : Row) (whole : List Row) → whole ≡ so_far ++ row ∷ [] → (stamped ≡ true → some_stamped_of whole ≡ true) → (stamped && must_be_stamped stamped so_far zero) ≡ true → is_stamped row.attr ≡ true
last_stamped stamped so_far row whole is due must =
    let m = must_parts stamped (some_stamped_of so_far) must in
    let one : some_stamped_of whole ≡ (some_stamped_of so_far || (is_stamped row.attr || false)) = ap some_stamped_of is ∙ stamped_more so_far row in
    or_last (some_stamped_of so_far) (is_stamped row.attr) (sym one ∙ due m.0) m.1

-- a row that must be stamped is
row_due : (stamped : Bool) (so_far : List Row) (row : Row) (whole rest : List Row) (left : ℕ) → length rest ≡ left → whole ≡ (so_far ++ row ∷ []) ++ rest → (stamped ≡ true → some_stamped_of whole ≡ true) → (stamped && must_be_stamped stamped so_far left) ≡ true → is_stamped row.attr ≡ true
row_due stamped so_far row whole [] zero count is due must = last_stamped stamped so_far row whole (is ∙ append-nil (so_far ++ row ∷ [])) due must
row_due stamped so_far row whole (x ∷ rest) zero count is due must = absurd (omega arith)
row_due stamped so_far row whole rest (suc left) count is due must = let more : (suc left == 0) ≡ false = grind (arith, nat_tests) in absurd (must_none stamped (some_stamped_of so_far) (subst (λ (b : Bool). (stamped && ((stamped && b) && not (some_stamped_of so_far))) ≡ true) more must))

rows_of : (stamped : Bool) (so_far : List Row) (left missing : ℕ) (whole rows : List Row) → whole ≡ so_far ++ rows → length rows ≡ left → AreRising stamped missing (last_of so_far) rows → AllByRecursion (IsRow stamped) rows → (stamped ≡ true → 0 < left → some_stamped_of whole ≡ true)
    → Rowed stamped so_far left missing (flat_map (row_spelling stamped) rows) whole
rows_of stamped so_far zero missing whole [] is count rising each due = record { none = refl; is = is ∙ append-nil so_far }
rows_of stamped so_far zero missing whole (row ∷ rows) is count rising each due = absurd (omega arith)
rows_of stamped so_far (suc left) missing whole [] is count rising each due = absurd (omega arith)
rows_of stamped so_far (suc left) missing whole (row ∷ rows) is count rising each due =
    let rest : List ℕ = flat_map (row_spelling stamped) rows in
    let attr : List ℕ = attr_spelling stamped row.attr in
    let both = length-append attr rest in
    let grouped : whole ≡ (so_far ++ row ∷ []) ++ rows = is ∙ sym (append_assoc so_far (row ∷ []) rows) in
    let counted : length rows ≡ left = omega arith in
    record {
      front = row_spelling stamped row;
      back = rest;
      value = row;
      parts = refl;
      first = record {
        front = length row.name ∷ row.name;
        back = attr;
        value = row.name;
        parts = refl;
        first = record { spelled = record { text_is = refl; named = each.0.named }; passes = λ none. rising.0 (omega (arith, both)) };
        second = record { name_is = refl; dir = each.0.dir; mode = each.0.mode; size = each.0.size; stamp = each.0.stamp; due = row_due stamped so_far row whole rows left counted grouped (λ is. due is (omega arith)); text_is = refl };
      };
      second = rows_of stamped (so_far ++ row ∷ []) left missing whole rows grouped counted (subst (λ (o : Option Row). AreRising stamped missing o rows) (sym (last_is so_far row)) rising.1) each.1 (λ is some. due is (omega arith));
    }

-- ---- rows and their number

pub record RowsText (stamped : Bool) (least most missing : ℕ) (text : List ℕ) (rows : List Row) : Type 0 where
  pub some : least ≤ length rows
  pub few : length rows ≤ most
  pub rising : AreRising stamped missing None rows
  pub each : AllByRecursion (IsRow stamped) rows
  pub due : stamped ≡ true → 0 < length rows → some_stamped_of rows ≡ true
  pub text_is : text ≡ rows_spelling stamped rows

abbrev Counted : Bool → ℕ → ℕ → ℕ → List ℕ → List Row → Type 0
Counted stamped least most = Then (λ _. NumberOf 4 least most) (λ count. Rowed stamped [] count)

counted_go : (stamped : Bool) (least most : ℕ) → least ≤ most → most < 2 ^ 32 → Goes (Counted stamped least most) (rows_at stamped least most)
unfolding rows_at
counted_go stamped least most le fits = go_in_turn (goes_plainly (number_reads least most le 4 (omega arith))) (λ text count s. (rows_go stamped [] count).reads) (λ n text count s. (rows_go stamped [] count).opens)

counted_there : (stamped : Bool) (least most missing : ℕ) (text : List ℕ) (rows : List Row) → Counted stamped least most missing text rows → RowsText stamped least most missing text rows
counted_there stamped least most missing text rows s =
    let r = rows_there stamped [] s.value missing s.back rows s.second in
    let same : r.rows ≡ rows = sym r.whole_is in
    let count : s.value ≡ length rows = sym r.count ∙ ap length same in
    record {
      some = subst (λ (n : ℕ). least ≤ n) count s.first.low;
      few = subst (λ (n : ℕ). n ≤ most) count s.first.high;
      rising = subst (AreRising stamped missing None) same r.rising;
      each = subst (AllByRecursion (IsRow stamped)) same r.each;
      due = λ is some. r.due is (omega (arith, count));
      text_is = s.parts ∙ ap (λ (u : List ℕ). u ++ s.back) (s.first.text_is ∙ ap (to_be_bytes w32) count) ∙ ap (λ (u : List ℕ). to_be_bytes w32 (length rows) ++ u) (r.text_is ∙ ap (flat_map (row_spelling stamped)) same);
    }

counted_back : (stamped : Bool) (least most missing : ℕ) (text : List ℕ) (rows : List Row) → RowsText stamped least most missing text rows → Counted stamped least most missing text rows
counted_back stamped least most missing text rows t = record {
  front = to_be_bytes w32 (length rows);
  back = flat_map (row_spelling stamped) rows;
  value = length rows;
  parts = t.text_is;
  first = record { low = t.some; high = t.few; text_is = refl };
  second = rows_of stamped [] (length rows) missing rows rows refl refl t.rising t.each t.due;
}

pub rows_read : (stamped : Bool) (least most : ℕ) → least ≤ most → most < 2 ^ 32 → Goes (RowsText stamped least most) (rows_at stamped least most)
rows_read stamped least most le fits = same_goes (counted_there stamped least most) (counted_back stamped least most) (counted_go stamped least most le fits)
