-- The reader of Installs reads them exactly.
use Rattle.std.proofs.Common.{◌≡◌, ◌∙◌, sym, ap, subst, refl, ℕ, ◌-◌, ◌^◌, ◌<◌, ◌≤◌, ◌==◌, ◌&&◌, ◌||◌, not, nat_le, nat_lt, Bool, true, false, cond, List, [], ◌∷◌, ◌++◌, length, lit≤, lit<, arith, Result, Ok, None}
use Rattle.std.specs.Int.{w32, w64, to_be_bytes}
use Rattle.std.specs.List.{AllByRecursion}
use Rattle.std.proofs.Math.Nat.{pow-le-pow_right}
use Rattle.std.proofs.lemmas.Bool.{and_parts, and_from}
use Rattle.std.proofs.lemmas.Bool.Decides.{nat_tests}
use Rattle.std.proofs.lemmas.List.{append-nil}
use Rattle.mds_base.specs.declared.row.Row.{Row}
use Rattle.mds_base.specs.declared.session.Session.{Session}
use Rattle.mds_base.specs.Entries.{is_stamped}
use Rattle.bitmap.specs.Bits.{Bits}
use Rattle.records.specs.declared.fault.Fault.{Fault}
use Rattle.records.specs.declared.record.Record.{Record}
use Rattle.records.specs.declared.record.Record.TheVariants.{Install}
use Rattle.records.specs.Faults.{◌>>=◌}
use Rattle.records.specs.LeastFormats.{some_stamped_of}
use Rattle.records.specs.Rows.{rows_spelling, IsRow, AreRising}
use Rattle.records.specs.Installs.{bitmap_spelling, sessions_spelling, IsInstall, install_spelling}
use Rattle.records.specs.Reading.{byte_where, rows_at}
use Rattle.records.specs.ReadingInstalls.{is_child_depth, child_at, install_at}
use Rattle.records.proofs.Decoding.{Ends, follows_here}
use Rattle.records.proofs.ToCome.{Then, Goes, goes_plainly, go_in_turn, same_goes}
use Rattle.records.proofs.Fields.{OneByte, byte_reads, NumberOf, number_reads}
use Rattle.records.proofs.Rows.{RowsText, rows_read}
use Rattle.records.proofs.Bitmaps.{BitmapText, bitmap_goes}
use Rattle.records.proofs.Sessions.{SessionsText, sessions_goes}
use Rattle.records.proofs.Calls.{in_directory, of_directory, lt_on, lt_of, go_after}

-- the least number of rows: with stamps there is a row that has one
abbrev least_rows : Bool → ℕ
least_rows stamped = cond stamped 1 0

least_few : (stamped : Bool) → least_rows stamped ≤ 2 ^ 32 - 1
least_few true = lit≤ tt
least_few false = lit≤ tt

-- rows without stamps
none_stamped : (rows : List Row) → AllByRecursion (IsRow false) rows → some_stamped_of rows ≡ false
none_stamped [] each = refl
none_stamped (row ∷ rows) each =
    let stamp = each.0.stamp in
    let own : is_stamped row.attr ≡ false = ap (λ (o : ℕ). not (o == 0) || not (row.attr.mtime == 0)) stamp.0 ∙ ap (λ (m : ℕ). not (m == 0)) stamp.1 in
    ap (λ (b : Bool). b || some_stamped_of rows) own ∙ none_stamped rows each.1

stamped_as : (stamped : Bool) (n : ℕ) (text : List ℕ) (rows : List Row) → RowsText stamped (least_rows stamped) (2 ^ 32 - 1) n text rows → some_stamped_of rows ≡ stamped
stamped_as true n text rows r = let some = r.some in r.due refl (omega arith)
stamped_as false n text rows r = none_stamped rows r.each

some_row : (rows : List Row) → some_stamped_of rows ≡ true → 1 ≤ length rows
some_row [] is = absurd cc
some_row (row ∷ rows) is = omega arith

least_of_rows : (stamped : Bool) (rows : List Row) → some_stamped_of rows ≡ stamped → least_rows stamped ≤ length rows
least_of_rows true rows is = some_row rows is
least_of_rows false rows is = omega arith

-- ---- the fields one after another

pub record InstallText (stamped : Bool) (missing : ℕ) (text : List ℕ) (item : Record) : Type 0 where
  pub dir : ℕ
  pub part : ℕ
  pub depth : ℕ
  pub bitmap : Bits
  pub sessions : List Session
  pub rows : List Row
  pub item_is : item ≡ Install dir part depth bitmap sessions rows
  pub install : IsInstall missing dir part depth bitmap sessions rows
  pub stamped_is : some_stamped_of rows ≡ stamped
  pub text_is : text ≡ install_spelling dir part depth bitmap sessions rows

abbrev RowsEnd : Bool → (List Row → Record) → ℕ → List ℕ → Record → Type 0
RowsEnd stamped made = Then (RowsText stamped (least_rows stamped) (2 ^ 32 - 1)) (λ rows _. Ends (made rows))

abbrev ChildParts : Bool → ℕ → ℕ → ℕ → ℕ → List ℕ → Record → Type 0
ChildParts stamped dir part depth = Then (λ _. BitmapText) (λ bitmap. Then (λ _. SessionsText) (λ sessions. RowsEnd stamped (Install dir part depth bitmap sessions)))

abbrev InstallParts : Bool → ℕ → List ℕ → Record → Type 0
InstallParts stamped = Then (λ _. NumberOf 8 1 (2 ^ 48 - 1)) (λ dir. Then (λ _. NumberOf 4 0 1023) (λ part. Then (λ _. OneByte (is_child_depth part)) (λ depth. ChildParts stamped dir part depth)))

deep_enough : (part : ℕ) → part ≤ 1023 → is_child_depth part 10 ≡ true
deep_enough part small = let below : nat_lt part 1024 ≡ true = grind (arith, nat_tests) in below

go_then : {X Y : Type 0} {G : ℕ → List ℕ → X → Type 0} {H : X → ℕ → List ℕ → Y → Type 0} {f : List ℕ → Result (X × List ℕ) Fault} {g : X → List ℕ → Result (Y × List ℕ) Fault} → Goes G f → ((x : X) → Goes (H x) (g x)) → Goes (Then G H) (λ bytes. f bytes >>= λ p. g p.0 p.1)
go_then one next = go_in_turn one (λ text x s. (next x).reads) (λ n text x s. (next x).opens)

rows_end : (stamped : Bool) (made : List Row → Record) → Goes (RowsEnd stamped made) (λ bytes. rows_at stamped (least_rows stamped) (2 ^ 32 - 1) bytes >>= λ rows. Ok (made rows.0, rows.1))
rows_end stamped made = go_then (rows_read stamped (least_rows stamped) (2 ^ 32 - 1) (least_few stamped) (lit< tt)) (λ rows. goes_plainly (follows_here (made rows)))

child_goes : (stamped : Bool) (dir part depth : ℕ) → Goes (ChildParts stamped dir part depth) (child_at stamped dir part depth)
unfolding child_at
child_goes stamped dir part depth = go_then bitmap_goes (λ bitmap. go_then sessions_goes (λ sessions. rows_end stamped (Install dir part depth bitmap sessions)))

depth_goes : (stamped : Bool) (dir part : ℕ) → part ≤ 1023 → Goes (Then (λ _. OneByte (is_child_depth part)) (ChildParts stamped dir part)) (λ bytes. byte_where (is_child_depth part) bytes >>= λ depth. child_at stamped dir part depth.0 depth.1)
depth_goes stamped dir part small = go_after (byte_reads (is_child_depth part) 10 (lit< tt) (deep_enough part small)) (λ depth. child_goes stamped dir part depth)

install_parts : (stamped : Bool) → Goes (InstallParts stamped) (install_at stamped)
unfolding install_at
install_parts stamped = go_after (number_reads 1 (2 ^ 48 - 1) (lit≤ tt) 8 (lit< tt)) (λ dir. go_in_turn (goes_plainly (number_reads 0 1023 (omega arith) 4 (lit< tt))) (λ text part s. (depth_goes stamped dir part s.high).reads) (λ n text part s. (depth_goes stamped dir part s.high).opens))

-- a depth of a child
pub record IsChild (part depth : ℕ) : Type 0 where
  pub deep : 1 ≤ depth
  pub shallow : depth ≤ 10
  pub below : part < 2 ^ depth

child_parts : (part depth : ℕ) → is_child_depth part depth ≡ true → IsChild part depth
child_parts part depth on =
    let both = and_parts (nat_le 1 depth && nat_le depth 10) (nat_lt part (2 ^ depth)) on in
    let ends = and_parts (nat_le 1 depth) (nat_le depth 10) both.0 in
    let low : 1 ≤ depth = grind (arith, nat_tests, ends.0) in
    let high : depth ≤ 10 = grind (arith, nat_tests, ends.1) in
    record { deep = low; shallow = high; below = lt_of part (2 ^ depth) both.1 }

child_is : (part depth : ℕ) → IsChild part depth → is_child_depth part depth ≡ true
child_is part depth c =
    let deep = c.deep in
    let shallow = c.shallow in
    let low : nat_le 1 depth ≡ true = grind (arith, nat_tests) in
    let high : nat_le depth 10 ≡ true = grind (arith, nat_tests) in
    and_from (nat_le 1 depth && nat_le depth 10) (nat_lt part (2 ^ depth)) (and_from (nat_le 1 depth) (nat_le depth 10) low high) (lt_on part (2 ^ depth) c.below)

install_there : (stamped : Bool) (n : ℕ) (text : List ℕ) (item : Record) → InstallParts stamped n text item → InstallText stamped n text item
install_there stamped n text item s =
    let p = s.second in
    let d = p.second in
    let b = d.second in
    let ss = b.second in
    let e = ss.second in
    let r = e.first in
    let same : n - length e.back ≡ n = let long = ap length e.second.none in omega arith in
    let stamped_is = stamped_as stamped (n - length e.back) e.front e.value r in
    let child = child_parts p.value d.value d.first.passes in
    let few = r.few in
    record {
      dir = s.value;
      part = p.value;
      depth = d.value;
      bitmap = b.value;
      sessions = ss.value;
      rows = e.value;
      item_is = e.second.is;
      install = record {
        directory = in_directory s.value (s.first.low, s.first.high);
        deep = child.deep;
        shallow = child.shallow;
        below = child.below;
        formed = b.first.formed;
        clients = ss.first.are;
        few = omega arith;
        rising = subst (λ (m : ℕ). AreRising (some_stamped_of e.value) m None e.value) same (subst (λ (t : Bool). AreRising t (n - length e.back) None e.value) (sym stamped_is) r.rising);
        each = subst (λ (t : Bool). AllByRecursion (IsRow t) e.value) (sym stamped_is) r.each;
      };
      stamped_is = stamped_is;
      text_is = s.parts ∙ ap (λ (u : List ℕ). u ++ s.back) s.first.text_is ∙ ap (λ (u : List ℕ). to_be_bytes w64 s.value ++ u) (p.parts ∙ ap (λ (u : List ℕ). u ++ p.back) p.first.text_is
          ∙ ap (λ (u : List ℕ). to_be_bytes w32 p.value ++ u) (d.parts ∙ ap (λ (u : List ℕ). u ++ d.back) d.first.text_is
          ∙ ap (λ (u : List ℕ). d.value ∷ u) (b.parts ∙ ap (λ (u : List ℕ). u ++ b.back) b.first.text_is
          ∙ ap (λ (u : List ℕ). bitmap_spelling b.value ++ u) (ss.parts ∙ ap (λ (u : List ℕ). u ++ ss.back) ss.first.text_is
          ∙ ap (λ (u : List ℕ). sessions_spelling ss.value ++ u) (e.parts ∙ ap (λ (u : List ℕ). e.front ++ u) e.second.none ∙ append-nil e.front ∙ r.text_is ∙ ap (λ (t : Bool). rows_spelling t e.value) (sym stamped_is))))));
    }

install_back : (stamped : Bool) (n : ℕ) (text : List ℕ) (item : Record) → InstallText stamped n text item → InstallParts stamped n text item
install_back stamped n text item t =
    let i = t.install in
    let few = i.few in
    let shallow = i.shallow in
    let below = i.below in
    let grows : 2 ^ t.depth ≤ 2 ^ 10 = pow-le-pow_right (omega arith) shallow in
    let rows : List ℕ = rows_spelling (some_stamped_of t.rows) t.rows in
    let same : n ≡ n - 0 = omega arith in
    record {
      front = to_be_bytes w64 t.dir;
      back = to_be_bytes w32 t.part ++ (t.depth ∷ (bitmap_spelling t.bitmap ++ (sessions_spelling t.sessions ++ rows)));
      value = t.dir;
      parts = t.text_is;
      first = record { low = (of_directory t.dir i.directory).0; high = (of_directory t.dir i.directory).1; text_is = refl };
      second = record {
        front = to_be_bytes w32 t.part;
        back = t.depth ∷ (bitmap_spelling t.bitmap ++ (sessions_spelling t.sessions ++ rows));
        value = t.part;
        parts = refl;
        first = record { low = omega arith; high = omega arith; text_is = refl };
        second = record {
          front = t.depth ∷ [];
          back = bitmap_spelling t.bitmap ++ (sessions_spelling t.sessions ++ rows);
          value = t.depth;
          parts = refl;
          first = record { text_is = refl; byte = omega arith; passes = child_is t.part t.depth (record { deep = i.deep; shallow = i.shallow; below = i.below }) };
          second = record {
            front = bitmap_spelling t.bitmap;
            back = sessions_spelling t.sessions ++ rows;
            value = t.bitmap;
            parts = refl;
            first = record { formed = i.formed; text_is = refl };
            second = record {
              front = sessions_spelling t.sessions;
              back = rows;
              value = t.sessions;
              parts = refl;
              first = record { are = i.clients; text_is = refl };
              second = record {
                front = rows;
                back = [];
                value = t.rows;
                parts = sym (append-nil rows);
                first = record {
                  some = least_of_rows stamped t.rows t.stamped_is;
                  few = omega arith;
                  rising = subst (λ (m : ℕ). AreRising stamped m None t.rows) same (subst (λ (b : Bool). AreRising b n None t.rows) t.stamped_is i.rising);
                  each = subst (λ (b : Bool). AllByRecursion (IsRow b) t.rows) t.stamped_is i.each;
                  due = λ is some. t.stamped_is ∙ is;
                  text_is = ap (λ (b : Bool). rows_spelling b t.rows) t.stamped_is;
                };
                second = record { none = refl; is = t.item_is };
              };
            };
          };
        };
      };
    }

pub install_goes : (stamped : Bool) → Goes (InstallText stamped) (install_at stamped)
install_goes stamped = same_goes (install_there stamped) (install_back stamped) (install_parts stamped)
