-- Rows on the two sides of a cursor, and what pages list.
use Rattle.std.proofs.Common.{◌≡◌, ◌∙◌, sym, ap, refl, List, [], ◌∷◌, ◌++◌, Option, Some, None, Bool, true, false}
use Rattle.std.specs.List.{AllByRecursion}
use Rattle.std.specs.declared.cmp.Ordering.{Ordering}
use Rattle.std.specs.declared.cmp.Ordering.TheVariants.{Less, Equal, Greater}
use Rattle.std.specs.Ordering.{ordering_reverse}
use Rattle.mds_base.specs.declared.cursor.Cursor.{Cursor}
use Rattle.mds_base.specs.declared.row.Row.{Row}
use Rattle.mds_base.specs.declared.row_key.RowKey.{RowKey}
use Rattle.mds_base.specs.RowKeys.{row_key_cmp, is_past}
use Rattle.mds_base.proofs.Lists.{all_both, all_map}
use Rattle.mds_base.proofs.RowMaps.{row_keys_total, exact_row_keys, past_up}
use Rattle.name_hash.specs.ScanOrder.{scan_cmp}
use Rattle.scan.specs.Scans.{start, new_scan}
use Rattle.scan.specs.Pages.{Page, IsPageFrom, ArePages, Rise, scan_key, row_passes, is_left, after_pages}

refuted : (test : Bool) → (test ≡ true → ⊥) → test ≡ false
refuted true no_way = absurd (no_way refl)
refuted false no_way = refl

apart : (test other : Bool) → test ≡ false → other ≡ true → test ≡ other → ⊥
apart test other is other_is same = cc

before_as : (cursor : Cursor) (a b : RowKey) → a.dir ≡ b.dir → a.part ≡ b.part → is_past cursor a ≡ false → is_past cursor b ≡ true → (order : Ordering) → row_key_cmp a b ≡ order → row_key_cmp a b ≡ Less
before_as cursor a b dirs parts behind past Less is = is
before_as cursor a b dirs parts behind past Equal is = absurd (apart _ _ behind past (ap (is_past cursor) (exact_row_keys a b is)))
before_as cursor a b dirs parts behind past Greater is =
    let back : row_key_cmp b a ≡ Less = row_keys_total.antisymm b a ∙ ap ordering_reverse is in
    absurd (apart _ _ behind (past_up cursor b a (sym dirs) (sym parts) past back) refl)

-- a row that is not past a cursor comes before one that is
before : (cursor : Cursor) (a b : Row) → row_passes cursor a ≡ false → row_passes cursor b ≡ true → scan_cmp a.name b.name ≡ Less
before cursor a b behind past = before_as cursor (scan_key a.name) (scan_key b.name) refl refl behind past _ refl

-- what comes before a row that is not left for later is not left either
not_left : (next : Option Cursor) (a b : Row) → scan_cmp a.name b.name ≡ Less → is_left next b ≡ false → is_left next a ≡ false
not_left None a b up within = refl
not_left (Some cursor) a b up within = refuted (row_passes cursor a) (λ past. apart _ _ within (past_up cursor (scan_key a.name) (scan_key b.name) refl refl past up) refl)

-- what lies behind a page's cursor is not left for later
not_back : (cursor : Cursor) (rows : List Row) (next : Option Cursor) → AllByRecursion (λ row. row_passes cursor row ≡ true) rows → AllByRecursion (λ row. is_left next row ≡ false) rows → (rows ≡ [] → (row : Row) → row_passes cursor row ≡ false → is_left next row ≡ false) → (row : Row) → row_passes cursor row ≡ false → is_left next row ≡ false
not_back cursor [] next past within onward row behind = onward refl row behind
not_back cursor (first ∷ rows) next past within onward row behind = not_left next row first (before cursor row first behind past.0) within.0

rise_both : (front rows : List Row) → Rise front → Rise rows → AllByRecursion (λ row. AllByRecursion (λ later. scan_cmp row.name later.name ≡ Less) rows) front → Rise (front ++ rows)
rise_both [] rows first second between = second
rise_both (row ∷ front) rows first second between = (all_both _ front rows first.0 between.0, rise_both front rows first.1 second between.1)

-- the rows rise, and none of them is left for later
abbrev pub AreListed : List Row → Option Cursor → Type 0
AreListed rows next = Rise rows × AllByRecursion (λ row. is_left next row ≡ false) rows

one_page : (rows : List Row) (cursor : Cursor) (page : Page) → AreListed rows (Some cursor) → IsPageFrom cursor page → AreListed (rows ++ page.rows) page.next
one_page rows cursor page listed is = (
  rise_both rows page.rows listed.0 is.rise (all_map _ _ rows (λ row behind. all_map _ _ page.rows (λ later past. before cursor row later behind past) is.past) listed.1),
  all_both _ rows page.rows (all_map _ _ rows (λ row behind. not_back cursor page.rows page.next is.past is.within is.onward row behind) listed.1) is.within,
)

all_pages : (pages : List Page) (rows : List Row) (next : Option Cursor) → AreListed rows next → ArePages pages next → AreListed (after_pages (record { listed = rows; next = next }) pages).listed (after_pages (record { listed = rows; next = next }) pages).next
all_pages [] rows next listed are = listed
all_pages (page ∷ pages) rows None listed are = absurd are
all_pages (page ∷ pages) rows (Some cursor) listed are = all_pages pages (rows ++ page.rows) page.next (one_page rows cursor page listed are.0) are.1

pub whole_scan : (pages : List Page) → ArePages pages (Some start) → AreListed (after_pages new_scan pages).listed (after_pages new_scan pages).next
whole_scan pages are = all_pages pages [] (Some start) (tt, tt) are
