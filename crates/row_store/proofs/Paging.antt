-- A loop that lists a page, row by row.
use Rattle.std.proofs.Common.{◌≡◌, ℕ, ◌-◌, ◌<◌, sym, subst, List, [], ◌∷◌, ◌++◌, length, Bool, true, false, Option, Some, None, Ok}
use Rattle.std.specs.List.{slice_get}
use Rattle.std.specs.Prelude.{unwrap_or, is_some}
use Rattle.mds_base.specs.declared.attr.Attr.{Attr}
use Rattle.mds_base.specs.declared.cursor.Cursor.{Cursor}
use Rattle.mds_base.specs.declared.row.Row.{Row}
use Rattle.mds_base.specs.declared.row_key.RowKey.{RowKey}
use Rattle.mds_base.specs.RowKeys.{RowMap, is_outside, row_of, page_of}
use Rattle.frame_pool.specs.Frames.{Frames, free_frames}
use Rattle.mds_out.specs.Disk.{Image, Contents, Lengths}
use Rattle.row_store.specs.Answers.{IsStoreReading}
use Rattle.row_store.specs.Seeks.{IsMapOf, before_next}
use Rattle.row_store.specs.Store.{TellsAll, reading}
use Rattle.row_store.proofs.Pages.{Lists, lists_none, lists_all, lists_beyond, lists_full, lists_more, first_as}
use Rattle.row_store.proofs.Passing.{Firsts}
use Rattle.sorted_table.specs.Tables.{TableState}
use Rattle.sorted_table.proofs.Seeking.{IsDownward, before_down}

-- behind the last row of a page, or behind the cursor
abbrev pub behind_page : ℕ → ℕ → Cursor → ℕ → List Row → RowKey → Bool
behind_page dir part from rev page = before_next dir part from rev (slice_get page (length page - 1))

next_down : (dir part : ℕ) (from : Cursor) (rev : ℕ) (row : Option Row) → IsDownward (before_next dir part from rev row)
next_down dir part from rev (Some row) = before_down (record { dir = dir; part = part; rev = rev; name = row.name }) true
next_down dir part from rev None = before_down (record { dir = dir; part = part; rev = from.at; name = unwrap_or from.after [] }) (is_some from.after)

module _ (tables : List TableState) (entries : List (RowKey × Option Attr)) (dir part : ℕ) (from : Cursor) (last limit : ℕ) where
  abbrev pub Listing : Contents → ℕ → List Row → Type 0
  Listing seen rev page = TellsAll seen → (rows : RowMap) → IsMapOf tables entries rows (reading seen) → Lists rows dir part from last limit page (behind_page dir part from rev page)

  abbrev pub IsPage : Contents → List Row → Type 0
  IsPage seen page = TellsAll seen → (rows : RowMap) → IsMapOf tables entries rows (reading seen) → page ≡ page_of rows dir part from last limit

  -- the disk is as it was, and so many rows are listed
  pub record IsPaging {D : Type 0} (seen : D → Contents) (sizes : D → Lengths) (images : D → Image → Type 0) (moment : D → ℕ) (since : D → ℕ → Image → Type 0) (faults : D → ℕ) (lasts fails : D → D → Type 0)
      (old now : D) (pool pool' : Frames) (rev : ℕ) (page : List Row) (count : ℕ) : Type 0 where
    pub call : IsStoreReading {T = Unit {0}} seen sizes images moment since faults lasts fails old now (Ok tt)
    pub frames : free_frames pool' ≡ free_frames pool
    pub count_is : length page ≡ count
    pub lists : Listing (seen old) rev page

  pub paging_none : (seen : Contents) (rev : ℕ) (page : List Row) → page ≡ [] → Listing seen rev page
  paging_none seen rev page none = subst (Listing seen rev) (sym none) (λ tells rows m. lists_none rows dir part from last limit rev)

  as_first : (seen seen' : Contents) (start other : RowKey → Bool) (found : Option (RowKey × Attr)) → seen' ≡ seen → ((key : RowKey) → start key ≡ other key) → Firsts tables entries seen' start found → Firsts tables entries seen other found
  as_first seen seen' start other found same alike first =
      let P : Contents → Type 0 = λ s. Firsts tables entries s start found in
      let now = subst P same first in
      λ tells rows m. first_as rows start other found alike (now tells rows m)

  pub paging_all : (seen seen' : Contents) (rev : ℕ) (page : List Row) (start : RowKey → Bool) → seen' ≡ seen → ((key : RowKey) → start key ≡ behind_page dir part from rev page key) → Listing seen rev page → Firsts tables entries seen' start None → IsPage seen page
  paging_all seen seen' rev page start same alike lists first =
      let now = as_first seen seen' start (behind_page dir part from rev page) None same alike first in
      λ tells rows m. lists_all rows dir part from last limit page (behind_page dir part from rev page) (lists tells rows m) (now tells rows m)

  pub paging_beyond : (seen seen' : Contents) (rev : ℕ) (page : List Row) (start : RowKey → Bool) (key : RowKey) (attr : Attr) → seen' ≡ seen → ((key : RowKey) → start key ≡ behind_page dir part from rev page key) → Listing seen rev page
      → Firsts tables entries seen' start (Some (key, attr)) → is_outside dir part last key ≡ true → IsPage seen page
  paging_beyond seen seen' rev page start key attr same alike lists first out =
      let now = as_first seen seen' start (behind_page dir part from rev page) (Some (key, attr)) same alike first in
      λ tells rows m. lists_beyond rows dir part from last limit page rev (slice_get page (length page - 1)) (key, attr) (lists tells rows m) (now tells rows m) out

  pub paging_full : (seen : Contents) (rev : ℕ) (page : List Row) → Listing seen rev page → length page ≡ limit → IsPage seen page
  paging_full seen rev page lists full = λ tells rows m. lists_full rows dir part from last limit page (behind_page dir part from rev page) (lists tells rows m) full

  pub paging_more : (seen seen' : Contents) (rev : ℕ) (page more : List Row) (start : RowKey → Bool) (key : RowKey) (attr : Attr) → seen' ≡ seen → ((key : RowKey) → start key ≡ behind_page dir part from rev page key) → Listing seen rev page
      → Firsts tables entries seen' start (Some (key, attr)) → is_outside dir part last key ≡ false → length page < limit → more ≡ page ++ row_of (key, attr) ∷ [] → Listing seen key.rev more
  paging_more seen seen' rev page more start key attr same alike lists first inside room pushed =
      let now = as_first seen seen' start (behind_page dir part from rev page) (Some (key, attr)) same alike first in
      subst (Listing seen key.rev) (sym pushed)
      (λ tells rows m. lists_more rows dir part from last limit page rev (slice_get page (length page - 1)) (key, attr) (lists tells rows m) (now tells rows m) inside room (next_down dir part from rev (slice_get page (length page - 1))))
