-- What was said since the last flush of keys behind a start, by a range of the map that holds it.
use Rattle.std.proofs.Common.{◌≡◌, ◌∙◌, sym, ap, refl, List, [], ◌∷◌, Bool, true, false, cond, ◌&&◌, Option, Some, None}
use Rattle.std.specs.Prelude.{OnOk, Result, Ok, Err}
use Rattle.std.specs.List.{AllByRecursion, filter}
use Rattle.std.specs.List.Sorted.{IsStrictlySortedBy}
use Rattle.std.specs.Map.{keys_of}
use Rattle.std.specs.declared.cmp.Ordering.{Ordering}
use Rattle.std.specs.declared.cmp.Ordering.TheVariants.{Less, Equal, Greater}
use Rattle.std.specs.Ordering.{is_lt, is_le}
use Rattle.std.proofs.lemmas.Map.Keys.{sorted_head, sorted_tail}
use Rattle.mds_base.specs.declared.attr.Attr.{Attr}
use Rattle.mds_base.specs.declared.row_key.RowKey.{RowKey}
use Rattle.mds_base.specs.RowKeys.{row_key_cmp}
use Rattle.mds_base.proofs.RowMaps.{row_keys_total}
use Rattle.row_store.specs.Rows.{rows_of}
use Rattle.sorted_table.specs.Starts.{before_at}
use Rattle.sorted_table.specs.TableRows.{Rises, row_behind, key_of}
use Rattle.sorted_table.proofs.Looking.{below_upto}

abbrev pub Entries : Type 0
Entries = List (RowKey × Option Attr)

-- what is not before a start is not below its place
pub not_below : (place : RowKey) (past : Bool) (key : RowKey) → before_at place past key ≡ false → is_le (row_key_cmp place key) ≡ true
not_below place false key behind = go (row_key_cmp place key) refl
  where
    go : (r : Ordering) → row_key_cmp place key ≡ r → is_le (row_key_cmp place key) ≡ true
    go Less is = ap is_le is
    go Equal is = ap is_le is
    go Greater is = let less : row_key_cmp key place ≡ Less = row_keys_total.antisymm key place ∙ rw is refl in let no : before_at place false key ≡ true = ap is_lt less in absurd cc
not_below place true key behind = go (row_key_cmp key place) refl
  where
    go : (r : Ordering) → row_key_cmp key place ≡ r → is_le (row_key_cmp place key) ≡ true
    go Less is = let no : before_at place true key ≡ true = ap is_le is in absurd cc
    go Equal is = let no : before_at place true key ≡ true = ap is_le is in absurd cc
    go Greater is = let less : row_key_cmp place key ≡ Less = row_keys_total.antisymm place key ∙ rw is refl in ap is_le less

-- what is below the place of a start is below all that is not before it
pub floor_below : (floor place : RowKey) (past : Bool) (key : RowKey) → row_key_cmp floor place ≡ Less → before_at place past key ≡ false → row_key_cmp floor key ≡ Less
floor_below floor place past key less behind = below_upto floor place key less (not_below place past key behind)

pub rises_of : (es : Entries) → IsStrictlySortedBy row_key_cmp (keys_of es) → Rises (rows_of es)
rises_of [] sorted = tt
rises_of (e ∷ es) sorted = (all es (sorted_head row_key_cmp e.0 (keys_of es) sorted), rises_of es (sorted_tail row_key_cmp e.0 (keys_of es) sorted))
  where
    all : (later : Entries) → AllByRecursion (λ y. row_key_cmp e.0 y ≡ Less) (keys_of later) → AllByRecursion (λ row. row_key_cmp e.0 row.key ≡ Less) (rows_of later)
    all [] above = tt
    all (x ∷ later) above = (above.0, all later above.1)

module _ (before : RowKey → Bool) where
  abbrev pub first_of : Entries → Option RowKey
  first_of es = key_of (row_behind before (rows_of es))

  first_is : (e : RowKey × Option Attr) (es : Entries) (b : Bool) → before e.0 ≡ b → first_of (e ∷ es) ≡ cond b (first_of es) (Some e.0)
  first_is e es true is = ap (λ x. key_of (cond x (row_behind before (rows_of es)) (Some (record { key = e.0; attr = e.1 })))) is
  first_is e es false is = ap (λ x. key_of (cond x (row_behind before (rows_of es)) (Some (record { key = e.0; attr = e.1 })))) is

  -- the entries from a key on that is below all that are not before the start
  pub from_floor : (floor : RowKey) (es : Entries) → ((key : RowKey) → before key ≡ false → row_key_cmp floor key ≡ Less) → first_of (filter (λ e. is_le (row_key_cmp floor e.0) && true) es) ≡ first_of es
  from_floor floor [] below = refl
  from_floor floor (e ∷ es) below = go (before e.0) refl (from_floor floor es below)
    where
      kept : first_of (filter (λ x. is_le (row_key_cmp floor x.0) && true) es) ≡ first_of es → (b : Bool) → is_le (row_key_cmp floor e.0) ≡ b → before e.0 ≡ true → first_of (filter (λ x. is_le (row_key_cmp floor x.0) && true) (e ∷ es)) ≡ first_of (e ∷ es)
      kept rest true is passed =
          ap (λ b. first_of (cond (b && true) (e ∷ filter (λ x. is_le (row_key_cmp floor x.0) && true) es) (filter (λ x. is_le (row_key_cmp floor x.0) && true) es))) is
          ∙ first_is e (filter (λ x. is_le (row_key_cmp floor x.0) && true) es) true passed ∙ rest ∙ sym (first_is e es true passed)
      kept rest false is passed =
          ap (λ b. first_of (cond (b && true) (e ∷ filter (λ x. is_le (row_key_cmp floor x.0) && true) es) (filter (λ x. is_le (row_key_cmp floor x.0) && true) es))) is
          ∙ rest ∙ sym (first_is e es true passed)

      go : (b : Bool) → before e.0 ≡ b → first_of (filter (λ x. is_le (row_key_cmp floor x.0) && true) es) ≡ first_of es → first_of (filter (λ x. is_le (row_key_cmp floor x.0) && true) (e ∷ es)) ≡ first_of (e ∷ es)
      go true passed rest = kept rest (is_le (row_key_cmp floor e.0)) refl passed
      go false behind rest =
          ap (λ b. first_of (cond (b && true) (e ∷ filter (λ x. is_le (row_key_cmp floor x.0) && true) es) (filter (λ x. is_le (row_key_cmp floor x.0) && true) es))) (ap is_le (below e.0 behind))
          ∙ first_is e (filter (λ x. is_le (row_key_cmp floor x.0) && true) es) false behind ∙ sym (first_is e es false behind)

  -- ---- a loop over entries

  pub passed_one : (all rest left : Entries) (e : RowKey × Option Attr) → first_of rest ≡ first_of all → rest ≡ e ∷ left → before e.0 ≡ true → first_of left ≡ first_of all
  passed_one all rest left e so next passed = sym (first_is e left true passed) ∙ ap first_of (sym next) ∙ so

  pub found_one : (all rest left : Entries) (e : RowKey × Option Attr) → first_of rest ≡ first_of all → rest ≡ e ∷ left → before e.0 ≡ false → Some e.0 ≡ first_of all
  found_one all rest left e so next behind = sym (first_is e left false behind) ∙ ap first_of (sym next) ∙ so

  pub found_none : (all rest : Entries) → first_of rest ≡ first_of all → rest ≡ [] → None ≡ first_of all
  found_none all rest so none = ap first_of (sym none) ∙ so

all_kept : (es : Entries) → filter (λ e. true) es ≡ es
all_kept [] = refl
all_kept (e ∷ es) = ap (λ (l : Entries). e ∷ l) (all_kept es)

pub whole : (es : Entries) → filter (λ e. true && true) es ≡ es
whole es = all_kept es

pub on_ok : {T E : Type 0} (r : Result T E) (P : Type 0) → P → OnOk r P
on_ok (Ok x) P p = p
on_ok (Err e) P p = tt
