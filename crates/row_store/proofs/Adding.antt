-- The rows that changed are added to a table in the order of their keys.
use Rattle.std.proofs.Common.{◌≡◌, ◌∙◌, sym, ap, subst, refl, ℕ, List, [], ◌∷◌, ◌++◌, length, Option, Some}
use Rattle.std.specs.Prelude.{IfSome}
use Rattle.std.specs.List.{AllByRecursion, slice_get}
use Rattle.std.specs.List.Sorted.{IsStrictlySortedBy}
use Rattle.std.specs.Map.{keys_of}
use Rattle.std.specs.BTreeMap.{BTreeMap}
use Rattle.std.specs.BTreeMap as tree
use Rattle.std.specs.declared.cmp.Ordering.TheVariants.{Less}
use Rattle.std.proofs.lemmas.Map.Entries.{btree_map_get_place}
use Rattle.std.proofs.lemmas.Map.Keys.{sorted_head, sorted_tail}
use Rattle.mds_base.specs.declared.attr.Attr.{Attr}
use Rattle.mds_base.specs.declared.row_key.RowKey.{RowKey}
use Rattle.mds_base.specs.RowKeys.{row_key_cmp}
use Rattle.mds_base.proofs.RowMaps.{row_keys_total}
use Rattle.row_store.specs.Rows.{rows_of}
use Rattle.sorted_table.specs.Building.{IsBuilt, AllBelow}
use Rattle.sorted_table.specs.declared.builder.Builder.{Builder}
use Rattle.sorted_table.specs.declared.table_row.TableRow.{TableRow}
use Rattle.sorted_table.specs.TableRows.{IsMarked}

abbrev pub Entries : Type 0
Entries = List (RowKey × Option Attr)

-- the row that an entry makes
abbrev row_of : RowKey × Option Attr → TableRow
row_of e = record { key = e.0; attr = e.1 }

-- ---- an entry in the midst of others

first_has : (P : RowKey → Type 0) (done rest : Entries) (e : RowKey × Option Attr) → AllByRecursion P (keys_of (done ++ e ∷ rest)) → P e.0
first_has P [] rest e all = all.0
first_has P (d ∷ done) rest e all = first_has P done rest e all.1

below_all : (done rest : Entries) (e : RowKey × Option Attr) → IsStrictlySortedBy row_key_cmp (keys_of (done ++ e ∷ rest)) → AllBelow (rows_of done) e.0
below_all [] rest e sorted = tt
below_all (d ∷ done) rest e sorted = (first_has (λ key. row_key_cmp d.0 key ≡ Less) done rest e (sorted_head row_key_cmp d.0 (keys_of (done ++ e ∷ rest)) sorted), below_all done rest e (sorted_tail row_key_cmp d.0 (keys_of (done ++ e ∷ rest)) sorted))

at_place : (done rest : Entries) (e : RowKey × Option Attr) → slice_get (done ++ e ∷ rest) (length done) ≡ Some e
at_place [] rest e = refl
at_place (d ∷ done) rest e = at_place done rest e

split_on : (done rest : Entries) (e : RowKey × Option Attr) → done ++ e ∷ rest ≡ (done ++ e ∷ []) ++ rest
split_on [] rest e = refl
split_on (d ∷ done) rest e = ap (λ l. d ∷ l) (split_on done rest e)

no_more : (done : Entries) → done ++ [] ≡ done
no_more [] = refl
no_more (d ∷ done) = ap (λ l. d ∷ l) (no_more done)

one_row : (done : Entries) (e : RowKey × Option Attr) → rows_of (done ++ e ∷ []) ≡ rows_of done ++ row_of e ∷ []
one_row [] e = refl
one_row (d ∷ done) e = ap (λ l. row_of d ∷ l) (one_row done e)

-- ---- a loop over all of them

-- these entries are left, and the rows of those before them were added
pub record IsAdding (entries rest : Entries) (old now : Builder) (seen seen' : Option (List ℕ)) : Type 0 where
  pub done : Entries
  pub split : entries ≡ done ++ rest
  pub built : IsBuilt old [] seen → IsBuilt now (rows_of done) seen'

pub adding_none : (entries rest : Entries) (old : Builder) (seen : Option (List ℕ)) → rest ≡ entries → IsAdding entries rest old old seen seen
adding_none entries rest old seen whole = record { done = []; split = sym whole; built = λ built. built }

pub adding_more : (entries rest left : Entries) (e : RowKey × Option Attr) (old now new : Builder) (seen seen' seen'' : Option (List ℕ)) → IsAdding entries rest old now seen seen' → rest ≡ e ∷ left → IsStrictlySortedBy row_key_cmp (keys_of entries)
    → ((rows : List TableRow) → IsBuilt now rows seen' → AllBelow rows e.0 → IsBuilt new (rows ++ row_of e ∷ []) seen'') → IsAdding entries left old new seen seen''
adding_more entries rest left e old now new seen seen' seen'' so next sorted more =
    let split : entries ≡ so.done ++ e ∷ left = so.split ∙ ap (λ l. so.done ++ l) next in
    record {
      done = so.done ++ e ∷ [];
      split = split ∙ split_on so.done left e;
      built = λ built. subst (λ (rows : List TableRow). IsBuilt new rows seen'') (sym (one_row so.done e))
          (more (rows_of so.done) (so.built built) (below_all so.done left e (subst (λ (es : Entries). IsStrictlySortedBy row_key_cmp (keys_of es)) split sorted)));
    }

pub adding_all : (entries rest : Entries) (old now : Builder) (seen seen' : Option (List ℕ)) → IsAdding entries rest old now seen seen' → rest ≡ [] → IsBuilt old [] seen → IsBuilt now (rows_of entries) seen'
adding_all entries rest old now seen seen' so none built =
    subst (λ (es : Entries). IsBuilt now (rows_of es) seen') (sym (so.split ∙ ap (λ l. so.done ++ l) none ∙ no_more so.done)) (so.built built)

-- what the next entry says has a spelling
pub next_marked : (m : BTreeMap RowKey (Option Attr)) (rest left : Entries) (e : RowKey × Option Attr) (old now : Builder) (seen seen' : Option (List ℕ)) → IsAdding m.entries rest old now seen seen' → rest ≡ e ∷ left
    → tree.IsOrdered row_key_cmp m → ((key : RowKey) → IfSome (tree.get row_key_cmp m key) IsMarked) → IsMarked e.1
next_marked m rest left e old now seen seen' so next ordered marked =
    let split : m.entries ≡ so.done ++ e ∷ left = so.split ∙ ap (λ l. so.done ++ l) next in
    subst (λ (found : Option (Option Attr)). IfSome found IsMarked)
    (btree_map_get_place row_keys_total m (length so.done) e.0 e.1 ordered (ap (λ (es : Entries). slice_get es (length so.done)) split ∙ at_place so.done left e)) (marked e.0)
