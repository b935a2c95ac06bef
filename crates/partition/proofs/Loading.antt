-- The edits of a load, as they are found row by row, and edits that are made one after another.
use Rattle.std.proofs.Common.{◌≡◌, ◌∙◌, sym, ap, refl, ℕ, suc, ◌+◌, ◌-◌, ◌<◌, ◌≤◌, Bool, true, false, cond, List, [], ◌∷◌, ◌++◌, length, take, drop, get_or, append_assoc, Option, Some, None, is_some, arith, add-one, drop-cons, subst}
use Rattle.std.specs.Prelude.{◌||◌}
use Rattle.std.specs.Ordering.{eq_by_cmp}
use Rattle.std.specs.FinMap as map
use Rattle.std.proofs.lemmas.List.{append-nil, take_more, take_all, drop_all}
use Rattle.mds_base.specs.declared.attr.Attr.{Attr}
use Rattle.mds_base.specs.declared.edit.Edit.TheVariants.{Put}
use Rattle.mds_base.specs.declared.row.Row.{Row}
use Rattle.mds_base.specs.declared.row_key.RowKey.{RowKey}
use Rattle.mds_base.specs.RowKeys.{RowMap, row_key_cmp, edited_rows}
use Rattle.mds_base.proofs.RowMaps.{row_keys_total}
use Rattle.partition.specs.declared.edits.RowEdit.{RowEdit}
use Rattle.partition.specs.Rows.{written, load_edits}
use Rattle.name_hash.specs.RowPlace.{row_key}

-- one edit more
pub written_more : (rows : RowMap) (edits : List RowEdit) (edit : RowEdit) → written rows (edits ++ edit ∷ []) ≡ edited_rows (written rows edits) edit.key edit.edit
written_more rows [] edit = refl
written_more rows (e ∷ edits) edit = written_more (edited_rows rows e.key e.edit) edits edit

-- the edits up to a place, and the one there
pub made_more : (rows now new : RowMap) (edits : List RowEdit) (at : ℕ) (edit : RowEdit) → at < length edits → edit ≡ get_or edits at edit → now ≡ written rows (take at edits)
    → new ≡ edited_rows now edit.key edit.edit → new ≡ written rows (take (at + 1) edits)
made_more rows now new edits at edit below read so_far one =
    one ∙ ap (λ m. edited_rows m edit.key edit.edit) so_far ∙ sym (written_more rows (take at edits) edit)
    ∙ ap (λ e. written rows (take at edits ++ e ∷ [])) read ∙ ap (written rows) (sym (take_more edits at edit below))

-- the rows that a load adds, looked for up to a place: what was found, and what is still to be found, is all; a key is
-- there once these are added where it was added or was there before
pub record SoFar (rows : RowMap) (dir part : ℕ) (load : List Row) (at : ℕ) (edits : List RowEdit) (added : RowMap) : Type 0 where
  pub all : edits ++ load_edits (written rows edits) dir part (drop at load) ≡ load_edits rows dir part load
  pub there : (key : RowKey) → is_some (map.get (written rows edits) key) ≡ (is_some (map.get added key) || is_some (map.get rows key))

pub nothing_yet : (rows : RowMap) (dir part : ℕ) (load : List Row) (edits : List RowEdit) (added : RowMap) → edits ≡ [] → added ≡ map.empty → SoFar rows dir part load 0 edits added
nothing_yet rows dir part load edits added none empty = subst (λ es. SoFar rows dir part load 0 es added) (sym none) (subst (SoFar rows dir part load 0 []) (sym empty) (record {
  all = refl;
  there = λ key. sym (ap (λ o. is_some o || is_some (map.get rows key)) (map.get-empty row_key_cmp key));
}))

module _ (rows : RowMap) (dir part : ℕ) (load : List Row) (at : ℕ) (edits : List RowEdit) (added : RowMap) (row : Row) (key : RowKey) (there : Bool) where
  abbrev next_edits : Bool → List RowEdit
  next_edits b = cond b (load_edits (written rows edits) dir part (drop (at + 1) load))
      ((record { key = row_key dir part row.name; edit = Put row.attr }) ∷ load_edits (map.insert (written rows edits) (row_key dir part row.name) row.attr) dir part (drop (at + 1) load))

  here : at < length load → row ≡ get_or load at row → drop at load ≡ row ∷ drop (at + 1) load
  here below read = drop-cons load at row below ∙ ap (λ r. r ∷ drop (suc at) load) (sym read) ∙ ap (λ n. row ∷ drop n load) (sym (add-one at))

  found : SoFar rows dir part load at edits added → key ≡ row_key dir part row.name → there ≡ (is_some (map.get added key) || is_some (map.get rows key)) → is_some (map.get (written rows edits) (row_key dir part row.name)) ≡ there
  found s k t = ap (λ q. is_some (map.get (written rows edits) q)) (sym k) ∙ s.there key ∙ sym t

  rest : SoFar rows dir part load at edits added → at < length load → row ≡ get_or load at row → key ≡ row_key dir part row.name → there ≡ (is_some (map.get added key) || is_some (map.get rows key))
      → edits ++ next_edits there ≡ load_edits rows dir part load
  rest s below read k t =
      ap (λ b. edits ++ next_edits b) (sym (found s k t)) ∙ ap (λ more. edits ++ load_edits (written rows edits) dir part more) (sym (here below read)) ∙ s.all

  -- a row that is there already is not added
  pub is_skipped : SoFar rows dir part load at edits added → at < length load → row ≡ get_or load at row → key ≡ row_key dir part row.name → there ≡ (is_some (map.get added key) || is_some (map.get rows key))
      → there ≡ true → SoFar rows dir part load (at + 1) edits added
  is_skipped s below read k t is = record { all = ap (λ b. edits ++ next_edits b) (sym is) ∙ rest s below read k t; there = s.there }

  once_more : (b c : Bool) (o m r : Option Attr) → is_some m ≡ (is_some o || is_some r) → is_some (cond b (Some row.attr) m) ≡ (is_some (cond b (Some row.attr) o) || is_some r)
  once_more true c o m r e = refl
  once_more false c o m r e = e

  -- another one is
  pub is_added : (new : List RowEdit) (more : RowMap) (copy : RowKey) → SoFar rows dir part load at edits added → at < length load → row ≡ get_or load at row → key ≡ row_key dir part row.name
      → there ≡ (is_some (map.get added key) || is_some (map.get rows key)) → there ≡ false → copy ≡ key → more ≡ map.insert added copy row.attr
      → new ≡ edits ++ (record { key = key; edit = Put row.attr }) ∷ [] → SoFar rows dir part load (at + 1) new more
  is_added new more copy s below read k t is same put push =
      let edit : RowEdit = record { key = row_key dir part row.name; edit = Put row.attr } in
      let now : new ≡ edits ++ edit ∷ [] = push ∙ ap (λ q. edits ++ (record { key = q; edit = Put row.attr }) ∷ []) k in
      let then : written rows (edits ++ edit ∷ []) ≡ map.insert (written rows edits) (row_key dir part row.name) row.attr = written_more rows edits edit in
      let add : more ≡ map.insert added (row_key dir part row.name) row.attr = put ∙ ap (λ q. map.insert added q row.attr) (same ∙ k) in
      subst (λ es. SoFar rows dir part load (at + 1) es more) (sym now) (subst (SoFar rows dir part load (at + 1) (edits ++ edit ∷ [])) (sym add) (record {
        all = append_assoc edits (edit ∷ []) _ ∙ ap (λ m. edits ++ edit ∷ load_edits m dir part (drop (at + 1) load)) then ∙ ap (λ b. edits ++ next_edits b) (sym is) ∙ rest s below read k t;
        there = λ q. ap (λ m. is_some (map.get m q)) then ∙ ap is_some (map.get-insert row_keys_total (written rows edits) (row_key dir part row.name) row.attr q)
            ∙ once_more (eq_by_cmp row_key_cmp q (row_key dir part row.name)) true (map.get added q) (map.get (written rows edits) q) (map.get rows q) (s.there q)
            ∙ sym (ap (λ o. is_some o || is_some (map.get rows q)) (map.get-insert row_keys_total added (row_key dir part row.name) row.attr q));
      }))

pub all_found : (rows : RowMap) (dir part : ℕ) (load : List Row) (at : ℕ) (edits : List RowEdit) (added : RowMap) → SoFar rows dir part load at edits added → length load ≤ at → edits ≡ load_edits rows dir part load
all_found rows dir part load at edits added s past =
    sym (append-nil edits) ∙ ap (λ more. edits ++ load_edits (written rows edits) dir part more) (sym (drop_all at load past)) ∙ s.all
