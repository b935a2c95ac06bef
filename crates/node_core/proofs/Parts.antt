-- A node's partitions as they are kept: as the entries of an ordered map.
use Rattle.std.proofs.Common.{◌≡◌, ◌∙◌, sym, ap, subst, refl, ℕ, ◌≤◌, List, length, Option, Some, None, unwrap_or, cond, IsSome, Result, Ok, Err, OnOk, OnErr, inl, inr}
use Rattle.std.specs.Map.{lookup}
use Rattle.std.specs.BTreeMap.{is_at}
use Rattle.std.specs.FinMap as map
use Rattle.mds_base.proofs.Maps.{get_entries, one_put, one_taken, insert_apart, remove_apart}
use Rattle.mds_base.specs.declared.session.Session.{Session}
use Rattle.sessions.specs.declared.kept.Judged.TheVariants.{New}
use Rattle.sessions.specs.Kept.{judged, judge_kept}
use Rattle.partition.specs.declared.partition.Partition.{Partition}
use Rattle.mds_base.specs.RowKeys.{RowMap}
use Rattle.partition.specs.declared.edits.RowEdit.{RowEdit}
use Rattle.partition.specs.Serving.{empty_part, part_noted, IsInPart}
use Rattle.partition.proofs.Laws.{first_none}
use Rattle.node_core.specs.Nodes.{NodeV, PartKey, PartMap, part_cmp, part_in, session_in}
use Rattle.node_core.specs.Edits.{parts_noted}
use Rattle.node_core.proofs.Keys.{same_or_apart}
use Rattle.node_core.proofs.Views.{parts_total, exact_parts, insert_here, remove_here, insert_own}

abbrev pub PartEntries : Type 0
PartEntries = List (PartKey × Partition)

-- what a look-up of the entries finds is the partition
pub part_found : (es : PartEntries) (node : NodeV) (dir part : ℕ) (o : Option Partition) → map.from_entries {R = part_cmp} es ≡ node.parts → o ≡ lookup (is_at (part_cmp (dir, part))) es
    → unwrap_or o (empty_part node.floor) ≡ part_in node dir part
part_found es node dir part o is found =
    ap (λ p. unwrap_or p (empty_part node.floor)) (found ∙ sym (get_entries parts_total exact_parts es (dir, part)) ∙ ap (λ (m : PartMap). map.get m (dir, part)) is)

-- a partition that is there is written through what was lent
module _ (es : PartEntries) (key : PartKey) (part : Partition) (found : Some part ≡ lookup (is_at (part_cmp key)) es) where
  is_there : map.get (map.from_entries {R = part_cmp} es) key ≡ Some part
  is_there = get_entries parts_total exact_parts es key ∙ sym found

  part_written : (fs : PartEntries) (new : Partition) → (IsSome (lookup (is_at (part_cmp key)) es) → (q : PartKey) → lookup (is_at (part_cmp q)) fs ≡ cond (is_at (part_cmp key) q) (Some new) (lookup (is_at (part_cmp q)) es))
      → map.from_entries {R = part_cmp} fs ≡ map.insert (map.from_entries es) key new
  part_written fs new puts = one_put parts_total exact_parts es fs key new (puts (subst IsSome found refl))

  pub part_unchanged : (fs : PartEntries) (new : Partition) → new ≡ part → (IsSome (lookup (is_at (part_cmp key)) es) → (q : PartKey) → lookup (is_at (part_cmp q)) fs ≡ cond (is_at (part_cmp key) q) (Some new) (lookup (is_at (part_cmp q)) es))
      → map.from_entries {R = part_cmp} fs ≡ map.from_entries {R = part_cmp} es
  part_unchanged fs new same puts = part_written fs new puts ∙ ap (map.insert (map.from_entries es) key) same ∙ insert_own parts_total exact_parts (map.from_entries es) key part is_there

  pub noted_there : (fs : PartEntries) (floor : ℕ) (session : Session) (count : ℕ) (new : Partition) → new ≡ part_noted part session count
      → (IsSome (lookup (is_at (part_cmp key)) es) → (q : PartKey) → lookup (is_at (part_cmp q)) fs ≡ cond (is_at (part_cmp key) q) (Some new) (lookup (is_at (part_cmp q)) es))
      → map.from_entries {R = part_cmp} fs ≡ parts_noted (map.from_entries es) floor key session count
  noted_there fs floor session count new same puts =
      part_written fs new puts
      ∙ ap (map.insert (map.from_entries es) key) (same ∙ ap (λ o. part_noted (unwrap_or o (empty_part floor)) session count) (sym is_there))

  -- what is new in the map is new in the partition that was found
  pub new_there : (floor client seq : ℕ) → judged (unwrap_or (map.get (map.from_entries {R = part_cmp} es) key) (empty_part floor)).sessions client seq ≡ New → judged part.sessions client seq ≡ New
  new_there floor client seq new = subst (λ o. judged (unwrap_or o (empty_part floor)).sessions client seq ≡ New) is_there new

-- a partition that is not there is put, and taken away again
module _ (es : PartEntries) (key : PartKey) (none : None ≡ lookup (is_at (part_cmp key)) es) where
  is_absent : map.get (map.from_entries {R = part_cmp} es) key ≡ None
  is_absent = get_entries parts_total exact_parts es key ∙ sym none

  pub noted_new : (fs : PartEntries) (floor : ℕ) (session : Session) (count : ℕ) (new : Partition) → new ≡ part_noted (empty_part floor) session count
      → ((q : PartKey) → lookup (is_at (part_cmp q)) fs ≡ cond (is_at (part_cmp key) q) (Some new) (lookup (is_at (part_cmp q)) es))
      → map.from_entries {R = part_cmp} fs ≡ parts_noted (map.from_entries es) floor key session count
  noted_new fs floor session count new same puts =
      one_put parts_total exact_parts es fs key new puts
      ∙ ap (map.insert (map.from_entries es) key) (same ∙ ap (λ o. part_noted (unwrap_or o (empty_part floor)) session count) (sym is_absent))

  put_back : (m : PartMap) (new : Partition) → map.get m key ≡ None → map.remove (map.insert m key new) key ≡ m
  put_back m new is = map.same_map parts_total exact_parts _ _ (λ q. elim (same_or_apart parts_total exact_parts q key) [
    | inl e ↦ ap (map.get (map.remove (map.insert m key new) key)) e ∙ remove_here parts_total (map.insert m key new) key ∙ sym is ∙ ap (map.get m) (sym e)
    | inr e ↦ remove_apart parts_total exact_parts (map.insert m key new) key q e ∙ insert_apart parts_total exact_parts m key new q e
  ])

  pub taken_back : (fs gs : PartEntries) (new : Partition)
      → ((q : PartKey) → lookup (is_at (part_cmp q)) fs ≡ cond (is_at (part_cmp key) q) (Some new) (lookup (is_at (part_cmp q)) es))
      → ((q : PartKey) → lookup (is_at (part_cmp q)) gs ≡ cond (is_at (part_cmp key) q) None (lookup (is_at (part_cmp q)) fs))
      → map.from_entries {R = part_cmp} gs ≡ map.from_entries {R = part_cmp} es
  taken_back fs gs new puts takes =
      one_taken parts_total exact_parts fs gs key takes
      ∙ ap (λ (m : PartMap). map.remove m key) (one_put parts_total exact_parts es fs key new puts)
      ∙ put_back (map.from_entries es) new is_absent

  pub new_absent : (floor client seq : ℕ) → judged (unwrap_or (map.get (map.from_entries {R = part_cmp} es) key) (empty_part floor)).sessions client seq ≡ New → judged (empty_part floor).sessions client seq ≡ New
  new_absent floor client seq new = subst (λ o. judged (unwrap_or o (empty_part floor)).sessions client seq ≡ New) is_absent new

pub on_ok : {T E : Type 0} (r : Result T E) (P Q : Type 0) → (P → Q) → OnOk r P → OnOk r Q
on_ok (Ok x) P Q f h = f h
on_ok (Err e) P Q f h = tt

pub on_err : {T E : Type 0} (r : Result T E) (P Q : Type 0) → (P → Q) → OnErr r P → OnErr r Q
on_err (Ok x) P Q f h = tt
on_err (Err e) P Q f h = f h

-- a change that is new to its client's session is new in the map
pub new_in : (node : NodeV) (parts : PartMap) (floor dir part client seq : ℕ) → parts ≡ node.parts → floor ≡ node.floor → judge_kept (session_in node dir part client) seq ≡ New
    → judged (unwrap_or (map.get parts (dir, part)) (empty_part floor)).sessions client seq ≡ New
unfolding session_in
new_in node parts floor dir part client seq same low new =
    ap (λ (m : PartMap). judged (unwrap_or (map.get m (dir, part)) (empty_part floor)).sessions client seq) same
    ∙ ap (λ f. judged (unwrap_or (map.get node.parts (dir, part)) (empty_part f)).sessions client seq) low ∙ new

-- of one edit at most none is made in part
pub none_in_part : (rows left : RowMap) (edits : List RowEdit) → length edits ≤ 1 → IsInPart rows edits left → left ≡ rows
none_in_part rows left edits few made = first_none rows left edits made.made few made.few made.rows'
