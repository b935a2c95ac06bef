-- What a partition keeps of a client, and the row of a name, once a change was carried out.
use Rattle.std.proofs.Common.{◌≡◌, ◌∙◌, sym, ap, refl, ℕ, ◌+◌, ◌<◌, length, List, Option, Some, None, cond, unwrap_or, Bool, true, false, [], ◌∷◌, inl, inr, suc, ◌%◌, ◌^◌, ◌≤◌, arith, pow_pos, pow_mono, mod-lt}
use Rattle.std.specs.declared.cmp.Ordering.{Ordering}
use Rattle.std.specs.Ordering.{nat_cmp, eq_by_cmp}
use Rattle.std.specs.Cmp.{IsTotalOrder, nat_cmp_total, eq_by_cmp_equiv}
use Rattle.std.specs.FinMap as map
use Rattle.std.specs.FinMap.{find}
use Rattle.std.specs.Prelude.{map as list_map}
use Rattle.std.proofs.lemmas.Cmp.{then_total, on_total}
use Rattle.std.proofs.lemmas.Map.Lookups.{exact_pairs, exact_unsigned}
use Rattle.mds_base.specs.declared.attr.Attr.{Attr}
use Rattle.mds_base.specs.declared.call.Call.{Call}
use Rattle.mds_base.specs.declared.reply.Final.{Final}
use Rattle.mds_base.specs.declared.reply.Reply.TheVariants.{Said}
use Rattle.mds_base.specs.declared.row_key.RowKey.{RowKey}
use Rattle.mds_base.specs.declared.edit.Edit.{Edit}
use Rattle.mds_base.specs.declared.edit.Edit.TheVariants.{Keep, Put, Take}
use Rattle.mds_base.specs.Entries.{Place, Entries, edited, edited_entry}
use Rattle.mds_base.specs.PlainRules.{given_by}
use Rattle.mds_base.specs.RowKeys.{RowMap, edited_rows}
use Rattle.mds_base.proofs.Maps.{insert_apart, remove_apart}
use Rattle.mds_base.proofs.Places.{edited_here, places_total}
use Rattle.mds_base.proofs.RowMaps.{row_keys_total, exact_row_keys}
use Rattle.partition.specs.declared.partition.Partition.{Partition}
use Rattle.partition.specs.Serving.{empty_part, part_noted}
use Rattle.node_core.proofs.Keys.{same_or_apart}
use Rattle.node_core.specs.Nodes.{NodeV, PartKey, PartMap, part_cmp, part_in, bits_in, part_for, session_in, noted_in, row_in, rows_after, edit_in, count_after, new_node, part_cleared, cleared, cleared_part, parts_cleared}
use Rattle.mds_base.specs.declared.setup.Setup.{Setup}
use Rattle.name_hash.specs.RowPlace.{row_key}
use Rattle.mds_base.specs.declared.TheConstants.{RADIX}
use Rattle.name_hash.specs.NameHash.{hash_of}
use Rattle.chains.specs.Located.{located, run}
use Rattle.chains.proofs.RunLengths.{run_le}
use Rattle.bitmap.specs.Bits.{has}

pub parts_total : IsTotalOrder part_cmp
parts_total = then_total (on_total (λ (p : PartKey). p.0) nat_cmp_total) (on_total (λ (p : PartKey). p.1) nat_cmp_total)

pub exact_parts : map.IsAntisymmetric part_cmp
exact_parts = exact_pairs nat_cmp nat_cmp exact_unsigned exact_unsigned

pub insert_here : {K X : Type 0} {R : K → K → Ordering} → IsTotalOrder R → (m : map.FinMap R X) (k : K) (v : X) → map.get (map.insert m k v) k ≡ Some v
insert_here {R = R} total m k v = map.get-insert total m k v k ∙ ap (λ b. cond b (Some v) (map.get m k)) ((eq_by_cmp_equiv total).refl k)

pub remove_here : {K X : Type 0} {R : K → K → Ordering} → IsTotalOrder R → (m : map.FinMap R X) (k : K) → map.get (map.remove m k) k ≡ None
remove_here {R = R} total m k = map.get-remove total m k k ∙ ap (λ b. cond b None (map.get m k)) ((eq_by_cmp_equiv total).refl k)

-- what stands at a key and is put there again changes nothing
pub insert_own : {K X : Type 0} {R : K → K → Ordering} → IsTotalOrder R → map.IsAntisymmetric R → (m : map.FinMap R X) (k : K) (v : X) → map.get m k ≡ Some v → map.insert m k v ≡ m
insert_own total exact m k v is = map.same_map total exact _ _ (λ q. elim (same_or_apart total exact q k) [
  | inl e ↦ ap (map.get (map.insert m k v)) e ∙ insert_here total m k v ∙ sym is ∙ ap (map.get m) (sym e)
  | inr e ↦ insert_apart total exact m k v q e
])

row_edit_here : (rows : RowMap) (key : RowKey) (edit : Edit) → map.get (edited_rows rows key edit) key ≡ edited_entry edit (map.get rows key)
row_edit_here rows key Keep = refl
row_edit_here rows key (Put attr) = insert_here row_keys_total rows key attr
row_edit_here rows key Take = remove_here row_keys_total rows key

row_edit_apart : (rows : RowMap) (key : RowKey) (edit : Edit) (other : RowKey) → (other ≡ key → ⊥) → map.get (edited_rows rows key edit) other ≡ map.get rows other
row_edit_apart rows key Keep other differ = refl
row_edit_apart rows key (Put attr) other differ = insert_apart row_keys_total exact_row_keys rows key attr other differ
row_edit_apart rows key Take other differ = remove_apart row_keys_total exact_row_keys rows key other differ

pub row_here : (rows : RowMap) (dir part : ℕ) (name : List ℕ) (call : Call) (said : Final) → row_in (rows_after rows dir part name call said) dir part name ≡ edited_entry (edit_in rows dir part name call said) (row_in rows dir part name)
unfolding row_in rows_after
row_here rows dir part name call said = row_edit_here rows (row_key dir part name) (edit_in rows dir part name call said)

pub row_apart : (rows : RowMap) (dir part : ℕ) (name : List ℕ) (call : Call) (said : Final) (other_dir other_part : ℕ) (other : List ℕ)
    → (other_dir ≡ dir → other_part ≡ part → other ≡ name → ⊥)
    → row_in (rows_after rows dir part name call said) other_dir other_part other ≡ row_in rows other_dir other_part other
unfolding row_in rows_after
row_apart rows dir part name call said other_dir other_part other differ =
    row_edit_apart rows (row_key dir part name) (edit_in rows dir part name call said) (row_key other_dir other_part other)
    (λ e. differ (ap (λ (k : RowKey). k.dir) e) (ap (λ (k : RowKey). k.part) e) (ap (λ (k : RowKey). k.name) e))

-- the partition that was changed, and the others
abbrev noted_part : NodeV → RowMap → ℕ → ℕ → List ℕ → ℕ → ℕ → Call → Final → Partition
noted_part node rows dir part name client seq call said =
    part_noted (part_in node dir part) (record { client = client; seq = seq; said = said }) (count_after node rows dir part name call said)

part_here : (node : NodeV) (rows : RowMap) (dir part : ℕ) (name : List ℕ) (client seq : ℕ) (call : Call) (said : Final)
    → part_in (noted_in node rows dir part name client seq call said) dir part ≡ noted_part node rows dir part name client seq call said
unfolding noted_in
part_here node rows dir part name client seq call said = ap (λ o. unwrap_or o (empty_part node.floor)) (insert_here parts_total node.parts (dir, part) (noted_part node rows dir part name client seq call said))

part_apart : (node : NodeV) (rows : RowMap) (dir part : ℕ) (name : List ℕ) (client seq : ℕ) (call : Call) (said : Final) (other : PartKey)
    → (◌≡◌ {A = PartKey} other (dir, part) → ⊥)
    → map.get (noted_in node rows dir part name client seq call said).parts other ≡ map.get node.parts other
unfolding noted_in
part_apart node rows dir part name client seq call said other differ = insert_apart parts_total exact_parts node.parts (dir, part) (noted_part node rows dir part name client seq call said) other differ

pub session_here : (node : NodeV) (rows : RowMap) (dir part : ℕ) (name : List ℕ) (client seq : ℕ) (call : Call) (said : Final)
    → session_in (noted_in node rows dir part name client seq call said) dir part client ≡ Some (record { seq = seq; said = said })
unfolding session_in
session_here node rows dir part name client seq call said =
    ap (λ (p : Partition). map.get p.sessions client) (part_here node rows dir part name client seq call said)
    ∙ insert_here nat_cmp_total (part_in node dir part).sessions client (record { seq = seq; said = said })

-- another client of the same partition
pub session_beside : (node : NodeV) (rows : RowMap) (dir part : ℕ) (name : List ℕ) (client seq : ℕ) (call : Call) (said : Final) (other : ℕ)
    → (other ≡ client → ⊥)
    → session_in (noted_in node rows dir part name client seq call said) dir part other ≡ session_in node dir part other
unfolding session_in
session_beside node rows dir part name client seq call said other differ =
    ap (λ (p : Partition). map.get p.sessions other) (part_here node rows dir part name client seq call said)
    ∙ insert_apart nat_cmp_total exact_unsigned (part_in node dir part).sessions client (record { seq = seq; said = said }) other differ

-- a client of another partition
pub session_apart : (node : NodeV) (rows : RowMap) (dir part : ℕ) (name : List ℕ) (client seq : ℕ) (call : Call) (said : Final) (other_dir other_part other : ℕ)
    → (◌≡◌ {A = PartKey} (other_dir, other_part) (dir, part) → ⊥)
    → session_in (noted_in node rows dir part name client seq call said) other_dir other_part other ≡ session_in node other_dir other_part other
unfolding session_in noted_in
session_apart node rows dir part name client seq call said other_dir other_part other differ =
    ap (λ o. map.get (unwrap_or o (empty_part node.floor)).sessions other) (part_apart node rows dir part name client seq call said (other_dir, other_part) differ)

pub noted_server : (node : NodeV) (rows : RowMap) (dir part : ℕ) (name : List ℕ) (client seq : ℕ) (call : Call) (said : Final) → (noted_in node rows dir part name client seq call said).server ≡ node.server
unfolding noted_in
noted_server node rows dir part name client seq call said = refl

pub noted_setup : (node : NodeV) (rows : RowMap) (dir part : ℕ) (name : List ℕ) (client seq : ℕ) (call : Call) (said : Final) → (noted_in node rows dir part name client seq call said).setup ≡ node.setup
unfolding noted_in
noted_setup node rows dir part name client seq call said = refl

pub noted_next : (node : NodeV) (rows : RowMap) (dir part : ℕ) (name : List ℕ) (client seq : ℕ) (call : Call) (said : Final) → (noted_in node rows dir part name client seq call said).next ≡ node.next + length (given_by call (Said said))
unfolding noted_in
noted_next node rows dir part name client seq call said = refl

-- ---- a node without its sessions: it keeps nothing of any client, and has none to lose

abbrev on_part : Option Partition → Option Partition
on_part None = None
on_part (Some part) = Some (part_cleared part)

find_one : (b : Bool) (part : Partition) (rest bare : Option Partition) → bare ≡ on_part rest → cond b (Some (part_cleared part)) bare ≡ on_part (cond b (Some part) rest)
find_one true part rest bare e = refl
find_one false part rest bare e = e

find_cleared : (es : List (PartKey × Partition)) (q : PartKey) → find part_cmp q (list_map cleared_part es) ≡ on_part (find part_cmp q es)
find_cleared [] q = refl
find_cleared (e ∷ es) q = find_one (eq_by_cmp part_cmp q e.0) e.1 (find part_cmp q es) (find part_cmp q (list_map cleared_part es)) (find_cleared es q)

get_cleared : (parts : PartMap) (q : PartKey) → map.get (parts_cleared parts) q ≡ on_part (map.get parts q)
get_cleared parts q =
    map.get-from_entries parts_total (list_map cleared_part (map.entries parts)) q
    ∙ find_cleared (map.entries parts) q ∙ ap on_part (sym (map.get-entries parts q))

none_of : (o : Option Partition) (floor client : ℕ) → map.get (unwrap_or (on_part o) (empty_part floor)).sessions client ≡ None
none_of None floor client = map.get-empty nat_cmp client
none_of (Some part) floor client = map.get-empty nat_cmp client

pub session_cleared : (node : NodeV) (dir part client : ℕ) → session_in (cleared node) dir part client ≡ None
unfolding session_in
session_cleared node dir part client =
    ap (λ o. map.get (unwrap_or o (empty_part node.floor)).sessions client) (get_cleared node.parts (dir, part)) ∙ none_of (map.get node.parts (dir, part)) node.floor client

on_part_twice : (o : Option Partition) → on_part (on_part o) ≡ on_part o
on_part_twice None = refl
on_part_twice (Some part) = refl

parts_twice : (parts : PartMap) → parts_cleared (parts_cleared parts) ≡ parts_cleared parts
parts_twice parts = map.same_map parts_total exact_parts (parts_cleared (parts_cleared parts)) (parts_cleared parts)
    (λ q. get_cleared (parts_cleared parts) q ∙ ap on_part (get_cleared parts q) ∙ on_part_twice (map.get parts q) ∙ sym (get_cleared parts q))

no_parts : parts_cleared map.empty ≡ map.empty
no_parts = map.same_map parts_total exact_parts (parts_cleared map.empty) map.empty
    (λ q. get_cleared map.empty q ∙ ap on_part (map.get-empty part_cmp q) ∙ sym (map.get-empty part_cmp q))

-- cleared twice is cleared once, and a new node stays as it is
pub cleared_twice : (node : NodeV) → cleared (cleared node) ≡ cleared node
cleared_twice node = ap (λ (parts : PartMap). record node { parts = parts }) (parts_twice node.parts)

pub cleared_new : (server : ℕ) (setup : Setup) → cleared (new_node server setup) ≡ new_node server setup
cleared_new server setup = ap (λ (parts : PartMap). record (new_node server setup) { parts = parts }) no_parts

-- a new node keeps nothing of any client either
pub session_new : (server : ℕ) (setup : Setup) (dir part client : ℕ) → session_in (new_node server setup) dir part client ≡ None
unfolding session_in
session_new server setup dir part client =
    ap (λ o. map.get (unwrap_or o (empty_part 0)).sessions client) (map.get-empty part_cmp (dir, part)) ∙ map.get-empty nat_cmp client

-- a partition that is located is one of a directory's
pub part_fits : (node : NodeV) (dir : ℕ) (name : List ℕ) → part_for node dir name < 1024
unfolding part_for located
part_fits node dir name =
    let n : ℕ = run RADIX (λ i. has (bits_in node dir) (hash_of name % 2 ^ suc i)) in
    let few : n ≤ 10 = run_le RADIX (λ i. has (bits_in node dir) (hash_of name % 2 ^ suc i)) in
    let low : hash_of name % 2 ^ n < 2 ^ n = mod-lt (hash_of name) (pow_pos n) in
    omega (arith, low, pow_mono {i = n} {j = 10} few)
