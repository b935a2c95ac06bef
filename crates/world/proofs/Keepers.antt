-- Who keeps what: which partitions their servers keep, and which partition holds a name. Every concern of the invariant
-- is stated over these; that nothing splits yet is said here alone.
use Rattle.std.proofs.Common.{◌≡◌, ◌∙◌, sym, ap, subst, refl, unwrap_or, ℕ, zero, suc, ◌%◌, ◌^◌, ◌<◌, ◌==◌, Bool, true, List, arith}
use Rattle.std.proofs.Math.Nat.{mod-one}
use Rattle.std.proofs.lemmas.Bool.{eqb-true}
use Rattle.mds_base.specs.declared.TheConstants.{RADIX}
use Rattle.chains.specs.Located.{located, run}
use Rattle.chains.proofs.RunLengths.{run_before}
use Rattle.bitmap.specs.Bits.{has}
use Rattle.name_hash.specs.NameHash.{hash_of}
use Rattle.std.specs.Ordering.{nat_cmp}
use Rattle.std.specs.FinMap as map
use Rattle.mds_base.specs.declared.call.Call.{Call}
use Rattle.mds_base.specs.declared.reply.Final.{Final}
use Rattle.mds_base.specs.declared.setup.Setup.{Setup}
use Rattle.mds_base.specs.RowKeys.{RowMap}
use Rattle.bitmap.specs.BitSetLaws.{has_zero}
use Rattle.node_core.specs.Nodes.{NodeV, bits_in, zero_bits, part_for, new_node, noted_in}

pub record Keepers : Type 0 where
  -- whether its server keeps a partition, by directory and number
  pub kept : ℕ → ℕ → Bool
  -- the partition that holds a name of a directory
  pub holder : ℕ → List ℕ → ℕ

abbrev pub IsKept : Keepers → ℕ → ℕ → Type 0
IsKept who dir part = who.kept dir part ≡ true

-- nothing splits: partition 0 alone is kept, and it holds each name
unfoldable pub keepers : Keepers
keepers = record { kept = λ dir part. part == 0; holder = λ dir name. 0 }

-- partition 0 of each directory is kept
pub root_kept : (dir : ℕ) → IsKept keepers dir 0
unfolding keepers
root_kept dir = refl

pub zero_holder : (dir : ℕ) (name : List ℕ) → keepers.holder dir name ≡ 0
unfolding keepers
zero_holder dir name = refl

-- each number of a server's bitmap is that of a partition which is kept
abbrev pub KeepsBits : Keepers → NodeV → Type 0
KeepsBits who node = (dir part : ℕ) → has (bits_in node dir) part ≡ true → IsKept who dir part

by_run : (h : ℕ) (kept : ℕ → Bool) → kept 0 ≡ true → (n : ℕ) → ((i : ℕ) → i < n → kept (h % 2 ^ suc i) ≡ true) → kept (h % 2 ^ n) ≡ true
by_run h kept root zero each = ap kept (mod-one h) ∙ root
by_run h kept root (suc n) each = each n (omega arith)

-- what is located in a set of kept partitions is kept
pub located_by : (r h : ℕ) (set kept : ℕ → Bool) → kept 0 ≡ true → ((x : ℕ) → set x ≡ true → kept x ≡ true) → kept (located r h set) ≡ true
unfolding located
located_by r h set kept root within =
    by_run h kept root (run r (λ i. set (h % 2 ^ suc i))) (λ i lt. within (h % 2 ^ suc i) (run_before r (λ j. set (h % 2 ^ suc j)) i lt))

-- the partition that a server locates for a name as its own holds the name
pub own_holder : (node : NodeV) (dir : ℕ) (name : List ℕ) → KeepsBits keepers node → keepers.holder dir name ≡ part_for node dir name
unfolding part_for keepers
own_holder node dir name kept =
    sym (eqb-true (located RADIX (hash_of name) (has (bits_in node dir))) 0
    (located_by RADIX (hash_of name) (has (bits_in node dir)) (keepers.kept dir) (root_kept dir) (kept dir)))

-- a change that is noted tells a server of no partition
pub noted_knows : (who : Keepers) (node : NodeV) (rows : RowMap) (dir part : ℕ) (name : List ℕ) (client seq : ℕ) (call : Call) (said : Final) → KeepsBits who node → KeepsBits who (noted_in node rows dir part name client seq call said)
unfolding noted_in
noted_knows who node rows dir part name client seq call said knows = knows

-- a new server knows partition 0 alone
pub new_knows : (server : ℕ) (setup : Setup) → KeepsBits keepers (new_node server setup)
new_knows server setup dir part e =
    let at_zero : has zero_bits part ≡ true = sym (ap (λ o. has (unwrap_or o zero_bits) part) (map.get-empty nat_cmp dir)) ∙ e in
    subst (IsKept keepers dir) (sym (eqb-true part 0 (sym (ap (λ (f : ℕ → Bool). f part) has_zero) ∙ at_zero))) (root_kept dir)
