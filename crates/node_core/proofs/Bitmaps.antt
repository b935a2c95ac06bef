-- A node's bitmaps as they are kept: as the entries of an ordered map.
use Rattle.std.proofs.Common.{◌≡◌, ◌∙◌, sym, ap, ℕ, ◌==◌, List, Option, unwrap_or}
use Rattle.std.specs.Ordering.{nat_cmp}
use Rattle.std.specs.Cmp.{nat_cmp_total}
use Rattle.std.specs.Map.{lookup}
use Rattle.std.specs.BTreeMap.{is_at}
use Rattle.std.specs.FinMap as map
use Rattle.std.proofs.lemmas.Map.Lookups.{exact_unsigned}
use Rattle.mds_base.proofs.Maps.{get_entries}
use Rattle.mds_base.specs.declared.TheConstants.{RADIX}
use Rattle.name_hash.specs.NameHash.{hash_of}
use Rattle.chains.specs.Located.{located}
use Rattle.chains.proofs.Prefixes.{located_has}
use Rattle.chains.proofs.Sets.{root_formed}
use Rattle.bitmap.specs.Bits.{Bits, has}
use Rattle.bitmap.specs.BitSetLaws.{has_zero}
use Rattle.std.proofs.lemmas.Bool.{eqb-true}
use Rattle.node_core.specs.Nodes.{NodeV, bits_in, part_for, zero_bits}

pub bits_found : (es : List (ℕ × Bits)) (node : NodeV) (dir : ℕ) (o : Option Bits) → map.from_entries {R = nat_cmp} es ≡ node.bits → o ≡ lookup (is_at (nat_cmp dir)) es → unwrap_or o zero_bits ≡ bits_in node dir
bits_found es node dir o is found =
    ap (λ p. unwrap_or p zero_bits) (found ∙ sym (get_entries nat_cmp_total exact_unsigned es dir) ∙ ap (λ (m : map.FinMap nat_cmp Bits). map.get m dir) is)

-- partition 0 alone has every hash
pub zero_located : (node : NodeV) (dir : ℕ) (name : List ℕ) → zero_bits ≡ bits_in node dir → 0 ≡ part_for node dir name
unfolding part_for
zero_located node dir name is =
    sym (eqb-true (located RADIX (hash_of name) (λ i. i == 0)) 0 (located_has (root_formed RADIX) (hash_of name)))
    ∙ ap (λ b. located RADIX (hash_of name) b) (sym has_zero)
    ∙ ap (λ (b : Bits). located RADIX (hash_of name) (has b)) is
