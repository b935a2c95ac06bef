-- Where a request on a name goes on: at another server, later, or in the partition that is located.
use Rattle.std.proofs.Common.{◌≡◌, ◌∙◌, ap, refl, ℕ, Bool, true, false, cond, not, is_some, List, Option, Some, None}
use Rattle.mds_base.specs.declared.reply.Final.{Final}
use Rattle.mds_base.specs.declared.reply.Reply.{Reply}
use Rattle.mds_base.proofs.Finals.{same_finals}
use Rattle.bitmap.specs.Bits.{Bits}
use Rattle.sessions.specs.declared.kept.Judged.{Judged}
use Rattle.sessions.specs.declared.kept.Judged.TheVariants.{New, Again, Old}
use Rattle.node_core.specs.Nodes.{NodeV, owns, part_for, frozen_at, bits_in}
use Rattle.node_core.specs.Rules.{Outcome, Silent, Redirects, Waits, Looks, Repeats, Carries, by_judged, unless_frozen, reached}
use Rattle.node_core.specs.Serving.{carries, is_new_change}

module _ (node : NodeV) (dir : ℕ) (name : List ℕ) (o : Outcome) where
  pub reached_away : owns node dir (part_for node dir name) ≡ false → reached node dir name o ≡ Redirects (bits_in node dir)
  reached_away away = ap (λ b. cond b (unless_frozen (frozen_at node dir name) (part_for node dir name) o) (Redirects (bits_in node dir))) away

  reached_own : owns node dir (part_for node dir name) ≡ true → (f : Option ℕ) → frozen_at node dir name ≡ f → reached node dir name o ≡ unless_frozen f (part_for node dir name) o
  reached_own own f is =
      ap (λ b. cond b (unless_frozen (frozen_at node dir name) (part_for node dir name) o) (Redirects (bits_in node dir))) own
      ∙ ap (λ x. unless_frozen x (part_for node dir name) o) is

  pub reached_later : owns node dir (part_for node dir name) ≡ true → (depth : ℕ) → frozen_at node dir name ≡ Some depth → reached node dir name o ≡ Waits (part_for node dir name) depth
  reached_later own depth is = reached_own own (Some depth) is

  pub reached_here : owns node dir (part_for node dir name) ≡ true → frozen_at node dir name ≡ None → reached node dir name o ≡ o
  reached_here own is = reached_own own None is

-- a look carries nothing out, wherever it goes on
pub look_carries : (b : Bool) (f : Option ℕ) (part : ℕ) (bits : Bits) (reply : Reply) (said : Final) → carries (cond b (unless_frozen f part (Looks reply)) (Redirects bits)) said ≡ false
look_carries true None part bits reply said = refl
look_carries true (Some depth) part bits reply said = refl
look_carries false f part bits reply said = refl

pub carries_is : (o : Outcome) (said : Final) → carries o said ≡ true → o ≡ Carries said
carries_is Silent said e = cc
carries_is (Redirects bits) said e = cc
carries_is (Waits part depth) said e = cc
carries_is (Looks reply) said e = cc
carries_is (Repeats kept) said e = cc
carries_is (Carries own) said e = ap Carries (same_finals own said e)

-- what is carried out is carried out here
pub record CarriesHere (node : NodeV) (dir : ℕ) (name : List ℕ) (o : Outcome) (said : Final) : Type 0 where
  pub own : owns node dir (part_for node dir name) ≡ true
  pub free : frozen_at node dir name ≡ None
  pub here : o ≡ Carries said

unless_carries : (f : Option ℕ) (part : ℕ) (o : Outcome) (said : Final) → unless_frozen f part o ≡ Carries said → (f ≡ None) × (o ≡ Carries said)
unless_carries None part o said e = (refl, e)
unless_carries (Some depth) part o said e = cc

cond_carries : (b : Bool) (f : Option ℕ) (part : ℕ) (bits : Bits) (o : Outcome) (said : Final) → cond b (unless_frozen f part o) (Redirects bits) ≡ Carries said → (b ≡ true) × ((f ≡ None) × (o ≡ Carries said))
cond_carries true f part bits o said e = (refl, unless_carries f part o said e)
cond_carries false f part bits o said e = cc

pub reached_carries : (node : NodeV) (dir : ℕ) (name : List ℕ) (o : Outcome) (said : Final) → reached node dir name o ≡ Carries said → CarriesHere node dir name o said
reached_carries node dir name o said e =
    let h = cond_carries (owns node dir (part_for node dir name)) (frozen_at node dir name) (part_for node dir name) (bits_in node dir) o said e in
    record { own = h.0; free = h.1.0; here = h.1.1 }

pub no_look : (node : NodeV) (dir : ℕ) (name : List ℕ) (reply : Reply) (said : Final) → reached node dir name (Looks reply) ≡ Carries said → ⊥
no_look node dir name reply said e = let h = (reached_carries node dir name (Looks reply) said e).here in cc

-- a change that is carried out is new, with its own reply
pub judged_new : (j : Judged) (own said : Final) → by_judged j own ≡ Carries said → (is_new_change j ≡ true) × (said ≡ own)
judged_new New own said e = (refl, cc)
judged_new (Again kept) own said e = cc
judged_new (Old kept) own said e = cc

pub is_free : (f : Option ℕ) → not (is_some f) ≡ true → f ≡ None
is_free None e = refl
is_free (Some depth) e = cc
