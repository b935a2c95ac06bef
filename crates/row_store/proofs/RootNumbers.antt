-- What the slots know of the root in force.
use Rattle.std.proofs.Common.{◌≡◌, sym, subst, refl, ℕ, ◌<◌, Option, Some, None, true, arith}
use Rattle.root_slots.specs.declared.root.Root.{Root}
use Rattle.root_slots.specs.declared.root_slots.Force.{Force}
use Rattle.root_slots.specs.declared.root_slots.RootSlots.{RootSlots}
use Rattle.root_slots.specs.Slots.{HasNumber, IsAbove}
use Rattle.row_store.specs.declared.row_store.InForce.{InForce}
use Rattle.row_store.specs.Parts.{IsNextNumber}
use Rattle.row_store.specs.Turning.{IsRootMerged, IsMergedRoot}
use Rattle.row_store.specs.Value.{AreNumbered}

pub made_of : (slots : RootSlots) (force : Option InForce) (now : InForce) → AreNumbered slots force → force ≡ Some now → slots.made ≡ true
made_of slots None now numbered was = cc
made_of slots (Some force) now numbered was = numbered.0

above_by : (slot : Option Force) (old new : ℕ) → HasNumber slot old → old < new → IsAbove slot new
above_by None old new is less = absurd is
above_by (Some force) old new is less = omega (arith, is, less)

pub above_of : (slots : RootSlots) (force : Option InForce) (number : ℕ) → AreNumbered slots force → IsNextNumber force number → IsAbove slots.force number
above_of slots None number numbered next = subst (λ f. IsAbove f number) (sym numbered.0) tt
above_of slots (Some force) number numbered next = above_by slots.force force.root.number number numbered.1 next

pub record IsReplaced (force : Option InForce) (newer file : ℕ) (root : Root) : Type 0 where
  pub now : InForce
  pub was : force ≡ Some now
  pub next : IsRootMerged now.root root newer file

pub replaced_by : (force : Option InForce) (newer file : ℕ) (root : Root) → IsMergedRoot force newer file root → IsReplaced force newer file root
replaced_by None newer file root is = absurd is
replaced_by (Some force) newer file root is = record { now = force; was = refl; next = is }

pub next_of : (force : Option InForce) (newer file : ℕ) (root : Root) → IsMergedRoot force newer file root → IsNextNumber force root.number
next_of None newer file root is = absurd is
next_of (Some force) newer file root is = is.number
