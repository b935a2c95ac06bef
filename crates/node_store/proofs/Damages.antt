-- A disk that is found damaged reads as before.
use Rattle.std.proofs.Common.{◌≡◌, ◌≢◌, ◌∙◌, sym, subst, refl, ℕ, List, Option, Some, None, Result, Ok, Err, IfOk, IfErr, inl, inr}
use Rattle.std.specs.Prelude.{◌⊎◌}
use Rattle.mds_base.specs.declared.store_fault.StoreFault.{StoreFault}
use Rattle.mds_base.specs.declared.store_fault.StoreFault.TheVariants.{Device, Stopped, Damaged, Room, OutOfMemory}
use Rattle.mds_out.specs.Disk.{StaysTold}
use Rattle.node_store.specs.Reading.{IsRefusal, OnDamage}

pub on_damage : (told : Option (List ℕ)) (fault : StoreFault) (P : List ℕ → Type 0) → ((bytes : List ℕ) → told ≡ Some bytes → P bytes) → OnDamage fault told P
on_damage told Device P f = tt
on_damage told Stopped P f = tt
on_damage None (Damaged file offset damage) P f = tt
on_damage (Some bytes) (Damaged file offset damage) P f = f bytes refl
on_damage told Room P f = tt
on_damage told OutOfMemory P f = tt

-- a fault that is none of damage, of a disk that tells its file where one did before
pub no_damage : (told now : Option (List ℕ)) (fault : StoreFault) (P : List ℕ → Type 0) → StaysTold told now → IsRefusal (λ _ _ _. ⊥) now fault → OnDamage fault told P
no_damage told now Device P stays is = tt
no_damage told now Stopped P stays is = tt
no_damage None now (Damaged file offset damage) P stays is = tt
no_damage (Some bytes) None (Damaged file offset damage) P stays is = absurd stays
no_damage (Some bytes) (Some now) (Damaged file offset damage) P stays is = absurd is.1
no_damage told now Room P stays is = tt
no_damage told now OutOfMemory P stays is = tt

-- a log that holds a body was found, and was read
pub damage_read : (old mid new : Option (List ℕ)) (length : ℕ) (fault : StoreFault) → StaysTold old mid → (length ≡ 1) ⊎ (mid ≡ old) → OnDamage fault mid (λ bytes. (length ≢ 1) × (new ≡ Some bytes)) → OnDamage fault old (λ bytes. new ≡ Some bytes)
damage_read old mid new length Device stays begun still = tt
damage_read old mid new length Stopped stays begun still = tt
damage_read None mid new length (Damaged file offset damage) stays begun still = tt
damage_read (Some bytes) None new length (Damaged file offset damage) stays begun still = absurd stays
damage_read (Some bytes) (Some read) new length (Damaged file offset damage) stays (inl empty) still = absurd (still.0 empty)
damage_read (Some bytes) (Some read) new length (Damaged file offset damage) stays (inr same) still = still.1 ∙ same
damage_read old mid new length Room stays begun still = tt
damage_read old mid new length OutOfMemory stays begun still = tt

pub stays_same : (a : Option (List ℕ)) → StaysTold a a
stays_same None = tt
stays_same (Some a) = tt

pub stays_equal : (a b : Option (List ℕ)) → b ≡ a → StaysTold a b
stays_equal a b same = subst (StaysTold a) (sym same) (stays_same a)

pub stays_on : (a b c : Option (List ℕ)) → StaysTold a b → StaysTold b c → StaysTold a c
stays_on None None c p q = q
stays_on None (Some b) c p q = absurd p
stays_on (Some a) None c p q = absurd p
stays_on (Some a) (Some b) None p q = q
stays_on (Some a) (Some b) (Some c) p q = tt

-- what holds of any value, or of any error
pub on_each_ok : {T E : Type 0} (result : Result T E) (P : T → Type 0) → ((x : T) → P x) → IfOk result P
on_each_ok (Ok x) P f = f x
on_each_ok (Err e) P f = tt

pub on_each_err : {T E : Type 0} (result : Result T E) (P : E → Type 0) → ((e : E) → P e) → IfErr result P
on_each_err (Ok x) P f = tt
on_each_err (Err e) P f = f e
