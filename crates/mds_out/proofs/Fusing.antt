-- A call that the fuse refused.
use Rattle.std.proofs.Common.{◌≡◌, ℕ, ◌^◌, ◌<◌, Some, None, Option, Err, true, inl, refl, sym, subst, arith}
use Rattle.mds_out.specs.declared.disk.DiskFault.TheVariants.{Device}
use Rattle.mds_out.specs.Disk.{Image, Contents, Lengths, IsUnchanged, IsReading, IsChanging}
use Rattle.mds_out.specs.Fused.{Fused, fused_faults, fused_changes, is_blown, look_refused, OutlastsBy, FailsBy}
use Rattle.mds_out.specs.Known.{OnTold}

-- a fuse that refuses is armed
armed : (left : Option ℕ) → is_blown left ≡ true → left ≡ None → ⊥
armed None blown is = cc
armed (Some k) blown is = cc

known : (size : Option ℕ) → OnTold size (λ n. size ≡ Some n)
known None = tt
known (Some n) = refl

-- the disk is as it was
pub refused_unchanged : {D : Type 0} (seen : D → Contents) (sizes : D → Lengths) (old new : Fused D) → new ≡ look_refused old
    → IsUnchanged (seen old.inner) (seen new.inner) (sizes old.inner) (sizes new.inner)
refused_unchanged {D} seen sizes old new is =
    let P : Fused D → Type 0 = λ f. IsUnchanged (seen old.inner) (seen f.inner) (sizes old.inner) (sizes f.inner) in
    subst P (sym is) (record { bytes = λ file. refl; lengths = λ file. known (sizes old.inner file) })

module _ {D : Type 0} (faults : D → ℕ) (lasts fails : D → D → Type 0) where
  -- a refused call is counted as a fault
  pub refused_changing : {T : Type 0} (here : (disk : D) → lasts disk disk) (old new : Fused D) → is_blown old.left ≡ true → old.refused < 2 ^ 64 → new ≡ look_refused old
      → IsChanging {T = T} (fused_faults faults) (OutlastsBy lasts faults) (FailsBy fails faults) old new (Err Device)
  refused_changing {T} here old new blown small is =
      let P : Fused D → Type 0 = λ f. IsChanging {T = T} (fused_faults faults) (OutlastsBy lasts faults) (FailsBy fails faults) old f (Err Device) in
      subst P (sym is) (record {
        cause = record { later = omega arith; device = λ failed. omega arith; memory = λ other. cc; kept = tt };
        lasts = record { inner = here old.inner; later = omega arith; more = omega arith; unarmed = λ none. absurd (armed old.left blown none) };
        failed = λ device. record { rose = omega arith; unarmed = λ none. absurd (armed old.left blown none) };
      })

module _ {D : Type 0} (seen : D → Contents) (sizes : D → Lengths) (images : D → Image → Type 0) (moment : D → ℕ) (since : D → ℕ → Image → Type 0)
    (faults changes : D → ℕ) (lasts fails : D → D → Type 0) where
  pub refused_reading : {T : Type 0} (here : (disk : D) → lasts disk disk) (old new : Fused D) → is_blown old.left ≡ true → old.refused < 2 ^ 64 → new ≡ look_refused old
      → IsReading {T = T} (λ f. seen f.inner) (λ f. sizes f.inner) (λ f. images f.inner) (λ f. moment f.inner) (λ f. since f.inner) (fused_faults faults) (fused_changes changes) (OutlastsBy lasts faults) (FailsBy fails faults) old new (Err Device)
  refused_reading {T} here old new blown small is =
      let call : IsChanging {T = T} (fused_faults faults) (OutlastsBy lasts faults) (FailsBy fails faults) old (look_refused old) (Err Device) =
      refused_changing faults lasts fails here old (look_refused old) blown small refl in
      let P : Fused D → Type 0 = λ f. IsReading {T = T} (λ f. seen f.inner) (λ f. sizes f.inner) (λ f. images f.inner) (λ f. moment f.inner) (λ f. since f.inner) (fused_faults faults) (fused_changes changes) (OutlastsBy lasts faults) (FailsBy fails faults) old f (Err Device) in
      subst P (sym is) (record {
        unchanged = record { bytes = λ file. refl; lengths = λ file. known (sizes old.inner file) };
        crash = record { no_other = λ image left. left; all = λ image left. left };
        time = record { later = omega arith; nothing_else = λ t image le left. inl left; keeps = λ t image le left. left };
        no_memory = λ other. cc;
        cause = call.cause;
        lasts = call.lasts;
        failed = call.failed;
        changes = refl;
      })
