-- Disks that come back from a run, each at its place.
use Rattle.std.proofs.Common.{◌≡◌, sym, subst, ℕ, zero, suc, ◌+◌, ◌^◌, ◌<◌, List, [], ◌∷◌, length, map, Option, Some, None, arith}
use Rattle.std.specs.List.{slice_get}
use Rattle.mds_out.specs.Disk.{Image, Contents}
use Rattle.mds_out.specs.Fused.{Fused}
use Rattle.node_store.specs.Store.{Store}
use Rattle.pasts.specs.Openings.{ComeBack, LastOn, Paired}
use Rattle.simulation.specs.Payments.{LastsOn}
use Rattle.simulation.specs.Shows.{SimulationV}
use Rattle.mds_cli.specs.Disks.{LeadsTo, LeadToDisks}
use Rattle.mds_cli.specs.SoFar.{HasStopped}
use Rattle.mds_cli.specs.Streams.{Streams}
use Rattle.mds_cli.specs.Turn.{CarriesAll}
use Rattle.mds_cli.specs.declared.status.Status.{Status}

module _ {D : Type 0} (lasts : D → D → Type 0) where
  abbrev inner : Store (Fused D) → D
  inner store = store.disk.inner

  leads_to : (old : Option (Store (Fused D))) (new : List (Store (Fused D))) (s : ℕ) → LastsOn lasts old (slice_get new s) → LeadsTo lasts old (slice_get (map inner new) s)
  leads_to None [] s on = tt
  leads_to (Some store) [] s on = absurd on
  leads_to None (x ∷ new) zero on = absurd on
  leads_to (Some store) (x ∷ new) zero on = on
  leads_to old (x ∷ new) (suc s) on = leads_to old new s on

  pub leads_on : (old new : List (Store (Fused D))) (disks : List D) → disks ≡ map inner new → ((s : ℕ) → s < 2 ^ 64 → LastsOn lasts (slice_get old s) (slice_get new s)) → LeadToDisks lasts old disks
  leads_on old new disks handed on = λ s small. subst (λ ds. LeadsTo lasts (slice_get old s) (slice_get ds s)) (sym handed) (leads_to (slice_get old s) new s (on s small))

  -- the servers stood on the disks that went in
  pub come_back : (p : ℕ) (old : List D) (stores : List (Store (Fused D))) (new : List D) → Paired (λ s disk store. lasts disk store.disk.inner) p old stores → p + length old < 2 ^ 64
      → ((s : ℕ) → p + s < 2 ^ 64 → LeadsTo lasts (slice_get stores s) (slice_get new s)) → Paired (λ s. lasts) p old new
  come_back p [] [] [] on few leads = tt
  come_back p [] [] (z ∷ new) on few leads = absurd (leads 0 (omega (arith, few)))
  come_back p [] (y ∷ stores) new on few leads = absurd on
  come_back p (x ∷ old) [] new on few leads = absurd on
  come_back p (x ∷ old) (y ∷ stores) [] on few leads = absurd (leads 0 (omega (arith, few)))
  come_back p (x ∷ old) (y ∷ stores) (z ∷ new) on few leads =
      (leads 0 (omega (arith, few)) x on.0, come_back (p + 1) old stores new on.1 (omega (arith, few)) (λ s small. leads (suc s) (omega (arith, small))))

module _ {D : Type 0} (faults : D → ℕ) (lasts : D → D → Type 0) (seen : D → Contents) (images : D → Image → Type 0) (first now : Streams) (old new : SimulationV (Fused D)) (disks : List D) (handed : disks ≡ map (λ (store : Store (Fused D)). store.disk.inner) new.stores) where
  pub leads_all : CarriesAll faults lasts seen images first now old new → LeadToDisks lasts old.stores disks
  leads_all all = leads_on lasts old.stores new.stores disks handed (λ s small. (all.so_far.paid.paid s small).on)

  pub leads_stopped : (status : Status) (number : ℕ) → HasStopped faults lasts seen images status number first now old new → LeadToDisks lasts old.stores disks
  leads_stopped status number stopped = leads_on lasts old.stores new.stores disks handed (λ s small. (stopped.paid.paid s small).on)
