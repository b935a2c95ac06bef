-- What bringing up one server says of its disk.
use Rattle.std.proofs.Common.{◌≡◌, sym, subst, refl, ℕ, ◌≤◌, true, false, List, [], ◌++◌, Option, Some, None, is_some, arith}
use Rattle.std.specs.Prelude.{map as list_map}
use Rattle.mds_base.specs.declared.setup.Setup.{Setup}
use Rattle.mds_base.specs.declared.store_fault.StoreFault.{StoreFault}
use Rattle.mds_base.specs.declared.store_fault.StoreFault.TheVariants.{Device, Stopped, Damaged, Room, OutOfMemory}
use Rattle.mds_out.specs.Disk.{Image, Contents, Tells, LeavesOnly}
use Rattle.mds_out.specs.Fault.{Rose}
use Rattle.mds_out.specs.Fused.{Fused}
use Rattle.mds_out.specs.Known.{OnTold}
use Rattle.node_core.specs.Nodes.{NodeAndRows}
use Rattle.node_store.specs.Stands.{FileStandsFor, opened_store}
use Rattle.node_store.specs.Damage.{IsDamaged}
use Rattle.node_store.specs.Reading.{IsRefusal, IsBad, OnDamage}
use Rattle.node_store.specs.Store.{Store, KeepsStore, KeepsAny, StandsForAny, LeavesOpened}
use Rattle.pasts.specs.Openings.{IsHandedBack, IsUpOn, IsCounted, IsOpenFault, WasOpened}

tells_still : (old new : Option (List ℕ)) → Tells old new (λ before now. Unit {0}) → is_some old ≡ true → is_some new ≡ true
tells_still None new stays some = absurd (let n : false ≡ true = some in cc)
tells_still (Some bytes) None stays some = absurd stays
tells_still (Some bytes) (Some now) stays some = refl

pub where_told : (told : Option (List ℕ)) (P : Type 0) → OnTold told (λ bytes. P) → is_some told ≡ true → P
where_told None P h some = absurd (let n : false ≡ true = some in cc)
where_told (Some bytes) P h some = h

-- the disk still tells its file, and whatever it stood for it stands for, or for that opened
pub handed : {D : Type 0} (lasts : D → D → Type 0) (seen : D → Contents) (images : D → Image → Type 0) (moment : D → ℕ) (since : D → ℕ → Image → Type 0)
    → ((disk : D) (t : ℕ) (image : Image) → t ≤ moment disk → images disk image → since disk t image)
    → (setup : Setup) (s : ℕ) (old new : D) → lasts old new → Tells (seen old 1) (seen new 1) (λ before now. Unit {0})
    → LeavesOpened moment since (seen old) (images old) s setup old new → IsHandedBack lasts seen images setup s old new
handed lasts seen images moment since counts setup s old new on stays leaves = record {
  lasts' = on;
  told = tells_still (seen old 1) (seen new 1) stays;
  left = λ some stores keeps image among.
      let l : LeavesOnly moment since old new (λ image. StandsForAny s setup (stores ++ list_map opened_store stores) (image 1)) =
      where_told (seen old 1) ((stores : List NodeAndRows) → KeepsAny (images old) s setup stores → LeavesOnly moment since old new (λ image. StandsForAny s setup (stores ++ list_map opened_store stores) (image 1))) leaves some stores keeps in
      l.each image (counts new (moment old) image l.later among);
}

pub open_fault : {D : Type 0} (faults : D → ℕ) (seen : D → Contents) (setup : Setup) (s : ℕ) (old new : D) (fault : StoreFault) → IsRefusal (IsBad s setup) (seen old 1) fault
    → OnDamage fault (seen old 1) (λ bytes. seen new 1 ≡ Some bytes) → (fault ≡ Device → Rose (faults old) (faults new)) → IsOpenFault faults seen setup s old new fault
open_fault faults seen setup s old new Device refused still device = device refl
open_fault faults seen setup s old new Stopped refused still device = refused
open_fault faults seen setup s old new (Damaged file offset damage) refused still device = (refused.0, both (seen old 1) refused.1 still)
  where
    both : (told : Option (List ℕ)) → OnTold told (λ bytes. IsDamaged s setup bytes offset damage) → OnTold told (λ bytes. seen new 1 ≡ Some bytes) → OnTold told (λ bytes. IsDamaged s setup bytes offset damage × (seen new 1 ≡ Some bytes))
    both None p q = tt
    both (Some bytes) p q = (p, q)
open_fault faults seen setup s old new Room refused still device = refused
open_fault faults seen setup s old new OutOfMemory refused still device = tt

-- the server that is up on the disk, once a fuse is round it
pub fused_up : {D : Type 0} (lasts : D → D → Type 0) (seen : D → Contents) (images : D → Image → Type 0) (setup : Setup) (s : ℕ) (old : D) (store : Store D) (fused : Store (Fused D))
    → fused ≡ record { disk = record { inner = store.disk; left = None; refused = 0; refused_changes = 0 }; server = store.server; setup = store.setup; log = store.log; up = store.up; doubt = store.doubt }
    → (store.server ≡ s) × (store.setup ≡ setup) → store.doubt ≡ [] → ((st : NodeAndRows) → store.up ≡ Some st → OnTold (seen store.disk 1) (λ _. KeepsStore (images store.disk) s setup st)) → OnTold (seen old 1) (λ bytes. (st : NodeAndRows) × FileStandsFor s setup bytes st × (store.up ≡ Some (opened_store st))) → IsHandedBack lasts seen images setup s old store.disk
    → IsUpOn lasts seen images setup s old fused
fused_up lasts seen images setup s old store fused is named sure keeps opened back =
    subst (IsUpOn lasts seen images setup s old) (sym is) (record { server = named.0; setup' = named.1; sure = sure; keeps = keeps; opened = opened; back = back })

-- no call of which failed
pub fused_counted : {D : Type 0} (faults : D → ℕ) (old : D) (store : Store D) (fused : Store (Fused D))
    → fused ≡ record { disk = record { inner = store.disk; left = None; refused = 0; refused_changes = 0 }; server = store.server; setup = store.setup; log = store.log; up = store.up; doubt = store.doubt }
    → faults store.disk ≡ faults old → IsCounted faults old fused
fused_counted faults old store fused is same = subst (IsCounted faults old) (sym is) (same, refl)

-- the disk of a server that was opened on it
pub was_opened : {D : Type 0} (faults : D → ℕ) (lasts : D → D → Type 0) (seen : D → Contents) (images : D → Image → Type 0) (setup : Setup) (s : ℕ) (old new : D) (store : Store (Fused D)) → IsUpOn lasts seen images setup s old store → IsCounted faults old store
    → new ≡ store.disk.inner → WasOpened faults seen images setup s old new
was_opened faults lasts seen images setup s old new store up counted same =
    subst (WasOpened faults seen images setup s old) (sym same) (record { stood = stood_at (seen old 1) up.opened; told = up.back.told; sound = counted.0 })
  where
    stood_at : (told : Option (List ℕ)) → OnTold told (λ bytes. (st : NodeAndRows) × FileStandsFor s setup bytes st × (store.up ≡ Some (opened_store st)))
        → OnTold told (λ bytes. (st : NodeAndRows) × FileStandsFor s setup bytes st × OnTold (seen store.disk.inner 1) (λ _. KeepsStore (images store.disk.inner) s setup (opened_store st)))
    stood_at None h = tt
    stood_at (Some bytes) h = (h.0, h.1, up.keeps (opened_store h.0) h.2)
