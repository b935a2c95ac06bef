-- A server on a disk: what its parts say of it.
use Rattle.std.specs.Prelude.{IsErrOf, IsErrAnd}
use Rattle.std.proofs.Common.{◌≡◌, ◌∙◌, sym, ap, subst, refl, ℕ, List, [], Bool, true, false, cond, Option, Some, None, Ok, Err, Result, inl, inr, IsTrue, arith}
use Rattle.mds_base.specs.declared.setup.Setup.{Setup}
use Rattle.mds_base.specs.declared.store_fault.StoreFault.{StoreFault}
use Rattle.mds_base.specs.declared.store_fault.StoreFault.TheVariants.{Device}
use Rattle.records.specs.declared.record.Record.{Record}
use Rattle.gate_log.specs.Log.{HoldsLog}
use Rattle.gate_log.specs.LogState as logs
use Rattle.gate_log.specs.LogState.{LogState}
use Rattle.mds_out.specs.Disk.{Image, Contents, Lengths, LeavesOnly}
use Rattle.mds_out.specs.Fault.{Rose}
use Rattle.mds_out.specs.Known.{OnTold}
use Rattle.mds_out.proofs.Moments.{started, both}
use Rattle.gate_log.proofs.Scans.{unchanged_twice, same_twice}
use Rattle.node_core.specs.Nodes.{NodeAndRows}
use Rattle.node_store.specs.Disks.{IsStoreReading, IsStoreChanging}
use Rattle.node_store.specs.Stands.{FileStandsFor, opened_store}
use Rattle.node_store.specs.Store.{Store, HoldsStore, IsKept, LeavesDoubt, IsDownAt, KeepsStore, StandsForEither}

-- ---- what the disk keeps

keeps_told : (told : Option (List ℕ)) (images : Image → Type 0) (server : ℕ) (setup : Setup) (log : LogState) (store : NodeAndRows) → log.file ≡ 1 → OnTold told (logs.IsKept log images) → OnTold told (HoldsStore server setup log store) → OnTold told (λ _. KeepsStore images server setup store)
keeps_told None images server setup log store file kept holds = tt
keeps_told (Some bytes) images server setup log store file kept holds = λ image is.
    let same : image 1 ≡ bytes = ap image (sym file) ∙ kept.durable image is in
    inr (holds.bodies, subst (λ (b : List ℕ). HoldsLog holds.bodies b) (sym same) holds.is.holds, holds.stands)

-- each image of the disk of a server that is up stands for its store
pub keeps_store : (seen : Contents) (sizes : Lengths) (images : Image → Type 0) (server : ℕ) (setup : Setup) (log : LogState) (store : NodeAndRows) → IsKept seen sizes images server setup log store → OnTold (seen 1) (λ _. KeepsStore images server setup store)
keeps_store seen sizes images server setup log store k = keeps_told (seen 1) images server setup log store k.file (subst (λ (f : ℕ). OnTold (seen f) (logs.IsKept log images)) k.file k.ready.told) k.holds

still_told : {D : Type 0} (moment : D → ℕ) (since : D → ℕ → Image → Type 0) (images : Image → Type 0) (a : D) (told : Option (List ℕ)) (server : ℕ) (setup : Setup) (store next : NodeAndRows) → ((image : Image) → since a (moment a) image → images image) → OnTold told (λ _. KeepsStore images server setup store) → OnTold told (λ _. LeavesOnly moment since a a (StandsForEither server setup store next))
still_told moment since images a None server setup store next now keeps = tt
still_told moment since images a (Some bytes) server setup store next now keeps = started moment since a (StandsForEither server setup store next) (λ image left. inl (keeps image (now image left)))

-- where nothing was done to the disk it keeps the store at each moment
pub nothing_done : {D : Type 0} (moment : D → ℕ) (since : D → ℕ → Image → Type 0) (seen : Contents) (sizes : Lengths) (images : Image → Type 0) (a : D) (server : ℕ) (setup : Setup) (log : LogState) (store next : NodeAndRows) → ((image : Image) → since a (moment a) image → images image) → IsKept seen sizes images server setup log store
    → OnTold (seen 1) (λ _. LeavesOnly moment since a a (StandsForEither server setup store next))
nothing_done moment since seen sizes images a server setup log store next now k = still_told moment since images a (seen 1) server setup store next now (keeps_store seen sizes images server setup log store k)

down_told : (told : Option (List ℕ)) (images : Image → Type 0) (server : ℕ) (setup : Setup) (log : LogState) (store : NodeAndRows) → log.file ≡ 1 → OnTold told (logs.IsKept log images) → OnTold told (HoldsStore server setup log store) → OnTold told (λ _. LeavesDoubt images server setup log store [])
down_told None images server setup log store file kept holds = tt
down_told (Some bytes) images server setup log store file kept holds = record {
  bodies = holds.bodies;
  stands = holds.stands;
  ends = holds.is.ends;
  follow = refl;
  each = λ image is. let same : image 1 ≡ bytes = ap image (sym file) ∙ kept.durable image is in inl (subst (λ (b : List ℕ). HoldsLog holds.bodies b) (sym same) holds.is.holds);
}

-- the disk of a server that was up owes it its store once it is down
pub down_at : {D : Type 0} (seen : D → Contents) (sizes : D → Lengths) (images : D → Image → Type 0) (disk : D) (server : ℕ) (setup : Setup) (log : LogState) (store : NodeAndRows) (doubt : List Record) → IsKept (seen disk) (sizes disk) (images disk) server setup log store → doubt ≡ []
    → IsDownAt seen images (record { disk = disk; server = server; setup = setup; log = log; up = None; doubt = doubt }) store
down_at seen sizes images disk server setup log store doubt k sure = record {
  down = refl;
  told = subst (λ (d : List Record). OnTold (seen disk 1) (λ _. LeavesDoubt (images disk) server setup log store d)) (sym sure)
      (down_told (seen disk 1) (images disk) server setup log store k.file (subst (λ (f : ℕ). OnTold (seen disk f) (logs.IsKept log (images disk))) k.file k.ready.told) k.holds);
}

-- ---- the parts and the store that they show

abbrev some_store : NodeAndRows → Option NodeAndRows
some_store store = Some store

-- a server that is up with a store
pub was_up : (down : Bool) (inside store : NodeAndRows) → cond down None (Some inside) ≡ Some store → (down ≡ false) × (inside ≡ store)
was_up true inside store e = absurd (let h : None ≡ some_store store = e in cc)
was_up false inside store e = let h : some_store inside ≡ Some store = e in (refl, cc)

-- a server that is not down is up with some store
pub is_up : (down : Bool) (up : Option NodeAndRows) → down ≡ false → (up ≡ None → IsTrue down) → (store : NodeAndRows) × (up ≡ Some store)
is_up true up e tells = cc
is_up false None e tells = let never : false ≡ true = tells refl in cc
is_up false (Some store) e tells = (store, refl)

-- the store that a server's parts show
abbrev pub shown : {D : Type 0} → D → ℕ → Setup → LogState → NodeAndRows → Bool → List Record → Store D
shown disk server setup log inside down doubt = record { disk = disk; server = server; setup = setup; log = log; up = cond down None (Some inside); doubt = doubt }

-- what holds of the parts where the server is up holds of the store that they show
pub at_up : {D : Type 0} (P : Store D → NodeAndRows → Type 0) (disk : D) (server : ℕ) (setup : Setup) (log : LogState) (inside : NodeAndRows) (down : Bool) (doubt : List Record) (view : Store D) → shown disk server setup log inside down doubt ≡ view
    → (down ≡ false → P view inside) → (store : NodeAndRows) → view.up ≡ Some store → P view store
at_up P disk server setup log inside down doubt view is holds store up =
    let was = was_up down inside store (ap (λ (v : Store _). v.up) is ∙ up) in
    subst (λ (s : NodeAndRows). P view s) was.1 (holds was.0)

-- ---- an opened store

pub opened_told : (told : Option (List ℕ)) (server : ℕ) (setup : Setup) (new : NodeAndRows) → OnTold told (λ bytes. (store : NodeAndRows) × FileStandsFor server setup bytes store × (new ≡ opened_store store))
    → OnTold told (λ bytes. (store : NodeAndRows) × FileStandsFor server setup bytes store × (Some new ≡ Some (opened_store store)))
opened_told None server setup new opened = tt
opened_told (Some bytes) server setup new opened = (opened.0, opened.1, ap (λ (s : NodeAndRows). Some s) opened.2)

-- calls that change nothing, and one more
pub reads_on : {D T U V : Type 0} {seen : D → Contents} {sizes : D → Lengths} {images : D → Image → Type 0} {moment : D → ℕ} {since : D → ℕ → Image → Type 0} {faults changes : D → ℕ} {lasts fails : D → D → Type 0}
    {a b c : D} {x : T} {y : U} {z : V} → ((a b c : D) → lasts a b → lasts b c → lasts a c) → IsStoreReading seen sizes images moment since faults changes lasts fails a b (Ok x)
    → IsStoreReading seen sizes images moment since faults changes lasts fails b c (Ok y) → IsStoreReading seen sizes images moment since faults changes lasts fails a c (Ok z)
reads_on {seen = seen} {sizes = sizes} {images = images} {moment = moment} {since = since} {faults = faults} {a = a} {b = b} {c = c} lasts_on first second = record {
  unchanged = unchanged_twice (seen a) (seen b) (seen c) (sizes a) (sizes b) (sizes c) first.unchanged second.unchanged;
  crash = same_twice (images a) (images b) (images c) first.crash second.crash;
  any_moment = both moment since a b c (images a) (images b) (images a) first.any_moment second.any_moment (λ image is. is) first.crash.no_other;
  cause = record { later = omega (arith, first.cause.later, second.cause.later); device = λ is. cc; other = tt; kept = second.cause.kept ∙ first.cause.kept };
  lasts = lasts_on a b c first.lasts second.lasts;
  failed = λ is. cc;
  changes = second.changes ∙ first.changes;
}

-- an error is the same of every kind of result
err_of : {T U : Type 0} (fault other : StoreFault) → IsErrOf {T = T} (Err fault) other → IsErrOf {T = U} (Err fault) other
err_of fault other is = cc

is_err : {T : Type 0} (r : Result T StoreFault) (fault : StoreFault) → IsErrAnd r (λ e. e ≡ fault) → r ≡ Err fault
is_err (Ok x) fault came = absurd came
is_err (Err e) fault came = ap Err came

-- .. and one more that is refused
pub reads_fail : {D T U V : Type 0} {seen : D → Contents} {sizes : D → Lengths} {images : D → Image → Type 0} {moment : D → ℕ} {since : D → ℕ → Image → Type 0} {faults changes : D → ℕ} {lasts fails : D → D → Type 0}
    {a b c : D} {x : T} {fault : StoreFault} {r : Result V StoreFault} → ((a b c : D) → lasts a b → lasts b c → lasts a c) → ((a b c : D) → lasts a b → fails b c → fails a c) → IsStoreReading seen sizes images moment since faults changes lasts fails a b (Ok x)
    → IsStoreReading {T = U} seen sizes images moment since faults changes lasts fails b c (Err fault) → IsErrAnd r (λ e. e ≡ fault) → IsStoreReading seen sizes images moment since faults changes lasts fails a c r
reads_fail {U = U} {V = V} {seen = seen} {sizes = sizes} {images = images} {moment = moment} {since = since} {faults = faults} {changes = changes} {lasts = lasts} {fails = fails} {a = a} {b = b} {c = c} {fault = fault} {r = r} lasts_on fails_after first second came =
    subst (λ (s : Result V StoreFault). IsStoreReading seen sizes images moment since faults changes lasts fails a c s) (sym (is_err r fault came)) (record {
      unchanged = unchanged_twice (seen a) (seen b) (seen c) (sizes a) (sizes b) (sizes c) first.unchanged second.unchanged;
      crash = same_twice (images a) (images b) (images c) first.crash second.crash;
      any_moment = both moment since a b c (images a) (images b) (images a) first.any_moment second.any_moment (λ image is. is) first.crash.no_other;
      cause = record {
        later = omega (arith, first.cause.later, second.cause.later);
        device = λ is. subst (λ (n : ℕ). Rose n (faults c)) first.cause.kept (second.cause.device (err_of {T = V} {U = U} fault Device is));
        other = λ differ. second.cause.other differ ∙ first.cause.kept;
        kept = tt;
      };
      lasts = lasts_on a b c first.lasts second.lasts;
      failed = λ is. fails_after a b c first.lasts (second.failed (err_of {T = V} {U = U} fault Device is));
      changes = second.changes ∙ first.changes;
    })

-- the same of calls that may change something, two of which go before
pub changes_fail : {D S T U V : Type 0} {faults : D → ℕ} {lasts fails : D → D → Type 0} {a b c d : D} {x : S} {y : T} {fault : StoreFault} {r : Result V StoreFault} → ((a b c : D) → lasts a b → lasts b c → lasts a c) → ((a b c : D) → lasts a b → fails b c → fails a c)
    → IsStoreChanging faults lasts fails a b (Ok x) → IsStoreChanging faults lasts fails b c (Ok y) → IsStoreChanging {T = U} faults lasts fails c d (Err fault) → IsErrAnd r (λ e. e ≡ fault) → IsStoreChanging faults lasts fails a d r
changes_fail {U = U} {V = V} {faults = faults} {lasts = lasts} {fails = fails} {a = a} {b = b} {c = c} {d = d} {fault = fault} {r = r} lasts_on fails_after first second third came =
    let kept : faults c ≡ faults a = second.cause.kept ∙ first.cause.kept in
    let last = lasts_on a b c first.lasts second.lasts in
    subst (λ (s : Result V StoreFault). IsStoreChanging faults lasts fails a d s) (sym (is_err r fault came)) (record {
      cause = record {
        later = omega (arith, first.cause.later, second.cause.later, third.cause.later);
        device = λ is. subst (λ (n : ℕ). Rose n (faults d)) kept (third.cause.device (err_of {T = V} {U = U} fault Device is));
        other = λ differ. third.cause.other differ ∙ kept;
        kept = tt;
      };
      lasts = lasts_on a c d last third.lasts;
      failed = λ is. fails_after a c d last (third.failed (err_of {T = V} {U = U} fault Device is));
    })
