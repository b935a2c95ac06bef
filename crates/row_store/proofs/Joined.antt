-- Runs of calls of a store's disk, and refusals of its parts as its own.
use Rattle.std.proofs.Common.{◌≡◌, ◌≢◌, ◌∙◌, sym, subst, refl, ap, ℕ, ◌≤◌, Option, Some, None, Result, Ok, Err, arith}
use Rattle.std.specs.Prelude.{IsErrOf, IsErrAnd}
use Rattle.gate_log.specs.Disks.{HasLogCause}
use Rattle.gate_log.specs.declared.gate_log.LogFault.{LogFault}
use Rattle.gate_log.specs.declared.gate_log.LogFault.TheVariants as log
use Rattle.mds_base.specs.declared.store_fault.StoreFault.{StoreFault}
use Rattle.mds_base.specs.declared.store_fault.StoreFault.TheVariants.{Device, Stopped, OutOfMemory}
use Rattle.mds_out.specs.declared.disk.DiskFault.{DiskFault}
use Rattle.mds_out.specs.declared.disk.DiskFault.TheVariants as disk
use Rattle.mds_out.specs.Disk.{Image, Contents, Lengths, IsUnchanged, LeavesOnly, Elapses, HasDiskCause}
use Rattle.mds_out.specs.Fault.{Rose}
use Rattle.mds_out.specs.Known.{OnTold}
use Rattle.mds_out.proofs.Moments.{started, goes_on, both}
use Rattle.root_slots.specs.Slots.{HasRootCause}
use Rattle.root_slots.specs.declared.root_slots.RootFault.{RootFault}
use Rattle.root_slots.specs.declared.root_slots.RootFault.TheVariants as root
use Rattle.row_store.specs.Answers.{disk_fault_of, root_fault_of, log_fault_of, table_fault_of, HasStoreCause, IsStoreReading}
use Rattle.sorted_table.specs.Answers.{HasTableCause}
use Rattle.sorted_table.specs.declared.fault.TableFault.{TableFault}
use Rattle.sorted_table.specs.declared.fault.TableFault.TheVariants as table

abbrev refusal : (T : Type 0) → StoreFault → Result T StoreFault
refusal T fault = Err fault

-- ---- causes

pub cause_ok : {T : Type 0} (before now : ℕ) (done : T) → now ≡ before → HasStoreCause before now (Ok done)
cause_ok before now done same = record { later = omega (arith, same); device = λ is. cc; other = tt; kept = same }

-- a refusal that has risen where it is the device's, and else has not
cause_err : {T : Type 0} (before now : ℕ) (fault : StoreFault) → before ≤ now → (fault ≡ Device → Rose before now) → (fault ≢ Device → now ≡ before) → HasStoreCause {T = T} before now (Err fault)
cause_err {T = T} before now fault later device other = record { later = later; device = λ is. device (same_fault T fault is); other = other; kept = tt }
  where
    same_fault : (T : Type 0) (fault : StoreFault) → refusal T fault ≡ refusal T Device → fault ≡ Device
    same_fault T fault is = cc

pub cause_disk : {T U : Type 0} (before now : ℕ) (fault : DiskFault) → HasDiskCause {T = T} before now (Err fault) → HasStoreCause {T = U} before now (Err (disk_fault_of fault))
cause_disk before now disk.Device cause = cause_err before now Device cause.later (λ _. cause.device refl) (λ no. absurd (no refl))
cause_disk before now disk.OutOfMemory cause = cause_err before now OutOfMemory cause.later (λ is. cc) (λ _. cause.memory refl)

pub cause_root : {T U : Type 0} (before now : ℕ) (fault : RootFault) → HasRootCause {T = T} before now (Err fault) → HasStoreCause {T = U} before now (Err (root_fault_of fault))
cause_root before now root.Device cause = cause_err before now Device cause.later (λ _. cause.device refl) (λ no. absurd (no refl))
cause_root before now root.Stopped cause = cause_err before now Stopped cause.later (λ is. cc) (λ _. cause.other (λ is. cc))
cause_root before now (root.Bad place damage) cause = cause_err before now (root_fault_of (root.Bad place damage)) cause.later (λ is. cc) (λ _. cause.other (λ is. cc))
cause_root before now root.OutOfMemory cause = cause_err before now OutOfMemory cause.later (λ is. cc) (λ _. cause.other (λ is. cc))

pub cause_log : {T U : Type 0} (before now file : ℕ) (fault : LogFault) → HasLogCause {T = T} before now (Err fault) → HasStoreCause {T = U} before now (Err (log_fault_of file fault))
cause_log before now file log.Device cause = cause_err before now Device cause.later (λ _. cause.device refl) (λ no. absurd (no refl))
cause_log before now file log.Stopped cause = cause_err before now Stopped cause.later (λ is. cc) (λ _. cause.other (λ is. cc))
cause_log before now file (log.BadLog place) cause = cause_err before now (log_fault_of file (log.BadLog place)) cause.later (λ is. cc) (λ _. cause.other (λ is. cc))
cause_log before now file log.OutOfMemory cause = cause_err before now OutOfMemory cause.later (λ is. cc) (λ _. cause.other (λ is. cc))

pub cause_table : {T U : Type 0} (before now file : ℕ) (fault : TableFault) → HasTableCause {T = T} before now (Err fault) → HasStoreCause {T = U} before now (Err (table_fault_of file fault))
cause_table before now file table.Device cause = cause_err before now Device cause.later (λ _. cause.device refl) (λ no. absurd (no refl))
cause_table before now file (table.Damaged place damage) cause = cause_err before now (table_fault_of file (table.Damaged place damage)) cause.later (λ is. cc) (λ _. cause.other (λ is. cc))
cause_table before now file table.OutOfMemory cause = cause_err before now OutOfMemory cause.later (λ is. cc) (λ _. cause.other (λ is. cc))

-- ---- the device's refusals

pub failed_disk : {T U : Type 0} {P : Type 0} (fault : DiskFault) → (IsErrOf {T = T} (Err fault) disk.Device → P) → IsErrOf {T = U} (Err (disk_fault_of fault)) Device → P
failed_disk disk.Device failed is = failed refl
failed_disk disk.OutOfMemory failed is = cc

pub failed_root : {T U : Type 0} {P : Type 0} (fault : RootFault) → (IsErrOf {T = T} (Err fault) root.Device → P) → IsErrOf {T = U} (Err (root_fault_of fault)) Device → P
failed_root root.Device failed is = failed refl
failed_root root.Stopped failed is = cc
failed_root (root.Bad place damage) failed is = cc
failed_root root.OutOfMemory failed is = cc

pub failed_log : {T U : Type 0} {P : Type 0} (file : ℕ) (fault : LogFault) → (IsErrOf {T = T} (Err fault) log.Device → P) → IsErrOf {T = U} (Err (log_fault_of file fault)) Device → P
failed_log file log.Device failed is = failed refl
failed_log file log.Stopped failed is = cc
failed_log file (log.BadLog place) failed is = cc
failed_log file log.OutOfMemory failed is = cc

pub failed_table : {T U : Type 0} {P : Type 0} (file : ℕ) (fault : TableFault) → (IsErrOf {T = T} (Err fault) table.Device → P) → IsErrOf {T = U} (Err (table_fault_of file fault)) Device → P
failed_table file table.Device failed is = failed refl
failed_table file (table.Damaged place damage) failed is = cc
failed_table file table.OutOfMemory failed is = cc

-- ---- one call after another

pub known_on : (a b c : Option ℕ) → OnTold a (λ n. b ≡ Some n) → OnTold b (λ n. c ≡ Some n) → OnTold a (λ n. c ≡ Some n)
known_on None b c first second = tt
known_on (Some n) None c first second = cc
known_on (Some n) (Some m) c first second = second ∙ first

pub unchanged_on : (seen seen' seen'' : Contents) (sizes sizes' sizes'' : Lengths) → IsUnchanged seen seen' sizes sizes' → IsUnchanged seen' seen'' sizes' sizes'' → IsUnchanged seen seen'' sizes sizes''
unchanged_on seen seen' seen'' sizes sizes' sizes'' first second = record {
  bytes = λ file. second.bytes file ∙ first.bytes file;
  lengths = λ file. known_on (sizes file) (sizes' file) (sizes'' file) (first.lengths file) (second.lengths file);
}

pub cause_on : {T U : Type 0} (a b c : ℕ) (done : U) (result : Result T StoreFault) → HasStoreCause {T = U} a b (Ok done) → HasStoreCause b c result → HasStoreCause a c result
cause_on a b c done (Ok x) first second = cause_ok a c x (second.kept ∙ first.kept)
cause_on a b c done (Err fault) first second = record {
  later = omega (arith, first.later, second.later);
  device = λ is. omega (arith, first.kept, second.device is);
  other = λ not_device. second.other not_device ∙ first.kept;
  kept = tt;
}

-- calls that change nothing, and then more such calls
pub reads_on : {D T U : Type 0} {seen : D → Contents} {sizes : D → Lengths} {images : D → Image → Type 0} {moment : D → ℕ} {since : D → ℕ → Image → Type 0} {faults : D → ℕ} {lasts fails : D → D → Type 0}
    {a b c : D} {done : U} {result : Result T StoreFault} → ((a b c : D) → lasts a b → lasts b c → lasts a c) → ((a b c : D) → lasts a b → fails b c → fails a c)
    → IsStoreReading seen sizes images moment since faults lasts fails a b (Ok done) → IsStoreReading seen sizes images moment since faults lasts fails b c result
    → IsStoreReading seen sizes images moment since faults lasts fails a c result
reads_on {seen = seen} {sizes = sizes} {images = images} {moment = moment} {since = since} {faults = faults} {a = a} {b = b} {c = c} {done = done} {result = result} lasts_on fails_after first second = record {
  unchanged = unchanged_on (seen a) (seen b) (seen c) (sizes a) (sizes b) (sizes c) first.unchanged second.unchanged;
  crash = λ image is. first.crash image (second.crash image is);
  any_moment = both moment since a b c (images a) (images b) (images a) first.any_moment second.any_moment (λ image is. is) first.crash;
  cause = cause_on (faults a) (faults b) (faults c) done result first.cause second.cause;
  lasts = lasts_on a b c first.lasts second.lasts;
  failed = λ is. fails_after a b c first.lasts (second.failed is);
}

-- a refusal that is passed on as the answer of another call
pub reads_refused : {D T U : Type 0} {seen : D → Contents} {sizes : D → Lengths} {images : D → Image → Type 0} {moment : D → ℕ} {since : D → ℕ → Image → Type 0} {faults : D → ℕ} {lasts fails : D → D → Type 0}
    {a b : D} {fault : StoreFault} → IsStoreReading {T = T} seen sizes images moment since faults lasts fails a b (Err fault) → IsStoreReading {T = U} seen sizes images moment since faults lasts fails a b (Err fault)
reads_refused {T = T} {U = U} {faults = faults} {a = a} {b = b} {fault = fault} is = record {
  unchanged = is.unchanged;
  crash = is.crash;
  any_moment = is.any_moment;
  cause = record { later = is.cause.later; device = λ other. is.cause.device (same_refusal T U fault other); other = is.cause.other; kept = tt };
  lasts = is.lasts;
  failed = λ other. is.failed (same_refusal T U fault other);
}
  where
    same_refusal : (T U : Type 0) (fault : StoreFault) → refusal U fault ≡ refusal U Device → refusal T fault ≡ refusal T Device
    same_refusal T U fault is = let same : fault ≡ Device = cc in ap (refusal T) same

-- the same of an answer that is known to be the refusal
pub reads_passed : {D T U : Type 0} {seen : D → Contents} {sizes : D → Lengths} {images : D → Image → Type 0} {moment : D → ℕ} {since : D → ℕ → Image → Type 0} {faults : D → ℕ} {lasts fails : D → D → Type 0}
    {a b : D} {fault : StoreFault} → IsStoreReading {T = T} seen sizes images moment since faults lasts fails a b (Err fault) → (result : Result U StoreFault) → IsErrAnd result (λ x. x ≡ fault)
    → IsStoreReading {T = U} seen sizes images moment since faults lasts fails a b result
reads_passed is (Ok x) other = absurd other
reads_passed {T = T} {U = U} {seen = seen} {sizes = sizes} {images = images} {moment = moment} {since = since} {faults = faults} {lasts = lasts} {fails = fails} {a = a} {b = b} {fault = fault} is (Err x) other =
    let P : StoreFault → Type 0 = λ f. IsStoreReading {T = U} seen sizes images moment since faults lasts fails a b (Err f) in
    subst P (sym other) (reads_refused is)

-- what a call that was done answers is a matter of its caller
pub reads_as : {D T U : Type 0} {seen : D → Contents} {sizes : D → Lengths} {images : D → Image → Type 0} {moment : D → ℕ} {since : D → ℕ → Image → Type 0} {faults : D → ℕ} {lasts fails : D → D → Type 0}
    {a b : D} {done : U} → IsStoreReading seen sizes images moment since faults lasts fails a b (Ok done) → (result : Result T StoreFault) → (IsErrOf result Device → ⊥) → IsStoreReading seen sizes images moment since faults lasts fails a b result
reads_as {faults = faults} {a = a} {b = b} is result not_device = record {
  unchanged = is.unchanged;
  crash = is.crash;
  any_moment = is.any_moment;
  cause = plain result not_device;
  lasts = is.lasts;
  failed = λ device. absurd (not_device device);
}
  where
    plain : {T : Type 0} (result : Result T StoreFault) → (IsErrOf result Device → ⊥) → HasStoreCause (faults a) (faults b) result
    plain (Ok x) none = cause_ok (faults a) (faults b) x is.cause.kept
    plain (Err fault) none = record { later = is.cause.later; device = λ device. absurd (none device); other = λ _. is.cause.kept; kept = tt }

pub reads_ok : {D T U : Type 0} {seen : D → Contents} {sizes : D → Lengths} {images : D → Image → Type 0} {moment : D → ℕ} {since : D → ℕ → Image → Type 0} {faults : D → ℕ} {lasts fails : D → D → Type 0}
    {a b : D} {done : U} → IsStoreReading seen sizes images moment since faults lasts fails a b (Ok done) → (x : T) → IsStoreReading {T = T} seen sizes images moment since faults lasts fails a b (Ok x)
reads_ok is x = reads_as is (Ok x) (λ device. cc)

-- ---- what one call leaves at each moment

pub one_moment : {D : Type 0} (moment : D → ℕ) (since : D → ℕ → Image → Type 0) (images : D → Image → Type 0) (a b : D) → ((image : Image) → since a (moment a) image → images a image)
    → Elapses (moment a) (moment b) (since a) (since b) (images b) → ((image : Image) → images b image → images a image) → LeavesOnly moment since a b (images a)
one_moment moment since images a b only_now time crash = goes_on moment since a a b (images a) (images b) (started moment since a (images a) only_now) time crash

-- what is left after it is left at its last moment
pub last_moment : {D : Type 0} (moment : D → ℕ) (since : D → ℕ → Image → Type 0) (images : D → Image → Type 0) (a b : D) → ((t : ℕ) (image : Image) → t ≤ moment b → images b image → since b t image)
    → LeavesOnly moment since a b (images a) → (image : Image) → images b image → images a image
last_moment moment since images a b counts_now leaves image now = leaves.each image (counts_now (moment a) image leaves.later now)

-- no call at all
pub reads_none : {D T : Type 0} {seen : D → Contents} {sizes : D → Lengths} {images : D → Image → Type 0} {moment : D → ℕ} {since : D → ℕ → Image → Type 0} {faults : D → ℕ} {lasts fails : D → D → Type 0} (disk : D) (result : Result T StoreFault)
    → ((image : Image) → since disk (moment disk) image → images disk image) → lasts disk disk → (IsErrOf result Device → ⊥) → IsStoreReading seen sizes images moment since faults lasts fails disk disk result
reads_none {seen = seen} {sizes = sizes} {images = images} {moment = moment} {since = since} {faults = faults} disk result only_now lasts_here not_device = record {
  unchanged = record { bytes = λ file. refl; lengths = λ file. known (sizes disk file) };
  crash = λ image is. is;
  any_moment = started moment since disk (images disk) only_now;
  cause = plain result not_device;
  lasts = lasts_here;
  failed = λ device. absurd (not_device device);
}
  where
    known : (size : Option ℕ) → OnTold size (λ n. size ≡ Some n)
    known None = tt
    known (Some n) = refl

    plain : {T : Type 0} (result : Result T StoreFault) → (IsErrOf result Device → ⊥) → HasStoreCause (faults disk) (faults disk) result
    plain (Ok x) none = cause_ok (faults disk) (faults disk) x refl
    plain (Err fault) none = record { later = omega arith; device = λ device. absurd (none device); other = λ _. refl; kept = tt }

pub reads_here : {D T : Type 0} {seen : D → Contents} {sizes : D → Lengths} {images : D → Image → Type 0} {moment : D → ℕ} {since : D → ℕ → Image → Type 0} {faults : D → ℕ} {lasts fails : D → D → Type 0} (disk : D) (x : T)
    → ((image : Image) → since disk (moment disk) image → images disk image) → lasts disk disk → IsStoreReading {T = T} seen sizes images moment since faults lasts fails disk disk (Ok x)
reads_here disk x only_now lasts_here = reads_none disk (Ok x) only_now lasts_here (λ device. cc)
