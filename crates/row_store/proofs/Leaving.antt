-- Runs of calls that leave some files as they were.
use Rattle.std.proofs.Common.{◌≡◌, ◌≢◌, ◌∙◌, sym, ap, subst, refl, ℕ, ◌≤◌, Option, Some, None, Result, Ok, Err, arith}
use Rattle.std.specs.Prelude.{IsErrOf}
use Rattle.gate_log.proofs.Told.{told_here, told_on}
use Rattle.gate_log.specs.LogState.{IsElsewhereOld}
use Rattle.mds_base.specs.declared.store_fault.StoreFault.{StoreFault}
use Rattle.mds_base.specs.declared.store_fault.StoreFault.TheVariants.{Device, OutOfMemory}
use Rattle.mds_out.specs.Disk.{Image, Contents, Lengths}
use Rattle.mds_out.specs.Known.{OnTold}
use Rattle.mds_out.proofs.Moments.{started, both, leaves_weaker}
use Rattle.row_store.specs.Answers.{HasStoreCause, IsStoreWriting}
use Rattle.row_store.specs.Leaving.{IsOldIn, LeavesFiles}
use Rattle.row_store.proofs.Appends.{stays_all}
use Rattle.row_store.proofs.Joined.{cause_ok, cause_on, known_on}

abbrev refusal : (T : Type 0) → StoreFault → Result T StoreFault
refusal T fault = Err fault

pub same_refusal : (T U : Type 0) (fault : StoreFault) → refusal U fault ≡ refusal U Device → refusal T fault ≡ refusal T Device
same_refusal T U fault is = let same : fault ≡ Device = cc in ap (refusal T) same

pub ok_not_device : {T : Type 0} (x : T) → IsErrOf {E = StoreFault} (Ok x) Device → ⊥
ok_not_device x is = absurd cc

pub memory_not_device : {T : Type 0} → IsErrOf {T = T} (Err OutOfMemory) Device → ⊥
memory_not_device is = absurd cc

pub only_memory : {T : Type 0} (fault : StoreFault) → fault ≡ OutOfMemory → IsErrOf {T = T} (Err fault) Device → ⊥
only_memory {T = T} fault is = subst (λ (f : StoreFault). IsErrOf {T = T} (Err f) Device → ⊥) (sym is) (memory_not_device {T = T})

old_here : (kept : ℕ → Type 0) (old : Image → Type 0) (image : Image) → old image → IsOldIn kept old image
old_here kept old image was = record { before = image; was = was; same = λ file is. refl }

old_twice : (kept : ℕ → Type 0) (old mid : Image → Type 0) → ((image : Image) → mid image → IsOldIn kept old image) → (image : Image) → IsOldIn kept mid image → IsOldIn kept old image
old_twice kept old mid first image second =
    let f = first second.before second.was in
    record { before = f.before; was = f.was; same = λ file is. second.same file is ∙ f.same file is }

known_here : (size : Option ℕ) → OnTold size (λ n. size ≡ Some n)
known_here None = tt
known_here (Some n) = refl

-- a refusal passed on, or another value
pub cause_as : {T U : Type 0} (before now : ℕ) (fault : StoreFault) → HasStoreCause {T = T} before now (Err fault) → HasStoreCause {T = U} before now (Err fault)
cause_as {T = T} {U = U} before now fault cause = record { later = cause.later; device = λ is. cause.device (same_refusal T U fault is); other = cause.other; kept = tt }

pub cause_plain : {T : Type 0} (before now : ℕ) (result : Result T StoreFault) → now ≡ before → (IsErrOf result Device → ⊥) → HasStoreCause before now result
cause_plain before now (Ok x) same none = cause_ok before now x same
cause_plain before now (Err fault) same none = record { later = omega (arith, same); device = λ device. absurd (none device); other = λ _. same; kept = tt }

module _ {D : Type 0} {seen : D → Contents} {sizes : D → Lengths} {images : D → Image → Type 0} {moment : D → ℕ} {since : D → ℕ → Image → Type 0} {faults : D → ℕ} {leads fails_by : D → D → Type 0} where
  -- one file was written, which is none of them
  pub leaves_writing : {T : Type 0} (r : Result T StoreFault) (kept : ℕ → Type 0) (file : ℕ) (a b : D) → ((other : ℕ) → kept other → other ≢ file) → IsStoreWriting seen sizes images moment since faults leads fails_by file a b r
      → LeavesFiles seen sizes images moment since faults leads fails_by kept a b r
  leaves_writing r kept file a b apart writes = record {
    bytes = λ other is. writes.elsewhere.bytes other (apart other is);
    lengths = λ other is. writes.elsewhere.lengths other (apart other is);
    told = stays_all file (seen a) (seen b) (sizes a) (sizes b) writes.elsewhere writes.told;
    any_moment = leaves_weaker moment since a b (IsElsewhereOld file (images a)) (IsOldIn kept (images a))
        (λ image old. record { before = old.before; was = old.was; same = λ other is. old.others other (apart other is) }) writes.any_moment;
    cause = writes.cause;
    lasts = writes.lasts;
    failed = writes.failed;
  }

  -- fewer files are spoken of
  pub leaves_fewer : {T : Type 0} (r : Result T StoreFault) (kept fewer : ℕ → Type 0) (a b : D) → ((file : ℕ) → fewer file → kept file) → LeavesFiles seen sizes images moment since faults leads fails_by kept a b r
      → LeavesFiles seen sizes images moment since faults leads fails_by fewer a b r
  leaves_fewer r kept fewer a b among leaves = record {
    bytes = λ file is. leaves.bytes file (among file is);
    lengths = λ file is. leaves.lengths file (among file is);
    told = leaves.told;
    any_moment = leaves_weaker moment since a b (IsOldIn kept (images a)) (IsOldIn fewer (images a))
        (λ image old. record { before = old.before; was = old.was; same = λ file is. old.same file (among file is) }) leaves.any_moment;
    cause = leaves.cause;
    lasts = leaves.lasts;
    failed = leaves.failed;
  }

  -- no call at all
  pub leaves_none : {T : Type 0} (r : Result T StoreFault) (kept : ℕ → Type 0) (disk : D) → ((image : Image) → since disk (moment disk) image → images disk image) → leads disk disk → (IsErrOf r Device → ⊥)
      → LeavesFiles seen sizes images moment since faults leads fails_by kept disk disk r
  leaves_none r kept disk only here none = record {
    bytes = λ file is. refl;
    lengths = λ file is. known_here (sizes disk file);
    told = λ file. told_here (seen disk file);
    any_moment = started moment since disk (IsOldIn kept (images disk)) (λ image left. old_here kept (images disk) image (only image left));
    cause = cause_plain (faults disk) (faults disk) r refl none;
    lasts = here;
    failed = λ device. absurd (none device);
  }

  pub writing_none : {T : Type 0} (r : Result T StoreFault) (file : ℕ) (disk : D) → ((image : Image) → since disk (moment disk) image → images disk image) → leads disk disk → (IsErrOf r Device → ⊥)
      → IsStoreWriting seen sizes images moment since faults leads fails_by file disk disk r
  writing_none r file disk only here none = record {
    elsewhere = record { bytes = λ other is. refl; lengths = λ other is. known_here (sizes disk other) };
    told = told_here (seen disk file);
    any_moment = started moment since disk (IsElsewhereOld file (images disk)) (λ image left. record { before = image; was = only image left; others = λ other is. refl });
    cause = cause_plain (faults disk) (faults disk) r refl none;
    lasts = here;
    failed = λ device. absurd (none device);
  }

  -- two runs, one after the other
  pub leaves_on : {T U : Type 0} (done : U) (r : Result T StoreFault) (kept : ℕ → Type 0) (a b c : D) → ((t : ℕ) (image : Image) → t ≤ moment b → images b image → since b t image) → (leads a b → leads b c → leads a c) → (leads a b → fails_by b c → fails_by a c)
      → LeavesFiles seen sizes images moment since faults leads fails_by kept a b (Ok done) → LeavesFiles seen sizes images moment since faults leads fails_by kept b c r → LeavesFiles seen sizes images moment since faults leads fails_by kept a c r
  leaves_on done r kept a b c counts on after first second = record {
    bytes = λ file is. second.bytes file is ∙ first.bytes file is;
    lengths = λ file is. known_on (sizes a file) (sizes b file) (sizes c file) (first.lengths file is) (second.lengths file is);
    told = λ file. told_on (seen a file) (seen b file) (seen c file) (first.told file) (second.told file);
    any_moment = both moment since a b c (IsOldIn kept (images a)) (IsOldIn kept (images b)) (IsOldIn kept (images a)) first.any_moment second.any_moment (λ image is. is)
        (old_twice kept (images a) (images b) (λ image now. first.any_moment.each image (counts (moment a) image first.any_moment.later now)));
    cause = cause_on (faults a) (faults b) (faults c) done r first.cause second.cause;
    lasts = on first.lasts second.lasts;
    failed = λ is. after first.lasts (second.failed is);
  }

  -- a refusal that is passed on
  pub leaves_refused : {T U : Type 0} (fault : StoreFault) (kept : ℕ → Type 0) (a b : D) → LeavesFiles {T = T} seen sizes images moment since faults leads fails_by kept a b (Err fault) → LeavesFiles {T = U} seen sizes images moment since faults leads fails_by kept a b (Err fault)
  leaves_refused {T = T} {U = U} fault kept a b leaves = record {
    bytes = leaves.bytes;
    lengths = leaves.lengths;
    told = leaves.told;
    any_moment = leaves.any_moment;
    cause = cause_as {T = T} {U = U} (faults a) (faults b) fault leaves.cause;
    lasts = leaves.lasts;
    failed = λ is. leaves.failed (same_refusal T U fault is);
  }

  -- what was answered is a matter of the caller, but for the device's failure
  pub leaves_as : {T U : Type 0} (done : U) (r : Result T StoreFault) (kept : ℕ → Type 0) (a b : D) → (IsErrOf r Device → ⊥) → LeavesFiles seen sizes images moment since faults leads fails_by kept a b (Ok done) → LeavesFiles seen sizes images moment since faults leads fails_by kept a b r
  leaves_as done r kept a b none leaves = record {
    bytes = leaves.bytes;
    lengths = leaves.lengths;
    told = leaves.told;
    any_moment = leaves.any_moment;
    cause = cause_plain (faults a) (faults b) r leaves.cause.kept none;
    lasts = leaves.lasts;
    failed = λ device. absurd (none device);
  }

  -- what is left after it
  pub left_in : {T : Type 0} (r : Result T StoreFault) (kept : ℕ → Type 0) (a b : D) → ((t : ℕ) (image : Image) → t ≤ moment b → images b image → since b t image) → LeavesFiles seen sizes images moment since faults leads fails_by kept a b r
      → (crashed : Image) → images b crashed → IsOldIn kept (images a) crashed
  left_in r kept a b counts leaves crashed now = leaves.any_moment.each crashed (counts (moment a) crashed leaves.any_moment.later now)
