-- Calls that change nothing, one after another, within a call of a log.
use Rattle.std.proofs.Common.{◌≡◌, ℕ, Result, Ok, Err, refl, sym, subst}
use Rattle.mds_out.specs.declared.disk.DiskFault.{DiskFault}
use Rattle.mds_out.specs.declared.disk.DiskFault.TheVariants.{Device as DiskDevice, OutOfMemory as DiskMemory}
use Rattle.mds_out.specs.Disk.{Image, Contents, Lengths, LeavesOnly, HasDiskCause, IsReading}
use Rattle.mds_out.proofs.Moments.{started, goes_on}
use Rattle.gate_log.specs.declared.gate_log.LogFault.{LogFault}
use Rattle.gate_log.specs.declared.gate_log.LogFault.TheVariants.{Device}
use Rattle.gate_log.specs.Disks.{HasLogCause, IsLogReading}
use Rattle.gate_log.specs.Refusals.{log_fault_of}

-- calls that succeeded, whatever is answered then
pub reading_answers : {D T U : Type 0} {seen : D → Contents} {sizes : D → Lengths} {images : D → Image → Type 0} {moment : D → ℕ} {since : D → ℕ → Image → Type 0} {faults changes : D → ℕ} {lasts fails : D → D → Type 0}
    {a b : D} {x : T} → IsReading seen sizes images moment since faults changes lasts fails a b (Ok x) → (y : U) → IsReading seen sizes images moment since faults changes lasts fails a b (Ok y)
reading_answers is y = record {
  unchanged = is.unchanged;
  crash = is.crash;
  time = is.time;
  no_memory = λ other. cc;
  cause = record { later = is.cause.later; device = λ other. cc; memory = λ other. cc; kept = is.cause.kept };
  lasts = is.lasts;
  failed = λ other. cc;
  changes = is.changes;
}

-- a crash at any moment of them leaves an image from before
reading_leaves : {D T : Type 0} {seen : D → Contents} {sizes : D → Lengths} {images : D → Image → Type 0} {moment : D → ℕ} {since : D → ℕ → Image → Type 0} {faults changes : D → ℕ} {lasts fails : D → D → Type 0}
    {old new : D} {result : Result T DiskFault} → ((disk : D) (image : Image) → since disk (moment disk) image → images disk image)
    → IsReading seen sizes images moment since faults changes lasts fails old new result → LeavesOnly moment since old new (images old)
reading_leaves {images = images} {moment = moment} {since = since} {old = old} {new = new} only is =
    goes_on moment since old old new (images old) (images new) (started moment since old (images old) (only old)) is.time is.crash.no_other

cause_passed : {T U : Type 0} (before now : ℕ) (fault : DiskFault) → HasDiskCause {T = T} before now (Err fault) → HasLogCause {T = U} before now (Err (log_fault_of fault))
cause_passed before now DiskDevice cause = record { later = cause.later; device = λ is. cause.device refl; other = λ apart. absurd (apart refl); kept = tt }
cause_passed before now DiskMemory cause = record { later = cause.later; device = λ is. cc; other = λ apart. cause.memory refl; kept = tt }

abbrev refusal : (T : Type 0) → DiskFault → Result T DiskFault
refusal T fault = Err fault

abbrev log_refusal : (T : Type 0) → LogFault → Result T LogFault
log_refusal T fault = Err fault

failed_passed : (T U F : Type 0) (fault : DiskFault) → (refusal T fault ≡ refusal T DiskDevice → F) → log_refusal U (log_fault_of fault) ≡ log_refusal U Device → F
failed_passed T U F DiskDevice failed is = failed refl
failed_passed T U F DiskMemory failed is = cc

-- the log's answer to them where they succeeded, and where the disk refused one
pub log_reads : {D T U : Type 0} {seen : D → Contents} {sizes : D → Lengths} {images : D → Image → Type 0} {moment : D → ℕ} {since : D → ℕ → Image → Type 0} {faults changes : D → ℕ} {lasts fails : D → D → Type 0}
    {old new : D} {x : T} → ((disk : D) (image : Image) → since disk (moment disk) image → images disk image) → IsReading seen sizes images moment since faults changes lasts fails old new (Ok x)
    → (y : U) → IsLogReading seen sizes images moment since faults changes lasts fails old new (Ok y)
log_reads only is y = record {
  unchanged = is.unchanged;
  crash = is.crash;
  any_moment = reading_leaves only is;
  cause = record { later = is.cause.later; device = λ other. cc; other = tt; kept = is.cause.kept };
  lasts = is.lasts;
  failed = λ other. cc;
  changes = is.changes;
}

pub log_passes : {D T U : Type 0} {seen : D → Contents} {sizes : D → Lengths} {images : D → Image → Type 0} {moment : D → ℕ} {since : D → ℕ → Image → Type 0} {faults changes : D → ℕ} {lasts fails : D → D → Type 0}
    {old new : D} (fault : DiskFault) → ((disk : D) (image : Image) → since disk (moment disk) image → images disk image) → IsReading {T = T} seen sizes images moment since faults changes lasts fails old new (Err fault)
    → (answer : Result U LogFault) → answer ≡ Err (log_fault_of fault) → IsLogReading seen sizes images moment since faults changes lasts fails old new answer
log_passes {T = T} {U = U} {seen = seen} {sizes = sizes} {images = images} {moment = moment} {since = since} {faults = faults} {changes = changes} {lasts = lasts} {fails = fails} {old = old} {new = new} fault only is answer answer_is =
    subst (IsLogReading seen sizes images moment since faults changes lasts fails old new) (sym answer_is) (record {
      unchanged = is.unchanged;
      crash = is.crash;
      any_moment = reading_leaves only is;
      cause = cause_passed (faults old) (faults new) fault is.cause;
      lasts = is.lasts;
      failed = failed_passed T U (fails old new) fault is.failed;
      changes = is.changes;
    })
