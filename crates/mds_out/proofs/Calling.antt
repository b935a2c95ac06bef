-- Runs of device calls, joined: for a caller that makes several calls one after another.
use Rattle.std.proofs.Common.{◌≡◌, inl, inr, ⊎_elim, ℕ, Option, Some, None, Result, Ok, Err, refl, ◌∙◌, arith}
use Rattle.mds_out.specs.declared.disk.DiskFault.{DiskFault}
use Rattle.mds_out.specs.declared.disk.DiskFault.TheVariants.{Device, OutOfMemory}
use Rattle.mds_out.specs.Known.{OnTold}
use Rattle.mds_out.specs.Disk.{Image, Contents, Lengths, IsUnchanged, HasDiskCause, IsReading, IsChanging}

-- a refusal is the same whatever the call would have answered
abbrev refusal : (T : Type 0) → DiskFault → Result T DiskFault
refusal T fault = Err fault

same_refusal : {T U : Type 0} (fault other : DiskFault) → refusal T fault ≡ refusal T other → refusal U fault ≡ refusal U other
same_refusal Device Device is = refl
same_refusal Device OutOfMemory is = cc
same_refusal OutOfMemory Device is = cc
same_refusal OutOfMemory OutOfMemory is = refl

known_on : (a b c : Option ℕ) → OnTold a (λ n. b ≡ Some n) → OnTold b (λ n. c ≡ Some n) → OnTold a (λ n. c ≡ Some n)
known_on None b c first second = tt
known_on (Some n) None c first second = cc
known_on (Some n) (Some m) c first second = second ∙ first

unchanged_on : (seen seen' seen'' : Contents) (sizes sizes' sizes'' : Lengths) → IsUnchanged seen seen' sizes sizes' → IsUnchanged seen' seen'' sizes' sizes'' → IsUnchanged seen seen'' sizes sizes''
unchanged_on seen seen' seen'' sizes sizes' sizes'' first second = record {
  bytes = λ file. second.bytes file ∙ first.bytes file;
  lengths = λ file. known_on (sizes file) (sizes' file) (sizes'' file) (first.lengths file) (second.lengths file);
}

pub cause_on : {T U : Type 0} (a b c : ℕ) (done : U) (result : Result T DiskFault) → HasDiskCause {T = U} a b (Ok done) → HasDiskCause b c result → HasDiskCause a c result
cause_on a b c done (Ok x) first second = record { later = omega (arith, first.later, second.later); device = λ is. cc; memory = λ is. cc; kept = second.kept ∙ first.kept }
cause_on a b c done (Err fault) first second = record {
  later = omega (arith, first.later, second.later);
  device = λ is. omega (arith, first.kept, second.device is);
  memory = λ is. second.memory is ∙ first.kept;
  kept = tt;
}

pub cause_refused : {T U : Type 0} (a b : ℕ) (fault : DiskFault) → HasDiskCause {T = T} a b (Err fault) → HasDiskCause {T = U} a b (Err fault)
cause_refused a b fault cause = record {
  later = cause.later;
  device = λ is. cause.device (same_refusal fault Device is);
  memory = λ is. cause.memory (same_refusal fault OutOfMemory is);
  kept = tt;
}

module _ {D : Type 0} (lasts fails : D → D → Type 0)
    (lasts_on : (a b c : D) → lasts a b → lasts b c → lasts a c)
    (fails_after : (a b c : D) → lasts a b → fails b c → fails a c) where
  -- calls that change nothing, and then more such calls
  pub reading_on : {T U : Type 0} {seen : D → Contents} {sizes : D → Lengths} {images : D → Image → Type 0} {moment : D → ℕ} {since : D → ℕ → Image → Type 0} {faults changes : D → ℕ}
      {a b c : D} {done : U} {result : Result T DiskFault} → IsReading seen sizes images moment since faults changes lasts fails a b (Ok done) → IsReading seen sizes images moment since faults changes lasts fails b c result
      → IsReading seen sizes images moment since faults changes lasts fails a c result
  reading_on {seen = seen} {sizes = sizes} {images = images} {moment = moment} {since = since} {faults = faults} {a = a} {b = b} {c = c} {done = done} {result = result} first second = record {
    unchanged = unchanged_on (seen a) (seen b) (seen c) (sizes a) (sizes b) (sizes c) first.unchanged second.unchanged;
    crash = record {
      no_other = λ image is. first.crash.no_other image (second.crash.no_other image is);
      all = λ image is. second.crash.all image (first.crash.all image is);
    };
    time = record {
      later = omega (arith, first.time.later, second.time.later);
      nothing_else = λ t image le left.
          ⊎_elim (λ past. ⊎_elim (λ older. inl older) (λ now. inr (second.crash.all image now)) (first.time.nothing_else t image le past)) (λ now. inr now)
          (second.time.nothing_else t image (omega (arith, le, first.time.later)) left);
      keeps = λ t image le past. second.time.keeps t image (omega (arith, le, first.time.later)) (first.time.keeps t image le past);
    };
    no_memory = second.no_memory;
    cause = cause_on (faults a) (faults b) (faults c) done result first.cause second.cause;
    lasts = lasts_on a b c first.lasts second.lasts;
    failed = λ is. fails_after a b c first.lasts (second.failed is);
    changes = second.changes ∙ first.changes;
  }

  -- calls that may change something, and then more
  pub changing_on : {T U : Type 0} {faults : D → ℕ} {a b c : D} {done : U} {result : Result T DiskFault} → IsChanging faults lasts fails a b (Ok done) → IsChanging faults lasts fails b c result → IsChanging faults lasts fails a c result
  changing_on {faults = faults} {a = a} {b = b} {c = c} {done = done} {result = result} first second = record {
    cause = cause_on (faults a) (faults b) (faults c) done result first.cause second.cause;
    lasts = lasts_on a b c first.lasts second.lasts;
    failed = λ is. fails_after a b c first.lasts (second.failed is);
  }

-- calls that change nothing are calls that may change something
pub reading_changes : {D T : Type 0} {seen : D → Contents} {sizes : D → Lengths} {images : D → Image → Type 0} {moment : D → ℕ} {since : D → ℕ → Image → Type 0} {faults changes : D → ℕ} {lasts fails : D → D → Type 0}
    {a b : D} {result : Result T DiskFault} → IsReading seen sizes images moment since faults changes lasts fails a b result → IsChanging faults lasts fails a b result
reading_changes is = record { cause = is.cause; lasts = is.lasts; failed = is.failed }

-- a refusal that is passed on as the answer of another call
pub reading_refused : {D T U : Type 0} {seen : D → Contents} {sizes : D → Lengths} {images : D → Image → Type 0} {moment : D → ℕ} {since : D → ℕ → Image → Type 0} {faults changes : D → ℕ} {lasts fails : D → D → Type 0}
    {a b : D} {fault : DiskFault} → IsReading {T = T} seen sizes images moment since faults changes lasts fails a b (Err fault) → IsReading {T = U} seen sizes images moment since faults changes lasts fails a b (Err fault)
reading_refused {faults = faults} {a = a} {b = b} {fault = fault} is = record {
  unchanged = is.unchanged;
  crash = is.crash;
  time = is.time;
  no_memory = λ other. is.no_memory (same_refusal fault OutOfMemory other);
  cause = cause_refused (faults a) (faults b) fault is.cause;
  lasts = is.lasts;
  failed = λ other. is.failed (same_refusal fault Device other);
  changes = is.changes;
}

pub changing_refused : {D T U : Type 0} {faults : D → ℕ} {lasts fails : D → D → Type 0} {a b : D} {fault : DiskFault} → IsChanging {T = T} faults lasts fails a b (Err fault) → IsChanging {T = U} faults lasts fails a b (Err fault)
changing_refused {faults = faults} {a = a} {b = b} {fault = fault} is = record {
  cause = cause_refused (faults a) (faults b) fault is.cause;
  lasts = is.lasts;
  failed = λ other. is.failed (same_refusal fault Device other);
}
