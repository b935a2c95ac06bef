-- Runs of calls of a disk, one after another.
use Rattle.std.specs.Prelude.{⊤}
use Rattle.std.proofs.Common.{◌≡◌, ◌∙◌, sym, ap, subst, refl, ℕ, ◌≤◌, Result, Ok, Err, IsErrOf, arith}
use Rattle.gate_log.proofs.Scans.{unchanged_twice, same_twice}
use Rattle.gate_log.proofs.Told.{told_here, told_on, told_still}
use Rattle.gate_log.specs.LogState.{IsElsewhereOld}
use Rattle.mds_out.specs.Disk.{Image, Contents, Lengths}
use Rattle.mds_out.proofs.Moments.{both, started, leaves_weaker}
use Rattle.sorted_table.specs.declared.fault.TableFault.{TableFault}
use Rattle.sorted_table.specs.declared.fault.TableFault.TheVariants.{Device}
use Rattle.sorted_table.specs.Answers.{HasTableCause}
use Rattle.sorted_table.proofs.Elsewhere.{old_elsewhere, elsewhere_on, elsewhere_none, unchanged_elsewhere, unchanged_elsewhere_none}
use Rattle.sorted_table.proofs.Opens.{unchanged_here, same_here}
use Rattle.merge_rows.specs.Runs.{OnlyReads, WritesOnly}

-- no refusal
abbrev pub quiet : Result ℕ TableFault
quiet = Ok 0

-- two answers that are no refusal, or the same
abbrev pub AreAlike : {T S : Type 0} → Result T TableFault → Result S TableFault → Type 0
AreAlike (Ok x) (Ok y) = ⊤
AreAlike (Ok x) (Err fault) = ⊥
AreAlike (Err fault) (Ok y) = ⊥
AreAlike (Err fault) (Err other) = fault ≡ other

err_as : (T S : Type 0) (fault other : TableFault) → ◌≡◌ {A = Result S TableFault} (Err fault) (Err other) → ◌≡◌ {A = Result T TableFault} (Err fault) (Err other)
err_as T S fault other is = let same : fault ≡ other = cc in ap (λ f. Err f) same

cause_as : {T S : Type 0} (r : Result T TableFault) (s : Result S TableFault) (before now : ℕ) → AreAlike r s → HasTableCause before now r → HasTableCause before now s
cause_as (Ok x) (Ok y) before now alike cause = record { later = cause.later; device = λ never. absurd cc; other = tt; kept = cause.kept }
cause_as (Ok x) (Err fault) before now alike cause = absurd alike
cause_as (Err fault) (Ok y) before now alike cause = absurd alike
cause_as {T = T} {S = S} (Err fault) (Err other) before now alike cause =
    let P : TableFault → Type 0 = λ f. HasTableCause {T = S} before now (Err f) in
    subst P alike (record { later = cause.later; device = λ is. cause.device (err_as T S fault Device is); other = cause.other; kept = tt })

failed_as : {T S : Type 0} (r : Result T TableFault) (s : Result S TableFault) (F : Type 0) → AreAlike r s → (IsErrOf r Device → F) → IsErrOf s Device → F
failed_as (Ok x) (Ok y) F alike failed never = absurd cc
failed_as (Ok x) (Err fault) F alike failed is = absurd alike
failed_as (Err fault) (Ok y) F alike failed never = absurd cc
failed_as {T = T} {S = S} (Err fault) (Err other) F alike failed is = failed (ap (λ f. Err f) alike ∙ err_as T S other Device is)

module _ {D : Type 0} {seen : D → Contents} {sizes : D → Lengths} {images : D → Image → Type 0} {moment : D → ℕ} {since : D → ℕ → Image → Type 0} {faults : D → ℕ} {leads fails_by : D → D → Type 0} where
  pub reads_none : (old : D) → ((image : Image) → since old (moment old) image → images old image) → leads old old → OnlyReads seen sizes images moment since faults leads fails_by old old quiet
  reads_none old only here = record {
    unchanged = unchanged_here (seen old) (sizes old);
    crash = same_here (images old);
    any_moment = started moment since old (images old) only;
    cause = record { later = omega arith; device = λ never. absurd cc; other = tt; kept = refl };
    lasts = here;
    failed = λ never. absurd cc;
  }

  pub reads_as : {T S : Type 0} (r : Result T TableFault) (s : Result S TableFault) (old new : D) → AreAlike r s → OnlyReads seen sizes images moment since faults leads fails_by old new r → OnlyReads seen sizes images moment since faults leads fails_by old new s
  reads_as r s old new alike reads = record {
    unchanged = reads.unchanged;
    crash = reads.crash;
    any_moment = reads.any_moment;
    cause = cause_as r s (faults old) (faults new) alike reads.cause;
    lasts = reads.lasts;
    failed = failed_as r s (fails_by old new) alike reads.failed;
  }

  pub reads_on : {T : Type 0} (r : Result T TableFault) (old mid new : D) → (leads old mid → leads mid new → leads old new) → (leads old mid → fails_by mid new → fails_by old new)
      → OnlyReads seen sizes images moment since faults leads fails_by old mid quiet → OnlyReads seen sizes images moment since faults leads fails_by mid new r → OnlyReads seen sizes images moment since faults leads fails_by old new r
  reads_on r old mid new on after first second = record {
    unchanged = unchanged_twice (seen old) (seen mid) (seen new) (sizes old) (sizes mid) (sizes new) first.unchanged second.unchanged;
    crash = same_twice (images old) (images mid) (images new) first.crash second.crash;
    any_moment = both moment since old mid new (images old) (images mid) (images old) first.any_moment second.any_moment (λ image is. is) first.crash.no_other;
    cause = subst (λ n. HasTableCause n (faults new) r) first.cause.kept second.cause;
    lasts = on first.lasts second.lasts;
    failed = λ is. after first.lasts (second.failed is);
  }

  pub writes_none : (file : ℕ) (old : D) → ((image : Image) → since old (moment old) image → images old image) → leads old old → WritesOnly seen sizes images moment since faults leads fails_by file old old quiet
  writes_none file old only here = record {
    elsewhere = unchanged_elsewhere_none file (seen old) (sizes old);
    told = told_here (seen old file);
    any_moment = elsewhere_none moment since file old (images old) only;
    cause = record { later = omega arith; device = λ never. absurd cc; other = tt; kept = refl };
    lasts = here;
    failed = λ never. absurd cc;
  }

  pub writes_as : {T S : Type 0} (r : Result T TableFault) (s : Result S TableFault) (file : ℕ) (old new : D) → AreAlike r s → WritesOnly seen sizes images moment since faults leads fails_by file old new r → WritesOnly seen sizes images moment since faults leads fails_by file old new s
  writes_as r s file old new alike writes = record {
    elsewhere = writes.elsewhere;
    told = writes.told;
    any_moment = writes.any_moment;
    cause = cause_as r s (faults old) (faults new) alike writes.cause;
    lasts = writes.lasts;
    failed = failed_as r s (fails_by old new) alike writes.failed;
  }

  pub writes_reads : {T : Type 0} (r : Result T TableFault) (file : ℕ) (old new : D) → OnlyReads seen sizes images moment since faults leads fails_by old new r → WritesOnly seen sizes images moment since faults leads fails_by file old new r
  writes_reads r file old new reads = record {
    elsewhere = record { bytes = λ other apart. reads.unchanged.bytes other; lengths = λ other apart. reads.unchanged.lengths other };
    told = told_still (seen old file) (seen old file) (seen new file) (told_here (seen old file)) (reads.unchanged.bytes file);
    any_moment = leaves_weaker moment since old new (images old) (IsElsewhereOld file (images old)) (old_elsewhere file (images old)) reads.any_moment;
    cause = reads.cause;
    lasts = reads.lasts;
    failed = reads.failed;
  }

  pub writes_on : {T : Type 0} (r : Result T TableFault) (file : ℕ) (old mid new : D) → ((t : ℕ) (image : Image) → t ≤ moment mid → images mid image → since mid t image) → (leads old mid → leads mid new → leads old new) → (leads old mid → fails_by mid new → fails_by old new)
      → WritesOnly seen sizes images moment since faults leads fails_by file old mid quiet → WritesOnly seen sizes images moment since faults leads fails_by file mid new r → WritesOnly seen sizes images moment since faults leads fails_by file old new r
  writes_on r file old mid new counts on after first second = record {
    elsewhere = unchanged_elsewhere file (seen old) (seen mid) (seen new) (sizes old) (sizes mid) (sizes new) first.elsewhere second.elsewhere;
    told = told_on (seen old file) (seen mid file) (seen new file) first.told second.told;
    any_moment = elsewhere_on moment since file old mid new (images old) (images mid) counts first.any_moment second.any_moment;
    cause = subst (λ n. HasTableCause n (faults new) r) first.cause.kept second.cause;
    lasts = on first.lasts second.lasts;
    failed = λ is. after first.lasts (second.failed is);
  }

  -- a refusal that is passed on
  pub writes_fail : {T U : Type 0} (fault : TableFault) (file : ℕ) (old new : D) → WritesOnly {T = T} seen sizes images moment since faults leads fails_by file old new (Err fault) → (answer : Result U TableFault) → answer ≡ Err fault
      → WritesOnly seen sizes images moment since faults leads fails_by file old new answer
  writes_fail {T = T} {U = U} fault file old new writes answer is = subst (WritesOnly seen sizes images moment since faults leads fails_by file old new) (sym is) (writes_as {T = T} {S = U} (Err fault) (Err fault) file old new refl writes)

  pub reads_fail : {T U : Type 0} (fault : TableFault) (old new : D) → OnlyReads {T = T} seen sizes images moment since faults leads fails_by old new (Err fault) → (answer : Result U TableFault) → answer ≡ Err fault
      → OnlyReads seen sizes images moment since faults leads fails_by old new answer
  reads_fail {T = T} {U = U} fault old new reads answer is = subst (OnlyReads seen sizes images moment since faults leads fails_by old new) (sym is) (reads_as {T = T} {S = U} (Err fault) (Err fault) old new refl reads)
