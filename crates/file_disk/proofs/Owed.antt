-- What a disk of real files owes to the clauses of each disk, by what a call noted.
use Rattle.std.proofs.Common.{◌≡◌, ◌≢◌, inl, ℕ, ◌≤◌, ◌<◌, ◌^◌, List, None, Some, Result, Ok, Err, refl, arith}
use Rattle.std.specs.Prelude.{⊤}
use Rattle.mds_out.specs.Disk.{Lengths, Follows, IsChanging, IsElsewhereUnchanged, IsReading, IsUnchanged}
use Rattle.mds_out.specs.Fault.{Rose}
use Rattle.mds_out.specs.Known.{OnTold}
use Rattle.mds_out.specs.declared.disk.DiskFault.{DiskFault}
use Rattle.mds_out.specs.declared.disk.DiskFault.TheVariants.{Device, OutOfMemory}
use Rattle.file_disk.specs.Noted.{Noted, told_length, noted, counted, failed, refused}
use Rattle.file_disk.proofs.Lengths.{still_told, still_noted}

-- the clauses of a call that changes nothing, and of one that may change something
abbrev pub Reads : {T : Type 0} → Noted → Noted → Result T DiskFault → Type 0
Reads old new result = IsReading (λ _ _. None) told_length (λ _ _. ⊤) (λ _. 0) (λ _ _ _. ⊤) (λ disk. disk.faults) (λ disk. disk.changes)
    (λ old new. old.faults ≤ new.faults) (λ old new. Rose old.faults new.faults) old new result

abbrev pub Changes : {T : Type 0} → Noted → Noted → Result T DiskFault → Type 0
Changes old new result = IsChanging (λ disk. disk.faults) (λ old new. old.faults ≤ new.faults) (λ old new. Rose old.faults new.faults) old new result

same_lengths : (old new : Lengths) → ((file : ℕ) → OnTold (old file) (λ size. new file ≡ Some size)) → IsUnchanged (λ _. None) (λ _. None) old new
same_lengths old new same = record { bytes = λ file. refl; lengths = same }

-- the system failed at a call that changes nothing
pub reading_failed : {T : Type 0} (disk : Noted) → disk.faults < 2 ^ 64 → Reads {T = T} disk (failed (counted disk)) (Err Device)
reading_failed disk short = record {
  unchanged = same_lengths (told_length disk) (told_length disk) (λ file. still_told (told_length disk file) (told_length disk file) refl);
  crash = record { no_other = λ image is. tt; all = λ image is. tt };
  time = record { later = omega arith; nothing_else = λ moment image le is. inl tt; keeps = λ moment image le is. tt };
  no_memory = λ is. cc;
  cause = record { later = omega (arith, short); device = λ is. omega (arith, short); memory = λ is. cc; kept = tt };
  lasts = omega (arith, short);
  failed = λ is. omega (arith, short);
  changes = refl;
}

-- a length was told
pub reading_noted : (disk : Noted) (file length : ℕ) → OnTold (told_length disk file) (λ before. length ≡ before) → Reads {T = ℕ} disk (noted (counted disk) file length) (Ok length)
reading_noted disk file length told = record {
  unchanged = same_lengths (told_length disk) (told_length (noted disk file length)) (λ other. still_noted disk file length other told);
  crash = record { no_other = λ image is. tt; all = λ image is. tt };
  time = record { later = omega arith; nothing_else = λ moment image le is. inl tt; keeps = λ moment image le is. tt };
  no_memory = λ is. cc;
  cause = record { later = omega arith; device = λ is. cc; memory = λ is. cc; kept = refl };
  lasts = omega arith;
  failed = λ is. cc;
  changes = refl;
}

-- a call that may change something was refused, after which its fault is counted where it is one
pub changing_refused : {T : Type 0} (fault : DiskFault) (old mid : Noted) → mid.faults ≡ old.faults → (fault ≡ Device → mid.faults < 2 ^ 64) → Changes {T = T} old (refused fault mid) (Err fault)
changing_refused Device old mid same short = record {
  cause = record { later = omega (arith, same, short refl); device = λ is. omega (arith, same, short refl); memory = λ is. cc; kept = tt };
  lasts = omega (arith, same, short refl);
  failed = λ is. omega (arith, same, short refl);
}
changing_refused OutOfMemory old mid same short = record {
  cause = record { later = omega (arith, same); device = λ is. cc; memory = λ is. same; kept = tt };
  lasts = omega (arith, same);
  failed = λ is. cc;
}

-- refusals change no length
pub refused_told : (fault : DiskFault) (disk : Noted) (file : ℕ) → told_length (refused fault disk) file ≡ told_length disk file
refused_told Device disk file = refl
refused_told OutOfMemory disk file = refl

-- what a read gives is not told, and the lengths of the other files are as before
pub elsewhere : (file : ℕ) (old new : Lengths) → ((other : ℕ) → other ≢ file → new other ≡ old other) → IsElsewhereUnchanged file (λ _. None) (λ _. None) old new
elsewhere file old new same = record { bytes = λ other apart. refl; lengths = λ other apart. still_told (old other) (new other) (same other apart) }

-- Where a crash may leave anything, a change that may change nothing leads there from what a crash might have left before.
pub anything_follows : (file : ℕ) (change : List ℕ → List ℕ → Type 0) → ((bytes : List ℕ) → change bytes bytes) → Follows file change (λ _. ⊤) (λ _. ⊤)
anything_follows file change same image is = (image, tt, record { changed = same (image file); others = λ other apart. refl })
