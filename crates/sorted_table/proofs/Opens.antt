-- A file that is read block by block, on a disk that may tell what it holds.
use Rattle.std.proofs.Common.{◌≡◌, ◌∙◌, sym, ap, subst, refl, ℕ, zero, suc, ◌+◌, ◌-◌, ◌<◌, ◌≤◌, ◌^◌, ◌*◌, List, [], ◌∷◌, ◌++◌, append_assoc, length, take, drop, Option, None, Some, Result, Ok, Err, arith, length-append, length-drop}
use Rattle.std.proofs.Math.Seq.{take-add}
use Rattle.std.proofs.lemmas.List.{length-take-le, take-append-drop, take_all}
use Rattle.md5.specs.Md5.{Holds, md5}
use Rattle.md5.specs.declared.Md5.{Md5}
use Rattle.mds_out.specs.Disk.{Image, Contents, Lengths, IsUnchanged, AreSame}
use Rattle.mds_out.specs.Known.{OnTold}
use Rattle.sorted_table.specs.declared.checked.Checked.{Checked}
use Rattle.sorted_table.specs.declared.opening.Opening.{Opening}
use Rattle.sorted_table.specs.declared.fault.TableFault.{TableFault}
use Rattle.sorted_table.specs.Checks.{IsRead, IsChecked}
use Rattle.std.specs.Prelude.{IfOk}
use Rattle.sorted_table.specs.declared.fault.TableFault.TheVariants.{Device, Damaged, OutOfMemory}
use Rattle.sorted_table.specs.Answers.{IsOpenAnswer}
use Rattle.sorted_table.specs.Openings.{IsOpening, IsVerdict, IsVerdictAnswer, KeepsAtMost}
use Rattle.sorted_table.specs.Tables.{TableState, IsSomeTable, IsReady}

-- ---- a call that has not begun

pub unchanged_here : (seen : Contents) (sizes : Lengths) → IsUnchanged seen seen sizes sizes
unchanged_here seen sizes = record { bytes = λ file. refl; lengths = λ file. here (sizes file) }
  where
    here : (known : Option ℕ) → OnTold known (λ size. known ≡ Some size)
    here None = tt
    here (Some size) = refl

pub same_here : (images : Image → Type 0) → AreSame images images
same_here images = record { no_other = λ image is. is; all = λ image is. is }

-- ---- the blocks

-- what was read so far, as the loop's variables have it
abbrev pub opening : ℕ → Md5 → Option Checked → Opening
opening at sum checked = record { at = at; sum = sum; checked = checked }

none_read : (checked : Checked) → IsChecked checked [] → IsRead (Some checked) []
none_read checked kept = record { blocks = []; spelled = refl; filled = tt; rise = tt; all = tt; kept = kept }

taken_none : (bytes : List ℕ) → take 0 bytes ≡ []
taken_none [] = refl
taken_none (b ∷ bytes) = refl

pub opening_none : (seen : Option (List ℕ)) (sum : Md5) (checked : Checked) → Holds sum [] → IsChecked checked [] → OnTold seen (IsOpening (opening 0 sum (Some checked)))
opening_none None sum checked holds kept = tt
opening_none (Some bytes) sum checked holds kept = record {
  blocks = 0;
  at = refl;
  sum = subst (Holds sum) (sym (taken_none bytes)) holds;
  read = subst (IsRead (Some checked)) (sym (taken_none bytes)) (none_read checked kept);
}

pub opening_more : (seen : Option (List ℕ)) (at : ℕ) (sum sum' : Md5) (checked after : Option Checked) (block : List ℕ) → OnTold seen (IsOpening (opening at sum checked)) → OnTold seen (λ bytes. block ≡ take 4096 (drop at bytes))
    → ((m : List ℕ) → Holds sum m → Holds sum' (m ++ block)) → ((bytes : List ℕ) → IsRead checked bytes → IsRead after (bytes ++ block)) → OnTold seen (IsOpening (opening (at + 4096) sum' after))
opening_more None at sum sum' checked after block so_far read hashed taken = tt
opening_more (Some bytes) at sum sum' checked after block so_far read hashed taken =
    let whole : take at bytes ++ block ≡ take (at + 4096) bytes = ap (λ l. take at bytes ++ l) read ∙ sym (take-add at 4096 bytes) in
    record {
      blocks = so_far.blocks + 1;
      at = omega (arith, so_far.at);
      sum = subst (Holds sum') whole (hashed (take at bytes) so_far.sum);
      read = subst (IsRead after) whole (taken (take at bytes) so_far.read);
    }

-- a chunk of the size of a block
pub read_whole : (seen seen' : Option (List ℕ)) (block : List ℕ) (count at : ℕ) → seen' ≡ seen → count ≡ 4096 → OnTold seen' (λ bytes. block ≡ take count (drop at bytes)) → OnTold seen (λ bytes. block ≡ take 4096 (drop at bytes))
read_whole seen seen' block count at same size read =
    let P : Option (List ℕ) → Type 0 = λ s. OnTold s (λ bytes. block ≡ take count (drop at bytes)) in
    let Q : ℕ → Type 0 = λ n. OnTold seen (λ bytes. block ≡ take n (drop at bytes)) in
    subst Q size (subst P same read)

-- so many bytes of a file
pub read_part : (seen seen' : Option (List ℕ)) (part : List ℕ) (count n at : ℕ) → seen' ≡ seen → count ≡ n → OnTold seen' (λ bytes. part ≡ take count (drop at bytes)) → OnTold seen (λ bytes. part ≡ take n (drop at bytes))
read_part seen seen' part count n at same size read =
    let P : Option (List ℕ) → Type 0 = λ s. OnTold s (λ bytes. part ≡ take count (drop at bytes)) in
    let Q : ℕ → Type 0 = λ n. OnTold seen (λ bytes. part ≡ take n (drop at bytes)) in
    subst Q size (subst P same read)

pub within_known : (known : Option ℕ) (size to : ℕ) → known ≡ Some size → to ≤ size → OnTold known (λ s. to ≤ s)
within_known known size to is le = let P : Option ℕ → Type 0 = λ k. OnTold k (λ s. to ≤ s) in subst P (sym is) le

-- ---- the end

pub some_same : (a b : ℕ) → Some a ≡ Some b → a ≡ b
some_same a b same = cc

-- the file is what was read of it: blocks, counts and sum
pub verdict_told : (seen : Option (List ℕ)) (known : Option ℕ) (size at end : ℕ) (sum : Md5) (checked : Option Checked) (counts kept found : List ℕ) (file : ℕ) (result : Result TableState TableFault)
    → ((bytes : List ℕ) → seen ≡ Some bytes → known ≡ Some (length bytes)) → known ≡ Some size → 28 ≤ size → end + 16 ≡ size → at ≤ end
    → OnTold seen (IsOpening (opening at sum checked)) → OnTold seen (λ bytes. counts ≡ take (end - at) (drop at bytes)) → OnTold seen (λ bytes. kept ≡ take 16 (drop end bytes))
    → ((m : List ℕ) → Holds sum m → found ≡ md5 (m ++ counts))
    → ((bytes front : List ℕ) → IsRead checked front → (k : ℕ) → length front ≡ 4096 * k → bytes ≡ (front ++ counts) ++ kept → found ≡ md5 (front ++ counts) → end ≡ length (front ++ counts) → 28 ≤ length bytes → IsVerdict file bytes result)
    → OnTold seen (λ bytes. IsVerdict file bytes result)
verdict_told None known size at end sum checked counts kept found file result law is long parts within so_far read read_sum hashed verdict = tt
verdict_told (Some bytes) known size at end sum checked counts kept found file result law is long parts within so_far read read_sum hashed verdict =
    let count : size ≡ length bytes = some_same size (length bytes) (sym is ∙ law bytes refl) in
    let ends : at + (end - at) ≡ end = omega arith in
    let front : take at bytes ++ counts ≡ take end bytes = ap (λ l. take at bytes ++ l) read ∙ sym (take-add at (end - at) bytes) ∙ ap (λ n. take n bytes) ends in
    let sum_is : kept ≡ drop end bytes = read_sum ∙ take_all 16 (drop end bytes) (omega (arith, length-drop end bytes)) in
    let whole : bytes ≡ (take at bytes ++ counts) ++ kept = sym (take-append-drop end bytes) ∙ ap (λ l. l ++ drop end bytes) (sym front) ∙ ap (λ l. (take at bytes ++ counts) ++ l) (sym sum_is) in
    verdict bytes (take at bytes) so_far.read so_far.blocks (length-take-le at bytes (omega arith) ∙ so_far.at) whole (hashed (take at bytes) so_far.sum)
    (sym (ap length front ∙ length-take-le end bytes (omega arith))) (omega arith)

pub open_answer : (file : ℕ) (seen : Option (List ℕ)) (result : Result TableState TableFault) → OnTold seen (λ bytes. IsVerdict file bytes result) → IsVerdictAnswer result → IsOpenAnswer seen result
open_answer file seen (Ok table) told answer = tt
open_answer file seen (Err Device) told answer = tt
open_answer file seen (Err (Damaged place damage)) told answer = told
open_answer file seen (Err OutOfMemory) told answer = tt

second : (P Q : List ℕ → Type 0) (seen : Option (List ℕ)) → OnTold seen (λ bytes. P bytes × Q bytes) → OnTold seen Q
second P Q None told = tt
second P Q (Some bytes) told = told.1

pub open_ready : (seen seen' : Contents) (sizes' : Lengths) (file size n : ℕ) (checked : Option Checked) (result : Result TableState TableFault) → seen' file ≡ seen file → sizes' file ≡ Some size → size < 2 ^ 63 → 4096 * n ≤ size → KeepsAtMost n checked
    → OnTold (seen file) (λ bytes. IsVerdict file bytes result) → IfOk result (λ table. table.file ≡ file) → IfOk result (λ table. (m : ℕ) → KeepsAtMost m checked → length table.firsts ≤ m) → IfOk result (λ table. IsReady table seen' sizes')
open_ready seen seen' sizes' file size n checked (Err e) same known short reaches keeps told file_is firsts = tt
open_ready seen seen' sizes' file size n checked (Ok table) same known short reaches keeps told file_is firsts =
    let P : Option (List ℕ) → Type 0 = λ s. OnTold s (IsSomeTable table) in
    let few = firsts n keeps in
    record {
      size = size;
      known = ap sizes' file_is ∙ known;
      short = short;
      reaches = omega arith;
      told = subst P (sym (ap seen' file_is ∙ same)) (second (λ bytes. table.file ≡ file) (IsSomeTable table) (seen file) told);
    }
