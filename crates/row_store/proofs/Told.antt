-- What a disk tells, and that it tells the same after calls that change nothing.
use mathlib.Core.Path.{fun_ext}
use Rattle.std.proofs.Common.{◌≡◌, ◌∙◌, sym, subst, refl, ℕ, List, [], ◌∷◌, Option, Some, None, Bool, true, Result, Ok, Err}
use Rattle.std.specs.Prelude.{IsSome, unwrap_or}
use Rattle.mds_base.specs.declared.store_fault.StoreFault.{StoreFault}
use Rattle.mds_base.specs.declared.store_fault.StoreFault.TheVariants.{Device, Stopped, Damaged, Room, OutOfMemory}
use Rattle.mds_out.specs.Disk.{Contents, Lengths, IsUnchanged, StaysTold}
use Rattle.mds_out.specs.Known.{OnTold}
use Rattle.row_store.specs.Answers.{table_fault_of, IsLookAnswer}
use Rattle.row_store.specs.Value.{AreReady, stops_by}
use Rattle.sorted_table.specs.Answers as answers
use Rattle.sorted_table.specs.declared.fault.TableFault.{TableFault}
use Rattle.sorted_table.specs.declared.fault.TableFault.TheVariants as table
use Rattle.sorted_table.specs.Tables.{TableState, IsSomeTable, IsReady}

pub same_seen : (seen seen' : Contents) (sizes sizes' : Lengths) → IsUnchanged seen seen' sizes sizes' → seen' ≡ seen
same_seen seen seen' sizes sizes' is = fun_ext is.bytes

pub still_known : (size size' : Option ℕ) (n : ℕ) → OnTold size (λ m. size' ≡ Some m) → size ≡ Some n → size' ≡ Some n
still_known None size' n stays known = cc
still_known (Some m) size' n stays known = stays ∙ known

-- what is told of a file is what it reads as
pub when_told : (told : Option (List ℕ)) (P : List ℕ → Type 0) (Q : Type 0) → IsSome told → P (unwrap_or told []) → (OnTold told P → OnTold told (λ _. Q)) → Q
when_told None P Q some is gives = cc
when_told (Some bytes) P Q some is gives = gives is

pub told_is : (told : Option (List ℕ)) (P : List ℕ → Type 0) → IsSome told → OnTold told P → P (unwrap_or told [])
told_is None P some is = cc
told_is (Some bytes) P some is = is

abbrev pub refusal : (T : Type 0) → StoreFault → Result T StoreFault
refusal T fault = Err fault

-- ---- look-ups

pub table_answer : (T U : Type 0) (told : Option (List ℕ)) (tells : Type 0) (file : ℕ) (fault : TableFault) → (tells → IsSome told) → answers.IsLookAnswer {T = T} told (Err fault) → IsLookAnswer {T = U} tells (Err (table_fault_of file fault))
table_answer T U told tells file table.Device some answer = tt
table_answer T U told tells file (table.Damaged place damage) some answer = λ all. none told (some all) answer
  where
    none : (told : Option (List ℕ)) → IsSome told → OnTold told (λ _. ⊥) → ⊥
    none None some is = cc
    none (Some bytes) some is = is
table_answer T U told tells file table.OutOfMemory some answer = answer

pub answer_on : {T : Type 0} (tells tells' : Type 0) (result : Result T StoreFault) → (tells → tells') → IsLookAnswer tells' result → IsLookAnswer tells result
answer_on tells tells' (Ok x) more answer = tt
answer_on tells tells' (Err Device) more answer = tt
answer_on tells tells' (Err Stopped) more answer = answer
answer_on tells tells' (Err (Damaged file place damage)) more answer = λ all. answer (more all)
answer_on tells tells' (Err Room) more answer = answer
answer_on tells tells' (Err OutOfMemory) more answer = answer

pub answer_err : (T U : Type 0) (tells : Type 0) (fault : StoreFault) → IsLookAnswer {T = T} tells (Err fault) → IsLookAnswer {T = U} tells (Err fault)
answer_err T U tells Device answer = answer
answer_err T U tells Stopped answer = answer
answer_err T U tells (Damaged file place damage) answer = answer
answer_err T U tells Room answer = answer
answer_err T U tells OutOfMemory answer = answer

-- tables stay ready
pub ready_on : (table : TableState) (seen seen' : Contents) (sizes sizes' : Lengths) → IsUnchanged seen seen' sizes sizes' → IsReady table seen sizes → IsReady table seen' sizes'
ready_on table seen seen' sizes sizes' same ready = record {
  size = ready.size;
  known = still_known (sizes table.file) (sizes' table.file) ready.size (same.lengths table.file) ready.known;
  short = ready.short;
  reaches = ready.reaches;
  told = subst (λ (told : Option (List ℕ)). OnTold told (IsSomeTable table)) (sym (same.bytes table.file)) ready.told;
}

pub tables_on : (tables : List TableState) (seen seen' : Contents) (sizes sizes' : Lengths) → IsUnchanged seen seen' sizes sizes' → AreReady tables seen sizes → AreReady tables seen' sizes'
tables_on [] seen seen' sizes sizes' same ready = tt
tables_on (table ∷ tables) seen seen' sizes sizes' same ready = (ready_on table seen seen' sizes sizes' same ready.0, tables_on tables seen seen' sizes sizes' same ready.1)

-- ---- files that stay told

pub to_told : (told : Option (List ℕ)) (P : List ℕ → Type 0) → P (unwrap_or told []) → OnTold told P
to_told None P is = tt
to_told (Some bytes) P is = is

pub some_on : (told told' : Option (List ℕ)) → StaysTold told told' → IsSome told → IsSome told'
some_on None told' stays some = cc
some_on (Some bytes) None stays some = absurd stays
some_on (Some bytes) (Some now) stays some = refl

pub some_back : (told told' : Option (List ℕ)) → StaysTold told told' → IsSome told' → IsSome told
some_back None None stays some = cc
some_back None (Some now) stays some = absurd stays
some_back (Some bytes) told' stays some = refl

pub told_same : (told told' : Option (List ℕ)) → told' ≡ told → StaysTold told told'
told_same told told' same = subst (λ (now : Option (List ℕ)). StaysTold told now) (sym same) (here told)
  where
    here : (told : Option (List ℕ)) → StaysTold told told
    here None = tt
    here (Some bytes) = tt

-- ---- what stops a store

pub stops_at : (T : Type 0) (fault : StoreFault) (before : Bool) → refusal T fault ≡ refusal T Device → stops_by fault before ≡ true
stops_at T fault before is = let same : fault ≡ Device = cc in subst (λ (f : StoreFault). stops_by f before ≡ true) (sym same) refl

pub runs_on : (T : Type 0) (fault : StoreFault) (before : Bool) → (refusal T fault ≡ refusal T Device → ⊥) → stops_by fault before ≡ before
runs_on T Device before none = absurd (none refl)
runs_on T Stopped before none = refl
runs_on T (Damaged file place damage) before none = refl
runs_on T Room before none = refl
runs_on T OutOfMemory before none = refl
