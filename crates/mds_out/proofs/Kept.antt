-- What is kept of a file in memory, one change more or less.
use Rattle.std.proofs.Common.{◌≡◌, ◌∙◌, sym, ap, refl, ℕ, zero, suc, ◌+◌, ◌-◌, ◌<◌, ◌≤◌, Bool, List, [], ◌∷◌, ◌++◌, length, length-append, map, take, drop, get_or, All, arith}
use Rattle.std.specs.List.{AllByRecursion}
use Rattle.std.proofs.lemmas.List.Sums.{fold_more}
use Rattle.std.proofs.lemmas.List.{drop_more, get_or-map, length-drop, length-map, map-append, take-append-le, take-map, take_all, drop-append-le, drop_all}
use Rattle.mds_out.specs.Change.{Change, Write, Cut, changed, redone, change_end}
use Rattle.mds_out.specs.Content.{replayed}
use Rattle.mds_out.specs.Undo.{unwound}
use Rattle.mds_out.specs.declared.changes.KeptChange.{KeptChange}
use Rattle.mds_out.specs.declared.changes.KeptChange.TheVariants as change
use Rattle.mds_out.specs.Kept.{change_in, changes_in, IsChangeWithin}

-- bytes at a place are the same where more stand behind them
same_bytes : (written more : List ℕ) (from len : ℕ) → from + len ≤ length written → take len (drop from (written ++ more)) ≡ take len (drop from written)
same_bytes written more from len within =
    ap (take len) (drop-append-le from written more (omega (arith, within)))
    ∙ take-append-le len (drop from written) more (omega (arith, within, length-drop from written))

-- and those that were put behind stand there
pub new_bytes : (written bytes : List ℕ) → take (length bytes) (drop (length written) (written ++ bytes)) ≡ bytes
new_bytes written bytes =
    ap (take (length bytes)) (drop-append-le (length written) written bytes (omega arith) ∙ ap (λ l. l ++ bytes) (drop_all (length written) written (omega arith)))
    ∙ take_all (length bytes) bytes (omega arith)

-- ---- of one form or the other, by what it needs of the bytes

module _ {K X : Type 0} (shown : List ℕ → K → X) (Within : ℕ → K → Type 0)
    (same : (written more : List ℕ) (k : K) → Within (length written) k → shown (written ++ more) k ≡ shown written k)
    (longer : (m n : ℕ) (k : K) → m ≤ n → Within m k → Within n k) where
  same_all : (written more : List ℕ) (ks : List K) → AllByRecursion (Within (length written)) ks → map (shown (written ++ more)) ks ≡ map (shown written) ks
  same_all written more [] within = refl
  same_all written more (k ∷ ks) within = (λ i. same written more k within.0 i ∷ same_all written more ks within.1 i)

  -- one more is within
  within_one : (m n : ℕ) (ks : List K) (k : K) → m ≤ n → AllByRecursion (Within m) ks → Within n k → AllByRecursion (Within n) (ks ++ k ∷ [])
  within_one m n [] k le within one = (one, tt)
  within_one m n (first ∷ ks) k le within one = (longer m n first le within.0, within_one m n ks k le within.1 one)

  -- with one more, whose bytes were put behind
  written_one : (written bytes : List ℕ) (ks : List K) (k : K) (x : X) → AllByRecursion (Within (length written)) ks → shown (written ++ bytes) k ≡ x
      → map (shown (written ++ bytes)) (ks ++ k ∷ []) ≡ map (shown written) ks ++ x ∷ []
  written_one written bytes ks k x within is =
      map-append (shown (written ++ bytes)) ks (k ∷ [])
      ∙ (λ i. same_all written bytes ks within i ++ is i ∷ [])

-- ---- changes of a file

same_change : (written more : List ℕ) (k : KeptChange) → IsChangeWithin (length written) k → change_in (written ++ more) k ≡ change_in written k
same_change written more (change.Write at from len) within = ap (Write at) (same_bytes written more from len within)
same_change written more (change.Cut to) within = refl

change_longer : (m n : ℕ) (k : KeptChange) → m ≤ n → IsChangeWithin m k → IsChangeWithin n k
change_longer m n (change.Write at from len) le within = omega (arith, le, within)
change_longer m n (change.Cut to) le within = tt

pub changes_within : (m n : ℕ) (ks : List KeptChange) (k : KeptChange) → m ≤ n → AllByRecursion (IsChangeWithin m) ks → IsChangeWithin n k → AllByRecursion (IsChangeWithin n) (ks ++ k ∷ [])
changes_within = within_one change_in IsChangeWithin same_change change_longer

pub changes_push : (written : List ℕ) (ks : List KeptChange) (k : KeptChange) → changes_in written (ks ++ k ∷ []) ≡ changes_in written ks ++ change_in written k ∷ []
changes_push written ks k = map-append (change_in written) ks (k ∷ [])

-- with a write more
pub changes_write : (written bytes : List ℕ) (ks : List KeptChange) (at : ℕ) → AllByRecursion (IsChangeWithin (length written)) ks
    → changes_in (written ++ bytes) (ks ++ change.Write at (length written) (length bytes) ∷ []) ≡ changes_in written ks ++ Write at bytes ∷ []
changes_write written bytes ks at within =
    written_one change_in IsChangeWithin same_change change_longer written bytes ks (change.Write at (length written) (length bytes)) (Write at bytes) within (ap (Write at) (new_bytes written bytes))

-- one of them, as it is kept
change_at : (written : List ℕ) (ks : List KeptChange) (changes : List Change) (i : ℕ) (d : KeptChange) (e : Change) → changes_in written ks ≡ changes → i < length ks
    → get_or changes i e ≡ change_in written (get_or ks i d)
change_at written ks changes i d e is here = ap (λ l. get_or l i e) (sym is) ∙ get_or-map (change_in written) ks i d e here

pub count_of : (written : List ℕ) (ks : List KeptChange) (changes : List Change) → changes_in written ks ≡ changes → length changes ≡ length ks
count_of written ks changes is = ap length (sym is) ∙ length-map ks (change_in written)

-- it ends within what all end within
pub change_fits : (n : ℕ) (written : List ℕ) (ks : List KeptChange) (changes : List Change) (i : ℕ) (d : KeptChange) → changes_in written ks ≡ changes → i < length ks
    → All (λ change. change_end change ≤ n) changes → change_end (change_in written (get_or ks i d)) ≤ n
change_fits n written ks changes i d is here fit =
    let same = ap change_end (change_at written ks changes i d (Cut 0) is here) in
    let within = fit i (Cut 0) (omega (arith, here, count_of written ks changes is)) in
    omega (arith, same, within)

-- and is done behind those before it
pub redone_more : (spoil : Bool) (bytes written : List ℕ) (ks : List KeptChange) (changes : List Change) (i : ℕ) (d : KeptChange) → changes_in written ks ≡ changes → i < length ks
    → replayed spoil bytes (take (i + 1) changes) ≡ changed (replayed spoil bytes (take i changes)) (redone spoil (change_in written (get_or ks i d)))
redone_more spoil bytes written ks changes i d is here =
    fold_more (λ now step. changed now (redone spoil step)) bytes changes i (Cut 0) (omega (arith, here, count_of written ks changes is))
    ∙ ap (λ step. changed (replayed spoil bytes (take i changes)) (redone spoil step)) (change_at written ks changes i d (Cut 0) is here)

-- and is done backwards before those before it
pub unwound_more : (bytes written : List ℕ) (ks : List KeptChange) (changes : List Change) (i : ℕ) (d : KeptChange) → changes_in written ks ≡ changes → i < length ks
    → unwound bytes (drop i changes) ≡ changed (unwound bytes (drop (i + 1) changes)) (change_in written (get_or ks i d))
unwound_more bytes written ks changes i d is here =
    ap (unwound bytes) (drop_more changes i (Cut 0) (omega (arith, here, count_of written ks changes is)))
    ∙ ap (λ step. changed (unwound bytes (drop (i + 1) changes)) step) (change_at written ks changes i d (Cut 0) is here)
