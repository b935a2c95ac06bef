-- The buffer of a file in memory through a change and a restart.
use Rattle.std.proofs.Common.{◌≡◌, ℕ, ◌≤◌, List, [], ◌∷◌, ◌++◌, length, take, drop, false, sym, ◌∙◌, ap, subst, arith, All}
use Rattle.std.proofs.lemmas.List.{take_all, drop_all, append-nil, take-take, length-take}
use Rattle.std.proofs.lemmas.List.Sums.{fold-append}
use Rattle.std.proofs.lemmas.List.Elements.{All-push}
use Rattle.mds_out.specs.Change.{Change, changed, redone, change_end}
use Rattle.mds_out.specs.Content.{replayed}
use Rattle.mds_out.specs.FileRooms.{HasRooms}
use Rattle.mds_out.specs.Undo.{unwound}

-- a front of a list that stays at the front of a longer one
pub front_stays : (old new : List ℕ) (n : ℕ) → take (length old) new ≡ old → n ≤ length old → take n new ≡ take n old
front_stays old new n stays within = sym (take-take n (length old) new within) ∙ ap (take n) stays

pub replayed_push : (bytes : List ℕ) (since : List Change) (change : Change) → replayed false bytes (since ++ change ∷ []) ≡ changed (replayed false bytes since) change
replayed_push bytes since change = fold-append (λ now step. changed now (redone false step)) bytes since (change ∷ [])

pub fits_longer : (n m : ℕ) (since : List Change) → n ≤ m → All (λ change. change_end change ≤ n) since → All (λ change. change_end change ≤ m) since
fits_longer n m since le fits = λ k d here. omega (arith, fits k d here)

pub fits_push : (n : ℕ) (since : List Change) (change : Change) → All (λ step. change_end step ≤ n) since → change_end change ≤ n → All (λ step. change_end step ≤ n) (since ++ change ∷ [])
fits_push n since change fits last = All-push (λ step. change_end step ≤ n) since change fits last

-- a buffer that was lent whole, as a goal shows it
pub lent_whole : (old new : List ℕ) (n : ℕ) → length new ≡ length old → n ≡ length old → take n (new ++ drop (length new) old) ≡ new
lent_whole old new n same is = ap (λ l. take n (new ++ l)) (drop_all (length new) old (omega arith)) ∙ ap (take n) (append-nil new) ∙ take_all n new (omega arith)

-- more room, and more that takes the same file back
pub noted_rooms : (current current' : List ℕ) (len : ℕ) (undo undo' since : List Change) → HasRooms current len undo since → take (length current) current' ≡ current → length current ≤ length current'
    → unwound (take len current') undo' ≡ unwound (take len current') undo → ((n : ℕ) → length (take len current') ≤ n → All (λ change. change_end change ≤ n) undo → All (λ change. change_end change ≤ n) undo')
    → HasRooms current' len undo' since
noted_rooms current current' len undo undo' since rooms front longer same fit =
    let stays : take len current' ≡ take len current = front_stays current current' len front rooms.room in
    record {
      reads = stays ∙ rooms.reads ∙ ap (λ l. replayed false (unwound l undo) since) (sym stays) ∙ ap (λ l. replayed false l since) (sym same);
      room = omega (arith, rooms.room, longer);
      undo_fits = fit (length current') (omega (arith, length-take len current', rooms.room, longer)) (fits_longer (length current) (length current') undo longer rooms.undo_fits);
      changes_fit = fits_longer (length current) (length current') since longer rooms.changes_fit;
    }

-- and the file is taken back to what it was
pub noted_back : (current current' : List ℕ) (len : ℕ) (undo undo' since : List Change) → HasRooms current len undo since → take (length current) current' ≡ current
    → unwound (take len current') undo' ≡ unwound (take len current') undo → unwound (take len current') undo' ≡ unwound (take len current) undo
noted_back current current' len undo undo' since rooms front same = same ∙ ap (λ l. unwound l undo) (front_stays current current' len front rooms.room)

-- a change leaves room
pub changed_rooms : (current current' : List ℕ) (len n : ℕ) (undo undo' since since' : List Change) (change : Change) → HasRooms current len undo since → length current' ≡ length current → n ≤ length current'
    → take n current' ≡ changed (take len current) change → unwound (take n current') undo' ≡ unwound (take len current) undo
    → ((m : ℕ) → length (take len current) ≤ m → All (λ change. change_end change ≤ m) undo → All (λ change. change_end change ≤ m) undo') → change_end change ≤ length current → since' ≡ since ++ change ∷ [] → HasRooms current' n undo' since'
changed_rooms current current' len n undo undo' since since' change rooms same count is back fit end pushed = record {
  reads = is ∙ ap (λ l. changed l change) rooms.reads ∙ sym (replayed_push (unwound (take len current) undo) since change) ∙ ap (λ l. replayed false l (since ++ change ∷ [])) (sym back)
      ∙ ap (replayed false (unwound (take n current') undo')) (sym pushed);
  room = count;
  undo_fits = subst (λ m. All (λ step. change_end step ≤ m) undo') (sym same) (fit (length current) (omega (arith, length-take len current, rooms.room)) rooms.undo_fits);
  changes_fit = subst (λ l. All (λ step. change_end step ≤ length current') l) (sym pushed)
      (subst (λ m. All (λ step. change_end step ≤ m) (since ++ change ∷ [])) (sym same) (fits_push (length current) since change rooms.changes_fit end));
}
