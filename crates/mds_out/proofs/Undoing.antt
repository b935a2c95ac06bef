-- What takes a file back from a change.
use Rattle.std.proofs.Common.{◌≡◌, ⊎_elim, ℕ, ◌+◌, ◌-◌, ◌<◌, ◌≤◌, min, List, [], ◌∷◌, ◌++◌, length, take, drop, refl, sym, ◌∙◌, ap, subst, arith, append_assoc, length-append, take-append-drop, All}
use Rattle.std.proofs.lemmas.List.{take_at, take_all, take-take, length-take-le, length-take, length-drop, take-append-le}
use Rattle.std.proofs.lemmas.List.Elements.{All-push}
use Rattle.std.proofs.lemmas.Bool.{cases_lt}
use Rattle.std.proofs.Math.Seq.{take-add, drop-append_seam}
use Rattle.mds_out.specs.Change.{Change, Write, Cut, changed, change_end}
use Rattle.mds_out.specs.Disk.{put}
use Rattle.mds_out.specs.Undo.{unwound}

unwound_push : (bytes : List ℕ) (changes : List Change) (change : Change) → unwound bytes (changes ++ change ∷ []) ≡ unwound (changed bytes change) changes
unwound_push bytes [] change = refl
unwound_push bytes (first ∷ changes) change = ap (λ b. changed b first) (unwound_push bytes changes change)

-- bytes that were put back over what a change made of a file, which left all outside of their range
put_back : (file now : List ℕ) (from to : ℕ) → from ≤ to → to ≤ length file → take from now ≡ take from file → (to < length file → drop to now ≡ drop to file)
    → take (length file) (put now from (take (to - from) (drop from file))) ≡ file
put_back file now from to order within front rest =
    ap (take (length file))
    (ap (λ l. l ++ over ++ drop (from + length over) now) front
    ∙ ap (λ l. l ++ drop (from + length over) now) (sym (take-add from (to - from) file) ∙ ap (λ n. take n file) (omega arith))
    ∙ ap (λ n. take to file ++ drop n now) (omega (arith, size)))
    ∙ ⊎_elim inside whole (cases_lt to (length file))
  where
    over : List ℕ
    over = take (to - from) (drop from file)

    size : length over ≡ to - from
    size = length-take-le (to - from) (drop from file) (omega (arith, length-drop from file))

    inside : to < length file → take (length file) (take to file ++ drop to now) ≡ file
    inside lt = ap (λ l. take (length file) (take to file ++ l)) (rest lt) ∙ ap (take (length file)) (take-append-drop to file) ∙ take_all (length file) file (omega arith)

    whole : length file ≤ to → take (length file) (take to file ++ drop to now) ≡ file
    whole le = ap (λ l. take (length file) (l ++ drop to now)) (take_all to file (omega arith)) ∙ take_at file (drop to now) (length file) refl

-- the length alone was kept
pub unwound_length : (file : List ℕ) (undo undo' : List Change) → undo' ≡ undo ++ Cut (length file) ∷ [] → unwound file undo' ≡ unwound file undo
unwound_length file undo undo' is = ap (unwound file) is ∙ unwound_push file undo (Cut (length file)) ∙ ap (λ b. unwound b undo) (take_all (length file) file (omega arith))

-- the length was kept, and the bytes
pub unwound_back : (file now : List ℕ) (undo mid undo' : List Change) (from to : ℕ) → mid ≡ undo ++ Cut (length file) ∷ [] → undo' ≡ mid ++ Write from (take (to - from) (drop from file)) ∷ [] → from ≤ to → to ≤ length file
    → take from now ≡ take from file → (to < length file → drop to now ≡ drop to file) → unwound now undo' ≡ unwound file undo
unwound_back file now undo mid undo' from to cut write order within front rest =
    let over : List ℕ = take (to - from) (drop from file) in
    ap (unwound now) write ∙ unwound_push now mid (Write from over) ∙ ap (unwound (put now from over)) cut
    ∙ unwound_push (put now from over) undo (Cut (length file)) ∙ ap (λ b. unwound b undo) (put_back file now from to order within front rest)

pub unwound_same : (file : List ℕ) (undo mid undo' : List Change) (from to : ℕ) → mid ≡ undo ++ Cut (length file) ∷ [] → undo' ≡ mid ++ Write from (take (to - from) (drop from file)) ∷ [] → from ≤ to → to ≤ length file
    → unwound file undo' ≡ unwound file undo
unwound_same file undo mid undo' from to cut write order within = unwound_back file file undo mid undo' from to cut write order within refl (λ lt. refl)

-- there is room for what was kept
pub length_fits : (n : ℕ) (file : List ℕ) (undo undo' : List Change) → undo' ≡ undo ++ Cut (length file) ∷ [] → All (λ change. change_end change ≤ n) undo → All (λ change. change_end change ≤ n) undo'
length_fits n file undo undo' is fit = subst (All (λ change. change_end change ≤ n)) (sym is) (All-push (λ change. change_end change ≤ n) undo (Cut (length file)) fit (omega arith))

pub back_fits : (n : ℕ) (file : List ℕ) (undo mid undo' : List Change) (from to : ℕ) → mid ≡ undo ++ Cut (length file) ∷ [] → undo' ≡ mid ++ Write from (take (to - from) (drop from file)) ∷ [] → from ≤ to → to ≤ length file
    → length file ≤ n → All (λ change. change_end change ≤ n) undo → All (λ change. change_end change ≤ n) undo'
back_fits n file undo mid undo' from to cut write order within le fit =
    let end : from + length (take (to - from) (drop from file)) ≤ n = omega (arith, length-take-le (to - from) (drop from file) (omega (arith, length-drop from file))) in
    subst (All (λ change. change_end change ≤ n)) (sym write) (All-push (λ change. change_end change ≤ n) mid (Write from (take (to - from) (drop from file))) (length_fits n file undo mid cut fit) end)

-- ---- the two changes

pub write_front : (file bytes : List ℕ) (at : ℕ) → take (min at (length file)) (put file at bytes) ≡ take (min at (length file)) file
write_front file bytes at =
    ap (take (min at (length file))) (append_assoc (take at file) bytes (drop (at + length bytes) file))
    ∙ take-append-le (min at (length file)) (take at file) (bytes ++ drop (at + length bytes) file) (omega (arith, length-take at file))
    ∙ take-take (min at (length file)) at file (omega arith)

pub write_rest : (file bytes : List ℕ) (at : ℕ) → min (at + length bytes) (length file) < length file → drop (min (at + length bytes) (length file)) (put file at bytes) ≡ drop (min (at + length bytes) (length file)) file
write_rest file bytes at lt =
    let end : min (at + length bytes) (length file) ≡ at + length bytes = omega arith in
    let size : length (take at file ++ bytes) ≡ at + length bytes = omega (arith, length-append (take at file) bytes, length-take at file) in
    ap (λ n. drop n (put file at bytes)) (end ∙ sym size) ∙ drop-append_seam (take at file ++ bytes) (drop (at + length bytes) file) ∙ ap (λ n. drop n file) (sym end)

pub cut_front : (file : List ℕ) (to : ℕ) → take (min to (length file)) (take to file) ≡ take (min to (length file)) file
cut_front file to = take-take (min to (length file)) to file (omega arith)
