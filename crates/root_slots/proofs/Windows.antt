-- What writes into file 0 leave of its slots.
use Rattle.std.proofs.Common.{◌≡◌, ◌⊎◌, inl, inr, ⊎_elim, refl, sym, ap, ◌∙◌, ℕ, ◌+◌, ◌-◌, ◌<◌, ◌≤◌, max, List, [], ◌∷◌, ◌++◌, length, take, drop, get_or, Bool, true, false, arith, append_assoc, length-append}
use Rattle.std.specs.Prelude.{slice_index, ◌==◌, if◌then◌else◌}
use Rattle.std.proofs.lemmas.Bool.{cases_eq}
use Rattle.std.proofs.lemmas.Bool.Decides.{nat_tests}
use Rattle.std.proofs.lemmas.List.{take_at, drop_at, length-drop, length-take-le, get_or-take, get_or-drop, get_or-append_right, ext_get_or}
use Rattle.std.proofs.Math.Seq.{take-append-add}
use Rattle.mds_out.specs.Disk.{put}
use Rattle.mds_out.specs.Images.{IsTorn}
use Rattle.root_slots.specs.declared.content.Slot.{Slot}
use Rattle.root_slots.specs.declared.content.Slot.TheVariants.{First, Second}
use Rattle.root_slots.specs.declared.content.Content.{Content}
use Rattle.root_slots.specs.declared.content.Content.TheVariants.{Closed, Open, Bad}
use Rattle.root_slots.specs.declared.content.Flaw.{Flaw}
use Rattle.root_slots.specs.declared.content.Flaw.TheVariants.{Count, Range}
use Rattle.root_slots.specs.declared.root.Root.{Root}
use Rattle.root_slots.specs.Root.{is_root}
use Rattle.root_slots.specs.Slot.{offset_of, other_of, behind, content_at, open_content, root_content, root_read}

pub place_small : (slot : Slot) → offset_of slot ≤ 1024
place_small First = omega arith
place_small Second = omega arith

-- the one slot ends where the other begins
pub apart : (slot : Slot) → (offset_of slot + 1024 ≤ offset_of (other_of slot)) ⊎ (offset_of (other_of slot) + 1024 ≤ offset_of slot)
apart First = inl (omega arith)
apart Second = inr (omega arith)

-- ---- a slot whose bytes stay

length-behind : (slot : Slot) (file : List ℕ) → 2048 ≤ length file → length (behind file slot) ≡ 1023
length-behind slot file whole = length-take-le 1023 (drop (offset_of slot + 1) file) (omega (arith, length-drop (offset_of slot + 1) file, place_small slot))

pub behind_kept : (slot : Slot) (old new : List ℕ) → 2048 ≤ length old → 2048 ≤ length new
    → ((place : ℕ) → offset_of slot < place → place < offset_of slot + 1024 → slice_index new place ≡ slice_index old place) → behind new slot ≡ behind old slot
behind_kept slot old new whole longer same =
    ext_get_or 0 (behind new slot) (behind old slot) (length-behind slot new longer ∙ sym (length-behind slot old whole)) (λ i within.
    let short : i < 1023 = omega (arith, length-behind slot new longer) in
    get_or-take 1023 (drop (offset_of slot + 1) new) i 0 short ∙ get_or-drop (offset_of slot + 1) new i 0
    ∙ same (offset_of slot + 1 + i) (omega arith) (omega arith)
    ∙ sym (get_or-take 1023 (drop (offset_of slot + 1) old) i 0 short ∙ get_or-drop (offset_of slot + 1) old i 0))

-- what a slot holds is a matter of its gate and of what stands behind it
pub same_content : (slot : Slot) (old new : List ℕ) → slice_index new (offset_of slot) ≡ slice_index old (offset_of slot) → behind new slot ≡ behind old slot → content_at new slot ≡ content_at old slot
same_content slot old new gate tail =
    ap (λ (g : ℕ). if g == 1 then open_content (behind new slot) else Closed) gate
    ∙ ap (λ bytes. if slice_index old (offset_of slot) == 1 then open_content bytes else Closed) tail

pub content_closed : (slot : Slot) (file : List ℕ) → (slice_index file (offset_of slot) ≡ 1 → ⊥) → content_at file slot ≡ Closed
content_closed slot file shut =
    let no : (slice_index file (offset_of slot) == 1) ≡ false = grind (arith, nat_tests) in
    ap (λ (b : Bool). if b then open_content (behind file slot) else Closed) no

pub content_open : (slot : Slot) (file : List ℕ) → slice_index file (offset_of slot) ≡ 1 → content_at file slot ≡ open_content (behind file slot)
content_open slot file is = ap (λ (g : ℕ). if g == 1 then open_content (behind file slot) else Closed) is

-- behind an open gate stands a root, or something damaged
if_not : (b : Bool) (x y : Content) → (x ≡ Closed → ⊥) → (y ≡ Closed → ⊥) → (if b then x else y) ≡ Closed → ⊥
if_not true x y no_x no_y is = no_x is
if_not false x y no_x no_y is = no_y is

bad_not : (flaw : Flaw) → Bad flaw ≡ Closed → ⊥
bad_not flaw is = cc

root_not : (root : Root) → root_content root ≡ Closed → ⊥
root_not root = if_not (is_root root) (Open root) (Bad Range) (λ is. cc) (bad_not Range)

pub open_not_closed : (bytes : List ℕ) → open_content bytes ≡ Closed → ⊥
open_not_closed bytes = if_not _ _ _ (bad_not Count) (if_not _ _ _ (root_not (root_read bytes)) (bad_not _))

pub gate_shut : (slot : Slot) (file : List ℕ) → content_at file slot ≡ Closed → slice_index file (offset_of slot) ≡ 1 → ⊥
gate_shut slot file closed is = open_not_closed (behind file slot) (sym (content_open slot file is) ∙ closed)

-- ---- a write that a crash cuts short

-- into the other slot
pub torn_apart : (slot : Slot) (at count : ℕ) (old new : List ℕ) → 2048 ≤ length old → IsTorn at count old new → (at + count ≤ offset_of slot) ⊎ (offset_of slot + 1024 ≤ at) → content_at new slot ≡ content_at old slot
torn_apart slot at count old new whole torn there =
    let same : (place : ℕ) → offset_of slot ≤ place → place < offset_of slot + 1024 → slice_index new place ≡ slice_index old place = λ place low high.
    ⊎_elim (λ below. torn.behind place (omega arith) (omega (arith, place_small slot))) (λ above. torn.before place (omega arith) (omega (arith, place_small slot))) there in
    same_content slot old new (same (offset_of slot) (omega arith) (omega arith)) (behind_kept slot old new whole (omega (arith, torn.no_shorter)) (λ place low high. same place (omega arith) high))

-- over the gate
pub torn_gate : (slot : Slot) (old new : List ℕ) → 2048 ≤ length old → IsTorn (offset_of slot) 1 old new → behind new slot ≡ behind old slot
torn_gate slot old new whole torn = behind_kept slot old new whole (omega (arith, torn.no_shorter)) (λ place low high. torn.behind place (omega arith) (omega (arith, place_small slot)))

pub torn_gate_content : (slot : Slot) (old new : List ℕ) → 2048 ≤ length old → IsTorn (offset_of slot) 1 old new → (content_at new slot ≡ Closed) ⊎ (content_at new slot ≡ open_content (behind old slot))
torn_gate_content slot old new whole torn =
    ⊎_elim (λ is. inr (content_open slot new is ∙ ap open_content (torn_gate slot old new whole torn))) (λ shut. inl (content_closed slot new shut)) (cases_eq (slice_index new (offset_of slot)) 1)

-- behind the gate
pub torn_behind : (slot : Slot) (count : ℕ) (old new : List ℕ) → 2048 ≤ length old → IsTorn (offset_of slot + 1) count old new → (slice_index old (offset_of slot) ≡ 1 → ⊥) → content_at new slot ≡ Closed
torn_behind slot count old new whole torn shut =
    let gate : slice_index new (offset_of slot) ≡ slice_index old (offset_of slot) = torn.before (offset_of slot) (omega arith) (omega (arith, place_small slot)) in
    content_closed slot new (λ is. shut (sym gate ∙ is))

-- ---- a write that was done

pub length-put : (file bytes : List ℕ) (at : ℕ) → at ≤ length file → length (put file at bytes) ≡ max (length file) (at + length bytes)
length-put file bytes at within =
    omega (arith, length-append (take at file ++ bytes) (drop (at + length bytes) file), length-append (take at file) bytes, length-take-le at file within, length-drop (at + length bytes) file)

put_split : (file bytes : List ℕ) (at : ℕ) → put file at bytes ≡ take at file ++ (bytes ++ drop (at + length bytes) file)
put_split file bytes at = append_assoc (take at file) bytes (drop (at + length bytes) file)

pub get_left : (xs ys : List ℕ) (k : ℕ) → k < length xs → get_or (xs ++ ys) k 0 ≡ get_or xs k 0
get_left xs ys k within = sym (get_or-take (length xs) (xs ++ ys) k 0 within) ∙ ap (λ l. get_or l k 0) (take_at xs ys (length xs) refl)

-- a write that was done is one that a crash might have cut short
pub put_torn : (file bytes : List ℕ) (at : ℕ) → at ≤ length file → IsTorn at (length bytes) file (put file at bytes)
put_torn file bytes at within =
    let front = length-take-le at file within in
    record {
      no_shorter = omega (arith, length-put file bytes at within);
      no_longer = omega (arith, length-put file bytes at within);
      before = λ place low short.
          ap (λ l. get_or l place 0) (put_split file bytes at) ∙ get_left (take at file) (bytes ++ drop (at + length bytes) file) place (omega (arith, front))
          ∙ get_or-take at file place 0 low;
      behind = λ place high short.
          get_or-append_right (take at file ++ bytes) (drop (at + length bytes) file) (at + length bytes) place 0 (omega (arith, length-append (take at file) bytes, front)) high
          ∙ get_or-drop (at + length bytes) file (place - (at + length bytes)) 0
          ∙ (let back : at + length bytes + (place - (at + length bytes)) ≡ place = omega arith in ap (λ n. get_or file n 0) back);
    }

-- the gate that was written
pub put_gate : (file : List ℕ) (at gate : ℕ) → at < length file → slice_index (put file at (gate ∷ [])) at ≡ gate
put_gate file at gate within =
    let front = length-take-le at file (omega arith) in
    ap (λ l. get_or l at 0) (put_split file (gate ∷ []) at)
    ∙ get_or-append_right (take at file) (gate ∷ drop (at + 1) file) at at 0 front (omega arith)
    ∙ (let none : at - at ≡ 0 = omega arith in ap (λ n. get_or (gate ∷ drop (at + 1) file) n 0) none)

-- the bytes that were written behind the gate
pub put_behind : (slot : Slot) (file bytes : List ℕ) → 2048 ≤ length file → length bytes ≤ 1023
    → behind (put file (offset_of slot + 1) bytes) slot ≡ bytes ++ take (1023 - length bytes) (drop (offset_of slot + 1 + length bytes) file)
put_behind slot file bytes whole fits =
    let at = offset_of slot + 1 in
    let front = length-take-le at file (omega (arith, place_small slot)) in
    let width : 1023 ≡ length bytes + (1023 - length bytes) = omega arith in
    ap (λ l. take 1023 (drop at l)) (put_split file bytes at) ∙ ap (take 1023) (drop_at (take at file) (bytes ++ drop (at + length bytes) file) at front)
    ∙ ap (λ n. take n (bytes ++ drop (at + length bytes) file)) width ∙ take-append-add bytes (drop (at + length bytes) file) (1023 - length bytes)
