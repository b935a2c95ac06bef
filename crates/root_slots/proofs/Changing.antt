-- The steps of a change of root, on the bytes of the file.
use Rattle.std.proofs.Common.{◌≡◌, inl, inr, ⊎_elim, refl, sym, ap, subst, ◌∙◌, ℕ, ◌+◌, ◌-◌, ◌<◌, ◌≤◌, List, [], ◌∷◌, ◌++◌, length, take, drop, get_or, Bool, true, false, nat_lt, Option, Some, None, arith}
use Rattle.std.specs.Prelude.{slice_index, is_some, replicate, if◌then◌else◌}
use Rattle.std.proofs.lemmas.Bool.{cases_eq, cases_lt}
use Rattle.std.proofs.lemmas.Bool.Decides.{nat_tests}
use Rattle.std.proofs.lemmas.List.{get_or-replicate, length-replicate}
use Rattle.mds_out.specs.Disk.{put}
use Rattle.mds_out.specs.Images.{IsTorn}
use Rattle.root_slots.specs.declared.root.Root.{Root}
use Rattle.root_slots.specs.declared.content.Slot.{Slot}
use Rattle.root_slots.specs.declared.content.Slot.TheVariants.{First, Second}
use Rattle.root_slots.specs.declared.content.Content.{Content}
use Rattle.root_slots.specs.declared.content.Content.TheVariants.{Closed, Open, Bad}
use Rattle.root_slots.specs.declared.content.Flaw.{Flaw}
use Rattle.root_slots.specs.declared.content.Flaw.TheVariants.{Count, Range}
use Rattle.root_slots.specs.declared.content.Found.TheVariants.{New, InForce}
use Rattle.root_slots.specs.declared.root_slots.Force.{Force}
use Rattle.root_slots.specs.declared.root_slots.RootSlots.{RootSlots}
use Rattle.root_slots.specs.declared.root_slots.Step.TheVariants.{Begun, Filled}
use Rattle.root_slots.specs.Root.{is_root}
use Rattle.root_slots.specs.Slot.{chosen, offset_of, other_of, behind, content_at, open_content, root_content, root_read, found_in}
use Rattle.root_slots.specs.Slots.{spare, emptied, filled, opened, filled_root, IsAbove, IsForce, IsFilled, IsOldOrNew, Stands}
use Rattle.root_slots.proofs.Choice.{whole_found, none_in, root_held, none_found, some_found, same_found, stays_in_force, comes_in}
use Rattle.root_slots.proofs.Windows.{get_left, place_small, apart, content_closed, content_open, gate_shut, torn_apart, torn_gate, torn_gate_content, torn_behind, length-put, put_torn, put_gate, put_behind}

-- ---- for any slot in force

-- the slot beside the one that is written
other_kept : (slot : Slot) (at count : ℕ) (old new : List ℕ) → 2048 ≤ length old → IsTorn at count old new → offset_of slot ≤ at → at + count ≤ offset_of slot + 1024
    → content_at new (other_of slot) ≡ content_at old (other_of slot)
other_kept slot at count old new whole torn low high =
    torn_apart (other_of slot) at count old new whole torn (⊎_elim (λ (below : offset_of slot + 1024 ≤ offset_of (other_of slot)). inl (omega arith)) (λ (above : offset_of (other_of slot) + 1024 ≤ offset_of slot). inr (omega arith)) (apart slot))

back : (slot : Slot) (P : Slot → Type 0) → P (other_of (other_of slot)) → P slot
back First P is = is
back Second P is = is

pub gate_is_open : (slot : Slot) (file : List ℕ) (root : Root) → content_at file slot ≡ Open root → slice_index file (offset_of slot) ≡ 1
gate_is_open slot file root is = ⊎_elim (λ opened. opened) (λ shut. absurd (apart_content root (sym (content_closed slot file shut) ∙ is))) (cases_eq (slice_index file (offset_of slot)) 1)
  where
    apart_content : (root : Root) → Closed ≡ Open root → ⊥
    apart_content root same = cc

close_found : (force : Option Force) (old new : List ℕ) → 2048 ≤ length old → IsForce force (found_in old) → slice_index old (offset_of (spare force)) ≡ 1 → IsTorn (offset_of (spare force)) 1 old new → found_in new ≡ found_in old
close_found None old new whole is gate torn = absurd (gate_shut First old (none_in old First whole (none_found (found_in old) is)) gate)
close_found (Some force) old new whole is gate torn =
    let longer : 2048 ≤ length new = omega (arith, torn.no_shorter) in
    let slot = other_of force.slot in
    let has = some_found (found_in old) force is in
    let there = other_kept slot (offset_of slot) 1 old new whole torn (omega arith) (omega arith) in
    let here = back force.slot (λ s. content_at new s ≡ content_at old s) there in
    ⊎_elim (λ shut. stays_in_force old new force.slot has.root whole longer has.is here shut ∙ sym has.is)
    (λ same. same_found old new slot whole longer (same ∙ sym (content_open slot old gate)) there)
    (torn_gate_content slot old new whole torn)

-- the slot beside the one in which a root comes into force
other_gate : (force : Option Force) (old new : List ℕ) → 2048 ≤ length old → IsForce force (found_in old) → content_at new (other_of (spare force)) ≡ content_at old (other_of (spare force))
    → is_some force ≡ true → slice_index new (offset_of (other_of (spare force))) ≡ 1
other_gate None old new whole is same some = cc
other_gate (Some force) old new whole is same some =
    let has = some_found (found_in old) force is in
    let P : Slot → Type 0 = λ s. content_at new s ≡ content_at old s in
    let here = back force.slot P same in
    forth force.slot (gate_is_open force.slot new has.root (here ∙ root_held old force.slot has.root whole has.is))
  where
    forth : (slot : Slot) → slice_index new (offset_of slot) ≡ 1 → slice_index new (offset_of (other_of (other_of slot))) ≡ 1
    forth First gate = gate
    forth Second gate = gate

other_shut : (force : Option Force) (old new : List ℕ) → 2048 ≤ length old → IsForce force (found_in old) → content_at new (other_of (spare force)) ≡ content_at old (other_of (spare force))
    → is_some force ≡ false → slice_index new (offset_of (other_of (spare force))) ≡ 1 → ⊥
other_shut None old new whole is same none gate = gate_shut Second new (same ∙ none_in old Second whole (none_found (found_in old) is)) gate
other_shut (Some force) old new whole is same none gate = cc

-- what is read as a root is that root
open_read : (bytes : List ℕ) (root : Root) → open_content bytes ≡ Open root → root_read bytes ≡ root
open_read bytes root = from_if _ _ _ (from_bad Count) (from_if _ _ _ (from_root (root_read bytes)) (from_bad _))
  where
    from_bad : (flaw : Flaw) → Bad flaw ≡ Open root → root_read bytes ≡ root
    from_bad flaw is = cc

    from_if : (test : Bool) (x y : Content) → (x ≡ Open root → root_read bytes ≡ root) → (y ≡ Open root → root_read bytes ≡ root) → (if test then x else y) ≡ Open root → root_read bytes ≡ root
    from_if true x y first second is = first is
    from_if false x y first second is = second is

    from_root : (read : Root) → root_content read ≡ Open root → read ≡ root
    from_root read = if_root (is_root read) read
      where
        if_root : (test : Bool) (read : Root) → (if test then Open read else Bad Range) ≡ Open root → read ≡ root
        if_root true read is = cc
        if_root false read is = cc

-- ---- by the value of the slots

module _ (slots : RootSlots) (file : List ℕ) (stands : Stands slots file) (made : slots.made ≡ true) where
  abbrev slot : Slot
  slot = spare slots.force

  abbrev at : ℕ
  at = offset_of (spare slots.force)

  whole : 2048 ≤ length file
  whole = stands.whole made

  within : at + 1024 ≤ length file
  within = omega (arith, whole, place_small slot)

  not_unmade : {P : Type 0} → slots.made ≡ false → P
  not_unmade unmade = let no : true ≡ false = sym made ∙ unmade in cc

  still_whole : (bytes : List ℕ) (place : ℕ) → place ≤ length file → 2048 ≤ length (put file place bytes)
  still_whole bytes place there = omega (arith, whole, length-put file bytes place there)

  -- the other slot's gate is closed
  pub closing_torn : (new : List ℕ) → slots.spare_open ≡ true → IsTorn at 1 file new → found_in new ≡ found_in file
  closing_torn new is_open torn = close_found slots.force file new whole stands.force (stands.gate_open is_open made) torn

  pub closing_found : slots.spare_open ≡ true → found_in (put file at (0 ∷ [])) ≡ found_in file
  closing_found is_open = closing_torn (put file at (0 ∷ [])) is_open (put_torn file (0 ∷ []) at (omega (arith, within)))

  pub closing_done : slots.spare_open ≡ true → Stands (emptied slots) (put file at (0 ∷ []))
  closing_done is_open =
      let torn = put_torn file (0 ∷ []) at (omega (arith, within)) in
      record {
        whole = λ _. still_whole (0 ∷ []) at (omega (arith, within));
        short = not_unmade;
        force = subst (IsForce slots.force) (sym (closing_torn (put file at (0 ∷ [])) is_open torn)) stands.force;
        gate_open = λ no. cc;
        gate_closed = λ _ _ gate. omega (arith, gate, put_gate file at 0 (omega (arith, within)));
        filled = tt;
      }

  pub closed_already : slots.spare_open ≡ false → Stands (emptied slots) file
  closed_already shut = record { whole = stands.whole; short = stands.short; force = stands.force; gate_open = λ no. cc; gate_closed = λ _. stands.gate_closed shut; filled = tt }

  -- a root is written into it
  pub filling_torn : (count : ℕ) (new : List ℕ) → count ≤ 1023 → slots.spare_open ≡ false → IsTorn (at + 1) count file new → found_in new ≡ found_in file
  filling_torn count new fits shut torn =
      same_found file new slot whole (omega (arith, whole, torn.no_shorter))
      (torn_behind slot count file new whole torn (stands.gate_closed shut made) ∙ sym (content_closed slot file (stands.gate_closed shut made)))
      (other_kept slot (at + 1) count file new whole torn (omega arith) (omega arith))

  pub filling_found : (bytes : List ℕ) → length bytes ≤ 1023 → slots.spare_open ≡ false → found_in (put file (at + 1) bytes) ≡ found_in file
  filling_found bytes fits shut = filling_torn (length bytes) (put file (at + 1) bytes) fits shut (put_torn file bytes (at + 1) (omega (arith, within)))

  module _ (root : Root) (bytes : List ℕ) (fits : length bytes ≤ 289) (read : (tail : List ℕ) → open_content (bytes ++ tail) ≡ Open root) where
    written : List ℕ
    written = put file (at + 1) bytes

    filling_content : open_content (behind written slot) ≡ Open root
    unfolding written
    filling_content = ap open_content (put_behind slot file bytes whole (omega arith)) ∙ read (take (1023 - length bytes) (drop (at + 1 + length bytes) file))

    pub filling_root : filled_root slots (put file (at + 1) bytes) ≡ root
    unfolding written
    filling_root = open_read (behind written slot) root filling_content

    pub filling_done : slots.spare_open ≡ false → IsAbove slots.force root.number → Stands (filled slots root.number) (put file (at + 1) bytes)
    unfolding written
    filling_done shut above =
        let torn = put_torn file bytes (at + 1) (omega (arith, within)) in
        record {
          whole = λ _. still_whole bytes (at + 1) (omega (arith, within));
          short = not_unmade;
          force = subst (IsForce slots.force) (sym (filling_torn (length bytes) written (omega arith) shut torn)) stands.force;
          gate_open = λ is_open. (let no : true ≡ false = sym is_open ∙ shut in cc);
          gate_closed = λ _ _ gate. stands.gate_closed shut made (sym (torn.before at (omega arith) (omega (arith, within))) ∙ gate);
          filled = (filling_content ∙ ap Open (sym filling_root), ap (λ (r : Root). r.number) filling_root, above);
        }

  -- its gate is opened
  module _ (number : ℕ) (step : slots.step ≡ Filled number) (shut : slots.spare_open ≡ false) where
    ready : IsFilled (Filled number) slots file
    ready = subst (λ s. IsFilled s slots file) step stands.filled

    comes : (new : List ℕ) → IsTorn at 1 file new → content_at new slot ≡ open_content (behind file slot) → found_in new ≡ InForce slot (filled_root slots file)
    comes new torn is_open =
        let P : ℕ → Type 0 = λ n. IsAbove slots.force n in
        comes_in slots.force file new (filled_root slots file) whole (omega (arith, whole, torn.no_shorter)) stands.force (subst P (sym ready.1) ready.2)
        (other_kept slot at 1 file new whole torn (omega arith) (omega arith)) (is_open ∙ ready.0)

    pub opening_torn : (new : List ℕ) → IsTorn at 1 file new → IsOldOrNew slots file new
    opening_torn new torn =
        ⊎_elim (λ closed. inl (same_found file new slot whole (omega (arith, whole, torn.no_shorter)) (closed ∙ sym (content_closed slot file (stands.gate_closed shut made)))
        (other_kept slot at 1 file new whole torn (omega arith) (omega arith))))
        (λ is_open. inr (comes new torn is_open)) (torn_gate_content slot file new whole torn)

    opening : IsTorn at 1 file (put file at (1 ∷ []))
    opening = put_torn file (1 ∷ []) at (omega (arith, within))

    pub opening_found : found_in (put file at (1 ∷ [])) ≡ InForce slot (filled_root slots file)
    opening_found =
        comes (put file at (1 ∷ [])) opening
        (content_open slot (put file at (1 ∷ [])) (put_gate file at 1 (omega (arith, within))) ∙ ap open_content (torn_gate slot file (put file at (1 ∷ [])) whole opening))

    pub opening_done : Stands (opened slots number) (put file at (1 ∷ []))
    opening_done =
        let new = put file at (1 ∷ []) in
        let there = other_kept slot at 1 file new whole opening (omega arith) (omega arith) in
        record {
          whole = λ _. still_whole (1 ∷ []) at (omega (arith, within));
          short = not_unmade;
          force = subst (IsForce (Some (record { slot = slot; number = number }))) (sym opening_found) (refl, ready.1);
          gate_open = λ some _. other_gate slots.force file new whole stands.force there some;
          gate_closed = λ none _ gate. other_shut slots.force file new whole stands.force there none gate;
          filled = tt;
        }

-- ---- making the file

pub short_new : (file : List ℕ) → length file < 2048 → found_in file ≡ New
short_new file short =
    let few : nat_lt (length file) 2048 ≡ true = grind (arith, nat_tests) in
    ap (λ (b : Bool). if b then New else chosen (content_at file First) (content_at file Second)) few

gates_new : (file : List ℕ) → 2048 ≤ length file → slice_index file 0 ≡ 0 → slice_index file 1024 ≡ 0 → found_in file ≡ New
gates_new file whole first second =
    let shut_first : slice_index file 0 ≡ 1 → ⊥ = λ gate. omega (arith, gate, first) in
    let shut_second : slice_index file 1024 ≡ 1 → ⊥ = λ gate. omega (arith, gate, second) in
    whole_found file whole ∙ ap (λ a. chosen a (content_at file Second)) (content_closed First file shut_first) ∙ ap (chosen Closed) (content_closed Second file shut_second)

-- 2047 zeros, and the file as it was until then
pub making_torn : (old new : List ℕ) → length old < 2048 → IsTorn 0 2047 old new → found_in new ≡ New
making_torn old new short torn = short_new new (omega (arith, torn.no_longer))

module _ (old zeros : List ℕ) (short : length old < 2048) (are : zeros ≡ replicate 2047 0) where
  size : length zeros ≡ 2047
  size = ap length are ∙ length-replicate {A = ℕ} 2047 0

  first : List ℕ
  first = put old 0 zeros

  first_size : length first ≡ 2047
  unfolding first
  first_size = omega (arith, short, size, length-put old zeros 0 (omega arith))

  zero_at : (place : ℕ) → place < 2047 → slice_index first place ≡ 0
  unfolding first
  zero_at place within = get_left zeros (drop (0 + length zeros) old) place (omega (arith, size, within)) ∙ ap (λ l. get_or l place 0) are ∙ get_or-replicate 2047 place 0 0 within

  -- the last byte
  pub made_torn : (new : List ℕ) → IsTorn 2047 1 (put old 0 zeros) new → found_in new ≡ New
  unfolding first
  made_torn new torn = ⊎_elim (short_new new)
      (λ whole. gates_new new whole (torn.before 0 (omega arith) (omega (arith, first_size)) ∙ zero_at 0 (omega arith)) (torn.before 1024 (omega arith) (omega (arith, first_size)) ∙ zero_at 1024 (omega arith)))
      (cases_lt (length new) 2048)

  pub made_stands : (slots : RootSlots) → slots.force ≡ None → slots.spare_open ≡ false → slots.step ≡ Begun → slots.made ≡ true → Stands slots (put (put old 0 zeros) 2047 (0 ∷ []))
  unfolding first
  made_stands slots none shut begun made =
      let torn = put_torn first (0 ∷ []) 2047 (omega (arith, first_size)) in
      let new = put first 2047 (0 ∷ []) in
      let whole : 2048 ≤ length new = omega (arith, first_size, length-put first (0 ∷ []) 2047 (omega (arith, first_size))) in
      let gate : slice_index new 0 ≡ 0 = torn.before 0 (omega arith) (omega (arith, first_size)) ∙ zero_at 0 (omega arith) in
      record {
        whole = λ _. whole;
        short = λ unmade. (let no : true ≡ false = sym made ∙ unmade in cc);
        force = subst (λ f. IsForce f (found_in new)) (sym none) (subst (IsForce None) (sym (made_torn new torn)) tt);
        gate_open = λ is_open. (let no : true ≡ false = sym is_open ∙ shut in cc);
        gate_closed = λ _ _ is. omega (arith, gate, ap (λ f. slice_index new (offset_of (spare f))) (sym none) ∙ is);
        filled = subst (λ s. IsFilled s slots new) (sym begun) tt;
      }
