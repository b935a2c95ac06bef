-- What the calls of a bitmap do to the set that it stands for.
use Rattle.std.proofs.Common.{◌≡◌, ℕ, zero, suc, ◌+◌, ◌-◌, ◌*◌, ◌/◌, ◌%◌, ◌^◌, ◌<◌, ◌≤◌, ◌↔◌, ◌==◌, ◌&&◌, ◌||◌, nat_lt, inl, inr, Bool, true, false, IsTrue, List, slice_index, get_or, replicate, sym, refl, ap, ap₂, ◌∙◌, subst, arith, pow-suc, pow_pos, pow_mono, w32}
use Rattle.std.proofs.Math.Path.{fun_ext}
use Rattle.std.specs.FinSet as set
use Rattle.std.specs.Ordering.{nat_cmp}
use Rattle.std.specs.Int.{bit_at, leading_zeros}
use Rattle.std.proofs.Math.Nat.{mod-one}
use Rattle.std.proofs.lemmas.Bool.{true≢false, cases_Bool, cases_lt, cases_eq, eq-eqb, ne_eqb}
use Rattle.std.proofs.lemmas.Nat.{leading_length}
use Rattle.std.proofs.lemmas.Nat.Bits.{ones_shr, bit_at-zero}
use Rattle.chains.specs.Chain.{OnChain, IsLastOnChain, IsNextOnChain}
use Rattle.chains.specs.WellFormed.{IsWellFormed, with_number, IsMissing, IsLeastMissing, IsRequiredBy}
use Rattle.chains.specs.Located.{located, IsLocated}
use Rattle.chains.specs.Depth.{depth_of, IsDepth, HasChildrenBelow}
use Rattle.chains.specs.Reversed.{reversed, last_of}
use Rattle.chains.proofs.Prefixes.{chain_prefix, located_greatest, located_at, locate_grows}
use Rattle.chains.proofs.Sets.{root_formed, union_formed, union_has_first, with_formed, missing_with, required_missing, formed_from}
use Rattle.chains.proofs.Depths.{depth_is, depth_least, depth_before, depth_add_parent, depth_add_child, range_is_located}
use Rattle.chains.proofs.Reversals.{range_interval, span_halves, span_fits}
use Rattle.bitmap.specs.Bits.{Bits, has, IsLeastLacking}
use Rattle.bitmap.specs.Span.{range_of, IsInside, IsHalved, SplitsAt}
use Rattle.bitmap.specs.declared.span.Span.{Span}
use Rattle.bitmap.specs.Words.{word_count, word_bits, IsWhole, set_of, bit_of, IsBitmap}
use Rattle.bitmap.specs.BitSetLaws.{has_with, has_union, has_zero, same_bits}
use Rattle.bitmap.specs.WordLaws.{has_set, bit_below}

abbrev pub record_of : ℕ → ℕ → Span
record_of first last = record { first = first; last = last }

-- ---- unions

pub union_stays_formed : {r : ℕ} (a b : Bits) → IsWellFormed r (has a) → IsWellFormed r (has b) → IsWellFormed r (has (set.union a b))
union_stays_formed {r} a b f g = subst (IsWellFormed r) (sym (has_union a b)) (union_formed f g)

pub union_grows : {r : ℕ} (a b : Bits) → IsWellFormed r (has a) → IsWellFormed r (has b) → (h : ℕ) → located r h (has a) ≤ located r h (has (set.union a b))
union_grows {r} a b f g h =
    locate_grows f (union_stays_formed a b f g)
    (λ i e. ap (λ (t : ℕ → Bool). t i) (has_union a b) ∙ union_has_first (has a) (has b) i e) h

-- the same in the words of the two bitmaps
pub union_grows_at : {r : ℕ} (s b o new : Bits) → s ≡ b → IsWellFormed r (has s) → IsWellFormed r (has o) → new ≡ set.union s o → (h : ℕ) → located r h (has b) ≤ located r h (has new)
union_grows_at {r} s b o new same f g is h =
    let step = union_grows s o f g h in
    let from = ap (λ (x : Bits). located r h (has x)) same in
    let to = ap (λ (x : Bits). located r h (has x)) is in
    omega (arith, step, from, to)

-- ---- a child more

pub refused : {r : ℕ} (s b : Bits) → s ≡ b → IsWellFormed r (has s) → (p d m : ℕ) → p < 2 ^ d → d < r → IsLeastLacking s p d m → IsWellFormed r (has (set.insert b (p + 2 ^ d))) → ⊥
refused {r} s b is f p d m low deep w g =
    let q = p + 2 ^ d in
    let here = subst (λ (x : Bits). IsWellFormed r (has (set.insert x q))) (sym is) g in
    true≢false (sym ((with_formed f p d low deep).0 (subst (IsWellFormed r) (has_with s q) here) m w.required) ∙ w.lacks)

pub refused_least : {r : ℕ} (s b : Bits) → s ≡ b → IsWellFormed r (has s) → (p d m : ℕ) → p < 2 ^ d → d < r → IsLeastLacking s p d m → IsLeastMissing r (has (set.insert b (p + 2 ^ d))) m
refused_least {r} s b is f p d m low deep w =
    let q = p + 2 ^ d in
    let at : has (set.insert b q) ≡ with_number (has s) q = ap (λ (x : Bits). has (set.insert x q)) (sym is) ∙ has_with s q in
    subst (λ (t : ℕ → Bool). IsLeastMissing r t m) (sym at) (record {
      missing = required_missing (has s) p d low deep m w.lacks w.required;
      least = λ x lacks. let need = missing_with f p d low x lacks in w.least x need.0 need.1;
    })

-- the set before and after a child was added
pub record Adds (r : ℕ) (old new : Bits) (p d : ℕ) : Type 0 where
  pub formed : IsWellFormed r (has old)
  pub grown : IsWellFormed r (has new)
  pub low : p < 2 ^ d
  pub deep : d < r
  pub is : new ≡ set.insert old (p + 2 ^ d)

pub adds : {r : ℕ} (s old new : Bits) → s ≡ old → IsWellFormed r (has s) → (p d : ℕ) → p < 2 ^ d → d < r → ((m : ℕ) → IsRequiredBy p d m → IsTrue (has s m)) → new ≡ set.insert s (p + 2 ^ d) → Adds r old new p d
adds {r} s old new same f p d low deep all is =
    let q = p + 2 ^ d in
    record {
      formed = subst (λ (x : Bits). IsWellFormed r (has x)) same f;
      grown = subst (λ (t : ℕ → Bool). IsWellFormed r t) (sym (ap has is ∙ has_with s q)) ((with_formed f p d low deep).1 all);
      low = low;
      deep = deep;
      is = is ∙ ap (λ (x : Bits). set.insert x q) same;
    }

pub adds_formed : {r p d : ℕ} {old new : Bits} → Adds r old new p d → IsWellFormed r (has (set.insert old (p + 2 ^ d)))
adds_formed {r} a = subst (λ (x : Bits). IsWellFormed r (has x)) a.is a.grown

pub adds_stays : {r p d : ℕ} {old new : Bits} → Adds r old new p d → IsTrue (has old (p + 2 ^ d)) → new ≡ old
adds_stays {r} {p} {d} {old} {new} a yet =
    let q = p + 2 ^ d in
    a.is
    ∙ same_bits (set.insert old q) old
    (has_with old q ∙ fun_ext (λ i. elim (cases_eq i q) [
      | inl e ↦ ap (λ b. b || has old i) (eq-eqb i q e) ∙ sym (ap (has old) e ∙ yet)
      | inr ne ↦ ap (λ b. b || has old i) (ne_eqb i q ne)
    ]))

splits_by : {r p d : ℕ} {old new : Bits} → Adds r old new p d → has old (p + 2 ^ d) ≡ false → IsDepth r p (has old) d × IsDepth r p (has new) (suc d) × IsDepth r (p + 2 ^ d) (has new) (suc d)
splits_by {r} {p} {d} {old} {new} a lacks =
    let q = p + 2 ^ d in
    let at : has new ≡ with_number (has old) q = ap has a.is ∙ has_with old q in
    let before = depth_before a.formed p d a.low a.deep (subst (IsWellFormed r) at a.grown) lacks in (
      before,
      subst (λ (t : ℕ → Bool). IsDepth r p t (suc d)) (sym at) (depth_add_parent a.formed p d before a.deep),
      subst (λ (t : ℕ → Bool). IsDepth r q t (suc d)) (sym at) (depth_add_child a.formed p d a.low a.deep lacks),
    )

pub adds_splits : {r p d : ℕ} {old new : Bits} → Adds r old new p d → has old (p + 2 ^ d) ≡ false → SplitsAt r old new p d
adds_splits {r} {p} {d} a lacks =
    let w = splits_by a lacks in
    record { before = depth_is d w.0; after = depth_is (suc d) w.1; child = depth_is (suc d) w.2 }

last_at : (p d e : ℕ) → d ≡ e → last_of 64 p d ≡ last_of 64 p e
last_at p d e same = ap (last_of 64 p) same

pub adds_halves : {r p d : ℕ} {old new : Bits} → r ≤ 64 → Adds r old new p d → has old (p + 2 ^ d) ≡ false → IsHalved (range_of r old p) (range_of r new p) (range_of r new (p + 2 ^ d))
adds_halves {r} {p} {d} {old} {new} wide a lacks =
    let q = p + 2 ^ d in
    let s = adds_splits a lacks in
    let deep : d < 64 = omega (arith, a.deep) in
    let cut = span_halves 64 d p deep a.low in
    let lower = last_at p (depth_of r p (has new)) (suc d) s.after in
    let upper = last_at q (depth_of r q (has new)) (suc d) s.child in
    let whole = last_at p (depth_of r p (has old)) d s.before in
    record {
      first = refl;
      middle = ap (λ x. x + 1) lower ∙ cut.0;
      last = upper ∙ (cut.1 ∙ sym whole);
      equal = omega (arith, lower, upper);
    }

-- ---- locating and depths

pub stops_at : {r : ℕ} (b : ℕ → Bool) → IsWellFormed r b → (h x next : ℕ) → OnChain r h x → IsTrue (b x) → IsNextOnChain r h x next → b next ≡ false → located r h b ≡ x
stops_at {r} b f h x next on yet step lacks =
    located_at f h x on yet
    (λ y ony lt.
    elim (cases_Bool (b y)) [
      | inl has_y ↦ absurd (true≢false (sym (chain_prefix f h y next ony step.on (step.least y ony lt) has_y) ∙ lacks))
      | inr none ↦ none
    ])

pub ends_at : {r : ℕ} (b : ℕ → Bool) → IsWellFormed r b → (h x : ℕ) → OnChain r h x → IsTrue (b x) → IsLastOnChain r h x → located r h b ≡ x
ends_at {r} b f h x on yet last = located_at f h x on yet (λ y ony lt. absurd (omega (arith, last y ony)))

pub begins : (r h : ℕ) → OnChain r h 0
begins r h = record { depth = 0; within = omega arith; remainder = sym (mod-one h) }

-- the digits of a partition
pub record IsLength (p d : ℕ) : Type 0 where
  pub fits : p < 2 ^ d
  pub least : (i : ℕ) → i < d → p < 2 ^ i → ⊥

pub length_by_zeros : (p zeros : ℕ) → p < 2 ^ 32 → zeros ≡ leading_zeros w32 p → IsLength p (32 - zeros)
length_by_zeros p zeros fits is =
    let w = leading_length 32 p fits in
    let e : 32 - zeros ≡ w.0 = omega (arith, w.1) in
    subst (IsLength p) (sym e) (record {
      fits = w.2;
      least = λ i lt low. absurd (omega (arith, w.3, pow-suc 2 i, pow_mono {i = suc i} {j = w.0} lt));
    })

pub length_within : {r p d : ℕ} → p < 2 ^ r → IsLength p d → d ≤ r
length_within {r} {p} {d} fits w =
    elim (cases_lt r d) [ inl lt ↦ absurd (w.least r lt fits) | inr le ↦ le ]

pub length_children : {p d : ℕ} (b : ℕ → Bool) → IsLength p d → HasChildrenBelow p d b
length_children b w i lt low = absurd (w.least i lt low)

pub depth_done : {r p : ℕ} (b : ℕ → Bool) (d : ℕ) → d ≤ r → p < 2 ^ d → HasChildrenBelow p d b → (d < r → b (p + 2 ^ d) ≡ false) → depth_of r p b ≡ d
depth_done b d within digits children free =
    depth_is d (record { within = within; digits = digits; free = free; least = children })

-- ---- spans

pub part_fits : {r p : ℕ} (bits : Bits) → IsWellFormed r (has bits) → IsTrue (has bits p) → p < 2 ^ depth_of r p (has bits)
part_fits {r} {p} bits f yet = (depth_least f p yet).digits

pub span_holds : {r p : ℕ} (bits : Bits) → r ≤ 64 → IsWellFormed r (has bits) → IsTrue (has bits p) → (h : ℕ) → (h % 2 ^ depth_of r p (has bits) ≡ p) ↔ IsInside (range_of r bits p) (reversed 64 h)
span_holds {r} {p} bits wide f yet h =
    let w = depth_least f p yet in
    let both = range_interval 64 (depth_of r p (has bits)) p h (omega (arith, w.within)) w.digits in (
      λ e. let inside = both.0 e in (inside.from, inside.to),
      λ inside. both.1 (record { from = inside.0; to = inside.1 }),
    )

pub span_locates : {r p : ℕ} (bits : Bits) → r ≤ 64 → IsWellFormed r (has bits) → IsTrue (has bits p) → (h : ℕ) → (located r h (has bits) ≡ p) ↔ IsInside (range_of r bits p) (reversed 64 h)
span_locates {r} {p} bits wide f yet h =
    let range = range_is_located f h p yet in
    let span = span_holds bits wide f yet h in
    (λ e. span.0 (range.1 e), λ inside. range.0 (span.1 inside))

pub span_end_fits : {r : ℕ} (p : ℕ) (bits : Bits) → r ≤ 64 → IsWellFormed r (has bits) → IsTrue (has bits p) → last_of 64 p (depth_of r p (has bits)) < 2 ^ 64
span_end_fits {r} p bits wide f yet =
    let w = depth_least f p yet in
    span_fits 64 (depth_of r p (has bits)) p (omega (arith, w.within)) w.digits

-- ---- the first words

abbrev zeros : List ℕ
zeros = replicate word_count 0

abbrev nothing : ℕ
nothing = 0

zeros_at : (n k : ℕ) → get_or (replicate n nothing) k nothing ≡ nothing
zeros_at zero k = refl
zeros_at (suc n) zero = refl
zeros_at (suc n) (suc k) = zeros_at n k

pub zeros_whole : IsWhole zeros
zeros_whole = record { count = refl; words_fit = λ k. subst (λ (x : ℕ). x < 2 ^ word_bits) (sym (zeros_at word_count k)) (pow_pos word_bits) }

no_bit : (a b : Bool) → b ≡ false → (a && b) ≡ false
no_bit true b e = e
no_bit false b e = refl

zeros_unset : (i : ℕ) → bit_of zeros i ≡ false
unfolding bit_of
zeros_unset i =
    no_bit (nat_lt i (word_count * word_bits)) (bit_at (slice_index zeros (i / word_bits)) (i % word_bits) == 1)
    (ap (λ x. bit_at x (i % word_bits) == 1) (zeros_at word_count (i / word_bits)) ∙ ap (λ x. x == 1) (bit_at-zero (i % word_bits)))

pub zeros_empty : set_of zeros ≡ set.empty
zeros_empty =
    same_bits (set_of zeros) set.empty
    (has_set zeros ∙ fun_ext (λ i. zeros_unset i ∙ sym (set.contains-empty nat_cmp i)))

-- words that spell 0 alone
pub first_bitmap : (r : ℕ) (new : List ℕ) → set_of new ≡ set.insert (set_of zeros) 0 → (IsWhole zeros → IsWhole new) → (set_of new ≡ set.insert set.empty 0) × IsBitmap r new
first_bitmap r new is whole =
    let e : set_of new ≡ set.insert set.empty 0 = is ∙ ap (λ (s : Bits). set.insert s 0) zeros_empty in (
      e,
      record {
        whole = whole zeros_whole;
        well_formed = subst (λ (t : ℕ → Bool). IsWellFormed r t) (sym (ap has e ∙ has_zero)) (root_formed r);
      },
    )

-- ---- words read

pub spelled_formed : {r : ℕ} (words : List ℕ) → word_count * word_bits ≤ 2 ^ r → ((m : ℕ) → IsMissing r (has (set_of words)) m → ⊥) → IsWellFormed r (has (set_of words))
spelled_formed words all none =
    formed_from (λ i yet. omega (arith, bit_below words i (sym (ap (λ (t : ℕ → Bool). t i) (has_set words)) ∙ yet))) none

pub child_below : (p d r : ℕ) → p < 2 ^ d → d < r → p + 2 ^ d < 2 ^ r
child_below p d r low deep = omega (arith, pow-suc 2 d, pow_mono {i = suc d} {j = r} deep)

pub grown_formed : {r p d : ℕ} {old : Bits} (words : List ℕ) → Adds r old (set_of words) p d → IsWhole words → IsBitmap r words
grown_formed words a whole = record { whole = whole; well_formed = a.grown }

pub shift_is : (d : ℕ) → d ≤ 64 → (2 ^ 64 - 1) / 2 ^ d ≡ 2 ^ (64 - d) - 1
shift_is d le = ones_shr 64 d le

-- ---- what the calls answer, at the bitmap that the words spell

pub answers_located : {r : ℕ} (s b : Bits) → s ≡ b → IsWellFormed r (has s) → (h found : ℕ) → found ≡ located r h (has s) → IsLocated r h (has b) found
answers_located {r} s b same f h found is =
    subst (λ (x : Bits). IsLocated r h (has x) found) same
    (subst (IsLocated r h (has s)) (sym is) (located_greatest r h (has s) f.root))

pub answers_prefix : {r : ℕ} (s b : Bits) → s ≡ b → IsWellFormed r (has s) → (h x y : ℕ) → OnChain r h x → OnChain r h y → y ≤ x → IsTrue (has b x) → IsTrue (has b y)
answers_prefix {r} s b same f = chain_prefix_at (subst (λ (x : Bits). IsWellFormed r (has x)) same f)
  where
    chain_prefix_at : {r : ℕ} {set : ℕ → Bool} → IsWellFormed r set → (h x y : ℕ) → OnChain r h x → OnChain r h y → y ≤ x → IsTrue (set x) → IsTrue (set y)
    chain_prefix_at g h x y = chain_prefix g h x y

pub answers_span : {r : ℕ} (s b : Bits) → s ≡ b → IsWellFormed r (has s) → r ≤ 64 → (p d first : ℕ) → d ≡ depth_of r p (has s) → d ≤ r → first ≡ reversed 64 p → record_of first (first + (2 ^ 64 - 1) / 2 ^ d) ≡ range_of r b p
answers_span {r} s b same f wide p d first depth within start =
    let deep : d ≡ depth_of r p (has b) = depth ∙ ap (λ (x : Bits). depth_of r p (has x)) same in
    let top : (2 ^ 64 - 1) / 2 ^ d ≡ 2 ^ (64 - depth_of r p (has b)) - 1 = shift_is d (omega arith) ∙ ap (λ k. 2 ^ (64 - k) - 1) deep in
    ap₂ (λ x y. record_of x (x + y)) start top
