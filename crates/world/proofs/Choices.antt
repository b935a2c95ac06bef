-- Choices that are decided: whether two keys are one, and what a judgement says of the kept number.
use Rattle.std.proofs.Common.{◌≡◌, refl, ℕ, suc, ◌<◌, ◌≤◌, Bool, true, false, cond, Option, Some, None, inl, inr, arith, nat_lt, ◌==◌}
use Rattle.std.specs.Prelude.{◌⊎◌}
use Rattle.std.specs.Cmp.{nat_cmp_total}
use Rattle.std.proofs.lemmas.Map.Lookups.{exact_unsigned}
use Rattle.std.proofs.lemmas.Bool.{eqb-true}
use Rattle.std.proofs.lemmas.Bool.Decides.{nat_tests}
use Rattle.mds_base.specs.declared.reply.Final.{Final}
use Rattle.node_core.proofs.Keys.{same_or_apart}
use Rattle.sessions.specs.declared.kept.Kept.{Kept}
use Rattle.sessions.specs.declared.kept.Judged.TheVariants.{New, Again, Old}
use Rattle.sessions.specs.Kept.{judge_kept, seq_of}

pub nat_or_apart : (j k : ℕ) → (j ≡ k) ⊎ (j ≡ k → ⊥)
nat_or_apart = same_or_apart nat_cmp_total exact_unsigned

pub three_or_apart : (a b c x y z : ℕ) → ((a ≡ x) × (b ≡ y) × (c ≡ z)) ⊎ (a ≡ x → b ≡ y → c ≡ z → ⊥)
three_or_apart a b c x y z =
    elim (nat_or_apart a x) [
      | inr differ ↦ inr (λ e f g. differ e)
      | inl e ↦ elim (nat_or_apart b y) [
        | inr differ ↦ inr (λ e f g. differ f)
        | inl f ↦ elim (nat_or_apart c z) [
          | inr differ ↦ inr (λ e f g. differ g)
          | inl g ↦ inl (e, f, g)
        ]
      ]
    ]

pub two_places : (n : ℕ) → (suc (suc n) == 1) ≡ true → ⊥
two_places n e = let s : suc (suc n) ≡ 1 = eqb-true (suc (suc n)) 1 e in absurd (omega arith)

pub pair_same : {A B : Type 0} {a c : A} {b d : B} → a ≡ c → b ≡ d → ◌≡◌ {A = A × B} (a, b) (c, d)
pair_same e f = λ i. (e i, f i)

-- a change that is judged new has a greater number than the kept one
judged_new_of : (less same : Bool) (kept : Kept) (seq : ℕ) → nat_lt kept.seq seq ≡ less → cond less New (cond same (Again kept.said) (Old kept.seq)) ≡ New → kept.seq < seq
judged_new_of true same kept seq lt e = grind (arith, nat_tests)
judged_new_of false true kept seq lt e = cc
judged_new_of false false kept seq lt e = cc

pub judged_new : (o : Option Kept) (seq : ℕ) → judge_kept o seq ≡ New → 1 ≤ seq → seq_of o < seq
judged_new None seq e one = one
judged_new (Some kept) seq e one = judged_new_of (nat_lt kept.seq seq) (kept.seq == seq) kept seq refl e

-- one that is judged the last one has the kept number and the kept reply
judged_again_of : (less same : Bool) (kept : Kept) (seq : ℕ) (said : Final) → (kept.seq == seq) ≡ same → cond less New (cond same (Again kept.said) (Old kept.seq)) ≡ Again said → (kept.seq ≡ seq) × (kept.said ≡ said)
judged_again_of true same kept seq said eq e = cc
judged_again_of false true kept seq said eq e = (grind (arith, nat_tests), cc)
judged_again_of false false kept seq said eq e = cc

pub judged_again : (o : Option Kept) (seq : ℕ) (said : Final) → judge_kept o seq ≡ Again said → (kept : Kept) × (o ≡ Some kept) × (kept.seq ≡ seq) × (kept.said ≡ said)
judged_again None seq said e = cc
judged_again (Some kept) seq said e = let h = judged_again_of (nat_lt kept.seq seq) (kept.seq == seq) kept seq said refl e in (kept, refl, h.0, h.1)
