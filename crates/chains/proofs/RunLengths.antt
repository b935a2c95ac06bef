-- How many tests hold before the first that fails.
use Rattle.std.proofs.Common.{◌≡◌, ℕ, zero, suc, ◌<◌, ◌≤◌, Bool, true, false, cond, inl, inr, sym, refl, ap, ◌∙◌, arith}
use Rattle.std.proofs.lemmas.Bool.{true≢false, cases_Bool, cases_order}
use Rattle.chains.specs.Located.{run}

run_at : (n : ℕ) (t : ℕ → Bool) → run (suc n) t ≡ cond (t 0) (suc (run n (λ i. t (suc i)))) 0
unfolding run
run_at n t = refl

run_true : (n : ℕ) (t : ℕ → Bool) → t 0 ≡ true → run (suc n) t ≡ suc (run n (λ i. t (suc i)))
run_true n t e = run_at n t ∙ ap (λ b. cond b (suc (run n (λ i. t (suc i)))) 0) e

run_false : (n : ℕ) (t : ℕ → Bool) → t 0 ≡ false → run (suc n) t ≡ 0
run_false n t e = run_at n t ∙ ap (λ b. cond b (suc (run n (λ i. t (suc i)))) 0) e

run_none : (t : ℕ → Bool) → run 0 t ≡ 0
unfolding run
run_none t = refl

pub run_le : (n : ℕ) (t : ℕ → Bool) → run n t ≤ n
run_le zero t = omega (arith, run_none t)
run_le (suc n) t =
    elim (cases_Bool (t 0)) [
      | inl e ↦ omega (arith, run_true n t e, run_le n (λ i. t (suc i)))
      | inr e ↦ omega (arith, run_false n t e)
    ]

-- each test below the run holds
pub run_before : (n : ℕ) (t : ℕ → Bool) (i : ℕ) → i < run n t → t i ≡ true
run_before zero t i lt = absurd (omega (arith, run_none t))
run_before (suc n) t zero lt =
    elim (cases_Bool (t 0)) [ inl e ↦ e | inr e ↦ absurd (omega (arith, run_false n t e)) ]
run_before (suc n) t (suc i) lt =
    elim (cases_Bool (t 0)) [
      | inl e ↦ run_before n (λ i. t (suc i)) i (omega (arith, run_true n t e))
      | inr e ↦ absurd (omega (arith, run_false n t e))
    ]

-- a run that is short of its limit ends at a test that fails
pub run_end : (n : ℕ) (t : ℕ → Bool) → run n t < n → t (run n t) ≡ false
run_end zero t lt = absurd (omega (arith, run_none t))
run_end (suc n) t lt =
    elim (cases_Bool (t 0)) [
      | inl e ↦ ap t (run_true n t e) ∙ run_end n (λ i. t (suc i)) (omega (arith, run_true n t e))
      | inr e ↦ ap t (run_false n t e) ∙ e
    ]

-- and these facts fix it
pub run_is : (n : ℕ) (t : ℕ → Bool) (k : ℕ) → k ≤ n → ((i : ℕ) → i < k → t i ≡ true) → (k < n → t k ≡ false) → run n t ≡ k
run_is n t k within before end =
    elim (cases_order (run n t) k) [
      | inl e ↦ e
      | inr (inl lt) ↦ absurd (true≢false (sym (before (run n t) lt) ∙ run_end n t (omega arith)))
      | inr (inr gt) ↦ absurd (true≢false (sym (run_before n t k gt) ∙ end (omega (arith, run_le n t))))
    ]
