-- Whether two words are one, compared byte by byte.
use Rattle.std.proofs.Common.{◌≡◌, ◌∙◌, sym, ap, ℕ, ◌+◌, ◌<◌, ◌≤◌, List, ◌∷◌, [], ◌++◌, length, take, get_or, Bool, true, false, nat_eq, refl, arith}
use Rattle.std.specs.Cmp.Lexicographic.{pointwise}
use Rattle.std.proofs.lemmas.List.{take_more, take_all}
use Rattle.std.proofs.lemmas.Slice.Eq.{bytes_eq-Decides}

never : (b : Bool) → (b ≡ true → ⊥) → b ≡ false
never true unlike = absurd (unlike refl)
never false unlike = refl

-- words that are not one
pub other_words : (a b : List ℕ) → (a ≡ b → ⊥) → pointwise nat_eq a b ≡ false
other_words a b differ = never (pointwise nat_eq a b) (λ same. differ ((bytes_eq-Decides a b).0 same))

-- one byte more is the same
pub same_more : (a b : List ℕ) (at : ℕ) → at < length a → length a ≡ length b → get_or a at 0 ≡ get_or b at 0 → take at a ≡ take at b → take (at + 1) a ≡ take (at + 1) b
same_more a b at within same byte front =
    take_more a at 0 within
    ∙ ap (λ l. l ++ get_or a at 0 ∷ []) front
    ∙ ap (λ x. take at b ++ x ∷ []) byte
    ∙ sym (take_more b at 0 (omega (arith, within, same)))

-- all bytes are the same
pub same_words : (a b : List ℕ) (at : ℕ) → length a ≤ at → length a ≡ length b → take at a ≡ take at b → pointwise nat_eq a b ≡ true
same_words a b at all same front =
    (bytes_eq-Decides a b).1 (sym (take_all at a all) ∙ front ∙ take_all at b (omega (arith, all, same)))
