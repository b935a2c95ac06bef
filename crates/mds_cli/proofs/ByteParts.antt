-- Bytes that lack one, and what a first place of it splits them into.
use Rattle.std.proofs.Common.{◌≡◌, ◌∙◌, sym, ap, subst, refl, ℕ, ◌+◌, ◌<◌, zero, suc, List, [], ◌∷◌, ◌++◌, length, take, drop, get_or, Bool, true, false, not, arith, add-one}
use Rattle.std.specs.Prelude.{◌==◌}
use Rattle.std.proofs.lemmas.Bool.{true≢false, and_from, and_parts, eq-eqb}
use Rattle.std.proofs.lemmas.List.{take_all, take-append-drop}
use Rattle.std.proofs.Math.Seq.{drop-cons}
use Rattle.std.specs.Str.TwoWay.{Nowhere}
use Rattle.memchr.specs.Find.{Passes, is_byte}
use Rattle.mds_cli.specs.Lines.{Lacks}

pub lacks_head : (stop byte : ℕ) (bytes : List ℕ) → Lacks stop (byte ∷ bytes) → byte ≡ stop → ⊥
lacks_head stop byte bytes lacks is = true≢false (sym (and_parts _ _ lacks).0 ∙ ap not (eq-eqb byte stop is))

pub lacks_tail : (stop byte : ℕ) (bytes : List ℕ) → Lacks stop (byte ∷ bytes) → Lacks stop bytes
lacks_tail stop byte bytes lacks = (and_parts _ _ lacks).1

pub differs : (t : Bool) → (t ≡ true → ⊥) → not t ≡ true
differs true never = absurd (never refl)
differs false never = refl

-- the first n bytes lack one that stands at none of their places
pub lacks_before : (stop : ℕ) (bytes : List ℕ) (n : ℕ) → ((k : ℕ) → k < n → (get_or bytes k 0 == stop) ≡ true → ⊥) → Lacks stop (take n bytes)
lacks_before stop bytes zero none = refl
lacks_before stop [] (suc n) none = refl
lacks_before stop (byte ∷ bytes) (suc n) none = and_from _ _ (differs (byte == stop) (none 0 (omega arith))) (lacks_before stop bytes n (λ k below is. none (suc k) (omega arith) is))

-- bytes are split in one way only at the first place of a byte
pub only_split : (stop : ℕ) (a b x y : List ℕ) → Lacks stop a → Lacks stop b → a ++ stop ∷ x ≡ b ++ stop ∷ y → (a ≡ b) × (x ≡ y)
only_split stop [] [] x y in_a in_b is = (refl, ap (drop 1) is)
only_split stop [] (c ∷ b) x y in_a in_b is = absurd (lacks_head stop c b in_b (sym (ap (λ l. get_or l 0 0) is)))
only_split stop (c ∷ a) [] x y in_a in_b is = absurd (lacks_head stop c a in_a (ap (λ l. get_or l 0 0) is))
only_split stop (c ∷ a) (d ∷ b) x y in_a in_b is =
    let rest = only_split stop a b x y (lacks_tail stop c a in_a) (lacks_tail stop d b in_b) (ap (drop 1) is) in
    (λ i. ap (λ l. get_or l 0 0) is i ∷ rest.0 i, rest.1)

pub lacks-append : (stop : ℕ) (a b : List ℕ) → Lacks stop a → Lacks stop b → Lacks stop (a ++ b)
lacks-append stop [] b in_a in_b = in_b
lacks-append stop (c ∷ a) b in_a in_b = and_from _ _ (and_parts _ _ in_a).0 (lacks-append stop a b (and_parts _ _ in_a).1 in_b)

-- what a search for a byte finds, and what it splits bytes into
pub none_found : (stop : ℕ) (bytes : List ℕ) → Nowhere (Passes (is_byte stop) bytes) 0 (length bytes) → Lacks stop bytes
none_found stop bytes none = subst (Lacks stop) (take_all (length bytes) bytes (omega arith)) (lacks_before stop bytes (length bytes) (λ k below is. none k (omega arith) below is))

drop_suc : (bytes : List ℕ) (at : ℕ) → at < length bytes → drop at bytes ≡ get_or bytes at 0 ∷ drop (at + 1) bytes
drop_suc bytes at below = rw add-one (drop-cons bytes at 0 below)

pub split_found : (stop : ℕ) (bytes : List ℕ) (at : ℕ) → at < length bytes → get_or bytes at 0 ≡ stop → bytes ≡ take at bytes ++ stop ∷ drop (at + 1) bytes
split_found stop bytes at below is = sym (take-append-drop at bytes) ∙ ap (λ l. take at bytes ++ l) (drop_suc bytes at below ∙ ap (λ b. b ∷ drop (at + 1) bytes) is)
