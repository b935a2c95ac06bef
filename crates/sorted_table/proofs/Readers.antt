-- What it is that a reader reads exactly what was spelled, and the readers of numbers and names.
use Rattle.std.proofs.Common.{◌≡◌, ◌∙◌, sym, ap, subst, refl, ℕ, zero, suc, ◌+◌, ◌<◌, ◌≤◌, ◌^◌, Bool, true, false, cond, nat_lt, nat_le, ◌&&◌, List, [], ◌∷◌, ◌++◌, append_assoc, length, get_or, take, drop, Option, None, Some, arith, length-append, inl, inr}
use Rattle.std.specs.Prelude.{IsTrue}
use Rattle.std.specs.Int.{w16, w32, w64, to_be_bytes, from_be_bytes}
use Rattle.std.proofs.lemmas.Bool.{ltb-false, le-ltb, cases_lt}
use Rattle.std.proofs.lemmas.Bool.Decides.{nat_tests}
use Rattle.std.proofs.lemmas.List.{take_at, drop_at, get_or-take, get_or-drop, length-take-le, take-append-drop, length-drop}
use Rattle.std.proofs.lemmas.Nat.{be_bytes_2, be_bytes_4, be_bytes_8, from_be_bytes-to_be_bytes_2, from_be_bytes-to_be_bytes_4, from_be_bytes-to_be_bytes_8}
use Rattle.std.proofs.lemmas.Option.{same_Some}
use Rattle.mds_base.specs.Name.{is_name}
use Rattle.sorted_table.specs.Reading.{◌>>=◌, u16_at, u32_at, u64_at, name_at}

abbrev pub IsBytes : List ℕ → Type 0
IsBytes bytes = (i : ℕ) → get_or bytes i 0 < 256

-- what was spelled is read again, and what is read was spelled so
pub record Reads {X : Type 0} (Is : X → Type 0) (spelling : X → List ℕ) (read : List ℕ → Option (X × List ℕ)) : Type 0 where
  pub again : (x : X) (rest : List ℕ) → Is x → read (spelling x ++ rest) ≡ Some (x, rest)
  pub found : (bytes : List ℕ) (x : X) (rest : List ℕ) → IsBytes bytes → read bytes ≡ Some (x, rest) → Is x × (bytes ≡ spelling x ++ rest)

-- ---- answers

-- a reader behind another read something only where both did
pub from_both : {A B : Type 0} (r : Option A) (f : A → Option B) (y : B) → (r >>= f) ≡ Some y → (x : A) × (r ≡ Some x) × (f x ≡ Some y)
from_both None f y e = absurd cc
from_both (Some x) f y e = (x, refl, e)

pub then_some : {A B : Type 0} (r : Option A) (x : A) (f : A → Option B) → r ≡ Some x → (r >>= f) ≡ f x
then_some r x f e = ap (λ o. o >>= f) e

pub passed : {A : Type 0} (b : Bool) (x y : A) → cond b (Some x) None ≡ Some y → (b ≡ true) × (x ≡ y)
passed true x y e = (refl, same_Some x y e)
passed false x y e = absurd cc

pub passed_not : {A : Type 0} (b : Bool) (r : Option A) (y : A) → cond b None r ≡ Some y → (b ≡ false) × (r ≡ Some y)
passed_not true r y e = absurd cc
passed_not false r y e = (refl, e)

-- ---- bytes

pub bytes_behind : (bytes text rest : List ℕ) → bytes ≡ text ++ rest → IsBytes bytes → IsBytes rest
bytes_behind bytes text rest is fits i =
    let same : get_or rest i 0 ≡ get_or bytes (length text + i) 0 = ap (λ l. get_or l i 0) (sym (drop_at text rest (length text) refl) ∙ ap (drop (length text)) (sym is)) ∙ get_or-drop (length text) bytes i 0 in
    let small = fits (length text + i) in
    omega arith

past_end : (l : List ℕ) (i : ℕ) → length l ≤ i → get_or l i 0 ≡ 0
past_end [] i le = refl
past_end (x ∷ l) zero le = absurd (omega arith)
past_end (x ∷ l) (suc i) le = past_end l i (omega arith)

pub front_bytes : (n : ℕ) (bytes : List ℕ) → n ≤ length bytes → IsBytes bytes → IsBytes (take n bytes)
front_bytes n bytes within fits i = elim (cases_lt i n) [
  | inl lt ↦ let same = get_or-take n bytes i 0 lt in let small = fits i in omega arith
  | inr le ↦ let same = past_end (take n bytes) i (omega (arith, length-take-le n bytes within)) in omega arith
]

-- ---- numbers

abbrev number_of : ℕ → (List ℕ → ℕ) → List ℕ → Option (ℕ × List ℕ)
number_of size value bytes = cond (nat_lt (length bytes) size) None (Some (value (take size bytes), drop size bytes))

module _ (size most : ℕ) (value : List ℕ → ℕ) (text : ℕ → List ℕ) (sized : (n : ℕ) → length (text n) ≡ size) (back : (n : ℕ) → n < most → value (text n) ≡ n)
    (low : (bs : List ℕ) → length bs ≡ size → IsBytes bs → value bs < most) (forth : (bs : List ℕ) → length bs ≡ size → IsBytes bs → text (value bs) ≡ bs) where
  number_again : (n : ℕ) (rest : List ℕ) → n < most → number_of size value (text n ++ rest) ≡ Some (n, rest)
  number_again n rest fits =
      let long : nat_lt (length (text n ++ rest)) size ≡ false = le-ltb _ _ (omega (arith, length-append (text n) rest, sized n)) in
      rw (long, take_at (text n) rest size (sized n), drop_at (text n) rest size (sized n), back n fits) refl

  number_found : (bytes : List ℕ) (n : ℕ) (rest : List ℕ) → IsBytes bytes → number_of size value bytes ≡ Some (n, rest) → (n < most) × (bytes ≡ text n ++ rest)
  number_found bytes n rest fits e =
      let p = passed_not (nat_lt (length bytes) size) (Some (value (take size bytes), drop size bytes)) (n, rest) e in
      let long : size ≤ length bytes = ltb-false _ _ p.0 in
      let count : length (take size bytes) ≡ size = length-take-le size bytes long in
      let small : IsBytes (take size bytes) = front_bytes size bytes long fits in
      let same : ◌≡◌ {A = ℕ × List ℕ} (value (take size bytes), drop size bytes) (n, rest) = same_Some _ _ p.1 in
      let Q : ℕ × List ℕ → Type 0 = λ x. (x.0 < most) × (bytes ≡ text x.0 ++ x.1) in
      subst Q same (low (take size bytes) count small, sym (take-append-drop size bytes) ∙ ap (λ front. front ++ drop size bytes) (sym (forth (take size bytes) count small)))

  number_reads : Reads (λ n. n < most) text (number_of size value)
  number_reads = record { again = number_again; found = number_found }

low_2 : (bs : List ℕ) → length bs ≡ 2 → IsBytes bs → from_be_bytes w16 bs < 2 ^ 16
low_2 bs count fits = omega (arith, fits 0, fits 1)

low_4 : (bs : List ℕ) → length bs ≡ 4 → IsBytes bs → from_be_bytes w32 bs < 2 ^ 32
low_4 bs count fits = omega (arith, fits 0, fits 1, fits 2, fits 3)

low_8 : (bs : List ℕ) → length bs ≡ 8 → IsBytes bs → from_be_bytes w64 bs < 2 ^ 64
low_8 bs count fits = omega (arith, fits 0, fits 1, fits 2, fits 3, fits 4, fits 5, fits 6, fits 7)

pub u16_reads : Reads (λ n. n < 2 ^ 16) (to_be_bytes w16) u16_at
unfolding u16_at
u16_reads = number_reads 2 (2 ^ 16) (from_be_bytes w16) (to_be_bytes w16) (λ n. refl) from_be_bytes-to_be_bytes_2 low_2 (λ bs count fits. be_bytes_2 bs (from_be_bytes w16 bs) count fits refl)

pub u32_reads : Reads (λ n. n < 2 ^ 32) (to_be_bytes w32) u32_at
unfolding u32_at
u32_reads = number_reads 4 (2 ^ 32) (from_be_bytes w32) (to_be_bytes w32) (λ n. refl) from_be_bytes-to_be_bytes_4 low_4 (λ bs count fits. be_bytes_4 bs (from_be_bytes w32 bs) count fits refl)

pub u64_reads : Reads (λ n. n < 2 ^ 64) (to_be_bytes w64) u64_at
unfolding u64_at
u64_reads = number_reads 8 (2 ^ 64) (from_be_bytes w64) (to_be_bytes w64) (λ n. refl) from_be_bytes-to_be_bytes_8 low_8 (λ bs count fits. be_bytes_8 bs (from_be_bytes w64 bs) count fits refl)

-- ---- names

abbrev pub name_spelling : List ℕ → List ℕ
name_spelling name = length name ∷ name

name_again : (name rest : List ℕ) → IsTrue (is_name name) → name_at (name_spelling name ++ rest) ≡ Some (name, rest)
unfolding name_at
name_again name rest is =
    let long : nat_lt (length (name ++ rest)) (length name) ≡ false = le-ltb _ _ (omega (arith, length-append name rest)) in
    rw (long, take_at name rest (length name) refl, drop_at name rest (length name) refl, is) refl

name_found : (bytes name rest : List ℕ) → IsBytes bytes → name_at bytes ≡ Some (name, rest) → IsTrue (is_name name) × (bytes ≡ name_spelling name ++ rest)
unfolding name_at
name_found [] name rest fits e = absurd cc
name_found (len ∷ bytes) name rest fits e =
    let p = passed_not (nat_lt (length bytes) len) _ (name, rest) e in
    let long : len ≤ length bytes = ltb-false _ _ p.0 in
    let q = passed (is_name (take len bytes)) (take len bytes, drop len bytes) (name, rest) p.1 in
    let count : length (take len bytes) ≡ len = length-take-le len bytes long in
    let Q : List ℕ × List ℕ → Type 0 = λ x. IsTrue (is_name x.0) × (len ∷ bytes ≡ name_spelling x.0 ++ x.1) in
    subst Q q.1 (q.0, ap (λ l. len ∷ l) (sym (take-append-drop len bytes)) ∙ ap (λ n. n ∷ take len bytes ++ drop len bytes) (sym count))

pub name_reads : Reads (λ name. IsTrue (is_name name)) name_spelling name_at
name_reads = record { again = name_again; found = name_found }
