-- Facts about the elements of a list, by their places.
use Rattle.std.specs.Prelude.{◌≡◌, ℕ, List, Some}
use Rattle.std.specs.List.{slice_get}

-- each element, at its place, has the property
pub record Each {X : Type 0} (xs : List X) (P : ℕ → X → Type 0) : Type 0 where
  pub at : (k : ℕ) (x : X) → slice_get xs k ≡ Some x → P k x

-- some element, at its place, has the property
pub record Among {X : Type 0} (xs : List X) (P : ℕ → X → Type 0) : Type 0 where
  pub place : ℕ
  pub item : X
  pub is : slice_get xs place ≡ Some item
  pub good : P place item

-- no two elements are alike
pub record OnceBy {X : Type 0} (xs : List X) (Alike : X → X → Type 0) : Type 0 where
  pub same : (i j : ℕ) (x y : X) → slice_get xs i ≡ Some x → slice_get xs j ≡ Some y → Alike x y → i ≡ j
