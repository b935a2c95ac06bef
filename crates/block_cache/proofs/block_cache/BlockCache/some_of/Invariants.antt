use Rattle.std.proofs.Common.{◌≡◌, ◌≢◌, ℕ, Vec, Global, Some}
use Rattle.std.specs.Prelude.{IsSome}
use Rattle.std.specs.List.{AllByRecursion, slice_get}
use Rattle.block_cache.specs.Blocks.{held, IsNoneOf}
use Rattle.block_cache.specs.declared.place.Place.{Place}
use Rattle.block_cache.proofs.block_cache.BlockCache.some_of.Given as goal

abbrev pub invariant-loop-place : goal.invariant-loop-place
invariant-loop-place l = record {
  next : (goal.iterator-loop-place).can_next l.place-iterator;
  finite : (goal.iterator-loop-place).is_finite l.place-iterator;
  none : AllByRecursion (λ e. e.0.file ≢ l.file) l.place-iterator → IsNoneOf l.self l.file;
  some : (i : ℕ) (e : Place × Vec ℕ Global) → slice_get l.place-iterator i ≡ Some e → IsSome (held l.self e.0);
}
