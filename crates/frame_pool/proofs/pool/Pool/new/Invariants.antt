use Rattle.std.proofs.Common.{◌≡◌, map, All}
use Rattle.frame_pool.specs.Frames.{fresh, bytes_of, IsWhole}
use Rattle.frame_pool.proofs.pool.Pool.new.Given as goal

abbrev pub invariant-loop-number : goal.invariant-loop-number
invariant-loop-number l = (map bytes_of l.places.items ≡ fresh l._number) × All IsWhole l.places.items
