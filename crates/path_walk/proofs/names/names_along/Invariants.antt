use Rattle.std.proofs.Common.{◌≡◌, ◌≤◌, ◌^◌, length, map, Ok}
use Rattle.path_walk.specs.Paths.{names_from}
use Rattle.path_walk.proofs.names.names_along.Given as goal

abbrev pub invariant-loop-component : goal.invariant-loop-component
invariant-loop-component l =
    (goal.iterator-loop-component).can_next l.component-iterator ×
    (goal.iterator-loop-component).is_finite l.component-iterator ×
    (names_from 0 (map (λ piece. piece.now) l.yielded) ≡ Ok l.names.items) ×
    (length l.names.items ≤ 2 ^ 32)
