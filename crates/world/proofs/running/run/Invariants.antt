use Rattle.std.proofs.Common.{◌≡◌, true, take}
use Rattle.world.specs.Worlds.{new_world}
use Rattle.world.specs.Events.{steps, all_enabled}
use Rattle.world.proofs.running.run.Given as goal

abbrev pub invariant-loop-place : goal.invariant-loop-place
invariant-loop-place l =
    record {
      enabled' : all_enabled (new_world l.fn.setup) (take l.place l.events) ≡ true;
      world' : l.world ≡ steps (new_world l.fn.setup) (take l.place l.events);
    }
