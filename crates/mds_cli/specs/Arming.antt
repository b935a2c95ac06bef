-- How the lines of a script arm the fuses of disks.
use Rattle.std.specs.Prelude.{◌≡◌, ℕ, List, [], ◌∷◌}
use Rattle.mds_out.specs.Fused.{Fused}
use Rattle.script.specs.declared.line.Line.{Line}
use Rattle.simulation.specs.Shows.{SimulationV}
use Rattle.interpreter.specs.Steps.{Arms}
use Rattle.mds_cli.specs.Follows.{Says}

-- these bytes say a line, and where it arms a fuse the disks after it are those before it, armed so
pub record ArmsLine {D : Type 0} (bytes : List ℕ) (old new : SimulationV (Fused D)) : Type 0 where
  pub line : Line
  pub says : Says old.setup bytes line
  pub armed : Arms old new line

-- so it is of each of these lines, one after another
abbrev pub ArmsLines : {D : Type 0} → List (List ℕ) → SimulationV (Fused D) → SimulationV (Fused D) → Type 0
ArmsLines {D = D} [] old new = new ≡ old
ArmsLines {D = D} (bytes ∷ more) old new =
    (mid : SimulationV (Fused D)) × ArmsLine bytes old mid × ArmsLines more mid new
