use Rattle.std.proofs.Common.{◌≡◌, drop}
use Rattle.records.specs.Reading.{from_foreign}
use Rattle.records.proofs.reading.foreign.Given as goal

abbrev pub invariant-loop-place : goal.invariant-loop-place
invariant-loop-place l = from_foreign (drop l.place l.bytes) ≡ from_foreign l.bytes
