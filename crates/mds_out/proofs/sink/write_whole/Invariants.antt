use Rattle.std.proofs.Common.{◌≡◌, ◌≤◌, ℕ, length, drop, take}
use Rattle.std.specs.Io.KnownBytes.{Appends}
use Rattle.mds_out.proofs.sink.write_whole.Given as goal

abbrev pub invariant-loop-rest : goal.invariant-loop-rest
invariant-loop-rest g l = record {
  quiet : g.K.Sink.faults l.out ≡ g.K.Sink.faults l.fn.out;
  front : (n : ℕ) × (n ≤ length l.bytes) × (l.rest ≡ drop n l.bytes) × Appends (g.K.Sink.taken l.fn.out) (g.K.Sink.taken l.out) (take n l.bytes);
}

abbrev pub decreases-loop-rest : goal.decreases-loop-rest
decreases-loop-rest g l = length l.rest
