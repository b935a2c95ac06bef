use Rattle.std.proofs.Common.{List, ℕ, length, ◌+◌, arith, drop, take, ap, subst, ◌∙◌, length-drop}
use Rattle.std.specs.Io.KnownBytes.{Appends}
use Rattle.mds_out.proofs.Streams.{front_grows, rest_of_rest}
use Rattle.mds_out.proofs.sink.write_whole.Goals as goal

pub loop-rest-preserved : goal.loop-rest-preserved
loop-rest-preserved g c =
    let front = c.loop-rest.invariant.front in
    let taken = c.in_ok-count.ensures.taken in
    let more : Appends (g.K.Sink.taken c.loop-rest.out) (g.K.Sink.taken c.write.new.self) (take c.in_ok-count.count (drop front.0 c.args.bytes.now)) =
    let P : List ℕ → Type 0 = λ l. Appends (g.K.Sink.taken c.loop-rest.out) (g.K.Sink.taken c.write.new.self) (take c.in_ok-count.count l) in
    subst P front.2 taken.taken in
    record {
      quiet = c.in_ok-count.ensures.cause.kept ∙ c.loop-rest.invariant.quiet;
      front = (front.0 + c.in_ok-count.count, omega (arith, taken.within, ap length front.2, length-drop front.0 c.args.bytes.now, front.1), rest_of_rest c.args.bytes.now c.loop-rest.rest.now front.0 c.in_ok-count.count front.2, front_grows _ _ _ c.args.bytes.now front.0 c.in_ok-count.count front.3 more);
    }
