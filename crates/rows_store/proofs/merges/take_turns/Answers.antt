use Rattle.std.proofs.Common.{◌∙◌}
use Rattle.rows_store.proofs.merges.take_turns.Goals as goal

pub loop-turn-preserved : goal.loop-turn-preserved
loop-turn-preserved g c =
    let before = c.loop-turn.invariant in
    record {
      ready = c.turn.ensures.tables;
      merging = rw c.in-Ok-More.field-0-is at c.in-Ok-More.ensures.merging;
      number = c.turn.ensures.frame ∙ before.number;
    }
