use Rattle.std.proofs.Common.{◌≡◌}
use Rattle.mds_base.specs.declared.limits.TheConstants.{BATCH_MOST}
use Rattle.script.specs.Reading.{numbers_at}
use Rattle.script.proofs.Batches.{behind_numbers}
use Rattle.script.proofs.reading.places.Given as goal

-- what was read so far, and what the rest says, is what the bytes say
abbrev pub invariant-loop-most : goal.invariant-loop-most
invariant-loop-most l = behind_numbers l.places (numbers_at l.most l.unread) ≡ numbers_at BATCH_MOST l.fn.unread

abbrev pub decreases-loop-most : goal.decreases-loop-most
decreases-loop-most l = l.most
