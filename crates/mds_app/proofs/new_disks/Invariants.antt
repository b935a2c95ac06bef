use Rattle.std.proofs.Common.{◌≡◌, length}
use Rattle.mds_cli.specs.Fresh.{AreNewMemories}
use Rattle.mds_app.proofs.new_disks.Given as goal

-- as many disks as turns, and nothing was done to any
abbrev pub invariant-loop : goal.invariant-loop
invariant-loop l = (length l.disks.items ≡ l.counter) × AreNewMemories l.disks.items
