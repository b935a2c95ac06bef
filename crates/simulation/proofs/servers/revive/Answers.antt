use Rattle.std.proofs.Common.{◌∙◌}
use Rattle.simulation.proofs.RestartStep.{only_memory}
use Rattle.simulation.proofs.ServeEntries.{none_left}
use Rattle.simulation.proofs.ServeStep.{told_stays}
use Rattle.simulation.proofs.servers.revive.Goals as goal

pub returns-in_default-clause-unmade : goal.returns-in_default-clause-unmade
returns-in_default-clause-unmade g c =
    let left = none_left c.args.messages.now.made _ c.doubt.result.now _ _ _ _ c.in-Err.fault c.in-Err.is c.made_len-made.ensures c.in_ok-add_changes.ensures.ok c.entries_left.ensures in
    c.cut_made.ensures ∙ (λ i. record { sent = c.in_ok-add_changes.ensures.sent i; made = left i })

pub returns-in_default-clause-sound : goal.returns-in_default-clause-sound
returns-in_default-clause-sound g c = λ told owed d.
    let new = c.restart-restarted.new.self in
    only_memory (g.D.Disk.seen new.disk.inner 1) c.in-Err.fault (told_stays (g.D.Disk.seen c.args.store.now.disk.inner 1) (g.D.Disk.seen new.disk.inner 1) c.restart-restarted.ensures.told told) ((rw c.in-Err.is at c.restart-restarted.ensures.sound) owed d) c.in_default.not-Device
