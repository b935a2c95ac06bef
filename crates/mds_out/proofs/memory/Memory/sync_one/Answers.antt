use Rattle.mds_out.specs.Past.{Synced}
use Rattle.mds_out.proofs.Acted.{hold_push}
use Rattle.mds_out.proofs.memory.Memory.sync_one.Goals as goal

pub invariant_of-self-2 : goal.invariant_of-self-2
invariant_of-self-2 c =
    hold_push c.self.inside.outcome c.self.inside.acts c.add_sync.new.self (Synced c.args.file) c.self.inside.slots.items c.sync_file.new.slots.items c.self.invariant (c.sync_file.ensures c.self.inside.outcome) c.in_ok-add_sync.ensures.ok
