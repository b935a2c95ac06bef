use Rattle.mds_out.specs.Past.{Changed}
use Rattle.mds_out.specs.Change.{Cut}
use Rattle.mds_out.proofs.Acted.{hold_push}
use Rattle.mds_out.proofs.memory.Memory.add_cut.Goals as goal

pub invariant_of-self-in-Ok : goal.invariant_of-self-in-Ok
invariant_of-self-in-Ok c =
    hold_push c.self.inside.outcome c.self.inside.acts c.add_cut.new.self (Changed c.args.file (Cut c.args.to)) c.self.inside.slots.items c.cut_file.new.slots.items c.self.invariant (c.in-Ok.ensures.ok c.self.inside.outcome) c.in_ok-add_cut.ensures.ok
