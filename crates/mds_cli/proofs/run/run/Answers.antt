use Rattle.std.proofs.Common.{◌∙◌, sym, arith}
use Rattle.mds_cli.specs.Ending.{outside}
use Rattle.pasts.proofs.PastRefused.{come_same}
use Rattle.mds_cli.proofs.DisksBack.{come_back}
use Rattle.mds_cli.proofs.DisksOpened.{ends_over, ends_without, ends_unopened}
use Rattle.mds_cli.proofs.Payments.{text_paid}
use Rattle.mds_cli.proofs.run.run.Goals as goal

pub returns-in-Ok-open-clause-ends : goal.returns-in-Ok-open-clause-ends
returns-in-Ok-open-clause-ends g c =
    ends_over g.D.Disk.faults g.D.Disk.seen g.D.Disk.images c.args.setup c.args.disks.items c.carry_script.result.disks.items (outside (g.S.Source.left c.args.input.now) (g.K.Sink.taken c.args.output.now) (g.S.Source.faults c.args.input.now) (g.K.Sink.faults c.args.output.now)) (outside (g.S.Source.left c.carry_script.new.input) (g.K.Sink.taken c.carry_script.new.output) (g.S.Source.faults c.carry_script.new.input) (g.K.Sink.faults c.carry_script.new.output)) c.in-Ok-open.simulation (omega (arith, c.requires.setup.some_server)) c.in-Ok-open.ensures.fresh.setup' c.in-Ok-open.ensures.begins c.laws_of_runs.ensures c.laws_of_pasts.ensures.runs g.D.Disk.lasts (c.in-Ok-open.ensures.servers ∙ sym c.requires.disks) (omega (arith, c.requires.disks, c.requires.setup.few_servers)) c.in-Ok-open.ensures.counts c.carry_script.result.status c.carry_script.ensures.ends

pub returns-in-Ok-open-clause-paid : goal.returns-in-Ok-open-clause-paid
returns-in-Ok-open-clause-paid g c =
    text_paid g.D.Disk.faults g.D.Disk.lasts c.args.disks.items c.carry_script.result.disks.items c.in-Ok-open.simulation.stores (c.in-Ok-open.ensures.servers ∙ sym c.requires.disks) (omega (arith, c.requires.disks, c.requires.setup.few_servers)) c.in-Ok-open.ensures.counts
    (g.S.Source.left c.args.input.now) (g.K.Sink.taken c.args.output.now) (g.K.Sink.taken c.carry_script.new.output) c.carry_script.ensures.paid

pub returns-in-Ok-open-clause-disks : goal.returns-in-Ok-open-clause-disks
returns-in-Ok-open-clause-disks g c =
    come_back g.D.Disk.lasts 0 c.args.disks.items c.in-Ok-open.simulation.stores c.carry_script.result.disks.items c.in-Ok-open.ensures.last (omega (arith, c.requires.disks, c.requires.setup.few_servers)) (λ s small. c.carry_script.ensures.disks s (omega (arith, small)))

pub returns-in_default-clause-disks : goal.returns-in_default-clause-disks
returns-in_default-clause-disks g c = come_same g.D.Disk.lasts g.met.D.Disk.lasts_here c.args.disks.items
