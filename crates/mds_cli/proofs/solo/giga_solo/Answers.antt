use Rattle.std.proofs.Common.{map}
use Rattle.std.specs.Prelude.{string_bytes}
use Rattle.mds_cli.specs.Ending.{outside}
use Rattle.pasts.proofs.PastRefused.{come_same}
use Rattle.mds_cli.proofs.Options.{asks_setup}
use Rattle.mds_cli.proofs.ScriptDone.{ended_clause, complete_clause}
use Rattle.mds_cli.proofs.solo.giga_solo.Goals as goal

pub run-requires-clause-setup : goal.run-requires-clause-setup
run-requires-clause-setup g c = asks_setup (map (λ word. string_bytes word) c.args.words.now) c.in-Some.setup c.in-Some.ensures

pub returns-in_default-clause-complete : goal.returns-in_default-clause-complete
returns-in_default-clause-complete g c = λ setup asks past reached risen. absurd (c.in_default.ensures setup asks)

pub returns-in_default-clause-ended : goal.returns-in_default-clause-ended
returns-in_default-clause-ended g c = λ setup asks. absurd (c.in_default.ensures setup asks)

pub returns-clause-ended : goal.returns-clause-ended
returns-clause-ended g c = ended_clause g.D.Disk.faults g.D.Disk.seen g.D.Disk.images c.args.disks.items c.run.result.disks.items (outside (g.S.Source.left c.args.input.now) (g.K.Sink.taken c.args.output.now) (g.S.Source.faults c.args.input.now) (g.K.Sink.faults c.args.output.now)) (outside (g.S.Source.left c.run.new.input) (g.K.Sink.taken c.run.new.output) (g.S.Source.faults c.run.new.input) (g.K.Sink.faults c.run.new.output)) (map (λ word. string_bytes word) c.args.words.now) c.in-Some.setup c.in-Some.ensures c.run.result.status c.run.ensures.ends

pub returns-clause-complete : goal.returns-clause-complete
returns-clause-complete g c = complete_clause g.D.Disk.faults g.D.Disk.seen g.D.Disk.images c.args.disks.items c.run.result.disks.items (outside (g.S.Source.left c.args.input.now) (g.K.Sink.taken c.args.output.now) (g.S.Source.faults c.args.input.now) (g.K.Sink.faults c.args.output.now)) (outside (g.S.Source.left c.run.new.input) (g.K.Sink.taken c.run.new.output) (g.S.Source.faults c.run.new.input) (g.K.Sink.faults c.run.new.output)) (map (λ word. string_bytes word) c.args.words.now) c.in-Some.setup c.in-Some.ensures c.run.result.status c.run.ensures.ends g.D.Disk.lasts c.requires c.run.ensures.disks

pub returns-in_default-clause-disks : goal.returns-in_default-clause-disks
returns-in_default-clause-disks g c = come_same g.D.Disk.lasts g.met.D.Disk.lasts_here c.args.disks.items
