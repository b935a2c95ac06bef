use Rattle.std.proofs.Common.{◌∙◌}
use Rattle.pasts.specs.Fuses.{seen_by, images_by}
use Rattle.interpreter.proofs.WorldSeen.{allows_seen}
use Rattle.interpreter.proofs.interpreter.Interpreter.is_allowed.Goals as goal

pub returns-clause-allowed : goal.returns-clause-allowed
returns-clause-allowed g c run shows = c.allows.ensures ∙ allows_seen (seen_by g.D.Disk.seen) (images_by g.D.Disk.images) c.args.self.now.simulation run shows c.args.line.now
