use Rattle.std.proofs.Common.{◌≡◌, ap, ◌++◌, ◌∷◌, [], OnOk}
use Rattle.mds_out.proofs.Adding.{added_none}
use Rattle.mds_out.proofs.acts.Acts.add.Goals as goal

pub returns-clause-ok : goal.returns-clause-ok
returns-clause-ok c =
    added_none c.push.result c.self.inside.written.items c.args.self.now c.self.inside.heads c.push.new.self c.args.head c.self.invariant c.requires c.self.view_is c.push.ensures.ok
