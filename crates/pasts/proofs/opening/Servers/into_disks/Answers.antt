use Rattle.std.proofs.Common.{◌∙◌, ap, subst, sym, ◌++◌}
use Rattle.pasts.specs.Starts.{AreDisks}
use Rattle.pasts.proofs.DisksLeft.{disks_left, inners}
use Rattle.pasts.proofs.opening.Servers.into_disks.Goals as goal

pub returns-clause-left : goal.returns-clause-left
returns-clause-left g c =
    let d = g.D.Disk in
    let out = c.put_back.ensures.disks in
    let all = out.1 ∙ ap (λ l. l ++ out.0) c.requires.none in
    λ setup servers are. subst (λ l. AreDisks d.seen d.images setup l servers) (sym all) (disks_left d.seen d.images setup c.args.self.stores.items out.0 out.2 servers are)

pub returns-clause-same : goal.returns-clause-same
returns-clause-same g c =
    let d = g.D.Disk in
    let out = c.put_back.ensures.disks in
    out.1 ∙ ap (λ l. l ++ out.0) c.requires.none ∙ inners d.seen d.images 0 c.args.self.stores.items out.0 out.2
