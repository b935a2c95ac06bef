use Rattle.std.proofs.Common.{◌∙◌, ap, ◌+◌, ◌*◌, ◌-◌}
use Rattle.std.specs.Prelude.{nat_le}
use Rattle.mds_base.specs.declared.limits.TheConstants.{SERVER_DIRECTORIES, SERVE_DIRECTORIES}
use Rattle.simulation.proofs.ServerNumbers.{numbers_at}
use Rattle.simulation.proofs.ServersShown.{up_store}
use Rattle.simulation.proofs.simulation.Simulation.has_numbers.Goals as goal

pub next_id-next-requires : goal.next_id-next-requires
next_id-next-requires g c =
    let s = up_store c.self.view_is c.args.server c.index.result.now c.index.ensures c.requires.up in
    (s.up, s.up')

pub returns : goal.returns
returns g c =
    let s = up_store c.self.view_is c.args.server c.index.result.now c.index.ensures c.requires.up in
    ap (λ n. nat_le c.next_id-next.result ((n + 1) * SERVER_DIRECTORIES - SERVE_DIRECTORIES)) c.from.ensures
    ∙ numbers_at _ _ c.args.server c.next_id-next.result c.index.result.now s.up c.self.view_is s.is s.up' (c.next_id-next.ensures.next s.up s.up')
    ((c.next_id-next.ensures.own s.up s.up').server' ∙ (c.self.invariant.0.stores'.each.at c.args.server c.index.result.now s.is).0)
