use Rattle.std.proofs.Common.{◌∙◌, ap, subst, sym, refl, List}
use Rattle.mds_out.specs.Fused.{Fused}
use Rattle.records.specs.declared.msg.Msg.{Msg}
use Rattle.message_store.specs.Made.{MessagesV}
use Rattle.pasts.specs.Fuses.{seen_by, images_by}
use Rattle.pasts.specs.Openings.{IsUpOn}
use Rattle.pasts.proofs.ListPairs.{paired_length, paired_weaker}
use Rattle.pasts.proofs.PastRefused.{come_same}
use Rattle.simulation.specs.Ranges.{IsRanged}
use Rattle.simulation.specs.Shows.{SimulationV}
use Rattle.simulation.proofs.SimulationNew.{begins_from, fresh_ranges}
use Rattle.simulation.proofs.simulation.Simulation.open.Goals as goal

pub invariant_of-result : goal.invariant_of-result
invariant_of-result g c =
    let d = g.D.Disk in
    let x = c.in-Ok-open in (
      subst (λ (sent : List Msg). IsRanged c.args.setup 0 0 x.servers.stores.items c.in-Ok.clients.items sent) (ap (λ (v : MessagesV). v.sent) (sym c.new.ensures))
          (fresh_ranges d.lasts d.seen d.images c.args.setup c.args.disks.items x.servers.stores.items c.in-Ok.clients.items c.requires.setup c.requires.disks x.ensures.up c.in-Ok.ensures),
      x.ensures.room.0,
      x.ensures.room.1,
    )

pub returns-in-Ok-open-clause-begins : goal.returns-in-Ok-open-clause-begins
returns-in-Ok-open-clause-begins g c =
    let d = g.D.Disk in
    let x = c.in-Ok-open in
    let sim : SimulationV (Fused g.row.D.Denot) = record {
      setup = c.args.setup;
      moment = 0;
      count = 0;
      stores = x.servers.stores.items;
      clients = c.in-Ok.clients.items;
      sent = c.new.result.sent;
      waiting = c.new-in-Ok-open.result;
      made = c.new.result.made;
      taken = c.new-in-Ok-open-2.result;
    } in
    begins_from d.seen d.images (seen_by d.seen) (images_by d.images) c.args.setup c.args.disks.items sim (record {
      setup' = refl;
      moment = refl;
      count = refl;
      clients = c.in-Ok.ensures;
      sent = ap (λ (v : MessagesV). v.sent) c.new.ensures;
      waiting = c.new-in-Ok-open.ensures;
      made = ap (λ (v : MessagesV). v.made) c.new.ensures;
      taken = c.new-in-Ok-open-2.ensures;
    }) x.ensures.opens

pub returns-in-Ok-open-clause-servers : goal.returns-in-Ok-open-clause-servers
returns-in-Ok-open-clause-servers g c =
    paired_length (IsUpOn g.D.Disk.lasts g.D.Disk.seen g.D.Disk.images c.args.setup) 0 c.args.disks.items c.in-Ok-open.servers.stores.items c.in-Ok-open.ensures.up ∙ c.requires.disks

pub returns-in-Ok-open-clause-last : goal.returns-in-Ok-open-clause-last
returns-in-Ok-open-clause-last g c =
    let d = g.D.Disk in
    paired_weaker (IsUpOn d.lasts d.seen d.images c.args.setup) (λ s disk store. d.lasts disk store.disk.inner) (λ k x y up. up.back.lasts') 0 c.args.disks.items c.in-Ok-open.servers.stores.items c.in-Ok-open.ensures.up

pub returns-in_default-clause-back : goal.returns-in_default-clause-back
returns-in_default-clause-back g c =
    rw c.without_memory.ensures (come_same g.D.Disk.lasts g.met.D.Disk.lasts_here c.args.disks.items)
