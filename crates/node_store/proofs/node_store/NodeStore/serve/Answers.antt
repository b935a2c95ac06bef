use Rattle.std.proofs.Common.{◌≡◌, ◌∙◌, ap, subst, sym, ◌≤◌, List, length, true, arith}
use Rattle.records.specs.declared.record.Record.{Record}
use Rattle.node_core.specs.Nodes.{NodeAndRows, has_numbers}
use Rattle.node_core.proofs.ToldRecords.{few_records}
use Rattle.node_store.specs.Parts.{IsNodeOf}
use Rattle.node_store.specs.Store.{Store, IsKept}
use Rattle.node_store.proofs.Serving.{serve_stays, same_store}
use Rattle.node_store.proofs.Stores.{was_up}
use Rattle.node_store.proofs.node_store.NodeStore.serve.Goals as goal

pub invariant_of-self : goal.invariant_of-self
invariant_of-self g c =
    let s = c.self.inside in
    let d = c.serve_on.new.disk in
    let store : NodeAndRows = record { node = s.node; rows = s.rows } in
    let served = c.in-Ok.ensures.served in
    let before = was_up s.down store c.requires.up.0 (ap (λ (v : Store _). v.up) c.self.view_is ∙ c.requires.up.1) in
    let numbers : has_numbers s.node ≡ true = subst (λ (x : NodeAndRows). has_numbers x.node ≡ true) (sym before.1) c.requires.up.2 in (
      c.self.invariant.0,
      c.self.invariant.1,
      λ up.
          let was = c.self.invariant.2 up in
          record {
            kept = subst (IsKept (g.D.Disk.seen d) (g.D.Disk.sizes d) (g.D.Disk.images d) s.server s.setup c.serve_on.new.log) (sym (same_store _ _ _ served.node' served.rows')) (c.in-Ok.ensures.kept s.server s.setup was.kept);
            node = subst (IsNodeOf s.server s.setup) (sym served.node') (serve_stays s.server s.setup store c.args.msg.now c.args.now numbers was.node);
            sure = was.sure;
          },
    )

pub invariant_of-self-in-Err-Disk : goal.invariant_of-self-in-Err-Disk
invariant_of-self-in-Err-Disk g c =
    let store : NodeAndRows = record { node = c.self.inside.node; rows = c.self.inside.rows } in
    let few : length c.in-Err-Disk.doubt ≤ 1 = subst (λ (items : List Record). length items ≤ 1) (sym (rw c.in-Err-Disk.field-0-is at c.in-Err-Disk.ensures.doubt)) (few_records store c.args.msg.now c.args.now) in
    (c.self.invariant.0, omega (arith, few), λ up. cc)
