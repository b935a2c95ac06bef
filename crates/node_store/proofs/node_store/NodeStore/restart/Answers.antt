use Rattle.std.proofs.Common.{◌≡◌, ◌∙◌, ap, subst, refl, ℕ, Some, take}
use Rattle.mds_base.specs.declared.store_fault.StoreFault.{StoreFault}
use Rattle.node_core.specs.Nodes.{NodeV, NodeAndRows}
use Rattle.node_core.specs.Serving.{replayed_all}
use Rattle.mds_out.specs.Known.{OnTold}
use Rattle.node_store.specs.Reading.{IsRefusal}
use Rattle.node_store.specs.Store.{Store, IsDownAt}
use Rattle.node_store.proofs.Restarting.{err_at, on_err, told_image, kept_of, brought_back, still_owed, not_bad}
use Rattle.node_store.proofs.StandingAlike.{some_restarted}
use Rattle.node_store.proofs.Stores.{shown}
use Rattle.node_store.proofs.node_store.NodeStore.restart.Goals as goal

pub returns-in_err-log-clause-owed : goal.returns-in_err-log-clause-owed
returns-in_err-log-clause-owed g c =
    let s = c.self.inside in
    let e = c.reopened.ensures in
    let d = c.reopened.new.disk in
    on_err c.from_residual.result _
    (subst (λ (v : Store _). (store : NodeAndRows) → IsDownAt g.D.Disk.seen g.D.Disk.images v store → IsDownAt g.D.Disk.seen g.D.Disk.images (shown d s.server s.setup s.log (record { node = s.node; rows = s.rows }) s.down s.doubt) store) c.self.view_is
    (λ store owed. record { down = owed.down; told = still_owed s.server s.setup s.log store s.doubt _ _ _ (g.D.Disk.images d) e.told e.crash owed.told }))

pub returns-in_err-log-clause-sound : goal.returns-in_err-log-clause-sound
returns-in_err-log-clause-sound g c =
    let s = c.self.inside in
    let e = c.reopened.ensures in
    let d = c.reopened.new.disk in
    let fault = c.in_err-log.field-0.0 in
    let left = told_image (g.D.Disk.seen d) (g.D.Disk.images s.disk) (λ image shows. e.crash image (g.met.D.Disk.reads_as d image shows)) in
    err_at _ fault (λ (f : StoreFault). (store : NodeAndRows) → IsDownAt g.D.Disk.seen g.D.Disk.images c.args.self.now store → IsRefusal (λ _ _ _. ⊥) (g.D.Disk.seen d 1) f) c.from_residual.ensures.1
    (subst (λ (v : Store _). (store : NodeAndRows) → IsDownAt g.D.Disk.seen g.D.Disk.images v store → IsRefusal (λ _ _ _. ⊥) (g.D.Disk.seen d 1) fault) c.self.view_is
    (λ store owed. not_bad s.server s.setup s.log store s.doubt _ _ (g.D.Disk.images s.disk) fault e.told left owed.told c.self.invariant.0.head c.in_err-log.ensures.refused))

pub returns-clause-up : goal.returns-clause-up
returns-clause-up g c =
    let s = c.self.inside in
    let e = c.reopened.ensures in
    let d = c.reopened.new.disk in
    let rows = c.in_ok-log.rows in
    let new : NodeAndRows = record { node = c.in_ok-log.node; rows = rows } in
    let other : NodeAndRows = record { node = c.restarted.new.self; rows = rows } in
    let same : other ≡ new = ap (λ (n : NodeV). record { node = n; rows = rows }) c.restarted.ensures in
    let kept = c.count_kept-kept.result in
    let is : kept ≡ kept_of s.log.length c.in_ok-log.log.length s.doubt = c.count_kept-kept.ensures ∙ ap (λ (n : ℕ). kept_of n c.length.result s.doubt) c.length-2.ensures ∙ ap (λ (n : ℕ). kept_of s.log.length n s.doubt) c.length.ensures in
    let left = told_image (g.D.Disk.seen d) (g.D.Disk.images s.disk) (λ image shows. e.crash image (g.met.D.Disk.reads_as d image shows)) in
    subst (λ (v : Store _). (store : NodeAndRows) → IsDownAt g.D.Disk.seen g.D.Disk.images v store → OnTold (g.D.Disk.seen d 1) (λ _. Some other ≡ Some (replayed_all store (take kept v.doubt)))) c.self.view_is
    (λ store owed. some_restarted (g.D.Disk.seen d 1) new other (replayed_all store (take kept s.doubt)) c.args.now same
    (brought_back s.server s.setup s.log store s.doubt _ _ (g.D.Disk.images s.disk) c.in_ok-log.log new kept e.told is left c.in_ok-log.ensures.kept.holds owed.told))

pub returns-clause-some : goal.returns-clause-some
returns-clause-some g c = (record { node = c.restarted.new.self; rows = c.in_ok-log.rows }, refl)
