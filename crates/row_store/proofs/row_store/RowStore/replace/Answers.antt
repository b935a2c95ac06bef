use Rattle.std.proofs.Common.{◌≡◌, ◌∙◌, drop, sym, ap, subst, refl, Option, true, arith}
use Rattle.block_cache.specs.Blocks.{Blocks}
use Rattle.row_store.specs.Caching.{HaveLeft}
use Rattle.frame_pool.specs.Frames.{free_frames}
use Rattle.root_slots.specs.declared.root_slots.RootSlots.{RootSlots}
use Rattle.root_slots.specs.Root.{is_fresh}
use Rattle.row_store.specs.RootSteps.{IsInForce}
use Rattle.row_store.specs.declared.row_store.InForce.{InForce}
use Rattle.row_store.specs.declared.row_store.RowStore.{RowStore}
use Rattle.row_store.specs.Files.{named_by}
use Rattle.row_store.specs.Turning.{rooted}
use Rattle.row_store.proofs.Entered.{replaced_done, replaced_refused}
use Rattle.row_store.proofs.KeptBlocks.{left_behind}
use Rattle.row_store.proofs.Merged.{merge_candidate}
use Rattle.row_store.proofs.RootNumbers.{made_of, above_of, next_of, replaced_by}
use Rattle.row_store.proofs.row_store.RowStore.replace.Goals as goal

pub change_root-requires-clause-made : goal.change_root-requires-clause-made
change_root-requires-clause-made g c =
    let by = replaced_by c.args.self.now.force c.args.newer c.args.table.file c.args.root c.requires.root in
    made_of c.args.self.now.slots c.args.self.now.force by.now c.requires.ready.numbered by.was

pub change_root-requires-clause-above : goal.change_root-requires-clause-above
change_root-requires-clause-above g c =
    above_of c.args.self.now.slots c.args.self.now.force c.args.root.number c.requires.ready.numbered (next_of c.args.self.now.force c.args.newer c.args.table.file c.args.root c.requires.root)

pub change_root-requires-clause-root : goal.change_root-requires-clause-root
change_root-requires-clause-root g c =
    let by = replaced_by c.args.self.now.force c.args.newer c.args.table.file c.args.root c.requires.root in
    let P : Option InForce → Type 0 = λ f. is_fresh c.args.table.file (named_by f) ≡ true in
    let a = c.args.disk.now in
    (merge_candidate c.args.self.now by.now c.args.root c.args.newer c.args.table (g.D.Disk.seen a) (g.D.Disk.sizes a) (g.D.Disk.images a) by.was c.requires.ready c.requires.some (subst P by.was c.requires.apart) c.requires.merged by.next).is

pub returns-in-Ok-clause-step : goal.returns-in-Ok-clause-step
returns-in-Ok-clause-step g c =
    let by = replaced_by c.args.self.now.force c.args.newer c.args.table.file c.args.root c.requires.root in
    let P : Option InForce → Type 0 = λ f. is_fresh c.args.table.file (named_by f) ≡ true in
    let a = c.args.disk.now in
    let b = c.change_root.new.disk in
    let call = c.in-Ok.ensures.call in
    replaced_done g.D.Disk.seen g.D.Disk.sizes g.D.Disk.images g.D.Disk.moment g.D.Disk.images_since g.D.Disk.faults g.D.Disk.lasts g.D.Disk.fails c.args.self.now c.set_root.new.self by.now c.args.root c.args.newer c.args.table a b by.was c.requires.ready c.requires.some (subst P by.was c.requires.apart) c.requires.merged by.next
    call.elsewhere call.told call.any_moment c.change_root.ensures.any_moment (ap (λ (s : RowStore). free_frames s.pool) c.set_root.ensures) c.set_root.result (g.met.D.Disk.counts_now b)
    (subst (λ (s : RootSlots). IsInForce s c.args.root (g.D.Disk.seen b) (g.D.Disk.sizes b) (g.D.Disk.images b)) (sym (ap (λ (s : RowStore). s.slots) c.set_root.ensures)) c.in-Ok.ensures.in_force)
    (ap (λ (s : RowStore). s.force) c.set_root.ensures ∙ ap (rooted c.args.root) by.was)
    (ap (λ (s : RowStore). s.tables.items) c.set_root.ensures ∙ c.put_merged.ensures)
    (ap (λ (s : RowStore). s.merge) c.set_root.ensures ∙ c.requires.taken)
    (ap (λ (s : RowStore). s.fresh) c.set_root.ensures)
    (let Q : Option Blocks → Type 0 = λ k. HaveLeft (drop c.args.newer c.args.self.now.tables.items) c.args.self.now.cache k in
    subst Q (sym (ap (λ (s : RowStore). s.cache) c.set_root.ensures))
    (left_behind c.deref.result.now c.args.self.now.tables.items c.args.newer c.args.self.now.cache c.leave_all.new.cache c.deref.ensures.value (omega (arith, c.requires.some)) c.leave_all.ensures))
    (ap (λ (s : RowStore). s.stopped) c.set_root.ensures ∙ c.requires.running)
    call.cause.kept call.lasts

pub returns-in-Ok-clause-tables : goal.returns-in-Ok-clause-tables
returns-in-Ok-clause-tables g c = ap (λ (s : RowStore). s.tables.items) c.set_root.ensures ∙ c.put_merged.ensures

pub returns-in-Err-clause-step : goal.returns-in-Err-clause-step
returns-in-Err-clause-step g c =
    let by = replaced_by c.args.self.now.force c.args.newer c.args.table.file c.args.root c.requires.root in
    let P : Option InForce → Type 0 = λ f. is_fresh c.args.table.file (named_by f) ≡ true in
    let a = c.args.disk.now in
    let b = c.change_root.new.disk in
    let call = c.in-Err.ensures.call in
    replaced_refused g.D.Disk.seen g.D.Disk.sizes g.D.Disk.images g.D.Disk.moment g.D.Disk.images_since g.D.Disk.faults g.D.Disk.lasts g.D.Disk.fails c.args.self.now _ by.now c.args.root c.args.newer c.args.table a b by.was c.requires.ready c.requires.some (subst P by.was c.requires.apart) c.requires.merged by.next
    call.elsewhere call.told call.any_moment c.change_root.ensures.any_moment refl c.in-Err.fault refl call.cause call.lasts call.failed
