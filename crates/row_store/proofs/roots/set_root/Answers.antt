use Rattle.std.proofs.Common.{◌≡◌, ◌∙◌, sym, ap, subst, Some, Ok, Err, rules}
use Rattle.root_slots.specs.declared.root_slots.RootSlots.{RootSlots}
use Rattle.root_slots.specs.Slot.{found_in, root_of}
use Rattle.root_slots.specs.Slots.{filled_root}
use Rattle.row_store.specs.RootSteps.{IsRootStep}
use Rattle.row_store.proofs.RootChange.{still, comes, come, told_more, ok_three, root_step_on, in_force_by}
use Rattle.row_store.proofs.roots.set_root.Goals as goal

pub returns-in_err-close_slot-clause-call : goal.returns-in_err-close_slot-clause-call
returns-in_err-close_slot-clause-call g c =
    let root = c.args.root.now in
    let a = c.args.disk.now in
    let m = c.close_slot.new.disk in
    let fault = c.in_err-close_slot.field-0.0 in
    let given : c.from_residual.result ≡ Err fault = search rules in
    let first : IsRootStep {T = Unit {0}} g.D.Disk.seen g.D.Disk.sizes g.D.Disk.images g.D.Disk.moment g.D.Disk.images_since g.D.Disk.faults g.D.Disk.lasts g.D.Disk.fails root a m (Err fault) = record {
      elsewhere = c.close_slot.ensures.elsewhere;
      told = c.close_slot.ensures.told;
      others = c.close_slot.ensures.images_elsewhere c.requires.running;
      any_moment = still g.D.Disk.moment g.D.Disk.images_since a m root (g.D.Disk.seen a 0) (c.close_slot.ensures.any_moment c.requires.running);
      cause = c.in_err-close_slot.ensures.cause;
      lasts = c.close_slot.ensures.lasts;
      failed = c.in_err-close_slot.ensures.failed;
    } in
    subst (IsRootStep {T = Unit {0}} g.D.Disk.seen g.D.Disk.sizes g.D.Disk.images g.D.Disk.moment g.D.Disk.images_since g.D.Disk.faults g.D.Disk.lasts g.D.Disk.fails root a m) (sym given) first

pub returns-in_err-fill_slot-clause-call : goal.returns-in_err-fill_slot-clause-call
returns-in_err-fill_slot-clause-call g c =
    let root = c.args.root.now in
    let a = c.args.disk.now in
    let m = c.close_slot.new.disk in
    let b = c.fill_slot.new.disk in
    let fault = c.in_err-fill_slot.field-0.0 in
    let given : c.from_residual-in_err-fill_slot.result ≡ Err fault = search rules in
    let first : IsRootStep {T = Unit {0}} g.D.Disk.seen g.D.Disk.sizes g.D.Disk.images g.D.Disk.moment g.D.Disk.images_since g.D.Disk.faults g.D.Disk.lasts g.D.Disk.fails root a m (Ok tt) = record {
      elsewhere = c.close_slot.ensures.elsewhere;
      told = c.close_slot.ensures.told;
      others = c.close_slot.ensures.images_elsewhere c.requires.running;
      any_moment = still g.D.Disk.moment g.D.Disk.images_since a m root (g.D.Disk.seen a 0) (c.close_slot.ensures.any_moment c.requires.running);
      cause = c.in_ok-close_slot.ensures.cause;
      lasts = c.close_slot.ensures.lasts;
      failed = c.in_ok-close_slot.ensures.failed;
    } in
    let second : IsRootStep {T = Unit {0}} g.D.Disk.seen g.D.Disk.sizes g.D.Disk.images g.D.Disk.moment g.D.Disk.images_since g.D.Disk.faults g.D.Disk.lasts g.D.Disk.fails root m b (Err fault) = record {
      elsewhere = c.fill_slot.ensures.elsewhere;
      told = c.fill_slot.ensures.told;
      others = c.fill_slot.ensures.images_elsewhere (ap (λ (s : RootSlots). s.stopped) c.in_ok-close_slot.ensures.emptied ∙ c.requires.running);
      any_moment = still g.D.Disk.moment g.D.Disk.images_since m b root (g.D.Disk.seen m 0) (c.fill_slot.ensures.any_moment (ap (λ (s : RootSlots). s.stopped) c.in_ok-close_slot.ensures.emptied ∙ c.requires.running));
      cause = c.in_err-fill_slot.ensures.cause;
      lasts = c.fill_slot.ensures.lasts;
      failed = c.in_err-fill_slot.ensures.failed;
    } in
    subst (IsRootStep {T = Unit {0}} g.D.Disk.seen g.D.Disk.sizes g.D.Disk.images g.D.Disk.moment g.D.Disk.images_since g.D.Disk.faults g.D.Disk.lasts g.D.Disk.fails root a b) (sym given) (root_step_on tt (Err fault) root a m b (g.met.D.Disk.counts_now m) (g.met.D.Disk.lasts_on a m b) (g.met.D.Disk.fails_after a m b) c.in_ok-close_slot.ensures.kept first second)

pub open_slot-requires-clause-filled : goal.open_slot-requires-clause-filled
open_slot-requires-clause-filled g c = (c.args.root.now.number, ap (λ (s : RootSlots). s.step) c.in_ok-fill_slot.ensures.filled)

pub returns-clause-in_force : goal.returns-clause-in_force
returns-clause-in_force g c =
    let root = c.args.root.now in
    let m = c.fill_slot.new.disk in
    let b = c.open_slot.new.disk in
    let full = c.fill_slot.new.self in
    ok_three c.open_slot.result _ _ _ _ (λ opened ready forced.
    in_force_by c.args.slots.now c.close_slot.new.self full c.open_slot.new.self root (g.D.Disk.seen b) (g.D.Disk.sizes b) (g.D.Disk.images b) c.requires.made c.requires.running c.in_ok-close_slot.ensures.emptied c.in_ok-fill_slot.ensures.filled
    (opened root.number (ap (λ (s : RootSlots). s.step) c.in_ok-fill_slot.ensures.filled)) ready
    (come found_in _ root_of root (g.D.Disk.seen m 0) (g.D.Disk.seen b 0) forced (told_more (g.D.Disk.seen m 0) (λ file. filled_root full file ≡ root) _ (λ file is. ap (λ r. Some r) is) c.in_ok-fill_slot.ensures.root)))
    c.open_slot.ensures.opened c.open_slot.ensures.ready c.open_slot.ensures.in_force

pub returns-clause-call : goal.returns-clause-call
returns-clause-call g c =
    let root = c.args.root.now in
    let a = c.args.disk.now in
    let m = c.close_slot.new.disk in
    let n = c.fill_slot.new.disk in
    let b = c.open_slot.new.disk in
    let first : IsRootStep {T = Unit {0}} g.D.Disk.seen g.D.Disk.sizes g.D.Disk.images g.D.Disk.moment g.D.Disk.images_since g.D.Disk.faults g.D.Disk.lasts g.D.Disk.fails root a m (Ok tt) = record {
      elsewhere = c.close_slot.ensures.elsewhere;
      told = c.close_slot.ensures.told;
      others = c.close_slot.ensures.images_elsewhere c.requires.running;
      any_moment = still g.D.Disk.moment g.D.Disk.images_since a m root (g.D.Disk.seen a 0) (c.close_slot.ensures.any_moment c.requires.running);
      cause = c.in_ok-close_slot.ensures.cause;
      lasts = c.close_slot.ensures.lasts;
      failed = c.in_ok-close_slot.ensures.failed;
    } in
    let second : IsRootStep {T = Unit {0}} g.D.Disk.seen g.D.Disk.sizes g.D.Disk.images g.D.Disk.moment g.D.Disk.images_since g.D.Disk.faults g.D.Disk.lasts g.D.Disk.fails root m n (Ok tt) = record {
      elsewhere = c.fill_slot.ensures.elsewhere;
      told = c.fill_slot.ensures.told;
      others = c.fill_slot.ensures.images_elsewhere (ap (λ (s : RootSlots). s.stopped) c.in_ok-close_slot.ensures.emptied ∙ c.requires.running);
      any_moment = still g.D.Disk.moment g.D.Disk.images_since m n root (g.D.Disk.seen m 0) (c.fill_slot.ensures.any_moment (ap (λ (s : RootSlots). s.stopped) c.in_ok-close_slot.ensures.emptied ∙ c.requires.running));
      cause = c.in_ok-fill_slot.ensures.cause;
      lasts = c.fill_slot.ensures.lasts;
      failed = c.in_ok-fill_slot.ensures.failed;
    } in
    let third : IsRootStep {T = Unit {0}} g.D.Disk.seen g.D.Disk.sizes g.D.Disk.images g.D.Disk.moment g.D.Disk.images_since g.D.Disk.faults g.D.Disk.lasts g.D.Disk.fails root n b c.open_slot.result = record {
      elsewhere = c.open_slot.ensures.elsewhere;
      told = c.open_slot.ensures.told;
      others = c.open_slot.ensures.images_elsewhere (ap (λ (s : RootSlots). s.stopped) c.in_ok-fill_slot.ensures.filled ∙ ap (λ (s : RootSlots). s.stopped) c.in_ok-close_slot.ensures.emptied ∙ c.requires.running);
      any_moment = comes g.D.Disk.moment g.D.Disk.images_since n b root c.fill_slot.new.self (g.D.Disk.seen n 0) c.in_ok-fill_slot.ensures.root (c.open_slot.ensures.any_moment (ap (λ (s : RootSlots). s.stopped) c.in_ok-fill_slot.ensures.filled ∙ ap (λ (s : RootSlots). s.stopped) c.in_ok-close_slot.ensures.emptied ∙ c.requires.running));
      cause = c.open_slot.ensures.cause;
      lasts = c.open_slot.ensures.lasts;
      failed = c.open_slot.ensures.failed;
    } in
    root_step_on tt c.open_slot.result root a m b (g.met.D.Disk.counts_now m) (g.met.D.Disk.lasts_on a m b) (g.met.D.Disk.fails_after a m b) c.in_ok-close_slot.ensures.kept first (root_step_on tt c.open_slot.result root m n b (g.met.D.Disk.counts_now n) (g.met.D.Disk.lasts_on m n b) (g.met.D.Disk.fails_after m n b) c.in_ok-fill_slot.ensures.kept second third)
