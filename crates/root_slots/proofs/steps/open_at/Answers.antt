use Rattle.std.proofs.Common.{◌≡◌, sym, subst, ℕ, [], ◌∷◌}
use Rattle.std.proofs.lemmas.Result.{on_ok_weaker}
use Rattle.gate_log.proofs.Appends.{on_ok_three}
use Rattle.mds_out.specs.Disk.{put}
use Rattle.mds_out.specs.Images.{IsTorn}
use Rattle.root_slots.specs.declared.content.Found.TheVariants.{InForce}
use Rattle.root_slots.specs.Slot.{found_in}
use Rattle.root_slots.specs.Slots.{spare, opened, filled_root, IsOldOrNew, Stands}
use Rattle.root_slots.proofs.Changing.{opening_torn, opening_found, opening_done}
use Rattle.root_slots.proofs.Told.{each_moment, elsewhere_moment, ready_after, told_after}
use Rattle.root_slots.proofs.steps.open_at.Goals as goal

pub returns-clause-ready : goal.returns-clause-ready
returns-clause-ready g c = on_ok_three c.write_synced.result
    (λ told size durable number step. ready_after c.args.slots.now (opened c.args.slots.now number) (g.D.Disk.seen c.args.disk.now) (g.D.Disk.seen c.write_synced.new.disk) (g.D.Disk.sizes c.args.disk.now) (g.D.Disk.sizes c.write_synced.new.disk) (g.D.Disk.images c.args.disk.now) (g.D.Disk.images c.write_synced.new.disk) c.args.offset (1 ∷ []) c.requires.made c.requires.made
    (λ file stands. subst (λ (n : ℕ). Stands (opened c.args.slots.now number) (put file n (1 ∷ []))) (sym c.requires.offset) (opening_done c.args.slots.now file stands c.requires.made number step c.requires.shut))
    c.requires.ready told size durable)
    c.write_synced.ensures.written c.write_synced.ensures.size c.write_synced.ensures.durable

pub returns-clause-any_moment : goal.returns-clause-any_moment
returns-clause-any_moment g c =
    each_moment g.D.Disk.moment g.D.Disk.images_since c.args.slots.now (g.D.Disk.images c.args.disk.now) (g.D.Disk.seen c.args.disk.now 0) c.args.offset 1 c.args.disk.now c.write_synced.new.disk (IsOldOrNew c.args.slots.now)
    (λ file torn stands is. opening_torn c.args.slots.now file stands c.requires.made c.requires.filled.0 c.requires.filled.1 c.requires.shut torn (subst (λ (n : ℕ). IsTorn n 1 file torn) c.requires.offset is))
    c.requires.ready.told c.write_synced.ensures.any_moment

pub returns-clause-in_force : goal.returns-clause-in_force
returns-clause-in_force g c = on_ok_weaker c.write_synced.result
    (λ told. told_after c.args.slots.now (g.D.Disk.seen c.args.disk.now 0) (g.D.Disk.seen c.write_synced.new.disk 0) (g.D.Disk.images c.args.disk.now) c.args.offset (1 ∷ []) (λ old new. found_in new ≡ InForce (spare c.args.slots.now.force) (filled_root c.args.slots.now old))
    (λ file stands. subst (λ (n : ℕ). found_in (put file n (1 ∷ [])) ≡ InForce (spare c.args.slots.now.force) (filled_root c.args.slots.now file)) (sym c.requires.offset)
    (opening_found c.args.slots.now file stands c.requires.made c.requires.filled.0 c.requires.filled.1 c.requires.shut))
    told c.requires.ready.told)
    c.write_synced.ensures.written

pub returns-clause-images_elsewhere : goal.returns-clause-images_elsewhere
returns-clause-images_elsewhere g c = elsewhere_moment g.D.Disk.moment g.D.Disk.images_since c.args.slots.now (g.D.Disk.images c.args.disk.now) c.args.offset 1 c.args.disk.now c.write_synced.new.disk c.write_synced.ensures.any_moment
