use Rattle.std.proofs.Common.{◌≡◌, sym, subst, ◌+◌, ℕ, length, arith}
use Rattle.std.proofs.lemmas.Result.{on_ok_weaker}
use Rattle.gate_log.proofs.Appends.{on_ok_three}
use Rattle.mds_out.specs.Disk.{put}
use Rattle.mds_out.specs.Images.{IsTorn}
use Rattle.root_slots.specs.Slot.{found_in}
use Rattle.root_slots.specs.Slots.{filled, filled_root, Stands}
use Rattle.root_slots.proofs.Changing.{filling_torn, filling_found, filling_root, filling_done}
use Rattle.root_slots.proofs.Told.{each_moment, elsewhere_moment, ready_after, told_after, on_told_after}
use Rattle.root_slots.proofs.steps.fill_at.Goals as goal

pub returns-clause-ready : goal.returns-clause-ready
returns-clause-ready g c = on_ok_three c.write_synced.result
    (λ told size durable. ready_after c.args.slots.now (filled c.args.slots.now c.args.root.now.number) (g.D.Disk.seen c.args.disk.now) (g.D.Disk.seen c.write_synced.new.disk) (g.D.Disk.sizes c.args.disk.now) (g.D.Disk.sizes c.write_synced.new.disk) (g.D.Disk.images c.args.disk.now) (g.D.Disk.images c.write_synced.new.disk) (c.args.offset + 1) c.args.bytes.now c.requires.made c.requires.made
    (λ file stands. subst (λ (n : ℕ). Stands (filled c.args.slots.now c.args.root.now.number) (put file (n + 1) c.args.bytes.now)) (sym c.requires.offset)
    (filling_done c.args.slots.now file stands c.requires.made c.args.root.now c.args.bytes.now c.requires.short c.requires.read c.requires.shut c.requires.above))
    c.requires.ready told size durable)
    c.write_synced.ensures.written c.write_synced.ensures.size c.write_synced.ensures.durable

pub returns-clause-root : goal.returns-clause-root
returns-clause-root g c = on_ok_weaker c.write_synced.result
    (λ told. on_told_after c.args.slots.now (g.D.Disk.seen c.args.disk.now 0) (g.D.Disk.seen c.write_synced.new.disk 0) (g.D.Disk.images c.args.disk.now) (c.args.offset + 1) c.args.bytes.now (λ file. filled_root c.args.slots.now file ≡ c.args.root.now)
    (λ file stands. subst (λ (n : ℕ). filled_root c.args.slots.now (put file (n + 1) c.args.bytes.now) ≡ c.args.root.now) (sym c.requires.offset)
    (filling_root c.args.slots.now file stands c.requires.made c.args.root.now c.args.bytes.now c.requires.short c.requires.read))
    told c.requires.ready.told)
    c.write_synced.ensures.written

pub returns-clause-any_moment : goal.returns-clause-any_moment
returns-clause-any_moment g c =
    each_moment g.D.Disk.moment g.D.Disk.images_since c.args.slots.now (g.D.Disk.images c.args.disk.now) (g.D.Disk.seen c.args.disk.now 0) (c.args.offset + 1) (length c.args.bytes.now) c.args.disk.now c.write_synced.new.disk (λ file image. found_in image ≡ found_in file)
    (λ file torn stands is. filling_torn c.args.slots.now file stands c.requires.made (length c.args.bytes.now) torn (omega (arith, c.requires.short)) c.requires.shut (subst (λ (n : ℕ). IsTorn (n + 1) (length c.args.bytes.now) file torn) c.requires.offset is))
    c.requires.ready.told c.write_synced.ensures.any_moment

pub returns-clause-kept : goal.returns-clause-kept
returns-clause-kept g c = on_ok_weaker c.write_synced.result
    (λ told. told_after c.args.slots.now (g.D.Disk.seen c.args.disk.now 0) (g.D.Disk.seen c.write_synced.new.disk 0) (g.D.Disk.images c.args.disk.now) (c.args.offset + 1) c.args.bytes.now (λ old new. found_in new ≡ found_in old)
    (λ file stands. subst (λ (n : ℕ). found_in (put file (n + 1) c.args.bytes.now) ≡ found_in file) (sym c.requires.offset)
    (filling_found c.args.slots.now file stands c.requires.made c.args.bytes.now (omega (arith, c.requires.short)) c.requires.shut))
    told c.requires.ready.told)
    c.write_synced.ensures.written

pub returns-clause-images_elsewhere : goal.returns-clause-images_elsewhere
returns-clause-images_elsewhere g c = elsewhere_moment g.D.Disk.moment g.D.Disk.images_since c.args.slots.now (g.D.Disk.images c.args.disk.now) (c.args.offset + 1) (length c.args.bytes.now) c.args.disk.now c.write_synced.new.disk c.write_synced.ensures.any_moment
