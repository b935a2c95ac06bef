use Rattle.std.proofs.Common.{◌≡◌, refl}
use Rattle.root_slots.specs.Slot.{found_in}
use Rattle.root_slots.proofs.Told.{no_moment}
use Rattle.root_slots.proofs.root_slots.RootSlots.fill_slot.Goals as goal

pub returns-in_err-bytes-clause-any_moment : goal.returns-in_err-bytes-clause-any_moment
returns-in_err-bytes-clause-any_moment g c = λ going.
    no_moment g.D.Disk.moment g.D.Disk.images_since c.args.self.now (g.D.Disk.images c.args.disk.now) (g.D.Disk.seen c.args.disk.now 0) c.args.disk.now (λ file image. found_in image ≡ found_in file) (λ file. refl)
    (g.met.D.Disk.only_now c.args.disk.now) (c.requires.ready going).told
