use Rattle.std.proofs.Common.{◌≡◌, refl, ap, Bool}
use Rattle.root_slots.specs.declared.root_slots.Step.TheVariants.{Emptied}
use Rattle.root_slots.specs.Slot.{found_in}
use Rattle.root_slots.specs.Slots.{emptied}
use Rattle.root_slots.proofs.Changing.{closed_already}
use Rattle.root_slots.proofs.Told.{no_moment, elsewhere_none, told_here, kept_as}
use Rattle.root_slots.proofs.steps.nothing_to_close.Goals as goal

pub returns-clause-ready : goal.returns-clause-ready
returns-clause-ready g c = let ready = c.requires.ready in record {
  size = ready.size;
  known = ready.known;
  whole = ready.whole;
  short = ready.short;
  told = kept_as c.args.slots.now (emptied c.args.slots.now) (g.D.Disk.seen c.args.disk.now 0) (g.D.Disk.images c.args.disk.now) (λ file stands. closed_already c.args.slots.now file stands c.requires.made c.requires.shut) ready.told;
}

pub returns-clause-emptied : goal.returns-clause-emptied
returns-clause-emptied g c = ap (λ (b : Bool). record c.args.slots.now { spare_open = b; step = Emptied }) c.requires.shut

pub returns-clause-any_moment : goal.returns-clause-any_moment
returns-clause-any_moment g c =
    no_moment g.D.Disk.moment g.D.Disk.images_since c.args.slots.now (g.D.Disk.images c.args.disk.now) (g.D.Disk.seen c.args.disk.now 0) c.args.disk.now (λ file image. found_in image ≡ found_in file) (λ file. refl)
    (g.met.D.Disk.only_now c.args.disk.now) c.requires.ready.told

pub returns-clause-kept : goal.returns-clause-kept
returns-clause-kept g c = told_here (g.D.Disk.seen c.args.disk.now 0) (λ old new. found_in new ≡ found_in old) (λ file. refl)

pub returns-clause-images_elsewhere : goal.returns-clause-images_elsewhere
returns-clause-images_elsewhere g c = elsewhere_none g.D.Disk.moment g.D.Disk.images_since c.args.slots.now (g.D.Disk.images c.args.disk.now) c.args.disk.now (g.met.D.Disk.only_now c.args.disk.now)
