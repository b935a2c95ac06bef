use Rattle.std.proofs.Common.{refl, ℕ}
use Rattle.gate_log.proofs.Appends.{on_ok_three}
use Rattle.gate_log.proofs.Told.{told_on}
use Rattle.std.proofs.Common.{replicate}
use Rattle.std.proofs.lemmas.List.{length-replicate}
use Rattle.root_slots.proofs.Told.{first_moment, both_moments, ready_made}
use Rattle.root_slots.proofs.steps.make_at.Goals as goal

pub returns-in_err-write_synced-clause-any_moment : goal.returns-in_err-write_synced-clause-any_moment
returns-in_err-write_synced-clause-any_moment g c =
    first_moment g.D.Disk.moment g.D.Disk.images_since c.args.slots.now (g.D.Disk.seen c.args.disk.now 0) (g.D.Disk.images c.args.disk.now) (replicate 2047 0) c.args.disk.now c.write_synced.new.disk c.requires.unmade (length-replicate {A = ℕ} 2047 0) c.requires.ready.told c.write_synced.ensures.any_moment

pub returns-clause-any_moment : goal.returns-clause-any_moment
returns-clause-any_moment g c =
    both_moments g.D.Disk.moment g.D.Disk.images_since c.args.slots.now (g.D.Disk.seen c.args.disk.now 0) (g.D.Disk.seen c.write_synced.new.disk 0) (g.D.Disk.images c.args.disk.now) (g.D.Disk.images c.write_synced.new.disk) (replicate 2047 0) c.args.disk.now c.write_synced.new.disk c.write_synced-2.new.disk
    c.requires.unmade refl c.requires.ready.told c.write_synced.ensures.any_moment c.in_ok-write_synced.ensures.written c.in_ok-write_synced.ensures.durable c.write_synced-2.ensures.any_moment

pub returns-clause-ready : goal.returns-clause-ready
returns-clause-ready g c = on_ok_three c.write_synced-2.result
    (λ told size durable. ready_made c.args.slots.now (g.D.Disk.seen c.args.disk.now) (g.D.Disk.seen c.write_synced.new.disk) (g.D.Disk.seen c.write_synced-2.new.disk) (g.D.Disk.sizes c.args.disk.now) (g.D.Disk.sizes c.write_synced.new.disk) (g.D.Disk.sizes c.write_synced-2.new.disk) (g.D.Disk.images c.args.disk.now) (g.D.Disk.images c.write_synced-2.new.disk) (replicate 2047 0)
    c.requires.unmade c.requires.begun.0 c.requires.begun.1 c.requires.begun.2 refl c.requires.ready c.in_ok-write_synced.ensures.written c.in_ok-write_synced.ensures.size told size durable)
    c.write_synced-2.ensures.written c.write_synced-2.ensures.size c.write_synced-2.ensures.durable

pub returns-clause-told : goal.returns-clause-told
returns-clause-told g c = told_on (g.D.Disk.seen c.args.disk.now 0) (g.D.Disk.seen c.write_synced.new.disk 0) (g.D.Disk.seen c.write_synced-2.new.disk 0) c.write_synced.ensures.told c.write_synced-2.ensures.told
