use Rattle.std.proofs.Common.{◌≡◌, sym, subst, refl, false, List, ℕ, Option, Some, None, arith}
use Rattle.mds_out.specs.Known.{OnTold}
use Rattle.root_slots.specs.Slot.{root_in}
use Rattle.row_store.proofs.Appends.{slots_on}
use Rattle.row_store.proofs.Opens.{ready_opened, kept_opened}
use Rattle.row_store.specs.declared.row_store.RowStore.{RowStore}
use Rattle.row_store.proofs.row_store.RowStore.open_on.Goals as goal

pub returns-in-Ok-clause-ready : goal.returns-in-Ok-clause-ready
returns-in-Ok-clause-ready g c =
    let old = c.args.disk.now in
    let new = c.open_with.new.disk in
    let call = c.in-Ok.ensures.call in
    let P : Option (List ℕ) → Type 0 = λ told. OnTold told (λ file. root_in file ≡ Some c.args.root) in
    let store : RowStore = record { pool = c.open_with.new.pool; cache = c.args.cache; slots = c.args.slots; force = Some (record { root = c.args.root; log = c.in-Ok.log }); tables = c.in-Ok.tables; merge = None; fresh = c.new.result; stopped = false } in
    ready_opened store (record { root = c.args.root; log = c.in-Ok.log }) (g.D.Disk.seen new) (g.D.Disk.sizes new) (g.D.Disk.images new) refl (subst P (sym (call.unchanged.bytes 0)) c.requires.in_force)
    (slots_on c.args.slots (g.D.Disk.seen old) (g.D.Disk.seen new) (g.D.Disk.sizes old) (g.D.Disk.sizes new) (g.D.Disk.images old) (g.D.Disk.images new) (call.unchanged.bytes 0) (call.unchanged.lengths 0) (λ crashed now. (crashed, call.crash crashed now, refl)) c.requires.slots)
    c.in-Ok.ensures.state c.in-Ok.ensures.files c.in-Ok.ensures.tables c.in-Ok.ensures.log_file c.in-Ok.ensures.log c.new.ensures.empty refl c.requires.begun c.requires.numbered (omega (arith, c.in-Ok.ensures.frames, c.requires.frames)) c.requires.running c.requires.root c.requires.cache

pub returns-in-Ok-clause-kept : goal.returns-in-Ok-clause-kept
returns-in-Ok-clause-kept g c =
    let old = c.args.disk.now in
    let new = c.open_with.new.disk in
    let call = c.in-Ok.ensures.call in
    let P : Option (List ℕ) → Type 0 = λ told. OnTold told (λ file. root_in file ≡ Some c.args.root) in
    let store : RowStore = record { pool = c.open_with.new.pool; cache = c.args.cache; slots = c.args.slots; force = Some (record { root = c.args.root; log = c.in-Ok.log }); tables = c.in-Ok.tables; merge = None; fresh = c.new.result; stopped = false } in
    kept_opened store (record { root = c.args.root; log = c.in-Ok.log }) (g.D.Disk.seen new) (g.D.Disk.sizes new) (g.D.Disk.images new) refl (subst P (sym (call.unchanged.bytes 0)) c.requires.in_force)
    (slots_on c.args.slots (g.D.Disk.seen old) (g.D.Disk.seen new) (g.D.Disk.sizes old) (g.D.Disk.sizes new) (g.D.Disk.images old) (g.D.Disk.images new) (call.unchanged.bytes 0) (call.unchanged.lengths 0) (λ crashed now. (crashed, call.crash crashed now, refl)) c.requires.slots)
    c.in-Ok.ensures.state c.in-Ok.ensures.files c.in-Ok.ensures.tables c.in-Ok.ensures.log_file c.in-Ok.ensures.log c.new.ensures.empty

pub returns-in-Ok-clause-gate : goal.returns-in-Ok-clause-gate
returns-in-Ok-clause-gate g c = λ root. (omega (arith, c.in-Ok.ensures.log.ready.some), c.in-Ok.ensures.gate)
