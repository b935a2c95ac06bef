use Rattle.std.proofs.Common.{◌≡◌, ◌∙◌, sym, ap, Some}
use Rattle.gate_log.specs.LogState.{LogState}
use Rattle.row_store.proofs.Appends.{log_runs, keeps_appended, ready_appended, moments_appended, left_after}
use Rattle.row_store.proofs.row_store.RowStore.append.Goals as goal

pub returns-in-Ok-clause-kept : goal.returns-in-Ok-clause-kept
returns-in-Ok-clause-kept g c =
    let old = c.args.disk.now in
    let new = c.append-appended.new.disk in
    let root = c.in-Some.field-0.root in
    let log = c.in-Some.field-0.log in
    let was : c.args.self.now.force ≡ Some (record { root = c.in-Some.field-0.root; log = c.in-Some.field-0.log }) = sym c.take.ensures.value ∙ c.in-Some.is in
    let runs = log_runs c.args.self.now root log (g.D.Disk.seen c.args.disk.now) (g.D.Disk.sizes c.args.disk.now) (g.D.Disk.images c.args.disk.now) was c.requires.ready in
    keeps_appended c.args.self.now root log c.append-appended.new.self (g.D.Disk.seen old) (g.D.Disk.seen new) (g.D.Disk.sizes old) (g.D.Disk.sizes new) (g.D.Disk.images old) (g.D.Disk.images new) was c.requires.ready (c.append-appended.ensures.elsewhere runs) c.append-appended.ensures.told (ap (λ (l : LogState). l.file) c.in-Ok.ensures.length) c.args.piece.now c.in-Ok.ensures.appended

pub returns-in-Ok-clause-any_moment : goal.returns-in-Ok-clause-any_moment
returns-in-Ok-clause-any_moment g c = λ tells kept rows keeps.
    let old = c.args.disk.now in
    let new = c.append-appended.new.disk in
    let root = c.in-Some.field-0.root in
    let log = c.in-Some.field-0.log in
    let was : c.args.self.now.force ≡ Some (record { root = c.in-Some.field-0.root; log = c.in-Some.field-0.log }) = sym c.take.ensures.value ∙ c.in-Some.is in
    let runs = log_runs c.args.self.now root log (g.D.Disk.seen c.args.disk.now) (g.D.Disk.sizes c.args.disk.now) (g.D.Disk.images c.args.disk.now) was c.requires.ready in
    moments_appended c.args.self.now root log c.append-appended.new.self (g.D.Disk.seen old) (g.D.Disk.seen new) (g.D.Disk.sizes old) (g.D.Disk.sizes new) (g.D.Disk.images old) (g.D.Disk.images new) was c.requires.ready (c.append-appended.ensures.elsewhere runs) c.append-appended.ensures.told (ap (λ (l : LogState). l.file) c.in-Ok.ensures.length)
    g.D.Disk.moment g.D.Disk.images_since old new c.args.piece.now tells kept rows keeps (c.append-appended.ensures.images_elsewhere runs) (c.append-appended.ensures.any_moment runs)

pub returns-in-Ok-clause-ready : goal.returns-in-Ok-clause-ready
returns-in-Ok-clause-ready g c =
    let old = c.args.disk.now in
    let new = c.append-appended.new.disk in
    let root = c.in-Some.field-0.root in
    let log = c.in-Some.field-0.log in
    let was : c.args.self.now.force ≡ Some (record { root = c.in-Some.field-0.root; log = c.in-Some.field-0.log }) = sym c.take.ensures.value ∙ c.in-Some.is in
    let runs = log_runs c.args.self.now root log (g.D.Disk.seen c.args.disk.now) (g.D.Disk.sizes c.args.disk.now) (g.D.Disk.images c.args.disk.now) was c.requires.ready in
    ready_appended c.args.self.now root log c.append-appended.new.self (g.D.Disk.seen old) (g.D.Disk.seen new) (g.D.Disk.sizes old) (g.D.Disk.sizes new) (g.D.Disk.images old) (g.D.Disk.images new) was c.requires.ready (c.append-appended.ensures.elsewhere runs) c.append-appended.ensures.told (ap (λ (l : LogState). l.file) c.in-Ok.ensures.length)
    (left_after g.D.Disk.moment g.D.Disk.images_since log.file (g.D.Disk.images old) (g.D.Disk.images new) old new (g.met.D.Disk.counts_now new) (c.append-appended.ensures.images_elsewhere runs))
    (ap (λ (l : LogState). l.stopped) c.in-Ok.ensures.length ∙ runs) c.in-Ok.ensures.ready

pub returns-in-Err-clause-any_moment : goal.returns-in-Err-clause-any_moment
returns-in-Err-clause-any_moment g c = λ tells kept rows keeps.
    let old = c.args.disk.now in
    let new = c.append-appended.new.disk in
    let root = c.in-Some.field-0.root in
    let log = c.in-Some.field-0.log in
    let was : c.args.self.now.force ≡ Some (record { root = c.in-Some.field-0.root; log = c.in-Some.field-0.log }) = sym c.take.ensures.value ∙ c.in-Some.is in
    let runs = log_runs c.args.self.now root log (g.D.Disk.seen c.args.disk.now) (g.D.Disk.sizes c.args.disk.now) (g.D.Disk.images c.args.disk.now) was c.requires.ready in
    moments_appended c.args.self.now root log c.append-appended.new.self (g.D.Disk.seen old) (g.D.Disk.seen new) (g.D.Disk.sizes old) (g.D.Disk.sizes new) (g.D.Disk.images old) (g.D.Disk.images new) was c.requires.ready (c.append-appended.ensures.elsewhere runs) c.append-appended.ensures.told (ap (λ (l : LogState). l.file) c.in-Err.ensures.stops)
    g.D.Disk.moment g.D.Disk.images_since old new c.args.piece.now tells kept rows keeps (c.append-appended.ensures.images_elsewhere runs) (c.append-appended.ensures.any_moment runs)
