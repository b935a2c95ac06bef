use Rattle.std.proofs.Common.{length}
use Rattle.std.proofs.lemmas.Result.{on_ok_weaker}
use Rattle.mds_out.specs.Images.{IsTorn, IsShortened}
use Rattle.row_store.proofs.Written.{whole}
use Rattle.sorted_table.proofs.Elsewhere.{elsewhere_one, elsewhere_on, elsewhere_sync}
use Rattle.row_store.proofs.writes.write_whole.Goals as goal

pub returns-in_err-cut-clause-any_moment : goal.returns-in_err-cut-clause-any_moment
returns-in_err-cut-clause-any_moment g c =
    elsewhere_one g.D.Disk.moment g.D.Disk.images_since c.args.file c.args.disk.now c.cut.new.self (IsShortened 0) (g.D.Disk.images c.args.disk.now) (g.D.Disk.images c.cut.new.self) (g.met.D.Disk.only_now c.args.disk.now) c.cut.ensures.time c.cut.ensures.crash

pub returns-in_err-write_at-clause-any_moment : goal.returns-in_err-write_at-clause-any_moment
returns-in_err-write_at-clause-any_moment g c =
    let first = elsewhere_one g.D.Disk.moment g.D.Disk.images_since c.args.file c.args.disk.now c.cut.new.self (IsShortened 0) (g.D.Disk.images c.args.disk.now) (g.D.Disk.images c.cut.new.self) (g.met.D.Disk.only_now c.args.disk.now) c.cut.ensures.time c.cut.ensures.crash in
    let second = elsewhere_one g.D.Disk.moment g.D.Disk.images_since c.args.file c.cut.new.self c.write_at.new.self (IsTorn 0 (length c.args.bytes.now)) (g.D.Disk.images c.cut.new.self) (g.D.Disk.images c.write_at.new.self) (g.met.D.Disk.only_now c.cut.new.self) c.write_at.ensures.time c.write_at.ensures.crash in
    elsewhere_on g.D.Disk.moment g.D.Disk.images_since c.args.file c.args.disk.now c.cut.new.self c.write_at.new.self (g.D.Disk.images c.args.disk.now) (g.D.Disk.images c.cut.new.self) (g.met.D.Disk.counts_now c.cut.new.self) first second

pub returns-clause-any_moment : goal.returns-clause-any_moment
returns-clause-any_moment g c =
    let first = elsewhere_one g.D.Disk.moment g.D.Disk.images_since c.args.file c.args.disk.now c.cut.new.self (IsShortened 0) (g.D.Disk.images c.args.disk.now) (g.D.Disk.images c.cut.new.self) (g.met.D.Disk.only_now c.args.disk.now) c.cut.ensures.time c.cut.ensures.crash in
    let second = elsewhere_one g.D.Disk.moment g.D.Disk.images_since c.args.file c.cut.new.self c.write_at.new.self (IsTorn 0 (length c.args.bytes.now)) (g.D.Disk.images c.cut.new.self) (g.D.Disk.images c.write_at.new.self) (g.met.D.Disk.only_now c.cut.new.self) c.write_at.ensures.time c.write_at.ensures.crash in
    let third = elsewhere_sync g.D.Disk.moment g.D.Disk.images_since c.args.file c.write_at.new.self c.sync.new.self (g.D.Disk.images c.write_at.new.self) (g.D.Disk.images c.sync.new.self) (g.met.D.Disk.only_now c.write_at.new.self) c.sync.ensures.time c.sync.ensures.crash in
    elsewhere_on g.D.Disk.moment g.D.Disk.images_since c.args.file c.args.disk.now c.write_at.new.self c.sync.new.self (g.D.Disk.images c.args.disk.now) (g.D.Disk.images c.write_at.new.self) (g.met.D.Disk.counts_now c.write_at.new.self)
    (elsewhere_on g.D.Disk.moment g.D.Disk.images_since c.args.file c.args.disk.now c.cut.new.self c.write_at.new.self (g.D.Disk.images c.args.disk.now) (g.D.Disk.images c.cut.new.self) (g.met.D.Disk.counts_now c.cut.new.self) first second) third

pub returns-clause-written : goal.returns-clause-written
returns-clause-written g c = on_ok_weaker c.sync.result
    (λ durable. whole (g.D.Disk.seen c.args.disk.now c.args.file) (g.D.Disk.seen c.cut.new.self c.args.file) (g.D.Disk.seen c.write_at.new.self c.args.file) (g.D.Disk.seen c.sync.new.self c.args.file) c.args.bytes.now c.in_ok-cut.ensures.cut c.in_ok-write_at.ensures.written (c.sync.ensures.unchanged.bytes c.args.file))
    c.sync.ensures.durable
