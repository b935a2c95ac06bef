use Rattle.std.proofs.Common.{List, ℕ, Option, None, Some, subst}
use Rattle.mds_out.specs.Known.{OnTold}
use Rattle.gate_log.specs.Frame.{IsLengthAt}
use Rattle.gate_log.proofs.Scans.{lacks_behind, body_behind}
use Rattle.gate_log.proofs.scan.step_at.Goals as goal

pub returns-in-Some-clause-step : goal.returns-in-Some-clause-step
returns-in-Some-clause-step g c =
    let P : Option (List ℕ) → Type 0 = λ seen. OnTold seen (IsLengthAt c.args.offset c.args.size (Some c.in-Some.count)) in
    let there = rw c.in-Some.is at c.in_ok-count.ensures.length in
    let fits = rw c.in-Some.is at c.in_ok-count.ensures.fits in
    body_behind (g.D.Disk.seen c.args.disk.now c.args.file) (g.D.Disk.sizes c.args.disk.now c.args.file) c.args.size c.args.offset c.in-Some.count c.read.new.into (g.met.D.Disk.tells_length c.args.disk.now c.args.file) c.requires.known c.requires.within fits.0 fits.1
    c.in_ok-read.ensures.bytes c.if-gate-ne1.false (subst P (c.read.ensures.call.unchanged.bytes c.args.file) there)

pub returns-in-None-clause-step : goal.returns-in-None-clause-step
returns-in-None-clause-step g c =
    let P : Option (List ℕ) → Type 0 = λ seen. OnTold seen (IsLengthAt c.args.offset c.args.size None) in
    let there = rw c.in-None.is at c.in_ok-count.ensures.length in
    lacks_behind (g.D.Disk.seen c.args.disk.now c.args.file) (g.D.Disk.sizes c.args.disk.now c.args.file) c.args.size c.args.offset c.read.new.into (g.met.D.Disk.tells_length c.args.disk.now c.args.file) c.requires.known c.requires.within
    c.in_ok-read.ensures.bytes c.if-gate-ne1.false (subst P (c.read.ensures.call.unchanged.bytes c.args.file) there)
