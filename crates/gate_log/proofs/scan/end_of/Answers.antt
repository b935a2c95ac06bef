use Rattle.std.proofs.Common.{◌+◌, ◌≤◌, arith, List, ℕ, Option, subst}
use Rattle.mds_out.specs.Known.{OnTold}
use Rattle.mds_out.proofs.Calling.{reading_on}
use Rattle.gate_log.specs.Steps.{IsBodyAt}
use Rattle.gate_log.proofs.Readings.{reading_answers}
use Rattle.gate_log.proofs.Scans.{more, none}
use Rattle.gate_log.proofs.scan.end_of.Goals as goal

pub returns-then-size-eq0-clause-found : goal.returns-then-size-eq0-clause-found
returns-then-size-eq0-clause-found g c = none (g.D.Disk.seen c.args.disk.now c.args.file) (g.D.Disk.sizes c.args.disk.now c.args.file) c.args.size (g.met.D.Disk.tells_length c.args.disk.now c.args.file) c.requires.known c.if-size-eq0.true

pub gates-preserved : goal.gates-preserved
gates-preserved g c =
    let before = c.gates.invariant in
    let onward = rw c.in-Body.is at c.in_ok-step_at.ensures.onward in
    let next_is : c.gates.offset + 5 ≤ c.in-Body.next = omega (arith, onward.0) in
    let step = rw c.in-Body.is at c.in_ok-step_at.ensures.step in
    let P : Option (List ℕ) → Type 0 = λ seen. OnTold seen (IsBodyAt c.gates.offset c.in-Body.next) in
    record {
      within = onward.1;
      scanned = more (g.D.Disk.seen c.args.disk.now c.args.file) c.gates.offset c.in-Body.next before.scanned (subst P (before.calls.unchanged.bytes c.args.file) step);
      calls = reading_answers (reading_on g.D.Disk.lasts g.D.Disk.fails g.met.D.Disk.lasts_on g.met.D.Disk.fails_after before.calls c.in_ok-step_at.ensures.call) tt;
      asked = omega (arith, before.asked, c.step_at.ensures.asked, next_is);
    }
