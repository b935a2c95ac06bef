use Rattle.std.proofs.Common.{◌+◌, ◌≤◌, List, ℕ, None, Some, ap, arith, refl, rules}
use Rattle.mds_out.specs.Known.{OnTold}
use Rattle.gate_log.specs.Calls.{IsGateAt, IsReplayed}
use Rattle.gate_log.specs.LogState.{LogState}
use Rattle.gate_log.proofs.Reading.{reads_on}
use Rattle.gate_log.proofs.Replays.{ended}
use Rattle.gate_log.proofs.gate_log.GateLog.replay.Goals as goal

pub returns-then-at-self-clause-given : goal.returns-then-at-self-clause-given
returns-then-at-self-clause-given g c = λ before after gate.
    let past : c.args.self.now.length ≤ c.args.at + 1 = omega (arith, ap (λ (l : LogState). l.length) c.self.view_is) in
    ended (g.D.Disk.seen c.args.disk.now c.args.self.now.file) c.args.self.now c.args.at c.args.into.now.items before after gate past

pub returns-then-at-self-clause-read : goal.returns-then-at-self-clause-read
returns-then-at-self-clause-read g c =
    let past : c.args.self.now.length ≤ c.args.at + 1 = omega (arith, ap (λ (l : LogState). l.length) c.self.view_is) in
    let seen = g.D.Disk.seen c.args.disk.now c.args.self.now.file in
    reads_on seen seen c.args.self.now c.args.at None c.args.into.now.items refl
    (λ before after gate. ended seen c.args.self.now c.args.at c.args.into.now.items before after gate past)

pub returns-in-Ok-clause-read : goal.returns-in-Ok-clause-read
returns-in-Ok-clause-read g c =
    let seen = g.D.Disk.seen c.args.disk.now c.args.self.now.file in
    let given : (before after : List (List ℕ)) → OnTold seen (IsGateAt c.args.self.now c.args.at before after) → OnTold seen (IsReplayed c.args.self.now before after (Some c.in-Ok.next) c.body_at.new.into.items) = search rules in
    reads_on seen (g.D.Disk.seen c.body_at.new.disk c.args.self.now.file) c.args.self.now c.args.at (Some c.in-Ok.next) c.body_at.new.into.items (c.body_at.ensures.call.unchanged.bytes c.args.self.now.file) given
