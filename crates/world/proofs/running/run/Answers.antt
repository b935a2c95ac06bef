use Rattle.std.proofs.Common.{◌∙◌, sym, arith}
use Rattle.world.proofs.Runs.{still_enabled, still_steps, stops_at, runs_whole, holds_whole}
use Rattle.world.proofs.running.run.Goals as goal

pub loop-place-preserved : goal.loop-place-preserved
loop-place-preserved c =
    let inv = c.loop-place.invariant in
    record {
      enabled' = still_enabled c.args.setup c.args.events.now c.loop-place.place c.loop-place.world inv.enabled' inv.world' c.index-events-place.result (omega arith) c.index-events-place.is (sym c.enabled.ensures ∙ c.if-not-enabled.false);
      world' = still_steps c.args.setup c.args.events.now c.loop-place.place c.loop-place.world inv.enabled' inv.world' c.index-events-place.result (omega arith) c.index-events-place.is c.step.new.self c.in_ok-step.ensures.ok;
    }

pub returns-then-not-enabled-clause-ran : goal.returns-then-not-enabled-clause-ran
returns-then-not-enabled-clause-ran c =
    let inv = c.loop-place.invariant in
    stops_at c.args.setup c.args.events.now c.loop-place.place c.loop-place.world inv.enabled' inv.world' c.index-events-place.result (omega arith) c.index-events-place.is (sym c.enabled.ensures ∙ c.if-not-enabled.true)

pub returns-clause-ran : goal.returns-clause-ran
returns-clause-ran c =
    let inv = c.loop-place.invariant in
    runs_whole c.args.setup c.args.events.now c.loop-place.place c.loop-place.world inv.enabled' inv.world' (omega arith)

pub returns-clause-law : goal.returns-clause-law
returns-clause-law c =
    let inv = c.loop-place.invariant in
    holds_whole c.args.setup c.args.events.now c.loop-place.world c.requires.some_server
    (runs_whole c.args.setup c.args.events.now c.loop-place.place c.loop-place.world inv.enabled' inv.world' (omega arith))
