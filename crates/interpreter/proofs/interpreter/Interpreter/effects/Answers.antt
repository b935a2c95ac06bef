use Rattle.std.proofs.Common.{◌∙◌, ap, sym, subst, take, arith}
use Rattle.std.specs.List.{flat_map}
use Rattle.std.proofs.lemmas.List.{take_all}
use Rattle.pasts.specs.Fuses.{seen_by, images_by}
use Rattle.interpreter.specs.Payments.{TellsNoStop}
use Rattle.interpreter.specs.Text.{effect_of}
use Rattle.interpreter.proofs.EffectsText.{effects_more, effects_shown, effects_quiet}
use Rattle.interpreter.proofs.interpreter.Interpreter.effects.Goals as goal

pub loop-at-preserved : goal.loop-at-preserved
loop-at-preserved g c =
    effects_more c.args.self.now.simulation c.loop-at.at _ _ (omega (arith, c.loop-at-test.true, c.made_len-at-end.ensures)) c.loop-at.invariant c.in_ok-add_effect.ensures

pub returns-clause-shown : goal.returns-clause-shown
returns-clause-shown g c = λ run shows.
    let sim = c.args.self.now.simulation in
    c.loop-at.invariant
    ∙ ap (flat_map (effect_of sim)) (take_all c.loop-at.at sim.made (omega (arith, c.loop-at-test.false, c.made_len-at-end.ensures)))
    ∙ effects_shown (seen_by g.D.Disk.seen) (images_by g.D.Disk.images) sim run shows

pub returns-clause-quiet : goal.returns-clause-quiet
returns-clause-quiet g c =
    let sim = c.args.self.now.simulation in
    subst TellsNoStop (sym c.loop-at.invariant) (effects_quiet sim (take c.loop-at.at sim.made))
