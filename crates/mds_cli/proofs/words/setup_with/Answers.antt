use Rattle.std.proofs.Common.{◌∙◌, sym, ap, false, arith}
use Rattle.std.proofs.lemmas.List.{length-map}
use Rattle.std.specs.Prelude.{string_bytes, get_or}
use Rattle.mds_cli.proofs.OptionSpelling.{choice_shortens}
use Rattle.mds_cli.proofs.Options.{remains_all, remains_none, remains_next, is_empty-map, not_empty-map, no_choice, second_choice}
use Rattle.mds_cli.proofs.words.setup_with.Goals as goal

pub loop-rest-init : goal.loop-rest-init
loop-rest-init c = remains_all _

pub returns-in_err-choice : goal.returns-in_err-choice
returns-in_err-choice c = rw c.from_residual.ensures (no_choice _ c.loop-rest.given c.loop-rest.setup _ c.loop-rest.invariant (not_empty-map (λ word. string_bytes word) c.loop-rest.rest.now c.loop-rest-test.ensures) c.in_err-choice.ensures)

pub returns-then-given-option : goal.returns-then-given-option
returns-then-given-option c =
    second_choice _ c.loop-rest.given c.loop-rest.setup _ c.loop-rest.invariant c.in_ok-choice.choice _ c.in_ok-choice.ensures (ap (λ k. get_or c.loop-rest.given k false) (sym c.option-option.ensures.is) ∙ c.if-given-option.true)

pub loop-rest-smaller : goal.loop-rest-smaller
loop-rest-smaller c = simp length-map at (choice_shortens c.in_ok-choice.choice _ _ c.in_ok-choice.ensures)

pub loop-rest-preserved : goal.loop-rest-preserved
loop-rest-preserved c =
    rw (c.option-option.ensures.is, c.choose-setup.ensures)
    (remains_next _ c.loop-rest.given c.loop-rest.setup _ c.loop-rest.invariant c.in_ok-choice.choice _ c.in_ok-choice.ensures
    (ap (λ k. get_or c.loop-rest.given k false) (sym c.option-option.ensures.is) ∙ c.if-given-option.false)
    (omega arith))

pub returns : goal.returns
returns c = remains_none _ c.loop-rest.given c.loop-rest.setup _ c.loop-rest.invariant (is_empty-map (λ word. string_bytes word) c.loop-rest.rest.now c.loop-rest-test.ensures)
