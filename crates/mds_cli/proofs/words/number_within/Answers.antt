use Rattle.std.proofs.Common.{◌∙◌, sym, ap, not, arith}
use Rattle.std.specs.Prelude.{decimal}
use Rattle.std.specs.Result.{result_ok}
use Rattle.std.proofs.lemmas.Bool.{true≢false}
use Rattle.std.proofs.lemmas.Option.{none-some, same_Some}
use Rattle.std.proofs.lemmas.Slice.Eq.{bytes_eq-Decides}
use Rattle.mds_cli.proofs.OptionSpelling.{number_parsed}
use Rattle.mds_cli.proofs.words.number_within.Goals as goal
use Rattle.mds_cli.proofs.words.number_within.Goals.{then-ne-via-then-ne, then-ne-via-else-ne+then-number-eq0, then-ne-via-else-ne+else-number-eq0+then-number-most}

pub returns-in_err-number : goal.returns-in_err-number
returns-in_err-number c =
    rw c.from_residual.ensures
    (λ value number. none-some value (c.in_err-number.ensures.value ∙ ap result_ok (number_parsed c.args.most value c.args.text.now c.parse.result (omega arith) c.parse.ensures.value.0 number)))

pub returns-then-ne : goal.returns-then-ne
returns-then-ne c value number =
    let same = same_Some c.in_ok-number.number value (c.in_ok-number.ensures.value ∙ ap result_ok (number_parsed c.args.most value c.args.text.now c.parse.result (omega arith) c.parse.ensures.value.0 number)) in
    elim c.then-ne.branch [
      | then-ne-via-then-ne w ↦
          let spelled = c.format.ensures.text ∙ ap decimal same ∙ sym number.is in
          true≢false (sym w.if-ne.true ∙ c.ne.ensures ∙ ap not ((bytes_eq-Decides c.format.result.now c.args.text.now).1 spelled))
      | then-ne-via-else-ne+then-number-eq0 w ↦ omega (arith, w, same, number.some)
      | then-ne-via-else-ne+else-number-eq0+then-number-most w ↦ omega (arith, w, same, number.few)
    ]
