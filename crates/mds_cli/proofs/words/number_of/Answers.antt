use Rattle.std.proofs.Common.{map}
use Rattle.std.specs.Prelude.{string_bytes, decimal}
use Rattle.mds_cli.proofs.OptionSpelling.{no_number}
use Rattle.mds_cli.proofs.words.number_of.Goals as goal

pub returns-in_err-text : goal.returns-in_err-text
returns-in_err-text c = rw c.from_residual.ensures (λ value rest gives. c.in_err-text.ensures (decimal value) rest gives.names)

pub returns-in_err-number_within : goal.returns-in_err-number_within
returns-in_err-number_within c =
    rw c.from_residual-in_err-number_within.ensures
    (no_number c.args.name.now c.in_ok-text.text.now c.args.most (map (λ word. string_bytes word) c.args.words.now) (map (λ word. string_bytes word) c.in_ok-text.rest.now) c.in_ok-text.ensures c.in_err-number_within.ensures)
