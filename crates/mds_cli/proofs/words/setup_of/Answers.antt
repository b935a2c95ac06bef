use Rattle.std.proofs.Common.{map, ap}
use Rattle.std.specs.Prelude.{string_bytes}
use Rattle.mds_cli.proofs.Options.{is_solo, asks_given}
use Rattle.mds_cli.proofs.words.setup_of.Goals as goal

pub returns : goal.returns
returns c =
    asks_given (map (λ word. string_bytes word) c.args.words.now) (map (λ word. string_bytes word) c.in_ok-command.options.now) _ c.setup_with.result
    (ap (map (λ word. string_bytes word)) c.in_ok-command.ensures.cases.0) (is_solo c.as_str.result.now (string_bytes c.in_ok-command.command.now) c.as_str.ensures.value c.if-ne.ensures) c.setup_with.ensures
