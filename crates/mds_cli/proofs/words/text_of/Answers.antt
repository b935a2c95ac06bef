use Rattle.std.proofs.Common.{◌∙◌, sym, ap, map, ◌∷◌, ◌++◌, length, None, lit<}
use Rattle.std.proofs.lemmas.Str.Pattern.{strip_prefix_char}
use Rattle.std.specs.Prelude.{string_bytes, ◌==◌}
use Rattle.std.proofs.lemmas.Bool.{true≢false}
use Rattle.mds_cli.proofs.OptionSpelling.{another_name, another_end}
use Rattle.mds_cli.proofs.words.text_of.Goals as goal

pub returns-in_err-behind : goal.returns-in_err-behind
returns-in_err-behind c =
    rw c.from_residual-in_err-behind.ensures
    (λ text rest. another_name c.args.name.now c.as_str.result.now text (map (λ word. string_bytes word) c.args.words.now) (map (λ word. string_bytes word) c.in_ok-first.rest.now) rest
    (ap (map (λ word. string_bytes word)) c.in_ok-first.ensures.cases.0 ∙ ap (λ word. word ∷ map (λ word. string_bytes word) c.in_ok-first.rest.now) (sym c.as_str.ensures.value))
    c.in_err-behind.ensures.cases)

pub returns-in_err-strip_prefix : goal.returns-in_err-strip_prefix
returns-in_err-strip_prefix c =
    let front = c.in_ok-behind.ensures.cases.1.1 ∙ ap (λ l. c.args.name.now ++ l) (sym c.in_ok-behind.ensures.cases.2) in
    rw c.from_residual-in_err-strip_prefix.ensures
    (λ text rest. another_end c.args.name.now c.in_ok-behind.behind.now text (map (λ word. string_bytes word) c.args.words.now) (map (λ word. string_bytes word) c.in_ok-first.rest.now) rest
    (ap (map (λ word. string_bytes word)) c.in_ok-first.ensures.cases.0 ∙ ap (λ word. word ∷ map (λ word. string_bytes word) c.in_ok-first.rest.now) (sym c.as_str.ensures.value ∙ front))
    (λ none. true≢false (sym (ap (λ l. length l == 0) none) ∙ sym c.if-is_empty.ensures))
    (strip_prefix_char 61 c.in_ok-behind.behind.now None c.in_err-strip_prefix.ensures.cases (lit< tt)))
