use Rattle.std.proofs.Common.{◌≡◌, ◌∙◌, ap, ◌++◌, ◌∷◌, List, ℕ, length, append_assoc}
use Rattle.std.specs.Int.{w32, w64, to_be_bytes}
use Rattle.std.proofs.lemmas.Result.{on_ok_weaker}
use Rattle.sorted_table.proofs.spelling.put_key.Goals as goal

joined : (old d p r n : List ℕ) → (old ++ (d ++ (p ++ r))) ++ n ≡ old ++ (d ++ (p ++ (r ++ n)))
joined old d p r n = append_assoc old (d ++ (p ++ r)) n ∙ ap (λ l. old ++ l) (append_assoc d (p ++ r) n ∙ ap (λ l. d ++ l) (append_assoc p r n))

pub returns-clause-put : goal.returns-clause-put
returns-clause-put c =
    let key = c.args.key.now in
    let name = length key.name ∷ key.name in
    on_ok_weaker c.put_name.result
    (λ is. is ∙ ap (λ l. l ++ name) c.in_ok-put_numbers.ensures ∙ joined c.args.out.now.items (to_be_bytes w64 key.dir) (to_be_bytes w32 key.part) (to_be_bytes w64 key.rev) name)
    c.put_name.ensures.put
