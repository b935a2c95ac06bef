use Rattle.std.proofs.Common.{◌≡◌, ◌∙◌, sym, ap, ℕ, ◌+◌, List, [], ◌∷◌, ◌++◌, map, arith}
use Rattle.std.specs.List.{range_with_len}
use Rattle.std.proofs.lemmas.List.FromFn.{map-range_with_len_more}
use Rattle.client_core.specs.Clients.{ClientV, new_client}
use Rattle.simulation.proofs.opening.new_clients.Goals as goal

one_more : (f : ℕ → ClientV) (n : ℕ) (old new : List ClientV) (client : ClientV) → old ≡ map f (range_with_len 1 n) → client ≡ f (n + 1) → new ≡ old ++ client ∷ [] → new ≡ map f (range_with_len 1 (n + 1))
one_more f n old new client so is pushed =
    pushed ∙ ap (λ l. l ++ client ∷ []) so ∙ ap (λ x. map f (range_with_len 1 n) ++ x ∷ []) is ∙ sym (map-range_with_len_more f 1 n (n + 1) (omega arith))

pub loop-number-preserved : goal.loop-number-preserved
loop-number-preserved c = one_more (λ k. new_client k c.args.setup) c.loop-number.number c.loop-number.clients.items c.push.new.self.items c.new.result c.loop-number.invariant c.new.ensures c.in_ok-push.ensures.items
