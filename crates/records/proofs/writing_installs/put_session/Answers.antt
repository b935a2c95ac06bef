use Rattle.std.proofs.Common.{◌≡◌, ◌∙◌, ap, List, ℕ, ◌++◌, append_assoc}
use Rattle.std.specs.Int.{w32, w64, to_be_bytes}
use Rattle.std.proofs.lemmas.Result.{on_ok_weaker}
use Rattle.records.specs.FinalBytes.{final_spelling}
use Rattle.records.proofs.writing_installs.put_session.Goals as goal

-- the client, the number and the final, one after another, are the spelling
regrouped : (old client seq said : List ℕ) → ((old ++ client) ++ seq) ++ said ≡ old ++ (client ++ (seq ++ said))
regrouped old client seq said = simp append_assoc

pub returns-clause-ok : goal.returns-clause-ok
returns-clause-ok c =
    let session = c.args.session.now in
    let old = c.args.out.now.items in
    let client : List ℕ = to_be_bytes w32 session.client in
    let seq : List ℕ = to_be_bytes w64 session.seq in
    let said : List ℕ = final_spelling session.said in
    let before = c.in_ok-put_u64.ensures.ok ∙ ap (λ (t : List ℕ). t ++ seq) c.in_ok-put_u32.ensures.ok in
    on_ok_weaker c.put_final.result (λ written. written ∙ ap (λ (t : List ℕ). t ++ said) before ∙ regrouped old client seq said) c.put_final.ensures.ok
