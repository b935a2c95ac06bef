use Rattle.std.proofs.Common.{◌≡◌, ◌∙◌, sym, ap, List, ℕ, [], ◌∷◌, ◌++◌, append_assoc}
use Rattle.std.specs.Int.{w32, w64, to_be_bytes}
use Rattle.std.proofs.lemmas.Result.{on_ok_weaker}
use Rattle.records.specs.declared.kinds.TheConstants.{RECORD_SERVED}
use Rattle.records.specs.declared.record.Record.{Record}
use Rattle.records.specs.Spelling.{call_spelling, final_spelling, record_spelling}
use Rattle.records.proofs.writing.put_record.Goals as goal

-- the parts of a change, one after another, are its spelling
regrouped : (kind : ℕ) (old client seq part reply : List ℕ) → ((old ++ kind ∷ []) ++ (client ++ (seq ++ part))) ++ reply ≡ old ++ kind ∷ (client ++ (seq ++ (part ++ reply)))
regrouped kind old client seq part reply = simp append_assoc

pub returns-in_ok-put_numbers-in-Served-clause-ok : goal.returns-in_ok-put_numbers-in-Served-clause-ok
returns-in_ok-put_numbers-in-Served-clause-ok c =
    let s = c.in-Served in
    let numbers = c.in_ok-put_numbers-in-Served.ensures.ok ∙ ap (λ (t : List ℕ). t ++ (to_be_bytes w32 s.client ++ (to_be_bytes w64 s.seq ++ to_be_bytes w32 s.part))) c.in_ok-put_byte-in-Served.ensures.ok in
    let reply : List ℕ = call_spelling s.call ++ final_spelling s.said in
    let grouped = regrouped RECORD_SERVED c.args.out.now.items (to_be_bytes w32 s.client) (to_be_bytes w64 s.seq) (to_be_bytes w32 s.part) reply in
    on_ok_weaker c.put_answered.result (λ answered. answered ∙ ap (λ (t : List ℕ). t ++ reply) numbers ∙ grouped ∙ ap (λ (item : Record). c.args.out.now.items ++ record_spelling item) (sym s.is)) c.put_answered.ensures.ok
