use Rattle.std.proofs.Common.{◌≡◌, ◌∙◌, ap, List, ℕ, [], ◌∷◌, ◌++◌, false, append_assoc}
use Rattle.std.specs.Int.{w64, to_be_bytes}
use Rattle.std.proofs.lemmas.Result.{on_ok_weaker}
use Rattle.records.specs.declared.kinds.TheConstants.{CALL_LOAD}
use Rattle.records.specs.Rows.{rows_spelling}
use Rattle.records.proofs.writing.put_load.Goals as goal

-- the kind, the directory and the rows, one after another, are the spelling
regrouped : (kind : ℕ) (old dir rows : List ℕ) → ((old ++ kind ∷ []) ++ dir) ++ rows ≡ old ++ kind ∷ (dir ++ rows)
regrouped kind old dir rows = simp append_assoc

pub returns-clause-ok : goal.returns-clause-ok
returns-clause-ok c =
    let dir = to_be_bytes w64 c.args.dir in
    let rows = rows_spelling false c.args.rows.now in
    let before = c.in_ok-put_u64.ensures.ok ∙ ap (λ (t : List ℕ). t ++ dir) c.in_ok-put_byte.ensures.ok in
    on_ok_weaker c.put_rows.result (λ written. written ∙ ap (λ (t : List ℕ). t ++ rows) before ∙ regrouped CALL_LOAD c.args.out.now.items dir rows) c.put_rows.ensures.ok
