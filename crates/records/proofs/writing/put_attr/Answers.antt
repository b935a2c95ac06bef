use Rattle.std.proofs.Common.{◌≡◌, ◌∙◌, sym, ap, List, ℕ, Bool, ◌++◌, append_assoc}
use Rattle.std.specs.Int.{w16, w32, w64, to_be_bytes}
use Rattle.std.proofs.lemmas.Result.{on_ok_weaker}
use Rattle.records.specs.Rows.{attr_spelling}
use Rattle.records.proofs.writing.put_attr.Goals as goal

-- the numbers and the stamp, one after another, are the spelling
regrouped : (old dir mode size stamp : List ℕ) → (old ++ (dir ++ (mode ++ size))) ++ stamp ≡ old ++ (dir ++ (mode ++ (size ++ stamp)))
regrouped old dir mode size stamp = simp append_assoc

pub returns-then-stamped-clause-ok : goal.returns-then-stamped-clause-ok
returns-then-stamped-clause-ok c =
    let attr = c.args.attr.now in
    let old = c.args.out.now.items in
    let stamp : List ℕ = to_be_bytes w32 attr.owner ++ to_be_bytes w64 attr.mtime in
    let grouped = regrouped old (to_be_bytes w64 attr.dir) (to_be_bytes w16 attr.mode) (to_be_bytes w64 attr.size) stamp in
    on_ok_weaker c.put_stamp.result (λ written. written ∙ ap (λ (t : List ℕ). t ++ stamp) c.in_ok-put_numbered.ensures.ok ∙ grouped ∙ ap (λ (b : Bool). old ++ attr_spelling b attr) (sym c.if-stamped.true)) c.put_stamp.ensures.ok
