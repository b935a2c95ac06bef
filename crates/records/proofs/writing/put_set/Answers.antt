use Rattle.std.proofs.Common.{◌≡◌, ◌∙◌, sym, ap, List, ℕ, ◌∷◌, ◌++◌, Option, append_assoc}
use Rattle.std.specs.Int.{w16, w32, w64, to_be_bytes}
use Rattle.std.proofs.lemmas.Result.{on_ok_weaker}
use Rattle.mds_base.specs.declared.attr.Stamp.{Stamp}
use Rattle.mds_base.specs.declared.call.Call.TheVariants.{Setattr}
use Rattle.records.specs.declared.kinds.TheConstants.{CALL_STAMP}
use Rattle.records.specs.Rows.{name_spelling}
use Rattle.records.specs.Spelling.{call_spelling}
use Rattle.records.proofs.writing.put_set.Goals as goal

-- the parts of a call with a stamp, one after another, are its spelling
regrouped : (kind : ℕ) (old dir name mode rest : List ℕ) → ((old ++ kind ∷ (dir ++ name)) ++ mode) ++ rest ≡ old ++ kind ∷ (dir ++ (name ++ (mode ++ rest)))
regrouped kind old dir name mode rest = simp append_assoc

pub returns-in_ok-put_u16-in-Some-clause-ok : goal.returns-in_ok-put_u16-in-Some-clause-ok
returns-in_ok-put_u16-in-Some-clause-ok c =
    let s = c.in-Some in
    let rest : List ℕ = to_be_bytes w64 c.args.size ++ (to_be_bytes w32 s.stamp.owner ++ to_be_bytes w64 s.stamp.mtime) in
    let start = c.in_ok-put_start-in-Some.ensures.ok in
    let mode = c.in_ok-put_u16-in-Some.ensures.ok in
    let before = mode ∙ ap (λ (t : List ℕ). t ++ to_be_bytes w16 c.args.mode) start in
    let grouped = regrouped CALL_STAMP c.args.out.now.items (to_be_bytes w64 c.args.dir) (name_spelling c.args.name.now) (to_be_bytes w16 c.args.mode) rest in
    let stamped = ap (λ (stamp : Option Stamp). c.args.out.now.items ++ call_spelling (Setattr c.args.dir c.args.name.now c.args.mode c.args.size stamp)) (sym s.is) in
    on_ok_weaker c.put_stamped.result (λ written. written ∙ ap (λ (t : List ℕ). t ++ rest) before ∙ grouped ∙ stamped) c.put_stamped.ensures.ok
