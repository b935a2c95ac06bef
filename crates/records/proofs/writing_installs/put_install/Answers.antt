use Rattle.std.proofs.Common.{◌≡◌, ◌∙◌, sym, ap, subst, List, ℕ, Bool, [], ◌∷◌, ◌++◌, append_assoc, arith}
use Rattle.std.specs.Int.{w32, w64, to_be_bytes}
use Rattle.std.proofs.lemmas.Result.{on_ok_weaker}
use Rattle.std.specs.List.{AllByRecursion}
use Rattle.records.specs.Rows.{IsRow, rows_spelling}
use Rattle.records.specs.Installs.{bitmap_spelling, sessions_spelling}
use Rattle.records.specs.Spelling.{install_kind}
use Rattle.records.proofs.Sessions.{room, each_session}
use Rattle.records.proofs.writing_installs.put_install.Goals as goal

-- the parts of an Install, one after another, are its spelling
regrouped : (kind depth : ℕ) (old dir part bitmap sessions rows : List ℕ) → (((old ++ kind ∷ (dir ++ (part ++ depth ∷ []))) ++ bitmap) ++ sessions) ++ rows ≡ old ++ kind ∷ (dir ++ (part ++ (depth ∷ (bitmap ++ (sessions ++ rows)))))
regrouped kind depth old dir part bitmap sessions rows = simp append_assoc

pub put_sessions-requires : goal.put_sessions-requires
put_sessions-requires c = let few = room 1 c.args.sessions.now (omega arith) c.requires.clients in record { few = omega arith; each = each_session 1 c.args.sessions.now c.requires.clients }

pub put_rows-requires : goal.put_rows-requires
put_rows-requires c = record { few = c.requires.few; each = subst (λ (b : Bool). AllByRecursion (IsRow b) c.args.rows.now) (sym c.some_stamped-stamped.ensures) c.requires.each }

pub returns-clause-ok : goal.returns-clause-ok
returns-clause-ok c =
    let dir : List ℕ = to_be_bytes w64 c.args.dir in
    let part : List ℕ = to_be_bytes w32 c.args.part in
    let bits : List ℕ = bitmap_spelling c.args.bitmap.now in
    let sessions : List ℕ = sessions_spelling c.args.sessions.now in
    let old : List ℕ = c.args.out.now.items in
    let kind : ℕ = c.install_kind.result in
    let stamped : Bool = c.some_stamped-stamped.result in
    let rows : List ℕ = rows_spelling stamped c.args.rows.now in
    let first = c.in_ok-put_bitmap.ensures.ok ∙ ap (λ (t : List ℕ). t ++ bits) c.in_ok-put_split.ensures.ok in
    let second = c.in_ok-put_sessions.ensures.ok ∙ ap (λ (t : List ℕ). t ++ sessions) first in
    let kind_is = ap (λ (k : ℕ). old ++ k ∷ (dir ++ (part ++ (c.args.depth ∷ (bits ++ (sessions ++ rows)))))) c.install_kind.ensures in
    let stamped_is = ap (λ (b : Bool). old ++ install_kind b ∷ (dir ++ (part ++ (c.args.depth ∷ (bits ++ (sessions ++ rows_spelling b c.args.rows.now)))))) c.some_stamped-stamped.ensures in
    on_ok_weaker c.put_rows.result (λ written. written ∙ ap (λ (t : List ℕ). t ++ rows) second ∙ regrouped kind c.args.depth old dir part bits sessions rows ∙ kind_is ∙ stamped_is) c.put_rows.ensures.ok
