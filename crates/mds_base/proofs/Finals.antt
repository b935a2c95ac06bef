-- Equality of final replies as a test.
use Rattle.std.proofs.Common.{◌≡◌, ◌∙◌, sym, ap, refl, ℕ, ◌==◌, ◌&&◌, true, cond}
use Rattle.std.proofs.lemmas.Bool.{and_parts, and_from, eqb-true, eq-eqb}
use Rattle.mds_base.specs.declared.reply.Final.{Final}
use Rattle.mds_base.specs.declared.reply.Final.TheVariants.{Created, CreatedDir, Exists, Removed, Missing, IsDir, Set, Ids, Loaded, Stale, Sealed, NotEmpty, Late, Opened, Killed}
use Rattle.mds_base.specs.Finals.{final_tag, same_final}

abbrev final_of : ℕ → ℕ → ℕ → Final
final_of t n m = cond (t == 1) Created (cond (t == 2) (CreatedDir n) (cond (t == 3) Exists (cond (t == 4) Removed (cond (t == 5) Missing (cond (t == 6) IsDir (cond (t == 7) Set (cond (t == 8) (Ids n) (cond (t == 9) (Loaded n)
    (cond (t == 10) Stale (cond (t == 11) (Sealed n m) (cond (t == 12) NotEmpty (cond (t == 13) Late (cond (t == 14) Opened Killed)))))))))))))

final_back : (said : Final) → final_of (final_tag said).0 (final_tag said).1 (final_tag said).2 ≡ said
final_back Created = refl
final_back (CreatedDir n) = refl
final_back Exists = refl
final_back Removed = refl
final_back Missing = refl
final_back IsDir = refl
final_back Set = refl
final_back (Ids n) = refl
final_back (Loaded n) = refl
final_back Stale = refl
final_back (Sealed n m) = refl
final_back NotEmpty = refl
final_back Late = refl
final_back Opened = refl
final_back Killed = refl

-- finals of one kind and with the same numbers are one
pub same_finals : (a b : Final) → same_final a b ≡ true → a ≡ b
same_finals a b e =
    let h = and_parts (((final_tag a).0 == (final_tag b).0) && ((final_tag a).1 == (final_tag b).1)) ((final_tag a).2 == (final_tag b).2) e in
    let g = and_parts ((final_tag a).0 == (final_tag b).0) ((final_tag a).1 == (final_tag b).1) h.0 in
    let t = eqb-true (final_tag a).0 (final_tag b).0 g.0 in
    let n = eqb-true (final_tag a).1 (final_tag b).1 g.1 in
    let m = eqb-true (final_tag a).2 (final_tag b).2 h.1 in
    sym (final_back a) ∙ ap (λ x. final_of x (final_tag a).1 (final_tag a).2) t ∙ ap (λ x. final_of (final_tag b).0 x (final_tag a).2) n ∙ ap (final_of (final_tag b).0 (final_tag b).1) m ∙ final_back b

itself : (n : ℕ) → (n == n) ≡ true
itself n = eq-eqb n n refl

pub same_final_self : (said : Final) → same_final said said ≡ true
same_final_self said =
    let t = final_tag said in
    and_from ((t.0 == t.0) && (t.1 == t.1)) (t.2 == t.2) (and_from (t.0 == t.0) (t.1 == t.1) (itself t.0) (itself t.1)) (itself t.2)
