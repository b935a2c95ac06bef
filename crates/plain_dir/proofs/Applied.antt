-- That the plain directory's reply is one that the plain rules allow; which directories have an entry; loads undone.
use Rattle.std.proofs.Common.{◌≡◌, ◌∙◌, sym, ap, subst, refl, ℕ, List, [], ◌∷◌, Bool, true, false, cond, Option, Some, None, is_some, MatchOption, MatchBool, inl, inr}
use Rattle.std.specs.Prelude.{◌==◌, ◌||◌}
use Rattle.std.specs.List.{list_any}
use Rattle.std.specs.FinMap as map
use Rattle.std.specs.Map.{lookup, keys_of}
use Rattle.std.specs.BTreeMap.{is_at}
use Rattle.std.proofs.lemmas.Bool.{true≢false, or_parts, eqb-true, eq-eqb}
use Rattle.std.specs.declared.cmp.Ordering.{Ordering}
use Rattle.std.specs.declared.cmp.Ordering.TheVariants.{Less, Equal, Greater}
use Rattle.std.specs.Ordering.{eq_by_cmp, is_eq}
use Rattle.std.specs.Cmp.{eq_by_cmp_equiv}
use Rattle.std.proofs.lemmas.Option.{none-some}
use Rattle.mds_base.specs.declared.attr.Attr.{Attr}
use Rattle.mds_base.specs.declared.call.Call.{Call}
use Rattle.mds_base.specs.declared.call.Call.TheVariants.{Create, Mkdir, Remove, Lookup, Setattr, Scan, Grab, Load, Link, Seal, Unseal, Kill, Unlink}
use Rattle.mds_base.specs.declared.reply.Final.TheVariants.{Created, CreatedDir, Exists, Removed, Missing, IsDir, Set}
use Rattle.mds_base.specs.declared.reply.Reply.{Reply}
use Rattle.mds_base.specs.declared.reply.Reply.TheVariants.{Said, Found}
use Rattle.mds_base.specs.Entries.{Place, place_cmp, Entries, is_file}
use Rattle.mds_base.specs.PlainRules.{Allows, HasEntry, HasNoEntry}
use Rattle.mds_base.proofs.Maps.{get_entries, apart}
use Rattle.mds_base.proofs.Places.{places_total, exact_places, same_entries}
use Rattle.plain_dir.specs.Served.{made, removed, unlinked, set, found, IsPlainReply}

-- ---- replies

create_allowed : (before : Option Attr) (reply : Reply) → reply ≡ Said (made before Created) → MatchOption before (reply ≡ Said Created) (λ _. reply ≡ Said Exists)
create_allowed None reply is = is
create_allowed (Some attr) reply is = is

mkdir_allowed : (before : Option Attr) (fresh : ℕ) (reply : Reply) → reply ≡ Said (made before (CreatedDir fresh)) → MatchOption before ((number : ℕ) × (reply ≡ Said (CreatedDir number))) (λ _. reply ≡ Said Exists)
mkdir_allowed None fresh reply is = (fresh, is)
mkdir_allowed (Some attr) fresh reply is = is

link_allowed : (before : Option Attr) (number : ℕ) (reply : Reply) → reply ≡ Said (made before (CreatedDir number)) → MatchOption before (reply ≡ Said (CreatedDir number)) (λ _. reply ≡ Said Exists)
link_allowed None number reply is = is
link_allowed (Some attr) number reply is = is

remove_allowed : (before : Option Attr) (reply : Reply) → reply ≡ Said (removed before) → MatchOption before (reply ≡ Said Missing) (λ attr. reply ≡ Said (cond (is_file attr) Removed IsDir))
remove_allowed None reply is = is
remove_allowed (Some attr) reply is = is

unlink_allowed : (before : Option Attr) (id : ℕ) (reply : Reply) → reply ≡ Said (unlinked before id) → MatchOption before (reply ≡ Said Missing) (λ attr. reply ≡ Said (cond (attr.dir == id) Removed Exists))
unlink_allowed None id reply is = is
unlink_allowed (Some attr) id reply is = is

set_allowed : (before : Option Attr) (reply : Reply) → reply ≡ Said (set before) → MatchOption before (reply ≡ Said Missing) (λ _. reply ≡ Said Set)
set_allowed None reply is = is
set_allowed (Some attr) reply is = is

found_allowed : (before : Option Attr) (reply : Reply) → reply ≡ found before → MatchOption before (reply ≡ Said Missing) (λ attr. (until : ℕ) × (reply ≡ Found attr until))
found_allowed None reply is = is
found_allowed (Some attr) reply is = (0, is)

-- what a plain directory answers is allowed
pub allowed : (entries : Entries) (call : Call) (fresh : ℕ) (reply : Reply) → IsPlainReply entries call fresh reply → Allows entries call reply
allowed entries (Create dir name) fresh reply is = create_allowed (map.get entries (dir, name)) reply is
allowed entries (Mkdir dir name) fresh reply is = mkdir_allowed (map.get entries (dir, name)) fresh reply is
allowed entries (Link dir name number) fresh reply is = link_allowed (map.get entries (dir, name)) number reply is
allowed entries (Remove dir name) fresh reply is = remove_allowed (map.get entries (dir, name)) reply is
allowed entries (Setattr dir name mode size stamp) fresh reply is = set_allowed (map.get entries (dir, name)) reply is
allowed entries (Lookup dir name) fresh reply is = found_allowed (map.get entries (dir, name)) reply is
allowed entries (Grab dir name count) fresh reply is = (fresh, is)
allowed entries (Load dir rows) fresh reply is = inl is
allowed entries (Scan dir) fresh reply is = absurd is
allowed entries (Seal dir part epoch) fresh reply (inl full) = subst (λ r. Allows entries (Seal dir part epoch) r) (sym full.0) full.1
allowed entries (Seal dir part epoch) fresh reply (inr none) = subst (λ r. Allows entries (Seal dir part epoch) r) (sym none.0) tt
allowed entries (Unseal dir part epoch) fresh reply is = inl is
allowed entries (Kill dir epoch) fresh reply (inl full) = inr full.0
allowed entries (Kill dir epoch) fresh reply (inr none) = inl none
allowed entries (Unlink dir name id) fresh reply is = unlink_allowed (map.get entries (dir, name)) id reply is

-- ---- entries of a directory

-- an entry of the directory that a search finds
record Stands (dir : ℕ) (es : List (Place × Attr)) : Type 0 where
  name : List ℕ
  attr : Attr
  is : lookup (is_at (place_cmp (dir, name))) es ≡ Some attr

passed : (dir : ℕ) (e : Place × Attr) (es : List (Place × Attr)) → Stands dir es → Stands dir (e ∷ es)
passed dir e es s = by (is_at (place_cmp (dir, s.name)) e.0) refl
  where
    by : (t : Bool) → is_at (place_cmp (dir, s.name)) e.0 ≡ t → Stands dir (e ∷ es)
    by true is = record { name = s.name; attr = e.1; is = ap (λ t. cond t (Some e.1) (lookup (is_at (place_cmp (dir, s.name))) es)) is }
    by false is = record { name = s.name; attr = s.attr; is = ap (λ t. cond t (Some e.1) (lookup (is_at (place_cmp (dir, s.name))) es)) is ∙ s.is }

here : (dir : ℕ) (e : Place × Attr) (es : List (Place × Attr)) → e.0.0 ≡ dir → Stands dir (e ∷ es)
here dir e es same = record {
  name = e.0.1;
  attr = e.1;
  is = ap (λ t. cond t (Some e.1) (lookup (is_at (place_cmp (dir, e.0.1))) es)) (subst (λ d. is_at (place_cmp (d, e.0.1)) e.0 ≡ true) same ((eq_by_cmp_equiv places_total).refl e.0));
}

stands : (dir : ℕ) (es : List (Place × Attr)) → list_any (λ (p : Place). p.0 == dir) (keys_of es) ≡ true → Stands dir es
stands dir [] any = absurd (true≢false (sym any))
stands dir (e ∷ es) any = by (e.0.0 == dir) refl (stands dir es)
  where
    by : (t : Bool) → (e.0.0 == dir) ≡ t → (list_any (λ (p : Place). p.0 == dir) (keys_of es) ≡ true → Stands dir es) → Stands dir (e ∷ es)
    by true is later = here dir e es (eqb-true e.0.0 dir is)
    by false is later = passed dir e es (later (ap (λ t. t || list_any (λ (p : Place). p.0 == dir) (keys_of es)) (sym is) ∙ any))

nowhere : (dir : ℕ) (es : List (Place × Attr)) → list_any (λ (p : Place). p.0 == dir) (keys_of es) ≡ false → (name : List ℕ) → lookup (is_at (place_cmp (dir, name))) es ≡ None
nowhere dir [] none name = refl
nowhere dir (e ∷ es) none name =
    let parts = or_parts (e.0.0 == dir) (list_any (λ (p : Place). p.0 == dir) (keys_of es)) none in
    ap (λ t. cond t (Some e.1) (lookup (is_at (place_cmp (dir, name))) es)) (apart exact_places (dir, name) e.0 (λ same. true≢false (sym (eq-eqb e.0.0 dir (ap (λ (p : Place). p.0) (sym same))) ∙ parts.0)))
    ∙ nowhere dir es parts.1 name

pub has_by : (es : List (Place × Attr)) (entries : Entries) (dir : ℕ) (t : Bool) → map.from_entries es ≡ entries → t ≡ list_any (λ (p : Place). p.0 == dir) (keys_of es) → MatchBool t (HasEntry entries dir) (HasNoEntry entries dir)
has_by es entries dir true is any =
    let s = stands dir es (sym any) in
    subst (λ m. HasEntry m dir) is (s.name, s.attr, get_entries places_total exact_places es (dir, s.name) ∙ s.is)
has_by es entries dir false is any =
    subst (λ m. HasNoEntry m dir) is (λ name. get_entries places_total exact_places es (dir, name) ∙ nowhere dir es (sym any) name)

-- ---- a row that is added and taken back

tied : (q k : Place) → eq_by_cmp place_cmp q k ≡ true → q ≡ k
tied q k is = by (place_cmp q k) refl
  where
    by : (r : Ordering) → place_cmp q k ≡ r → q ≡ k
    by Less e = absurd (true≢false (sym (subst (λ r. is_eq r ≡ true) e is)))
    by Equal e = exact_places q k e
    by Greater e = absurd (true≢false (sym (subst (λ r. is_eq r ≡ true) e is)))

pub undone : (entries : Entries) (place : Place) (attr : Attr) → map.get entries place ≡ None → map.remove (map.insert entries place attr) place ≡ entries
undone entries place attr none = same_entries (map.remove (map.insert entries place attr) place) entries (λ q.
    map.get-remove places_total (map.insert entries place attr) place q
    ∙ ap (λ o. cond (eq_by_cmp place_cmp q place) None o) (map.get-insert places_total entries place attr q)
    ∙ by q (eq_by_cmp place_cmp q place) refl)
  where
    by : (q : Place) (t : Bool) → eq_by_cmp place_cmp q place ≡ t → cond t None (cond t (Some attr) (map.get entries q)) ≡ map.get entries q
    by q true is = sym (ap (λ (k : Place). map.get entries k) (tied q place is) ∙ none)
    by q false is = refl

none_of : (o : Option Attr) (t : Bool) → t ≡ is_some o → t ≡ false → o ≡ None
none_of None t test absent = refl
none_of (Some attr) t test absent = absurd (true≢false (sym test ∙ absent))

-- a row is put, the rest is refused, and the row is taken back
pub taken_back : (old put loaded back : Entries) (place again : Place) (attr : Attr) (got : Option Attr) (t : Bool) → put ≡ map.insert old place attr → loaded ≡ put → back ≡ map.remove loaded again → again ≡ place → got ≡ map.get old place → t ≡ is_some got → t ≡ false → back ≡ old
taken_back old put loaded back place again attr got t first second third same find test absent =
    third ∙ (λ i. map.remove ((second ∙ first) i) (same i)) ∙ undone old place attr (sym find ∙ none_of got t test absent)

pub not_both : (entries : Entries) (dir : ℕ) → HasEntry entries dir → HasNoEntry entries dir → ⊥
not_both entries dir some none = none-some some.1 (sym (none some.0) ∙ some.2)
