-- Rows that are the entries of a directory: what is noted is a step of the plain rules, and leaves them so.
use Rattle.std.proofs.Common.{◌≡◌, ◌∙◌, sym, ap, subst, refl, ℕ, suc, ◌+◌, Bool, true, false, cond, List, [], ◌∷◌, length, Option, Some, None, is_some, arith, inl, inr, nat_eq}
use Rattle.std.specs.Prelude.{◌⊎◌, map as list_map, MatchOption}
use Rattle.std.specs.declared.cmp.Ordering.TheVariants.{Less, Equal, Greater}
use Rattle.std.specs.List.{AllByRecursion}
use Rattle.std.specs.Ordering.{nat_cmp, is_eq}
use Rattle.std.specs.Cmp.{eq_by_cmp_equiv}
use Rattle.std.specs.Cmp.Lexicographic.{slice_cmp}
use Rattle.std.specs.FinMap as map
use Rattle.std.proofs.lemmas.Cmp.{nat_list_cmp_total}
use Rattle.std.proofs.lemmas.Map.Lookups.{exact_bytes}
use Rattle.mds_base.specs.declared.attr.Attr.{Attr}
use Rattle.mds_base.specs.declared.attr.Stamp.{Stamp}
use Rattle.mds_base.specs.declared.call.Call.{Call}
use Rattle.mds_base.specs.declared.call.Call.TheVariants.{Create, Mkdir, Remove, Lookup, Setattr, Scan, Grab, Load, Link, Seal, Unseal, Kill, Unlink}
use Rattle.mds_base.specs.declared.edit.Edit.{Edit}
use Rattle.mds_base.specs.declared.edit.Edit.TheVariants.{Put}
use Rattle.mds_base.specs.declared.reply.Final.{Final}
use Rattle.mds_base.specs.declared.reply.Final.TheVariants.{Loaded, Created, CreatedDir, Exists, Missing, Removed, IsDir, Set}
use Rattle.mds_base.specs.declared.reply.Reply.TheVariants.{Said}
use Rattle.mds_base.specs.declared.row.Row.{Row}
use Rattle.mds_base.specs.declared.row_key.RowKey.{RowKey}
use Rattle.mds_base.specs.Calls.{OnName, OnDirectory, OnPartition, asked_of, dir_of, dir_on}
use Rattle.mds_base.specs.Entries.{Place, Entries, edited, edited_entry, is_file}
use Rattle.mds_base.specs.PlainRules.{Allows, after, added, with_rows, edit_of}
use Rattle.mds_base.specs.RowKeys.{RowMap, edited_rows}
use Rattle.mds_base.proofs.Places.{edited_apart, edited_here}
use Rattle.partition.specs.declared.edits.RowEdit.{RowEdit}
use Rattle.partition.specs.Rows.{written, edits_of, load_edits}
use Rattle.name_hash.specs.RowPlace.{row_key}
use Rattle.partition.specs.Replies.{IsServed, rows_of, said_of}
use Rattle.partition.specs.Meaning.{Mirrors}
use Rattle.partition.proofs.Rowing.{row_apart, row_here, one_written}

no_tie : (a b : List ℕ) → is_eq (slice_cmp nat_cmp a b) ≡ false → a ≡ b → ⊥
no_tie a b e s = let r : is_eq (slice_cmp nat_cmp a b) ≡ true = subst (λ x. is_eq (slice_cmp nat_cmp a x) ≡ true) s ((eq_by_cmp_equiv nat_list_cmp_total).refl a) in cc

same_name : (a b : List ℕ) → (a ≡ b) ⊎ (a ≡ b → ⊥)
same_name a b =
    elim (slice_cmp nat_cmp a b) as (λ r. slice_cmp nat_cmp a b ≡ r → (a ≡ b) ⊎ (a ≡ b → ⊥)) [
      | Less ↦ λ e. inr (no_tie a b (ap is_eq e))
      | Equal ↦ λ e. inl (exact_bytes a b e)
      | Greater ↦ λ e. inr (no_tie a b (ap is_eq e))
    ] refl

-- ---- an edit on both sides

module _ (within : List ℕ → Bool) (entries : Entries) (dir : ℕ) (rows : RowMap) (number : ℕ) where
  pub mirrors_edit : Mirrors within entries dir rows number → (name : List ℕ) (edit : Edit) → Mirrors within (edited entries (dir, name) edit) dir (edited_rows rows (row_key dir number name) edit) number
  mirrors_edit m name edit = record {
    same = λ q w. elim (same_name q name) [
      | inl e ↦ subst (λ n. within n ≡ true → map.get (edited entries (dir, name) edit) (dir, n) ≡ map.get (edited_rows rows (row_key dir number name) edit) (row_key dir number n)) (sym e)
          (λ v. edited_here entries (dir, name) edit ∙ ap (edited_entry edit) (m.same name v) ∙ sym (row_here rows (row_key dir number name) edit)) w
      | inr e ↦ edited_apart entries (dir, name) edit (dir, q) (λ s. e (ap (λ (p : Place). p.1) s)) ∙ m.same q w ∙ sym (row_apart rows (row_key dir number name) edit (row_key dir number q) (λ s. e (ap (λ (k : RowKey). k.name) s)))
    ];
  }

-- ---- a load

loaded_both : (within : List ℕ → Bool) (entries : Entries) (dir : ℕ) (rows : RowMap) (number : ℕ) (load : List Row) → Mirrors within entries dir rows number → AllByRecursion (λ name. within name ≡ true) (list_map (λ (row : Row). row.name) load)
    → (length (load_edits rows dir number load) ≡ added entries dir load) × Mirrors within (with_rows entries dir load) dir (written rows (load_edits rows dir number load)) number
loaded_both within entries dir rows number [] m all = (refl, m)
loaded_both within entries dir rows number (row ∷ more) m all =
    by (is_some (map.get rows (row_key dir number row.name))) (ap is_some (m.same row.name all.0)) (loaded_both within entries dir rows number more m all.1)
    (loaded_both within (map.insert entries (dir, row.name) row.attr) dir (map.insert rows (row_key dir number row.name) row.attr) number more (mirrors_edit within entries dir rows number m row.name (Put row.attr)) all.1)
  where
    by : (b : Bool) → is_some (map.get entries (dir, row.name)) ≡ b
        → (length (load_edits rows dir number more) ≡ added entries dir more) × Mirrors within (with_rows entries dir more) dir (written rows (load_edits rows dir number more)) number
        → (length (load_edits (map.insert rows (row_key dir number row.name) row.attr) dir number more) ≡ added (map.insert entries (dir, row.name) row.attr) dir more)
        × Mirrors within (with_rows (map.insert entries (dir, row.name) row.attr) dir more) dir (written (map.insert rows (row_key dir number row.name) row.attr) (load_edits (map.insert rows (row_key dir number row.name) row.attr) dir number more)) number
        → (length (cond b (load_edits rows dir number more) ((record { key = row_key dir number row.name; edit = Put row.attr }) ∷ load_edits (map.insert rows (row_key dir number row.name) row.attr) dir number more)) ≡ added entries dir (row ∷ more))
        × Mirrors within (with_rows entries dir (row ∷ more)) dir (written rows (cond b (load_edits rows dir number more) ((record { key = row_key dir number row.name; edit = Put row.attr }) ∷ load_edits (map.insert rows (row_key dir number row.name) row.attr) dir number more))) number
    by true e skipped put = (
      skipped.0 ∙ sym (ap (λ b. cond b (added entries dir more) (added (map.insert entries (dir, row.name) row.attr) dir more + 1)) e),
      subst (λ m. Mirrors within (with_rows m dir more) dir (written rows (load_edits rows dir number more)) number) (sym (ap (λ b. cond b entries (map.insert entries (dir, row.name) row.attr)) e)) skipped.1,
    )
    by false e skipped put = (
      one_more _ _ put.0 ∙ sym (ap (λ b. cond b (added entries dir more) (added (map.insert entries (dir, row.name) row.attr) dir more + 1)) e),
      subst (λ m. Mirrors within (with_rows m dir more) dir (written (map.insert rows (row_key dir number row.name) row.attr) (load_edits (map.insert rows (row_key dir number row.name) row.attr) dir number more)) number)
          (sym (ap (λ b. cond b entries (map.insert entries (dir, row.name) row.attr)) e)) put.1,
    )
      where
        one_more : (n m : ℕ) → n ≡ m → suc n ≡ m + 1
        one_more n m e = omega arith

-- what a load that is no call on a name adds
pub load_plain : (within : List ℕ → Bool) (entries : Entries) (rows : RowMap) (dir number d p : ℕ) (call : Call) → IsServed call → asked_of call ≡ OnPartition d p → dir_of call ≡ dir
    → Mirrors within entries dir rows number → AllByRecursion (λ name. within name ≡ true) (list_map (λ (row : Row). row.name) (rows_of call))
    → Allows entries call (Said (Loaded (length (load_edits rows dir number (rows_of call)))))
    × Mirrors within (after entries call (Said (Loaded (length (load_edits rows dir number (rows_of call)))))) dir (written rows (load_edits rows dir number (rows_of call))) number
load_plain within entries rows dir number d p (Load g load) served asked here m all =
    let r = loaded_both within entries dir rows number load m all in
    subst (λ g. Allows entries (Load g load) (Said (Loaded (length (load_edits rows dir number load)))) × Mirrors within (with_rows entries g load) dir (written rows (load_edits rows dir number load)) number) (sym here) (inl (ap (λ n. Said (Loaded n)) r.0), r.1)
load_plain within entries rows dir number d p (Create g name) served asked here m all = cc
load_plain within entries rows dir number d p (Mkdir g name) served asked here m all = cc
load_plain within entries rows dir number d p (Remove g name) served asked here m all = cc
load_plain within entries rows dir number d p (Lookup g name) served asked here m all = cc
load_plain within entries rows dir number d p (Setattr g name mode size stamp) served asked here m all = cc
load_plain within entries rows dir number d p (Scan g) served asked here m all = absurd served
load_plain within entries rows dir number d p (Grab g name count) served asked here m all = cc
load_plain within entries rows dir number d p (Link g name id) served asked here m all = cc
load_plain within entries rows dir number d p (Seal g part epoch) served asked here m all = absurd served
load_plain within entries rows dir number d p (Unseal g part epoch) served asked here m all = absurd served
load_plain within entries rows dir number d p (Kill g epoch) served asked here m all = absurd served
load_plain within entries rows dir number d p (Unlink g name id) served asked here m all = cc

pub no_directory : (call : Call) (d : ℕ) → IsServed call → asked_of call ≡ OnDirectory d → ⊥
no_directory (Create g name) d served asked = cc
no_directory (Mkdir g name) d served asked = cc
no_directory (Remove g name) d served asked = cc
no_directory (Lookup g name) d served asked = cc
no_directory (Setattr g name mode size stamp) d served asked = cc
no_directory (Scan g) d served asked = served
no_directory (Grab g name count) d served asked = cc
no_directory (Load g rows) d served asked = cc
no_directory (Link g name id) d served asked = cc
no_directory (Seal g part epoch) d served asked = served
no_directory (Unseal g part epoch) d served asked = served
no_directory (Kill g epoch) d served asked = served
no_directory (Unlink g name id) d served asked = cc

-- ---- a call on a name

-- the reply is one that the plain rules allow where this entry stands, and the map is edited at the name
record IsPlain (entries : Entries) (call : Call) (place : Place) (o : Option Attr) (fresh : ℕ) : Type 0 where
  allowed : map.get entries place ≡ o → Allows entries call (Said (said_of call o fresh))
  left : map.get entries place ≡ o → after entries call (Said (said_of call o fresh)) ≡ edited entries place (edit_of call (Said (said_of call o fresh)) o)

module _ (entries : Entries) (g : ℕ) (n : List ℕ) (fresh : ℕ) where
  edit_at : Call → Final → Option Attr → Entries
  edit_at call said x = edited entries (g, n) (edit_of call (Said said) x)

  create_plain : (o : Option Attr) → IsPlain entries (Create g n) (g, n) o fresh
  unfolding edit_at
  create_plain None = record { allowed = λ is. rw is refl; left = ap (edit_at (Create g n) Created) }
  create_plain (Some attr) = record { allowed = λ is. rw is refl; left = ap (edit_at (Create g n) Exists) }

  mkdir_plain : (o : Option Attr) → IsPlain entries (Mkdir g n) (g, n) o fresh
  unfolding edit_at
  mkdir_plain None = record { allowed = λ is. rw is (fresh, refl); left = ap (edit_at (Mkdir g n) (CreatedDir fresh)) }
  mkdir_plain (Some attr) = record { allowed = λ is. rw is refl; left = ap (edit_at (Mkdir g n) Exists) }

  link_plain : (id : ℕ) (o : Option Attr) → IsPlain entries (Link g n id) (g, n) o fresh
  unfolding edit_at
  link_plain id None = record { allowed = λ is. rw is refl; left = ap (edit_at (Link g n id) (CreatedDir id)) }
  link_plain id (Some attr) = record { allowed = λ is. rw is refl; left = ap (edit_at (Link g n id) Exists) }

  remove_plain : (o : Option Attr) → IsPlain entries (Remove g n) (g, n) o fresh
  unfolding edit_at
  remove_plain None = record { allowed = λ is. rw is refl; left = ap (edit_at (Remove g n) Missing) }
  remove_plain (Some attr) = record { allowed = λ is. rw is refl; left = ap (edit_at (Remove g n) (cond (is_file attr) Removed IsDir)) }

  unlink_plain : (id : ℕ) (o : Option Attr) → IsPlain entries (Unlink g n id) (g, n) o fresh
  unfolding edit_at
  unlink_plain id None = record { allowed = λ is. rw is refl; left = ap (edit_at (Unlink g n id) Missing) }
  unlink_plain id (Some attr) = record { allowed = λ is. rw is refl; left = ap (edit_at (Unlink g n id) (cond (nat_eq attr.dir id) Removed Exists)) }

  setattr_plain : (mode size : ℕ) (stamp : Option Stamp) (o : Option Attr) → IsPlain entries (Setattr g n mode size stamp) (g, n) o fresh
  unfolding edit_at
  setattr_plain mode size stamp None = record { allowed = λ is. rw is refl; left = ap (edit_at (Setattr g n mode size stamp) Missing) }
  setattr_plain mode size stamp (Some attr) = record { allowed = λ is. rw is refl; left = ap (edit_at (Setattr g n mode size stamp) Set) }

place_of : (g d : ℕ) (n m : List ℕ) → OnName g n true ≡ OnName d m true → ◌≡◌ {A = Place} (g, n) (d, m)
place_of g d n m e = cc

plain_on : (entries : Entries) (call : Call) (d : ℕ) (name : List ℕ) (fresh : ℕ) (o : Option Attr) → asked_of call ≡ OnName d name true → IsPlain entries call (d, name) o fresh
plain_on entries (Create g n) d name fresh o asked = subst (λ (p : Place). IsPlain entries (Create g n) p o fresh) (place_of g d n name asked) (create_plain entries g n fresh o)
plain_on entries (Mkdir g n) d name fresh o asked = subst (λ (p : Place). IsPlain entries (Mkdir g n) p o fresh) (place_of g d n name asked) (mkdir_plain entries g n fresh o)
plain_on entries (Link g n id) d name fresh o asked = subst (λ (p : Place). IsPlain entries (Link g n id) p o fresh) (place_of g d n name asked) (link_plain entries g n fresh id o)
plain_on entries (Remove g n) d name fresh o asked = subst (λ (p : Place). IsPlain entries (Remove g n) p o fresh) (place_of g d n name asked) (remove_plain entries g n fresh o)
plain_on entries (Unlink g n id) d name fresh o asked = subst (λ (p : Place). IsPlain entries (Unlink g n id) p o fresh) (place_of g d n name asked) (unlink_plain entries g n fresh id o)
plain_on entries (Setattr g n mode size stamp) d name fresh o asked = subst (λ (p : Place). IsPlain entries (Setattr g n mode size stamp) p o fresh) (place_of g d n name asked) (setattr_plain entries g n fresh mode size stamp o)
plain_on entries (Grab g n count) d name fresh o asked = record { allowed = λ is. (fresh, refl); left = λ is. refl }
plain_on entries (Lookup g n) d name fresh o asked = cc
plain_on entries (Scan g) d name fresh o asked = cc
plain_on entries (Load g rows) d name fresh o asked = cc
plain_on entries (Seal g part epoch) d name fresh o asked = cc
plain_on entries (Unseal g part epoch) d name fresh o asked = cc
plain_on entries (Kill g epoch) d name fresh o asked = cc

-- what a change on a name is answered, and what it leaves
pub name_plain : (within : List ℕ → Bool) (entries : Entries) (rows : RowMap) (dir number d : ℕ) (name : List ℕ) (call : Call) (fresh : ℕ) → asked_of call ≡ OnName d name true → dir_of call ≡ dir
    → Mirrors within entries dir rows number → within name ≡ true
    → Allows entries call (Said (said_of call (map.get rows (row_key dir number name)) fresh))
    × Mirrors within (after entries call (Said (said_of call (map.get rows (row_key dir number name)) fresh))) dir
    (written rows (edits_of (row_key dir number name) (edit_of call (Said (said_of call (map.get rows (row_key dir number name)) fresh)) (map.get rows (row_key dir number name))))) number
name_plain within entries rows dir number d name call fresh asked here m own =
    let before = map.get rows (row_key dir number name) in
    let edit = edit_of call (Said (said_of call before fresh)) before in
    let d_is : d ≡ dir = sym (ap dir_on asked) ∙ here in
    let stands : map.get entries (d, name) ≡ before = ap (λ x. map.get entries (x, name)) d_is ∙ m.same name own in
    let p = plain_on entries call d name fresh before asked in
    let left : after entries call (Said (said_of call before fresh)) ≡ edited entries (dir, name) edit = p.left stands ∙ ap (λ x. edited entries (x, name) edit) d_is in (
      p.allowed stands,
      subst (λ e. Mirrors within e dir (written rows (edits_of (row_key dir number name) edit)) number) (sym left)
          (subst (λ r. Mirrors within (edited entries (dir, name) edit) dir r number) (sym (one_written rows (row_key dir number name) edit)) (mirrors_edit within entries dir rows number m name edit)),
    )
