-- The laws of plain rules and legal histories.
use Rattle.std.proofs.Common.{◌≡◌, ◌∙◌, sym, ap, subst, refl, ℕ, ◌≤◌, List, [], ◌∷◌, ◌++◌, append_assoc, append-nil, Bool, true, false, cond, nat_eq, is_some, is_some}
use Rattle.std.specs.List.{AllByRecursion, IsDistinct}
use Rattle.std.specs.FinMap as map
use Rattle.mds_base.specs.declared.row.Row.{Row}
use Rattle.mds_base.specs.declared.entry.Entry.{Entry}
use Rattle.mds_base.specs.declared.call.Call.{Call}
use Rattle.mds_base.specs.declared.call.Call.TheVariants.{Create, Mkdir, Remove, Lookup, Setattr, Scan, Grab, Load, Link, Seal, Unseal, Kill, Unlink}
use Rattle.mds_base.specs.declared.reply.Final.TheVariants.{Created, CreatedDir, Exists, Removed, Missing, IsDir, Set, Ids, Loaded, Stale, Sealed, NotEmpty, Late, Opened, Killed}
use Rattle.mds_base.specs.declared.reply.Reply.{Reply}
use Rattle.mds_base.specs.declared.reply.Reply.TheVariants.{Said, Found, Listed}
use Rattle.mds_base.specs.Entries.{Place, Entries}
use Rattle.mds_base.specs.PlainRules.{Allows, after, with_rows, places_in, places_of, given_by}
use Rattle.mds_base.specs.History.{IsLegal, IsLookup, Spares, EachAllowed, given, map_after}
use Rattle.mds_base.proofs.Lists.{all_front, all_both, all_rest, distinct_front, distinct_rest}
use Rattle.mds_base.proofs.Maps.{insert_apart}
use Rattle.mds_base.proofs.Places.{edited_apart, places_total, exact_places}

-- Fronts

pub leads_on : (start : Entries) (front rest : List Entry) → map_after start (front ++ rest) ≡ map_after (map_after start front) rest
leads_on start [] rest = refl
leads_on start (entry ∷ front) rest = leads_on (after start entry.call entry.reply) front rest

pub given-append : (front rest : List Entry) → given (front ++ rest) ≡ given front ++ given rest
given-append [] rest = refl
given-append (entry ∷ front) rest = ap (λ ns. given_by entry.call entry.reply ++ ns) (given-append front rest) ∙ sym (append_assoc (given_by entry.call entry.reply) (given front) (given rest))

pub given_more : (history : List Entry) (entry : Entry) → given (history ++ entry ∷ []) ≡ given history ++ given_by entry.call entry.reply
given_more history entry = given-append history (entry ∷ []) ∙ ap (λ ns. given history ++ ns) (append-nil (given_by entry.call entry.reply))

allowed_front : (start : Entries) (front rest : List Entry) → EachAllowed start (front ++ rest) → EachAllowed start front
allowed_front start [] rest all = tt
allowed_front start (entry ∷ front) rest all = (all.0, allowed_front (after start entry.call entry.reply) front rest all.1)

allowed_rest : (start : Entries) (front rest : List Entry) → EachAllowed start (front ++ rest) → EachAllowed (map_after start front) rest
allowed_rest start [] rest all = all
allowed_rest start (entry ∷ front) rest all = allowed_rest (after start entry.call entry.reply) front rest all.1

pub allowed_both : (start : Entries) (front rest : List Entry) → EachAllowed start front → EachAllowed (map_after start front) rest → EachAllowed start (front ++ rest)
allowed_both start [] rest all more = more
allowed_both start (entry ∷ front) rest all more = (all.0, allowed_both (after start entry.call entry.reply) front rest all.1 more)

pub legal_front : (start : Entries) (front rest : List Entry) → IsLegal start (front ++ rest) → IsLegal start front
legal_front start front rest legal = record {
  allowed = allowed_front start front rest legal.allowed;
  from_two = all_front _ (given front) (given rest) (subst (AllByRecursion (λ n. 2 ≤ n)) (given-append front rest) legal.from_two);
  once = distinct_front (given front) (given rest) (subst (IsDistinct nat_eq) (given-append front rest) legal.once);
}

pub legal_rest : (start : Entries) (front rest : List Entry) → IsLegal start (front ++ rest) → IsLegal (map_after start front) rest
legal_rest start front rest legal = record {
  allowed = allowed_rest start front rest legal.allowed;
  from_two = all_rest _ (given front) (given rest) (subst (AllByRecursion (λ n. 2 ≤ n)) (given-append front rest) legal.from_two);
  once = distinct_rest (given front) (given rest) (subst (IsDistinct nat_eq) (given-append front rest) legal.once);
}

-- What no entry speaks of

row_spares : (entries : Entries) (dir : ℕ) (row : Row) (place : Place) → (place ≡ (dir, row.name) → ⊥) → (b : Bool) → map.get (cond b entries (map.insert entries (dir, row.name) row.attr)) place ≡ map.get entries place
row_spares entries dir row place differ true = refl
row_spares entries dir row place differ false = insert_apart places_total exact_places entries (dir, row.name) row.attr place differ

rows_spare : (rows : List Row) (entries : Entries) (dir : ℕ) (place : Place) → AllByRecursion (λ other. place ≡ other → ⊥) (places_in dir rows) → map.get (with_rows entries dir rows) place ≡ map.get entries place
rows_spare [] entries dir place spared = refl
rows_spare (row ∷ rows) entries dir place spared = rows_spare rows _ dir place spared.1 ∙ row_spares entries dir row place spared.0 (is_some (map.get entries (dir, row.name)))

load_spares : (entries : Entries) (dir : ℕ) (rows : List Row) (reply : Reply) (place : Place) → AllByRecursion (λ other. place ≡ other → ⊥) (places_of (Load dir rows) reply) → map.get (after entries (Load dir rows) reply) place ≡ map.get entries place
load_spares entries dir rows (Said (Loaded number)) place spared = rows_spare rows entries dir place spared
load_spares entries dir rows (Said Created) place spared = refl
load_spares entries dir rows (Said (CreatedDir number)) place spared = refl
load_spares entries dir rows (Said Exists) place spared = refl
load_spares entries dir rows (Said Removed) place spared = refl
load_spares entries dir rows (Said Missing) place spared = refl
load_spares entries dir rows (Said IsDir) place spared = refl
load_spares entries dir rows (Said Set) place spared = refl
load_spares entries dir rows (Said (Ids number)) place spared = refl
load_spares entries dir rows (Said Stale) place spared = refl
load_spares entries dir rows (Said (Sealed depth epoch)) place spared = refl
load_spares entries dir rows (Said NotEmpty) place spared = refl
load_spares entries dir rows (Said Late) place spared = refl
load_spares entries dir rows (Said Opened) place spared = refl
load_spares entries dir rows (Said Killed) place spared = refl
load_spares entries dir rows (Found attr until) place spared = refl
load_spares entries dir rows (Listed listed) place spared = refl

pub step_spares : (entries : Entries) (call : Call) (reply : Reply) (place : Place) → AllByRecursion (λ other. place ≡ other → ⊥) (places_of call reply) → map.get (after entries call reply) place ≡ map.get entries place
step_spares entries (Create dir name) reply place spared = edited_apart entries (dir, name) _ place spared.0
step_spares entries (Mkdir dir name) reply place spared = edited_apart entries (dir, name) _ place spared.0
step_spares entries (Link dir name id) reply place spared = edited_apart entries (dir, name) _ place spared.0
step_spares entries (Remove dir name) reply place spared = edited_apart entries (dir, name) _ place spared.0
step_spares entries (Setattr dir name mode size stamp) reply place spared = edited_apart entries (dir, name) _ place spared.0
step_spares entries (Unlink dir name id) reply place spared = edited_apart entries (dir, name) _ place spared.0
step_spares entries (Lookup dir name) reply place spared = refl
step_spares entries (Grab dir name count) reply place spared = refl
step_spares entries (Scan dir) reply place spared = refl
step_spares entries (Seal dir part epoch) reply place spared = refl
step_spares entries (Unseal dir part epoch) reply place spared = refl
step_spares entries (Kill dir epoch) reply place spared = refl
step_spares entries (Load dir rows) reply place spared = load_spares entries dir rows reply place spared

pub history_spares : (start : Entries) (history : List Entry) (place : Place) → Spares place history → map.get (map_after start history) place ≡ map.get start place
history_spares start [] place spared = refl
history_spares start (entry ∷ more) place spared = history_spares (after start entry.call entry.reply) more place spared.1 ∙ step_spares start entry.call entry.reply place spared.0

-- Lookups

lookup_leaves : (start : Entries) (call : Call) (reply : Reply) (dir : ℕ) (name : List ℕ) → call ≡ Lookup dir name → after start call reply ≡ start
lookup_leaves start call reply dir name is = subst (λ c. after start c reply ≡ start) (sym is) refl

lookup_gives : (call : Call) (reply : Reply) (dir : ℕ) (name : List ℕ) → call ≡ Lookup dir name → given_by call reply ≡ []
lookup_gives call reply dir name is = subst (λ c. given_by c reply ≡ []) (sym is) refl

pub dropped_end : (start : Entries) (front rest : List Entry) (entry : Entry) → IsLookup entry → map_after start (front ++ entry ∷ rest) ≡ map_after start (front ++ rest)
dropped_end start [] rest entry looks = ap (λ m. map_after m rest) (lookup_leaves start entry.call entry.reply looks.0 looks.1 looks.2)
dropped_end start (first ∷ front) rest entry looks = dropped_end (after start first.call first.reply) front rest entry looks

dropped_allowed : (start : Entries) (front rest : List Entry) (entry : Entry) → IsLookup entry → EachAllowed start (front ++ entry ∷ rest) → EachAllowed start (front ++ rest)
dropped_allowed start [] rest entry looks all = subst (λ m. EachAllowed m rest) (lookup_leaves start entry.call entry.reply looks.0 looks.1 looks.2) all.1
dropped_allowed start (first ∷ front) rest entry looks all = (all.0, dropped_allowed (after start first.call first.reply) front rest entry looks all.1)

dropped_given : (front rest : List Entry) (entry : Entry) → IsLookup entry → given (front ++ entry ∷ rest) ≡ given (front ++ rest)
dropped_given [] rest entry looks = ap (λ ns. ns ++ given rest) (lookup_gives entry.call entry.reply looks.0 looks.1 looks.2)
dropped_given (first ∷ front) rest entry looks = ap (λ ns. given_by first.call first.reply ++ ns) (dropped_given front rest entry looks)

pub dropped_legal : (start : Entries) (front rest : List Entry) (entry : Entry) → IsLookup entry → IsLegal start (front ++ entry ∷ rest) → IsLegal start (front ++ rest)
dropped_legal start front rest entry looks legal = record {
  allowed = dropped_allowed start front rest entry looks legal.allowed;
  from_two = subst (AllByRecursion (λ n. 2 ≤ n)) (dropped_given front rest entry looks) legal.from_two;
  once = subst (IsDistinct nat_eq) (dropped_given front rest entry looks) legal.once;
}

-- One entry more

pub one_more : (start : Entries) (history : List Entry) (entry : Entry) → IsLegal start history → Allows (map_after start history) entry.call entry.reply
    → AllByRecursion (λ number. 2 ≤ number) (given_by entry.call entry.reply) → IsDistinct nat_eq (given history ++ given_by entry.call entry.reply) → IsLegal start (history ++ entry ∷ [])
one_more start history entry legal allowed from_two once = record {
  allowed = allowed_both start history (entry ∷ []) legal.allowed (allowed, tt);
  from_two = subst (AllByRecursion (λ n. 2 ≤ n)) (sym (given_more history entry)) (all_both _ (given history) (given_by entry.call entry.reply) legal.from_two from_two);
  once = subst (IsDistinct nat_eq) (sym (given_more history entry)) once;
}

pub more_legal : (start : Entries) (history : List Entry) (entry : Entry) → IsLegal start (history ++ entry ∷ []) → Allows (map_after start history) entry.call entry.reply
more_legal start history entry legal = (allowed_rest start history (entry ∷ []) legal.allowed).0
