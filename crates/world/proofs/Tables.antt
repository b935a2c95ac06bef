-- The plain rules at the calls that are served: what a change is allowed to answer, what it leaves, and what it gives.
use Rattle.std.proofs.Common.{◌≡◌, refl, ℕ, List, [], ◌∷◌, Option, Some, None, MatchOption, inl, inr, cond}
use Rattle.std.specs.Prelude.{◌⊎◌}
use Rattle.std.specs.FinMap as map
use Rattle.mds_base.specs.declared.attr.Attr.{Attr}
use Rattle.mds_base.specs.declared.attr.Stamp.{Stamp}
use Rattle.mds_base.specs.declared.call.Call.{Call}
use Rattle.mds_base.specs.declared.call.Call.TheVariants.{Create, Mkdir, Remove, Lookup, Setattr}
use Rattle.mds_base.specs.declared.reply.Final.{Final}
use Rattle.mds_base.specs.declared.reply.Final.TheVariants.{Created, CreatedDir, Exists, Removed, Missing, IsDir, Set}
use Rattle.mds_base.specs.declared.reply.Reply.{Reply}
use Rattle.mds_base.specs.declared.reply.Reply.TheVariants.{Said, Found}
use Rattle.mds_base.specs.Entries.{Entries, edited, is_file}
use Rattle.mds_base.specs.PlainRules.{Allows, after, edit_of, given_by}
use Rattle.node_core.specs.Rules.{ChangeOf, LookOf, asked_of, said_of, found}
use Rattle.node_core.proofs.Calls.{each_change, each_look}

pub after_change : (entries : Entries) (call : Call) (said : Final) (dir : ℕ) (name : List ℕ) → asked_of call ≡ ChangeOf dir name
    → after entries call (Said said) ≡ edited entries (dir, name) (edit_of call (Said said) (map.get entries (dir, name)))
after_change entries call said dir name e =
    each_change (λ call dir name. after entries call (Said said) ≡ edited entries (dir, name) (edit_of call (Said said) (map.get entries (dir, name))))
    (λ d n. refl) (λ d n. refl) (λ d n. refl) (λ d n mode size stamp. refl) call dir name e

create_allowed : (d : ℕ) (n : List ℕ) (fresh : ℕ) (o : Option Attr) → MatchOption o (Said (said_of (Create d n) o fresh) ≡ Said Created) (λ _. Said (said_of (Create d n) o fresh) ≡ Said Exists)
create_allowed d n fresh None = refl
create_allowed d n fresh (Some attr) = refl

mkdir_allowed : (d : ℕ) (n : List ℕ) (fresh : ℕ) (o : Option Attr) → MatchOption o ((number : ℕ) × (Said (said_of (Mkdir d n) o fresh) ≡ Said (CreatedDir number))) (λ _. Said (said_of (Mkdir d n) o fresh) ≡ Said Exists)
mkdir_allowed d n fresh None = (fresh, refl)
mkdir_allowed d n fresh (Some attr) = refl

remove_allowed : (d : ℕ) (n : List ℕ) (fresh : ℕ) (o : Option Attr) → MatchOption o (Said (said_of (Remove d n) o fresh) ≡ Said Missing) (λ attr. Said (said_of (Remove d n) o fresh) ≡ Said (cond (is_file attr) Removed IsDir))
remove_allowed d n fresh None = refl
remove_allowed d n fresh (Some attr) = refl

setattr_allowed : (d : ℕ) (n : List ℕ) (mode size : ℕ) (stamp : Option Stamp) (fresh : ℕ) (o : Option Attr) → MatchOption o (Said (said_of (Setattr d n mode size stamp) o fresh) ≡ Said Missing) (λ _. Said (said_of (Setattr d n mode size stamp) o fresh) ≡ Said Set)
setattr_allowed d n mode size stamp fresh None = refl
setattr_allowed d n mode size stamp fresh (Some attr) = refl

-- the reply of a change by the plain rules is one that they allow
pub allowed_change : (entries : Entries) (call : Call) (fresh : ℕ) (dir : ℕ) (name : List ℕ) → asked_of call ≡ ChangeOf dir name
    → Allows entries call (Said (said_of call (map.get entries (dir, name)) fresh))
allowed_change entries call fresh dir name e =
    each_change (λ call dir name. Allows entries call (Said (said_of call (map.get entries (dir, name)) fresh)))
    (λ d n. create_allowed d n fresh (map.get entries (d, n))) (λ d n. mkdir_allowed d n fresh (map.get entries (d, n))) (λ d n. remove_allowed d n fresh (map.get entries (d, n)))
    (λ d n mode size stamp. setattr_allowed d n mode size stamp fresh (map.get entries (d, n))) call dir name e

look_allowed : (o : Option Attr) (until : ℕ) → MatchOption o (found o until ≡ Said Missing) (λ attr. (u : ℕ) × (found o until ≡ Found attr u))
look_allowed None until = refl
look_allowed (Some attr) until = (until, refl)

-- what a lookup finds is what the plain rules allow
pub allowed_look : (entries : Entries) (call : Call) (until : ℕ) (dir : ℕ) (name : List ℕ) → asked_of call ≡ LookOf dir name
    → Allows entries call (found (map.get entries (dir, name)) until)
allowed_look entries call until dir name e =
    each_look (λ call dir name. Allows entries call (found (map.get entries (dir, name)) until)) (λ d n. look_allowed (map.get entries (d, n)) until) call dir name e

pub is_lookup : (call : Call) (dir : ℕ) (name : List ℕ) → asked_of call ≡ LookOf dir name → (d : ℕ) × (n : List ℕ) × (call ≡ Lookup d n)
is_lookup call dir name e = each_look (λ call dir name. (d : ℕ) × (n : List ℕ) × (call ≡ Lookup d n)) (λ d n. (d, n, refl)) call dir name e

-- a lookup leaves the map, and gives no number
pub after_look : (entries : Entries) (call : Call) (reply : Reply) (dir : ℕ) (name : List ℕ) → asked_of call ≡ LookOf dir name → after entries call reply ≡ entries
after_look entries call reply dir name e = each_look (λ call dir name. after entries call reply ≡ entries) (λ d n. refl) call dir name e

pub given_look : (call : Call) (reply : Reply) (dir : ℕ) (name : List ℕ) → asked_of call ≡ LookOf dir name → given_by call reply ≡ []
given_look call reply dir name e = each_look (λ call dir name. given_by call reply ≡ []) (λ d n. refl) call dir name e

mkdir_given : (d : ℕ) (n : List ℕ) (before : Option Attr) (fresh : ℕ)
    → (given_by (Mkdir d n) (Said (said_of (Mkdir d n) before fresh)) ≡ []) ⊎ (given_by (Mkdir d n) (Said (said_of (Mkdir d n) before fresh)) ≡ fresh ∷ [])
mkdir_given d n None fresh = inr refl
mkdir_given d n (Some attr) fresh = inl refl

-- a change gives no number, or the fresh one
pub given_change : (call : Call) (before : Option Attr) (fresh : ℕ) (dir : ℕ) (name : List ℕ) → asked_of call ≡ ChangeOf dir name
    → (given_by call (Said (said_of call before fresh)) ≡ []) ⊎ (given_by call (Said (said_of call before fresh)) ≡ fresh ∷ [])
given_change call before fresh dir name e =
    each_change (λ call dir name. (given_by call (Said (said_of call before fresh)) ≡ []) ⊎ (given_by call (Said (said_of call before fresh)) ≡ fresh ∷ []))
    (λ d n. inl refl) (λ d n. mkdir_given d n before fresh) (λ d n. inl refl) (λ d n mode size stamp. inl refl) call dir name e

-- a change and a lookup are no one call
pub no_look_changes : (call : Call) (dir other_dir : ℕ) (name other : List ℕ) → asked_of call ≡ ChangeOf dir name → asked_of call ≡ LookOf other_dir other → ⊥
no_look_changes call dir other_dir name other e f = cc

-- a change is of one place
pub one_place : (call : Call) (dir other_dir : ℕ) (name other : List ℕ) → asked_of call ≡ ChangeOf dir name → asked_of call ≡ ChangeOf other_dir other → (dir ≡ other_dir) × (name ≡ other)
one_place call dir other_dir name other e f = (cc, cc)
