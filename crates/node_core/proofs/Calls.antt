-- The calls that are served, by cases: what is shown of each of these holds of each call that asks for something.
use Rattle.std.proofs.Common.{◌≡◌, subst, refl, ℕ, ◌<◌, Bool, true, false, List, length, Option}
use Rattle.std.specs.Prelude.{nat_le, nat_lt}
use Rattle.std.proofs.lemmas.Bool.{and_parts, ltb-true}
use Rattle.mds_base.specs.declared.limits.TheConstants.{DIRECTORIES, EPOCHS, GRAB_MOST, LOAD_MOST}
use Rattle.mds_base.specs.declared.attr.Stamp.{Stamp}
use Rattle.mds_base.specs.declared.call.Call.{Call}
use Rattle.mds_base.specs.declared.call.Call.TheVariants.{Create, Mkdir, Remove, Lookup, Setattr, Scan, Grab, Load, Link, Seal, Unseal, Kill, Unlink}
use Rattle.mds_base.specs.Calls.{CallOn, OnName, OnDirectory, OnPartition, dir_on, dir_of, is_directory, is_well_made}
use Rattle.mds_base.specs.Calls.{asked_of as call_on}
use Rattle.node_core.specs.Rules.{Asked, ChangeOf, LookOf, NotServed, is_served, asked_on, asked_of}

pub each_served : (Q : Call → Type 0) → ((dir : ℕ) (name : List ℕ) → Q (Create dir name)) → ((dir : ℕ) (name : List ℕ) → Q (Mkdir dir name)) → ((dir : ℕ) (name : List ℕ) → Q (Remove dir name))
    → ((dir : ℕ) (name : List ℕ) (mode size : ℕ) (stamp : Option Stamp) → Q (Setattr dir name mode size stamp)) → ((dir : ℕ) (name : List ℕ) → Q (Lookup dir name)) → (call : Call) → is_served call ≡ true → Q call
each_served Q create mkdir remove setattr lookup (Create dir name) served = create dir name
each_served Q create mkdir remove setattr lookup (Mkdir dir name) served = mkdir dir name
each_served Q create mkdir remove setattr lookup (Remove dir name) served = remove dir name
each_served Q create mkdir remove setattr lookup (Setattr dir name mode size stamp) served = setattr dir name mode size stamp
each_served Q create mkdir remove setattr lookup (Lookup dir name) served = lookup dir name
each_served Q create mkdir remove setattr lookup (Scan dir) served = cc
each_served Q create mkdir remove setattr lookup (Grab dir name count) served = cc
each_served Q create mkdir remove setattr lookup (Load dir rows) served = cc
each_served Q create mkdir remove setattr lookup (Link dir name id) served = cc
each_served Q create mkdir remove setattr lookup (Seal dir part epoch) served = cc
each_served Q create mkdir remove setattr lookup (Unseal dir part epoch) served = cc
each_served Q create mkdir remove setattr lookup (Kill dir epoch) served = cc
each_served Q create mkdir remove setattr lookup (Unlink dir name id) served = cc

-- ---- by what a call asks for

change_served : (served : Bool) (on : CallOn) (dir : ℕ) (name : List ℕ) → asked_on served on ≡ ChangeOf dir name → served ≡ true
change_served true on dir name e = refl
change_served false on dir name e = cc

look_served : (served : Bool) (on : CallOn) (dir : ℕ) (name : List ℕ) → asked_on served on ≡ LookOf dir name → served ≡ true
look_served true on dir name e = refl
look_served false on dir name e = cc

at_change : (Q : ℕ → List ℕ → Type 0) (d : ℕ) (n : List ℕ) (dir : ℕ) (name : List ℕ) → ChangeOf d n ≡ ChangeOf dir name → Q d n → Q dir name
at_change Q d n dir name e q =
    let dir_is : d ≡ dir = cc in
    let name_is : n ≡ name = cc in
    subst (λ x. Q x name) dir_is (subst (Q d) name_is q)

at_look : (Q : ℕ → List ℕ → Type 0) (d : ℕ) (n : List ℕ) (dir : ℕ) (name : List ℕ) → LookOf d n ≡ LookOf dir name → Q d n → Q dir name
at_look Q d n dir name e q =
    let dir_is : d ≡ dir = cc in
    let name_is : n ≡ name = cc in
    subst (λ x. Q x name) dir_is (subst (Q d) name_is q)

module _ (P : Call → ℕ → List ℕ → Type 0) where
  pub each_change : ((dir : ℕ) (name : List ℕ) → P (Create dir name) dir name) → ((dir : ℕ) (name : List ℕ) → P (Mkdir dir name) dir name) → ((dir : ℕ) (name : List ℕ) → P (Remove dir name) dir name)
      → ((dir : ℕ) (name : List ℕ) (mode size : ℕ) (stamp : Option Stamp) → P (Setattr dir name mode size stamp) dir name) → (call : Call) (dir : ℕ) (name : List ℕ) → asked_of call ≡ ChangeOf dir name → P call dir name
  each_change create mkdir remove setattr call dir name e =
      each_served (λ call. asked_of call ≡ ChangeOf dir name → P call dir name)
      (λ d n same. at_change (P (Create d n)) d n dir name same (create d n))
      (λ d n same. at_change (P (Mkdir d n)) d n dir name same (mkdir d n))
      (λ d n same. at_change (P (Remove d n)) d n dir name same (remove d n))
      (λ d n mode size stamp same. at_change (P (Setattr d n mode size stamp)) d n dir name same (setattr d n mode size stamp))
      (λ d n same. cc)
      call (change_served (is_served call) (call_on call) dir name e) e

  pub each_look : ((dir : ℕ) (name : List ℕ) → P (Lookup dir name) dir name) → (call : Call) (dir : ℕ) (name : List ℕ) → asked_of call ≡ LookOf dir name → P call dir name
  each_look lookup call dir name e =
      each_served (λ call. asked_of call ≡ LookOf dir name → P call dir name)
      (λ d n same. cc)
      (λ d n same. cc)
      (λ d n same. cc)
      (λ d n mode size stamp same. cc)
      (λ d n same. at_look (P (Lookup d n)) d n dir name same (lookup d n))
      call (look_served (is_served call) (call_on call) dir name e) e

-- ---- the directory of a call

change_on : (served : Bool) (on : CallOn) (dir : ℕ) (name : List ℕ) → asked_on served on ≡ ChangeOf dir name → dir_on on ≡ dir
change_on true (OnName d n true) dir name e = cc
change_on true (OnName d n false) dir name e = cc
change_on true (OnDirectory d) dir name e = cc
change_on true (OnPartition d part) dir name e = cc
change_on false on dir name e = cc

pub dir_of_change : (call : Call) (dir : ℕ) (name : List ℕ) → asked_of call ≡ ChangeOf dir name → dir_of call ≡ dir
dir_of_change call dir name e = change_on (is_served call) (call_on call) dir name e

look_on : (served : Bool) (on : CallOn) (dir : ℕ) (name : List ℕ) → asked_on served on ≡ LookOf dir name → dir_on on ≡ dir
look_on true (OnName d n true) dir name e = cc
look_on true (OnName d n false) dir name e = cc
look_on true (OnDirectory d) dir name e = cc
look_on true (OnPartition d part) dir name e = cc
look_on false on dir name e = cc

pub dir_of_look : (call : Call) (dir : ℕ) (name : List ℕ) → asked_of call ≡ LookOf dir name → dir_of call ≡ dir
dir_of_look call dir name e = look_on (is_served call) (call_on call) dir name e

directory_fits : (dir : ℕ) → is_directory dir ≡ true → dir < DIRECTORIES
directory_fits dir e = ltb-true dir DIRECTORIES (and_parts (nat_le 1 dir) (nat_lt dir DIRECTORIES) e).1

-- a call that is well made is on a directory whose number is within its range
pub well_made_fits : (call : Call) → is_well_made call ≡ true → dir_of call < DIRECTORIES
well_made_fits (Create dir name) e = directory_fits dir e
well_made_fits (Mkdir dir name) e = directory_fits dir e
well_made_fits (Remove dir name) e = directory_fits dir e
well_made_fits (Lookup dir name) e = directory_fits dir e
well_made_fits (Setattr dir name mode size stamp) e = directory_fits dir (and_parts (is_directory dir) _ e).0
well_made_fits (Scan dir) e = directory_fits dir e
well_made_fits (Grab dir name count) e = directory_fits dir (and_parts (is_directory dir) _ (and_parts _ (nat_le count GRAB_MOST) e).0).0
well_made_fits (Load dir rows) e = directory_fits dir (and_parts (is_directory dir) _ (and_parts _ (nat_le (length rows) LOAD_MOST) e).0).0
well_made_fits (Link dir name id) e = directory_fits dir (and_parts (is_directory dir) _ e).0
well_made_fits (Seal dir part epoch) e = directory_fits dir (and_parts (is_directory dir) _ (and_parts _ (nat_lt epoch EPOCHS) e).0).0
well_made_fits (Unseal dir part epoch) e = directory_fits dir (and_parts (is_directory dir) _ (and_parts _ (nat_lt epoch EPOCHS) e).0).0
well_made_fits (Kill dir epoch) e = directory_fits dir (and_parts (is_directory dir) _ e).0
well_made_fits (Unlink dir name id) e = directory_fits dir (and_parts (is_directory dir) _ e).0
