-- What is known of the records of a Serve: they have a spelling, may follow, and are in range. What stands above this
-- crate goes by this, and not by what serving comes to.
use Rattle.std.proofs.Common.{◌≡◌, ◌∙◌, sym, ap, subst, refl, ℕ, ◌+◌, ◌<◌, ◌≤◌, ◌==◌, List, [], ◌∷◌, length, Bool, not, is_some, true, false, cond, arith, Option, Some, None, MatchOption, if◌then◌else◌}
use Rattle.std.specs.Cmp.{eq_by_cmp_equiv}
use Rattle.std.specs.FinMap as map
use Rattle.std.specs.List.{AllByRecursion}
use Rattle.std.proofs.lemmas.Bool.{and_from, eq-eqb, leb-true}
use Rattle.mds_base.specs.declared.ask.Ask.{Ask}
use Rattle.mds_base.specs.declared.limits.TheConstants.{DIRECTORIES, SERVERS_MOST, SERVE_DIRECTORIES}
use Rattle.mds_base.specs.declared.attr.Attr.{Attr}
use Rattle.mds_base.specs.declared.attr.Stamp.{Stamp}
use Rattle.mds_base.specs.declared.call.Call.{Call}
use Rattle.mds_base.specs.declared.call.Call.TheVariants.{Create, Mkdir, Remove, Setattr}
use Rattle.mds_base.specs.declared.reply.Final.{Final}
use Rattle.mds_base.specs.declared.reply.Final.TheVariants.{CreatedDir, Exists, Removed, Missing, IsDir, Set}
use Rattle.mds_base.specs.declared.reply.Reply.TheVariants.{Said}
use Rattle.mds_base.specs.Entries.{Place, place_cmp, Entries, is_file}
use Rattle.mds_base.proofs.Places.{places_total}
use Rattle.records.specs.declared.msg.Msg.{Msg}
use Rattle.records.specs.declared.record.Record.{Record}
use Rattle.records.specs.declared.record.Record.TheVariants.{Served}
use Rattle.records.specs.Spelling.{IsRecord, IsDirectory, IsChange, MaySay, IsNumbered}
use Rattle.sessions.specs.Kept.{judge_kept}
use Rattle.mds_base.specs.Calls.{dir_of}
use Rattle.mds_base.specs.Lists.{Each}
use Rattle.mds_base.proofs.Lists.{each_none}
use Rattle.mds_base.proofs.Grow.{each_push}
use Rattle.node_core.specs.Ranges.{RequestFits, DirFits, RecordFits}
use Rattle.node_core.specs.Nodes.{NodeV, NodeAndRows, part_for, has_numbers, end_of_numbers, owns, session_in, row_in}
use Rattle.node_core.specs.Rules.{Asked, ChangeOf, LookOf, NotServed, asked_of, said_of, said_in, Outcome, Silent, Redirects, Waits, Looks, Repeats, Carries, by_judged, outcome, outcome_of, request_in}
use Rattle.node_core.specs.Serving.{serve, serve_request, served_as, part_at, may_carry, is_new_change, all_follow}
use Rattle.node_core.proofs.Calls.{each_change}
use Rattle.node_core.proofs.Reached.{reached_carries, judged_new, no_look}
use Rattle.node_core.proofs.Replayed.{follows_so}
use Rattle.node_core.proofs.Views.{part_fits}
use Rattle.node_core.specs.Messages.{IsAsked, IsWellMade, IsRequest, IsMessage}

-- ---- the final of a change is one that the plain rules allow

-- a map with one entry, or with none
abbrev with : Place → Option Attr → Entries
with place None = map.empty
with place (Some attr) = map.insert map.empty place attr

with_there : (place : Place) (before : Option Attr) → map.get (with place before) place ≡ before
with_there place None = map.get-empty place_cmp place
with_there place (Some attr) = map.get-insert places_total map.empty place attr place ∙ ap (λ b. cond b (Some attr) (map.get {R = place_cmp} map.empty place)) ((eq_by_cmp_equiv places_total).refl place)

says : (place : Place) (before : Option Attr) (P : Type 0) (Q : Attr → Type 0) → MatchOption before P Q → MatchOption (map.get (with place before) place) P Q
says place before P Q holds = subst (λ (o : Option Attr). MatchOption o P Q) (sym (with_there place before)) holds

create_says : (next dir : ℕ) (name : List ℕ) (before : Option Attr) → MaySay (Create dir name) (said_of (Create dir name) before next)
create_says next dir name None = (with (dir, name) None, says (dir, name) None _ _ refl)
create_says next dir name (Some attr) = (with (dir, name) (Some attr), says (dir, name) (Some attr) _ (λ _. Said Exists ≡ Said Exists) refl)

mkdir_says : (next dir : ℕ) (name : List ℕ) (before : Option Attr) → MaySay (Mkdir dir name) (said_of (Mkdir dir name) before next)
mkdir_says next dir name None = (with (dir, name) None, says (dir, name) None ((n : ℕ) × (Said (CreatedDir next) ≡ Said (CreatedDir n))) (λ _. Said (CreatedDir next) ≡ Said Exists) (next, refl))
mkdir_says next dir name (Some attr) = (with (dir, name) (Some attr), says (dir, name) (Some attr) _ (λ _. Said Exists ≡ Said Exists) refl)

remove_says : (next dir : ℕ) (name : List ℕ) (before : Option Attr) → MaySay (Remove dir name) (said_of (Remove dir name) before next)
remove_says next dir name None = (with (dir, name) None, says (dir, name) None _ (λ attr. Said Missing ≡ Said (if is_file attr then Removed else IsDir)) refl)
remove_says next dir name (Some attr) = (with (dir, name) (Some attr), says (dir, name) (Some attr) _ (λ other. Said (if is_file attr then Removed else IsDir) ≡ Said (if is_file other then Removed else IsDir)) refl)

setattr_says : (next dir : ℕ) (name : List ℕ) (mode size : ℕ) (stamp : Option Stamp) (before : Option Attr) → MaySay (Setattr dir name mode size stamp) (said_of (Setattr dir name mode size stamp) before next)
setattr_says next dir name mode size stamp None = (with (dir, name) None, says (dir, name) None _ (λ _. Said Missing ≡ Said Set) refl)
setattr_says next dir name mode size stamp (Some attr) = (with (dir, name) (Some attr), says (dir, name) (Some attr) _ (λ _. Said Set ≡ Said Set) refl)

may_say : (next : ℕ) (before : Option Attr) (call : Call) (dir : ℕ) (name : List ℕ) → asked_of call ≡ ChangeOf dir name → MaySay call (said_of call before next)
may_say next before =
    each_change (λ call dir name. MaySay call (said_of call before next))
    (λ d n. create_says next d n before) (λ d n. mkdir_says next d n before) (λ d n. remove_says next d n before) (λ d n mode size stamp. setattr_says next d n mode size stamp before)

created_numbered : (next dir : ℕ) (name : List ℕ) (before : Option Attr) → IsNumbered (said_of (Create dir name) before next)
created_numbered next dir name None = tt
created_numbered next dir name (Some attr) = tt

made_numbered : (next dir : ℕ) (name : List ℕ) (before : Option Attr) → IsDirectory next → IsNumbered (said_of (Mkdir dir name) before next)
made_numbered next dir name None is = is
made_numbered next dir name (Some attr) is = tt

taken_numbered : (b : Bool) → IsNumbered (cond b Removed IsDir)
taken_numbered true = tt
taken_numbered false = tt

removed_numbered : (next dir : ℕ) (name : List ℕ) (before : Option Attr) → IsNumbered (said_of (Remove dir name) before next)
removed_numbered next dir name None = tt
removed_numbered next dir name (Some attr) = taken_numbered (is_file attr)

set_numbered : (next dir : ℕ) (name : List ℕ) (mode size : ℕ) (stamp : Option Stamp) (before : Option Attr) → IsNumbered (said_of (Setattr dir name mode size stamp) before next)
set_numbered next dir name mode size stamp None = tt
set_numbered next dir name mode size stamp (Some attr) = tt

numbered_at : (next : ℕ) (before : Option Attr) → IsDirectory next → (call : Call) (dir : ℕ) (name : List ℕ) → asked_of call ≡ ChangeOf dir name → IsNumbered (said_of call before next)
numbered_at next before is =
    each_change (λ call dir name. IsNumbered (said_of call before next))
    (λ d n. created_numbered next d n before) (λ d n. made_numbered next d n before is) (λ d n. removed_numbered next d n before) (λ d n mode size stamp. set_numbered next d n mode size stamp before)

-- ---- a change that is carried out is recorded by a record that may follow

-- a call that is well made, and asks for a change, is one that a log keeps
a_change : (call : Call) (dir : ℕ) (name : List ℕ) → asked_of call ≡ ChangeOf dir name → IsWellMade call → IsChange call
a_change =
    each_change (λ call dir name. IsWellMade call → IsChange call)
    (λ d n is. record { changes = refl; made = is.made; named = is.named; fits = tt; rows = tt }) (λ d n is. record { changes = refl; made = is.made; named = is.named; fits = tt; rows = tt }) (λ d n is. record { changes = refl; made = is.made; named = is.named; fits = tt; rows = tt })
    (λ d n mode size stamp is. record { changes = refl; made = is.made; named = is.named; fits = is.fits; rows = tt })

number_fits : (node : NodeV) → has_numbers node ≡ true → node.server < SERVERS_MOST → node.next < DIRECTORIES
number_fits node numbers few = let enough = leb-true (node.next + SERVE_DIRECTORIES) (end_of_numbers node.server) numbers in omega arith

-- the records of a Serve: each has a spelling and may follow where those before it lead, and there is one at most
pub record AreServed (store : NodeAndRows) (items : List Record) : Type 0 where
  pub each : AllByRecursion IsRecord items
  pub follow : all_follow store items ≡ true
  pub few : length items ≤ 1

no_records : (store : NodeAndRows) → AreServed store []
no_records store = record { each = tt; follow = refl; few = omega arith }

module _ (store : NodeAndRows) (ask : Ask) (now : ℕ) (said : Final) (asked : IsAsked ask) (numbers : has_numbers store.node ≡ true) (few : store.node.server < SERVERS_MOST) (from_two : 2 ≤ store.node.next) where
  carried_record : (dir : ℕ) (name : List ℕ) → asked_of ask.call ≡ ChangeOf dir name → outcome_of store ask now (ChangeOf dir name) ≡ Carries said → AreServed store (Served ask.client ask.seq (part_at store (asked_of ask.call)) ask.call said ∷ [])
  carried_record dir name is carries =
      let own = part_for store.node dir name in
      let r = reached_carries store.node dir name _ said carries in
      let o = judged_new (judge_kept (session_in store.node dir own ask.client) ask.seq) (said_in store ask.call dir name) said r.here in
      let part : part_at store (asked_of ask.call) ≡ own = ap (part_at store) is in
      let placed : (part_at store (asked_of ask.call) == own) ≡ true = eq-eqb _ own part in
      let may : may_carry store.node dir name ask.client ask.seq (part_at store (asked_of ask.call)) ≡ true = and_from _ _ (and_from _ _ placed (and_from _ _ numbers (and_from _ _ r.own (ap (λ f. not (is_some f)) r.free)))) o.0 in
      let follows = follows_so store ask.client ask.seq (part_at store (asked_of ask.call)) ask.call said dir name is may o.1 in
      let change = a_change ask.call dir name is asked.made in
      let before = row_in store.rows dir own name in
      let in_range : IsDirectory store.node.next = (omega arith, number_fits store.node numbers few) in
      record {
        each = (
          record {
            some_client = asked.some_client;
            few_clients = asked.few_clients;
            from_one = asked.from_one;
            fits = asked.fits;
            below = subst (λ (p : ℕ). p < 1024) (sym part) (part_fits store.node dir name);
            change = change;
            reply = subst (MaySay ask.call) (sym o.1) (may_say store.node.next before ask.call dir name is);
            numbered = subst IsNumbered (sym o.1) (numbered_at store.node.next before in_range ask.call dir name is);
          },
          tt,
        );
        follow = and_from _ _ follows.0 refl;
        few = omega arith;
      }

  carried_records : (a : Asked) → asked_of ask.call ≡ a → outcome_of store ask now a ≡ Carries said → AreServed store (Served ask.client ask.seq (part_at store (asked_of ask.call)) ask.call said ∷ [])
  carried_records (ChangeOf dir name) is carries = carried_record dir name is carries
  carried_records (LookOf dir name) is carries = absurd (no_look store.node dir name _ said carries)
  carried_records NotServed is carries = cc

served_records : (store : NodeAndRows) (ask : Ask) (now : ℕ) (o : Outcome) → outcome store ask now ≡ o → IsAsked ask → has_numbers store.node ≡ true → store.node.server < SERVERS_MOST → 2 ≤ store.node.next → AreServed store (served_as store ask o).records
unfolding outcome
served_records store ask now Silent is asked numbers few from_two = no_records store
served_records store ask now (Redirects bits) is asked numbers few from_two = no_records store
served_records store ask now (Waits part depth) is asked numbers few from_two = no_records store
served_records store ask now (Looks reply) is asked numbers few from_two = no_records store
served_records store ask now (Repeats said) is asked numbers few from_two = no_records store
served_records store ask now (Carries said) is asked numbers few from_two = carried_records store ask now said asked numbers few from_two (asked_of ask.call) refl is

request_records : (store : NodeAndRows) (request : Option Ask) (now : ℕ) → IsRequest request → has_numbers store.node ≡ true → store.node.server < SERVERS_MOST → 2 ≤ store.node.next → AreServed store (serve_request store request now).records
request_records store None now made numbers few from_two = no_records store
request_records store (Some ask) now made numbers few from_two = served_records store ask now (outcome store ask now) refl made numbers few from_two

-- the records of a Serve have spellings, and may follow
pub serve_records : (store : NodeAndRows) (msg : Msg) (now : ℕ) → IsMessage msg → has_numbers store.node ≡ true → store.node.server < SERVERS_MOST → 2 ≤ store.node.next → AreServed store (serve store msg now).records
unfolding serve
serve_records store msg now made numbers few from_two = request_records store (request_in msg) now made numbers few from_two

-- ---- how many records there are at most

few_as : (store : NodeAndRows) (ask : Ask) (o : Outcome) → length (served_as store ask o).records ≤ 1
few_as store ask Silent = omega arith
few_as store ask (Redirects bits) = omega arith
few_as store ask (Waits part depth) = omega arith
few_as store ask (Looks reply) = omega arith
few_as store ask (Repeats said) = omega arith
few_as store ask (Carries said) = omega arith

few_for : (store : NodeAndRows) (request : Option Ask) (now : ℕ) → length (serve_request store request now).records ≤ 1
few_for store None now = omega arith
few_for store (Some ask) now = few_as store ask (outcome store ask now)

pub few_records : (store : NodeAndRows) (msg : Msg) (now : ℕ) → length (serve store msg now).records ≤ 1
unfolding serve
few_records store msg now = few_for store (request_in msg) now

-- ---- the records of a message that is in range are in range

records_as : (store : NodeAndRows) (ask : Ask) (o : Outcome) → dir_of ask.call < DIRECTORIES → Each (served_as store ask o).records (λ k item. RecordFits item)
records_as store ask Silent fits = each_none
records_as store ask (Redirects bits) fits = each_none
records_as store ask (Waits part depth) fits = each_none
records_as store ask (Looks reply) fits = each_none
records_as store ask (Repeats said) fits = each_none
records_as store ask (Carries said) fits = each_push {xs = []} _ each_none fits

records_for : (store : NodeAndRows) (request : Option Ask) (now : ℕ) → RequestFits request → Each (serve_request store request now).records (λ k item. RecordFits item)
records_for store None now fits = each_none
records_for store (Some ask) now fits = records_as store ask (outcome store ask now) fits

pub records_fit : (store : NodeAndRows) (msg : Msg) (now : ℕ) → DirFits msg → Each (serve store msg now).records (λ k item. RecordFits item)
unfolding serve
records_fit store msg now fits = records_for store (request_in msg) now fits
