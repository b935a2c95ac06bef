-- What serving a request comes to, by what was decided on the way.
use Rattle.std.proofs.Common.{◌≡◌, ◌∙◌, sym, ap, refl, ℕ, ◌+◌, ◌≤◌, Bool, true, false, cond, List, [], ◌∷◌, length, Option, Some, None, ◌==◌, arith}
use Rattle.mds_base.specs.declared.attr.Attr.{Attr}
use Rattle.mds_base.specs.declared.attr.Stamp.{Stamp}
use Rattle.mds_base.specs.declared.ask.Ask.{Ask}
use Rattle.mds_base.specs.declared.call.Call.{Call}
use Rattle.mds_base.specs.declared.call.Call.TheVariants.{Create, Mkdir, Remove, Setattr}
use Rattle.mds_base.specs.declared.edit.Edit.{Edit}
use Rattle.mds_base.specs.declared.edit.Edit.TheVariants.{Keep, Put, Take}
use Rattle.mds_base.specs.declared.reply.Final.{Final}
use Rattle.mds_base.specs.declared.reply.Final.TheVariants.{Removed, IsDir}
use Rattle.mds_base.specs.declared.reply.Reply.TheVariants.{Said}
use Rattle.mds_base.specs.declared.row_key.RowKey.{RowKey}
use Rattle.mds_base.specs.PlainRules as plain
use Rattle.mds_base.specs.RowKeys.{RowMap, edited_rows}
use Rattle.records.specs.declared.record.Record.TheVariants.{Served}
use Rattle.sessions.specs.declared.kept.Judged.{Judged}
use Rattle.sessions.specs.declared.kept.Judged.TheVariants.{New}
use Rattle.sessions.specs.Kept.{judge_kept}
use Rattle.partition.specs.Rows.{written, edits_of}
use Rattle.node_core.specs.declared.change.Change.{Change}
use Rattle.node_core.specs.Nodes.{NodeAndRows, frozen_at, bits_in, part_for, owns, session_in, row_in, rows_after, noted_in, edit_in, count_after}
use Rattle.name_hash.specs.RowPlace.{row_key}
use Rattle.node_core.specs.Rules.{ChangeOf, LookOf, NotServed, asked_of, said_of, said_in, found, Outcome, Redirects, Waits, Looks, by_judged, reached, outcome, outcome_of}
use Rattle.node_core.specs.Serving.{ServedV, served_as, serve_ask, answer_to, carried, carried_at, part_at}
use Rattle.node_core.specs.Edits.{node_noted, parts_noted, numbers_of, CanBeMade}
use Rattle.node_core.proofs.Calls.{each_change}
use Rattle.node_core.proofs.Reached.{reached_away, reached_later, reached_here}

abbrev nothing : NodeAndRows → ServedV
nothing store = record { store = store; records = []; outputs = [] }

module _ (store : NodeAndRows) (ask : Ask) (now dir : ℕ) (name : List ℕ) where
  -- what a change and a look come to in the partition of the name
  abbrev change_here : Outcome
  change_here = by_judged (judge_kept (session_in store.node dir (part_for store.node dir name) ask.client) ask.seq) (said_in store ask.call dir name)

  abbrev look_here : Outcome
  look_here = Looks (found (row_in store.rows dir (part_for store.node dir name) name) (now + store.node.setup.lease))

  change_as : asked_of ask.call ≡ ChangeOf dir name → (o : Outcome) → reached store.node dir name change_here ≡ o → serve_ask store ask now ≡ served_as store ask o
  unfolding outcome
  change_as asked o is = ap (λ a. served_as store ask (outcome_of store ask now a)) asked ∙ ap (served_as store ask) is

  look_as : asked_of ask.call ≡ LookOf dir name → (o : Outcome) → reached store.node dir name look_here ≡ o → serve_ask store ask now ≡ served_as store ask o
  unfolding outcome
  look_as asked o is = ap (λ a. served_as store ask (outcome_of store ask now a)) asked ∙ ap (served_as store ask) is

  module _ (away : owns store.node dir (part_for store.node dir name) ≡ false) where
    pub change_away : asked_of ask.call ≡ ChangeOf dir name → serve_ask store ask now ≡ served_as store ask (Redirects (bits_in store.node dir))
    change_away asked = change_as asked _ (reached_away store.node dir name change_here away)

    pub look_away : asked_of ask.call ≡ LookOf dir name → serve_ask store ask now ≡ served_as store ask (Redirects (bits_in store.node dir))
    look_away asked = look_as asked _ (reached_away store.node dir name look_here away)

  module _ (own : owns store.node dir (part_for store.node dir name) ≡ true) where
    pub change_later : asked_of ask.call ≡ ChangeOf dir name → (depth : ℕ) → frozen_at store.node dir name ≡ Some depth → serve_ask store ask now ≡ served_as store ask (Waits (part_for store.node dir name) depth)
    change_later asked depth is = change_as asked _ (reached_later store.node dir name change_here own depth is)

    pub look_later : asked_of ask.call ≡ LookOf dir name → (depth : ℕ) → frozen_at store.node dir name ≡ Some depth → serve_ask store ask now ≡ served_as store ask (Waits (part_for store.node dir name) depth)
    look_later asked depth is = look_as asked _ (reached_later store.node dir name look_here own depth is)

    pub look_own : asked_of ask.call ≡ LookOf dir name → frozen_at store.node dir name ≡ None → serve_ask store ask now ≡ served_as store ask look_here
    look_own asked free = look_as asked _ (reached_here store.node dir name look_here own free)

  pub change_judged : asked_of ask.call ≡ ChangeOf dir name → owns store.node dir (part_for store.node dir name) ≡ true → frozen_at store.node dir name ≡ None
      → (j : Judged) → judge_kept (session_in store.node dir (part_for store.node dir name) ask.client) ask.seq ≡ j
      → serve_ask store ask now ≡ served_as store ask (by_judged j (said_in store ask.call dir name))
  change_judged asked own free j judged =
      change_as asked _ (reached_here store.node dir name change_here own free ∙ ap (λ x. by_judged x (said_in store ask.call dir name)) judged)

  pub change_new : asked_of ask.call ≡ ChangeOf dir name → owns store.node dir (part_for store.node dir name) ≡ true → frozen_at store.node dir name ≡ None → judge_kept (session_in store.node dir (part_for store.node dir name) ask.client) ask.seq ≡ New
      → serve_ask store ask now ≡ record {
        store = carried store ask.client ask.seq ask.call dir name;
        records = Served ask.client ask.seq (part_for store.node dir name) ask.call (said_in store ask.call dir name) ∷ [];
        outputs = answer_to ask (Said (said_in store ask.call dir name)) ∷ [];
      }
  change_new asked own free judged =
      change_judged asked own free New judged
      ∙ ap (λ a. record {
        store = carried_at store ask.client ask.seq ask.call a;
        records = Served ask.client ask.seq (part_at store a) ask.call (said_in store ask.call dir name) ∷ [];
        outputs = answer_to ask (Said (said_in store ask.call dir name)) ∷ [];
      }) asked

pub not_served : (store : NodeAndRows) (ask : Ask) (now : ℕ) → asked_of ask.call ≡ NotServed → serve_ask store ask now ≡ nothing store
unfolding outcome
not_served store ask now asked = ap (λ a. served_as store ask (outcome_of store ask now a)) asked

removed_numbers : (d : ℕ) (n : List ℕ) (b : Bool) → numbers_of (cond b Removed IsDir) ≡ length (plain.given_by (Remove d n) (Said (cond b Removed IsDir)))
removed_numbers d n true = refl
removed_numbers d n false = refl

created_numbers : (d : ℕ) (n : List ℕ) (before : Option Attr) (fresh : ℕ) → numbers_of (said_of (Create d n) before fresh) ≡ length (plain.given_by (Create d n) (Said (said_of (Create d n) before fresh)))
created_numbers d n None fresh = refl
created_numbers d n (Some attr) fresh = refl

made_numbers : (d : ℕ) (n : List ℕ) (before : Option Attr) (fresh : ℕ) → numbers_of (said_of (Mkdir d n) before fresh) ≡ length (plain.given_by (Mkdir d n) (Said (said_of (Mkdir d n) before fresh)))
made_numbers d n None fresh = refl
made_numbers d n (Some attr) fresh = refl

taken_numbers : (d : ℕ) (n : List ℕ) (before : Option Attr) (fresh : ℕ) → numbers_of (said_of (Remove d n) before fresh) ≡ length (plain.given_by (Remove d n) (Said (said_of (Remove d n) before fresh)))
taken_numbers d n None fresh = refl
taken_numbers d n (Some attr) fresh = removed_numbers d n (attr.dir == 0)

set_numbers : (d : ℕ) (n : List ℕ) (mode size : ℕ) (stamp : Option Stamp) (before : Option Attr) (fresh : ℕ)
    → numbers_of (said_of (Setattr d n mode size stamp) before fresh) ≡ length (plain.given_by (Setattr d n mode size stamp) (Said (said_of (Setattr d n mode size stamp) before fresh)))
set_numbers d n mode size stamp None fresh = refl
set_numbers d n mode size stamp (Some attr) fresh = refl

-- how many numbers the reply of a change gives
pub given_numbers : (call : Call) (before : Option Attr) (fresh : ℕ) (dir : ℕ) (name : List ℕ) → asked_of call ≡ ChangeOf dir name
    → numbers_of (said_of call before fresh) ≡ length (plain.given_by call (Said (said_of call before fresh)))
given_numbers call before fresh dir name e =
    each_change (λ call dir name. numbers_of (said_of call before fresh) ≡ length (plain.given_by call (Said (said_of call before fresh))))
    (λ d n. created_numbers d n before fresh) (λ d n. made_numbers d n before fresh) (λ d n. taken_numbers d n before fresh) (λ d n mode size stamp. set_numbers d n mode size stamp before fresh)
    call dir name e

-- ---- the change that is carried out

abbrev pub carried_change : NodeAndRows → ℕ → List ℕ → ℕ → ℕ → Call → Change
carried_change store dir name client seq call = record {
  dir = dir;
  part = part_for store.node dir name;
  edits = edits_of (row_key dir (part_for store.node dir name) name) (edit_in store.rows dir (part_for store.node dir name) name call (said_in store call dir name));
  session = record { client = client; seq = seq; said = said_in store call dir name };
  count = count_after store.node store.rows dir (part_for store.node dir name) name call (said_in store call dir name);
}

edits_made : (rows : RowMap) (key : RowKey) (edit : Edit) → written rows (edits_of key edit) ≡ edited_rows rows key edit
edits_made rows key Keep = refl
edits_made rows key (Put attr) = refl
edits_made rows key Take = refl

one_edit : (key : RowKey) (edit : Edit) → length (edits_of key edit) ≤ 1
one_edit key Keep = omega arith
one_edit key (Put attr) = omega arith
one_edit key Take = omega arith

module _ (store : NodeAndRows) (dir : ℕ) (name : List ℕ) (client seq : ℕ) (call : Call) where
  pub noted_so : asked_of call ≡ ChangeOf dir name → node_noted store.node (carried_change store dir name client seq call) ≡ (carried store client seq call dir name).node
  unfolding noted_in
  noted_so asked =
      ap (λ n. record store.node {
        next = store.node.next + n;
        parts = parts_noted store.node.parts store.node.floor (dir, part_for store.node dir name) (carried_change store dir name client seq call).session (carried_change store dir name client seq call).count;
      }) (given_numbers call (row_in store.rows dir (part_for store.node dir name) name) store.node.next dir name asked)

  pub rows_so : written store.rows (carried_change store dir name client seq call).edits ≡ (carried store client seq call dir name).rows
  unfolding rows_after
  rows_so = edits_made store.rows (row_key dir (part_for store.node dir name) name) (edit_in store.rows dir (part_for store.node dir name) name call (said_in store call dir name))

  pub can_be_made : judge_kept (session_in store.node dir (part_for store.node dir name) client) seq ≡ New → CanBeMade store.node (carried_change store dir name client seq call)
  can_be_made new = record {
    newer = new;
    few = one_edit (row_key dir (part_for store.node dir name) name) (edit_in store.rows dir (part_for store.node dir name) name call (said_in store call dir name));
  }
