-- What is to be made of a call in a partition: by its session, by the leases on its name, and by the plain rules, in
-- this order.
use Rattle.std.specs.Prelude.{ℕ, ◌+◌, ◌&&◌, Bool, true, false, List, length, Option, Some, None, nat_lt, if◌then◌else◌}
use Rattle.std.specs.FinMap as map
use Rattle.mds_base.specs.declared.attr.Attr.{Attr}
use Rattle.mds_base.specs.declared.ask.Ask.{Ask}
use Rattle.mds_base.specs.declared.edit.Edit.{Edit}
use Rattle.mds_base.specs.declared.row_key.RowKey.{RowKey}
use Rattle.mds_base.specs.declared.reply.Final.{Final}
use Rattle.mds_base.specs.declared.reply.Final.TheVariants.{Missing, Loaded}
use Rattle.mds_base.specs.declared.reply.Reply.TheVariants as replies
use Rattle.mds_base.specs.declared.setup.Setup.{Setup}
use Rattle.mds_base.specs.Calls.{CallOn, OnName, OnDirectory, OnPartition, asked_of}
use Rattle.mds_base.specs.PlainRules.{edit_of}
use Rattle.mds_base.specs.RowKeys.{RowMap, edited_count}
use Rattle.sessions.specs.declared.kept.Judged.{Judged}
use Rattle.sessions.specs.declared.kept.Judged.TheVariants.{New, Again, Old}
use Rattle.sessions.specs.Kept.{judged}
use Rattle.leases.specs.Leases.{LeasesV, held_until, unleased}
use Rattle.partition.specs.declared.edits.RowEdit.{RowEdit}
use Rattle.partition.specs.declared.plan.Step.{Step}
use Rattle.partition.specs.declared.plan.Step.TheVariants as steps
use Rattle.partition.specs.declared.plan.Change.TheVariants.{Nothing, Lease, Note}
use Rattle.partition.specs.declared.plan.Plan.{Plan}
use Rattle.partition.specs.declared.partition.Partition.{Partition}
use Rattle.partition.specs.Rows.{edits_of, load_edits}
use Rattle.name_hash.specs.RowPlace.{row_key}
use Rattle.partition.specs.Replies.{said_of, rows_of, waits}

-- nothing changes but leases that have ended
abbrev pub unchanging : Step → ℕ → Plan
unchanging step now = record { step = step; change = Nothing; moment = now }

-- a lookup: an entry that is found is leased
abbrev pub look_plan : Option Attr → List ℕ → ℕ → ℕ → Plan
look_plan None name until now = unchanging (steps.Said (replies.Said Missing)) now
look_plan (Some attr) name until now = record {
  step = steps.Said (replies.Found attr until);
  change = Lease name until;
  moment = now;
}

-- a change that is carried out: rows are edited and counted, and the session keeps the reply
abbrev pub carry_plan : Ask → Final → List RowEdit → ℕ → ℕ → Plan
carry_plan ask said edits count now = record {
  step = steps.Said (replies.Said said);
  change = Note edits (record { client = ask.client; seq = ask.seq; said = said }) count;
  moment = now;
}

-- the partition with its leases and its floor set aside, as it is known from a log: nothing waits
abbrev pub aside : Partition → Partition
aside part = record part { leases = unleased 0 }

-- whether an edit has to wait: it changes an entry on which a lease may be live
abbrev pub must_wait : LeasesV → RowKey → Edit → Option Attr → ℕ → Bool
must_wait leases key edit before now = waits edit before && nat_lt now (held_until leases key.name)

-- a change on a name with this reply and this edit
abbrev pub edit_plan : Partition → RowKey → Ask → Option Attr → Final → Edit → ℕ → Plan
edit_plan part key ask before said edit now =
    if must_wait part.leases key edit before now
    then unchanging (steps.Held (held_until part.leases key.name)) now
    else carry_plan ask said (edits_of key edit) (edited_count part.count edit before) now

-- what a change on a name with this reply is planned as
abbrev pub said_plan : Partition → RowKey → Ask → Option Attr → Final → ℕ → Plan
said_plan part key ask before said now =
    edit_plan part key ask before said (edit_of ask.call (replies.Said said) before) now

-- a new change on a name, by the entry that stands there
abbrev pub name_plan : Partition → RowKey → Ask → Option Attr → ℕ → ℕ → Plan
name_plan part key ask before now fresh = said_plan part key ask before (said_of ask.call before fresh) now

-- a new load, by the edits that add its rows
abbrev pub load_plan : Partition → Ask → List RowEdit → ℕ → Plan
load_plan part ask edits now = carry_plan ask (Loaded (length edits)) edits (part.count + length edits) now

-- a new change
abbrev pub new_plan : Partition → RowMap → ℕ → ℕ → Ask → ℕ → ℕ → CallOn → Plan
new_plan part rows dir number ask now fresh (OnName d name changes) =
    name_plan part (row_key dir number name) ask (map.get rows (row_key dir number name)) now fresh
new_plan part rows dir number ask now fresh (OnDirectory d) =
    load_plan part ask (load_edits rows dir number (rows_of ask.call)) now
new_plan part rows dir number ask now fresh (OnPartition d p) =
    load_plan part ask (load_edits rows dir number (rows_of ask.call)) now

-- a change by what is kept of its client: a new one is carried out, the last one is answered again, an old one is not
abbrev pub judged_plan : Judged → Plan → ℕ → Plan
judged_plan New plan now = plan
judged_plan (Again said) plan now = unchanging (steps.Said (replies.Said said)) now
judged_plan (Old kept) plan now = unchanging (steps.Old kept) now

abbrev pub change_plan : Partition → RowMap → ℕ → ℕ → Ask → ℕ → ℕ → CallOn → Plan
change_plan part rows dir number ask now fresh on =
    judged_plan (judged part.sessions ask.client ask.seq) (new_plan part rows dir number ask now fresh on) now

abbrev pub plan_on : Partition → RowMap → ℕ → ℕ → Ask → ℕ → Setup → ℕ → CallOn → Plan
plan_on part rows dir number ask now setup fresh (OnName d name true) =
    change_plan part rows dir number ask now fresh (OnName d name true)
plan_on part rows dir number ask now setup fresh (OnName d name false) =
    look_plan (map.get rows (row_key dir number name)) name (now + setup.lease) now
plan_on part rows dir number ask now setup fresh (OnDirectory d) =
    change_plan part rows dir number ask now fresh (OnDirectory d)
plan_on part rows dir number ask now setup fresh (OnPartition d p) =
    change_plan part rows dir number ask now fresh (OnPartition d p)

-- what is to be made of a call in partition `number` of a directory at a moment; `fresh` is the number that a mkdir or
-- a grab gives
abbrev pub plan_part : Partition → RowMap → ℕ → ℕ → Ask → ℕ → Setup → ℕ → Plan
plan_part part rows dir number ask now setup fresh =
    plan_on part rows dir number ask now setup fresh (asked_of ask.call)
