-- What a plan can be.
use Rattle.std.proofs.Common.{◌≡◌, ap, refl, ℕ, ◌+◌, Bool, true, false, cond, List, Option, Some, None}
use Rattle.std.specs.FinMap as map
use Rattle.mds_base.specs.declared.attr.Attr.{Attr}
use Rattle.mds_base.specs.declared.ask.Ask.{Ask}
use Rattle.mds_base.specs.declared.edit.Edit.{Edit}
use Rattle.mds_base.specs.declared.row_key.RowKey.{RowKey}
use Rattle.mds_base.specs.declared.reply.Final.{Final}
use Rattle.mds_base.specs.declared.reply.Reply.TheVariants as replies
use Rattle.mds_base.specs.declared.setup.Setup.{Setup}
use Rattle.mds_base.specs.Calls.{CallOn, OnName, OnDirectory, OnPartition, asked_of}
use Rattle.mds_base.specs.PlainRules.{edit_of}
use Rattle.mds_base.specs.RowKeys.{RowMap, edited_count}
use Rattle.sessions.specs.declared.kept.Judged.{Judged}
use Rattle.sessions.specs.declared.kept.Judged.TheVariants.{New, Again, Old}
use Rattle.sessions.specs.Kept.{judged}
use Rattle.partition.specs.declared.plan.Step.{Step}
use Rattle.partition.specs.declared.plan.Plan.{Plan}
use Rattle.partition.specs.declared.partition.Partition.{Partition}
use Rattle.partition.specs.Rows.{edits_of, load_edits}
use Rattle.name_hash.specs.RowPlace.{row_key}
use Rattle.partition.specs.Replies.{said_of, rows_of}
use Rattle.partition.specs.Planning.{unchanging, look_plan, carry_plan, must_wait, edit_plan, name_plan, load_plan, new_plan, judged_plan, change_plan, plan_on, plan_part}

-- the reply to a change on a name, and what becomes of the row, by the row that stands there
abbrev pub said_at : RowMap → RowKey → Ask → ℕ → Final
said_at rows key ask fresh = said_of ask.call (map.get rows key) fresh

abbrev pub edit_at : RowMap → RowKey → Ask → ℕ → Edit
edit_at rows key ask fresh = edit_of ask.call (replies.Said (said_at rows key ask fresh)) (map.get rows key)

abbrev pub carried_at : Partition → RowMap → RowKey → Ask → ℕ → ℕ → Plan
carried_at part rows key ask now fresh =
    carry_plan ask (said_at rows key ask fresh) (edits_of key (edit_at rows key ask fresh)) (edited_count part.count (edit_at rows key ask fresh) (map.get rows key)) now

abbrev pub loaded_at : Partition → RowMap → ℕ → ℕ → Ask → ℕ → Plan
loaded_at part rows dir number ask now = load_plan part ask (load_edits rows dir number (rows_of ask.call)) now

-- what is to be shown of a plan, by what it can be
pub record OfEach (P : Plan → Type 0) (part : Partition) (rows : RowMap) (dir number : ℕ) (ask : Ask) (now : ℕ) (fresh : ℕ) (on : CallOn) : Type 0 where
  pub idle : (step : Step) → P (unchanging step now)
  pub looked : (attr : Option Attr) (name : List ℕ) (until : ℕ) → P (look_plan attr name until now)
  pub named : (d : ℕ) (name : List ℕ) → on ≡ OnName d name true → P (carried_at part rows (row_key dir number name) ask now fresh)
  pub all : (d : ℕ) → on ≡ OnDirectory d → P (loaded_at part rows dir number ask now)
  pub whole : (d p : ℕ) → on ≡ OnPartition d p → P (loaded_at part rows dir number ask now)

module _ (P : Plan → Type 0) (part : Partition) (rows : RowMap) (dir number : ℕ) (ask : Ask) (now : ℕ) (fresh : ℕ) where
  waited : (on : CallOn) → OfEach P part rows dir number ask now fresh on → (key : RowKey) → P (carried_at part rows key ask now fresh) → (b : Bool)
      → must_wait part.leases key (edit_at rows key ask fresh) (map.get rows key) now ≡ b → P (name_plan part key ask (map.get rows key) now fresh)
  waited on each key carried true is = rw is (each.idle _)
  waited on each key carried false is = rw is carried

  newly : (on : CallOn) → OfEach P part rows dir number ask now fresh on → (on' : CallOn) → on ≡ on' → ((d : ℕ) (name : List ℕ) → on' ≡ OnName d name false → ⊥) → P (new_plan part rows dir number ask now fresh on')
  newly on each (OnName d name true) is changes = waited on each (row_key dir number name) (each.named d name is) _ refl
  newly on each (OnName d name false) is changes = absurd (changes d name refl)
  newly on each (OnDirectory d) is changes = each.all d is
  newly on each (OnPartition d p) is changes = each.whole d p is

  by_judged : (on : CallOn) → OfEach P part rows dir number ask now fresh on → (j : Judged) (plan : Plan) → P plan → P (judged_plan j plan now)
  by_judged on each New plan p = p
  by_judged on each (Again said) plan p = each.idle _
  by_judged on each (Old kept) plan p = each.idle _

  by_call : (setup : Setup) (on : CallOn) → OfEach P part rows dir number ask now fresh on → (on' : CallOn) → on ≡ on' → P (plan_on part rows dir number ask now setup fresh on')
  by_call setup on each (OnName d name true) is = by_judged on each (judged part.sessions ask.client ask.seq) _ (newly on each (OnName d name true) is (λ e m h. cc))
  by_call setup on each (OnName d name false) is = each.looked (map.get rows (row_key dir number name)) name (now + setup.lease)
  by_call setup on each (OnDirectory d) is = by_judged on each (judged part.sessions ask.client ask.seq) _ (newly on each (OnDirectory d) is (λ e m h. cc))
  by_call setup on each (OnPartition d p) is = by_judged on each (judged part.sessions ask.client ask.seq) _ (newly on each (OnPartition d p) is (λ e m h. cc))

  -- a plan is what each of the cases says
  pub plan_is : (setup : Setup) → OfEach P part rows dir number ask now fresh (asked_of ask.call) → P (plan_part part rows dir number ask now setup fresh)
  plan_is setup each = by_call setup (asked_of ask.call) each (asked_of ask.call) refl
