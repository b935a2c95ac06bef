-- Serving a message in two steps: a plan, worked out against a store that stays as it is, and the change of one
-- partition that the plan leaves to be made.
use Rattle.std.specs.Prelude.{◌≡◌, ℕ, List, [], ◌∷◌, Option, Some, None}
use Rattle.mds_base.specs.declared.ask.Ask.{Ask}
use Rattle.records.specs.declared.msg.Msg.{Msg}
use Rattle.records.specs.declared.record.Record.{Record}
use Rattle.records.specs.declared.record.Record.TheVariants.{Served}
use Rattle.partition.specs.declared.plan.Change.{Change as PartChange}
use Rattle.partition.specs.declared.plan.Change.TheVariants.{Nothing, Lease, Note}
use Rattle.partition.specs.declared.plan.Step.{Step}
use Rattle.partition.specs.declared.plan.Step.TheVariants as steps
use Rattle.node_core.specs.declared.change.Change.{Change}
use Rattle.node_core.specs.declared.plan.Plan.{Plan}
use Rattle.node_core.specs.Nodes.{NodeAndRows}
use Rattle.node_core.specs.Edits.{noted_by, written_by, MayBeMade}
use Rattle.node_core.specs.Serving.{ServedV, serve, answer_to}

-- a plan hands out what serving hands out, and making its change gives the store that serving makes
pub record IsPlanOf (store : NodeAndRows) (served : ServedV) (plan : Plan) : Type 0 where
  pub records : plan.handled.records ≡ served.records
  pub outputs : plan.handled.outputs ≡ served.outputs
  pub node' : noted_by store.node plan.change ≡ served.store.node
  pub rows' : written_by store.rows plan.change ≡ served.store.rows
  pub made : MayBeMade store.node plan.change

-- the plan is one of serving this message at this moment
abbrev pub IsPlan : NodeAndRows → Msg → ℕ → Plan → Type 0
IsPlan store msg now plan = IsPlanOf store (serve store msg now) plan

-- what a partition's plan of a request comes to: the records, the messages to send, and the change
abbrev pub records_of : Ask → ℕ → PartChange → List Record
records_of ask part Nothing = []
records_of ask part (Lease name until) = []
records_of ask part (Note edits session count) = Served ask.client ask.seq part ask.call session.said ∷ []

abbrev pub outputs_of : Ask → Step → List Msg
outputs_of ask (steps.Said reply) = answer_to ask reply ∷ []
outputs_of ask (steps.Held until) = []
outputs_of ask (steps.Old kept) = []

abbrev pub change_of : ℕ → ℕ → PartChange → Option Change
change_of dir part Nothing = None
change_of dir part (Lease name until) = None
change_of dir part (Note edits session count) =
    Some (record { dir = dir; part = part; edits = edits; session = session; count = count })
