-- What the rows of a partition mean: the entries of a directory, as far as its names lie there, and their number.
use Rattle.std.specs.Prelude.{◌≡◌, ℕ, ◌==◌, ◌&&◌, Bool, true, List, [], ◌∷◌, map}
use Rattle.std.specs.FinMap as map
use Rattle.std.specs.List.{AllByRecursion}
use Rattle.mds_base.specs.declared.call.Call.{Call}
use Rattle.mds_base.specs.declared.row.Row.{Row}
use Rattle.mds_base.specs.declared.row_key.RowKey.{RowKey}
use Rattle.mds_base.specs.Calls.{CallOn, OnName, OnDirectory, OnPartition, asked_of}
use Rattle.mds_base.specs.Entries.{Entries}
use Rattle.mds_base.specs.RowKeys.{RowMap}
use Rattle.mds_base.specs.declared.ask.Ask.{Ask}
use Rattle.mds_base.specs.declared.reply.Reply.{Reply}
use Rattle.mds_base.specs.declared.session.Session.{Session}
use Rattle.mds_base.specs.declared.setup.Setup.{Setup}
use Rattle.partition.specs.declared.edits.RowEdit.{RowEdit}
use Rattle.partition.specs.declared.plan.Change.TheVariants.{Note}
use Rattle.partition.specs.declared.plan.Step.TheVariants.{Said}
use Rattle.partition.specs.declared.plan.Plan.{Plan}
use Rattle.partition.specs.declared.partition.Partition.{Partition}
use Rattle.name_hash.specs.RowPlace.{row_key}
use Rattle.partition.specs.Replies.{rows_of}
use Rattle.partition.specs.Planning.{plan_part}
use Rattle.partition.specs.Serving.{part_made, rows_made}

-- a call that is served in partition `number` of a directory
pub record CallIn : Type 0 where
  pub part : Partition
  pub rows : RowMap
  pub dir : ℕ
  pub number : ℕ
  pub ask : Ask
  pub now : ℕ
  pub setup : Setup
  pub fresh : ℕ

-- its plan, and the partition and the rows that serving it leaves
abbrev pub plan_in : CallIn → Plan
plan_in at = plan_part at.part at.rows at.dir at.number at.ask at.now at.setup at.fresh

abbrev pub part_left : CallIn → Partition
part_left at = part_made at.part (plan_in at)

abbrev pub rows_left : CallIn → RowMap
rows_left at = rows_made at.rows (plan_in at)

-- the plan is one of a change that is carried out, with this reply
pub record IsCarried (plan : Plan) (reply : Reply) : Type 0 where
  pub edits : List RowEdit
  pub session : Session
  pub count : ℕ
  pub change' : plan.change ≡ Note edits session count
  pub step' : plan.step ≡ Said reply

-- the names that a call speaks of
abbrev pub names_on : CallOn → List Row → List (List ℕ)
names_on (OnName d name changes) rows = name ∷ []
names_on (OnDirectory d) rows = map (λ row. row.name) rows
names_on (OnPartition d p) rows = map (λ row. row.name) rows

abbrev pub names_of : Call → List (List ℕ)
names_of call = names_on (asked_of call) (rows_of call)

-- the key is not that of a name among these
abbrev pub IsApart : ℕ → ℕ → List (List ℕ) → RowKey → Type 0
IsApart dir number names key = AllByRecursion (λ name. key ≡ row_key dir number name → ⊥) names

-- each name passes a test, as that of the names that lie in a partition
abbrev pub AreWithin : (List ℕ → Bool) → List (List ℕ) → Type 0
AreWithin within names = AllByRecursion (λ name. within name ≡ true) names

-- the rows of a partition are the entries of its directory, for the names that lie in it
pub record Mirrors (within : List ℕ → Bool) (entries : Entries) (dir : ℕ) (rows : RowMap) (number : ℕ) : Type 0 where
  pub same : (name : List ℕ) → within name ≡ true → map.get entries (dir, name) ≡ map.get rows (row_key dir number name)

-- how many rows a partition has
abbrev pub is_of : ℕ → ℕ → RowKey → Bool
is_of dir number key = (key.dir == dir) && (key.part == number)

abbrev pub count_in : RowMap → ℕ → ℕ → ℕ
count_in rows dir number = map.len (map.retain_keys rows (is_of dir number))
