-- Reading records, on lists, from left to right.
use Rattle.std.specs.Prelude.{ℕ, ◌-◌, ◌^◌, List, [], ◌∷◌, Result, Ok, nat_lt, ◌==◌, ◌&&◌, Bool, false, true}
use Rattle.std.specs.Prelude.{if◌then◌else◌}
use Rattle.records.specs.declared.fault.Fault.{Fault}
use Rattle.records.specs.declared.kinds.TheConstants as kinds
use Rattle.records.specs.declared.record.Record.{Record}
use Rattle.records.specs.declared.record.Record.TheVariants as records
use Rattle.records.specs.declared.record.Record.TheVariants.{Head, Served, Begin, End}
use Rattle.records.specs.Faults.{◌>>=◌}
use Rattle.records.specs.Reading.{byte_where, byte_among, number_at, call_at, final_at}
use Rattle.records.specs.ReadingInstalls.{install_at}

unfoldable pub head_at : List ℕ → Result (Record × List ℕ) Fault
head_at bytes = do
  format ← byte_among (1 ∷ []) bytes
  servers ← number_at 4 1 32 format.1
  server ← number_at 4 0 (servers.0 - 1) servers.1
  threshold ← number_at 4 1 8000 server.1
  Ok (Head format.0 servers.0 server.0 threshold.0, threshold.1)

unfoldable pub served_at : List ℕ → Result (Record × List ℕ) Fault
served_at bytes = do
  client ← number_at 4 1 64 bytes
  seq ← number_at 8 1 (2 ^ 64 - 1) client.1
  part ← number_at 4 0 1023 seq.1
  call ← call_at part.1
  said ← final_at call.0 call.1
  Ok (Served client.0 seq.0 part.0 call.0 said.0, said.1)

-- a depth at which a split of this partition may begin
abbrev pub is_depth : ℕ → ℕ → Bool
is_depth part depth = nat_lt depth 10 && nat_lt part (2 ^ depth)

-- the begin or the end of a split
unfoldable pub split_at : ℕ → List ℕ → Result (Record × List ℕ) Fault
split_at kind bytes = do
  dir ← number_at 8 1 (2 ^ 48 - 1) bytes
  part ← number_at 4 0 511 dir.1
  depth ← byte_where (is_depth part.0) part.1
  Ok (if kind == kinds.RECORD_BEGIN then Begin dir.0 part.0 depth.0 else End dir.0 part.0 depth.0, depth.1)

-- the kinds of records
abbrev pub record_kinds : List ℕ
record_kinds = kinds.RECORD_HEAD ∷ kinds.RECORD_OPENED ∷ kinds.RECORD_SERVED ∷ kinds.RECORD_BEGIN ∷ kinds.RECORD_INSTALL
    ∷ kinds.RECORD_END ∷ kinds.RECORD_INSTALL_STAMPED ∷ []

-- what follows the kind of a record
unfoldable pub record_after : ℕ → List ℕ → Result (Record × List ℕ) Fault
record_after kind bytes =
    if kind == kinds.RECORD_HEAD then head_at bytes
    else if kind == kinds.RECORD_OPENED then Ok (records.Opened, bytes)
    else if kind == kinds.RECORD_SERVED then served_at bytes
    else if kind == kinds.RECORD_INSTALL then install_at false bytes
    else if kind == kinds.RECORD_INSTALL_STAMPED then install_at true bytes
    else split_at kind bytes

unfoldable pub record_at : List ℕ → Result (Record × List ℕ) Fault
record_at bytes = do
  kind ← byte_among record_kinds bytes
  record_after kind.0 kind.1
