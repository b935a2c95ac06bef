-- The exit code of each status, and what standard error says of it.
use Rattle.std.specs.Prelude.{ℕ, List, ◌++◌, codes, decimal}
use Rattle.mds_base.specs.declared.setup.Which.{Which}
use Rattle.mds_base.specs.declared.setup.Which.TheVariants.{Events, Rows, Lines, Moment, Directories}
use Rattle.mds_base.specs.declared.store_fault.StoreFault.{StoreFault}
use Rattle.mds_base.specs.declared.store_fault.StoreFault.TheVariants as faults
use Rattle.interpreter.specs.declared.interpreter.Halt.{Halt}
use Rattle.interpreter.specs.declared.interpreter.Halt.TheVariants as halts
use Rattle.mds_cli.specs.declared.status.Status.{Status}
use Rattle.mds_cli.specs.declared.status.Status.TheVariants.{Done, Usage, BadScript, ReadFault, WriteFault, OpenFault}
use Rattle.mds_cli.specs.declared.status.Status.TheVariants.{BadDisk, Limit, OutOfMemory}

abbrev pub code_of : Status → ℕ
code_of Done = 0
code_of Usage = 2
code_of (BadScript line) = 3
code_of ReadFault = 4
code_of WriteFault = 5
code_of (OpenFault server) = 6
code_of (BadDisk server file offset damage) = 7
code_of (Limit which) = 8
code_of OutOfMemory = 9

abbrev pub limit_text : Which → List ℕ
limit_text Events = codes "events"
limit_text Rows = codes "rows"
limit_text Lines = codes "lines"
limit_text Moment = codes "moment"
limit_text Directories = codes "directories"

abbrev pub status_text : Status → List ℕ
status_text Done = codes "done"
status_text Usage = codes "usage"
status_text (BadScript line) = codes "bad script at line " ++ decimal line
status_text ReadFault = codes "read fault"
status_text WriteFault = codes "write fault"
status_text (OpenFault server) = codes "server " ++ decimal server ++ codes " did not open"
status_text (BadDisk server file offset damage) =
    codes "damaged disk of server " ++ decimal server ++ codes ", file " ++ decimal file ++ codes ", place "
    ++ decimal offset
status_text (Limit which) = codes "limit " ++ limit_text which
status_text OutOfMemory = codes "out of memory"

-- the status with which a run ends that was halted within a line
abbrev pub status_of_halt : Halt → Status
status_of_halt (halts.Limit which) = Limit which
status_of_halt (halts.Damaged server file offset damage) = BadDisk server file offset damage
status_of_halt halts.OutOfMemory = OutOfMemory

-- the status with which a run ends whose servers were not opened
abbrev pub status_of_fault : ℕ → StoreFault → Status
status_of_fault server faults.Device = OpenFault server
status_of_fault server (faults.Damaged file offset damage) = BadDisk server file offset damage
status_of_fault server fault = OutOfMemory
