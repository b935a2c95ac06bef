-- Why a Serve was refused, and what that leaves.
use Rattle.std.specs.Prelude.{◌≡◌, ℕ, ◌≤◌, List, Result, IfErr, OnOk}
use Rattle.gate_log.specs.declared.gate_log.LogFault.{LogFault}
use Rattle.gate_log.specs.declared.gate_log.LogFault.TheVariants.{Device, Stopped, BadLog, OutOfMemory}
use Rattle.mds_base.specs.declared.store_fault.StoreFault.{StoreFault}
use Rattle.mds_base.specs.declared.store_fault.StoreFault.TheVariants as faults
use Rattle.mds_out.specs.Fault.{Rose}
use Rattle.records.specs.declared.record.Record.{Record}
use Rattle.node_store.specs.declared.serve.Refusal.{Refusal}
use Rattle.node_store.specs.declared.serve.Refusal.TheVariants.{Memory, Disk}

-- the disk failed, or found no memory
abbrev pub IsDisks : LogFault → Type 0
IsDisks Device = Unit {0}
IsDisks Stopped = ⊥
IsDisks (BadLog offset) = ⊥
IsDisks OutOfMemory = Unit {0}

abbrev pub AreDisks : Refusal → Type 0
AreDisks Memory = Unit {0}
AreDisks (Disk fault doubt) = IsDisks fault

-- P holds of the records in doubt, where there are some
abbrev pub InDoubt : Refusal → (List Record → Type 0) → Type 0
InDoubt Memory P = Unit {0}
InDoubt (Disk fault doubt) P = P doubt

abbrev pub IsDevice : Refusal → Type 0
IsDevice Memory = ⊥
IsDevice (Disk fault doubt) = fault ≡ Device

pub record HasRefusalCause {T : Type 0} (before now : ℕ) (result : Result T Refusal) : Type 0 where
  pub later : before ≤ now
  pub device : IfErr result (λ refusal. IsDevice refusal → Rose before now)
  pub other : IfErr result (λ refusal. (IsDevice refusal → ⊥) → now ≡ before)
  pub kept : OnOk result (now ≡ before)

-- a Serve is refused for want of memory, or because the disk failed
abbrev pub IsServeFault : StoreFault → Type 0
IsServeFault faults.Device = Unit {0}
IsServeFault faults.Stopped = ⊥
IsServeFault (faults.Damaged file offset damage) = ⊥
IsServeFault faults.Room = ⊥
IsServeFault faults.OutOfMemory = Unit {0}
