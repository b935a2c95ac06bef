-- The parts of a flush stay while others are written.
use Rattle.std.specs.Prelude.{OnOk}
use Rattle.std.proofs.Common.{◌≢◌, ℕ, ◌≤◌, List, [], Result, Ok, Err}
use Rattle.gate_log.specs.LogState.{LogState, IsLogOf, HasBodies, IsElsewhereOld, open_log}
use Rattle.gate_log.specs.LogState as logs
use Rattle.mds_base.specs.declared.store_fault.StoreFault.{StoreFault}
use Rattle.mds_out.specs.Disk.{Image, Contents, Lengths}
use Rattle.row_store.specs.Answers.{IsStoreWriting}
use Rattle.row_store.specs.Leaving.{IsOldIn}
use Rattle.row_store.specs.Parts.{AreBegun}
use Rattle.row_store.specs.Store.{HoldsState}
use Rattle.row_store.proofs.Free.{told_kept, durable_kept, log_kept}
use Rattle.sorted_table.specs.Tables.{IsDurable}
use Rattle.mds_out.specs.Known.{OnTold}

pub both_ok : {T E : Type 0} (r : Result T E) (P Q R : Type 0) → (P → Q → R) → OnOk r P → OnOk r Q → OnOk r R
both_ok (Ok x) P Q R join p q = join p q
both_ok (Err e) P Q R join p q = tt

module _ {D : Type 0} {seen : D → Contents} {sizes : D → Lengths} {images : D → Image → Type 0} {moment : D → ℕ} {since : D → ℕ → Image → Type 0} {faults : D → ℕ} {leads fails_by : D → D → Type 0} where
  module _ {T : Type 0} (r : Result T StoreFault) (file : ℕ) (a b : D) (counts : (t : ℕ) (image : Image) → t ≤ moment b → images b image → since b t image) (writes : IsStoreWriting seen sizes images moment since faults leads fails_by file a b r) where
    left : (crashed : Image) → images b crashed → IsOldIn (λ other. other ≢ file) (images a) crashed
    left crashed now =
        let e = writes.any_moment.each crashed (counts (moment a) crashed writes.any_moment.later now) in
        record { before = e.before; was = e.was; same = e.others }

    -- a log was made in another file
    pub begun_with : (state_file : ℕ) (state : List ℕ) → state_file ≢ file → OnTold (seen a state_file) (HoldsState state) → IsDurable state_file (seen a) (images a) → logs.IsReady (open_log file 1) (seen b) (sizes b) (images b) → HasBodies (open_log file 1) (seen b) []
        → AreBegun state_file file state (seen b) (sizes b) (images b)
    begun_with state_file state apart written durable log_ready empty = record {
      written = told_kept (λ other. other ≢ file) (seen a) (seen b) (sizes a) (sizes b) (images a) (images b) writes.elsewhere.bytes writes.elsewhere.lengths left state_file (HoldsState state) apart written;
      state_durable = durable_kept (λ other. other ≢ file) (seen a) (seen b) (sizes a) (sizes b) (images a) (images b) writes.elsewhere.bytes writes.elsewhere.lengths left state_file apart durable;
      log_ready = log_ready;
      empty = empty;
    }

    -- both stay
    pub begun_on : (state_file log_file : ℕ) (state : List ℕ) → state_file ≢ file → log_file ≢ file → AreBegun state_file log_file state (seen a) (sizes a) (images a) → AreBegun state_file log_file state (seen b) (sizes b) (images b)
    begun_on state_file log_file state apart apart' begun = record {
      written = told_kept (λ other. other ≢ file) (seen a) (seen b) (sizes a) (sizes b) (images a) (images b) writes.elsewhere.bytes writes.elsewhere.lengths left state_file (HoldsState state) apart begun.written;
      state_durable = durable_kept (λ other. other ≢ file) (seen a) (seen b) (sizes a) (sizes b) (images a) (images b) writes.elsewhere.bytes writes.elsewhere.lengths left state_file apart begun.state_durable;
      log_ready = log_kept (λ other. other ≢ file) (seen a) (seen b) (sizes a) (sizes b) (images a) (images b) writes.elsewhere.bytes writes.elsewhere.lengths left (open_log log_file 1) apart' begun.log_ready;
      empty = told_kept (λ other. other ≢ file) (seen a) (seen b) (sizes a) (sizes b) (images a) (images b) writes.elsewhere.bytes writes.elsewhere.lengths left log_file (IsLogOf (open_log log_file 1) []) apart' begun.empty;
    }
