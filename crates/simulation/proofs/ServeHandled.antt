-- What serving a message gave, on any disk.
use Rattle.std.proofs.Common.{◌≡◌, refl, ℕ, List, [], ◌∷◌, Option, Some, None, Result, Ok, Err, IfOk, OnErr, inl, arith}
use Rattle.std.specs.Prelude.{◌⊎◌, IsErrOf}
use Rattle.std.specs.List.{slice_get}
use Rattle.mds_base.specs.declared.store_fault.StoreFault.{StoreFault}
use Rattle.mds_base.specs.declared.store_fault.StoreFault.TheVariants.{Device, OutOfMemory}
use Rattle.mds_out.specs.Disk.{Image, Contents, StaysTold}
use Rattle.records.specs.declared.handled.Handled.{Handled}
use Rattle.records.specs.declared.msg.Msg.{Msg}
use Rattle.node_core.specs.Nodes.{NodeAndRows}
use Rattle.node_core.specs.Serving.{serve}
use Rattle.node_store.specs.Disks.{IsStoreChanging}
use Rattle.node_store.specs.Serve.{IsMessage, IsOneMessage, HasServed, HasStopped}
use Rattle.node_store.specs.Store.{Store}
use Rattle.simulation.specs.Stores.{IsHandled}
use Rattle.simulation.proofs.ServeStep.{one_message}

still_told : (told : Option (List ℕ)) → StaysTold told told
still_told None = tt
still_told (Some bytes) = tt

module _ {X : Type 0} (seen : X → Contents) (images : X → Image → Type 0) (faults : X → ℕ) (leads fails_by : X → X → Type 0) (old new : Store X) where
  -- the message at a place of a list
  pub handled_in : (list : List Msg) (place now : ℕ) (result : Result Handled StoreFault) → (m : Msg) × (slice_get list place ≡ Some m) × IsMessage m
      → IfOk result (λ handled. (msg : Msg) → (up : NodeAndRows) → IsOneMessage list (place ∷ []) msg → old.up ≡ Some up → HasServed (serve up msg now) new.up handled)
      → OnErr result ((msg : Msg) → (up : NodeAndRows) → IsOneMessage list (place ∷ []) msg → old.up ≡ Some up → (new ≡ old) ⊎ HasStopped seen images new up (serve up msg now).records)
      → (IsErrOf result Device → new.up ≡ None) → (new.server ≡ old.server) × (new.setup ≡ old.setup) → StaysTold (seen old.disk 1) (seen new.disk 1)
      → IsStoreChanging faults leads fails_by old.disk new.disk result → IsHandled seen images faults leads fails_by old new (slice_get list place) now result
  handled_in list place now (Ok handled) one served refused down same told call =
      record { served = λ msg up there is. served msg up (one_message one msg there) is; refused = tt; down = down; same = same; told = told; call = call }
  handled_in list place now (Err fault) one served refused down same told call =
      record { served = tt; refused = λ msg up there is. refused msg up (one_message one msg there) is; down = down; same = same; told = told; call = call }

-- nothing was done for want of memory
pub not_handled : {X : Type 0} (seen : X → Contents) (images : X → Image → Type 0) (faults : X → ℕ) (leads fails_by : X → X → Type 0) (old : Store X) (asked : Option Msg) (now : ℕ)
    → leads old.disk old.disk → IsHandled seen images faults leads fails_by old old asked now (Err OutOfMemory)
not_handled seen images faults leads fails_by old asked now here =
    record {
      served = tt;
      refused = λ msg up there is. inl refl;
      down = λ e. cc;
      same = (refl, refl);
      told = still_told (seen old.disk 1);
      call = record {
        cause = record { later = omega arith; device = λ e. cc; other = λ differ. refl; kept = tt };
        lasts = here;
        failed = λ e. cc;
      };
    }
