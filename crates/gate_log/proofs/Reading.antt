-- Bodies that were read, one after another.
use Rattle.std.proofs.Common.{◌≡◌, ℕ, List, [], ◌∷◌, ◌++◌, Option, None, Some, refl, sym, subst}
use Rattle.std.proofs.lemmas.List.{append-nil}
use Rattle.mds_out.specs.Disk.{Image}
use Rattle.mds_out.specs.Known.{OnTold}
use Rattle.gate_log.specs.LogState.{LogState, IsLogOf, IsKept}
use Rattle.gate_log.specs.Calls.{IsGateAt, IsSomeGate, IsReplayed, HasRead, ReadsOn}

-- before the first one
pub none_read : (seen : Option (List ℕ)) (log : LogState) (images : Image → Type 0) → OnTold seen (IsKept log images) → OnTold seen (HasRead log 0 [])
none_read None log images kept = tt
none_read (Some bytes) log images kept = record { after = kept.bodies; at = record { is = kept.is; place_is = refl } }

-- the place up to which was read is that of a gate
pub some_gate : (seen : Option (List ℕ)) (log : LogState) (offset : ℕ) (read : List (List ℕ)) → OnTold seen (HasRead log offset read) → OnTold seen (IsSomeGate log offset)
some_gate None log offset read has = tt
some_gate (Some bytes) log offset read has = record { before = read; after = has.after; at = has.at }

replay_reads : (log : LogState) (next : Option ℕ) (into bytes : List ℕ) (read after : List (List ℕ)) → IsLogOf log (read ++ after) bytes → IsReplayed log read after next into bytes → ReadsOn log read next into bytes
replay_reads log None into bytes read [] is replayed = subst (λ bodies. IsLogOf log bodies bytes) (append-nil read) is
replay_reads log (Some next) into bytes read [] is replayed = absurd replayed
replay_reads log None into bytes read (body ∷ after) is replayed = absurd replayed
replay_reads log (Some next) into bytes read (body ∷ after) is replayed =
    subst (λ (one : List ℕ). HasRead log next (read ++ one ∷ []) bytes) (sym replayed.0) (record { after = after; at = replayed.1 })

-- what a replay gives at a gate is one body more, or the end
pub reads_on : (seen seen' : Option (List ℕ)) (log : LogState) (at : ℕ) (next : Option ℕ) (into : List ℕ) → seen' ≡ seen
    → ((before after : List (List ℕ)) → OnTold seen (IsGateAt log at before after) → OnTold seen (IsReplayed log before after next into))
    → (read : List (List ℕ)) → OnTold seen (HasRead log at read) → OnTold seen' (ReadsOn log read next into)
reads_on None seen' log at next into same given read has = subst (λ now. OnTold now (ReadsOn log read next into)) (sym same) tt
reads_on (Some bytes) seen' log at next into same given read has = subst (λ now. OnTold now (ReadsOn log read next into)) (sym same) (replay_reads log next into bytes read has.after has.at.is (given read has.after has.at))
