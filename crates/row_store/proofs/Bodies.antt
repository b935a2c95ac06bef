-- What is read of the log and of the state in force.
use Rattle.std.proofs.Common.{◌≡◌, ◌∙◌, sym, ap, subst, refl, ℕ, ◌+◌, ◌<◌, List, [], ◌∷◌, ◌++◌, append_assoc, length, take, drop, Option, Some, None, Bool, true, false, Err, arith}
use Rattle.std.specs.Prelude.{IsSome, IfSome, MatchOption, unwrap_or}
use Rattle.std.proofs.lemmas.List.{append-nil, length-append}
use Rattle.gate_log.specs.Calls.{IsSomeGate, IsGateAt, IsReplayed}
use Rattle.gate_log.specs.Log.{gate_place}
use Rattle.gate_log.specs.LogState.{LogState, IsLogOf}
use Rattle.gate_log.specs.Refusals.{IsReplayRefusal}
use Rattle.gate_log.specs.declared.gate_log.LogFault.{LogFault}
use Rattle.gate_log.specs.declared.gate_log.LogFault.TheVariants as log_faults
use Rattle.md5.specs.Md5.{md5}
use Rattle.mds_base.specs.RowKeys.{RowMap}
use Rattle.mds_base.specs.declared.store_fault.Damage.{Damage}
use Rattle.mds_base.specs.declared.store_fault.Damage.TheVariants as damages
use Rattle.mds_base.specs.declared.store_fault.StoreFault.{StoreFault}
use Rattle.mds_base.specs.declared.store_fault.StoreFault.TheVariants.{Device, Stopped, Damaged, Room, OutOfMemory}
use Rattle.mds_out.specs.Disk.{Image, Contents, Lengths, IsUnchanged}
use Rattle.mds_out.specs.Known.{OnTold}
use Rattle.root_slots.specs.declared.root.Root.{Root}
use Rattle.row_store.specs.declared.row_store.InForce.{InForce}
use Rattle.row_store.specs.declared.row_store.RowStore.{RowStore}
use Rattle.row_store.specs.Answers.{log_fault_of, IsCopyAnswer}
use Rattle.row_store.specs.Damages.{IsRefusal, IsStateBad}
use Rattle.row_store.specs.Store.{Kept, HoldsState, TellsAll, reading}
use Rattle.row_store.specs.Value.{IsOpenOn, KeepsBy, Keeps, IsReady, HasRoot, IsReadUpTo, ReadsOn, state_of, stops_by}
use Rattle.sorted_table.proofs.Verdicts.{md5_length}
use Rattle.row_store.proofs.Appends.{keeps_same, ready_same}
use Rattle.row_store.proofs.Told.{told_is, to_told}

-- ---- bodies that are read

-- the store with the same log back in its place, on a disk on which nothing changed
module _ (store : RowStore) (root : Root) (log log' : LogState) (stopped : Bool) (seen seen' : Contents) (sizes sizes' : Lengths) (was : store.force ≡ Some (record { root = root; log = log })) (same : log' ≡ log) (unchanged : IsUnchanged seen seen' sizes sizes') where
  abbrev back : RowStore
  back = record store { force = Some (record { root = root; log = log' }); stopped = stopped }

  back_is : record store { stopped = stopped } ≡ back
  back_is =
      let P : Option InForce → RowStore = λ force. record store { force = force; stopped = stopped } in
      let Q : LogState → RowStore = λ l. record store { force = Some (record { root = root; log = l }); stopped = stopped } in
      ap P was ∙ ap Q (sym same)

  pub keeps_read : (kept : Option Kept) (rows : RowMap) → Keeps store kept rows (reading seen) → Keeps (record store { force = Some (record { root = root; log = log' }); stopped = stopped }) kept rows (reading seen')
  keeps_read kept rows keeps = let P : RowStore → Type 0 = λ s. Keeps s kept rows (reading seen') in
      subst P back_is (keeps_same store store.pool stopped seen seen' sizes sizes' kept rows unchanged keeps)

  pub ready_read : (images images' : Image → Type 0) → ((image : Image) → images' image → images image) → IsReady store seen sizes images → IsReady (record store { force = Some (record { root = root; log = log' }); stopped = stopped }) seen' sizes' images'
  ready_read images images' fewer ready = let P : RowStore → Type 0 = λ s. IsReady s seen' sizes' images' in
      subst P back_is (ready_same store store.pool stopped seen seen' sizes sizes' images images' unchanged fewer refl ready)

pub gate_on : (next : Option ℕ) (at : ℕ) (log log' : LogState) (seen : Contents) → log' ≡ log → MatchOption next (at + 1 ≡ log.length) (λ place. (at < place) × (place < log.length)) → IfSome next (λ place. OnTold (seen log.file) (IsSomeGate log place))
    → IfSome next (λ place. (place < log'.length) × OnTold (seen log'.file) (IsSomeGate log' place))
gate_on None at log log' seen same end gate = tt
gate_on (Some place) at log log' seen same end gate =
    let P : LogState → Type 0 = λ l. (place < l.length) × OnTold (seen l.file) (IsSomeGate l place) in
    subst P (sym same) (end.1, gate)

pub onward_on : (next : Option ℕ) (at : ℕ) (log : LogState) → MatchOption next (at + 1 ≡ log.length) (λ place. (at < place) × (place < log.length)) → IfSome next (λ place. at < place)
onward_on None at log end = tt
onward_on (Some place) at log end = end.0

-- what was read of the log is read of what is kept
pub reads_kept : (log : LogState) (told : Option (List ℕ)) (place : ℕ) (next : Option ℕ) (into : List ℕ) → IsSome told → ((before after : List (List ℕ)) → OnTold told (IsGateAt log place before after) → OnTold told (IsReplayed log before after next into))
    → (kept : Kept) → IsLogOf log kept.bodies (unwrap_or told []) → (read : List (List ℕ)) → IsReadUpTo kept place read → ReadsOn kept read next into
reads_kept log told place next into some gives kept is read upto =
    at upto.after next upto.bodies (told_is told (IsReplayed log read upto.after next into) some (gives read upto.after (to_told told (IsGateAt log place read upto.after)
    (record { is = subst (λ (bodies : List (List ℕ)). IsLogOf log bodies (unwrap_or told [])) upto.bodies is; place_is = upto.place_is }))))
  where
    at : (after : List (List ℕ)) (next : Option ℕ) → kept.bodies ≡ read ++ after → IsReplayed log read after next into (unwrap_or told []) → ReadsOn kept read next into
    at [] None bodies replayed = bodies ∙ append-nil read
    at [] (Some place') bodies replayed = absurd replayed
    at (body ∷ after) None bodies replayed = absurd replayed
    at (body ∷ after) (Some place') bodies replayed = record {
      after = after;
      bodies = bodies ∙ sym (append_assoc read (body ∷ []) after) ∙ ap (λ (b : List ℕ). (read ++ b ∷ []) ++ after) (sym replayed.0);
      place_is = replayed.1.place_is ∙ ap (λ (b : List ℕ). gate_place (read ++ b ∷ [])) (sym replayed.0);
    }

-- the same by the store
pub reads_store : (store : RowStore) (root : Root) (log : LogState) (seen : Contents) (place : ℕ) (next : Option ℕ) (into : List ℕ) → store.force ≡ Some (record { root = root; log = log })
    → ((before after : List (List ℕ)) → OnTold (seen log.file) (IsGateAt log place before after) → OnTold (seen log.file) (IsReplayed log before after next into))
    → TellsAll seen → (kept : Kept) (rows : RowMap) → Keeps store (Some kept) rows (reading seen) → (read : List (List ℕ)) → IsReadUpTo kept place read → ReadsOn kept read next into
reads_store store root log seen place next into was gives tells kept rows keeps =
    let by : IsOpenOn root log store.tables.items kept (reading seen) = subst (λ (force : Option InForce). KeepsBy force store.tables.items (Some kept) (reading seen)) was keeps.by in
    reads_kept log (seen log.file) place next into (tells log.file) gives kept (subst (λ (f : ℕ). IsLogOf log kept.bodies (reading seen f)) (sym by.log_file) by.bodies)

-- a replay that did not stop the store left the log as it was
pub replay_same : (seen : Option (List ℕ)) (old new : LogState) (into into' : List ℕ) (file : ℕ) (fault : LogFault) (before : Bool) → IsReplayRefusal seen old new into into' fault → stops_by (log_fault_of file fault) before ≡ false → new ≡ old
replay_same seen old new into into' file log_faults.Device before refused running = cc
replay_same seen old new into into' file log_faults.Stopped before refused running = refused.1
replay_same seen old new into into' file (log_faults.BadLog place) before refused running = refused.1
replay_same seen old new into into' file log_faults.OutOfMemory before refused running = refused.1

pub replay_answer : (T : Type 0) (told : Option (List ℕ)) (tells : Type 0) (old new : LogState) (into into' : List ℕ) (file : ℕ) (fault : LogFault) → (tells → IsSome told) → old.stopped ≡ false → IsReplayRefusal told old new into into' fault
    → IsCopyAnswer {T = T} tells (Err (log_fault_of file fault))
replay_answer T told tells old new into into' file log_faults.Device some running refused = tt
replay_answer T told tells old new into into' file log_faults.Stopped some running refused = let no : true ≡ false = sym refused.0 ∙ running in cc
replay_answer T told tells old new into into' file (log_faults.BadLog place) some running refused = λ all. none told (some all) refused.3
  where
    none : (told : Option (List ℕ)) → IsSome told → OnTold told (λ _. ⊥) → ⊥
    none None some is = cc
    none (Some bytes) some is = is
replay_answer T told tells old new into into' file log_faults.OutOfMemory some running refused = tt

-- ---- the state

md5_apart : (state other : List ℕ) → state ++ md5 state ≡ other ++ md5 other → state ≡ other
md5_apart state other same =
    let size : length state ≡ length other = omega (arith, ap length same, length-append state (md5 state), length-append other (md5 other), md5_length state, md5_length other) in
    sym (take_front state (md5 state)) ∙ ap (take (length state)) same ∙ ap (λ (n : ℕ). take n (other ++ md5 other)) size ∙ take_front other (md5 other)
  where
    take_front : (xs ys : List ℕ) → take (length xs) (xs ++ ys) ≡ xs
    take_front [] ys = refl
    take_front (x ∷ xs) ys = ap (λ (zs : List ℕ). x ∷ zs) (take_front xs ys)

pub one_state : (told : Option (List ℕ)) (state other : List ℕ) → IsSome told → HoldsState other (unwrap_or told []) → OnTold told (HoldsState state) → state ≡ other
one_state told state other some is read = md5_apart state other (sym (told_is told (HoldsState state) some read) ∙ is)

good_state : (state file : List ℕ) (place : ℕ) (wrong : Damage) → HoldsState state file → IsStateBad place wrong file → ⊥
good_state state file place damages.Spelling is bad = omega (arith, bad.1, ap length is, length-append state (md5 state), md5_length state)
good_state state file place (damages.Sum kept other) is bad =
    let size : place ≡ length state = omega (arith, bad.place_is, ap length is, length-append state (md5 state), md5_length state) in
    let front : take place file ≡ state = ap (take place) is ∙ ap (λ (n : ℕ). take n (state ++ md5 state)) size ∙ take_front state (md5 state) in
    let back : drop place file ≡ md5 state = ap (drop place) is ∙ ap (λ (n : ℕ). drop n (state ++ md5 state)) size ∙ drop_front state (md5 state) in
    bad.differ (bad.kept_is ∙ back ∙ sym (bad.other_is ∙ ap md5 front))
  where
    take_front : (xs ys : List ℕ) → take (length xs) (xs ++ ys) ≡ xs
    take_front [] ys = refl
    take_front (x ∷ xs) ys = ap (λ (zs : List ℕ). x ∷ zs) (take_front xs ys)

    drop_front : (xs ys : List ℕ) → drop (length xs) (xs ++ ys) ≡ ys
    drop_front [] ys = refl
    drop_front (x ∷ xs) ys = drop_front xs ys
good_state state file place (damages.Head kept wanted) is bad = bad

-- the state that a store keeps
pub state_kept : (store : RowStore) (kept : Kept) (rows : RowMap) (image : Image) → Keeps store (Some kept) rows image → HasRoot store → HoldsState kept.state (image (state_of store.force))
state_kept store kept rows image keeps root = at store.force root keeps.by
  where
    at : (force : Option InForce) → IsSome force → KeepsBy force store.tables.items (Some kept) image → HoldsState kept.state (image (state_of force))
    at None some by = absurd by
    at (Some force) some by = by.state

-- a refusal of it
pub state_refused : (store : RowStore) (seen : Contents) (fault : StoreFault) → HasRoot store → IsRefusal (λ file place wrong. (file ≡ state_of store.force) × OnTold (seen (state_of store.force)) (IsStateBad place wrong)) fault
    → IsRefusal (λ file place wrong. TellsAll seen → (kept : Kept) → (rows : RowMap) → Keeps store (Some kept) rows (reading seen) → ⊥) fault
state_refused store seen Device root is = tt
state_refused store seen Stopped root is = is
state_refused store seen (Damaged file place wrong) root is = λ tells kept rows keeps.
    good_state kept.state (reading seen (state_of store.force)) place wrong (state_kept store kept rows (reading seen) keeps root) (told_is (seen (state_of store.force)) (IsStateBad place wrong) (tells (state_of store.force)) is.1)
state_refused store seen Room root is = is
state_refused store seen OutOfMemory root is = tt
