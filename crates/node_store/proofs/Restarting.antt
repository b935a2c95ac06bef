-- What a restarted server is brought back with.
use Rattle.std.proofs.Common.{◌≡◌, ◌∙◌, sym, ap, subst, refl, ℕ, ◌<◌, ◌≤◌, length, take, List, [], ◌∷◌, ◌++◌, Bool, true, false, cond, nat_lt, leb, arith, Option, Some, None, unwrap_or, inl, inr, Result, Ok, Err, IfErr, OnErr, IsErrAnd}
use Rattle.std.proofs.lemmas.Bool.{le-ltb, lt-ltb, leb-true, leb-false}
use Rattle.std.proofs.lemmas.List.{take_all, length-append}
use Rattle.mds_base.specs.declared.setup.Setup.{Setup}
use Rattle.mds_base.specs.declared.store_fault.Damage.{Damage}
use Rattle.mds_base.specs.declared.store_fault.Damage.TheVariants as damages
use Rattle.mds_base.specs.declared.store_fault.StoreFault.{StoreFault}
use Rattle.mds_base.specs.declared.store_fault.StoreFault.TheVariants as faults
use Rattle.records.specs.declared.record.Record.{Record}
use Rattle.records.specs.Spelling.{IsHead, record_spelling}
use Rattle.gate_log.specs.declared.gate_log.LogFault.{LogFault}
use Rattle.gate_log.specs.declared.gate_log.LogFault.TheVariants as log_faults
use Rattle.gate_log.specs.Calls.{IsOpenAnswer}
use Rattle.gate_log.specs.Log.{HoldsLog, IsCutShort, log_bytes, log_length}
use Rattle.gate_log.specs.LogState.{LogState, IsLogOf, IsReady}
use Rattle.gate_log.specs.LogState as logs
use Rattle.gate_log.proofs.Frames.{longer}
use Rattle.gate_log.proofs.Lengths.{gate_place_is}
use Rattle.gate_log.proofs.Unique.{one_log}
use Rattle.mds_out.specs.Disk.{Image, Contents, Shows, StaysTold}
use Rattle.mds_out.specs.Known.{OnTold}
use Rattle.node_core.specs.Durable.{durable}
use Rattle.node_core.specs.Nodes.{NodeAndRows}
use Rattle.node_core.specs.Serving.{replayed_all}
use Rattle.node_store.specs.Damage.{IsDamagedAtRestart}
use Rattle.node_store.specs.Reading.{IsRefusal, IsBad, IsBadAtRestart, store_fault_of}
use Rattle.node_store.specs.Serve.{IsAllOrNone}
use Rattle.node_store.specs.Stands.{StandFor, StandsForNone, IsNewFile, all_follow, head_of}
use Rattle.node_store.specs.Store.{HoldsStore, HasDoubt, LeavesDoubt}
use Rattle.node_store.proofs.OpeningLaws.{stand_once, not_damaged}
use Rattle.node_store.proofs.ReadingLogs.{refused_more, long_enough}
use Rattle.node_store.proofs.Standing.{stand_more}

-- ---- what the exit of a `?` returns

pub err_at : {T E : Type 0} (r : Result T E) (e : E) (P : E → Type 0) → IsErrAnd r (λ x. x ≡ e) → P e → IfErr r P
err_at (Ok x) e P is p = tt
err_at (Err x) e P is p = subst P (sym is) p

pub on_err : {T E : Type 0} (r : Result T E) (P : Type 0) → P → OnErr r P
on_err (Ok x) P p = tt
on_err (Err e) P p = p

-- ---- what a disk tells is what some image has

reading : (told : Option (List ℕ)) → OnTold told (λ bytes. unwrap_or told [] ≡ bytes)
reading None = tt
reading (Some bytes) = refl

abbrev as_read : Contents → Image
as_read seen file = unwrap_or (seen file) []

-- the file that is told is that of an image
pub told_image : (seen : Contents) (images : Image → Type 0) → ((image : Image) → Shows seen image → images image) → OnTold (seen 1) (λ bytes. (image : Image) × images image × (image 1 ≡ bytes))
told_image seen images reads = at (seen 1) (reading (seen 1))
  where
    here : images (as_read seen)
    here = reads (as_read seen) (λ file. reading (seen file))

    at : (told : Option (List ℕ)) → OnTold told (λ bytes. as_read seen 1 ≡ bytes) → OnTold told (λ bytes. (image : Image) × images image × (image 1 ≡ bytes))
    at None is = tt
    at (Some bytes) is = (as_read seen, here, is)

-- ---- how many records were kept

abbrev pub kept_of : ℕ → ℕ → List Record → ℕ
kept_of before after doubt = cond (nat_lt before after) (length doubt) 0

all_or_none : (b : Bool) (doubt : ℕ) → IsAllOrNone (cond b doubt 0) doubt
all_or_none true doubt = inr refl
all_or_none false doubt = inl refl

pub all_or_none_kept : (before after kept : ℕ) (doubt : List Record) → kept ≡ kept_of before after doubt → IsAllOrNone kept (length doubt)
all_or_none_kept before after kept doubt is = subst (λ (k : ℕ). IsAllOrNone k (length doubt)) (sym is) (all_or_none (nat_lt before after) (length doubt))

none_kept : (before after : ℕ) (doubt : List Record) → after ≡ before → take (kept_of before after doubt) doubt ≡ []
none_kept before after doubt same = ap (λ (b : Bool). take (cond b (length doubt) 0) doubt) (le-ltb before after (omega arith))

all_kept : (before after : ℕ) (doubt : List Record) → before < after → take (kept_of before after doubt) doubt ≡ doubt
all_kept before after doubt more = ap (λ (b : Bool). take (cond b (length doubt) 0) doubt) (lt-ltb before after more) ∙ take_all (length doubt) doubt (omega arith)

module _ (server : ℕ) (setup : Setup) (store new : NodeAndRows) (doubt : List Record) (bodies : List (List ℕ)) (s : StandFor server setup bodies store) (follow : all_follow store doubt ≡ true) (before after : ℕ) (ends : before ≡ log_length bodies) where
  -- the log holds the bodies with the records in doubt, or without
  kept_bodies : (file : List ℕ) (has : List (List ℕ)) → after ≡ log_length has → HoldsLog has file → StandFor server setup has new → HasDoubt bodies doubt file → durable new ≡ durable (replayed_all store (take (kept_of before after doubt) doubt))
  kept_bodies file has ends' holds stands (inl old) =
      let same = one_log has bodies file holds old in
      stand_once server setup has bodies new store same stands s ∙ ap (λ items. durable (replayed_all store items)) (sym (none_kept before after doubt (ends' ∙ ap log_length same ∙ sym ends)))
  kept_bodies file has ends' holds stands (inr more) =
      let whole = bodies ++ more.0 ∷ [] in
      let same = one_log has whole file holds more.2 in
      let size = longer bodies more.0 in
      stand_once server setup has whole new (replayed_all store doubt) same stands (stand_more server setup bodies store more.0 doubt s more.1 follow)
      ∙ ap (λ items. durable (replayed_all store items)) (sym (all_kept before after doubt (omega (arith, ends', ap log_length same, ends, size))))

module _ (server : ℕ) (setup : Setup) (log : LogState) (store : NodeAndRows) (doubt : List Record) where
  -- what a restart brings back, where the disk tells it
  pub brought_back : (told told' : Option (List ℕ)) (images : Image → Type 0) (log' : LogState) (new : NodeAndRows) (kept : ℕ) → StaysTold told told' → kept ≡ kept_of log.length log'.length doubt → OnTold told' (λ bytes. (image : Image) × images image × (image 1 ≡ bytes))
      → OnTold told' (HoldsStore server setup log' new) → OnTold told (λ _. LeavesDoubt images server setup log store doubt) → OnTold told' (λ _. durable new ≡ durable (replayed_all store (take kept doubt)))
  brought_back None None images log' new kept stays is left holds owed = tt
  brought_back None (Some bytes) images log' new kept stays is left holds owed = absurd stays
  brought_back (Some before) None images log' new kept stays is left holds owed = tt
  brought_back (Some before) (Some bytes) images log' new kept stays is left holds owed =
      let has : HasDoubt owed.bodies doubt bytes = subst (HasDoubt owed.bodies doubt) left.2 (owed.each left.0 left.1) in
      kept_bodies server setup store new doubt owed.bodies owed.stands owed.follow log.length log'.length owed.ends bytes holds.bodies holds.is.ends holds.is.holds holds.stands has
      ∙ ap (λ (k : ℕ). durable (replayed_all store (take k doubt))) (sym is)

  -- a disk that a refused restart left owes what it owed
  pub still_owed : (told told' : Option (List ℕ)) (images images' : Image → Type 0) → StaysTold told told' → ((image : Image) → images' image → images image) → OnTold told (λ _. LeavesDoubt images server setup log store doubt) → OnTold told' (λ _. LeavesDoubt images' server setup log store doubt)
  still_owed None None images images' stays old owed = tt
  still_owed None (Some bytes) images images' stays old owed = absurd stays
  still_owed (Some before) None images images' stays old owed = tt
  still_owed (Some before) (Some bytes) images images' stays old owed = record { bodies = owed.bodies; stands = owed.stands; ends = owed.ends; follow = owed.follow; each = λ image now. owed.each image (old image now) }

-- ---- logs that are damaged

no_body : (bodies : List (List ℕ)) → log_length bodies ≤ 1 → bodies ≡ []
no_body [] few = refl
no_body (body ∷ bodies) few = absurd (omega arith)

-- at a restart the head is missed
new_stands_not : (server : ℕ) (setup : Setup) (file : List ℕ) → IsNewFile file → StandsForNone server setup file
new_stands_not server setup file (inl few) bodies store holds stands =
    absurd (let long = long_enough (record_spelling (head_of server setup)) file stands.rest (subst (λ bs. HoldsLog bs file) stands.head holds) in omega (arith, few, long))
new_stands_not server setup file (inr none) bodies store holds stands =
    let same : [] ≡ record_spelling (head_of server setup) ∷ stands.rest = one_log [] bodies file none holds ∙ stands.head in
    cc

pub at_restart_stands_not : (server : ℕ) (setup : Setup) (file : List ℕ) (offset : ℕ) (damage : Damage) → IsHead 1 setup.servers server setup.threshold → IsDamagedAtRestart server setup file offset damage → StandsForNone server setup file
at_restart_stands_not server setup file offset damage head (inl bad) = λ bodies store holds stands. not_damaged server setup file store offset damage head (inr (bodies, holds, stands)) bad
at_restart_stands_not server setup file offset damage head (inr new) = new_stands_not server setup file new.0

-- a log that has no body
pub headless : (told : Option (List ℕ)) (server : ℕ) (setup : Setup) (log : LogState) (images : Image → Type 0) → log.length ≤ 1 → OnTold told (logs.IsKept log images) → OnTold told (IsBadAtRestart server setup 0 damages.Spelling)
headless None server setup log images few kept = tt
headless (Some bytes) server setup log images few kept = inr (inr (subst (λ bs. HoldsLog bs bytes) (no_body kept.bodies (omega (arith, kept.is.ends))) kept.is.holds), refl, refl)

-- one that is cut short
first_cut : (bytes : List ℕ) (offset : ℕ) → IsCutShort bytes offset → length bytes < 2 → offset ≡ 0
first_cut bytes offset short few = by short.bodies short.split short.place_is
  where
    by : (bodies : List (List ℕ)) → bytes ≡ log_bytes bodies ++ short.rest → offset ≡ length (log_bytes bodies) → offset ≡ 0
    by [] split is = is
    by (body ∷ bodies) split is = absurd (let all = ap length split in let size = length-append (log_bytes (body ∷ bodies)) short.rest in let long = gate_place_is (body ∷ bodies) in omega (arith, few, all, size, long))

pub cut_short : (told : Option (List ℕ)) (server : ℕ) (setup : Setup) (offset : ℕ) → OnTold told (λ bytes. IsCutShort bytes offset) → OnTold told (IsBadAtRestart server setup offset damages.Spelling)
cut_short None server setup offset short = tt
cut_short (Some bytes) server setup offset short = by (leb 2 (length bytes)) refl
  where
    by : (long : Bool) → leb 2 (length bytes) ≡ long → IsDamagedAtRestart server setup bytes offset damages.Spelling
    by true is = inl (leb-true 2 (length bytes) is, inl short)
    by false is = let few = leb-false 2 (length bytes) is in inr (inl few, first_cut bytes offset short few, refl)

pub log_refused : (told told' : Option (List ℕ)) → told' ≡ told → (server : ℕ) (setup : Setup) (fault : LogFault) → IsOpenAnswer {T = LogState} told (Err fault) → IsRefusal (IsBadAtRestart server setup) told' (store_fault_of fault)
log_refused told told' same server setup log_faults.Device answer = tt
log_refused told told' same server setup log_faults.Stopped answer = answer
log_refused told told' same server setup (log_faults.BadLog place) answer = (refl, subst (λ (t : Option (List ℕ)). OnTold t (IsBadAtRestart server setup place damages.Spelling)) (sym same) (cut_short told server setup place answer))
log_refused told told' same server setup log_faults.OutOfMemory answer = tt

pub read_refused : (told told' : Option (List ℕ)) → told' ≡ told → (server : ℕ) (setup : Setup) (fault : StoreFault) → IsRefusal (IsBad server setup) told fault → IsRefusal (IsBadAtRestart server setup) told' fault
read_refused told told' same server setup fault is =
    subst (λ (t : Option (List ℕ)). IsRefusal (IsBadAtRestart server setup) t fault) (sym same) (refused_more (IsBad server setup) (IsBadAtRestart server setup) told fault (λ place damage bytes bad. inl bad) is)

-- ---- a disk that owes a store is not damaged

module _ (server : ℕ) (setup : Setup) (log : LogState) (store : NodeAndRows) (doubt : List Record) where
  doubt_stands : (bodies : List (List ℕ)) (file : List ℕ) → StandFor server setup bodies store → all_follow store doubt ≡ true → HasDoubt bodies doubt file → StandsForNone server setup file → ⊥
  doubt_stands bodies file s follow (inl old) none = none bodies store old s
  doubt_stands bodies file s follow (inr more) none = none (bodies ++ more.0 ∷ []) (replayed_all store doubt) more.2 (stand_more server setup bodies store more.0 doubt s more.1 follow)

  pub not_bad : (told told' : Option (List ℕ)) (images : Image → Type 0) (fault : StoreFault) → StaysTold told told' → OnTold told' (λ bytes. (image : Image) × images image × (image 1 ≡ bytes)) → OnTold told (λ _. LeavesDoubt images server setup log store doubt)
      → IsHead 1 setup.servers server setup.threshold → IsRefusal (IsBadAtRestart server setup) told' fault → IsRefusal (λ _ _ _. ⊥) told' fault
  not_bad told told' images faults.Device stays left owed head is = is
  not_bad told told' images faults.Stopped stays left owed head is = is
  not_bad None None images (faults.Damaged file place damage) stays left owed head is = is
  not_bad None (Some bytes) images (faults.Damaged file place damage) stays left owed head is = absurd stays
  not_bad (Some before) None images (faults.Damaged file place damage) stays left owed head is = is
  not_bad (Some before) (Some bytes) images (faults.Damaged file place damage) stays left owed head is =
      absurd (doubt_stands owed.bodies bytes owed.stands owed.follow (subst (HasDoubt owed.bodies doubt) left.2 (owed.each left.0 left.1)) (at_restart_stands_not server setup bytes place damage head is.1))
  not_bad told told' images faults.Room stays left owed head is = is
  not_bad told told' images faults.OutOfMemory stays left owed head is = is
