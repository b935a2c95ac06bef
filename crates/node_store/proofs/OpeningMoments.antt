-- What the calls of an opening leave of file 1 at each moment, and after them.
use Rattle.std.proofs.Common.{◌≡◌, ◌∙◌, sym, subst, refl, ℕ, ◌≤◌, List, [], ◌∷◌, ◌++◌, map, arith, Option, Some, None, Result, Ok, Err, IfErr, IsErrAnd, inl, inr, ◌⊎◌}
use Rattle.std.proofs.lemmas.List.{append-nil}
use Rattle.mds_base.specs.RowKeys.{RowMap}
use Rattle.mds_base.specs.declared.setup.Setup.{Setup}
use Rattle.mds_base.specs.declared.store_fault.StoreFault.{StoreFault}
use Rattle.mds_base.specs.declared.store_fault.StoreFault.TheVariants as faults
use Rattle.mds_out.specs.Disk.{Image, Contents, Lengths, LeavesOnly, Shows, StaysTold}
use Rattle.mds_out.specs.Known.{OnKnown, OnTold}
use Rattle.mds_out.proofs.Moments.{leaves_weaker, both}
use Rattle.records.specs.declared.record.Record.TheVariants.{Opened}
use Rattle.records.specs.Spelling.{record_spelling}
use Rattle.gate_log.specs.Log.{HoldsLog, IsBeforeOrAfter, log_length}
use Rattle.gate_log.specs.LogState as logs
use Rattle.gate_log.specs.LogState.{LogState, IsLogOf, IsReady, HasBodies}
use Rattle.node_core.specs.Nodes.{NodeV, NodeAndRows}
use Rattle.node_store.specs.Opening.{StandsLike, StandAlike, IsAsBefore, IsOpenLog}
use Rattle.node_store.specs.Reading.{IsRefusal, IsBad}
use Rattle.node_store.specs.Stands.{FileStandsFor, IsBody, head_of, new_store, opened_store}
use Rattle.node_store.specs.Store.{HoldsStore, IsKept, KeepsAny, StandsForAny, StandsForEither}
use Rattle.node_core.specs.Durable.{durable}
use Rattle.node_core.proofs.Durably.{new_durably}
use Rattle.node_store.proofs.OpeningLaws.{one_store}
use Rattle.node_store.proofs.ReadingLogs.{stand_first}
use Rattle.node_store.proofs.StandingAlike.{file_alike, opened_alike, new_stands}

-- the file stands for each store for which the bytes stand once it was opened
abbrev pub StandsOpened : ℕ → Setup → List ℕ → List ℕ → Type 0
StandsOpened server setup bytes file = (store : NodeAndRows) → FileStandsFor server setup bytes store → FileStandsFor server setup file (opened_store store)

-- an image is one from before, or stands for what the bytes stand for, or for what they stand for once it was opened
abbrev pub IsAsOpened : ℕ → Setup → (Image → Type 0) → List ℕ → Image → Type 0
IsAsOpened server setup old bytes image = IsAsBefore server setup old bytes image ⊎ StandsOpened server setup bytes (image 1)

-- ---- the first body of a log

none_held : (bodies : List (List ℕ)) → log_length bodies ≡ 1 → bodies ≡ []
none_held [] one = refl
none_held (body ∷ bodies) one = absurd (omega (arith, one))

no_body : (seen : Option (List ℕ)) (log : LogState) (images : Image → Type 0) → log.length ≡ 1 → OnTold seen (logs.IsKept log images) → OnTold seen (IsLogOf log [])
no_body None log images one kept = tt
no_body (Some bytes) log images one kept = subst (λ (b : List (List ℕ)). IsLogOf log b bytes) (none_held kept.bodies (sym kept.is.ends ∙ one)) kept.is

-- a file that holds no body, or the head alone, stands for what one that holds no body stands for
like_first : (server : ℕ) (setup : Setup) (body bytes file : List ℕ) → body ≡ record_spelling (head_of server setup) → HoldsLog [] bytes → IsBeforeOrAfter [] body file → StandsLike server setup bytes file
like_first server setup body bytes file is none (inl before) = λ store stands. inl (inr before, one_store server setup bytes store (new_store server setup) stands (inl (inr none, new_durably server setup)) ∙ new_durably server setup)
like_first server setup body bytes file is none (inr after) = λ store stands.
    file_alike server setup (new_store server setup) store (sym (one_store server setup bytes store (new_store server setup) stands (inl (inr none, new_durably server setup)))) file (inr (body ∷ [], after, stand_first server setup body is))

module _ (server : ℕ) (setup : Setup) (body : List ℕ) (is : body ≡ record_spelling (head_of server setup)) where
  first_holds : (seen seen' : Option (List ℕ)) (old new : LogState) → StaysTold seen seen' → OnTold seen (IsLogOf old []) → ((bodies : List (List ℕ)) → OnTold seen (IsLogOf old bodies) → OnTold seen' (IsLogOf new (bodies ++ body ∷ [])))
      → OnTold seen' (HoldsStore server setup new (new_store server setup))
  first_holds None None old new told none appended = tt
  first_holds None (Some bytes) old new told none appended = absurd told
  first_holds (Some bytes) None old new told none appended = tt
  first_holds (Some bytes) (Some bytes') old new told none appended = record { bodies = body ∷ []; is = appended [] none; stands = stand_first server setup body is }

  -- after the append of the head the disk keeps the new store
  pub first_kept : (seen seen' : Contents) (sizes sizes' : Lengths) (images images' : Image → Type 0) (old new : LogState) → IsOpenLog old seen sizes images → old.length ≡ 1
      → new.file ≡ old.file → new.stopped ≡ old.stopped → IsReady new seen' sizes' images' → StaysTold (seen old.file) (seen' old.file)
      → ((bodies : List (List ℕ)) → HasBodies old seen bodies → HasBodies new seen' (bodies ++ body ∷ []))
      → (node : NodeV) (rows : RowMap) → node ≡ (new_store server setup).node → rows ≡ (new_store server setup).rows → IsKept seen' sizes' images' server setup new (record { node = node; rows = rows })
  first_kept seen seen' sizes sizes' images images' old new unclosed one file stopped ready told appended node rows node_is rows_is =
      let at = λ (n : NodeV) (r : RowMap). IsKept seen' sizes' images' server setup new (record { node = n; rows = r }) in
      let new_file : new.file ≡ 1 = file ∙ unclosed.file in
      let none = no_body (seen old.file) old images one unclosed.ready.told in
      let here : OnTold (seen' old.file) (HoldsStore server setup new (new_store server setup)) =
      first_holds (seen old.file) (seen' old.file) old new told none (subst (λ (f : ℕ). (bodies : List (List ℕ)) → OnTold (seen old.file) (IsLogOf old bodies) → OnTold (seen' f) (IsLogOf new (bodies ++ body ∷ []))) file appended) in
      let kept : IsKept seen' sizes' images' server setup new (new_store server setup) =
      record { file = new_file; running = stopped ∙ unclosed.running; ready = ready; holds = subst (λ (f : ℕ). OnTold (seen' f) (HoldsStore server setup new (new_store server setup))) unclosed.file here } in
      subst (λ (n : NodeV). at n rows) (sym node_is) (subst (at (new_store server setup).node) (sym rows_is) kept)

  first_moment : {D : Type 0} (moment : D → ℕ) (since : D → ℕ → Image → Type 0) (a b : D) (images : Image → Type 0) (seen : Option (List ℕ)) (log : LogState) → OnTold seen (IsLogOf log [])
      → ((bodies : List (List ℕ)) → OnTold seen (IsLogOf log bodies) → OnTold seen (λ _. LeavesOnly moment since a b (λ image. IsBeforeOrAfter bodies body (image 1)))) → OnTold seen (λ bytes. LeavesOnly moment since a b (IsAsBefore server setup images bytes))
  first_moment moment since a b images None log none any = tt
  first_moment moment since a b images (Some bytes) log none any =
      leaves_weaker moment since a b (λ image. IsBeforeOrAfter [] body (image 1)) (IsAsBefore server setup images bytes) (λ image left. inr (like_first server setup body bytes (image 1) is none.holds left)) (any [] none)

  -- a crash at any moment of that append leaves no body, or the head alone
  pub first_moments : {D : Type 0} (moment : D → ℕ) (since : D → ℕ → Image → Type 0) (a b : D) (seen : Contents) (sizes : Lengths) (images : Image → Type 0) (log : LogState) → IsOpenLog log seen sizes images → log.length ≡ 1
      → ((bodies : List (List ℕ)) → HasBodies log seen bodies → OnTold (seen log.file) (λ _. LeavesOnly moment since a b (λ image. IsBeforeOrAfter bodies body (image log.file)))) → OnTold (seen 1) (λ bytes. LeavesOnly moment since a b (IsAsBefore server setup images bytes))
  first_moments moment since a b seen sizes images log unclosed one any =
      first_moment moment since a b images (seen 1) log (subst (λ (f : ℕ). OnTold (seen f) (IsLogOf log [])) unclosed.file (no_body (seen log.file) log images one unclosed.ready.told))
      (subst (λ (f : ℕ). (bodies : List (List ℕ)) → OnTold (seen f) (IsLogOf log bodies) → OnTold (seen f) (λ _. LeavesOnly moment since a b (λ image. IsBeforeOrAfter bodies body (image f)))) unclosed.file any)

none_stands : (server : ℕ) (setup : Setup) (told : Option (List ℕ)) (log : LogState) → OnTold told (IsLogOf log []) → OnTold told (λ bytes. FileStandsFor server setup bytes (new_store server setup))
none_stands server setup None log none = tt
none_stands server setup (Some bytes) log none = new_stands server setup bytes (inr none.holds)

-- before that append the bytes stand for the new store
pub first_stands : (server : ℕ) (setup : Setup) (seen : Contents) (sizes : Lengths) (images : Image → Type 0) (log : LogState) → IsOpenLog log seen sizes images → log.length ≡ 1
    → (node : NodeV) (rows : RowMap) → node ≡ (new_store server setup).node → rows ≡ (new_store server setup).rows → OnTold (seen 1) (λ bytes. FileStandsFor server setup bytes (record { node = node; rows = rows }))
first_stands server setup seen sizes images log unclosed one node rows node_is rows_is =
    let at = λ (n : NodeV) (r : RowMap). OnTold (seen 1) (λ bytes. FileStandsFor server setup bytes (record { node = n; rows = r })) in
    let none : OnTold (seen 1) (IsLogOf log []) = subst (λ (f : ℕ). OnTold (seen f) (IsLogOf log [])) unclosed.file (no_body (seen log.file) log images one unclosed.ready.told) in
    subst (λ (n : NodeV). at n rows) (sym node_is) (subst (at (new_store server setup).node) (sym rows_is) (none_stands server setup (seen 1) log none))

-- ---- the body that begins a run

pub opened_body : (body : List ℕ) → body ≡ record_spelling Opened → IsBody body (Opened ∷ [])
opened_body body is = record { some = omega arith; each = (tt, tt); spelled = is ∙ sym (append-nil (record_spelling Opened)) }

-- ---- one run of calls after another

module _ {D : Type 0} (moment : D → ℕ) (since : D → ℕ → Image → Type 0) (server : ℕ) (setup : Setup) where
  synced_one : (old mid new : D) (seen : Option (List ℕ)) (images images' : Image → Type 0) → LeavesOnly moment since old mid images → ((image : Image) → images' image → images image)
      → OnTold seen (λ bytes. LeavesOnly moment since mid new (IsAsBefore server setup images' bytes)) → OnTold seen (λ bytes. LeavesOnly moment since old new (IsAsBefore server setup images bytes))
  synced_one old mid new None images images' first fewer second = tt
  synced_one old mid new (Some bytes) images images' first fewer second =
      both moment since old mid new images (IsAsBefore server setup images' bytes) (IsAsBefore server setup images bytes) first second (λ image was. inl was) still
    where
      still : (image : Image) → IsAsBefore server setup images' bytes image → IsAsBefore server setup images bytes image
      still image (inl was) = inl (fewer image was)
      still image (inr like) = inr like

  -- a run after a sync
  pub after_sync : (old mid new : D) (seen seen' : Option (List ℕ)) (images images' : Image → Type 0) → seen' ≡ seen → LeavesOnly moment since old mid images → ((image : Image) → images' image → images image)
      → OnTold seen' (λ bytes. LeavesOnly moment since mid new (IsAsBefore server setup images' bytes)) → OnTold seen (λ bytes. LeavesOnly moment since old new (IsAsBefore server setup images bytes))
  after_sync old mid new seen seen' images images' same first fewer second =
      synced_one old mid new seen images images' first fewer (subst (λ (s : Option (List ℕ)). OnTold s (λ bytes. LeavesOnly moment since mid new (IsAsBefore server setup images' bytes))) same second)

  pub opened_more : (old new : D) (seen : Option (List ℕ)) (images : Image → Type 0) → OnTold seen (λ bytes. LeavesOnly moment since old new (IsAsBefore server setup images bytes)) → OnTold seen (λ bytes. LeavesOnly moment since old new (IsAsOpened server setup images bytes))
  opened_more old new None images leaves = tt
  opened_more old new (Some bytes) images leaves = leaves_weaker moment since old new (IsAsBefore server setup images bytes) (IsAsOpened server setup images bytes) (λ image left. inl left) leaves

  -- a second run over a file that stands for the same
  pub then_alike : (old mid new : D) (seen seen' : Option (List ℕ)) (images images' : Image → Type 0) → OnKnown seen seen' (StandAlike server setup) → ((t : ℕ) (image : Image) → t ≤ moment mid → images' image → since mid t image)
      → OnTold seen (λ bytes. LeavesOnly moment since old mid (IsAsBefore server setup images bytes)) → OnTold seen' (λ bytes. LeavesOnly moment since mid new (IsAsBefore server setup images' bytes))
      → OnTold seen (λ bytes. LeavesOnly moment since old new (IsAsBefore server setup images bytes))
  then_alike old mid new None seen' images images' alike counts first second = tt
  then_alike old mid new (Some bytes) None images images' alike counts first second = absurd alike
  then_alike old mid new (Some bytes) (Some file) images images' alike counts first second =
      both moment since old mid new (IsAsBefore server setup images bytes) (IsAsBefore server setup images' file) (IsAsBefore server setup images bytes) first second (λ image left. left) still
    where
      still : (image : Image) → IsAsBefore server setup images' file image → IsAsBefore server setup images bytes image
      still image (inl now) = first.each image (counts (moment old) image first.later now)
      still image (inr like) = inr (λ store stands. like store (alike.on store stands))

  -- and a third, which opens the store
  pub then_opened : (old mid new : D) (seen seen' seen'' : Option (List ℕ)) (images : Image → Type 0) (store : NodeAndRows) → OnKnown seen seen' (StandAlike server setup) → StaysTold seen' seen'' → OnTold seen' (λ bytes. FileStandsFor server setup bytes store)
      → OnTold seen (λ bytes. LeavesOnly moment since old mid (IsAsBefore server setup images bytes)) → OnTold seen'' (λ _. LeavesOnly moment since mid new (StandsForEither server setup store (opened_store store)))
      → OnTold seen (λ bytes. LeavesOnly moment since old new (IsAsOpened server setup images bytes))
  then_opened old mid new None seen' seen'' images store alike told stands first second = tt
  then_opened old mid new (Some bytes) None seen'' images store alike told stands first second = absurd alike
  then_opened old mid new (Some bytes) (Some file) None images store alike told stands first second = absurd told
  then_opened old mid new (Some bytes) (Some file) (Some now) images store alike told stands first second =
      both moment since old mid new (IsAsBefore server setup images bytes) (StandsForEither server setup store (opened_store store)) (IsAsOpened server setup images bytes) first second (λ image left. inl left) either
    where
      only : (other : NodeAndRows) → FileStandsFor server setup bytes other → durable store ≡ durable other
      only other is = one_store server setup file store other stands (alike.on other is)

      either : (image : Image) → StandsForEither server setup store (opened_store store) image → IsAsOpened server setup images bytes image
      either image (inl here) = inl (inr (λ other is. file_alike server setup store other (only other is) (image 1) here))
      either image (inr here) = inr (λ other is. subst (FileStandsFor server setup (image 1)) (opened_alike store other (only other is)) here)

-- ---- one of several stores

any_like : (server : ℕ) (setup : Setup) (stores : List NodeAndRows) (bytes file : List ℕ) → StandsForAny server setup stores bytes → StandsLike server setup bytes file → StandsForAny server setup stores file
any_like server setup [] bytes file any like = any
any_like server setup (store ∷ stores) bytes file (inl one) like = inl (like store one)
any_like server setup (store ∷ stores) bytes file (inr any) like = inr (any_like server setup stores bytes file any like)

any_opened : (server : ℕ) (setup : Setup) (stores : List NodeAndRows) (bytes file : List ℕ) → StandsForAny server setup stores bytes → StandsOpened server setup bytes file → StandsForAny server setup (map opened_store stores) file
any_opened server setup [] bytes file any opened = any
any_opened server setup (store ∷ stores) bytes file (inl one) opened = inl (opened store one)
any_opened server setup (store ∷ stores) bytes file (inr any) opened = inr (any_opened server setup stores bytes file any opened)

any_front : (server : ℕ) (setup : Setup) (stores more : List NodeAndRows) (file : List ℕ) → StandsForAny server setup stores file → StandsForAny server setup (stores ++ more) file
any_front server setup [] more file any = absurd any
any_front server setup (store ∷ stores) more file (inl one) = inl one
any_front server setup (store ∷ stores) more file (inr any) = inr (any_front server setup stores more file any)

any_back : (server : ℕ) (setup : Setup) (stores more : List NodeAndRows) (file : List ℕ) → StandsForAny server setup more file → StandsForAny server setup (stores ++ more) file
any_back server setup [] more file any = any
any_back server setup (store ∷ stores) more file any = inr (any_back server setup stores more file any)

-- a disk's bytes as an image
bytes_of : Option (List ℕ) → List ℕ
bytes_of None = []
bytes_of (Some bytes) = bytes

shows_at : (told : Option (List ℕ)) → OnTold told (λ bytes. bytes_of told ≡ bytes)
unfolding bytes_of
shows_at None = tt
shows_at (Some bytes) = refl

module _ {D : Type 0} (moment : D → ℕ) (since : D → ℕ → Image → Type 0) (a b : D) (server : ℕ) (setup : Setup) (seen : Contents) (images : Image → Type 0) (reads : (image : Image) → Shows seen image → images image) where
  any_image : (stores : List NodeAndRows) (bytes : List ℕ) → StandsForAny server setup stores bytes → KeepsAny images server setup stores → (image : Image) → IsAsOpened server setup images bytes image → StandsForAny server setup (stores ++ map opened_store stores) (image 1)
  any_image stores bytes any keeps image (inl (inl was)) = any_front server setup stores (map opened_store stores) (image 1) (keeps image was)
  any_image stores bytes any keeps image (inl (inr like)) = any_front server setup stores (map opened_store stores) (image 1) (any_like server setup stores bytes (image 1) any like)
  any_image stores bytes any keeps image (inr opened) = any_back server setup stores (map opened_store stores) (image 1) (any_opened server setup stores bytes (image 1) any opened)

  told_now : (stores : List NodeAndRows) (bytes : List ℕ) → seen 1 ≡ Some bytes → KeepsAny images server setup stores → StandsForAny server setup stores bytes
  unfolding bytes_of
  told_now stores bytes is keeps = subst (λ (told : Option (List ℕ)). StandsForAny server setup stores (bytes_of told)) is (keeps (λ file. bytes_of (seen file)) (reads (λ file. bytes_of (seen file)) (λ file. shows_at (seen file))))

  -- at each moment of an opening each image stands for one of the stores from before, or for one of them opened
  pub any_moments : OnTold (seen 1) (λ bytes. LeavesOnly moment since a b (IsAsOpened server setup images bytes))
      → OnTold (seen 1) (λ _. (stores : List NodeAndRows) → KeepsAny images server setup stores → LeavesOnly moment since a b (λ image. StandsForAny server setup (stores ++ map opened_store stores) (image 1)))
  any_moments leaves = go (seen 1) refl leaves
    where
      go : (told : Option (List ℕ)) → seen 1 ≡ told → OnTold told (λ bytes. LeavesOnly moment since a b (IsAsOpened server setup images bytes))
          → OnTold told (λ _. (stores : List NodeAndRows) → KeepsAny images server setup stores → LeavesOnly moment since a b (λ image. StandsForAny server setup (stores ++ map opened_store stores) (image 1)))
      go None is left = tt
      go (Some bytes) is left = λ stores keeps. leaves_weaker moment since a b (IsAsOpened server setup images bytes) (λ image. StandsForAny server setup (stores ++ map opened_store stores) (image 1)) (any_image stores bytes (told_now stores bytes is keeps) keeps) left

-- ---- what was opened, and what is damaged

pub stood_before : (server : ℕ) (setup : Setup) (seen seen' : Option (List ℕ)) (store opened : NodeAndRows) → OnKnown seen seen' (StandAlike server setup) → OnTold seen' (λ bytes. FileStandsFor server setup bytes store) → opened ≡ opened_store store
    → OnTold seen (λ bytes. (before : NodeAndRows) × FileStandsFor server setup bytes before × (opened ≡ opened_store before))
stood_before server setup None seen' store opened alike stands is = tt
stood_before server setup (Some bytes) None store opened alike stands is = absurd alike
stood_before server setup (Some bytes) (Some file) store opened alike stands is = (store, alike.back store stands, is)

pub damaged_before : (server : ℕ) (setup : Setup) (seen seen' : Option (List ℕ)) (fault : StoreFault) → OnKnown seen seen' (StandAlike server setup) → IsRefusal (IsBad server setup) seen' fault → IsRefusal (IsBad server setup) seen fault
damaged_before server setup seen seen' faults.Device alike is = tt
damaged_before server setup seen seen' faults.Stopped alike is = is
damaged_before server setup None seen' (faults.Damaged file place damage) alike is = (is.0, tt)
damaged_before server setup (Some bytes) None (faults.Damaged file place damage) alike is = absurd alike
damaged_before server setup (Some bytes) (Some now) (faults.Damaged file place damage) alike is = (is.0, alike.damaged place damage is.1)
damaged_before server setup seen seen' faults.Room alike is = is
damaged_before server setup seen seen' faults.OutOfMemory alike is = tt

-- what a `?` hands on of a refusal
pub err_at : {T E : Type 0} (r : Result T E) (fault : E) (P : E → Type 0) → IsErrAnd r (λ e. e ≡ fault) → P fault → IfErr r P
err_at (Ok x) fault P came here = tt
err_at (Err e) fault P came here = subst P (sym came) here
