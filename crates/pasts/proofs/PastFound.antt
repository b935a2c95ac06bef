-- What an opening finds on a disk that a run left.
use Rattle.std.proofs.Common.{◌≡◌, ◌∙◌, sym, ap, subst, refl, ℕ, Bool, true, false, cond, List, [], ◌∷◌, ◌++◌, Option, Some, None, inl, inr, is_some, unwrap_or}
use Rattle.std.specs.Prelude.{map as list_map}
use Rattle.std.proofs.Math.Seq.{take-length}
use Rattle.mds_base.specs.declared.setup.Setup.{Setup}
use Rattle.mds_out.specs.Disk as disks
use Rattle.mds_out.specs.Disk.{Image, Contents}
use Rattle.mds_out.specs.Known.{OnTold}
use Rattle.node_core.specs.Durable.{durable}
use Rattle.node_core.specs.Nodes.{NodeAndRows}
use Rattle.node_core.specs.Serving.{replayed_all}
use Rattle.node_store.specs.Stands.{FileStandsFor, opened_store}
use Rattle.node_store.specs.Store.{KeepsAny, StandsForAny}
use Rattle.node_store.proofs.StandingAlike.{opened_alike}
use Rattle.world.specs.declared.state.ServerState.{ServerState}
use Rattle.world.specs.Worlds.{store_of}
use Rattle.pasts.specs.Starts.{found_stores}
use Rattle.pasts.proofs.NodeCleared.{opened_twice}
use Rattle.pasts.proofs.PastClosed.{closed_as, closed_state}

-- a file stands for one store at most, so far as a log can bring it back
abbrev pub StandsForOne : Type 0
StandsForOne = (server : ℕ) (setup : Setup) (file : List ℕ) (a b : NodeAndRows) → FileStandsFor server setup file a → FileStandsFor server setup file b → durable a ≡ durable b

-- a disk as it reads is one of its images
abbrev pub ReadsAs : {D : Type 0} → (D → Contents) → (D → Image → Type 0) → Type 0
ReadsAs {D = D} seen images = (disk : D) (image : Image) → disks.Shows (seen disk) image → images disk image

own_image : Contents → Image
own_image seen file = unwrap_or (seen file) []

own_shows : (o : Option (List ℕ)) → OnTold o (λ bytes. unwrap_or o [] ≡ bytes)
own_shows None = tt
own_shows (Some bytes) = refl

shows_own : (seen : Contents) → disks.Shows seen (own_image seen)
unfolding own_image
shows_own seen file = own_shows (seen file)

own_bytes : (seen : Contents) (bytes : List ℕ) → seen 1 ≡ Some bytes → own_image seen 1 ≡ bytes
unfolding own_image
own_bytes seen bytes e = ap (λ o. unwrap_or o []) e

pub stands_any : {D : Type 0} (seen : D → Contents) (images : D → Image → Type 0) → ReadsAs seen images → (disk : D) (s : ℕ) (setup : Setup) (stores : List NodeAndRows) (bytes : List ℕ) → seen disk 1 ≡ Some bytes
    → KeepsAny (images disk) s setup stores → StandsForAny s setup stores bytes
stands_any seen images reads disk s setup stores bytes e keeps =
    subst (StandsForAny s setup stores) (own_bytes (seen disk) bytes e) (keeps (own_image (seen disk)) (reads disk (own_image (seen disk)) (shows_own (seen disk))))

-- what stands for one of some stores stands for one of more
pub any_front : (s : ℕ) (setup : Setup) (stores more : List NodeAndRows) (file : List ℕ) → StandsForAny s setup stores file → StandsForAny s setup (stores ++ more) file
any_front s setup [] more file any = absurd any
any_front s setup (store ∷ stores) more file any = elim any [ inl h ↦ inl h | inr h ↦ inr (any_front s setup stores more file h) ]

found_one : StandsForOne → (s : ℕ) (setup : Setup) (bytes : List ℕ) (found a b : NodeAndRows) → FileStandsFor s setup bytes found → StandsForAny s setup (a ∷ b ∷ opened_store a ∷ opened_store b ∷ []) bytes
    → (keep : Bool) × (opened_store found ≡ opened_store (cond keep b a))
found_one one s setup bytes found a b f any = elim any [
  | inl h ↦ (false, opened_alike found a (one s setup bytes found a f h))
  | inr any ↦ elim any [
    | inl h ↦ (true, opened_alike found b (one s setup bytes found b f h))
    | inr any ↦ elim any [
      | inl h ↦ (false, opened_alike found (opened_store a) (one s setup bytes found (opened_store a) f h) ∙ opened_twice a)
      | inr any ↦ elim any [
        | inl h ↦ (true, opened_alike found (opened_store b) (one s setup bytes found (opened_store b) f h) ∙ opened_twice b)
        | inr none ↦ absurd none
      ]
    ]
  ]
]

-- what the opening of a disk found: the bytes told stand for a store, which is now up, opened
abbrev pub HasFound : ℕ → Setup → Option NodeAndRows → Option (List ℕ) → Type 0
HasFound s setup up told = OnTold told (λ bytes. (store : NodeAndRows) × FileStandsFor s setup bytes store × (up ≡ Some (opened_store store)))

-- a told disk that a run left stands for the store of its server, or for it with its records in doubt
pub found : {D : Type 0} (seen : D → Contents) (images : D → Image → Type 0) → ReadsAs seen images → StandsForOne → (disk : D) (s : ℕ) (setup : Setup) (state : ServerState) (up : Option NodeAndRows)
    → (told : Option (List ℕ)) → seen disk 1 ≡ told → is_some told ≡ true → HasFound s setup up told → KeepsAny (images disk) s setup (found_stores state)
    → (keep : Bool) × (up ≡ Some (opened_store (cond keep (replayed_all (store_of state) state.doubt) (store_of state))))
found seen images reads one disk s setup state up None is some h keeps = absurd (let n : false ≡ true = some in cc)
found seen images reads one disk s setup state up (Some bytes) is some h keeps =
    let any : StandsForAny s setup (found_stores state) bytes = stands_any seen images reads disk s setup (found_stores state) bytes is keeps in
    let g = found_one one s setup bytes h.0 (store_of state) (replayed_all (store_of state) state.doubt) h.1 any in
    (g.0, h.2 ∙ ap (λ x. Some x) g.1)

-- What a server is once the restarts at the end of its run are done

closed_store_as : (keep : Bool) (state : ServerState) (up : Bool) → (up ≡ true → state.doubt ≡ []) → store_of (closed_as keep state up) ≡ cond keep (replayed_all (store_of state) state.doubt) (store_of state)
closed_store_as true state true sure = sym (ap (replayed_all (store_of state)) (sure refl))
closed_store_as false state true sure = refl
closed_store_as true state false sure = ap (replayed_all (store_of state)) (take-length state.doubt)
closed_store_as false state false sure = refl

pub closed_store : (keep : Bool) (state : ServerState) → (state.up ≡ true → state.doubt ≡ []) → store_of (closed_state keep state) ≡ cond keep (replayed_all (store_of state) state.doubt) (store_of state)
closed_store keep state sure = closed_store_as keep state state.up sure

closed_up_as : (keep : Bool) (state : ServerState) (up : Bool) → state.up ≡ up → (closed_as keep state up).up ≡ true
closed_up_as keep state true e = e
closed_up_as keep state false e = refl

pub closed_up : (keep : Bool) (state : ServerState) → (closed_state keep state).up ≡ true
closed_up keep state = closed_up_as keep state state.up refl

closed_sure_as : (keep : Bool) (state : ServerState) (up : Bool) → (up ≡ true → state.doubt ≡ []) → (closed_as keep state up).doubt ≡ []
closed_sure_as keep state true sure = sure refl
closed_sure_as keep state false sure = refl

pub closed_sure : (keep : Bool) (state : ServerState) → (state.up ≡ true → state.doubt ≡ []) → (closed_state keep state).doubt ≡ []
closed_sure keep state sure = closed_sure_as keep state state.up sure

-- What an opening leaves of a disk that a run left

pub left_again : (s : ℕ) (setup : Setup) (a b : NodeAndRows) (file : List ℕ) → let stores : List NodeAndRows = a ∷ b ∷ opened_store a ∷ opened_store b ∷ [] in StandsForAny s setup (stores ++ list_map opened_store stores) file → StandsForAny s setup stores file
left_again s setup a b file any = elim any [
  | inl h ↦ inl h
  | inr any ↦ elim any [
    | inl h ↦ inr (inl h)
    | inr any ↦ elim any [
      | inl h ↦ inr (inr (inl h))
      | inr any ↦ elim any [
        | inl h ↦ inr (inr (inr (inl h)))
        | inr any ↦ elim any [
          | inl h ↦ inr (inr (inl h))
          | inr any ↦ elim any [
            | inl h ↦ inr (inr (inr (inl h)))
            | inr any ↦ elim any [
              | inl h ↦ inr (inr (inl (subst (FileStandsFor s setup file) (opened_twice a) h)))
              | inr any ↦ elim any [
                | inl h ↦ inr (inr (inr (inl (subst (FileStandsFor s setup file) (opened_twice b) h))))
                | inr none ↦ absurd none
              ]
            ]
          ]
        ]
      ]
    ]
  ]
]
