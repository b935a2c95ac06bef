-- A disk stands for a store by what a log can bring back of it: stores that are alike in this have the same disks.
use Rattle.std.proofs.Common.{◌≡◌, ◌∙◌, sym, ap, subst, refl, ℕ, ◌≤◌, ◌&&◌, List, [], ◌∷◌, Option, Some, None, inl, inr}
use Rattle.mds_base.specs.declared.setup.Setup.{Setup}
use Rattle.records.specs.declared.record.Record.{Record}
use Rattle.records.specs.declared.record.Record.TheVariants.{Opened}
use Rattle.gate_log.specs.LogState.{LogState}
use Rattle.mds_out.specs.Disk.{Image, Contents, Lengths, LeavesOnly}
use Rattle.mds_out.specs.Known.{OnTold}
use Rattle.mds_out.proofs.Moments.{leaves_weaker}
use Rattle.node_core.specs.Durable.{durable}
use Rattle.node_core.specs.Nodes.{NodeAndRows}
use Rattle.node_core.specs.Serving.{may_follow, replayed, restarted}
use Rattle.node_core.proofs.Durably.{replays_durably, opened_durably, restarted_durably, alike_durably, new_durably}
use Rattle.node_store.specs.Damage.{NoneFollows}
use Rattle.node_store.specs.Parts.{IsNodeOf}
use Rattle.node_store.specs.Stands.{all_follow, new_store, opened_store, IsNewFile, StandFor, FileStandsFor}
use Rattle.node_store.specs.Store.{HoldsStore, IsKept, StandsForEither}

pub all_follow_durably : (store : NodeAndRows) (items : List Record) → all_follow (durable store) items ≡ all_follow store items
all_follow_durably store [] = refl
all_follow_durably store (item ∷ items) =
    ap (λ b. b && all_follow (replayed (durable store) item) items) (replays_durably store item).follows
    ∙ ap (λ s. may_follow store item && all_follow s items) (replays_durably store item).leads
    ∙ ap (λ b. may_follow store item && b) (all_follow_durably (replayed store item) items)

pub none_follows_durably : (store : NodeAndRows) (bytes : List ℕ) → NoneFollows store bytes → NoneFollows (durable store) bytes
none_follows_durably store bytes none = λ item more is spelled follows. none item more is spelled (sym (replays_durably store item).follows ∙ follows)

pub node_of_durably : (server : ℕ) (setup : Setup) (store : NodeAndRows) → IsNodeOf server setup store.node → IsNodeOf server setup (durable store).node
node_of_durably server setup store is =
    let same = alike_durably store in
    record { server' = same.server ∙ is.server'; setup' = same.setup ∙ is.setup'; from_two = subst (λ n. 2 ≤ n) (sym same.next) is.from_two }

pub node_of_store : (server : ℕ) (setup : Setup) (store : NodeAndRows) → IsNodeOf server setup (durable store).node → IsNodeOf server setup store.node
node_of_store server setup store is =
    let same = alike_durably store in
    record { server' = sym same.server ∙ is.server'; setup' = sym same.setup ∙ is.setup'; from_two = subst (λ n. 2 ≤ n) same.next is.from_two }

-- an opening and a restart make one store of stores that are alike
pub opened_alike : (a b : NodeAndRows) → durable a ≡ durable b → opened_store a ≡ opened_store b
opened_alike a b same = sym (opened_durably a) ∙ ap (λ s. replayed s Opened) same ∙ opened_durably b

pub restarted_alike : (a b : NodeAndRows) (now : ℕ) → durable a ≡ durable b → restarted a now ≡ restarted b now
restarted_alike a b now same = sym (restarted_durably a now) ∙ ap (λ s. restarted s now) same ∙ restarted_durably b now

module _ (server : ℕ) (setup : Setup) (a b : NodeAndRows) (same : durable a ≡ durable b) where
  pub stand_alike : (bodies : List (List ℕ)) → StandFor server setup bodies a → StandFor server setup bodies b
  stand_alike bodies stands = record { rest = stands.rest; items = stands.items; head = stands.head; are = stands.are; follow = stands.follow; leads = sym same ∙ stands.leads }

  pub file_alike : (file : List ℕ) → FileStandsFor server setup file a → FileStandsFor server setup file b
  file_alike file (inl new) = inl (new.0, sym same ∙ new.1)
  file_alike file (inr log) = inr (log.0, log.1, stand_alike log.0 log.2)

  holds_alike : (told : Option (List ℕ)) (log : LogState) → OnTold told (HoldsStore server setup log a) → OnTold told (HoldsStore server setup log b)
  holds_alike None log holds = tt
  holds_alike (Some bytes) log holds = record { bodies = holds.bodies; is = holds.is; stands = stand_alike holds.bodies holds.stands }

  pub kept_alike : (seen : Contents) (sizes : Lengths) (images : Image → Type 0) (log : LogState) → IsKept seen sizes images server setup log a → IsKept seen sizes images server setup log b
  kept_alike seen sizes images log kept = record { file = kept.file; running = kept.running; ready = kept.ready; holds = holds_alike (seen 1) log kept.holds }

  either_alike : (store : NodeAndRows) (image : Image) → StandsForEither server setup store a image → StandsForEither server setup store b image
  either_alike store image (inl old) = inl old
  either_alike store image (inr new) = inr (file_alike (image 1) new)

  pub moment_alike : {D : Type 0} (moment : D → ℕ) (since : D → ℕ → Image → Type 0) (old new : D) (told : Option (List ℕ)) (store : NodeAndRows) → OnTold told (λ _. LeavesOnly moment since old new (StandsForEither server setup store a))
      → OnTold told (λ _. LeavesOnly moment since old new (StandsForEither server setup store b))
  moment_alike moment since old new None store leaves = tt
  moment_alike moment since old new (Some bytes) store leaves = leaves_weaker moment since old new (StandsForEither server setup store a) (StandsForEither server setup store b) (λ image. either_alike store image) leaves

-- a new file stands for the new store
pub new_stands : (server : ℕ) (setup : Setup) (file : List ℕ) → IsNewFile file → FileStandsFor server setup file (new_store server setup)
new_stands server setup file new = inl (new, new_durably server setup)

pub some_restarted : (told : Option (List ℕ)) (new other store : NodeAndRows) (now : ℕ) → other ≡ restarted new now → OnTold told (λ _. durable new ≡ durable store) → OnTold told (λ _. Some other ≡ Some (restarted store now))
some_restarted None new other store now same is = tt
some_restarted (Some bytes) new other store now same is = ap (λ (s : NodeAndRows). Some s) (same ∙ restarted_alike new store now is)
