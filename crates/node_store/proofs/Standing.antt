-- One body more: what the bodies, the log and the disk then stand for.
use Rattle.std.proofs.Common.{◌≡◌, ◌∙◌, sym, ap, subst, refl, ℕ, ◌≤◌, true, List, [], ◌∷◌, ◌++◌, append_assoc, Option, Some, None, inl, inr, ◌⊎◌}
use Rattle.std.proofs.lemmas.Bool.{and_from, and_parts}
use Rattle.std.proofs.lemmas.List.{append-nil}
use Rattle.mds_base.specs.declared.setup.Setup.{Setup}
use Rattle.records.specs.declared.record.Record.{Record}
use Rattle.gate_log.specs.Log.{IsBeforeOrAfter}
use Rattle.gate_log.specs.LogState.{LogState, IsLogOf, IsReady, HasBodies}
use Rattle.mds_out.specs.Disk.{Image, Contents, Lengths, LeavesOnly, StaysTold}
use Rattle.mds_out.specs.Known.{OnTold}
use Rattle.mds_out.proofs.Moments.{leaves_weaker}
use Rattle.node_core.specs.Nodes.{NodeAndRows}
use Rattle.node_core.specs.Serving.{may_follow, replayed, replayed_all}
use Rattle.node_core.proofs.Durably.{replayed_all_durably}
use Rattle.node_store.proofs.StandingAlike.{all_follow_durably}
use Rattle.node_store.specs.Stands.{new_store, all_follow, IsBody, AreBodies, all_of, StandFor, FileStandsFor}
use Rattle.node_store.specs.Store.{HoldsStore, IsKept, HasDoubt, LeavesDoubt, StandsForEither}

-- ---- records and bodies

pub replayed_more : (store : NodeAndRows) (items more : List Record) → replayed_all store (items ++ more) ≡ replayed_all (replayed_all store items) more
replayed_more store [] more = refl
replayed_more store (item ∷ items) more = replayed_more (replayed store item) items more

pub follow_more : (store : NodeAndRows) (items more : List Record) → all_follow store items ≡ true → all_follow (replayed_all store items) more ≡ true → all_follow store (items ++ more) ≡ true
follow_more store [] more first second = second
follow_more store (item ∷ items) more first second =
    let parts = and_parts (may_follow store item) (all_follow (replayed store item) items) first in
    and_from (may_follow store item) (all_follow (replayed store item) (items ++ more)) parts.0 (follow_more (replayed store item) items more parts.1 second)

all_more : (items : List (List Record)) (more : List Record) → all_of (items ++ more ∷ []) ≡ all_of items ++ more
all_more [] more = append-nil more
all_more (first ∷ items) more = ap (λ (rest : List Record). first ++ rest) (all_more items more) ∙ sym (append_assoc first (all_of items) more)

bodies_more : (bodies : List (List ℕ)) (items : List (List Record)) (body : List ℕ) (more : List Record) → AreBodies bodies items → IsBody body more → AreBodies (bodies ++ body ∷ []) (items ++ more ∷ [])
bodies_more [] [] body more are one = (one, tt)
bodies_more [] (first ∷ items) body more are one = absurd are
bodies_more (first ∷ bodies) [] body more are one = absurd are
bodies_more (first ∷ bodies) (these ∷ items) body more are one = (are.0, bodies_more bodies items body more are.1 one)

-- the bodies with one more, whose records may follow, stand for the store after them
pub stand_more : (server : ℕ) (setup : Setup) (bodies : List (List ℕ)) (store : NodeAndRows) (body : List ℕ) (more : List Record) → StandFor server setup bodies store → IsBody body more → all_follow store more ≡ true → StandFor server setup (bodies ++ body ∷ []) (replayed_all store more)
stand_more server setup bodies store body more s is follow =
    let first = new_store server setup in
    let follow' : all_follow (replayed_all first (all_of s.items)) more ≡ true = subst (λ (x : NodeAndRows). all_follow x more ≡ true) s.leads (all_follow_durably store more ∙ follow) in
    record {
      rest = s.rest ++ body ∷ [];
      items = s.items ++ more ∷ [];
      head = ap (λ (b : List (List ℕ)). b ++ body ∷ []) s.head;
      are = bodies_more s.rest s.items body more s.are is;
      follow = rw (all_more s.items more) (follow_more first (all_of s.items) more s.follow follow');
      leads = sym (replayed_all_durably store more) ∙ ap (λ (x : NodeAndRows). replayed_all x more) s.leads ∙ sym (replayed_more first (all_of s.items) more) ∙ ap (replayed_all first) (sym (all_more s.items more));
    }

-- the log with the body or without it stands for the new store or the old one
pub either_store : (server : ℕ) (setup : Setup) (bodies : List (List ℕ)) (store : NodeAndRows) (body : List ℕ) (items : List Record) (file : List ℕ) → StandFor server setup bodies store → IsBody body items → all_follow store items ≡ true → IsBeforeOrAfter bodies body file
    → FileStandsFor server setup file store ⊎ FileStandsFor server setup file (replayed_all store items)
either_store server setup bodies store body items file s is follow (inl before) = inl (inr (bodies, before, s))
either_store server setup bodies store body items file s is follow (inr after) = inr (inr (bodies ++ body ∷ [], after, stand_more server setup bodies store body items s is follow))

-- ---- an append

module _ (server : ℕ) (setup : Setup) (store : NodeAndRows) (body : List ℕ) (items : List Record) (is : IsBody body items) (follow : all_follow store items ≡ true) where
  -- what an append leaves, where the disk tells it
  holds_more : (seen seen' : Option (List ℕ)) (log log' : LogState) → StaysTold seen seen' → ((bodies : List (List ℕ)) → OnTold seen (IsLogOf log bodies) → OnTold seen' (IsLogOf log' (bodies ++ body ∷ []))) → OnTold seen (HoldsStore server setup log store)
      → OnTold seen' (HoldsStore server setup log' (replayed_all store items))
  holds_more None None log log' told appended holds = tt
  holds_more None (Some bytes) log log' told appended holds = absurd told
  holds_more (Some bytes) None log log' told appended holds = tt
  holds_more (Some bytes) (Some bytes') log log' told appended holds = record {
    bodies = holds.bodies ++ body ∷ [];
    is = appended holds.bodies holds.is;
    stands = stand_more server setup holds.bodies store body items holds.stands is follow;
  }

  -- what is owed to a server after an append
  pub kept_after : (seen seen' : Contents) (sizes sizes' : Lengths) (images images' : Image → Type 0) (old new : LogState)
      → new.file ≡ old.file → new.stopped ≡ old.stopped → IsReady new seen' sizes' images' → StaysTold (seen 1) (seen' 1)
      → ((bodies : List (List ℕ)) → HasBodies old seen bodies → HasBodies new seen' (bodies ++ body ∷ []))
      → IsKept seen sizes images server setup old store → IsKept seen' sizes' images' server setup new (replayed_all store items)
  kept_after seen seen' sizes sizes' images images' old new file stopped ready told appended k =
      let new_file : new.file ≡ 1 = file ∙ k.file in
      let first : (bodies : List (List ℕ)) → OnTold (seen 1) (IsLogOf old bodies) → OnTold (seen' new.file) (IsLogOf new (bodies ++ body ∷ [])) = subst (λ (f : ℕ). (bodies : List (List ℕ)) → OnTold (seen f) (IsLogOf old bodies) → OnTold (seen' new.file) (IsLogOf new (bodies ++ body ∷ []))) k.file appended in
      let both : (bodies : List (List ℕ)) → OnTold (seen 1) (IsLogOf old bodies) → OnTold (seen' 1) (IsLogOf new (bodies ++ body ∷ [])) = subst (λ (f : ℕ). (bodies : List (List ℕ)) → OnTold (seen 1) (IsLogOf old bodies) → OnTold (seen' f) (IsLogOf new (bodies ++ body ∷ []))) new_file first in
      record { file = new_file; running = stopped ∙ k.running; ready = ready; holds = holds_more (seen 1) (seen' 1) old new told both k.holds }

  either_told : {D : Type 0} (moment : D → ℕ) (since : D → ℕ → Image → Type 0) (a b : D) (told : Option (List ℕ)) (log : LogState)
      → ((bodies : List (List ℕ)) → OnTold told (IsLogOf log bodies) → OnTold told (λ _. LeavesOnly moment since a b (λ image. IsBeforeOrAfter bodies body (image 1))))
      → OnTold told (HoldsStore server setup log store) → OnTold told (λ _. LeavesOnly moment since a b (StandsForEither server setup store (replayed_all store items)))
  either_told moment since a b None log any holds = tt
  either_told moment since a b (Some bytes) log any holds =
      leaves_weaker moment since a b (λ image. IsBeforeOrAfter holds.bodies body (image 1)) (StandsForEither server setup store (replayed_all store items)) (λ image left. either_store server setup holds.bodies store body items (image 1) holds.stands is follow left) (any holds.bodies holds.is)

  -- a crash at any moment of the append leaves the one store or the other
  pub either_after : {D : Type 0} (moment : D → ℕ) (since : D → ℕ → Image → Type 0) (a b : D) (seen : Contents) (sizes : Lengths) (images : Image → Type 0) (log : LogState)
      → ((bodies : List (List ℕ)) → HasBodies log seen bodies → OnTold (seen log.file) (λ _. LeavesOnly moment since a b (λ image. IsBeforeOrAfter bodies body (image log.file))))
      → IsKept seen sizes images server setup log store → OnTold (seen 1) (λ _. LeavesOnly moment since a b (StandsForEither server setup store (replayed_all store items)))
  either_after moment since a b seen sizes images log any k =
      either_told moment since a b (seen 1) log (subst (λ (f : ℕ). (bodies : List (List ℕ)) → OnTold (seen f) (IsLogOf log bodies) → OnTold (seen f) (λ _. LeavesOnly moment since a b (λ image. IsBeforeOrAfter bodies body (image f)))) k.file any) k.holds

  doubt_told : {D : Type 0} (moment : D → ℕ) (since : D → ℕ → Image → Type 0) (images' : Image → Type 0) (a b : D) (told told' : Option (List ℕ)) (log log' : LogState) → StaysTold told told' → log'.length ≡ log.length
      → ((t : ℕ) (image : Image) → t ≤ moment b → images' image → since b t image)
      → ((bodies : List (List ℕ)) → OnTold told (IsLogOf log bodies) → OnTold told (λ _. LeavesOnly moment since a b (λ image. IsBeforeOrAfter bodies body (image 1))))
      → OnTold told (HoldsStore server setup log store) → OnTold told' (λ _. LeavesDoubt images' server setup log' store items)
  doubt_told moment since images' a b None None log log' stays same counts any holds = tt
  doubt_told moment since images' a b None (Some bytes) log log' stays same counts any holds = absurd stays
  doubt_told moment since images' a b (Some bytes) None log log' stays same counts any holds = tt
  doubt_told moment since images' a b (Some bytes) (Some bytes') log log' stays same counts any holds =
      let left = any holds.bodies holds.is in
      let leaves : (image : Image) → IsBeforeOrAfter holds.bodies body (image 1) → HasDoubt holds.bodies items (image 1) = λ image. in_doubt holds.bodies (image 1) in
      record {
        bodies = holds.bodies;
        stands = holds.stands;
        ends = same ∙ holds.is.ends;
        follow = follow;
        each = λ image now. leaves image (left.each image (counts (moment a) image left.later now));
      }
    where
      in_doubt : (bodies : List (List ℕ)) (file : List ℕ) → IsBeforeOrAfter bodies body file → HasDoubt bodies items file
      in_doubt bodies file (inl before) = inl before
      in_doubt bodies file (inr after) = inr (body, is, after)

  -- a refused append leaves its records in doubt
  pub doubt_after : {D : Type 0} (moment : D → ℕ) (since : D → ℕ → Image → Type 0) (images' : Image → Type 0) (a b : D) (seen seen' : Contents) (sizes : Lengths) (images : Image → Type 0) (log log' : LogState) → StaysTold (seen 1) (seen' 1) → log'.length ≡ log.length
      → ((t : ℕ) (image : Image) → t ≤ moment b → images' image → since b t image)
      → ((bodies : List (List ℕ)) → HasBodies log seen bodies → OnTold (seen log.file) (λ _. LeavesOnly moment since a b (λ image. IsBeforeOrAfter bodies body (image log.file))))
      → IsKept seen sizes images server setup log store → OnTold (seen' 1) (λ _. LeavesDoubt images' server setup log' store items)
  doubt_after moment since images' a b seen seen' sizes images log log' stays same counts any k =
      doubt_told moment since images' a b (seen 1) (seen' 1) log log' stays same counts (subst (λ (f : ℕ). (bodies : List (List ℕ)) → OnTold (seen f) (IsLogOf log bodies) → OnTold (seen f) (λ _. LeavesOnly moment since a b (λ image. IsBeforeOrAfter bodies body (image f)))) k.file any) k.holds
