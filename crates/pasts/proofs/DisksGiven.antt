-- The disks of servers are taken out, one after another.
use Rattle.std.proofs.Common.{◌≡◌, ◌∙◌, sym, ap, subst, refl, ℕ, ◌+◌, List, [], ◌∷◌, ◌++◌, length, Some, append_assoc, append-nil, arith}
use Rattle.mds_out.specs.Disk.{Image, Contents}
use Rattle.mds_out.specs.Fused.{Fused}
use Rattle.mds_out.specs.Known.{OnTold}
use Rattle.mds_base.specs.declared.setup.Setup.{Setup}
use Rattle.node_core.specs.Nodes.{NodeAndRows}
use Rattle.node_store.specs.Store.{Store, KeepsStore}
use Rattle.pasts.specs.Openings.{Paired, IsDiskOf, IsUpOn, IsHandedBack}
use Rattle.pasts.proofs.ListPairs.{paired_push, paired_length}

-- what is said of the disk that a server gives back
pub disk_of : {D : Type 0} (seen : D → Contents) (images : D → Image → Type 0) (store : Store (Fused D)) (fuse : Fused D) (disk : D) → fuse ≡ store.disk → disk ≡ fuse.inner
    → ((st : NodeAndRows) → store.up ≡ Some st → OnTold (seen fuse.inner 1) (λ bytes. KeepsStore (images fuse.inner) store.server store.setup st)) → IsDiskOf seen images store disk
disk_of seen images store fuse disk same is kept = record {
  inner = is ∙ ap (λ (f : Fused _). f.inner) same;
  kept = subst (λ d. (st : NodeAndRows) → store.up ≡ Some st → OnTold (seen d 1) (λ bytes. KeepsStore (images d) store.server store.setup st)) (sym is) kept;
}

-- of these servers some gave their disks back, and some are left
pub record ArePutBack {D : Type 0} (seen : D → Contents) (images : D → Image → Type 0) (stores left : List (Store (Fused D))) (old back : List D) : Type 0 where
  pub done : List (Store (Fused D))
  pub disks : List D
  pub split : done ++ left ≡ stores
  pub pushed : back ≡ old ++ disks
  pub each : Paired (λ k. IsDiskOf seen images) 0 done disks

module _ {D : Type 0} (seen : D → Contents) (images : D → Image → Type 0) (stores : List (Store (Fused D))) (old : List D) where
  pub put_none : ArePutBack seen images stores stores old old
  put_none = record { done = []; disks = []; split = refl; pushed = sym (append-nil old); each = tt }

  pub put_one : (left rest : List (Store (Fused D))) (back new : List D) (store : Store (Fused D)) (disk : D) → ArePutBack seen images stores left old back → left ≡ store ∷ rest → IsDiskOf seen images store disk → new ≡ back ++ disk ∷ []
      → ArePutBack seen images stores rest old new
  put_one left rest back new store disk so first is pushed = record {
    done = so.done ++ store ∷ [];
    disks = so.disks ++ disk ∷ [];
    split = append_assoc so.done (store ∷ []) rest ∙ ap (λ l. so.done ++ l) (sym first) ∙ so.split;
    pushed = pushed ∙ ap (λ l. l ++ disk ∷ []) so.pushed ∙ append_assoc old so.disks (disk ∷ []);
    each = paired_push (λ k. IsDiskOf seen images) so.done so.disks store disk so.each is;
  }

  pub put_all : (left : List (Store (Fused D))) (back : List D) → ArePutBack seen images stores left old back → left ≡ [] → (disks : List D) × (back ≡ old ++ disks) × Paired (λ k. IsDiskOf seen images) 0 stores disks
  put_all left back so none =
      let all : so.done ≡ stores = sym (append-nil so.done) ∙ ap (λ l. so.done ++ l) (sym none) ∙ so.split in
      (so.disks, so.pushed, subst (λ l. Paired (λ k. IsDiskOf seen images) 0 l so.disks) all so.each)

pub nothing_left : {X : Type 0} (xs : List X) → length xs ≡ 0 → xs ≡ []
nothing_left [] e = refl
nothing_left (x ∷ xs) e = absurd (omega arith)

-- the disks of servers that were opened
module _ {D : Type 0} (lasts : D → D → Type 0) (seen : D → Contents) (images : D → Image → Type 0) (setup : Setup) where
  both : (s j : ℕ) (old : List D) (stores : List (Store (Fused D))) (new : List D) → Paired (IsUpOn lasts seen images setup) s old stores → Paired (λ k. IsDiskOf seen images) j stores new → Paired (IsHandedBack lasts seen images setup) s old new
  both s j [] [] [] up out = tt
  both s j [] [] (d ∷ new) up out = absurd out
  both s j [] (store ∷ stores) new up out = absurd up
  both s j (d ∷ old) [] new up out = absurd up
  both s j (d ∷ old) (store ∷ stores) [] up out = absurd out
  both s j (d ∷ old) (store ∷ stores) (e ∷ new) up out =
      (subst (IsHandedBack lasts seen images setup s d) (sym out.0.inner) up.0.back, both (s + 1) (j + 1) old stores new up.1 out.1)

  pub opened_back : (s : ℕ) (old : List D) (stores : List (Store (Fused D))) (new : List D) → Paired (IsUpOn lasts seen images setup) s old stores → Paired (λ k. IsDiskOf seen images) 0 stores new → Paired (IsHandedBack lasts seen images setup) s old new
  opened_back s old stores new up out = both s 0 old stores new up out

-- as many disks as servers
pub put_length : {D : Type 0} (seen : D → Contents) (images : D → Image → Type 0) (stores : List (Store (Fused D))) (old new disks : List D) → old ≡ [] → new ≡ old ++ disks → Paired (λ k. IsDiskOf seen images) 0 stores disks → length new ≡ length stores
put_length seen images stores old new disks none is out = ap length (is ∙ ap (λ l. l ++ disks) none) ∙ paired_length (λ k. IsDiskOf seen images) 0 stores disks out
