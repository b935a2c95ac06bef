-- Servers are brought up one after another, each on its disk.
use Rattle.std.proofs.Common.{◌≡◌, ◌∙◌, sym, ap, subst, refl, ℕ, ◌+◌, ◌-◌, ◌<◌, List, [], ◌∷◌, ◌++◌, length, Some, inl, inr, append_assoc, append-nil, arith}
use Rattle.std.specs.Prelude.{map as list_map}
use Rattle.std.specs.List.{slice_get}
use Rattle.std.proofs.lemmas.List.{length-append}
use Rattle.std.proofs.lemmas.Option.{same_Some}
use Rattle.mds_base.specs.declared.setup.Setup.{Setup}
use Rattle.mds_base.specs.declared.store_fault.StoreFault.{StoreFault}
use Rattle.mds_out.specs.Disk.{Image, Contents}
use Rattle.mds_out.specs.Fused.{Fused}
use Rattle.node_store.specs.Stands.{opened_store}
use Rattle.node_store.specs.Store.{Store}
use Rattle.mds_base.proofs.Grow.{get_front, get_pushed}
use Rattle.mds_base.proofs.Lists.{get_next, get_beyond, get_below}
use Rattle.pasts.specs.Openings.{Paired, IsUpOn, IsCounted, AreCounted, IsDiskOf, IsHandedBack, IsOpenFault, IsNotOpened, WasOpened}
use Rattle.pasts.proofs.PastFound.{any_front}
use Rattle.pasts.proofs.DisksGiven.{opened_back}
use Rattle.pasts.proofs.ServerOpened.{was_opened}
use Rattle.pasts.proofs.ListPairs.{paired_push, paired_join, paired_length, paired_self, paired_at}

-- the servers of the first disks are up, and these disks are left
pub record AreRaised {D : Type 0} (lasts : D → D → Type 0) (seen : D → Contents) (images : D → Image → Type 0) (setup : Setup) (disks left : List D) (server : ℕ) (stores : List (Store (Fused D))) : Type 0 where
  pub done : List D
  pub split : done ++ left ≡ disks
  pub count : server ≡ length done
  pub up : Paired (IsUpOn lasts seen images setup) 0 done stores

module _ {D : Type 0} (lasts : D → D → Type 0) (seen : D → Contents) (images : D → Image → Type 0) (setup : Setup) (disks : List D) where
  pub raised_none : (stores : List (Store (Fused D))) → stores ≡ [] → AreRaised lasts seen images setup disks disks 0 stores
  raised_none stores none = record { done = []; split = refl; count = refl; up = subst (Paired (IsUpOn lasts seen images setup) 0 []) (sym none) tt }

  pub raised_one : (left rest : List D) (server next : ℕ) (stores more : List (Store (Fused D))) (disk : D) (store : Store (Fused D)) → AreRaised lasts seen images setup disks left server stores → left ≡ disk ∷ rest
      → IsUpOn lasts seen images setup server disk store → next ≡ server + 1 → more ≡ stores ++ store ∷ [] → AreRaised lasts seen images setup disks rest next more
  raised_one left rest server next stores more disk store so first is counted pushed = record {
    done = so.done ++ disk ∷ [];
    split = append_assoc so.done (disk ∷ []) rest ∙ ap (λ l. so.done ++ l) (sym first) ∙ so.split;
    count = (let c = so.count in let n = length-append so.done (disk ∷ []) in omega arith);
    up = subst (Paired (IsUpOn lasts seen images setup) 0 (so.done ++ disk ∷ [])) (sym pushed) (paired_push (IsUpOn lasts seen images setup) so.done stores disk store so.up (subst (λ k. IsUpOn lasts seen images setup k disk store) so.count is));
  }

  pub raised_all : (left : List D) (server : ℕ) (stores : List (Store (Fused D))) → AreRaised lasts seen images setup disks left server stores → left ≡ [] → Paired (IsUpOn lasts seen images setup) 0 disks stores
  raised_all left server stores so none =
      let all : so.done ≡ disks = sym (append-nil so.done) ∙ ap (λ l. so.done ++ l) (sym none) ∙ so.split in
      subst (λ l. Paired (IsUpOn lasts seen images setup) 0 l stores) all so.up

  -- a server is within its range while disks are left
  pub raised_below : (left rest : List D) (server : ℕ) (stores : List (Store (Fused D))) (disk : D) → AreRaised lasts seen images setup disks left server stores → left ≡ disk ∷ rest → server + 1 + length rest ≡ length disks
  raised_below left rest server stores disk so first =
      let n = ap length so.split in
      let m = length-append so.done left in
      let k = ap length first in
      let c = so.count in
      omega arith

  pub raised_count : (left : List D) (server : ℕ) (stores : List (Store (Fused D))) → AreRaised lasts seen images setup disks left server stores → length stores ≡ server
  raised_count left server stores so = paired_length (IsUpOn lasts seen images setup) 0 so.done stores so.up ∙ sym so.count

-- The counts of the disks

pub counted_one : {D : Type 0} (lasts : D → D → Type 0) (seen : D → Contents) (images : D → Image → Type 0) (setup : Setup) (disks left rest : List D) (server : ℕ) (stores more : List (Store (Fused D))) (disk : D) (store : Store (Fused D)) → AreRaised lasts seen images setup disks left server stores → left ≡ disk ∷ rest
    → (faults : D → ℕ) → AreCounted faults disks stores → IsCounted faults disk store → more ≡ stores ++ store ∷ [] → AreCounted faults disks more
counted_one lasts seen images setup disks left rest server stores more disk store so first faults all one pushed s x y there is = elim (get_pushed stores store s y (ap (λ l. slice_get l s) (sym pushed) ∙ is)) [
  | inl h ↦ all s x y there h
  | inr h ↦
      let at : slice_get disks s ≡ Some disk =
      ap (slice_get disks) (h.0 ∙ raised_count lasts seen images setup disks left server stores so ∙ so.count) ∙ ap (λ d. slice_get d (length so.done)) (sym so.split ∙ ap (λ l. so.done ++ l) first) ∙ get_next so.done disk rest in
      subst (IsCounted faults x) h.1 (subst (λ v. IsCounted faults v store) (same_Some disk x (sym at ∙ there)) one)
]

-- The disks where a server was refused

module _ {D : Type 0} (lasts : D → D → Type 0) (seen : D → Contents) (images : D → Image → Type 0) (setup : Setup) (disks left rest : List D) (server : ℕ) (stores : List (Store (Fused D))) (disk new : D) (front back : List D)
    (so : AreRaised lasts seen images setup disks left server stores) (first : left ≡ disk ∷ rest) (out : Paired (λ k. IsDiskOf seen images) 0 stores front) (all : back ≡ front ++ new ∷ rest) where
  whole : so.done ++ disk ∷ rest ≡ disks
  whole = ap (λ l. so.done ++ l) (sym first) ∙ so.split

  front_length : length front ≡ server
  front_length = paired_length (λ k. IsDiskOf seen images) 0 stores front out ∙ paired_length (IsUpOn lasts seen images setup) 0 so.done stores so.up ∙ sym so.count

  pub all_back : ((x : D) → lasts x x) → IsHandedBack lasts seen images setup server disk new → Paired (IsHandedBack lasts seen images setup) 0 disks back
  all_back here is =
      let n : server ≡ 0 + length so.done = let c = so.count in omega arith in
      let one : Paired (IsHandedBack lasts seen images setup) (0 + length so.done) (disk ∷ rest) (new ∷ rest) = (
        subst (λ k. IsHandedBack lasts seen images setup k disk new) n is,
        paired_self (IsHandedBack lasts seen images setup) (λ k x. record {
          lasts' = here x;
          told = λ some. some;
          left = λ some stores keeps image among. any_front k setup stores (list_map opened_store stores) (image 1) (keeps image among);
        }) (0 + length so.done + 1) rest,
      ) in
      subst (λ l. Paired (IsHandedBack lasts seen images setup) 0 l back) whole
      (subst (Paired (IsHandedBack lasts seen images setup) 0 (so.done ++ disk ∷ rest)) (sym all)
      (paired_join (IsHandedBack lasts seen images setup) 0 so.done (disk ∷ rest) front (new ∷ rest) (opened_back lasts seen images setup 0 so.done stores front so.up out) one))

  later_at : (s k : ℕ) → s ≡ server + 1 + k → slice_get back s ≡ slice_get disks s
  later_at s k e =
      let c = so.count in
      let l = front_length in
      let there : s ≡ length front + 1 + k = omega arith in
      let here : length so.done + 1 + k ≡ s = omega arith in
      ap (λ b. slice_get b s) all ∙ ap (slice_get (front ++ new ∷ rest)) there ∙ get_beyond front new rest k
      ∙ sym (get_beyond so.done disk rest k) ∙ ap (slice_get (so.done ++ disk ∷ rest)) here ∙ ap (λ d. slice_get d s) whole

  -- a server before it was opened
  earlier_at : (faults : D → ℕ) → AreCounted faults disks stores → (s : ℕ) (before now : D) → s < server → slice_get disks s ≡ Some before → slice_get back s ≡ Some now → WasOpened faults seen images setup s before now
  earlier_at faults counted s before now lt was is =
      let c = so.count in
      let n = raised_count lasts seen images setup disks left server stores so in
      let l = front_length in
      let d = get_below so.done s (omega (arith, lt, c)) in
      let f = get_below front s (omega (arith, lt, l)) in
      let g = get_below stores s (omega (arith, lt, n)) in
      let old : d.0 ≡ before = same_Some d.0 before (sym (ap (λ x. slice_get x s) (sym so.split) ∙ get_front so.done left s d.0 d.1) ∙ was) in
      let got : f.0 ≡ now = same_Some f.0 now (sym (ap (λ b. slice_get b s) all ∙ get_front front (new ∷ rest) s f.0 f.1) ∙ is) in
      let up : IsUpOn lasts seen images setup s before g.0 = subst (λ x. IsUpOn lasts seen images setup s x g.0) old (paired_at (IsUpOn lasts seen images setup) so.done stores so.up s d.0 g.0 d.1 g.1) in
      let on : IsDiskOf seen images g.0 now = subst (IsDiskOf seen images g.0) got (paired_at (λ k. IsDiskOf seen images) stores front out s g.0 f.0 g.1 f.1) in
      was_opened faults lasts seen images setup s before now g.0 up (counted s before g.0 was g.1) on.inner

  pub not_opened : ((x : D) → lasts x x) → (faults : D → ℕ) → AreCounted faults disks stores → (fault : StoreFault) → IsHandedBack lasts seen images setup server disk new → IsOpenFault faults seen setup server disk new fault → IsNotOpened faults seen images setup disks back server fault
  not_opened here faults counted fault is cause = record {
    count = paired_length (IsHandedBack lasts seen images setup) 0 disks back (all_back here is);
    within = (let n = raised_below lasts seen images setup disks left rest server stores disk so first in omega arith);
    earlier = earlier_at faults counted;
    later = λ s lt. later_at s (s - (server + 1)) (omega (arith, lt));
    cause = λ before now was is.
        let old : disk ≡ before = same_Some disk before (sym (get_next so.done disk rest) ∙ ap (slice_get (so.done ++ disk ∷ rest)) (sym so.count) ∙ ap (λ d. slice_get d server) whole ∙ was) in
        let got : new ≡ now = same_Some new now (sym (get_next front new rest) ∙ ap (slice_get (front ++ new ∷ rest)) front_length ∙ ap (λ b. slice_get b server) (sym all) ∙ is) in
        subst (λ x. IsOpenFault faults seen setup server x now fault) old (subst (λ x. IsOpenFault faults seen setup server disk x fault) got cause);
  }
