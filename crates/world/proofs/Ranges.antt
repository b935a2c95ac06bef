-- What changes of clients, messages and the moment leave of the ranges.
use Rattle.std.proofs.Common.{sym, subst, ℕ, suc, ◌<◌, List, [], ◌∷◌, ◌++◌, refl, append_assoc}
use Rattle.std.specs.Prelude.{slice_set}
use Rattle.std.proofs.lemmas.List.{append-nil}
use Rattle.mds_base.specs.declared.limits.TheConstants.{MOMENTS}
use Rattle.mds_base.specs.declared.setup.Setup.{Setup}
use Rattle.mds_base.specs.Lists.{Each}
use Rattle.mds_base.proofs.Grow.{each_push, each_map, each_set}
use Rattle.records.specs.declared.msg.Msg.{Msg}
use Rattle.world.specs.Ranges.{AreRanges}

pub each_append : {X : Type 0} (P : X → Type 0) (ys xs : List X) → Each xs (λ k x. P x) → Each ys (λ k y. P y) → Each (xs ++ ys) (λ k x. P x)
each_append P [] xs all more = subst (λ zs. Each zs (λ k x. P x)) (sym (append-nil xs)) all
each_append P (y ∷ ys) xs all more =
    let one : Each (xs ++ y ∷ []) (λ k x. P x) = each_push y all (more.at 0 y refl) in
    subst (λ zs. Each zs (λ k x. P x)) (append_assoc xs (y ∷ []) ys) (each_append P ys (xs ++ y ∷ []) one (record { at = λ k x e. more.at (suc k) x e }))

module _ {Seat : Type 0} {setup : Setup} {now : ℕ} {IsSeat : ℕ → Seat → Type 0} {seats : List Seat} {IsSent : Msg → Type 0} {sent : List Msg} (r : AreRanges setup now IsSeat seats IsSent sent) where
  pub seat_set : (k : ℕ) (seat : Seat) → IsSeat k seat → AreRanges setup now IsSeat (slice_set seats k seat) IsSent sent
  seat_set k seat good = record { setup' = r.setup'; moment = r.moment; seats' = each_set k seat r.seats' good; sent' = r.sent' }

  pub seats_mapped : (More : ℕ → Seat → Type 0) → ((k : ℕ) (seat : Seat) → IsSeat k seat → More k seat) → AreRanges setup now More seats IsSent sent
  seats_mapped More grow = record { setup' = r.setup'; moment = r.moment; seats' = each_map r.seats' grow; sent' = r.sent' }

  pub msg_sent : (msg : Msg) → IsSent msg → AreRanges setup now IsSeat seats IsSent (sent ++ msg ∷ [])
  msg_sent msg good = record { setup' = r.setup'; moment = r.moment; seats' = r.seats'; sent' = each_push msg r.sent' good }

  pub msgs_sent : (msgs : List Msg) → Each msgs (λ k msg. IsSent msg) → AreRanges setup now IsSeat seats IsSent (sent ++ msgs)
  msgs_sent msgs good = record { setup' = r.setup'; moment = r.moment; seats' = r.seats'; sent' = each_append IsSent msgs sent r.sent' good }

  pub later : (moment : ℕ) → moment < MOMENTS → AreRanges setup moment IsSeat seats IsSent sent
  later moment below = record { setup' = r.setup'; moment = below; seats' = r.seats'; sent' = r.sent' }
