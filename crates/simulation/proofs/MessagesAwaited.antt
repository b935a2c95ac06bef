-- The messages that wait once some were sent, one after another.
use Rattle.std.proofs.Common.{◌≡◌, ◌∙◌, sym, ap, refl, ℕ, zero, suc, ◌+◌, ◌<◌, ◌≤◌, List, [], ◌∷◌, length, drop, get_or, Some, arith}
use Rattle.std.specs.FinSet as set
use Rattle.std.proofs.lemmas.List.{drop_more}
use Rattle.records.specs.declared.msg.Msg.{Msg}
use Rattle.simulation.specs.Moves.{awaiting, awaiting_all}
use Rattle.simulation.specs.Shows.{waiting_cmp, server_for}

drop_whole : (msgs : List Msg) (k : ℕ) → length msgs ≤ k → drop k msgs ≡ []
drop_whole [] zero whole = refl
drop_whole [] (suc k) whole = refl
drop_whole (x ∷ msgs) zero whole = absurd (omega (arith, whole))
drop_whole (x ∷ msgs) (suc k) whole = drop_whole msgs k (omega (arith, whole))

module _ (waiting : set.FinSet waiting_cmp) (msgs : List Msg) (first : ℕ) (now : set.FinSet waiting_cmp) (message k : ℕ) (so_far : awaiting_all now (drop k msgs) message ≡ awaiting_all waiting msgs first) where
  pub awaited_more : (msg : Msg) (more : set.FinSet waiting_cmp) → k < length msgs → msg ≡ get_or msgs k msg → more ≡ awaiting now (server_for (Some msg)) message → awaiting_all more (drop (k + 1) msgs) (message + 1) ≡ awaiting_all waiting msgs first
  awaited_more msg more below read is =
      ap (λ w. awaiting_all w (drop (k + 1) msgs) (message + 1)) is
      ∙ sym (ap (λ l. awaiting_all now l message) (drop_more msgs k msg below ∙ ap (λ m. m ∷ drop (k + 1) msgs) (sym read)))
      ∙ so_far

  pub awaited_all : (all : List Msg) → length msgs ≤ k → msgs ≡ all → now ≡ awaiting_all waiting all first
  awaited_all all whole same = ap (λ l. awaiting_all now l message) (sym (drop_whole msgs k whole)) ∙ so_far ∙ ap (λ l. awaiting_all waiting l first) same
