-- How a run of device calls goes on, for a caller that speaks of each moment of it.
use Rattle.std.proofs.Common.{inl, inr, ⊎_elim, ℕ, arith}
use Rattle.mds_out.specs.Disk.{Image, Elapses, LeavesOnly}

module _ {D : Type 0} (moment : D → ℕ) (since : D → ℕ → Image → Type 0) where
  -- before the first call
  pub started : (old : D) (P : Image → Type 0) → ((image : Image) → since old (moment old) image → P image) → LeavesOnly moment since old old P
  started old P here = record { later = omega arith; each = here; before = λ t image le left. inl left }

  -- one call more, after which a crash leaves what has P
  pub goes_on : (old mid new : D) (P images : Image → Type 0) → LeavesOnly moment since old mid P → Elapses (moment mid) (moment new) (since mid) (since new) images
      → ((image : Image) → images image → P image) → LeavesOnly moment since old new P
  goes_on old mid new P images so_far time here = record {
    later = omega (arith, so_far.later, time.later);
    each = λ image left. ⊎_elim (so_far.each image) (here image) (time.nothing_else (moment old) image so_far.later left);
    before = λ t image le left. ⊎_elim (so_far.before t image le) (λ now. inr (here image now)) (time.nothing_else t image (omega (arith, le, so_far.later)) left);
  }

  -- the same with a weaker P
  pub leaves_weaker : (old new : D) (P Q : Image → Type 0) → ((image : Image) → P image → Q image) → LeavesOnly moment since old new P → LeavesOnly moment since old new Q
  leaves_weaker old new P Q weaker leaves = record {
    later = leaves.later;
    each = λ image left. weaker image (leaves.each image left);
    before = λ t image le left. ⊎_elim (λ past. inl past) (λ now. inr (weaker image now)) (leaves.before t image le left);
  }

  -- two runs of calls, one after the other
  pub both : (old mid new : D) (P Q R : Image → Type 0) → LeavesOnly moment since old mid P → LeavesOnly moment since mid new Q → ((image : Image) → P image → R image) → ((image : Image) → Q image → R image) → LeavesOnly moment since old new R
  both old mid new P Q R first second from_first from_second = record {
    later = omega (arith, first.later, second.later);
    each = λ image left. ⊎_elim (λ past. from_first image (first.each image past)) (from_second image) (second.before (moment old) image first.later left);
    before = λ t image le left. ⊎_elim (λ past. ⊎_elim (λ older. inl older) (λ now. inr (from_first image now)) (first.before t image le past)) (λ now. inr (from_second image now)) (second.before t image (omega (arith, le, first.later)) left);
  }
