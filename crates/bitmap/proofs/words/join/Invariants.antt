use Rattle.std.proofs.Common.{◌≡◌, ℕ, ◌<◌, ◌≤◌, get_or, length, bit_or}
use Rattle.bitmap.specs.Words.{word_count}
use Rattle.bitmap.proofs.words.join.Given as goal

abbrev pub invariant-loop-i : goal.invariant-loop-i
invariant-loop-i l = record {
  count : length l.words ≡ word_count;
  joined : (k : ℕ) → k < l.i → get_or l.words k 0 ≡ bit_or (get_or l.fn.words k 0) (get_or l.more k 0);
  left : (k : ℕ) → l.i ≤ k → get_or l.words k 0 ≡ get_or l.fn.words k 0;
}
