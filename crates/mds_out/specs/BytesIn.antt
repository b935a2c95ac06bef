-- What a source over bytes in memory is: its remaining bytes, the most that one call gives, and its failing calls.
use Rattle.std.specs.Prelude.{ℕ, List, length, drop, min}
use Rattle.mds_out.specs.Calls.{next_number}

pub record Reading : Type 0 where
  pub left : List ℕ
  pub step : ℕ
  pub fails : List ℕ
  pub made : ℕ

-- how many bytes the next call gives into a buffer of this length, if it does not fail
abbrev pub given_count : Reading → ℕ → ℕ
given_count reading room = min (min reading.step room) (length reading.left)

-- after a call that gave this many bytes, or none because it failed
abbrev pub after_read : Reading → ℕ → Reading
after_read reading count = record {
  left = drop count reading.left;
  step = reading.step;
  fails = reading.fails;
  made =
      next_number reading.made;
}
