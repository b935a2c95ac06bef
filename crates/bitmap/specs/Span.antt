-- Spans of reversed hashes.
use Rattle.std.specs.Prelude.{◌≡◌, ℕ, suc, ◌+◌, ◌-◌, ◌^◌, ◌≤◌}
use Rattle.chains.specs.Depth.{depth_of}
use Rattle.chains.specs.Reversed.{first_of, last_of}
use Rattle.bitmap.specs.Bits.{Bits, has}
use Rattle.bitmap.specs.declared.span.Span.{Span}

-- the span of the range that a partition has in a bitmap
abbrev pub range_of : ℕ → Bits → ℕ → Span
range_of radix bits part =
    record { first = first_of 64 part; last = last_of 64 part (depth_of radix part (has bits)) }

-- a reversed hash lies in the span
abbrev pub IsInside : Span → ℕ → Type 0
IsInside span place = (span.first ≤ place) × (place ≤ span.last)

-- a span is cut in the middle
pub record IsHalved (span lower upper : Span) : Type 0 where
  pub first : lower.first ≡ span.first
  pub middle : lower.last + 1 ≡ upper.first
  pub last : upper.last ≡ span.last
  pub equal : upper.last - upper.first ≡ lower.last - lower.first

-- a split of part at this depth leaves part and makes the child, both one deeper
pub record SplitsAt (radix : ℕ) (old new : Bits) (part depth : ℕ) : Type 0 where
  pub before : depth_of radix part (has old) ≡ depth
  pub after : depth_of radix part (has new) ≡ suc depth
  pub child : depth_of radix (part + 2 ^ depth) (has new) ≡ suc depth
