use Rattle.std.proofs.Common.{◌≡◌, ◌++◌, map}
use Rattle.std.specs.List.{range_with_len}
use Rattle.records.specs.Installs.{bitmap_byte}
use Rattle.records.specs.Writing.{OnlyGrows}
use Rattle.records.proofs.writing_installs.put_bitmap.Given as goal

abbrev pub invariant-loop-place : goal.invariant-loop-place
invariant-loop-place l = record { written : l.out.items ≡ l.fn.out.items ++ map (bitmap_byte l.bitmap) (range_with_len 0 l.place); grows : OnlyGrows l.fn.out.items l.out.items }
