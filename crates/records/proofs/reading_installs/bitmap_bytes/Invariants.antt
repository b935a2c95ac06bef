use Rattle.records.proofs.BitmapBytes.{BytesRead}
use Rattle.records.proofs.reading_installs.bitmap_bytes.Given as goal

abbrev pub invariant-loop-place : goal.invariant-loop-place
invariant-loop-place l = BytesRead l.bytes l.place
