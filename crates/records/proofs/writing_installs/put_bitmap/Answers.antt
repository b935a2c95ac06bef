use Rattle.std.proofs.Common.{◌∙◌, ap, ℕ, List, [], ◌∷◌, ◌++◌}
use Rattle.records.specs.Installs.{bitmap_byte}
use Rattle.records.proofs.BitmapBytes.{one_byte_more}
use Rattle.records.proofs.writing_installs.put_bitmap.Goals as goal

pub loop-place-preserved : goal.loop-place-preserved
loop-place-preserved c = record {
  written =
      c.in_ok-put_byte.ensures.ok ∙ ap (λ (b : ℕ). c.loop-place.out.items ++ b ∷ []) c.bitmap_byte.ensures
      ∙ ap (λ (t : List ℕ). t ++ bitmap_byte c.args.bitmap.now c.loop-place.place ∷ []) c.loop-place.invariant.written
      ∙ one_byte_more c.args.bitmap.now c.args.out.now.items c.loop-place.place;
  grows = λ front begins. c.in_ok-put_byte.ensures.grows front (c.loop-place.invariant.grows front begins);
}
