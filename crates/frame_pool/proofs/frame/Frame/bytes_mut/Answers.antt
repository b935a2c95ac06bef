use Rattle.std.proofs.Common.{◌≡◌, refl, ap, ◌∙◌, length, take, drop, ◌++◌}
use Rattle.frame_pool.specs.Frames.{FrameOut, filled}
use Rattle.frame_pool.specs.declared.TheConstants.{FRAME_BYTES}
use Rattle.frame_pool.proofs.frame.Frame.bytes_mut.Goals as goal

pub returns : goal.returns
returns c =
    let buffer = c.self.inside.block in
    let whole : buffer.len ≡ FRAME_BYTES = buffer.ok.0 ∙ c.self.invariant in (
      (
        refl,
        λ w. ap (λ n. record { number = c.self.inside.number; bytes = take n (w ++ drop (length w) buffer.items) }) whole
            ∙ ap (λ (frame : FrameOut). filled frame w) c.self.view_is,
      ),
      record { writes_back = tt; bytes = c.as_mut_slice.ensures.value ∙ ap (λ (frame : FrameOut). frame.bytes) c.self.view_is; size = ap length c.as_mut_slice.ensures.value ∙ c.self.invariant },
    )
