-- What a frame ends as, where its bytes were lent to be written.
use Rattle.std.specs.Prelude.{ℕ, List}
use Rattle.std.specs.Borrow.{Lends, MutBor, Fml, Array, u8}
use Rattle.frame_pool.specs.Frames.{FrameOut, filled}
use Rattle.frame_pool.specs.contracts.frame.Frame.{the_row}

-- a frame whose bytes were lent ends with the bytes that were left there, under its own number
abbrev pub LendsBytes : MutBor FrameOut → MutBor (List ℕ) → Fml
LendsBytes frame bytes = Lends the_row (Array u8 0) frame bytes (filled frame.now)
