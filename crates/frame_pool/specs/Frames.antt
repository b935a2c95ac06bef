-- Frames: pieces of memory of one size, each with a number of its own in its pool, which are lent and given back.
use Rattle.std.specs.Prelude.{◌≡◌, ℕ, List, Option, Some, None, is_some, count_by, slice_get, slice_set, replicate}
use Rattle.std.specs.Prelude.{length}
use Rattle.std.specs.List.{refill}
use Rattle.std.specs.Global.{Vec}
use Rattle.frame_pool.specs.declared.TheConstants.{FRAME_BYTES}

-- a frame that is out: its number in its pool, and the bytes that it holds
pub record FrameOut : Type 0 where
  pub number : ℕ
  pub bytes : List ℕ

-- The frames of a pool, by their numbers: of a free one the bytes that it holds, None of one that is out. So each
-- number below the length is free or out, and never both.
abbrev pub Frames : Type 0
Frames = List (Option (List ℕ))

-- the frame once these bytes were left in it
abbrev pub filled : FrameOut → List ℕ → FrameOut
filled frame left = record frame { bytes = refill FRAME_BYTES frame.bytes left }

-- a frame of this pool is free and holds these bytes
abbrev pub IsFree : Frames → FrameOut → Type 0
IsFree frames frame = slice_get frames frame.number ≡ Some (Some frame.bytes)

-- this number is one of the pool's, and its frame is out
abbrev pub Lacks : Frames → ℕ → Type 0
Lacks frames number = slice_get frames number ≡ Some None

-- how many frames are free
abbrev pub free_frames : Frames → ℕ
free_frames frames = count_by is_some frames

-- so many frames, all free and filled with zeros
abbrev pub fresh : ℕ → Frames
fresh count = replicate count (Some (replicate FRAME_BYTES 0))

-- the pool once this frame is out
abbrev pub taken : Frames → FrameOut → Frames
taken frames frame = slice_set frames frame.number None

-- the pool once this frame is free again
abbrev pub given : Frames → FrameOut → Frames
given frames frame = slice_set frames frame.number (Some frame.bytes)

-- how a pool keeps a frame: the buffer of a free one
abbrev pub bytes_of : Option (Vec ℕ) → Option (List ℕ)
bytes_of None = None
bytes_of (Some buffer) = Some buffer.items

-- the buffer of a free frame has a frame's bytes
abbrev pub IsWhole : Option (Vec ℕ) → Type 0
IsWhole None = Unit {0}
IsWhole (Some buffer) = length buffer.items ≡ FRAME_BYTES
