-- What the child of a split is made from, as bytes: the bitmap, the sessions and the rows that its source sent.
use Rattle.std.specs.Prelude.{ℕ, ◌+◌, ◌*◌, ◌^◌, ◌<◌, ◌≤◌, List, [], ◌∷◌, ◌++◌, map, length, None}
use Rattle.std.specs.Int.{w32, w64, to_be_bytes}
use Rattle.std.specs.List.{AllByRecursion, flat_map, range_with_len}
use Rattle.chains.specs.WellFormed.{IsWellFormed}
use Rattle.mds_base.specs.declared.TheConstants.{RADIX}
use Rattle.mds_base.specs.declared.row.Row.{Row}
use Rattle.mds_base.specs.declared.session.Session.{Session}
use Rattle.bitmap.specs.Bits.{Bits, has}
use Rattle.bitmap.specs.Words.{number_of as number_with}
use Rattle.records.specs.declared.record.Record.{Record}
use Rattle.records.specs.declared.record.Record.TheVariants.{Install}
use Rattle.records.specs.FinalBytes.{IsDirectory, IsNumbered, final_spelling}
use Rattle.records.specs.LeastFormats.{some_stamped_of}
use Rattle.records.specs.Rows.{rows_spelling, IsRow, AreRising}

-- byte k of a bitmap has the bits from 8 * k on, the lowest first
abbrev pub bitmap_byte : Bits → ℕ → ℕ
bitmap_byte bits k = number_with (λ i. has bits (k * 8 + i)) 8

-- 128 bytes
abbrev pub bitmap_spelling : Bits → List ℕ
bitmap_spelling bits = map (bitmap_byte bits) (range_with_len 0 128)

abbrev pub session_spelling : Session → List ℕ
session_spelling session =
    to_be_bytes w32 session.client ++ (to_be_bytes w64 session.seq ++ final_spelling session.said)

-- how many sessions there are, in one byte, and each of them
abbrev pub sessions_spelling : List Session → List ℕ
sessions_spelling sessions = length sessions ∷ flat_map session_spelling sessions

-- a session whose numbers are within their ranges
pub record IsSession (session : Session) : Type 0 where
  pub few_clients : session.client ≤ 64
  pub from_one : 1 ≤ session.seq
  pub fits : session.seq < 2 ^ 64
  pub numbered : IsNumbered session.said

-- sessions whose clients rise, from `least` on
abbrev pub AreSessions : ℕ → List Session → Type 0
AreSessions least [] = Unit {0}
AreSessions least (session ∷ sessions) =
    (least ≤ session.client) × IsSession session × AreSessions (session.client + 1) sessions

-- what a child is made from, as far as can be said while the last `missing` bytes of the spelling are still to come
pub record IsInstall (missing dir part depth : ℕ) (bitmap : Bits) (sessions : List Session)
    (rows : List Row) : Type 0 where
  pub directory : IsDirectory dir
  pub deep : 1 ≤ depth
  pub shallow : depth ≤ 10
  pub below : part < 2 ^ depth
  pub formed : IsWellFormed RADIX (has bitmap)
  pub clients : AreSessions 1 sessions
  pub few : length rows < 2 ^ 32
  pub rising : AreRising (some_stamped_of rows) missing None rows
  pub each : AllByRecursion (IsRow (some_stamped_of rows)) rows

-- the directory, the child, its depth, the bitmap, the sessions and the rows, with stamps where a row has one
abbrev pub install_spelling : ℕ → ℕ → ℕ → Bits → List Session → List Row → List ℕ
install_spelling dir part depth bitmap sessions rows =
    to_be_bytes w64 dir ++ (to_be_bytes w32 part
    ++ (depth ∷ (bitmap_spelling bitmap
    ++ (sessions_spelling sessions ++ rows_spelling (some_stamped_of rows) rows))))

-- the rows of an Install; other records have none of their own
abbrev pub installed_rows : Record → List Row
installed_rows (Install dir part depth bitmap sessions rows) = rows
installed_rows item = []
