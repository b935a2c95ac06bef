-- Reading what the child of a split is made from, on lists, from left to right.
use Rattle.std.specs.Prelude.{ℕ, Option, None, Some, zero, suc, ◌+◌, ◌-◌, ◌*◌, ◌/◌, ◌%◌, ◌^◌, List, [], ◌∷◌, ◌++◌}
use Rattle.std.specs.Prelude.{length, get_or, Result, Ok, nat_lt, nat_le, ◌==◌, ◌&&◌, ◌||◌, not, Bool, true}
use Rattle.std.specs.Prelude.{if◌then◌else◌}
use Rattle.std.specs.Int.{bit_at}
use Rattle.std.specs.List.{slice_get}
use Rattle.mds_base.specs.declared.reply.Final.{Final}
use Rattle.mds_base.specs.declared.session.Session.{Session}
use Rattle.bitmap.specs.Bits.{Bits}
use Rattle.bitmap.specs.Words.{passing}
use Rattle.records.specs.declared.fault.Fault.{Fault}
use Rattle.records.specs.declared.kinds.TheConstants as kinds
use Rattle.records.specs.declared.record.Record.{Record}
use Rattle.records.specs.declared.record.Record.TheVariants.{Install}
use Rattle.records.specs.Faults.{◌>>=◌}
use Rattle.records.specs.Reading.{byte_where, byte_among, number_at, list_after, rows_at, final_of, sealed_at}

-- ---- bitmaps

-- bit i of some bytes; those past the end are not set
abbrev pub bit_in : List ℕ → ℕ → Bool
bit_in bytes i = bit_at (get_or bytes (i / 8) 0) (i % 8) == 1

-- whether the set has n - 2 ^ j, where that is a number below 2 ^ (j + 1)
abbrev pub has_under : (ℕ → Bool) → ℕ → ℕ → Bool
has_under set n j = not (nat_le (2 ^ j) n && nat_lt n (2 ^ j + 2 ^ suc j)) || set (n - 2 ^ j)

-- whether the set has what its number n requires at each depth below this one
unfoldable pub has_required : (ℕ → Bool) → ℕ → ℕ → Bool
has_required set n zero = true
has_required set n (suc j) = has_required set n j && has_under set n j

-- whether a number that is in the set has what it requires
abbrev pub may_stand : (ℕ → Bool) → ℕ → Bool
may_stand set n = not (set n) || has_required set n 10

-- whether this holds of each of so many numbers from the first on
unfoldable pub is_grown : (ℕ → Bool) → ℕ → ℕ → Bool
is_grown set first zero = true
is_grown set first (suc count) = is_grown set first count && may_stand set (first + count)

-- whether a byte may follow these in a bitmap: 0 is in the set, and what the byte brings has what it requires
abbrev pub may_grow : List ℕ → ℕ → Bool
may_grow so_far b =
    (not (length so_far == 0) || (b % 2 == 1)) && is_grown (bit_in (so_far ++ b ∷ [])) (length so_far * 8) 8

unfoldable pub bitmap_at : List ℕ → Result (Bits × List ℕ) Fault
bitmap_at bytes = do
  front ← list_after (λ so_far left. byte_where (may_grow so_far)) [] 128 bytes
  Ok (passing (bit_in front.0) 1024, front.1)

-- ---- sessions

-- the tags of finals
abbrev pub final_tags : List ℕ
final_tags = kinds.FINAL_CREATED ∷ kinds.FINAL_CREATED_DIR ∷ kinds.FINAL_EXISTS ∷ kinds.FINAL_REMOVED
    ∷ kinds.FINAL_MISSING ∷ kinds.FINAL_IS_DIR ∷ kinds.FINAL_SET ∷ kinds.FINAL_IDS ∷ kinds.FINAL_LOADED
    ∷ kinds.FINAL_STALE ∷ kinds.FINAL_SEALED ∷ kinds.FINAL_NOT_EMPTY ∷ kinds.FINAL_LATE ∷ kinds.FINAL_OPENED
    ∷ kinds.FINAL_KILLED ∷ []

-- the range of the number that follows a tag, whatever the call was
abbrev pub least_with : ℕ → ℕ
least_with tag = if tag == kinds.FINAL_CREATED_DIR then 1 else if tag == kinds.FINAL_IDS then 2 else 0

abbrev pub most_with : ℕ → ℕ
most_with tag = if tag == kinds.FINAL_CREATED_DIR then 2 ^ 48 - 1 else if tag == kinds.FINAL_IDS then 2 ^ 45
    else if tag == kinds.FINAL_LOADED then 4096 else 0

-- what follows a tag, whatever the call was; a seal's is another
unfoldable pub numbered_at : ℕ → List ℕ → Result (Final × List ℕ) Fault
numbered_at tag bytes = do
  number ← number_at 8 (least_with tag) (most_with tag) bytes
  Ok (final_of tag number.0, number.1)

-- the final of some call
unfoldable pub some_final_at : List ℕ → Result (Final × List ℕ) Fault
some_final_at bytes = do
  tag ← byte_among final_tags bytes
  if tag.0 == kinds.FINAL_SEALED then sealed_at tag.1 else numbered_at tag.0 tag.1

-- a session of a client from the least to the most
unfoldable pub session_in : ℕ → ℕ → List ℕ → Result (Session × List ℕ) Fault
session_in least most bytes = do
  client ← number_at 4 least most bytes
  seq ← number_at 8 1 (2 ^ 64 - 1) client.1
  said ← some_final_at seq.1
  Ok (record { client = client.0; seq = seq.0; said = said.0 }, said.1)

-- the last of some sessions
abbrev pub last_session : List Session → Option Session
last_session sessions = slice_get sessions (length sessions - 1)

-- the least client that may follow a session
abbrev pub client_after : Option Session → ℕ
client_after None = 1
client_after (Some session) = session.client + 1

-- a session behind some others, of which so many follow, each of a greater client
abbrev pub session_at : List Session → ℕ → List ℕ → Result (Session × List ℕ) Fault
session_at so_far left bytes = session_in (client_after (last_session so_far)) (64 - left) bytes

unfoldable pub sessions_at : List ℕ → Result (List Session × List ℕ) Fault
sessions_at bytes = do
  count ← number_at 1 0 64 bytes
  list_after session_at [] count.0 count.1

-- ---- the child of a split

-- a depth that the child of a split may have
abbrev pub is_child_depth : ℕ → ℕ → Bool
is_child_depth part depth = (nat_le 1 depth && nat_le depth 10) && nat_lt part (2 ^ depth)

-- the bitmap, the sessions and the rows of a child; with stamps there is a row that has one
unfoldable pub child_at : Bool → ℕ → ℕ → ℕ → List ℕ → Result (Record × List ℕ) Fault
child_at stamped dir part depth bytes = do
  bitmap ← bitmap_at bytes
  sessions ← sessions_at bitmap.1
  rows ← rows_at stamped (if stamped then 1 else 0) (2 ^ 32 - 1) sessions.1
  Ok (Install dir part depth bitmap.0 sessions.0 rows.0, rows.1)

unfoldable pub install_at : Bool → List ℕ → Result (Record × List ℕ) Fault
install_at stamped bytes = do
  dir ← number_at 8 1 (2 ^ 48 - 1) bytes
  part ← number_at 4 0 1023 dir.1
  depth ← byte_where (is_child_depth part.0) part.1
  child_at stamped dir.0 part.0 depth.0 depth.1
