-- Reading from left to right, on lists: what stands at the front and the bytes after it, or the first fault.
use Rattle.std.specs.Prelude.{ℕ, Option, zero, suc, ◌+◌, ◌-◌, ◌*◌, ◌/◌, ◌%◌, ◌^◌, List, [], ◌∷◌, ◌++◌, length, take}
use Rattle.std.specs.Prelude.{drop, Result, Ok, Err, nat_lt, nat_le, ◌==◌, ◌&&◌, not, min, Bool, false, if◌then◌else◌}
use Rattle.std.specs.Prelude.{None, Some}
use Rattle.std.specs.List.{list_any}
use Rattle.mds_base.specs.declared.call.Call.{Call}
use Rattle.mds_base.specs.declared.call.Call.TheVariants.{Create, Mkdir, Remove, Setattr, Grab, Load, Link, Seal}
use Rattle.mds_base.specs.declared.call.Call.TheVariants.{Unseal, Kill, Unlink}
use Rattle.mds_base.specs.declared.reply.Final.{Final}
use Rattle.mds_base.specs.declared.reply.Final.TheVariants.{Created, CreatedDir, Exists, Removed, Missing, IsDir, Set}
use Rattle.mds_base.specs.declared.reply.Final.TheVariants.{Ids, Loaded, Stale, Sealed, NotEmpty, Late, Opened, Killed}
use Rattle.mds_base.specs.declared.row.Row.{Row}
use Rattle.mds_base.specs.Name.{is_name, is_name_byte}
use Rattle.records.specs.declared.fault.Fault.{Fault}
use Rattle.records.specs.declared.fault.Fault.TheVariants.{Short, Bad}
use Rattle.records.specs.declared.kinds.TheConstants as kinds
use Rattle.records.specs.Faults.{◌>>=◌}
use Rattle.records.specs.LeastFormats.{some_stamped_of}
use Rattle.records.specs.Rows.{last_of, comes_after}

-- a byte that passes a test
unfoldable pub byte_where : (ℕ → Bool) → List ℕ → Result (ℕ × List ℕ) Fault
byte_where test [] = Err Short
byte_where test (b ∷ bytes) = if test b then Ok (b, bytes) else Err (Bad (suc (length bytes)))

-- one of these bytes
unfoldable pub byte_among : List ℕ → List ℕ → Result (ℕ × List ℕ) Fault
byte_among allowed bytes = byte_where (λ b. list_any (λ x. x == b) allowed) bytes

-- whether some number from least to most has value before its last `left` bytes
abbrev pub leads_into : ℕ → ℕ → ℕ → ℕ → Bool
leads_into least most left value = nat_le (least / 256 ^ left) value && nat_le value (most / 256 ^ left)

-- the last `left` bytes of a number from least to most, of which value stands before
unfoldable pub number_after : ℕ → ℕ → ℕ → ℕ → List ℕ → Result (ℕ × List ℕ) Fault
number_after least most value zero bytes = Ok (value, bytes)
number_after least most value (suc left) bytes = do
  b ← byte_where (λ b. leads_into least most left (value * 256 + b)) bytes
  number_after least most (value * 256 + b.0) left b.1

-- a number of so many bytes, from least to most
unfoldable pub number_at : ℕ → ℕ → ℕ → List ℕ → Result (ℕ × List ℕ) Fault
number_at width least most bytes = number_after least most 0 width bytes

-- so many elements behind some others; what an element may be goes by those before it and by how many follow it
unfoldable pub list_after : {X : Type 0} → (List X → ℕ → List ℕ → Result (X × List ℕ) Fault) → List X → ℕ → List ℕ
    → Result (List X × List ℕ) Fault
list_after item so_far zero bytes = Ok (so_far, bytes)
list_after item so_far (suc left) bytes = item so_far left bytes >>= λ x. list_after item (so_far ++ x.0 ∷ []) left x.1

-- the bytes from the first one on that stands in no name
unfoldable pub from_foreign : List ℕ → List ℕ
from_foreign [] = []
from_foreign (b ∷ bytes) = if is_name_byte b then from_foreign bytes else b ∷ bytes

-- a name of so many bytes, where these bytes from the first foreign one on stand in the first `len` bytes
abbrev pub text_from : ℕ → List ℕ → List ℕ → Result (List ℕ × List ℕ) Fault
text_from len bytes (b ∷ foreign) = Err (Bad (suc (length foreign) + (length bytes - len)))
text_from len bytes [] = if nat_lt (length bytes) len then Err Short else if is_name (take len bytes)
    then Ok (take len bytes, drop len bytes) else Err (Bad (length bytes - (len - 1)))

-- a name of so many bytes
unfoldable pub text_at : ℕ → List ℕ → Result (List ℕ × List ℕ) Fault
text_at len bytes = text_from len bytes (from_foreign (take len bytes))

-- a name: its length, and its bytes
unfoldable pub name_at : List ℕ → Result (List ℕ × List ℕ) Fault
name_at bytes = do
  len ← number_at 1 1 255 bytes
  text_at len.0 len.1

-- a name that stands behind that of a row; one that doesn't is bad at its last byte
unfoldable pub rising_at : Option Row → List ℕ → Result (List ℕ × List ℕ) Fault
rising_at before bytes = do
  name ← name_at bytes
  if comes_after before name.0 then Ok (name.0, name.1) else Err (Bad (suc (length name.1)))

-- a row with these attributes
abbrev pub row_with : List ℕ → ℕ → ℕ → ℕ → ℕ → ℕ → Row
row_with name dir mode size owner mtime =
    record { name = name; attr = record { dir = dir; mode = mode; size = size; owner = owner; mtime = mtime } }

-- the owner and the time of a row; at the last row the stamp must be one, if no other was
unfoldable pub stamp_at : Bool → (ℕ → ℕ → Row) → List ℕ → Result (Row × List ℕ) Fault
stamp_at must row bytes = do
  owner ← number_at 4 0 (2 ^ 32 - 1) bytes
  mtime ← number_at 8 (if must && (owner.0 == 0) then 1 else 0) (2 ^ 64 - 1) owner.1
  Ok (row owner.0 mtime.0, mtime.1)

-- the attributes of a row of this name
unfoldable pub attr_at : Bool → Bool → List ℕ → List ℕ → Result (Row × List ℕ) Fault
attr_at stamped must name bytes = do
  dir ← number_at 8 0 (2 ^ 48 - 1) bytes
  mode ← number_at 2 0 4095 dir.1
  size ← number_at 8 0 (2 ^ 64 - 1) mode.1
  if stamped then stamp_at must (row_with name dir.0 mode.0 size.0) size.1
      else Ok (row_with name dir.0 mode.0 size.0 0 0, size.1)

-- whether a row is the last one that can bring the stamp that the rows must have
abbrev pub must_be_stamped : Bool → List Row → ℕ → Bool
must_be_stamped stamped so_far left = stamped && (left == 0) && not (some_stamped_of so_far)

-- a row behind some others, of which so many follow
unfoldable pub row_at : Bool → List Row → ℕ → List ℕ → Result (Row × List ℕ) Fault
row_at stamped so_far left bytes = do
  name ← rising_at (last_of so_far) bytes
  attr_at stamped (must_be_stamped stamped so_far left) name.0 name.1

-- rows: how many, and each of them
unfoldable pub rows_at : Bool → ℕ → ℕ → List ℕ → Result (List Row × List ℕ) Fault
rows_at stamped least most bytes = do
  count ← number_at 4 least most bytes
  list_after (row_at stamped) [] count.0 count.1

-- what follows the size in a setattr of this kind
unfoldable pub set_after : ℕ → ℕ → List ℕ → ℕ → ℕ → List ℕ → Result (Call × List ℕ) Fault
set_after kind dir name mode size bytes =
    if kind == kinds.CALL_SETATTR then Ok (Setattr dir name mode size None, bytes)
    else (number_at 4 0 (2 ^ 32 - 1) bytes >>= λ owner. number_at 8 0 (2 ^ 64 - 1) owner.1
    >>= λ mtime. Ok (Setattr dir name mode size (Some (record { owner = owner.0; mtime = mtime.0 })), mtime.1))

-- what follows the name in a call of this kind
unfoldable pub named_after : ℕ → ℕ → List ℕ → List ℕ → Result (Call × List ℕ) Fault
named_after kind dir name bytes =
    if kind == kinds.CALL_CREATE then Ok (Create dir name, bytes)
    else if kind == kinds.CALL_MKDIR then Ok (Mkdir dir name, bytes)
    else if kind == kinds.CALL_REMOVE then Ok (Remove dir name, bytes)
    else if kind == kinds.CALL_GRAB then (number_at 4 1 4096 bytes >>= λ count. Ok (Grab dir name count.0, count.1))
    else if kind == kinds.CALL_LINK then (number_at 8 1 (2 ^ 48 - 1) bytes >>= λ id. Ok (Link dir name id.0, id.1))
    else if kind == kinds.CALL_UNLINK then (number_at 8 1 (2 ^ 48 - 1) bytes >>= λ id. Ok (Unlink dir name id.0, id.1))
    else (number_at 2 0 4095 bytes >>= λ mode. number_at 8 0 (2 ^ 64 - 1) mode.1
    >>= λ size. set_after kind dir name mode.0 size.0 size.1)

-- what follows the directory in a call of this kind, but for a load
unfoldable pub other_after : ℕ → ℕ → List ℕ → Result (Call × List ℕ) Fault
other_after kind dir bytes =
    if kind == kinds.CALL_SEAL
    then (number_at 4 0 1023 bytes >>= λ part. number_at 8 0 (2 ^ 48 - 1) part.1
    >>= λ epoch. Ok (Seal dir part.0 epoch.0, epoch.1))
    else if kind == kinds.CALL_UNSEAL
    then (number_at 4 0 1023 bytes >>= λ part. number_at 8 0 (2 ^ 48 - 1) part.1
    >>= λ epoch. Ok (Unseal dir part.0 epoch.0, epoch.1))
    else if kind == kinds.CALL_KILL then (number_at 8 0 (2 ^ 48 - 1) bytes >>= λ epoch. Ok (Kill dir epoch.0, epoch.1))
    else (name_at bytes >>= λ name. named_after kind dir name.0 name.1)

-- what follows the directory in a call of this kind
unfoldable pub call_after : ℕ → ℕ → List ℕ → Result (Call × List ℕ) Fault
call_after kind dir bytes =
    if kind == kinds.CALL_LOAD then (rows_at false 1 4096 bytes >>= λ rows. Ok (Load dir rows.0, rows.1))
    else other_after kind dir bytes

-- the kinds of calls
abbrev pub call_kinds : List ℕ
call_kinds = kinds.CALL_CREATE ∷ kinds.CALL_MKDIR ∷ kinds.CALL_REMOVE ∷ kinds.CALL_SETATTR ∷ kinds.CALL_GRAB
    ∷ kinds.CALL_LOAD ∷ kinds.CALL_LINK ∷ kinds.CALL_STAMP ∷ kinds.CALL_SEAL ∷ kinds.CALL_UNSEAL ∷ kinds.CALL_KILL
    ∷ kinds.CALL_UNLINK ∷ []

unfoldable pub call_at : List ℕ → Result (Call × List ℕ) Fault
call_at bytes = do
  kind ← byte_among call_kinds bytes
  dir ← number_at 8 1 (2 ^ 48 - 1) kind.1
  call_after kind.0 dir.0 dir.1

-- the tags of the finals that a call may get
abbrev pub tags_of : Call → List ℕ
tags_of (Create dir name) = kinds.FINAL_CREATED ∷ kinds.FINAL_EXISTS ∷ []
tags_of (Mkdir dir name) = kinds.FINAL_CREATED_DIR ∷ kinds.FINAL_EXISTS ∷ []
tags_of (Remove dir name) = kinds.FINAL_REMOVED ∷ kinds.FINAL_MISSING ∷ kinds.FINAL_IS_DIR ∷ []
tags_of (Setattr dir name mode size stamp) = kinds.FINAL_MISSING ∷ kinds.FINAL_SET ∷ []
tags_of (Grab dir name count) = kinds.FINAL_IDS ∷ []
tags_of (Load dir rows) = kinds.FINAL_LOADED ∷ kinds.FINAL_STALE ∷ []
tags_of (Link dir name id) = kinds.FINAL_CREATED_DIR ∷ kinds.FINAL_EXISTS ∷ []
tags_of (Seal dir part epoch) = kinds.FINAL_SEALED ∷ kinds.FINAL_NOT_EMPTY ∷ kinds.FINAL_LATE ∷ kinds.FINAL_KILLED ∷ []
tags_of (Unseal dir part epoch) = kinds.FINAL_LATE ∷ kinds.FINAL_OPENED ∷ []
tags_of (Kill dir epoch) = kinds.FINAL_LATE ∷ kinds.FINAL_KILLED ∷ []
tags_of (Unlink dir name id) = kinds.FINAL_EXISTS ∷ kinds.FINAL_REMOVED ∷ kinds.FINAL_MISSING ∷ []
tags_of call = []

-- the range of the number that follows a tag; a link is told its own number, and a load adds at most its rows
abbrev pub least_of : Call → ℕ → ℕ
least_of (Link dir name id) tag = if tag == kinds.FINAL_CREATED_DIR then id else 0
least_of (Load dir rows) tag = 0
least_of call tag = if tag == kinds.FINAL_CREATED_DIR then 1 else if tag == kinds.FINAL_IDS then 2 else 0

abbrev pub most_of : Call → ℕ → ℕ
most_of (Link dir name id) tag = if tag == kinds.FINAL_CREATED_DIR then id else 0
most_of (Load dir rows) tag = if tag == kinds.FINAL_LOADED then min (length rows) 4096 else 0
most_of call tag = if tag == kinds.FINAL_CREATED_DIR then 2 ^ 48 - 1 else if tag == kinds.FINAL_IDS then 2 ^ 45 else 0

abbrev pub final_of : ℕ → ℕ → Final
final_of tag number =
    if tag == kinds.FINAL_CREATED then Created
    else if tag == kinds.FINAL_CREATED_DIR then CreatedDir number
    else if tag == kinds.FINAL_EXISTS then Exists
    else if tag == kinds.FINAL_REMOVED then Removed
    else if tag == kinds.FINAL_MISSING then Missing
    else if tag == kinds.FINAL_IS_DIR then IsDir
    else if tag == kinds.FINAL_SET then Set
    else if tag == kinds.FINAL_IDS then Ids number
    else if tag == kinds.FINAL_LOADED then Loaded number
    else if tag == kinds.FINAL_STALE then Stale
    else if tag == kinds.FINAL_NOT_EMPTY then NotEmpty
    else if tag == kinds.FINAL_LATE then Late
    else if tag == kinds.FINAL_OPENED then Opened
    else Killed

-- the last byte of 16 times an epoch and a depth
abbrev pub is_low : ℕ → Bool
is_low b = nat_le (b % 16) 14

-- the epoch and the depth of a seal, in one number
unfoldable pub sealed_at : List ℕ → Result (Final × List ℕ) Fault
sealed_at bytes = do
  high ← number_at 7 0 (2 ^ 44 - 1) bytes
  low ← byte_where is_low high.1
  Ok (Sealed (low.0 % 16) (high.0 * 16 + low.0 / 16), low.1)

unfoldable pub final_at : Call → List ℕ → Result (Final × List ℕ) Fault
final_at call bytes = do
  tag ← byte_among (tags_of call) bytes
  if tag.0 == kinds.FINAL_SEALED then sealed_at tag.1
      else (number_at 8 (least_of call tag.0) (most_of call tag.0) tag.1
      >>= λ number. Ok (final_of tag.0 number.0, number.1))
