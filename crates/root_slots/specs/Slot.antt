-- What file 0 says. It has two slots, at bytes 0 and 1024. A slot is a gate of one byte, 01 where it is open, and
-- behind it: the root's number (8 bytes), its state file (4), its log file (4), how many tables it has (1), these
-- tables (4 each), and the MD5 of all this. Numbers stand with the highest byte first.
use Rattle.std.specs.Prelude.{ℕ, zero, suc, ◌+◌, ◌*◌, List, [], ◌∷◌, ◌++◌, length, take, drop, slice_index, slice_range}
use Rattle.std.specs.Prelude.{◌≡◌, Bool, true, false, ◌&&◌, ◌==◌, nat_eq, nat_lt, if◌then◌else◌, Option, Some, None, ⊤}
use Rattle.std.specs.Int.{to_be_bytes, w32, w64}
use Rattle.std.specs.Cmp.Lexicographic.{pointwise}
use Rattle.byteorder.specs.Endian.{big_number}
use Rattle.md5.specs.Md5.{md5}
use Rattle.root_slots.specs.Root.{is_root}
use Rattle.root_slots.specs.declared.TheConstants.{BEHIND_BYTES, COUNT_AT, FILE_BYTES, OPEN, SUM_BYTES, TABLES_AT}
use Rattle.root_slots.specs.declared.TheConstants.{TABLES_MOST}
use Rattle.root_slots.specs.declared.root.Root.{Root}
use Rattle.root_slots.specs.declared.root_slots.SlotDamage.{SlotDamage}
use Rattle.root_slots.specs.declared.root_slots.SlotDamage.TheVariants.{Spelling, Sum}
use Rattle.root_slots.specs.declared.content.Slot.{Slot}
use Rattle.root_slots.specs.declared.content.Slot.TheVariants.{First, Second}
use Rattle.root_slots.specs.declared.content.Content.{Content}
use Rattle.root_slots.specs.declared.content.Content.TheVariants.{Closed, Open, Bad}
use Rattle.root_slots.specs.declared.content.Flaw.{Flaw}
use Rattle.root_slots.specs.declared.content.Flaw.TheVariants.{Count, WrongSum, Range}
use Rattle.root_slots.specs.declared.content.Found.{Found}
use Rattle.root_slots.specs.declared.content.Found.TheVariants.{New, InForce, Damaged}

-- ---- spelled

-- tables, one behind the other
abbrev pub listed : List ℕ → List ℕ
listed [] = []
listed (file ∷ files) = to_be_bytes w32 file ++ listed files

-- what the sum of a slot is over
abbrev pub summed : Root → List ℕ
summed root = to_be_bytes w64 root.number ++ to_be_bytes w32 root.state ++ to_be_bytes w32 root.log_file
    ++ length root.tables ∷ [] ++ listed root.tables

-- what stands behind the gate of a slot with this root
abbrev pub spelling : Root → List ℕ
spelling root = summed root ++ md5 (summed root)

-- ---- read

-- so many tables, one behind the other
abbrev pub tables_in : ℕ → List ℕ → List ℕ
tables_in zero bytes = []
tables_in (suc count) bytes = big_number 4 bytes ∷ tables_in count (drop 4 bytes)

-- where the sum stands behind the gate
abbrev pub sum_place : List ℕ → ℕ
sum_place bytes = TABLES_AT + 4 * slice_index bytes COUNT_AT

-- the root that stands behind a gate
abbrev pub root_read : List ℕ → Root
root_read bytes = record {
  number = big_number 8 (slice_range bytes 0 8);
  state = big_number 4 (slice_range bytes 8 12);
  log_file = big_number 4 (slice_range bytes 12 16);
  tables = tables_in (slice_index bytes COUNT_AT) (slice_range bytes TABLES_AT (sum_place bytes));
}

-- a root whose sum agrees, and may yet name what no root may
abbrev pub root_content : Root → Content
root_content root = if is_root root then Open root else Bad Range

abbrev pub summed_content : List ℕ → ℕ → List ℕ → List ℕ → Content
summed_content bytes offset kept found =
    if pointwise nat_eq kept found then root_content (root_read bytes) else Bad (WrongSum offset kept found)

-- what stands behind an open gate
abbrev pub open_content : List ℕ → Content
open_content bytes = if nat_lt TABLES_MOST (slice_index bytes COUNT_AT) then Bad Count
    else summed_content bytes (sum_place bytes) (slice_range bytes (sum_place bytes) (sum_place bytes + SUM_BYTES))
    (md5 (take (sum_place bytes) bytes))

abbrev pub offset_of : Slot → ℕ
offset_of First = 0
offset_of Second = 1024

abbrev pub other_of : Slot → Slot
other_of First = Second
other_of Second = First

-- the bytes behind the gate of a slot
abbrev pub behind : List ℕ → Slot → List ℕ
behind file slot = take BEHIND_BYTES (drop (offset_of slot + 1) file)

-- what a slot holds
abbrev pub content_at : List ℕ → Slot → Content
content_at file slot = if slice_index file (offset_of slot) == OPEN then open_content (behind file slot) else Closed

-- an open slot holds a root that a slot can have
abbrev pub HoldsRoot : Content → Type 0
HoldsRoot Closed = ⊤
HoldsRoot (Open root) = is_root root ≡ true
HoldsRoot (Bad flaw) = ⊤

-- ---- which counts

-- which damage is named where both slots are damaged
abbrev pub rank_of : Flaw → ℕ
rank_of Count = 0
rank_of (WrongSum offset kept found) = 1
rank_of Range = 2

-- where the damage lies, from the gate on, and what it is
abbrev pub damaged : Slot → Flaw → Found
damaged slot Count = Damaged (offset_of slot) Spelling
damaged slot (WrongSum offset kept found) = Damaged (offset_of slot + 1 + offset) (Sum kept found)
damaged slot Range = Damaged (offset_of slot) Spelling

-- The open slot with the greater number counts, the first one where both numbers are equal. A damaged one is named.
abbrev pub chosen : Content → Content → Found
chosen (Bad first) (Bad second) =
    if nat_lt (rank_of second) (rank_of first) then damaged Second second else damaged First first
chosen (Bad first) Closed = damaged First first
chosen (Bad first) (Open root) = damaged First first
chosen Closed (Bad second) = damaged Second second
chosen (Open root) (Bad second) = damaged Second second
chosen Closed Closed = New
chosen (Open root) Closed = InForce First root
chosen Closed (Open root) = InForce Second root
chosen (Open first) (Open second) =
    if nat_lt first.number second.number then InForce Second second else InForce First first

abbrev pub is_open : Content → Bool
is_open Closed = false
is_open (Open root) = true
is_open (Bad flaw) = false

-- which slot counts, and whether both are open
abbrev pub are_slots : List ℕ → Found → Bool → Type 0
are_slots file found both = (found ≡ chosen (content_at file First) (content_at file Second))
    × (both ≡ (is_open (content_at file First) && is_open (content_at file Second)))

-- what file 0 says: a file of fewer than 2048 bytes has no open slot
abbrev pub found_in : List ℕ → Found
found_in file = if nat_lt (length file) FILE_BYTES then New else chosen (content_at file First) (content_at file Second)

-- a root that was found is one that a slot can have
abbrev pub FindsRoot : Found → Type 0
FindsRoot New = ⊤
FindsRoot (InForce slot root) = is_root root ≡ true
FindsRoot (Damaged offset damage) = ⊤

-- the root in force
abbrev pub root_of : Found → Option Root
root_of New = None
root_of (InForce slot root) = Some root
root_of (Damaged offset damage) = None

abbrev pub root_in : List ℕ → Option Root
root_in file = root_of (found_in file)

-- no slot is open
abbrev pub HasNoRoot : List ℕ → Type 0
HasNoRoot file = found_in file ≡ New

-- an open slot is damaged, from this place on
abbrev pub HasBadRoot : ℕ → SlotDamage → List ℕ → Type 0
HasBadRoot offset damage file = found_in file ≡ Damaged offset damage
