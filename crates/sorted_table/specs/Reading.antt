-- Reading rows from left to right, on lists: what stands at the front and the bytes after it, or nothing.
use Rattle.std.specs.Prelude.{◌≡◌, ℕ, zero, suc, ◌^◌, List, [], ◌∷◌, length, take, drop, Option, None, Some, nat_lt}
use Rattle.std.specs.Prelude.{nat_le, ◌==◌, ◌&&◌, Bool, if◌then◌else◌}
use Rattle.std.specs.Int.{w16, w32, w64, from_be_bytes}
use Rattle.std.specs.List.{list_all}
use Rattle.mds_base.specs.declared.attr.Attr.{Attr}
use Rattle.mds_base.specs.declared.row_key.RowKey.{RowKey}
use Rattle.mds_base.specs.Entries.{is_stamped}
use Rattle.mds_base.specs.Name.{is_name}
use Rattle.sorted_table.specs.declared.table_row.TableRow.{TableRow}

infixl 10 ◌>>=◌
abbrev pub ◌>>=◌ : {A B : Type 0} → Option A → (A → Option B) → Option B
None >>= f = None
(Some x) >>= f = f x

-- what a function returned is what reading gives
abbrev pub Gives : {X Y : Type 0} → (X → Y) → Option X → Option Y → Type 0
Gives view None read = read ≡ None
Gives view (Some x) read = read ≡ Some (view x)

unfoldable pub u16_at : List ℕ → Option (ℕ × List ℕ)
u16_at bytes = if nat_lt (length bytes) 2 then None else Some (from_be_bytes w16 (take 2 bytes), drop 2 bytes)

unfoldable pub u32_at : List ℕ → Option (ℕ × List ℕ)
u32_at bytes = if nat_lt (length bytes) 4 then None else Some (from_be_bytes w32 (take 4 bytes), drop 4 bytes)

unfoldable pub u64_at : List ℕ → Option (ℕ × List ℕ)
u64_at bytes = if nat_lt (length bytes) 8 then None else Some (from_be_bytes w64 (take 8 bytes), drop 8 bytes)

-- a name behind its length
unfoldable pub name_at : List ℕ → Option (List ℕ × List ℕ)
name_at [] = None
name_at (len ∷ bytes) = if nat_lt (length bytes) len then None else if is_name (take len bytes)
    then Some (take len bytes, drop len bytes) else None

unfoldable pub key_at : List ℕ → Option (RowKey × List ℕ)
key_at bytes = u64_at bytes >>= λ dir. u32_at dir.1 >>= λ part. u64_at part.1 >>= λ rev. name_at rev.1
    >>= λ name. Some (record { dir = dir.0; part = part.0; rev = rev.0; name = name.0 }, name.1)

-- attributes without owner and time
unfoldable pub plain_at : List ℕ → Option (Attr × List ℕ)
plain_at bytes = u64_at bytes >>= λ dir. u16_at dir.1 >>= λ mode. u64_at mode.1 >>= λ size.
    if nat_lt dir.0 (2 ^ 48) && nat_le mode.0 4095
    then Some (record { dir = dir.0; mode = mode.0; size = size.0; owner = 0; mtime = 0 }, size.1) else None

-- attributes with an owner or a time that is not 0
unfoldable pub stamped_at : List ℕ → Option (Attr × List ℕ)
stamped_at bytes = plain_at bytes >>= λ plain. u32_at plain.1 >>= λ owner. u64_at owner.1 >>= λ mtime.
    if is_stamped (record plain.0 { owner = owner.0; mtime = mtime.0 })
    then Some (record plain.0 { owner = owner.0; mtime = mtime.0 }, mtime.1) else None

abbrev pub marked_some : Option (Attr × List ℕ) → Option (Option Attr × List ℕ)
marked_some read = read >>= λ attr. Some (Some attr.0, attr.1)

-- a mark, and the attributes of the mark
unfoldable pub marked_at : List ℕ → Option (Option Attr × List ℕ)
marked_at [] = None
marked_at (mark ∷ bytes) =
    if mark == 0 then Some (None, bytes)
    else if mark == 1 then marked_some (plain_at bytes)
    else if mark == 2 then marked_some (stamped_at bytes)
    else None

unfoldable pub row_at : List ℕ → Option (TableRow × List ℕ)
row_at bytes = key_at bytes >>= λ key. marked_at key.1 >>= λ attr. Some (record { key = key.0; attr = attr.0 }, attr.1)

-- so many rows
abbrev pub rows_at : ℕ → List ℕ → Option (List TableRow × List ℕ)
rows_at zero bytes = Some ([], bytes)
rows_at (suc count) bytes = row_at bytes >>= λ row. rows_at count row.1 >>= λ rows. Some (row.0 ∷ rows.0, rows.1)

-- the first of so many rows whose key does not pass a test
abbrev pub behind_at : ℕ → (RowKey → Bool) → List ℕ → Option (Option TableRow)
behind_at zero before bytes = Some None
behind_at (suc count) before bytes =
    row_at bytes >>= λ row. if before row.0.key then behind_at count before row.1 else Some (Some row.0)

abbrev pub are_zeros : List ℕ → Bool
are_zeros = list_all (λ byte. byte == 0)

-- rows, with nothing but zeros behind them
abbrev pub before_zeros : Option (List TableRow × List ℕ) → Option (List TableRow)
before_zeros read = read >>= λ rows. if are_zeros rows.1 then Some rows.0 else None

-- the rows of a block, behind their count
abbrev pub block_at : List ℕ → Option (List TableRow)
block_at bytes = u16_at bytes >>= λ count. before_zeros (rows_at count.0 count.1)
