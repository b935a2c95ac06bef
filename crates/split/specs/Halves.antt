-- The half of a partition that a split moves, on the rows of a server.
use Rattle.std.specs.Prelude.{◌≡◌, ℕ, suc, ◌+◌, ◌^◌, ◌%◌, ◌/◌, ◌==◌, ◌&&◌, Bool, true, false, if◌then◌else◌, List, []}
use Rattle.std.specs.Prelude.{◌∷◌, ◌++◌, map, fold, Option, Some, None, IsSome}
use Rattle.std.specs.Ordering.{is_lt}
use Rattle.std.specs.FinMap as map
use Rattle.chains.specs.Reversed.{first_of, last_of}
use Rattle.mds_base.specs.declared.attr.Attr.{Attr}
use Rattle.mds_base.specs.declared.cursor.Cursor.{Cursor}
use Rattle.mds_base.specs.declared.row.Row.{Row}
use Rattle.mds_base.specs.declared.row_key.RowKey.{RowKey}
use Rattle.mds_base.specs.declared.split_state.SplitState.{SplitState}
use Rattle.mds_base.specs.declared.split_state.SplitState.TheVariants.{Quiet, Moving}
use Rattle.mds_base.specs.RowKeys.{RowMap, row_key_cmp, is_in_page, row_of}
use Rattle.name_hash.specs.NameHash.{hash_of}
use Rattle.name_hash.specs.ScanOrder.{place_of}
use Rattle.name_hash.specs.RowPlace.{row_key}

-- a hash lies in the half that moves: a split is under way, and the hash has the bit of its depth set
abbrev pub is_frozen : SplitState → ℕ → Bool
is_frozen Quiet hash = false
is_frozen (Moving depth) hash = (hash / 2 ^ depth) % 2 == 1

-- a name belongs to the child that the partition makes at this depth
abbrev pub is_moving : ℕ → ℕ → List ℕ → Bool
is_moving part depth name = (hash_of name % 2 ^ suc depth) == (part + 2 ^ depth)

-- before all names at this reversed hash
abbrev pub before_all : ℕ → Cursor
before_all rev = record { at = rev; after = None }

-- the rows of the partition, in order, in the upper half of its range, which is the child's
abbrev pub upper_rows : RowMap → ℕ → ℕ → ℕ → List Row
upper_rows rows dir part depth =
    map row_of (map.entries
    (map.retain_keys rows
    (is_in_page dir part (before_all (first_of 64 (part + 2 ^ depth)))
    (last_of 64 (part + 2 ^ depth) (suc depth)))))

-- a key is behind the one before it, where there is one
abbrev pub is_behind : Option RowKey → RowKey → Bool
is_behind None key = true
is_behind (Some before) key = is_lt (row_key_cmp before key)

-- the last one of these keys
abbrev pub last_key : List (RowKey × Attr) → Option RowKey
last_key [] = None
last_key (entry ∷ []) = Some entry.0
last_key (entry ∷ next ∷ entries) = last_key (next ∷ entries)

-- of these rows those that belong to the child and rise past those before them, each at the key of its name
abbrev pub rising : ℕ → ℕ → ℕ → Option RowKey → List Row → List (RowKey × Attr)
rising dir part depth before [] = []
rising dir part depth before (row ∷ rows) =
    if is_moving part depth row.name && is_behind before (row_key dir part row.name)
    then (row_key dir part row.name, row.attr) ∷ rising dir part depth (Some (row_key dir part row.name)) rows
    else rising dir part depth before rows

-- a half with a row more, where the row belongs to it
abbrev pub with_rising : ℕ → ℕ → ℕ → List (RowKey × Attr) → Row → List (RowKey × Attr)
with_rising dir part depth half row =
    if is_moving part depth row.name && is_behind (last_key half) (row_key dir part row.name)
    then half ++ (row_key dir part row.name, row.attr) ∷ []
    else half

-- the moving half
abbrev pub half_of : RowMap → ℕ → ℕ → ℕ → List (RowKey × Attr)
half_of rows dir part depth = rising dir part depth None (upper_rows rows dir part depth)

-- the rows with these put into a partition, each at the key of its name
abbrev pub with_rows : RowMap → ℕ → ℕ → List Row → RowMap
with_rows rows dir part moved = fold (λ now row. map.insert now (row_key dir part row.name) row.attr) rows moved

-- the rows without these
abbrev pub without_rows : RowMap → List (RowKey × Attr) → RowMap
without_rows rows half = fold (λ now entry. map.remove now entry.0) rows half

-- ---- where each row stands at the key of its name

abbrev pub IsKeyed : RowMap → ℕ → ℕ → Type 0
IsKeyed rows dir part =
    (key : RowKey) → key.dir ≡ dir → key.part ≡ part → IsSome (map.get rows key) → key.rev ≡ place_of key.name

-- a key of the half
abbrev pub is_half_key : ℕ → ℕ → ℕ → RowKey → Bool
is_half_key dir part depth key = ((key.dir == dir) && (key.part == part)) && is_moving part depth key.name
