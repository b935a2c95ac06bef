-- What was done to a file or to a disk in memory, as it is kept: the bytes of all writes one behind the other; and of
-- each write of a file their place there, of each write to a disk how many they are.
use Rattle.std.specs.Prelude.{ℕ, ◌≡◌, ◌+◌, ◌≤◌, List, [], ◌∷◌, map, take, drop, suc}
use Rattle.mds_out.specs.Change.{Change, Write, Cut}
use Rattle.mds_out.specs.Past.{Act, Changed, Synced, Restarted}
use Rattle.mds_out.specs.declared.heads.Head.{Head}
use Rattle.mds_out.specs.declared.heads.Head.TheVariants as head
use Rattle.mds_out.specs.declared.heads.Short.{Short}
use Rattle.mds_out.specs.declared.heads.Short.TheVariants as short
use Rattle.mds_out.specs.declared.changes.KeptChange.{KeptChange}
use Rattle.mds_out.specs.declared.changes.KeptChange.TheVariants as change

-- the change that is kept so
abbrev pub change_in : List ℕ → KeptChange → Change
change_in written (change.Write at from len) = Write at (take len (drop from written))
change_in written (change.Cut to) = Cut to

abbrev pub changes_in : List ℕ → List KeptChange → List Change
changes_in written changes = map (change_in written) changes

-- its bytes are among so many that were written
abbrev pub IsChangeWithin : ℕ → KeptChange → Type 0
IsChangeWithin count (change.Write at from len) = from + len ≤ count
IsChangeWithin count (change.Cut to) = Unit {0}

-- ---- what was done to a disk

-- how many bytes it wrote
abbrev pub bytes_in : Head → ℕ
bytes_in (head.Write file at len) = len
bytes_in (head.Cut file to) = 0
bytes_in (head.Synced file) = 0
bytes_in head.Restarted = 0

-- the act with this head that wrote these bytes
abbrev pub act_of : List ℕ → Head → Act
act_of bytes (head.Write file at len) = Changed file (Write at bytes)
act_of bytes (head.Cut file to) = Changed file (Cut to)
act_of bytes (head.Synced file) = Synced file
act_of bytes head.Restarted = Restarted

-- the acts with these heads, each of which wrote the next bytes
abbrev pub acts_of : List ℕ → List Head → List Act
acts_of written [] = []
acts_of written (h ∷ heads) = act_of (take (bytes_in h) written) h ∷ acts_of (drop (bytes_in h) written) heads

-- ---- heads in short forms

-- a head and a short form of it
abbrev pub IsShortOf : Head → Short → Type 0
IsShortOf h (short.Write file len at) = h ≡ head.Write file at len
IsShortOf h (short.Cut file to) = h ≡ head.Cut file to
IsShortOf h (short.Synced file) = h ≡ head.Synced file
IsShortOf h short.Restarted = h ≡ head.Restarted
IsShortOf h short.Long = ⊥

-- how many of them are the next one of those without a short form
abbrev pub long_heads : List Short → ℕ
long_heads [] = 0
long_heads (short.Write file len at ∷ shorts) = long_heads shorts
long_heads (short.Cut file to ∷ shorts) = long_heads shorts
long_heads (short.Synced file ∷ shorts) = long_heads shorts
long_heads (short.Restarted ∷ shorts) = long_heads shorts
long_heads (short.Long ∷ shorts) = suc (long_heads shorts)

-- the heads that are kept so, where those without a short form stand beside
abbrev pub in_full : List Head → List Short → List Head
in_full longs [] = []
in_full longs (short.Write file len at ∷ shorts) = head.Write file at len ∷ in_full longs shorts
in_full longs (short.Cut file to ∷ shorts) = head.Cut file to ∷ in_full longs shorts
in_full longs (short.Synced file ∷ shorts) = head.Synced file ∷ in_full longs shorts
in_full longs (short.Restarted ∷ shorts) = head.Restarted ∷ in_full longs shorts
in_full [] (short.Long ∷ shorts) = []
in_full (h ∷ longs) (short.Long ∷ shorts) = h ∷ in_full longs shorts
