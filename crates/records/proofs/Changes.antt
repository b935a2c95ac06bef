-- A call that a log keeps, number by number.
use Rattle.std.proofs.Common.{◌≡◌, ℕ, ◌^◌, ◌<◌, ◌≤◌, ◌&&◌, nat_le, nat_lt, refl, true, false, List, length, None, arith}
use Rattle.std.specs.Prelude.{IsTrue}
use Rattle.std.specs.List.{AllByRecursion}
use Rattle.std.proofs.lemmas.Bool.{and_parts, and_from}
use Rattle.std.proofs.lemmas.Bool.Decides.{nat_tests}
use Rattle.mds_base.specs.declared.TheConstants.{RADIX}
use Rattle.mds_base.specs.declared.limits.TheConstants.{DIRECTORIES, EPOCHS, MODE_MOST, GRAB_MOST, LOAD_MOST}
use Rattle.mds_base.specs.declared.call.Call.{Call}
use Rattle.mds_base.specs.declared.call.Call.TheVariants.{Create, Mkdir, Remove, Lookup, Setattr, Scan, Grab, Load, Link, Seal, Unseal, Kill, Unlink}
use Rattle.mds_base.specs.declared.row.Row.{Row}
use Rattle.mds_base.specs.Calls.{is_directory, is_epoch}
use Rattle.mds_base.specs.Name.{is_name}
use Rattle.records.specs.Rows.{IsRow, AreRising}
use Rattle.records.specs.Spelling.{IsDirectory, IsStamp, IsChangeBut}

-- the rows of a load and their number
pub record LoadRows (missing : ℕ) (rows : List Row) : Type 0 where
  pub some : 1 ≤ length rows
  pub few : length rows ≤ 4096
  pub rising : AreRising false missing None rows
  pub each : AllByRecursion (IsRow false) rows

-- each number in its range
abbrev pub ChangeParts : ℕ → Call → Type 0
ChangeParts missing (Create dir name) = IsDirectory dir × IsTrue (is_name name)
ChangeParts missing (Mkdir dir name) = IsDirectory dir × IsTrue (is_name name)
ChangeParts missing (Remove dir name) = IsDirectory dir × IsTrue (is_name name)
ChangeParts missing (Setattr dir name mode size stamp) = IsDirectory dir × IsTrue (is_name name) × (mode ≤ 4095) × (size < 2 ^ 64) × IsStamp stamp
ChangeParts missing (Lookup dir name) = ⊥
ChangeParts missing (Scan dir) = ⊥
ChangeParts missing (Grab dir name count) = IsDirectory dir × IsTrue (is_name name) × (1 ≤ count) × (count ≤ 4096)
ChangeParts missing (Load dir rows) = IsDirectory dir × LoadRows missing rows
ChangeParts missing (Link dir name id) = IsDirectory dir × IsTrue (is_name name) × IsDirectory id
ChangeParts missing (Seal dir part epoch) = IsDirectory dir × (part < 1024) × (epoch < 2 ^ 48)
ChangeParts missing (Unseal dir part epoch) = IsDirectory dir × (part < 1024) × (epoch < 2 ^ 48)
ChangeParts missing (Kill dir epoch) = IsDirectory dir × (epoch < 2 ^ 48)
ChangeParts missing (Unlink dir name id) = IsDirectory dir × IsTrue (is_name name) × IsDirectory id

-- ---- tests and facts

le_of : (a b : ℕ) → nat_le a b ≡ true → a ≤ b
le_of a b on = grind (arith, nat_tests)

lt_of : (a b : ℕ) → nat_lt a b ≡ true → a < b
lt_of a b on = grind (arith, nat_tests)

le_on : (a b : ℕ) → a ≤ b → nat_le a b ≡ true
le_on a b le = grind (arith, nat_tests)

lt_on : (a b : ℕ) → a < b → nat_lt a b ≡ true
lt_on a b lt = grind (arith, nat_tests)

directory_of : (dir : ℕ) → is_directory dir ≡ true → IsDirectory dir
directory_of dir on = let both = and_parts (nat_le 1 dir) (nat_lt dir DIRECTORIES) on in (le_of 1 dir both.0, lt_of dir DIRECTORIES both.1)

directory_on : (dir : ℕ) → IsDirectory dir → is_directory dir ≡ true
directory_on dir is = and_from (nat_le 1 dir) (nat_lt dir DIRECTORIES) (le_on 1 dir is.0) (lt_on dir DIRECTORIES is.1)

-- a directory, a partition and an epoch
sealing_of : (dir part epoch : ℕ) → ((is_directory dir && nat_lt part (2 ^ RADIX)) && is_epoch epoch) ≡ true → IsDirectory dir × (part < 1024) × (epoch < 2 ^ 48)
sealing_of dir part epoch on =
    let ends = and_parts (is_directory dir && nat_lt part (2 ^ RADIX)) (is_epoch epoch) on in
    let front = and_parts (is_directory dir) (nat_lt part (2 ^ RADIX)) ends.0 in
    (directory_of dir front.0, lt_of part (2 ^ RADIX) front.1, lt_of epoch EPOCHS ends.1)

sealing_on : (dir part epoch : ℕ) → IsDirectory dir × (part < 1024) × (epoch < 2 ^ 48) → ((is_directory dir && nat_lt part (2 ^ RADIX)) && is_epoch epoch) ≡ true
sealing_on dir part epoch is = and_from (is_directory dir && nat_lt part (2 ^ RADIX)) (is_epoch epoch) (and_from (is_directory dir) (nat_lt part (2 ^ RADIX)) (directory_on dir is.0) (lt_on part (2 ^ RADIX) is.1)) (lt_on epoch EPOCHS is.2)

-- a directory, and a number from 1 to a most
counted_of : (dir count most : ℕ) → ((is_directory dir && nat_le 1 count) && nat_le count most) ≡ true → IsDirectory dir × (1 ≤ count) × (count ≤ most)
counted_of dir count most on =
    let ends = and_parts (is_directory dir && nat_le 1 count) (nat_le count most) on in
    let front = and_parts (is_directory dir) (nat_le 1 count) ends.0 in
    (directory_of dir front.0, le_of 1 count front.1, le_of count most ends.1)

counted_on : (dir count most : ℕ) → IsDirectory dir → 1 ≤ count → count ≤ most → ((is_directory dir && nat_le 1 count) && nat_le count most) ≡ true
counted_on dir count most is some few = and_from (is_directory dir && nat_le 1 count) (nat_le count most) (and_from (is_directory dir) (nat_le 1 count) (directory_on dir is) (le_on 1 count some)) (le_on count most few)

no_change : false ≡ true → ⊥
no_change e = cc

-- ---- a call that a log keeps has its numbers in their ranges, and the other way round

pub change_parts : (n : ℕ) (call : Call) → IsChangeBut n call → ChangeParts n call
change_parts n (Create dir name) c = (directory_of dir c.made, c.named)
change_parts n (Mkdir dir name) c = (directory_of dir c.made, c.named)
change_parts n (Remove dir name) c = (directory_of dir c.made, c.named)
change_parts n (Setattr dir name mode size stamp) c = let made = and_parts (is_directory dir) (nat_le mode MODE_MOST) c.made in (directory_of dir made.0, c.named, le_of mode MODE_MOST made.1, c.fits.0, c.fits.1)
change_parts n (Lookup dir name) c = absurd (no_change c.changes)
change_parts n (Scan dir) c = absurd (no_change c.changes)
change_parts n (Grab dir name count) c = let made = counted_of dir count GRAB_MOST c.made in (made.0, c.named, made.1, made.2)
change_parts n (Load dir rows) c = let made = counted_of dir (length rows) LOAD_MOST c.made in (made.0, record { some = made.1; few = made.2; rising = c.rows.rising; each = c.rows.each })
change_parts n (Link dir name id) c = let made = and_parts (is_directory dir) (is_directory id) c.made in (directory_of dir made.0, c.named, directory_of id made.1)
change_parts n (Seal dir part epoch) c = sealing_of dir part epoch c.made
change_parts n (Unseal dir part epoch) c = sealing_of dir part epoch c.made
change_parts n (Kill dir epoch) c = let made = and_parts (is_directory dir) (is_epoch epoch) c.made in (directory_of dir made.0, lt_of epoch EPOCHS made.1)
change_parts n (Unlink dir name id) c = let made = and_parts (is_directory dir) (is_directory id) c.made in (directory_of dir made.0, c.named, directory_of id made.1)

pub change_is : (n : ℕ) (call : Call) → ChangeParts n call → IsChangeBut n call
change_is n (Create dir name) p = record { changes = refl; made = directory_on dir p.0; named = p.1; fits = tt; rows = tt }
change_is n (Mkdir dir name) p = record { changes = refl; made = directory_on dir p.0; named = p.1; fits = tt; rows = tt }
change_is n (Remove dir name) p = record { changes = refl; made = directory_on dir p.0; named = p.1; fits = tt; rows = tt }
change_is n (Setattr dir name mode size stamp) p = record { changes = refl; made = and_from (is_directory dir) (nat_le mode MODE_MOST) (directory_on dir p.0) (le_on mode MODE_MOST p.2); named = p.1; fits = (p.3, p.4); rows = tt }
change_is n (Lookup dir name) p = absurd p
change_is n (Scan dir) p = absurd p
change_is n (Grab dir name count) p = record { changes = refl; made = counted_on dir count GRAB_MOST p.0 p.2 p.3; named = p.1; fits = tt; rows = tt }
change_is n (Load dir rows) p = record { changes = refl; made = counted_on dir (length rows) LOAD_MOST p.0 p.1.some p.1.few; named = tt; fits = tt; rows = record { rising = p.1.rising; each = p.1.each } }
change_is n (Link dir name id) p = record { changes = refl; made = and_from (is_directory dir) (is_directory id) (directory_on dir p.0) (directory_on id p.2); named = p.1; fits = tt; rows = tt }
change_is n (Seal dir part epoch) p = record { changes = refl; made = sealing_on dir part epoch p; named = tt; fits = tt; rows = tt }
change_is n (Unseal dir part epoch) p = record { changes = refl; made = sealing_on dir part epoch p; named = tt; fits = tt; rows = tt }
change_is n (Kill dir epoch) p = record { changes = refl; made = and_from (is_directory dir) (is_epoch epoch) (directory_on dir p.0) (lt_on epoch EPOCHS p.1); named = tt; fits = tt; rows = tt }
change_is n (Unlink dir name id) p = record { changes = refl; made = and_from (is_directory dir) (is_directory id) (directory_on dir p.0) (directory_on id p.2); named = p.1; fits = tt; rows = tt }
