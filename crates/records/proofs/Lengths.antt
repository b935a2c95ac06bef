-- How long the spelling of a record may be.
use Rattle.std.proofs.Common.{◌≡◌, ℕ, ◌+◌, ◌*◌, ◌^◌, ◌<◌, ◌≤◌, refl, Bool, true, false, List, [], ◌∷◌, ◌++◌, length, arith, None, Some}
use Rattle.std.specs.Prelude.{IsTrue}
use Rattle.std.specs.Int.{w16, w32, w64, to_be_bytes}
use Rattle.std.specs.List.{AllByRecursion, flat_map}
use Rattle.std.proofs.lemmas.List.{length-append}
use Rattle.mds_base.specs.Name.{is_name}
use Rattle.bitmap.specs.Bits.{Bits}
use Rattle.mds_base.specs.declared.attr.Attr.{Attr}
use Rattle.mds_base.specs.declared.row.Row.{Row}
use Rattle.mds_base.specs.declared.session.Session.{Session}
use Rattle.mds_base.specs.declared.call.Call.{Call}
use Rattle.mds_base.specs.declared.call.Call.TheVariants.{Create, Mkdir, Remove, Lookup, Setattr, Scan, Grab, Load, Link, Seal, Unseal, Kill, Unlink}
use Rattle.records.specs.declared.record.Record.{Record}
use Rattle.records.specs.declared.record.Record.TheVariants as records
use Rattle.records.specs.declared.record.Record.TheVariants.{Head, Served, Begin, Install, End}
use Rattle.records.specs.Installs.{IsInstall, bitmap_spelling, session_spelling, sessions_spelling, install_spelling, installed_rows}
use Rattle.records.specs.LeastFormats.{some_stamped_of}
use Rattle.records.specs.Rows.{IsRow, attr_spelling, row_spelling, rows_spelling}
use Rattle.records.specs.Spelling.{IsRecord, call_spelling, final_spelling, record_spelling}
use Rattle.records.proofs.Bitmaps.{bitmap_long}
use Rattle.records.proofs.Changes.{ChangeParts, change_parts}
use Rattle.records.proofs.Fields.{name_short}
use Rattle.records.proofs.Sessions.{room}

named_short : (name rest : List ℕ) → IsTrue (is_name name) → length rest ≤ 30 → length (name ++ rest) ≤ 285
named_short name rest named few = let short = (name_short name named).1 in let long = length-append name rest in omega arith

attr_short : (stamped : Bool) (attr : Attr) → length (attr_spelling stamped attr) ≤ 30
attr_short true attr = omega arith
attr_short false attr = omega arith

rows_short : (stamped : Bool) (rows : List Row) → AllByRecursion (IsRow stamped) rows → length (flat_map (row_spelling stamped) rows) ≤ length rows * 286
rows_short stamped [] each = omega arith
rows_short stamped (row ∷ rows) each =
    let own = named_short row.name (attr_spelling stamped row.attr) each.0.named (attr_short stamped row.attr) in
    let rest = rows_short stamped rows each.1 in
    let long = length-append (row_spelling stamped row) (flat_map (row_spelling stamped) rows) in
    omega arith

sessions_short : (sessions : List Session) → length (flat_map session_spelling sessions) ≡ length sessions * 21
sessions_short [] = refl
sessions_short (session ∷ sessions) =
    let rest = sessions_short sessions in
    let long = length-append (session_spelling session) (flat_map session_spelling sessions) in
    omega arith

call_short : (call : Call) → ChangeParts 0 call → length (call_spelling call) ≤ 2 ^ 21
call_short (Create dir name) change = let short = (name_short name change.1).1 in omega arith
call_short (Mkdir dir name) change = let short = (name_short name change.1).1 in omega arith
call_short (Remove dir name) change = let short = (name_short name change.1).1 in omega arith
call_short (Setattr dir name mode size None) change = let short = named_short name (to_be_bytes w16 mode ++ to_be_bytes w64 size) change.1 (omega arith) in omega arith
call_short (Setattr dir name mode size (Some stamp)) change = let short = named_short name (to_be_bytes w16 mode ++ (to_be_bytes w64 size ++ (to_be_bytes w32 stamp.owner ++ to_be_bytes w64 stamp.mtime))) change.1 (omega arith) in omega arith
call_short (Grab dir name count) change = let short = named_short name (to_be_bytes w32 count) change.1 (omega arith) in omega arith
call_short (Load dir rows) change = let short = rows_short false rows change.1.each in let few = change.1.few in omega arith
call_short (Link dir name id) change = let short = named_short name (to_be_bytes w64 id) change.1 (omega arith) in omega arith
call_short (Seal dir part epoch) change = omega arith
call_short (Unseal dir part epoch) change = omega arith
call_short (Kill dir epoch) change = omega arith
call_short (Unlink dir name id) change = let short = named_short name (to_be_bytes w64 id) change.1 (omega arith) in omega arith
call_short (Lookup dir name) change = absurd change
call_short (Scan dir) change = absurd change

-- what is spelled of an Install beside its rows takes less than 1500 bytes
install_short : (dir part depth : ℕ) (bitmap : Bits) (sessions : List Session) (rows : List Row) → IsInstall 0 dir part depth bitmap sessions rows → length (install_spelling dir part depth bitmap sessions rows) ≤ 1500 + 286 * length rows
install_short dir part depth bitmap sessions rows is =
    let stamped : Bool = some_stamped_of rows in
    let each = rows_short stamped rows is.each in
    let few = room 1 sessions (omega arith) is.clients in
    let count = sessions_short sessions in
    let bits = bitmap_long bitmap in
    let first = length-append (bitmap_spelling bitmap) (sessions_spelling sessions ++ rows_spelling stamped rows) in
    let second = length-append (flat_map session_spelling sessions) (rows_spelling stamped rows) in
    omega arith

-- no record is longer than a load of the most rows with the longest names, but for the rows of an Install
pub record_short : (item : Record) → IsRecord item → length (record_spelling item) < 2 ^ 22 + 286 * length (installed_rows item)
record_short (Head format servers server threshold) is = omega arith
record_short records.Opened is = omega arith
record_short (Served client seq part call said) is =
    let short = call_short call (change_parts 0 call is.change) in
    let long = length-append (call_spelling call) (final_spelling said) in
    omega arith
record_short (Begin dir part depth) is = omega arith
record_short (End dir part depth) is = omega arith
record_short (Install dir part depth bitmap sessions rows) is = let short = install_short dir part depth bitmap sessions rows is in omega arith

-- each record has a kind
pub some_byte : (item : Record) → 0 < length (record_spelling item)
some_byte (Head format servers server threshold) = omega arith
some_byte records.Opened = omega arith
some_byte (Served client seq part call said) = omega arith
some_byte (Begin dir part depth) = omega arith
some_byte (End dir part depth) = omega arith
some_byte (Install dir part depth bitmap sessions rows) = omega arith
