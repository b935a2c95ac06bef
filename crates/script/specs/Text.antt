-- How lines are printed: one space between words, each number and each name in its one printed form.
use Rattle.std.specs.Prelude.{ℕ, ◌<◌, ◌^◌, ◌/◌, ◌%◌, List, [], ◌∷◌, ◌++◌, Option, Some, None, Bool, ◌==◌, ◌&&◌, not}
use Rattle.std.specs.Prelude.{nat_le, if◌then◌else◌, true}
use Rattle.std.specs.Prelude.{false, map, decimal, IsTrue}
use Rattle.std.specs.List.{flat_map, join_with_byte, list_all, AllByRecursion}
use Rattle.std.specs.Fmt.{digit_glyph}
use Rattle.mds_base.specs.Name.{is_name}
use Rattle.mds_base.specs.declared.attr.Stamp.{Stamp}
use Rattle.mds_base.specs.declared.call.Call.{Call}
use Rattle.script.specs.Words.{is_blank}
use Rattle.script.specs.Grammar.{Part, Keyword, Number, Named, Raw, Rest, call_parts, line_parts}
use Rattle.script.specs.declared.line.Line.{Line}

-- a byte that is printed as itself: a printable one, no space, and not the `%` of an escape
abbrev pub is_plain_byte : ℕ → Bool
is_plain_byte byte = (nat_le 33 byte && nat_le byte 126) && not (byte == 37)

-- a byte of a name: itself, or `%` and two hexadecimal digits in upper case
abbrev pub byte_text : ℕ → List ℕ
byte_text byte =
    if is_plain_byte byte then byte ∷ [] else 37 ∷ digit_glyph true (byte / 16) ∷ digit_glyph true (byte % 16) ∷ []

abbrev pub name_text : List ℕ → List ℕ
name_text name = flat_map byte_text name

abbrev pub part_text : Part → List ℕ
part_text (Keyword text) = text
part_text (Number number) = decimal number
part_text (Named name) = name_text name
part_text (Raw text) = text
part_text (Rest text) = text

-- one space between the parts
abbrev pub parts_text : List Part → List ℕ
parts_text parts = join_with_byte 32 (map part_text parts)

-- an owner and a time behind other words, where there are any
abbrev pub stamp_text : Option Stamp → List ℕ
stamp_text None = []
stamp_text (Some stamp) = 32 ∷ decimal stamp.owner ++ 32 ∷ decimal stamp.mtime

abbrev pub line_text : Line → List ℕ
line_text line = parts_text (line_parts line)

-- a call, as a line or an effect says it
abbrev pub call_text : Call → List ℕ
call_text call = parts_text (call_parts call)

-- bytes that may stand in a word
abbrev pub are_letters : List ℕ → Bool
are_letters bytes = list_all (λ byte. not (is_blank byte)) bytes

-- bytes that are one word, and bytes that begin with a word
abbrev pub is_word : List ℕ → Bool
is_word [] = false
is_word (byte ∷ bytes) = are_letters (byte ∷ bytes)

abbrev pub begins_word : List ℕ → Bool
begins_word [] = false
begins_word (byte ∷ bytes) = not (is_blank byte)

-- the part is a number of 64 bits, a name made of bytes, one word as it stands, a rest that begins with a word, or any
-- word of the grammar
abbrev pub IsPrinted : Part → Type 0
IsPrinted (Keyword text) = Unit {0}
IsPrinted (Number number) = number < 2 ^ 64
IsPrinted (Named name) = IsTrue (is_name name) × AllByRecursion (λ byte. byte < 256) name
IsPrinted (Raw text) = IsTrue (is_word text)
IsPrinted (Rest text) = IsTrue (begins_word text)

abbrev pub ArePrinted : Line → Type 0
ArePrinted line = AllByRecursion IsPrinted (line_parts line)
