-- Lines that are printed are read back.
use Rattle.std.proofs.Common.{◌≡◌, ◌∙◌, sym, subst, refl, ℕ, ◌+◌, ◌*◌, ◌<◌, ◌≤◌, ◌^◌, ◌/◌, ◌%◌, List, [], ◌∷◌, ◌++◌, Bool, true, false, not, cond, arith, decimal, nat_le, Option, Some, None, MatchOption, IsTrue, inl, inr}
use Rattle.std.specs.Prelude.{◌==◌, ◌&&◌}
use Rattle.std.specs.List.{AllByRecursion, list_all}
use Rattle.std.specs.Char.{digit_value}
use Rattle.std.specs.Fmt.{digit_glyph}
use Rattle.std.proofs.lemmas.Bool.{and_parts, and_from, not-true, leb-true, eqb-true, eqb-false, ne_eqb, or_from, agree_below_at, not_from_false}
use Rattle.std.proofs.lemmas.Fmt.{decimal_by_steps}
use Rattle.std.proofs.lemmas.List.{append-nil}
use Rattle.std.proofs.lemmas.List.Folds.{list_all-append}
use Rattle.mds_base.specs.Name.{is_name}
use Rattle.mds_base.specs.declared.attr.Stamp.{Stamp}
use Rattle.mds_base.specs.declared.call.Call.{Call}
use Rattle.mds_base.specs.declared.call.Call.TheVariants as calls
use Rattle.mds_base.specs.declared.setup.Setup.{Setup}
use Rattle.script.specs.declared.line.Line.{Line}
use Rattle.script.specs.declared.line.Line.TheVariants as lines
use Rattle.script.specs.Words.{is_blank, ends_word, words_of, word_at, rest_at}
use Rattle.script.specs.Names.{SpellsByte, SpellsName}
use Rattle.script.specs.Grammar.{Part, Keyword, Number, Named, Raw, Rest, IsSpelled, piece_at, AreSaid, AreSpelled, stamp_parts, call_parts, number_parts, line_parts, IsWithin, IsLine}
use Rattle.script.specs.Text.{is_plain_byte, byte_text, name_text, part_text, parts_text, line_text, are_letters, is_word, begins_word, IsPrinted, ArePrinted}
use Rattle.script.proofs.Splitting.{first_words, word-blank, rest-blank, word-append, rest-text, word-none}

-- ---- numbers

no_blank : (byte : ℕ) → 33 ≤ byte → not (is_blank byte) ≡ true
no_blank byte above = not_from_false (is_blank byte) (or_from (byte == 32) (byte == 9) (ne_eqb byte 32 (λ is. omega (arith, is, above))) (ne_eqb byte 9 (λ is. omega (arith, is, above))))

word_longer : (word : List ℕ) (byte : ℕ) → is_word word ≡ true → not (is_blank byte) ≡ true → is_word (word ++ byte ∷ []) ≡ true
word_longer [] byte letters letter = absurd cc
word_longer (first ∷ word) byte letters letter =
    list_all-append (λ byte. not (is_blank byte)) (first ∷ word) (byte ∷ []) ∙ and_from (are_letters (first ∷ word)) (are_letters (byte ∷ [])) letters (and_from (not (is_blank byte)) true letter refl)

number_word : (n : ℕ) → n < 2 ^ 64 → is_word (decimal n) ≡ true
number_word = decimal_by_steps (λ n digits. is_word digits ≡ true)
    (λ n below. and_from (not (is_blank (48 + n))) true (no_blank (48 + n) (omega arith)) refl)
    (λ n digits above so_far. word_longer digits (48 + n % 10) so_far (no_blank (48 + n % 10) (omega arith)))

-- ---- names

glyph_letter : (digit : ℕ) → digit < 16 → not (is_blank (digit_glyph true digit)) ≡ true
glyph_letter digit below = agree_below_at (λ d. not (is_blank (digit_glyph true d))) (λ d. true) 16 digit refl below

glyph_value : (digit : ℕ) → digit < 16 → digit_value (digit_glyph true digit) ≡ digit
glyph_value digit below = eqb-true (digit_value (digit_glyph true digit)) digit (agree_below_at (λ d. digit_value (digit_glyph true d) == d) (λ d. true) 16 digit refl below)

high_below : (byte : ℕ) → byte < 256 → byte / 16 < 16
high_below byte below = omega (arith, below)

low_below : (byte : ℕ) → byte % 16 < 16
low_below byte = omega arith

-- what the printed form of a byte is
record PrintsByte (text : List ℕ) (byte : ℕ) : Type 0 where
  spelled : SpellsByte text byte
  word : is_word text ≡ true

byte_printed : (byte : ℕ) → byte < 256 → PrintsByte (byte_text byte) byte
byte_printed byte below = by (is_plain_byte byte) refl
  where
    by : (t : Bool) → is_plain_byte byte ≡ t → PrintsByte (cond t (byte ∷ []) (37 ∷ digit_glyph true (byte / 16) ∷ digit_glyph true (byte % 16) ∷ [])) byte
    by true plain =
        let parts = and_parts (nat_le 33 byte && nat_le byte 126) (not (byte == 37)) plain in
        let range = and_parts (nat_le 33 byte) (nat_le byte 126) parts.0 in
        record {
          spelled = inl (refl, eqb-false byte 37 (not-true (byte == 37) parts.1));
          word = and_from (not (is_blank byte)) true (no_blank byte (leb-true 33 byte range.0)) refl;
        }
    by false plain = record {
      spelled = inr (
        digit_glyph true (byte / 16),
        digit_glyph true (byte % 16),
        refl,
        record {
          high_digit = subst (λ d. d < 16) (sym (glyph_value (byte / 16) (high_below byte below))) (high_below byte below);
          low_digit = subst (λ d. d < 16) (sym (glyph_value (byte % 16) (low_below byte))) (low_below byte);
          value = (let e : byte ≡ 16 * (byte / 16) + byte % 16 = omega arith in e) ∙ (λ i. 16 * sym (glyph_value (byte / 16) (high_below byte below)) i + sym (glyph_value (byte % 16) (low_below byte)) i);
        },
      );
      word = and_from (not (is_blank (digit_glyph true (byte / 16)))) (are_letters (digit_glyph true (byte % 16) ∷ [])) (glyph_letter (byte / 16) (high_below byte below)) (and_from (not (is_blank (digit_glyph true (byte % 16)))) true (glyph_letter (byte % 16) (low_below byte)) refl);
    }

name_spelled : (name : List ℕ) → AllByRecursion (λ byte. byte < 256) name → SpellsName (name_text name) name
name_spelled [] bytes = refl
name_spelled (byte ∷ name) bytes = (byte_text byte, name_text name, refl, (byte_printed byte bytes.0).spelled, name_spelled name bytes.1)

word_letters : (word : List ℕ) → is_word word ≡ true → are_letters word ≡ true
word_letters [] word = refl
word_letters (byte ∷ bytes) word = word

name_letters : (name : List ℕ) → AllByRecursion (λ byte. byte < 256) name → are_letters (name_text name) ≡ true
name_letters [] bytes = refl
name_letters (byte ∷ name) bytes =
    list_all-append (λ byte. not (is_blank byte)) (byte_text byte) (name_text name)
    ∙ and_from (are_letters (byte_text byte)) (are_letters (name_text name)) (word_letters (byte_text byte) (byte_printed byte bytes.0).word) (name_letters name bytes.1)

word_more : (word rest : List ℕ) → is_word word ≡ true → are_letters (word ++ rest) ≡ true → is_word (word ++ rest) ≡ true
word_more [] rest word letters = absurd cc
word_more (byte ∷ bytes) rest word letters = letters

name_word : (name : List ℕ) → IsTrue (is_name name) → AllByRecursion (λ byte. byte < 256) name → is_word (name_text name) ≡ true
name_word [] named bytes = absurd cc
name_word (byte ∷ name) named bytes = word_more (byte_text byte) (name_text name) (byte_printed byte bytes.0).word (name_letters (byte ∷ name) bytes)

-- ---- lines

-- the words of the grammar are words, and a rest stands last
abbrev are_ordered : List Part → Bool
are_ordered [] = true
are_ordered (Keyword text ∷ parts) = is_word text && are_ordered parts
are_ordered (Number number ∷ parts) = are_ordered parts
are_ordered (Named name ∷ parts) = are_ordered parts
are_ordered (Raw text ∷ parts) = are_ordered parts
are_ordered (Rest text ∷ []) = true
are_ordered (Rest text ∷ part ∷ parts) = false

-- words of printed bytes, numbers and names alone
abbrev pub is_simple : Part → Bool
is_simple (Keyword text) = is_word text && list_all is_plain_byte text
is_simple (Number number) = true
is_simple (Named name) = true
is_simple part = false

simple_ordered : (parts : List Part) → list_all is_simple parts ≡ true → are_ordered parts ≡ true
simple_ordered [] simple = refl
simple_ordered (Keyword text ∷ parts) simple =
    let both = and_parts (is_simple (Keyword text)) (list_all is_simple parts) simple in
    and_from (is_word text) (are_ordered parts) (and_parts (is_word text) (list_all is_plain_byte text) both.0).0 (simple_ordered parts both.1)
simple_ordered (Number number ∷ parts) simple = simple_ordered parts simple
simple_ordered (Named name ∷ parts) simple = simple_ordered parts simple
simple_ordered (Raw text ∷ parts) simple = absurd cc
simple_ordered (Rest text ∷ parts) simple = absurd cc

stamp_simple : (stamp : Option Stamp) → list_all is_simple (stamp_parts stamp) ≡ true
stamp_simple None = refl
stamp_simple (Some stamp) = refl

pub call_simple : (call : Call) → list_all is_simple (call_parts call) ≡ true
call_simple (calls.Create dir name) = refl
call_simple (calls.Mkdir dir name) = refl
call_simple (calls.Remove dir name) = refl
call_simple (calls.Lookup dir name) = refl
call_simple (calls.Setattr dir name mode size stamp) = stamp_simple stamp
call_simple (calls.Scan dir) = refl
call_simple (calls.Grab dir name count) = refl
call_simple (calls.Load dir rows) = refl
call_simple (calls.Link dir name id) = refl
call_simple (calls.Seal dir part epoch) = refl
call_simple (calls.Unseal dir part epoch) = refl
call_simple (calls.Kill dir epoch) = refl
call_simple (calls.Unlink dir name id) = refl

call_ordered : (call : Call) → are_ordered (call_parts call) ≡ true
call_ordered call = simple_ordered (call_parts call) (call_simple call)

numbers_ordered : (numbers : List ℕ) → are_ordered (number_parts numbers) ≡ true
numbers_ordered [] = refl
numbers_ordered (number ∷ numbers) = numbers_ordered numbers

line_ordered : (line : Line) → are_ordered (line_parts line) ≡ true
line_ordered lines.Skipped = refl
line_ordered (lines.Call client call) = call_ordered call
line_ordered (lines.Issue client call) = call_ordered call
line_ordered (lines.Retry client) = refl
line_ordered (lines.Deliver place) = refl
line_ordered (lines.Batch server places) = numbers_ordered places
line_ordered (lines.Take client place) = refl
line_ordered lines.Settle = refl
line_ordered (lines.Remind server) = refl
line_ordered (lines.Tick by) = refl
line_ordered (lines.Fuse server calls) = refl
line_ordered (lines.Stop server) = refl
line_ordered (lines.Restart server) = refl
line_ordered (lines.Walk client path) = refl
line_ordered (lines.Bulk client dir name json) = refl
line_ordered (lines.Rmdir client dir name) = refl
line_ordered (lines.Feed server) = refl
line_ordered (lines.Promote server) = refl

-- what is printed behind a part
abbrev tail : List Part → List ℕ
tail [] = []
tail (part ∷ parts) = 32 ∷ parts_text (part ∷ parts)

joined : (part : Part) (parts : List Part) → parts_text (part ∷ parts) ≡ part_text part ++ tail parts
joined part [] = sym (append-nil (part_text part))
joined part (next ∷ parts) = refl

tail_ends : (parts : List Part) → ends_word (tail parts) ≡ true
tail_ends [] = refl
tail_ends (part ∷ parts) = refl

piece_blank : (part : Part) (bytes : List ℕ) → piece_at part (32 ∷ bytes) ≡ piece_at part bytes
piece_blank (Keyword text) bytes = word-blank 32 bytes refl
piece_blank (Number number) bytes = word-blank 32 bytes refl
piece_blank (Named name) bytes = word-blank 32 bytes refl
piece_blank (Raw text) bytes = word-blank 32 bytes refl
piece_blank (Rest text) bytes = rest-blank 32 bytes refl

tail_said : (parts : List Part) → AreSaid (parts_text parts) parts → AreSaid (tail parts) parts
tail_said [] said = said
tail_said (part ∷ parts) said = subst (λ o. MatchOption o ⊥ (λ piece. IsSpelled piece.0 part × AreSaid piece.1 parts)) (sym (piece_blank part (parts_text (part ∷ parts)))) said

-- a word in front of what is said
word_said : (word rest : List ℕ) (part : Part) (parts : List Part) → is_word word ≡ true → ends_word rest ≡ true → IsSpelled word part → AreSaid rest parts → MatchOption (word_at (word ++ rest)) ⊥ (λ piece. IsSpelled piece.0 part × AreSaid piece.1 parts)
word_said word rest part parts is ends spelled later = subst (λ o. MatchOption o ⊥ (λ piece. IsSpelled piece.0 part × AreSaid piece.1 parts)) (sym (word-append word rest is ends)) (spelled, later)

rest_said : (text : List ℕ) → begins_word text ≡ true → MatchOption (rest_at text) ⊥ (λ piece. (piece.0 ≡ text) × (word_at piece.1 ≡ None))
rest_said text begins = subst (λ o. MatchOption o ⊥ (λ piece. (piece.0 ≡ text) × (word_at piece.1 ≡ None))) (sym (rest-text text begins)) (refl, word-none)

parts_said : (parts : List Part) → are_ordered parts ≡ true → AllByRecursion IsPrinted parts → AreSaid (parts_text parts) parts
parts_said [] ordered printed = word-none
parts_said (Keyword text ∷ parts) ordered printed =
    let both = and_parts (is_word text) (are_ordered parts) ordered in
    subst (λ bytes. AreSaid bytes (Keyword text ∷ parts)) (sym (joined (Keyword text) parts))
    (word_said text (tail parts) (Keyword text) parts both.0 (tail_ends parts) refl (tail_said parts (parts_said parts both.1 printed.1)))
parts_said (Number number ∷ parts) ordered printed =
    subst (λ bytes. AreSaid bytes (Number number ∷ parts)) (sym (joined (Number number) parts))
    (word_said (decimal number) (tail parts) (Number number) parts (number_word number printed.0) (tail_ends parts) (refl, printed.0) (tail_said parts (parts_said parts ordered printed.1)))
parts_said (Named name ∷ parts) ordered printed =
    subst (λ bytes. AreSaid bytes (Named name ∷ parts)) (sym (joined (Named name) parts))
    (word_said (name_text name) (tail parts) (Named name) parts (name_word name printed.0.0 printed.0.1) (tail_ends parts) (name_spelled name printed.0.1, printed.0.0) (tail_said parts (parts_said parts ordered printed.1)))
parts_said (Raw text ∷ parts) ordered printed =
    subst (λ bytes. AreSaid bytes (Raw text ∷ parts)) (sym (joined (Raw text) parts))
    (word_said text (tail parts) (Raw text) parts printed.0 (tail_ends parts) refl (tail_said parts (parts_said parts ordered printed.1)))
parts_said (Rest text ∷ []) ordered printed = rest_said text printed.0
parts_said (Rest text ∷ part ∷ parts) ordered printed = absurd cc

pub line_printed : (setup : Setup) (line : Line) → IsWithin setup line → ArePrinted line → IsLine setup (line_text line) line
line_printed setup line within printed = inr (parts_said (line_parts line) (line_ordered line) printed, within)

-- ---- what is said without a rest is spelled by the words

abbrev pub is_in_words : List Part → Bool
is_in_words [] = true
is_in_words (Keyword text ∷ parts) = is_in_words parts
is_in_words (Number number ∷ parts) = is_in_words parts
is_in_words (Named name ∷ parts) = is_in_words parts
is_in_words (Raw text ∷ parts) = is_in_words parts
is_in_words (Rest text ∷ parts) = false

-- the words behind the first one
word_spelled : (bytes : List ℕ) (found : Option (List ℕ × List ℕ)) (part : Part) (parts : List Part) → MatchOption found (words_of bytes ≡ []) (λ piece. words_of bytes ≡ piece.0 ∷ words_of piece.1) → MatchOption found ⊥ (λ piece. IsSpelled piece.0 part × AreSaid piece.1 parts) → ((rest : List ℕ) → AreSaid rest parts → AreSpelled (words_of rest) parts) → AreSpelled (words_of bytes) (part ∷ parts)
word_spelled bytes None part parts first said later = absurd said
word_spelled bytes (Some piece) part parts first said later = subst (λ words. AreSpelled words (part ∷ parts)) (sym first) (said.0, later piece.1 said.1)

none_spelled : (bytes : List ℕ) (found : Option (List ℕ × List ℕ)) → MatchOption found (words_of bytes ≡ []) (λ piece. words_of bytes ≡ piece.0 ∷ words_of piece.1) → found ≡ None → AreSpelled (words_of bytes) []
none_spelled bytes None first none = subst (λ words. AreSpelled words []) (sym first) tt
none_spelled bytes (Some piece) first none = absurd cc

pub words_said : (parts : List Part) (bytes : List ℕ) → is_in_words parts ≡ true → AreSaid bytes parts → AreSpelled (words_of bytes) parts
words_said [] bytes plain said = none_spelled bytes (word_at bytes) (first_words bytes) said
words_said (Keyword text ∷ parts) bytes plain said = word_spelled bytes (word_at bytes) (Keyword text) parts (first_words bytes) said (λ rest. words_said parts rest plain)
words_said (Number number ∷ parts) bytes plain said = word_spelled bytes (word_at bytes) (Number number) parts (first_words bytes) said (λ rest. words_said parts rest plain)
words_said (Named name ∷ parts) bytes plain said = word_spelled bytes (word_at bytes) (Named name) parts (first_words bytes) said (λ rest. words_said parts rest plain)
words_said (Raw text ∷ parts) bytes plain said = word_spelled bytes (word_at bytes) (Raw text) parts (first_words bytes) said (λ rest. words_said parts rest plain)
words_said (Rest text ∷ parts) bytes plain said = absurd cc
