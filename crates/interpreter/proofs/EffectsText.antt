-- The lines of effects: what a simulation shows of them, and that they tell of no stop.
use Rattle.std.proofs.Common.{◌≡◌, ◌∙◌, sym, ap, refl, ℕ, ◌+◌, ◌/◌, ◌%◌, ◌==◌, ◌<◌, List, [], ◌∷◌, ◌++◌, length, take, Some, get_or, Bool, true, false, not, if◌then◌else◌, nat_le, nat_lt, map, filter, codes, decimal, arith}
use Rattle.std.specs.Prelude.{◌&&◌}
use Rattle.std.specs.Fmt.{digit_glyph}
use Rattle.std.specs.List.{flat_map, list_all, slice_get}
use Rattle.std.proofs.lemmas.List.{append-nil, take_more}
use Rattle.std.proofs.lemmas.Grind.{flat_map-append}
use Rattle.std.proofs.lemmas.Option.{slice_get-get_or}
use Rattle.std.proofs.lemmas.Bool.{and_parts, and_from, leb-true, ne_eqb}
use Rattle.mds_base.specs.declared.entry.Entry.{Entry}
use Rattle.script.specs.Grammar.{Part, Keyword, Number, Named, Raw, Rest, call_parts}
use Rattle.script.specs.Text.{is_plain_byte, byte_text, name_text, part_text, parts_text, call_text, is_word}
use Rattle.script.proofs.Printing.{is_simple, call_simple}
use Rattle.message_store.specs.declared.made.Made.{Made}
use Rattle.message_store.specs.Made.{no_made}
use Rattle.mds_out.specs.Disk.{Image, Contents}
use Rattle.simulation.specs.Runs.{RunV}
use Rattle.simulation.specs.Shows.{SimulationV, Shows, made_of, kind_of, kind_stands, stands_in}
use Rattle.world.specs.Histories as past
use Rattle.world.specs.Histories.{MadeV, AnsweredV, stands, stands_as, is_taken, entries_of}
use Rattle.interpreter.specs.EventText.{effects_text}
use Rattle.interpreter.specs.Payments.{IsPrinted, TellsNoStop, has_no_feed, times, stopped_line}
use Rattle.interpreter.specs.Text.{reply_text, effect_line, effect_of, effects_of}
use Rattle.interpreter.proofs.Payments.{clean_append, decimal_clean, reply_clean, other_times}

module _ {X : Type 0} (seen : X → Contents) (images : X → Image → Type 0) (sim : SimulationV X) (run : RunV) (shows : Shows seen images sim run) where
  kind_same : (kind : past.Kind) → kind_stands sim.taken (kind_of kind) ≡ stands_as run.trace.past.answered kind
  kind_same past.Change = refl
  kind_same (past.Looked message) = shows.taken message

  lines_by : (b c : Bool) (made : MadeV) (rest : List MadeV) → b ≡ c → (if b then effect_line made.entry else []) ++ effects_of (entries_of rest) ≡ effects_of (entries_of (if c then made ∷ rest else rest))
  lines_by b true made rest is = ap (λ b. (if b then effect_line made.entry else []) ++ effects_of (entries_of rest)) is
  lines_by b false made rest is = ap (λ b. (if b then effect_line made.entry else []) ++ effects_of (entries_of rest)) is

  lines_of : (made : List MadeV) → flat_map (effect_of sim) (map made_of made) ≡ effects_of (entries_of (filter (stands run.trace.past.answered) made))
  lines_of [] = refl
  lines_of (made ∷ more) =
      ap (λ l. effect_of sim (made_of made) ++ l) (lines_of more)
      ∙ lines_by (stands_in sim (made_of made)) (stands run.trace.past.answered made) made (filter (stands run.trace.past.answered) more) (kind_same made.kind)

  pub effects_shown : flat_map (effect_of sim) sim.made ≡ effects_text run.trace.past
  effects_shown = ap (flat_map (effect_of sim)) (sym shows.made) ∙ lines_of run.trace.past.made

-- the lines of one entry more
pub effects_more : {X : Type 0} (sim : SimulationV X) (k : ℕ) (text text' : List ℕ) → k < length sim.made → text ≡ flat_map (effect_of sim) (take k sim.made)
    → ((m : Made) → slice_get sim.made k ≡ Some m → text' ≡ text ++ effect_of sim m) → text' ≡ flat_map (effect_of sim) (take (k + 1) sim.made)
effects_more sim k text text' below so_far more =
    let m = get_or sim.made k no_made in
    more m (slice_get-get_or sim.made k no_made below)
    ∙ ap (λ t. t ++ effect_of sim m) so_far
    ∙ ap (λ t. flat_map (effect_of sim) (take k sim.made) ++ t) (sym (append-nil (effect_of sim m)))
    ∙ sym (ap (flat_map (effect_of sim)) (take_more sim.made k no_made below) ∙ flat_map-append (effect_of sim) (take k sim.made) (m ∷ []))

-- ---- they tell of no stop

glyph_clean : (b : Bool) (d : ℕ) → not ((if b then 48 + d else (55 + d)) == 10) ≡ true
glyph_clean true d = ap not (ne_eqb (48 + d) 10 (λ e. omega (arith, e)))
glyph_clean false d = ap not (ne_eqb (55 + d) 10 (λ e. omega (arith, e)))

plain_clean : (byte : ℕ) → is_plain_byte byte ≡ true → not (byte == 10) ≡ true
plain_clean byte plain =
    let range = and_parts (nat_le 33 byte) (nat_le byte 126) (and_parts (nat_le 33 byte && nat_le byte 126) (not (byte == 37)) plain).0 in
    let least = leb-true 33 byte range.0 in
    ap not (ne_eqb byte 10 (λ e. omega (arith, e, least)))

byte_clean : (byte : ℕ) → has_no_feed (byte_text byte) ≡ true
byte_clean byte = by (is_plain_byte byte) refl
  where
    by : (b : Bool) → is_plain_byte byte ≡ b → has_no_feed (if b then byte ∷ [] else 37 ∷ digit_glyph true (byte / 16) ∷ digit_glyph true (byte % 16) ∷ []) ≡ true
    by true plain = and_from (not (byte == 10)) true (plain_clean byte plain) refl
    by false plain =
        and_from (not (digit_glyph true (byte / 16) == 10)) (not (digit_glyph true (byte % 16) == 10) && true) (glyph_clean (nat_lt (byte / 16) 10) (byte / 16))
        (and_from (not (digit_glyph true (byte % 16) == 10)) true (glyph_clean (nat_lt (byte % 16) 10) (byte % 16)) refl)

name_clean : (name : List ℕ) → has_no_feed (name_text name) ≡ true
name_clean [] = refl
name_clean (byte ∷ name) = clean_append (byte_text byte) (name_text name) (byte_clean byte) (name_clean name)

word_clean : (text : List ℕ) → list_all is_plain_byte text ≡ true → has_no_feed text ≡ true
word_clean [] plain = refl
word_clean (byte ∷ text) plain =
    let both = and_parts (is_plain_byte byte) (list_all is_plain_byte text) plain in
    and_from (not (byte == 10)) (has_no_feed text) (plain_clean byte both.0) (word_clean text both.1)

part_clean : (part : Part) → is_simple part ≡ true → has_no_feed (part_text part) ≡ true
part_clean (Keyword text) simple = word_clean text (and_parts (is_word text) (list_all is_plain_byte text) simple).1
part_clean (Number number) simple = decimal_clean number
part_clean (Named name) simple = name_clean name
part_clean (Raw text) simple = absurd cc
part_clean (Rest text) simple = absurd cc

parts_clean : (parts : List Part) → list_all is_simple parts ≡ true → has_no_feed (parts_text parts) ≡ true
parts_clean [] simple = refl
parts_clean (part ∷ []) simple = part_clean part (and_parts (is_simple part) true simple).0
parts_clean (part ∷ next ∷ parts) simple =
    let both = and_parts (is_simple part) (list_all is_simple (next ∷ parts)) simple in
    clean_append (part_text part) (32 ∷ parts_text (next ∷ parts)) (part_clean part both.0) (parts_clean (next ∷ parts) both.1)

-- a number behind other words
more_clean : (words : List ℕ) (number : ℕ) → has_no_feed words ≡ true → has_no_feed (words ++ codes " " ++ decimal number) ≡ true
more_clean words number clean = clean_append (words ++ codes " ") (decimal number) (clean_append words (codes " ") clean refl) (decimal_clean number)

effect_printed : (entry : Entry) → IsPrinted (effect_line entry)
effect_printed entry =
    let client = codes "= " ++ decimal entry.client in
    let seq = client ++ codes " " ++ decimal entry.seq in
    let call = seq ++ codes " " ++ call_text entry.call in
    record {
      part = call ++ codes " " ++ reply_text entry.reply;
      none = clean_append (call ++ codes " ") (reply_text entry.reply)
          (clean_append call (codes " ") (clean_append (seq ++ codes " ") (call_text entry.call) (clean_append seq (codes " ") (more_clean client entry.seq (decimal_clean entry.client)) refl) (parts_clean (call_parts entry.call) (call_simple entry.call))) refl)
          (reply_clean entry.reply);
      is = refl;
    }

-- it begins with an equals sign
not_stopped : ◌≡◌ {A = ℕ} 61 115 → ⊥
not_stopped e = omega (arith, e)

no_more : (line : List ℕ) (rest : List (List ℕ)) (s : ℕ) → (get_or line 0 0 ≡ 115 → ⊥) → times (stopped_line s) rest ≡ 0 → times (stopped_line s) (line ∷ rest) ≡ 0
no_more line rest s other none = let few = other_times line other s in omega (arith, few, none)

pub effects_quiet : {X : Type 0} (sim : SimulationV X) (made : List Made) → TellsNoStop (flat_map (effect_of sim) made)
effects_quiet sim [] = record { printed = []; each = tt; is = refl; none = λ s. refl }
effects_quiet sim (made ∷ more) = by (stands_in sim made) (effects_quiet sim more)
  where
    by : (b : Bool) → TellsNoStop (flat_map (effect_of sim) more) → TellsNoStop ((if b then effect_line made.entry else []) ++ flat_map (effect_of sim) more)
    by true tells = record {
      printed = effect_line made.entry ∷ tells.printed;
      each = (effect_printed made.entry, tells.each);
      is = ap (λ t. effect_line made.entry ++ t) tells.is;
      none = λ s. no_more (effect_line made.entry) tells.printed s not_stopped (tells.none s);
    }
    by false tells = tells
