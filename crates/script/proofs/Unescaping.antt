-- Words that spell names.
use Rattle.std.proofs.Common.{◌≡◌, ◌∙◌, sym, ap, subst, refl, ℕ, ◌+◌, ◌*◌, ◌<◌, List, [], ◌∷◌, ◌++◌, length, Bool, true, false, cond, arith, append_assoc, Option, Some, None, MatchOption, nat_lt, inl, inr}
use Rattle.std.specs.Prelude.{◌==◌, ◌&&◌}
use Rattle.std.specs.List.{list_any, IsFirstAndRest}
use Rattle.std.specs.Char.{digit_value}
use Rattle.std.proofs.lemmas.Bool.{or_parts, and_parts, and_from, ne_eqb, eq-eqb, eqb-true, eqb-false, ltb-true, lt-ltb}
use Rattle.std.proofs.lemmas.List.{append-nil}
use Rattle.std.proofs.lemmas.Option.{cond_some, same_Some}
use Rattle.script.specs.Names.{IsHexOf, SpellsName}
use Rattle.script.specs.Reading.{◌>>=◌, onto, hex_byte, unescaped, checked_name, name_of}

-- bytes in front of the bytes that the rest of a word spells
abbrev pub onto_all : List ℕ → Option (List ℕ) → Option (List ℕ)
onto_all front None = None
onto_all front (Some bytes) = Some (front ++ bytes)

pub onto_all-onto : (front : List ℕ) (byte : ℕ) (o : Option (List ℕ)) → onto_all (front ++ byte ∷ []) o ≡ onto_all front (onto byte o)
onto_all-onto front byte None = refl
onto_all-onto front byte (Some bytes) = ap Some (append_assoc front (byte ∷ []) bytes)

pub onto_all-nil : (o : Option (List ℕ)) → onto_all [] o ≡ o
onto_all-nil None = refl
onto_all-nil (Some bytes) = refl

-- a byte that stands for itself
pub unescaped-plain : (byte : ℕ) (rest : List ℕ) → (byte == 37) ≡ false → unescaped (byte ∷ rest) ≡ onto byte (unescaped rest)
unfolding unescaped
unescaped-plain byte [] plain = ap (λ t. cond t None (Some (byte ∷ []))) plain
unescaped-plain byte (high ∷ []) plain = ap (λ t. cond t None (onto byte (unescaped (high ∷ [])))) plain
unescaped-plain byte (high ∷ low ∷ rest) plain = ap (λ t. cond t (hex_byte high low >>= (λ b. onto b (unescaped rest))) (onto byte (unescaped (high ∷ low ∷ rest)))) plain

-- an escape
pub unescaped-escape : (byte high low : ℕ) (rest : List ℕ) → (byte == 37) ≡ true → unescaped (byte ∷ high ∷ low ∷ rest) ≡ (hex_byte high low >>= (λ b. onto b (unescaped rest)))
unfolding unescaped
unescaped-escape byte high low rest is = ap (λ t. cond t (hex_byte high low >>= (λ b. onto b (unescaped rest))) (onto byte (unescaped (high ∷ low ∷ rest)))) is

-- What the code does: it takes the first byte, and after a `%` two more

pub front_plain : (word rest : List ℕ) (byte : ℕ) → IsFirstAndRest word byte rest → (byte ≡ 37 → ⊥) → (unescaped word ≡ onto byte (unescaped rest)) × (length rest < length word)
front_plain word rest byte first plain = (ap unescaped first.0 ∙ unescaped-plain byte rest (ne_eqb byte 37 plain), omega (arith, first.1))

pub front_alone : (word rest : List ℕ) (byte : ℕ) → IsFirstAndRest word byte rest → byte ≡ 37 → length rest ≡ 0 → unescaped word ≡ None
unfolding unescaped
front_alone word [] byte first is none = ap unescaped first.0 ∙ ap (λ t. cond t None (Some (byte ∷ []))) (eq-eqb byte 37 is)
front_alone word (next ∷ rest) byte first is none = absurd (omega (arith, none))

pub front_short : (word rest later : List ℕ) (byte high : ℕ) → IsFirstAndRest word byte rest → byte ≡ 37 → IsFirstAndRest rest high later → length later ≡ 0 → unescaped word ≡ None
unfolding unescaped
front_short word rest [] byte high first is second none =
    ap unescaped (first.0 ∙ ap (λ l. byte ∷ l) second.0) ∙ ap (λ t. cond t None (onto byte (unescaped (high ∷ [])))) (eq-eqb byte 37 is)
front_short word rest (next ∷ later) byte high first is second none = absurd (omega (arith, none))

escape_is : (word rest later last : List ℕ) (byte high low : ℕ) → IsFirstAndRest word byte rest → byte ≡ 37 → IsFirstAndRest rest high later → IsFirstAndRest later low last → unescaped word ≡ (hex_byte high low >>= (λ b. onto b (unescaped last)))
escape_is word rest later last byte high low first is second third =
    ap unescaped (first.0 ∙ ap (λ l. byte ∷ l) (second.0 ∙ ap (λ l. high ∷ l) third.0)) ∙ unescaped-escape byte high low last (eq-eqb byte 37 is)

pub front_unread : (word rest later last : List ℕ) (byte high low : ℕ) → IsFirstAndRest word byte rest → byte ≡ 37 → IsFirstAndRest rest high later → IsFirstAndRest later low last → hex_byte high low ≡ None → unescaped word ≡ None
front_unread word rest later last byte high low first is second third none =
    escape_is word rest later last byte high low first is second third ∙ ap (λ o. o >>= (λ b. onto b (unescaped last))) none

pub front_escape : (word rest later last : List ℕ) (byte high low found : ℕ) → IsFirstAndRest word byte rest → byte ≡ 37 → IsFirstAndRest rest high later → IsFirstAndRest later low last → hex_byte high low ≡ Some found → (unescaped word ≡ onto found (unescaped last)) × (length last < length word)
front_escape word rest later last byte high low found first is second third some = (
  escape_is word rest later last byte high low first is second third ∙ ap (λ o. o >>= (λ b. onto b (unescaped last))) some,
  omega (arith, first.1, second.1, third.1),
)

pub all_read : (bytes rest word : List ℕ) → length rest ≡ 0 → onto_all bytes (unescaped rest) ≡ unescaped word → unescaped word ≡ Some bytes
unfolding unescaped
all_read bytes [] word none so_far = sym so_far ∙ ap Some (append-nil bytes)
all_read bytes (byte ∷ rest) word none so_far = absurd (omega (arith, none))

pub at_none : {A : Type 0} (o : Option A) (P : Type 0) (Q : A → Type 0) → o ≡ None → P → MatchOption o P Q
at_none o P Q is p = subst (λ o. MatchOption o P Q) (sym is) p

-- a word without `%` spells itself
pub no_escape : (word : List ℕ) → list_any (λ byte. byte == 37) word ≡ false → unescaped word ≡ Some word
unfolding unescaped
no_escape [] none = refl
no_escape (byte ∷ word) none =
    let parts = or_parts (byte == 37) (list_any (λ byte. byte == 37) word) none in
    unescaped-plain byte word parts.0 ∙ ap (onto byte) (no_escape word parts.1)

pub named_plain : (word : List ℕ) → list_any (λ byte. byte == 37) word ≡ false → name_of word ≡ checked_name word
unfolding name_of
named_plain word none = ap (λ o. o >>= checked_name) (no_escape word none)

-- ---- the spelling of names, as a relation

hex_found : (high low byte : ℕ) → hex_byte high low ≡ Some byte → IsHexOf high low byte
hex_found high low byte found =
    let parts = cond_some (nat_lt (digit_value high) 16 && nat_lt (digit_value low) 16) (16 * digit_value high + digit_value low) byte found in
    let tests = and_parts (nat_lt (digit_value high) 16) (nat_lt (digit_value low) 16) parts.0 in
    record {
      high_digit = ltb-true (digit_value high) 16 tests.0;
      low_digit = ltb-true (digit_value low) 16 tests.1;
      value = sym parts.1;
    }

hex_is : (high low byte : ℕ) → IsHexOf high low byte → hex_byte high low ≡ Some byte
hex_is high low byte hex =
    ap (λ t. cond t (Some (16 * digit_value high + digit_value low)) None) (and_from (nat_lt (digit_value high) 16) (nat_lt (digit_value low) 16) (lt-ltb (digit_value high) 16 hex.high_digit) (lt-ltb (digit_value low) 16 hex.low_digit))
    ∙ ap Some (sym hex.value)

-- what a word spells is read
pub name_is : (word name : List ℕ) → SpellsName word name → unescaped word ≡ Some name
unfolding unescaped
name_is word [] spelled = ap unescaped spelled
name_is word (byte ∷ name) (front, rest, is, inl plain, later) =
    ap unescaped (is ∙ ap (λ l. l ++ rest) plain.0) ∙ unescaped-plain byte rest (ne_eqb byte 37 plain.1) ∙ ap (onto byte) (name_is rest name later)
name_is word (byte ∷ name) (front, rest, is, inr (high, low, escape, hex), later) =
    ap unescaped (is ∙ ap (λ l. l ++ rest) escape) ∙ unescaped-escape 37 high low rest refl ∙ ap (λ o. o >>= (λ b. onto b (unescaped rest))) (hex_is high low byte hex) ∙ ap (onto byte) (name_is rest name later)

-- a byte in front of a name
record Begins (byte : ℕ) (o : Option (List ℕ)) (name : List ℕ) : Type 0 where
  rest : List ℕ
  some : o ≡ Some rest
  is : name ≡ byte ∷ rest

onto_some : (byte : ℕ) (o : Option (List ℕ)) (name : List ℕ) → onto byte o ≡ Some name → Begins byte o name
onto_some byte None name found = absurd cc
onto_some byte (Some rest) name found = record { rest = rest; some = refl; is = sym (same_Some (byte ∷ rest) name found) }

plain_found : (byte : ℕ) (rest name : List ℕ) → (byte == 37) ≡ false → onto byte (unescaped rest) ≡ Some name → ((more : List ℕ) → unescaped rest ≡ Some more → SpellsName rest more) → SpellsName (byte ∷ rest) name
plain_found byte rest name plain found later =
    let b = onto_some byte (unescaped rest) name found in
    subst (SpellsName (byte ∷ rest)) (sym b.is) (byte ∷ [], rest, refl, inl (refl, eqb-false byte 37 plain), later b.rest b.some)

escape_found : (byte high low : ℕ) (rest name : List ℕ) → byte ≡ 37 → (hex_byte high low >>= (λ b. onto b (unescaped rest))) ≡ Some name → ((more : List ℕ) → unescaped rest ≡ Some more → SpellsName rest more) → SpellsName (byte ∷ high ∷ low ∷ rest) name
escape_found byte high low rest name is found later = by (hex_byte high low) refl
  where
    by : (o : Option ℕ) → hex_byte high low ≡ o → SpellsName (byte ∷ high ∷ low ∷ rest) name
    by None none = absurd (let e : None ≡ Some name = ap (λ o. o >>= (λ b. onto b (unescaped rest))) (sym none) ∙ found in cc)
    by (Some value) some =
        let b = onto_some value (unescaped rest) name (ap (λ o. o >>= (λ b. onto b (unescaped rest))) (sym some) ∙ found) in
        subst (SpellsName (byte ∷ high ∷ low ∷ rest)) (sym b.is) (37 ∷ high ∷ low ∷ [], rest, ap (λ n. n ∷ high ∷ low ∷ rest) is, inr (high, low, refl, hex_found high low value some), later b.rest b.some)

-- what is read is what the word spells
pub name_found : (word name : List ℕ) → unescaped word ≡ Some name → SpellsName word name
unfolding unescaped
name_found [] name found = subst (SpellsName []) (same_Some [] name found) refl
name_found (byte ∷ []) name found = by (byte == 37) refl
  where
    by : (t : Bool) → (byte == 37) ≡ t → SpellsName (byte ∷ []) name
    by true is = absurd (let e : None ≡ Some name = ap (λ t. cond t None (Some (byte ∷ []))) (sym is) ∙ found in cc)
    by false is = subst (SpellsName (byte ∷ [])) (same_Some (byte ∷ []) name (ap (λ t. cond t None (Some (byte ∷ []))) (sym is) ∙ found)) (byte ∷ [], [], refl, inl (refl, eqb-false byte 37 is), refl)
name_found (byte ∷ high ∷ []) name found = by (byte == 37) refl (λ rest. name_found (high ∷ []) rest)
  where
    by : (t : Bool) → (byte == 37) ≡ t → ((rest : List ℕ) → unescaped (high ∷ []) ≡ Some rest → SpellsName (high ∷ []) rest) → SpellsName (byte ∷ high ∷ []) name
    by true is later = absurd (let e : None ≡ Some name = ap (λ t. cond t None (onto byte (unescaped (high ∷ [])))) (sym is) ∙ found in cc)
    by false is later = plain_found byte (high ∷ []) name is (sym (unescaped-plain byte (high ∷ []) is) ∙ found) later
name_found (byte ∷ high ∷ low ∷ rest) name found = by (byte == 37) refl (λ more. name_found (high ∷ low ∷ rest) more) (λ more. name_found rest more)
  where
    by : (t : Bool) → (byte == 37) ≡ t → ((more : List ℕ) → unescaped (high ∷ low ∷ rest) ≡ Some more → SpellsName (high ∷ low ∷ rest) more) → ((more : List ℕ) → unescaped rest ≡ Some more → SpellsName rest more) → SpellsName (byte ∷ high ∷ low ∷ rest) name
    by true is later behind = escape_found byte high low rest name (eqb-true byte 37 is) (sym (unescaped-escape byte high low rest is) ∙ found) behind
    by false is later behind = plain_found byte (high ∷ low ∷ rest) name is (sym (unescaped-plain byte (high ∷ low ∷ rest) is) ∙ found) later
