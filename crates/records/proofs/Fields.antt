-- The readers of the fields read them exactly: bytes, numbers and names.
use Rattle.std.proofs.Common.{◌≡◌, ◌∙◌, sym, ap, subst, refl, ℕ, zero, suc, ◌+◌, ◌-◌, ◌*◌, ◌/◌, ◌%◌, ◌^◌, ◌<◌, ◌≤◌, ◌==◌, Bool, true, false, cond, not, nat_lt, nat_le, ◌&&◌, List, [], ◌∷◌, ◌++◌, append_assoc, length, get_or, take, drop, add-one, lit≤, lit<, min, arith, Result, Ok, Err, inl, inr}
use Rattle.std.specs.Prelude.{IsTrue}
use Rattle.std.specs.List.{list_all, list_any}
use Rattle.std.specs.Int.{byte_at, bytes_high_first}
use Rattle.std.proofs.Math.Nat.{div-one, div-div-eq-div-mul, div-lt_iff_lt-mul, mul-div_left, le-div_iff_mul-le, div-mul-le_self, pow-suc}
use Rattle.std.proofs.Math.Seq.{drop-cons, take-suc}
use Rattle.std.proofs.lemmas.Bool.{cases_lt}
use Rattle.std.proofs.lemmas.Bool.Decides.{nat_tests}
use Rattle.std.proofs.lemmas.List.{length-append, length-take, length-drop, drop_all, nil_from_length, take_at, drop_at, take-append-drop, take_all}
use Rattle.mds_base.specs.Name.{is_name, is_name_byte, is_dots}
use Rattle.records.specs.declared.fault.Fault.{Fault}
use Rattle.records.specs.declared.fault.Fault.TheVariants.{Short, Bad}
use Rattle.records.specs.Reading.{byte_where, byte_among, leads_into, number_after, number_at, from_foreign, text_from, text_at, name_at}
use Rattle.records.proofs.Numbers.{weight_pos}
use Rattle.records.proofs.ToCome.{in_turn}
use Rattle.records.proofs.Decoding.{IsBytes, Begun, Takes, Refuses, Decodes, Follows, Seq, ends_here, same_grammar, failed}

-- ---- one byte

-- a byte that passes a test
pub record OneByte (test : ℕ → Bool) (text : List ℕ) (b : ℕ) : Type 0 where
  pub text_is : text ≡ b ∷ []
  pub byte : b < 256
  pub passes : test b ≡ true

same_left : (a b : ℕ) → failed {A = ℕ × List ℕ} (Bad a) ≡ Err (Bad b) → a ≡ b
same_left a b e = cc

-- what reading one byte gives
abbrev one_or : Bool → ℕ → List ℕ → Result (ℕ × List ℕ) Fault
one_or t x bytes = cond t (Ok (x, bytes)) (Err (Bad (suc (length bytes))))

module _ (test : ℕ → Bool) (w : ℕ) (w_byte : w < 256) (w_passes : test w ≡ true) where
  byte_found : (bytes : List ℕ) (b : ℕ) (rest : List ℕ) → IsBytes bytes → byte_where test bytes ≡ Ok (b, rest) → Takes (OneByte test) bytes b rest
  unfolding byte_where
  byte_found [] b rest fits e = absurd cc
  byte_found (x ∷ bytes) b rest fits e =
      elim (test x) as (λ t. test x ≡ t → one_or t x bytes ≡ Ok (b, rest) → Takes (OneByte test) (x ∷ bytes) b rest) [
        | true ↦ λ is same. let pair : ◌≡◌ {A = ℕ × List ℕ} (x, bytes) (b, rest) = cc in
            subst (λ (p : ℕ × List ℕ). Takes (OneByte test) (x ∷ bytes) p.0 p.1) pair (record { text = x ∷ []; parts = refl; spelled = record { text_is = refl; byte = fits 0; passes = is } })
        | false ↦ λ is same. absurd cc
      ] refl e

  byte_again : (text : List ℕ) (b : ℕ) (rest : List ℕ) → OneByte test text b → byte_where test (text ++ rest) ≡ Ok (b, rest)
  unfolding byte_where
  byte_again text b rest s = rw (s.text_is, s.passes) refl

  byte_begun : Begun (OneByte test) []
  byte_begun = record { more = w ∷ []; value = w; some = omega arith; spelled = record { text_is = refl; byte = w_byte; passes = w_passes } }

  byte_short : (bytes : List ℕ) → IsBytes bytes → byte_where test bytes ≡ Err Short → Begun (OneByte test) bytes
  unfolding byte_where
  byte_short [] fits e = byte_begun
  byte_short (x ∷ bytes) fits e = elim (test x) as (λ t. one_or t x bytes ≡ Err Short → Begun (OneByte test) (x ∷ bytes)) [ true ↦ λ same. absurd cc | false ↦ λ same. absurd cc ] e

  byte_bad : (bytes : List ℕ) (left : ℕ) → IsBytes bytes → byte_where test bytes ≡ Err (Bad left) → Refuses (OneByte test) bytes left
  unfolding byte_where
  byte_bad [] left fits e = absurd cc
  byte_bad (x ∷ bytes) left fits e =
      elim (test x) as (λ t. test x ≡ t → one_or t x bytes ≡ Err (Bad left) → Refuses (OneByte test) (x ∷ bytes) left) [
        | true ↦ λ is same. absurd cc
        | false ↦ λ is same. record { front = []; byte = x; rest = bytes; parts = refl; left_is = sym (same_left (suc (length bytes)) left same); begun = byte_begun; never = λ more b s. let first : x ≡ b = let e : x ∷ more ≡ b ∷ [] = s.text_is in cc in let on : test x ≡ true = ap test first ∙ s.passes in cc }
      ] refl e

  pub byte_reads : Follows (OneByte test) (byte_where test)
  byte_reads = record { decodes = record { found = byte_found; again = byte_again; short = byte_short; bad = byte_bad }; text = w ∷ []; value = w; spelled = record { text_is = refl; byte = w_byte; passes = w_passes } }

-- one of some bytes
abbrev pub is_among : List ℕ → ℕ → Bool
is_among allowed b = list_any (λ x. x == b) allowed

pub among_reads : (allowed : List ℕ) (w : ℕ) → w < 256 → is_among allowed w ≡ true → Follows (OneByte (is_among allowed)) (byte_among allowed)
unfolding byte_among
among_reads allowed w byte is = byte_reads (is_among allowed) w byte is

-- ---- numbers

-- the last `left` bytes of a number, of which value stands before
pub record NumberAfter (least most value left : ℕ) (text : List ℕ) (n : ℕ) : Type 0 where
  pub before : n / 256 ^ left ≡ value
  pub low : least ≤ n
  pub high : n ≤ most
  pub text_is : text ≡ bytes_high_first left n

-- a number of so many bytes, from least to most
pub record NumberOf (width least most : ℕ) (text : List ℕ) (n : ℕ) : Type 0 where
  pub low : least ≤ n
  pub high : n ≤ most
  pub text_is : text ≡ bytes_high_first width n

byte_is : (k n : ℕ) → byte_at k n ≡ n / 256 ^ k % 256
byte_is zero n = ap (λ (m : ℕ). m % 256) (sym (div-one n))
byte_is (suc k) n = refl

-- a number without its last bytes is that without one byte fewer, less that byte
shorter : (k n : ℕ) → n / 256 ^ suc k ≡ n / 256 ^ k / 256
shorter k n = ap (λ (m : ℕ). n / m) (pow-suc 256 k) ∙ sym (div-div-eq-div-mul n (256 ^ k) 256)

leads : (least most left value : ℕ) → least / 256 ^ left ≤ value → value ≤ most / 256 ^ left → leads_into least most left value ≡ true
leads least most left value low high = grind (arith, nat_tests)

leads_low : (least most left value : ℕ) → leads_into least most left value ≡ true → least / 256 ^ left ≤ value
leads_low least most left value on = grind (arith, nat_tests)

leads_high : (least most left value : ℕ) → leads_into least most left value ≡ true → value ≤ most / 256 ^ left
leads_high least most left value on = grind (arith, nat_tests)

div_grows : (a b k : ℕ) → 0 < k → a ≤ b → a / k ≤ b / k
div_grows a b k pos le = (le-div_iff_mul-le pos).1 (let whole = div-mul-le_self a k in omega arith)

number_leads : (least most left n : ℕ) → least ≤ n → n ≤ most → leads_into least most left (n / 256 ^ left) ≡ true
number_leads least most left n low high = leads least most left (n / 256 ^ left) (div_grows least n (256 ^ left) (weight_pos left) low) (div_grows n most (256 ^ left) (weight_pos left) high)

-- some number begins so
pub record Some (least most left value : ℕ) : Type 0 where
  pub n : ℕ
  pub before : n / 256 ^ left ≡ value
  pub low : least ≤ n
  pub high : n ≤ most

some_number : (least most left value : ℕ) → least ≤ most → leads_into least most left value ≡ true → Some least most left value
some_number least most left value le on =
    let pos = weight_pos left in
    let high : value * 256 ^ left ≤ most = (le-div_iff_mul-le pos).0 (leads_high least most left value on) in
    elim (cases_lt (value * 256 ^ left) least) [
      | inl below ↦
          let up : value ≤ least / 256 ^ left = (le-div_iff_mul-le pos).1 (omega arith) in
          let down = leads_low least most left value on in
          record { n = least; before = omega arith; low = omega arith; high = le }
      | inr above ↦ record { n = value * 256 ^ left; before = mul-div_left value pos; low = above; high = high }
    ]

module _ (least most : ℕ) (le : least ≤ most) where
  -- what stands before a number's last bytes, and one byte more
  abbrev next : ℕ → ℕ → ℕ → Bool
  next left value b = leads_into least most left (value * 256 + b)

  abbrev Parted : ℕ → ℕ → List ℕ → ℕ → Type 0
  Parted left value = Seq (OneByte (next left value)) (λ b. NumberAfter least most (value * 256 + b) left)

  joined : (left value : ℕ) (text : List ℕ) (n : ℕ) → Parted left value text n → NumberAfter least most value (suc left) text n
  joined left value text n s =
      let before : n / 256 ^ left ≡ value * 256 + s.value = s.second.before in
      let byte = s.first.byte in
      let whole : n / 256 ^ suc left ≡ value = shorter left n ∙ ap (λ (m : ℕ). m / 256) before ∙ omega arith in
      let first : byte_at left n ≡ s.value = byte_is left n ∙ ap (λ (m : ℕ). m % 256) before ∙ omega arith in
      record {
        before = whole;
        low = s.second.low;
        high = s.second.high;
        text_is = s.parts ∙ ap (λ (t : List ℕ). t ++ s.back) s.first.text_is ∙ ap (λ (t : List ℕ). s.value ∷ t) s.second.text_is ∙ ap (λ (b : ℕ). b ∷ bytes_high_first left n) (sym first);
      }

  parted : (left value : ℕ) (text : List ℕ) (n : ℕ) → NumberAfter least most value (suc left) text n → Parted left value text n
  parted left value text n s =
      let byte : byte_at left n ≡ n / 256 ^ left % 256 = byte_is left n in
      let whole : n / 256 ^ left / 256 ≡ value = sym (shorter left n) ∙ s.before in
      let before : n / 256 ^ left ≡ value * 256 + byte_at left n = omega arith in
      let lead = number_leads least most left n s.low s.high in
      record {
        front = byte_at left n ∷ [];
        back = bytes_high_first left n;
        value = byte_at left n;
        parts = s.text_is;
        first = record { text_is = refl; byte = omega arith; passes = subst (λ (m : ℕ). leads_into least most left m ≡ true) before lead };
        second = record { before = before; low = s.low; high = s.high; text_is = refl };
      }

  numbers_follow : (left value : ℕ) → leads_into least most left value ≡ true → Decodes (NumberAfter least most value left) (number_after least most value left) → Follows (NumberAfter least most value left) (number_after least most value left)
  numbers_follow left value on decodes =
      let some = some_number least most left value le on in
      record { decodes = decodes; text = bytes_high_first left some.n; value = some.n; spelled = record { before = some.before; low = some.low; high = some.high; text_is = refl } }

  after_reads : (left value : ℕ) → leads_into least most left value ≡ true → Decodes (NumberAfter least most value left) (number_after least most value left)
  unfolding number_after
  after_reads zero value on =
      same_grammar
      (λ text n s. record { before = div-one n ∙ s.is; low = let low = leads_low least most 0 value on in let one = div-one least in omega (arith, s.is); high = let high = leads_high least most 0 value on in let one = div-one most in omega (arith, s.is); text_is = s.none })
      (λ text n s. record { none = s.text_is; is = sym (div-one n) ∙ s.before })
      (ends_here value)
  after_reads (suc left) value on =
      let some = some_number least most (suc left) value le on in
      let w = parted left value (bytes_high_first (suc left) some.n) some.n (record { before = some.before; low = some.low; high = some.high; text_is = refl }) in
      same_grammar (joined left value) (parted left value)
      (in_turn (byte_reads (next left value) w.value w.first.byte w.first.passes).decodes (λ text b s. numbers_follow left (value * 256 + b) s.passes (after_reads left (value * 256 + b) s.passes)))

  -- a number of so many bytes, from least to most, is read exactly
  pub number_reads : (width : ℕ) → most < 256 ^ width → Follows (NumberOf width least most) (number_at width least most)
  unfolding number_at
  number_reads width fits =
      let pos = weight_pos width in
      let none : (n : ℕ) → n < 256 ^ width → n / 256 ^ width ≡ 0 = λ n below. let up : n / 256 ^ width < 1 = (div-lt_iff_lt-mul pos).1 (omega arith) in omega arith in
      let on = leads least most width 0 (let z = none least (omega arith) in omega arith) (omega arith) in
      record {
        decodes = same_grammar
            (λ text n s. record { low = s.low; high = s.high; text_is = s.text_is })
            (λ text n s. record { before = none n (let high = s.high in omega arith); low = s.low; high = s.high; text_is = s.text_is })
            (after_reads width 0 on);
        text = bytes_high_first width least;
        value = least;
        spelled = record { low = omega arith; high = le; text_is = refl };
      }

-- ---- names

-- a name of so many bytes
pub record TextOf (len : ℕ) (text name : List ℕ) : Type 0 where
  pub text_is : text ≡ name
  pub long : length name ≡ len
  pub named : IsTrue (is_name name)

-- so many letters `a`
filler : ℕ → List ℕ
filler zero = []
filler (suc k) = 97 ∷ filler k

length-filler : (k : ℕ) → length (filler k) ≡ k
unfolding filler
length-filler zero = refl
length-filler (suc k) = ap suc (length-filler k)

and_true : (a b : Bool) → a ≡ true → b ≡ true → (a && b) ≡ true
and_true true b p q = q
and_true false b p q = absurd cc

and_first : (a b : Bool) → (a && b) ≡ true → a ≡ true
and_first true b p = refl
and_first false b p = absurd cc

and_second : (a b : Bool) → (a && b) ≡ true → b ≡ true
and_second true b p = p
and_second false b p = absurd cc

and_off : (a : Bool) → (a && false) ≡ false
and_off true = refl
and_off false = refl

-- bytes that all may stand in a name, a byte that may not, and what is after it
pub record Foreign (front : List ℕ) (b : ℕ) (rest : List ℕ) : Type 0 where
  pub before : List ℕ
  pub parts : front ≡ before ++ b ∷ rest
  pub plain : list_all is_name_byte before ≡ true
  pub off : is_name_byte b ≡ false

abbrev foreign_or : Bool → ℕ → List ℕ → List ℕ
foreign_or t x bytes = cond t (from_foreign bytes) (x ∷ bytes)

-- a byte that may stand in a name is passed over, and another is where the rest begins
pub passes_over : (bytes : List ℕ) (place : ℕ) → place < length bytes → is_name_byte (get_or bytes place 0) ≡ true → from_foreign (drop place bytes) ≡ from_foreign bytes → from_foreign (drop (place + 1) bytes) ≡ from_foreign bytes
unfolding from_foreign
passes_over bytes place below plain so_far =
    let step : from_foreign (drop place bytes) ≡ from_foreign (drop (place + 1) bytes) = rw (drop-cons bytes place 0 below, plain, add-one place) refl in
    sym step ∙ so_far

pub begins_at : (bytes : List ℕ) (place : ℕ) → place < length bytes → is_name_byte (get_or bytes place 0) ≡ false → from_foreign (drop place bytes) ≡ from_foreign bytes → length (from_foreign bytes) ≡ length bytes - place
unfolding from_foreign
begins_at bytes place below off so_far =
    let step : from_foreign (drop place bytes) ≡ drop place bytes = rw (drop-cons bytes place 0 below, off) refl in
    ap length (sym so_far ∙ step) ∙ length-drop place bytes

pub ends_plain : (bytes : List ℕ) (place : ℕ) → length bytes ≤ place → from_foreign (drop place bytes) ≡ from_foreign bytes → from_foreign bytes ≡ []
unfolding from_foreign
ends_plain bytes place past so_far = sym so_far ∙ ap from_foreign (drop_all place bytes past)

foreign_splits : (front : List ℕ) (b : ℕ) (rest : List ℕ) → from_foreign front ≡ b ∷ rest → Foreign front b rest
unfolding from_foreign
foreign_splits [] b rest e = absurd cc
foreign_splits (x ∷ front) b rest e =
    elim (is_name_byte x) as (λ t. is_name_byte x ≡ t → foreign_or t x front ≡ b ∷ rest → Foreign (x ∷ front) b rest) [
      | true ↦ λ is same. let f = foreign_splits front b rest same in record { before = x ∷ f.before; parts = ap (λ (t : List ℕ). x ∷ t) f.parts; plain = and_true (is_name_byte x) _ is f.plain; off = f.off }
      | false ↦ λ is same. let byte : x ≡ b = cc in let more : front ≡ rest = cc in record { before = []; parts = same; plain = refl; off = ap is_name_byte (sym byte) ∙ is }
    ] refl e

none_foreign : (front : List ℕ) → from_foreign front ≡ [] → list_all is_name_byte front ≡ true
unfolding from_foreign
none_foreign [] e = refl
none_foreign (x ∷ front) e =
    elim (is_name_byte x) as (λ t. is_name_byte x ≡ t → foreign_or t x front ≡ [] → list_all is_name_byte (x ∷ front) ≡ true) [
      | true ↦ λ is same. and_true (is_name_byte x) _ is (none_foreign front same)
      | false ↦ λ is same. absurd cc
    ] refl e

plain_foreign : (front : List ℕ) → list_all is_name_byte front ≡ true → from_foreign front ≡ []
unfolding from_foreign
plain_foreign [] plain = refl
plain_foreign (x ∷ front) plain = rw (and_first (is_name_byte x) _ plain) (plain_foreign front (and_second (is_name_byte x) _ plain))

plain_append : (a b : List ℕ) → list_all is_name_byte a ≡ true → list_all is_name_byte b ≡ true → list_all is_name_byte (a ++ b) ≡ true
plain_append [] b p q = q
plain_append (x ∷ a) b p q = and_true (is_name_byte x) _ (and_first (is_name_byte x) _ p) (plain_append a b (and_second (is_name_byte x) _ p) q)

plain_back : (a b : List ℕ) → list_all is_name_byte (a ++ b) ≡ true → list_all is_name_byte b ≡ true
plain_back [] b p = p
plain_back (x ∷ a) b p = plain_back a b (and_second (is_name_byte x) _ p)

plain_front : (a b : List ℕ) → list_all is_name_byte (a ++ b) ≡ true → list_all is_name_byte a ≡ true
plain_front [] b p = refl
plain_front (x ∷ a) b p = and_true (is_name_byte x) _ (and_first (is_name_byte x) _ p) (plain_front a b (and_second (is_name_byte x) _ p))

plain_filler : (k : ℕ) → list_all is_name_byte (filler k) ≡ true
unfolding filler
plain_filler zero = refl
plain_filler (suc k) = plain_filler k

name_plain : (name : List ℕ) → IsTrue (is_name name) → list_all is_name_byte name ≡ true
name_plain name named = and_second _ _ named

-- a letter at the end keeps bytes from being dots
not_dots : (front : List ℕ) (k : ℕ) → is_dots (front ++ 97 ∷ filler k) ≡ false
not_dots [] k = refl
not_dots (a ∷ []) k = rw (and_off (a == 46)) refl
not_dots (a ∷ b ∷ []) k = rw (and_off (a == 46), and_off (b == 46), and_off (a == 46)) refl
not_dots (a ∷ b ∷ c ∷ front) k = rw (and_off (a == 46), and_off (b == 46), and_off (a == 46)) refl

named_from : (bytes : List ℕ) → 1 ≤ length bytes → length bytes ≤ 255 → is_dots bytes ≡ false → list_all is_name_byte bytes ≡ true → IsTrue (is_name bytes)
named_from bytes some few dots plain = let low : nat_le 1 (length bytes) ≡ true = grind (arith, nat_tests) in let high : nat_le (length bytes) 255 ≡ true = grind (arith, nat_tests) in rw (low, high, dots, plain) refl

-- bytes that may stand in a name, and letters after them, are a name
filled : (front : List ℕ) (k : ℕ) → list_all is_name_byte front ≡ true → length front + suc k ≤ 255 → IsTrue (is_name (front ++ 97 ∷ filler k))
filled front k plain short =
    let long : length (front ++ 97 ∷ filler k) ≡ length front + suc k = length-append front (97 ∷ filler k) ∙ ap (λ (n : ℕ). length front + suc n) (length-filler k) in
    named_from (front ++ 97 ∷ filler k) (omega arith) (omega arith) (not_dots front k) (plain_append front (97 ∷ filler k) plain (plain_filler k))

module _ (len : ℕ) (some : 1 ≤ len) (few : len ≤ 255) where
  text_begun : (front : List ℕ) → list_all is_name_byte front ≡ true → length front < len → Begun (TextOf len) front
  text_begun front plain below =
      let room : len - length front ≡ suc (len - length front - 1) = omega arith in
      let k = len - length front - 1 in
      record {
        more = 97 ∷ filler k;
        value = front ++ 97 ∷ filler k;
        some = omega arith;
        spelled = record { text_is = refl; long = length-append front (97 ∷ filler k) ∙ ap (λ (n : ℕ). length front + suc n) (length-filler k) ∙ omega arith; named = filled front k plain (omega arith) };
      }

  -- the three ways in which text_from ends
  abbrev or_name : Bool → Bool → List ℕ → Result (List ℕ × List ℕ) Fault
  or_name short named bytes = cond short (Err Short) (cond named (Ok (take len bytes, drop len bytes)) (Err (Bad (length bytes - (len - 1)))))

  text_found : (bytes name rest : List ℕ) → IsBytes bytes → text_at len bytes ≡ Ok (name, rest) → Takes (TextOf len) bytes name rest
  unfolding text_at
  text_found bytes name rest fits e = go (from_foreign (take len bytes)) e
    where
      long : (b : Bool) → nat_lt (length bytes) len ≡ b → (named : Bool) → is_name (take len bytes) ≡ named → or_name b named bytes ≡ Ok (name, rest) → Takes (TextOf len) bytes name rest
      long true is named n same = absurd cc
      long false is true n same =
          let pair : ◌≡◌ {A = List ℕ × List ℕ} (take len bytes, drop len bytes) (name, rest) = cc in
          let enough : len ≤ length bytes = grind (arith, nat_tests) in
          subst (λ (p : List ℕ × List ℕ). Takes (TextOf len) bytes p.0 p.1) pair (record { text = take len bytes; parts = sym (take-append-drop len bytes); spelled = record { text_is = refl; long = omega (arith, length-take len bytes); named = n } })
      long false is false n same = absurd cc

      go : (foreign : List ℕ) → text_from len bytes foreign ≡ Ok (name, rest) → Takes (TextOf len) bytes name rest
      go [] same = long (nat_lt (length bytes) len) refl (is_name (take len bytes)) refl same
      go (b ∷ foreign) same = absurd cc

  text_again : (text name rest : List ℕ) → TextOf len text name → text_at len (text ++ rest) ≡ Ok (name, rest)
  unfolding text_at
  text_again text name rest s =
      let long : length text ≡ len = ap length s.text_is ∙ s.long in
      let front : take len (text ++ rest) ≡ text = take_at text rest len long in
      let plain : from_foreign text ≡ [] = plain_foreign text (rw s.text_is (name_plain name s.named)) in
      let enough : nat_lt (length (text ++ rest)) len ≡ false = let whole = length-append text rest in grind (arith, nat_tests) in
      let named : is_name text ≡ true = rw s.text_is s.named in
      rw (front, plain, enough, front, named, drop_at text rest len long, s.text_is) refl

  text_short : (bytes : List ℕ) → IsBytes bytes → text_at len bytes ≡ Err Short → Begun (TextOf len) bytes
  unfolding text_at
  text_short bytes fits e = go (from_foreign (take len bytes)) refl e
    where
      long : from_foreign (take len bytes) ≡ [] → (b : Bool) → nat_lt (length bytes) len ≡ b → (named : Bool) → or_name b named bytes ≡ Err Short → Begun (TextOf len) bytes
      long none true is named same =
          let below : length bytes < len = grind (arith, nat_tests) in
          let whole : take len bytes ≡ bytes = take_all len bytes (omega arith) in
          text_begun bytes (none_foreign bytes (ap from_foreign (sym whole) ∙ none)) below
      long none false is true same = absurd cc
      long none false is false same = absurd cc

      go : (foreign : List ℕ) → from_foreign (take len bytes) ≡ foreign → text_from len bytes foreign ≡ Err Short → Begun (TextOf len) bytes
      go [] is same = long is (nat_lt (length bytes) len) refl (is_name (take len bytes)) same
      go (b ∷ foreign) is same = absurd cc

  text_bad : (bytes : List ℕ) (left : ℕ) → IsBytes bytes → text_at len bytes ≡ Err (Bad left) → Refuses (TextOf len) bytes left
  unfolding text_at
  text_bad bytes left fits e = go (from_foreign (take len bytes)) refl e
    where
      -- a foreign byte
      foreign_byte : (b : ℕ) (foreign : List ℕ) → Foreign (take len bytes) b foreign → suc (length foreign) + (length bytes - len) ≡ left → Refuses (TextOf len) bytes left
      foreign_byte b foreign f is =
          let whole : bytes ≡ f.before ++ b ∷ (foreign ++ drop len bytes) = sym (take-append-drop len bytes) ∙ ap (λ (t : List ℕ). t ++ drop len bytes) f.parts ∙ append_assoc f.before (b ∷ foreign) (drop len bytes) in
          let parts = ap length f.parts ∙ length-append f.before (b ∷ foreign) in
          let taken = length-take len bytes in
          record {
            front = f.before;
            byte = b;
            rest = foreign ++ drop len bytes;
            parts = whole;
            left_is = sym is ∙ omega (arith, length-append foreign (drop len bytes), length-drop len bytes);
            begun = text_begun f.before f.plain (omega arith);
            never = λ more name s.
                let plain : list_all is_name_byte (f.before ++ b ∷ more) ≡ true = rw s.text_is (name_plain name s.named) in
                let on : is_name_byte b ≡ true = and_first (is_name_byte b) _ (plain_back f.before (b ∷ more) plain) in
                let off = f.off in
                cc;
          }

      -- bytes that all may stand in a name, and are none
      no_name : from_foreign (take len bytes) ≡ [] → len ≤ length bytes → is_name (take len bytes) ≡ false → length bytes - (len - 1) ≡ left → Refuses (TextOf len) bytes left
      no_name none enough off is =
          let at : bytes ≡ take (len - 1) bytes ++ drop (len - 1) bytes = sym (take-append-drop (len - 1) bytes) in
          let next : drop (len - 1) bytes ≡ get_or bytes (len - 1) 0 ∷ drop (suc (len - 1)) bytes = drop-cons bytes (len - 1) 0 (omega arith) in
          let last : suc (len - 1) ≡ len = omega arith in
          let plain : list_all is_name_byte (take len bytes) ≡ true = none_foreign (take len bytes) none in
          let one_more : take len bytes ≡ take (len - 1) bytes ++ get_or bytes (len - 1) 0 ∷ [] = ap (λ (k : ℕ). take k bytes) (sym last) ∙ take-suc bytes (len - 1) 0 (omega arith) in
          let before : list_all is_name_byte (take (len - 1) bytes) ≡ true = plain_front (take (len - 1) bytes) _ (subst (λ (t : List ℕ). list_all is_name_byte t ≡ true) one_more plain) in
          let short : length (take (len - 1) bytes) ≡ len - 1 = omega (arith, length-take (len - 1) bytes) in
          record {
            front = take (len - 1) bytes;
            byte = get_or bytes (len - 1) 0;
            rest = drop len bytes;
            parts = at ∙ ap (λ (t : List ℕ). take (len - 1) bytes ++ t) next ∙ ap (λ (k : ℕ). take (len - 1) bytes ++ get_or bytes (len - 1) 0 ∷ drop k bytes) last;
            left_is = sym is ∙ omega (arith, length-drop len bytes);
            begun = text_begun (take (len - 1) bytes) before (omega arith);
            never = λ more name s.
                let size : length (take (len - 1) bytes ++ get_or bytes (len - 1) 0 ∷ more) ≡ len = ap length s.text_is ∙ s.long in
                let nothing : more ≡ [] = nil_from_length more (omega (arith, length-append (take (len - 1) bytes) (get_or bytes (len - 1) 0 ∷ more))) in
                let same : take len bytes ≡ name = one_more ∙ ap (λ (t : List ℕ). take (len - 1) bytes ++ get_or bytes (len - 1) 0 ∷ t) (sym nothing) ∙ s.text_is in
                let on : is_name (take len bytes) ≡ true = ap is_name same ∙ s.named in
                cc;
          }

      enough_of : nat_lt (length bytes) len ≡ false → len ≤ length bytes
      enough_of is = grind (arith, nat_tests)

      left_of : (a : ℕ) → failed {A = List ℕ × List ℕ} (Bad a) ≡ Err (Bad left) → a ≡ left
      left_of a same = cc

      long : from_foreign (take len bytes) ≡ [] → (b : Bool) → nat_lt (length bytes) len ≡ b → (named : Bool) → is_name (take len bytes) ≡ named → or_name b named bytes ≡ Err (Bad left) → Refuses (TextOf len) bytes left
      long none true is named n same = absurd cc
      long none false is true n same = absurd cc
      long none false is false n same = no_name none (enough_of is) n (left_of _ same)

      go : (foreign : List ℕ) → from_foreign (take len bytes) ≡ foreign → text_from len bytes foreign ≡ Err (Bad left) → Refuses (TextOf len) bytes left
      go [] is same = long is (nat_lt (length bytes) len) refl (is_name (take len bytes)) refl same
      go (b ∷ foreign) is same = foreign_byte b foreign (foreign_splits (take len bytes) b foreign is) (left_of _ same)

  text_reads : Follows (TextOf len) (text_at len)
  text_reads =
      let begun = text_begun [] refl (omega arith) in
      record { decodes = record { found = text_found; again = text_again; short = text_short; bad = text_bad }; text = begun.more; value = begun.value; spelled = begun.spelled }

-- the ways in which reading a name of so many bytes ends
pub front_of : (len n : ℕ) (bytes : List ℕ) → n ≡ min len (length bytes) → take n bytes ≡ take len bytes
front_of len n bytes is = elim (cases_lt (length bytes) len) [
  | inl below ↦ let all : n ≡ length bytes = omega arith in rw all (take_all (length bytes) bytes (omega arith) ∙ sym (take_all len bytes (omega arith)))
  | inr within ↦ let all : n ≡ len = omega arith in rw all refl
]

pub text_foreign : (len left behind : ℕ) (bytes : List ℕ) → length (from_foreign (take len bytes)) ≡ left → 0 < left → behind ≡ length bytes - len → text_at len bytes ≡ Err (Bad (left + behind))
unfolding text_at
text_foreign len left behind bytes long some is = go (from_foreign (take len bytes)) long
  where
    go : (foreign : List ℕ) → length foreign ≡ left → text_from len bytes foreign ≡ Err (Bad (left + behind))
    go [] none = absurd (omega arith)
    go (b ∷ foreign) same = ap (λ (n : ℕ). failed {A = List ℕ × List ℕ} (Bad n)) (omega arith)

pub text_cut : (len : ℕ) (bytes : List ℕ) → from_foreign (take len bytes) ≡ [] → length bytes < len → text_at len bytes ≡ Err Short
unfolding text_at
text_cut len bytes none below = let cut : nat_lt (length bytes) len ≡ true = grind (arith, nat_tests) in rw (none, cut) refl

pub text_named : (len : ℕ) (bytes : List ℕ) → from_foreign (take len bytes) ≡ [] → len ≤ length bytes → is_name (take len bytes) ≡ true → text_at len bytes ≡ Ok (take len bytes, drop len bytes)
unfolding text_at
text_named len bytes none within named = let whole : nat_lt (length bytes) len ≡ false = grind (arith, nat_tests) in rw (none, whole, named) refl

pub text_unnamed : (len : ℕ) (bytes : List ℕ) → from_foreign (take len bytes) ≡ [] → len ≤ length bytes → is_name (take len bytes) ≡ false → text_at len bytes ≡ Err (Bad (length bytes - (len - 1)))
unfolding text_at
text_unnamed len bytes none within named = let whole : nat_lt (length bytes) len ≡ false = grind (arith, nat_tests) in rw (none, whole, named) refl

-- a name: its length in one byte, and its bytes
pub record NameOf (text name : List ℕ) : Type 0 where
  pub text_is : text ≡ length name ∷ name
  pub named : IsTrue (is_name name)

pub name_short : (name : List ℕ) → IsTrue (is_name name) → (1 ≤ length name) × (length name ≤ 255)
name_short name named =
    let sizes = and_first (nat_le 1 (length name) && nat_le (length name) 255) (not (is_dots name)) (and_first (nat_le 1 (length name) && nat_le (length name) 255 && not (is_dots name)) (list_all is_name_byte name) named) in
    let low = and_first (nat_le 1 (length name)) (nat_le (length name) 255) sizes in
    let high = and_second (nat_le 1 (length name)) (nat_le (length name) 255) sizes in
    let some : 1 ≤ length name = grind (arith, nat_tests) in
    let few : length name ≤ 255 = grind (arith, nat_tests) in
    (some, few)

pub name_reads : Follows NameOf name_at
unfolding name_at
name_reads =
    let a : List ℕ = 97 ∷ [] in
    record {
      decodes = same_grammar
          (λ text name s.
          let one : s.value % 256 ≡ s.value = let high = s.first.high in omega arith in
          record { text_is = s.parts ∙ ap (λ (t : List ℕ). t ++ s.back) s.first.text_is ∙ ap (λ (t : List ℕ). s.value % 256 ∷ t) s.second.text_is ∙ ap (λ (n : ℕ). n ∷ name) (one ∙ sym s.second.long); named = s.second.named })
          (λ text name s.
          let sizes = name_short name s.named in
          let one : length name % 256 ≡ length name = let few = sizes.1 in omega arith in
          record { front = length name ∷ []; back = name; value = length name; parts = s.text_is; first = record { low = sizes.0; high = sizes.1; text_is = ap (λ (n : ℕ). n ∷ []) (sym one) }; second = record { text_is = refl; long = refl; named = s.named } })
          (in_turn (number_reads 1 255 (lit≤ tt) 1 (lit< tt)).decodes (λ text len s. text_reads len s.low s.high));
      text = 1 ∷ a;
      value = a;
      spelled = record { text_is = refl; named = refl };
    }
