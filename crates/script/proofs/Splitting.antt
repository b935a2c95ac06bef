-- The words of a line, as a reader takes them off its front.
use Rattle.std.proofs.Common.{◌≡◌, ◌∙◌, sym, ap, subst, refl, ℕ, ◌-◌, ◌≤◌, suc, List, [], ◌∷◌, ◌++◌, length, take, drop, Bool, true, false, not, cond, arith, Some, None, MatchOption}
use Rattle.std.specs.List.{take_while}
use Rattle.std.proofs.Math.Seq.{take-append_seam, drop-append_seam, take-length, drop-length}
use Rattle.std.specs.Prelude.{◌==◌}
use Rattle.std.proofs.lemmas.Bool.{eqb-true, eqb-false, and_parts, not-true}
use Rattle.std.proofs.lemmas.List.{take_rest}
use Rattle.std.proofs.lemmas.List.Sums.{take_while-cons}
use Rattle.script.specs.Words.{is_blank, blanks, letters, trimmed, front_word, whole_text, word_at, rest_at, ends_word, onto_first, words_of}
use Rattle.script.specs.Text.{are_letters, is_word, begins_word}

abbrev is_letter : ℕ → Bool
is_letter byte = not (is_blank byte)

-- how many pass at the front
count_stop : (p : ℕ → Bool) (byte : ℕ) (bytes : List ℕ) → p byte ≡ false → length (take_while p (byte ∷ bytes)) ≡ 0
count_stop p byte bytes fails = ap length (take_while-cons p byte bytes ∙ ap (λ t. cond t (byte ∷ take_while p bytes) []) fails)

count_more : (p : ℕ → Bool) (byte : ℕ) (bytes : List ℕ) → p byte ≡ true → length (take_while p (byte ∷ bytes)) ≡ suc (length (take_while p bytes))
count_more p byte bytes passes = ap length (take_while-cons p byte bytes ∙ ap (λ t. cond t (byte ∷ take_while p bytes) []) passes)

pub count_within : (p : ℕ → Bool) (bytes : List ℕ) → length (take_while p bytes) ≤ length bytes
count_within p [] = omega arith
count_within p (byte ∷ bytes) = by (p byte) refl (count_within p bytes)
  where
    by : (t : Bool) → p byte ≡ t → length (take_while p bytes) ≤ length bytes → length (take_while p (byte ∷ bytes)) ≤ suc (length bytes)
    by true is within = omega (arith, count_more p byte bytes is, within)
    by false is within = omega (arith, count_stop p byte bytes is)

pub words-blank : (byte : ℕ) (bytes : List ℕ) → is_blank byte ≡ true → words_of (byte ∷ bytes) ≡ words_of bytes
unfolding words_of
words-blank byte bytes blank = ap (λ t. cond t (words_of bytes) (cond (ends_word bytes) ((byte ∷ []) ∷ words_of bytes) (onto_first byte (words_of bytes)))) blank

pub words-plain : (byte : ℕ) (bytes : List ℕ) → is_blank byte ≡ false → words_of (byte ∷ bytes) ≡ cond (ends_word bytes) ((byte ∷ []) ∷ words_of bytes) (onto_first byte (words_of bytes))
unfolding words_of
words-plain byte bytes plain = ap (λ t. cond t (words_of bytes) (cond (ends_word bytes) ((byte ∷ []) ∷ words_of bytes) (onto_first byte (words_of bytes)))) plain

pub words-last : (byte : ℕ) (bytes : List ℕ) → is_blank byte ≡ false → ends_word bytes ≡ true → words_of (byte ∷ bytes) ≡ (byte ∷ []) ∷ words_of bytes
words-last byte bytes plain last = words-plain byte bytes plain ∙ ap (λ t. cond t ((byte ∷ []) ∷ words_of bytes) (onto_first byte (words_of bytes))) last

pub words-more : (byte : ℕ) (bytes : List ℕ) → is_blank byte ≡ false → ends_word bytes ≡ false → words_of (byte ∷ bytes) ≡ onto_first byte (words_of bytes)
words-more byte bytes plain more = words-plain byte bytes plain ∙ ap (λ t. cond t ((byte ∷ []) ∷ words_of bytes) (onto_first byte (words_of bytes))) more

-- the first word of bytes that begin with it
abbrev SplitsAt : List ℕ → ℕ → Type 0
SplitsAt bytes n = words_of bytes ≡ take n bytes ∷ words_of (drop n bytes)

letter : (byte : ℕ) → is_blank byte ≡ false → is_letter byte ≡ true
letter byte plain = ap not plain

no_letter : (byte : ℕ) → is_blank byte ≡ true → is_letter byte ≡ false
no_letter byte blank = ap not blank

word_front : (byte : ℕ) (bytes : List ℕ) → is_blank byte ≡ false → SplitsAt (byte ∷ bytes) (letters (byte ∷ bytes))
word_front byte [] plain = subst (SplitsAt (byte ∷ [])) (sym (count_more is_letter byte [] (letter byte plain))) (words-last byte [] plain refl)
word_front byte (next ∷ bytes) plain = by (is_blank next) refl (word_front next bytes)
  where
    by : (t : Bool) → is_blank next ≡ t → (is_blank next ≡ false → SplitsAt (next ∷ bytes) (letters (next ∷ bytes))) → SplitsAt (byte ∷ next ∷ bytes) (letters (byte ∷ next ∷ bytes))
    by true is later = subst (SplitsAt (byte ∷ next ∷ bytes)) (sym (count_more is_letter byte (next ∷ bytes) (letter byte plain) ∙ ap suc (count_stop is_letter next bytes (no_letter next is)))) (words-last byte (next ∷ bytes) plain is)
    by false is later = subst (SplitsAt (byte ∷ next ∷ bytes)) (sym (count_more is_letter byte (next ∷ bytes) (letter byte plain))) (words-more byte (next ∷ bytes) plain is ∙ ap (onto_first byte) (later is))

abbrev dropped : ℕ → List ℕ → ℕ → List ℕ
dropped byte bytes n = drop n (byte ∷ bytes)

pub no_word : (bytes : List ℕ) → length (trimmed bytes) ≡ 0 → words_of bytes ≡ []
unfolding words_of
no_word [] none = refl
no_word (byte ∷ bytes) none = by (is_blank byte) refl (no_word bytes)
  where
    by : (t : Bool) → is_blank byte ≡ t → (length (trimmed bytes) ≡ 0 → words_of bytes ≡ []) → words_of (byte ∷ bytes) ≡ []
    by true is later = words-blank byte bytes is ∙ later (ap (λ n. length (dropped byte bytes n)) (sym (count_more is_blank byte bytes is)) ∙ none)
    by false is later = absurd (let e : suc (length bytes) ≡ 0 = ap (λ n. length (dropped byte bytes n)) (sym (count_stop is_blank byte bytes is)) ∙ none in omega (arith, e))

pub some_word : (bytes : List ℕ) → (length (trimmed bytes) ≡ 0 → ⊥) → words_of bytes ≡ take (letters (trimmed bytes)) (trimmed bytes) ∷ words_of (drop (letters (trimmed bytes)) (trimmed bytes))
some_word [] some = absurd (some refl)
some_word (byte ∷ bytes) some = by (is_blank byte) refl (some_word bytes)
  where
    by : (t : Bool) → is_blank byte ≡ t → ((length (trimmed bytes) ≡ 0 → ⊥) → words_of bytes ≡ take (letters (trimmed bytes)) (trimmed bytes) ∷ words_of (drop (letters (trimmed bytes)) (trimmed bytes))) → words_of (byte ∷ bytes) ≡ take (letters (trimmed (byte ∷ bytes))) (trimmed (byte ∷ bytes)) ∷ words_of (drop (letters (trimmed (byte ∷ bytes))) (trimmed (byte ∷ bytes)))
    by true is later =
        let P : ℕ → Type 0 = λ n. words_of (byte ∷ bytes) ≡ take (letters (dropped byte bytes n)) (dropped byte bytes n) ∷ words_of (drop (letters (dropped byte bytes n)) (dropped byte bytes n)) in
        subst P (sym (count_more is_blank byte bytes is)) (words-blank byte bytes is ∙ later (λ none. some (ap (λ n. length (dropped byte bytes n)) (count_more is_blank byte bytes is) ∙ none)))
    by false is later =
        let P : ℕ → Type 0 = λ n. words_of (byte ∷ bytes) ≡ take (letters (dropped byte bytes n)) (dropped byte bytes n) ∷ words_of (drop (letters (dropped byte bytes n)) (dropped byte bytes n)) in
        subst P (sym (count_stop is_blank byte bytes is)) (word_front byte bytes is)

-- What the code does: n blanks are passed over, and m bytes behind them are taken

abbrev behind : List ℕ → ℕ → List ℕ
behind bytes n = take (length bytes - n) (drop n bytes)

behind-trimmed : (bytes : List ℕ) (n : ℕ) → n ≡ blanks bytes → behind bytes n ≡ trimmed bytes
behind-trimmed bytes n is = take_rest bytes n ∙ ap (λ k. drop k bytes) is

front_none : (text : List ℕ) → length text ≡ 0 → front_word text ≡ None
front_none [] none = refl
front_none (byte ∷ text) none = absurd (omega (arith, none))

front_some : (text : List ℕ) → (length text ≡ 0 → ⊥) → front_word text ≡ Some (take (letters text) text, drop (letters text) text)
front_some [] some = absurd (some refl)
front_some (byte ∷ text) some = refl

whole_none : (text : List ℕ) → length text ≡ 0 → whole_text text ≡ None
whole_none [] none = refl
whole_none (byte ∷ text) none = absurd (omega (arith, none))

whole_some : (text : List ℕ) → (length text ≡ 0 → ⊥) → whole_text text ≡ Some (take (length text) text, drop (length text) text)
whole_some [] some = absurd (some refl)
whole_some (byte ∷ text) some = let t : List ℕ = byte ∷ text in (λ i. Some (sym (take-length t) i, sym (drop-length t) i))

-- nothing is left behind n blanks
none_behind : (bytes : List ℕ) (n : ℕ) (t : Bool) → n ≡ blanks bytes → t ≡ (length (behind bytes n) == 0) → t ≡ true → length (trimmed bytes) ≡ 0
none_behind bytes n t is test empty = ap length (sym (behind-trimmed bytes n is)) ∙ eqb-true (length (behind bytes n)) 0 (sym test ∙ empty)

some_behind : (bytes : List ℕ) (n : ℕ) (t : Bool) → n ≡ blanks bytes → t ≡ (length (behind bytes n) == 0) → t ≡ false → length (trimmed bytes) ≡ 0 → ⊥
some_behind bytes n t is test some none = eqb-false (length (behind bytes n)) 0 (sym test ∙ some) (ap length (behind-trimmed bytes n is) ∙ none)

pub none_left : (bytes : List ℕ) (n : ℕ) (t : Bool) → n ≡ blanks bytes → t ≡ (length (behind bytes n) == 0) → t ≡ true → word_at bytes ≡ None
unfolding word_at
none_left bytes n t is test empty = front_none (trimmed bytes) (none_behind bytes n t is test empty)

pub one_taken : (bytes word rest : List ℕ) (n m : ℕ) (t : Bool) → n ≡ blanks bytes → t ≡ (length (behind bytes n) == 0) → t ≡ false → m ≡ letters (behind bytes n) → word ≡ take m (behind bytes n) → rest ≡ drop m (behind bytes n) → word_at bytes ≡ Some (word, rest)
unfolding word_at
one_taken bytes word rest n m t is test some count front back =
    let start = behind-trimmed bytes n is in
    let counted : m ≡ letters (trimmed bytes) = count ∙ ap letters start in
    let first : take (letters (trimmed bytes)) (trimmed bytes) ≡ word = sym (front ∙ (λ i. take (counted i) (start i))) in
    let second : drop (letters (trimmed bytes)) (trimmed bytes) ≡ rest = sym (back ∙ (λ i. drop (counted i) (start i))) in
    front_some (trimmed bytes) (some_behind bytes n t is test some) ∙ (λ i. Some (first i, second i))

pub no_rest : (bytes : List ℕ) (n : ℕ) (t : Bool) → n ≡ blanks bytes → t ≡ (length (behind bytes n) == 0) → t ≡ true → rest_at bytes ≡ None
unfolding rest_at
no_rest bytes n t is test empty = whole_none (trimmed bytes) (none_behind bytes n t is test empty)

pub rest_taken : (bytes word rest : List ℕ) (n : ℕ) (t : Bool) → n ≡ blanks bytes → t ≡ (length (behind bytes n) == 0) → t ≡ false → word ≡ take (length (behind bytes n)) (behind bytes n) → rest ≡ drop (length (behind bytes n)) (behind bytes n) → rest_at bytes ≡ Some (word, rest)
unfolding rest_at
rest_taken bytes word rest n t is test some front back =
    let start = behind-trimmed bytes n is in
    let first : take (length (trimmed bytes)) (trimmed bytes) ≡ word = sym (front ∙ (λ i. take (length (start i)) (start i))) in
    let second : drop (length (trimmed bytes)) (trimmed bytes) ≡ rest = sym (back ∙ (λ i. drop (length (start i)) (start i))) in
    whole_some (trimmed bytes) (some_behind bytes n t is test some) ∙ (λ i. Some (first i, second i))

-- ---- the words one after another are all words

front_words : (bytes text : List ℕ) → trimmed bytes ≡ text → MatchOption (front_word text) (words_of bytes ≡ []) (λ piece. words_of bytes ≡ piece.0 ∷ words_of piece.1)
front_words bytes [] is = no_word bytes (ap length is)
front_words bytes (byte ∷ text) is = subst (λ t. words_of bytes ≡ take (letters t) t ∷ words_of (drop (letters t) t)) is (some_word bytes (λ none. omega (arith, ap length is, none)))

pub first_words : (bytes : List ℕ) → MatchOption (word_at bytes) (words_of bytes ≡ []) (λ piece. words_of bytes ≡ piece.0 ∷ words_of piece.1)
unfolding word_at
first_words bytes = front_words bytes (trimmed bytes) refl

-- ---- the first word of bytes that were put together

trimmed-blank : (byte : ℕ) (bytes : List ℕ) → is_blank byte ≡ true → trimmed (byte ∷ bytes) ≡ trimmed bytes
trimmed-blank byte bytes blank = ap (λ n. drop n (byte ∷ bytes)) (count_more is_blank byte bytes blank)

trimmed-plain : (byte : ℕ) (bytes : List ℕ) → is_blank byte ≡ false → trimmed (byte ∷ bytes) ≡ byte ∷ bytes
trimmed-plain byte bytes plain = ap (λ n. drop n (byte ∷ bytes)) (count_stop is_blank byte bytes plain)

pub word-blank : (byte : ℕ) (bytes : List ℕ) → is_blank byte ≡ true → word_at (byte ∷ bytes) ≡ word_at bytes
unfolding word_at
word-blank byte bytes blank = ap front_word (trimmed-blank byte bytes blank)

pub rest-blank : (byte : ℕ) (bytes : List ℕ) → is_blank byte ≡ true → rest_at (byte ∷ bytes) ≡ rest_at bytes
unfolding rest_at
rest-blank byte bytes blank = ap whole_text (trimmed-blank byte bytes blank)

-- a first word begins with the byte in front
pub word-plain : (byte : ℕ) (bytes : List ℕ) → is_blank byte ≡ false → word_at (byte ∷ bytes) ≡ Some (byte ∷ take (letters bytes) bytes, drop (letters bytes) bytes)
unfolding word_at
word-plain byte bytes plain = ap front_word (trimmed-plain byte bytes plain) ∙ ap (λ n. Some (take n (byte ∷ bytes), drop n (byte ∷ bytes))) (count_more is_letter byte bytes (letter byte plain))

letters-none : (rest : List ℕ) → ends_word rest ≡ true → letters rest ≡ 0
letters-none [] ends = refl
letters-none (byte ∷ rest) ends = count_stop is_letter byte rest (no_letter byte ends)

letters-append : (word rest : List ℕ) → are_letters word ≡ true → ends_word rest ≡ true → letters (word ++ rest) ≡ length word
letters-append [] rest all ends = letters-none rest ends
letters-append (byte ∷ word) rest all ends =
    let both = and_parts (not (is_blank byte)) (are_letters word) all in
    count_more is_letter byte (word ++ rest) both.0 ∙ ap suc (letters-append word rest both.1 ends)

pub word-append : (word rest : List ℕ) → is_word word ≡ true → ends_word rest ≡ true → word_at (word ++ rest) ≡ Some (word, rest)
word-append [] rest all ends = absurd cc
word-append (byte ∷ word) rest all ends =
    let both = and_parts (not (is_blank byte)) (are_letters word) all in
    let count = letters-append word rest both.1 ends in
    word-plain byte (word ++ rest) (not-true (is_blank byte) both.0)
    ∙ ap (λ n. Some (byte ∷ take n (word ++ rest), drop n (word ++ rest))) count
    ∙ (λ i. Some (byte ∷ take-append_seam word rest i, drop-append_seam word rest i))

pub rest-text : (text : List ℕ) → begins_word text ≡ true → rest_at text ≡ Some (text, [])
unfolding rest_at
rest-text [] begins = absurd cc
rest-text (byte ∷ text) begins = ap whole_text (trimmed-plain byte text (not-true (is_blank byte) begins))

pub word-none : word_at [] ≡ None
unfolding word_at
word-none = refl
