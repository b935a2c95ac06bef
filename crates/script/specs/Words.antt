-- The words of a line: what stands between its blanks.
use Rattle.std.specs.Prelude.{ℕ, List, [], ◌∷◌, Option, Some, None, Bool, true, not, ◌==◌, ◌||◌, if◌then◌else◌, length}
use Rattle.std.specs.Prelude.{take, drop}
use Rattle.std.specs.List.{take_while}

-- a space or a tab
abbrev pub is_blank : ℕ → Bool
is_blank byte = byte == 32 || byte == 9

-- how many blanks stand in front, and how many bytes of a word
abbrev pub blanks : List ℕ → ℕ
blanks bytes = length (take_while is_blank bytes)

abbrev pub letters : List ℕ → ℕ
letters bytes = length (take_while (λ byte. not (is_blank byte)) bytes)

-- the bytes without the blanks in front of them
abbrev pub trimmed : List ℕ → List ℕ
trimmed bytes = drop (blanks bytes) bytes

-- the word with which a text begins and what is behind it, where there is a text
abbrev pub front_word : List ℕ → Option (List ℕ × List ℕ)
front_word [] = None
front_word (byte ∷ bytes) =
    Some (take (letters (byte ∷ bytes)) (byte ∷ bytes), drop (letters (byte ∷ bytes)) (byte ∷ bytes))

-- a whole text, where there is one
abbrev pub whole_text : List ℕ → Option (List ℕ × List ℕ)
whole_text [] = None
whole_text (byte ∷ bytes) = Some (byte ∷ bytes, [])

-- the first word and what is behind it
unfoldable pub word_at : List ℕ → Option (List ℕ × List ℕ)
word_at bytes = front_word (trimmed bytes)

-- all from the first word on, behind which there is nothing
unfoldable pub rest_at : List ℕ → Option (List ℕ × List ℕ)
rest_at bytes = whole_text (trimmed bytes)

-- whether a word ends before these bytes
abbrev pub ends_word : List ℕ → Bool
ends_word [] = true
ends_word (byte ∷ bytes) = is_blank byte

-- a byte in front of the first word
abbrev pub onto_first : ℕ → List (List ℕ) → List (List ℕ)
onto_first byte [] = (byte ∷ []) ∷ []
onto_first byte (word ∷ words) = (byte ∷ word) ∷ words

-- a byte in front of bytes that have these words, whether or not it ends a word
abbrev pub with_byte : ℕ → Bool → List (List ℕ) → List (List ℕ)
with_byte byte is_last words =
    if is_blank byte then words else if is_last then (byte ∷ []) ∷ words else onto_first byte words

-- the words, in their order
unfoldable pub words_of : List ℕ → List (List ℕ)
words_of [] = []
words_of (byte ∷ bytes) = with_byte byte (ends_word bytes) (words_of bytes)
