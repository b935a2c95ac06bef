-- How a name is spelled: byte by byte, each as itself or as an escape.
use Rattle.std.specs.Prelude.{◌≡◌, ◌≢◌, ◌⊎◌, ℕ, ◌+◌, ◌*◌, ◌<◌, List, [], ◌∷◌, ◌++◌}
use Rattle.std.specs.Char.{digit_value}

-- the two characters are hexadecimal digits, of either case, of the byte
pub record IsHexOf (high low byte : ℕ) : Type 0 where
  pub high_digit : digit_value high < 16
  pub low_digit : digit_value low < 16
  pub value : byte ≡ 16 * digit_value high + digit_value low

-- the text spells the byte: it is that byte, which is no `%`, or `%` and its two digits
abbrev pub SpellsByte : List ℕ → ℕ → Type 0
SpellsByte text byte = ((text ≡ byte ∷ []) × (byte ≢ 37))
    ⊎ ((high : ℕ) × (low : ℕ) × (text ≡ 37 ∷ high ∷ low ∷ []) × IsHexOf high low byte)

-- the text spells the bytes, one after another
abbrev pub SpellsName : List ℕ → List ℕ → Type 0
SpellsName text [] = text ≡ []
SpellsName text (byte ∷ bytes) =
    (front : List ℕ) × (rest : List ℕ) × (text ≡ front ++ rest) × SpellsByte front byte × SpellsName rest bytes
