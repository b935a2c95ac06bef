-- The bytes by which a place is looked up: its directory's number as 8 bytes, the highest first, and then its name.
use Rattle.std.specs.Prelude.{◌≡◌, ℕ, List, ◌++◌, map, take, drop}
use Rattle.std.specs.Int.{w64, to_be_bytes, from_be_bytes}
use Rattle.std.specs.List.{AllByRecursion}
use Rattle.mds_base.specs.Entries.{Place}

abbrev pub key_of : Place → List ℕ
key_of place = to_be_bytes w64 place.0 ++ place.1

abbrev pub place_of : List ℕ → Place
place_of key = (from_be_bytes w64 (take 8 key), drop 8 key)

-- whether these bytes are those of a place
abbrev pub IsKey : List ℕ → Type 0
IsKey key = key_of (place_of key) ≡ key

module _ {K X : Type 0} (bytes : K → List ℕ) where
  -- entries by bytes, as entries by places
  abbrev pub by_places : List (K × X) → List (Place × X)
  by_places entries = map (λ e. (place_of (bytes e.0), e.1)) entries

  abbrev pub AreKeyed : List (K × X) → Type 0
  AreKeyed entries = AllByRecursion (λ e. IsKey (bytes e.0)) entries
