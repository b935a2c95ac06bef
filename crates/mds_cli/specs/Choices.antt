-- Options of the command line, each with its number: how words say one, and the setup that they give.
use Rattle.std.specs.Prelude.{◌≡◌, ◌⊎◌, ℕ, ◌≤◌, ◌==◌, false, List, [], ◌∷◌, ◌++◌, codes, decimal}
use Rattle.std.specs.List.{list_any}
use Rattle.mds_base.specs.declared.setup.Setup.{Setup}
use Rattle.mds_cli.specs.declared.words.Choice.{Choice}
use Rattle.mds_cli.specs.declared.words.Choice.TheVariants.{Servers, Clients}

-- the text is this number, from 1 to the most that it may be
pub record IsNumber (most value : ℕ) (text : List ℕ) : Type 0 where
  pub is : text ≡ decimal value
  pub some : 1 ≤ value
  pub few : value ≤ most

-- the words are an option of this name, whose value has this text, as two words or as one, and the rest
abbrev pub Names : List ℕ → List ℕ → List (List ℕ) → List (List ℕ) → Type 0
Names name text words rest = (words ≡ name ∷ text ∷ rest) ⊎ (words ≡ (name ++ codes "=" ++ text) ∷ rest)

-- the words are an option of this name and number, and the rest
pub record Gives (name : List ℕ) (most value : ℕ) (words rest : List (List ℕ)) : Type 0 where
  pub names : Names name (decimal value) words rest
  pub some : 1 ≤ value
  pub few : value ≤ most

-- the words are this choice, the number of servers, from 1 to 32, or that of clients, from 1 to 64, and the rest
abbrev pub Chooses : Choice → List (List ℕ) → List (List ℕ) → Type 0
Chooses (Servers value) words rest = Gives (codes "--servers") 32 value words rest
Chooses (Clients value) words rest = Gives (codes "--clients") 64 value words rest

-- which option it is
abbrev pub option_of : Choice → ℕ
option_of (Servers value) = 0
option_of (Clients value) = 1

-- the setup with this number
abbrev pub chosen : Setup → Choice → Setup
chosen setup (Servers value) = record setup { servers = value }
chosen setup (Clients value) = record setup { clients = value }

-- the words are these choices, one after another
abbrev pub AreChoices : List Choice → List (List ℕ) → Type 0
AreChoices [] words = words ≡ []
AreChoices (choice ∷ more) words = (rest : List (List ℕ)) × Chooses choice words rest × AreChoices more rest

-- no two of them are of one option
abbrev pub AreApart : List Choice → Type 0
AreApart [] = Unit {0}
AreApart (choice ∷ more) = (list_any (λ other. option_of other == option_of choice) more ≡ false) × AreApart more
