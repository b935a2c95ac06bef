-- The words of the command line: `solo`, and options in any order, each at most once.
use Rattle.std.specs.Prelude.{◌≡◌, ℕ, List, ◌∷◌, codes}
use Rattle.std.specs.List.{fold}
use Rattle.mds_base.specs.declared.setup.Setup.{Setup}
use Rattle.mds_cli.specs.declared.words.Choice.{Choice}
use Rattle.mds_cli.specs.Choices.{AreChoices, AreApart, chosen}

-- the setup without options: 1 server and 8 clients; nothing splits yet, and nothing is leased
abbrev pub usual : Setup
usual = record { servers = 1; threshold = 8000; lease = 0; clients = 8 }

-- the options are choices, no two of one option, and with their numbers the usual setup is this one
pub record AreOptions (options : List (List ℕ)) (setup : Setup) : Type 0 where
  pub choices : List Choice
  pub are : AreChoices choices options
  pub apart : AreApart choices
  pub is : setup ≡ fold chosen usual choices

-- the words ask for this setup
pub record AsksFor (words : List (List ℕ)) (setup : Setup) : Type 0 where
  pub options : List (List ℕ)
  pub solo : words ≡ codes "solo" ∷ options
  pub given : AreOptions options setup
