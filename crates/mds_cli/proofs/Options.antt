-- Options are one list of choices, no two of one option.
use Rattle.std.proofs.Common.{◌≡◌, ◌∙◌, sym, ap, subst, refl, ℕ, ◌<◌, List, [], ◌∷◌, length, arith, codes, map, Bool, true, false, not, nat_eq, Option, Some, None, lit≤}
use Rattle.std.specs.Prelude.{◌==◌, get_or, set, MatchOption}
use Rattle.std.specs.Cmp.Lexicographic.{pointwise}
use Rattle.std.specs.List.{list_any, fold}
use Rattle.std.proofs.lemmas.Bool.{true≢false, eqb-true, eqb-false, or_parts, or_from}
use Rattle.std.proofs.lemmas.List.{get_or-set_same, get_or-set_other, length-set}
use Rattle.std.proofs.lemmas.Slice.Eq.{bytes_eq-Decides}
use Rattle.mds_base.specs.declared.setup.Setup.{Setup}
use Rattle.mds_base.specs.Setups.{IsSetup}
use Rattle.mds_cli.specs.Choices.{Chooses, AreChoices, AreApart, chosen, option_of}
use Rattle.mds_cli.specs.Words.{AreOptions, AsksFor, usual}
use Rattle.mds_cli.specs.declared.words.Choice.{Choice}
use Rattle.mds_cli.specs.declared.words.Choice.TheVariants.{Servers, Clients}
use Rattle.mds_cli.proofs.OptionSpelling.{chooses_one, choice_shortens}

-- ---- words are one list of choices

some_choice : (choice : Choice) (words rest : List (List ℕ)) → words ≡ [] → Chooses choice words rest → ⊥
some_choice choice words rest none given = absurd (omega (arith, ap length none, choice_shortens choice words rest given))

choices_one : (choices choices' : List Choice) (words : List (List ℕ)) → AreChoices choices words → AreChoices choices' words → choices ≡ choices'
choices_one [] [] words are are' = refl
choices_one [] (choice ∷ choices) words none are = absurd (some_choice choice words are.0 none are.1)
choices_one (choice ∷ choices) [] words are none = absurd (some_choice choice words are.0 none are.1)
choices_one (choice ∷ choices) (choice' ∷ choices') words are are' =
    let one = chooses_one choice choice' words are.0 are'.0 are.1 are'.1 in
    let others = choices_one choices choices' are'.0 (subst (AreChoices choices) one.1 are.2) are'.2 in
    λ i. one.0 i ∷ others i

-- ---- options that were given before

-- none of these choices is of an option that was given
abbrev pub AreNew : List Bool → List Choice → Type 0
AreNew given [] = Unit {0}
AreNew given (choice ∷ more) = (get_or given (option_of choice) false ≡ false) × AreNew given more

none_given : (choices : List Choice) → AreNew (false ∷ false ∷ []) choices
none_given [] = tt
none_given (Servers value ∷ more) = (refl, none_given more)
none_given (Clients value ∷ more) = (refl, none_given more)

-- with one option more
module _ (given : List Bool) (option : ℕ) (within : option < length given) where
  still_new : (choices : List Choice) → list_any (λ other. option_of other == option) choices ≡ false → AreNew given choices → AreNew (set given option true) choices
  still_new [] apart new = tt
  still_new (choice ∷ more) apart new =
      let both = or_parts (option_of choice == option) (list_any (λ other. option_of other == option) more) apart in
      (get_or-set_other given option (option_of choice) true false (eqb-false (option_of choice) option both.0) ∙ new.0, still_new more both.1 new.1)

  other_option : (choice : Choice) → get_or (set given option true) (option_of choice) false ≡ false → (same : Bool) → (option_of choice == option) ≡ same → same ≡ false
  other_option choice new true is =
      absurd (true≢false (sym (ap (λ k. get_or (set given option true) k false) (eqb-true (option_of choice) option is) ∙ get_or-set_same given option true false within) ∙ new))
  other_option choice new false is = refl

  was_new : (choices : List Choice) → AreNew (set given option true) choices → (list_any (λ other. option_of other == option) choices ≡ false) × AreNew given choices
  was_new [] new = (refl, tt)
  was_new (choice ∷ more) new =
      let other : (option_of choice == option) ≡ false = other_option choice new.0 (option_of choice == option) refl in
      let later = was_new more new.1 in (
        or_from (option_of choice == option) (list_any (λ other. option_of other == option) more) other later.0,
        (sym (get_or-set_other given option (option_of choice) true false (eqb-false (option_of choice) option other)) ∙ new.0, later.1),
      )

-- ---- reading options, one after another

pub is_empty-map : {X Y : Type 0} (f : X → Y) (xs : List X) → true ≡ (length xs == 0) → map f xs ≡ []
is_empty-map f [] empty = refl
is_empty-map f (x ∷ xs) empty = absurd (omega (arith, eqb-true (length (x ∷ xs)) 0 (sym empty)))

pub not_empty-map : {X Y : Type 0} (f : X → Y) (xs : List X) → false ≡ (length xs == 0) → map f xs ≡ [] → ⊥
not_empty-map f [] some = absurd (true≢false (sym some))
not_empty-map f (x ∷ xs) some = λ none. cc

-- the rest are choices of other options than those given, and with their numbers this setup is that one
pub record Adds (given : List Bool) (setup : Setup) (rest : List (List ℕ)) (made : Setup) : Type 0 where
  pub choices : List Choice
  pub are : AreChoices choices rest
  pub apart : AreApart choices
  pub new : AreNew given choices
  pub is : made ≡ fold chosen setup choices

-- what the options give is what the rest adds
pub record Remains (options : List (List ℕ)) (given : List Bool) (setup : Setup) (rest : List (List ℕ)) : Type 0 where
  pub count : length given ≡ 2
  pub adds : (made : Setup) → AreOptions options made → Adds given setup rest made
  pub are : (made : Setup) → Adds given setup rest made → AreOptions options made

pub remains_all : (options : List (List ℕ)) → Remains options (false ∷ false ∷ []) usual options
remains_all options = record {
  count = refl;
  adds = λ made are. record { choices = are.choices; are = are.are; apart = are.apart; new = none_given are.choices; is = are.is };
  are = λ made adds. record { choices = adds.choices; are = adds.are; apart = adds.apart; is = adds.is };
}

module _ (options : List (List ℕ)) (given : List Bool) (setup : Setup) (rest : List (List ℕ)) (remains : Remains options given setup rest) where
  pub remains_none : rest ≡ [] → AreOptions options setup
  remains_none none = remains.are setup (record { choices = []; are = none; apart = tt; new = tt; is = refl })

  pub no_choice : (rest ≡ [] → ⊥) → ((choice : Choice) (behind : List (List ℕ)) → Chooses choice rest behind → ⊥) → (made : Setup) → AreOptions options made → ⊥
  no_choice some none made are = let adds = remains.adds made are in by adds.choices adds.are
    where
      by : (choices : List Choice) → AreChoices choices rest → ⊥
      by [] empty = some empty
      by (choice ∷ choices) are = none choice are.0 are.1

  -- the choice that the rest begins with is the first one that it adds
  module _ (choice : Choice) (behind : List (List ℕ)) (given_first : Chooses choice rest behind) where
    record AddsFirst (made : Setup) : Type 0 where
      new : get_or given (option_of choice) false ≡ false
      later : option_of choice < length given → Adds (set given (option_of choice) true) (chosen setup choice) behind made

    adds_first : (made : Setup) → Adds given setup rest made → AddsFirst made
    adds_first made adds = by adds.choices adds.are adds.apart adds.new adds.is
      where
        by : (choices : List Choice) → AreChoices choices rest → AreApart choices → AreNew given choices → made ≡ fold chosen setup choices → AddsFirst made
        by [] none apart new is = absurd (some_choice choice rest behind none given_first)
        by (first ∷ choices) are apart new is =
            let one = chooses_one first choice rest are.0 behind are.1 given_first in
            record {
              new = subst (λ c. get_or given (option_of c) false ≡ false) one.0 new.0;
              later = λ within. record {
                choices = choices;
                are = subst (AreChoices choices) one.1 are.2;
                apart = apart.1;
                new = still_new given (option_of choice) within choices (subst (λ c. list_any (λ other. option_of other == option_of c) choices ≡ false) one.0 apart.0) new.1;
                is = subst (λ c. made ≡ fold chosen (chosen setup c) choices) one.0 is;
              };
            }

    pub second_choice : get_or given (option_of choice) false ≡ true → (made : Setup) → AreOptions options made → ⊥
    second_choice second made are = true≢false (sym second ∙ (adds_first made (remains.adds made are)).new)

    pub remains_next : get_or given (option_of choice) false ≡ false → option_of choice < 2 → Remains options (set given (option_of choice) true) (chosen setup choice) behind
    remains_next first within = record {
      count = length-set given (option_of choice) true ∙ remains.count;
      adds = λ made are. (adds_first made (remains.adds made are)).later (omega (arith, within, remains.count));
      are = λ made adds.
          let new = was_new given (option_of choice) (omega (arith, within, remains.count)) adds.choices adds.new in
          remains.are made (record {
            choices = choice ∷ adds.choices;
            are = (behind, given_first, adds.are);
            apart = (new.0, adds.apart);
            new = (first, new.1);
            is = adds.is;
          });
    }

-- ---- what words ask for

-- words whose options give no setup ask for none
asks_none : (words options : List (List ℕ)) (command : List ℕ) → words ≡ command ∷ options → ((setup : Setup) → AreOptions options setup → ⊥) → (setup : Setup) → AsksFor words setup → ⊥
asks_none words options command are none setup asks =
    let both : codes "solo" ∷ asks.options ≡ command ∷ options = sym asks.solo ∙ are in
    let same : asks.options ≡ options = cc in
    none setup (subst (λ l. AreOptions l setup) same asks.given)

-- the word was compared with it
pub is_solo : (word text : List ℕ) → word ≡ text → false ≡ not (pointwise nat_eq word (codes "solo")) → text ≡ codes "solo"
is_solo word text is same = sym is ∙ (bytes_eq-Decides word (codes "solo")).0 (by (pointwise nat_eq word (codes "solo")) same)
  where
    by : (b : Bool) → false ≡ not b → b ≡ true
    by true other = refl
    by false other = absurd (true≢false (sym other))

pub asks_given : (words options : List (List ℕ)) (command : List ℕ) (made : Option Setup) → words ≡ command ∷ options → command ≡ codes "solo" → MatchOption made ((setup : Setup) → AreOptions options setup → ⊥) (λ setup. AreOptions options setup)
    → MatchOption made ((setup : Setup) → AsksFor words setup → ⊥) (λ setup. AsksFor words setup)
asks_given words options command None are solo none = asks_none words options command are none
asks_given words options command (Some setup) are solo given = record { options = options; solo = are ∙ ap (λ word. word ∷ options) solo; given = given }

-- words ask for one setup
pub asks_one : (words : List (List ℕ)) (a b : Setup) → AsksFor words a → AsksFor words b → a ≡ b
asks_one words a b asks asks' =
    let both : codes "solo" ∷ asks.options ≡ codes "solo" ∷ asks'.options = sym asks.solo ∙ asks'.solo in
    let options : asks.options ≡ asks'.options = cc in
    let given = asks.given in
    let given' = asks'.given in
    given.is ∙ ap (fold chosen usual) (choices_one given.choices given'.choices asks'.options (subst (AreChoices given.choices) options given.are) given'.are) ∙ sym given'.is

-- the setup's numbers are within their ranges
choice_setup : (choice : Choice) (words rest : List (List ℕ)) (setup : Setup) → Chooses choice words rest → IsSetup setup → IsSetup (chosen setup choice)
choice_setup (Servers value) words rest setup given is =
    record { some_server = given.some; few_servers = given.few; some_client = is.some_client; few_clients = is.few_clients; lease = is.lease; some_row = is.some_row; few_rows = is.few_rows }
choice_setup (Clients value) words rest setup given is =
    record { some_server = is.some_server; few_servers = is.few_servers; some_client = given.some; few_clients = given.few; lease = is.lease; some_row = is.some_row; few_rows = is.few_rows }

choices_setup : (choices : List Choice) (words : List (List ℕ)) (setup : Setup) → AreChoices choices words → IsSetup setup → IsSetup (fold chosen setup choices)
choices_setup [] words setup are is = is
choices_setup (choice ∷ choices) words setup are is = choices_setup choices are.0 (chosen setup choice) are.2 (choice_setup choice words are.0 setup are.1 is)

pub asks_setup : (words : List (List ℕ)) (setup : Setup) → AsksFor words setup → IsSetup setup
asks_setup words setup asks =
    subst IsSetup (sym asks.given.is) (choices_setup asks.given.choices asks.options usual asks.given.are (record {
      some_server = lit≤ tt;
      few_servers = lit≤ tt;
      some_client = lit≤ tt;
      few_clients = lit≤ tt;
      lease = lit≤ tt;
      some_row = lit≤ tt;
      few_rows = lit≤ tt;
    }))

-- as many as the words ask for
pub asks_count : (words : List (List ℕ)) (count : ℕ) → ((setup : Setup) × AsksFor words setup × (count ≡ setup.servers)) → (n : ℕ) → n ≡ count → (setup : Setup) → AsksFor words setup → n ≡ setup.servers
asks_count words count found n same setup asks = same ∙ found.2 ∙ ap (λ s. s.servers) (asks_one words found.0 setup found.1 asks)

-- .. however often the words are borrowed
pub asks_same : {A : Type 0} (f : A → List ℕ) (items a b : List A) (n : ℕ) → a ≡ items → b ≡ items → ((setup : Setup) → AsksFor (map f a) setup → n ≡ setup.servers) → (setup : Setup) → AsksFor (map f b) setup → n ≡ setup.servers
asks_same f items a b n is is' enough setup asks = enough setup (subst (λ w. AsksFor (map f w) setup) (is' ∙ sym is) asks)
