-- How options and their numbers are spelled.
use Rattle.std.proofs.Common.{◌≡◌, ◌∙◌, sym, ap, ℕ, ◌<◌, ◌≤◌, ◌^◌, List, [], ◌∷◌, ◌++◌, length, get_or, arith, codes, inl, inr, append_assoc, append-nil, length-append, Result, Ok}
use Rattle.std.specs.Prelude.{decimal}
use Rattle.std.proofs.lemmas.List.{append_cancel_left}
use Rattle.std.proofs.lemmas.Fmt.{decimal_injective, parse-decimal}
use Rattle.std.specs.Str.Parse.{ParsesUnsigned}
use Rattle.mds_cli.specs.Choices.{IsNumber, Names, Gives, Chooses}
use Rattle.mds_cli.specs.declared.words.Choice.{Choice}
use Rattle.mds_cli.specs.declared.words.Choice.TheVariants.{Servers, Clients}

-- ---- a number

-- its text is parsed as it
pub number_parsed : {E : Type 0} (most value : ℕ) (text : List ℕ) (r : Result ℕ E) → most < 2 ^ 32 → ParsesUnsigned 32 10 text r → IsNumber most value text → r ≡ Ok value
number_parsed most value text r fits parsed number = parse-decimal 32 value text r (omega (arith, number.few)) (omega (arith, number.few)) number.is parsed

-- ---- an option of one name

longer : (name text : List ℕ) → name ≡ name ++ codes "=" ++ text → ⊥
longer name text is = absurd (omega (arith, length-append (name ++ codes "=") text, length-append name (codes "="), ap length is))

-- words that begin with it have one text of its value, and one rest
pub names_one : (name text text' : List ℕ) (words rest rest' : List (List ℕ)) → Names name text words rest → Names name text' words rest' → (text ≡ text') × (rest ≡ rest')
names_one name text text' words rest rest' (inl is) (inl is') =
    let both : name ∷ text ∷ rest ≡ name ∷ text' ∷ rest' = sym is ∙ is' in (cc, cc)
names_one name text text' words rest rest' (inr is) (inr is') =
    let both : (name ++ codes "=" ++ text) ∷ rest ≡ (name ++ codes "=" ++ text') ∷ rest' = sym is ∙ is' in
    (append_cancel_left (name ++ codes "=") text text' (cc), cc)
names_one name text text' words rest rest' (inl is) (inr is') =
    let both : name ∷ text ∷ rest ≡ (name ++ codes "=" ++ text') ∷ rest' = sym is ∙ is' in absurd (longer name text' (cc))
names_one name text text' words rest rest' (inr is) (inl is') =
    let both : name ∷ text' ∷ rest' ≡ (name ++ codes "=" ++ text) ∷ rest = sym is' ∙ is in absurd (longer name text (cc))

-- a first word that does not begin with the name names no option
pub another_name : (name word text : List ℕ) (words behind rest : List (List ℕ)) → words ≡ word ∷ behind → ((more : List ℕ) → word ≡ name ++ more → ⊥) → Names name text words rest → ⊥
another_name name word text words behind rest first other (inl is) =
    let both : word ∷ behind ≡ name ∷ text ∷ rest = sym first ∙ is in other [] ((cc) ∙ sym (append-nil name))
another_name name word text words behind rest first other (inr is) =
    let both : word ∷ behind ≡ (name ++ codes "=" ++ text) ∷ rest = sym first ∙ is in
    other (codes "=" ++ text) ((cc) ∙ append_assoc name (codes "=") text)

-- nor does one that goes on otherwise than with `=`
pub another_end : (name more text : List ℕ) (words behind rest : List (List ℕ)) → words ≡ (name ++ more) ∷ behind → (more ≡ [] → ⊥) → ((value : List ℕ) → more ≡ codes "=" ++ value → ⊥) → Names name text words rest → ⊥
another_end name more text words behind rest first some other (inl is) =
    let both : (name ++ more) ∷ behind ≡ name ∷ text ∷ rest = sym first ∙ is in
    some (append_cancel_left name more [] ((cc) ∙ sym (append-nil name)))
another_end name more text words behind rest first some other (inr is) =
    let both : (name ++ more) ∷ behind ≡ (name ++ codes "=" ++ text) ∷ rest = sym first ∙ is in
    other text (append_cancel_left name more (codes "=" ++ text) ((cc) ∙ append_assoc name (codes "=") text))

-- where the value's text is not a number in its range, nothing is given
pub no_number : (name text : List ℕ) (most : ℕ) (words behind : List (List ℕ)) → Names name text words behind → ((value : ℕ) → IsNumber most value text → ⊥) → (value : ℕ) (rest : List (List ℕ)) → Gives name most value words rest → ⊥
no_number name text most words behind names none value rest gives =
    none value (record { is = (names_one name text (decimal value) words behind rest names gives.names).0; some = gives.some; few = gives.few })

-- ---- the options

-- the third byte tells their names apart
letter_of_servers : (text : List ℕ) (words rest : List (List ℕ)) → Names (codes "--servers") text words rest → get_or (get_or words 0 []) 2 0 ≡ 115
letter_of_servers text words rest (inl is) = ap (λ ws. get_or (get_or ws 0 []) 2 0) is
letter_of_servers text words rest (inr is) = ap (λ ws. get_or (get_or ws 0 []) 2 0) is

letter_of_clients : (text : List ℕ) (words rest : List (List ℕ)) → Names (codes "--clients") text words rest → get_or (get_or words 0 []) 2 0 ≡ 99
letter_of_clients text words rest (inl is) = ap (λ ws. get_or (get_or ws 0 []) 2 0) is
letter_of_clients text words rest (inr is) = ap (λ ws. get_or (get_or ws 0 []) 2 0) is

apart : (text text' : List ℕ) (words rest rest' : List (List ℕ)) → Names (codes "--servers") text words rest → Names (codes "--clients") text' words rest' → ⊥
apart text text' words rest rest' servers clients =
    absurd (omega (arith, sym (letter_of_servers text words rest servers) ∙ letter_of_clients text' words rest' clients))

value_one : (name : List ℕ) (most value value' : ℕ) (words rest rest' : List (List ℕ)) → most ≤ 64 → Gives name most value words rest → Gives name most value' words rest' → (value ≡ value') × (rest ≡ rest')
value_one name most value value' words rest rest' small gives gives' =
    let one = names_one name (decimal value) (decimal value') words rest rest' gives.names gives'.names in
    (decimal_injective value value' (omega (arith, small, gives.few)) (omega (arith, small, gives'.few)) one.0, one.1)

-- words begin with one choice, and have one rest
pub chooses_one : (choice choice' : Choice) (words rest rest' : List (List ℕ)) → Chooses choice words rest → Chooses choice' words rest' → (choice ≡ choice') × (rest ≡ rest')
chooses_one (Servers value) (Servers value') words rest rest' given given' =
    let one = value_one (codes "--servers") 32 value value' words rest rest' (omega arith) given given' in (ap Servers one.0, one.1)
chooses_one (Clients value) (Clients value') words rest rest' given given' =
    let one = value_one (codes "--clients") 64 value value' words rest rest' (omega arith) given given' in (ap Clients one.0, one.1)
chooses_one (Servers value) (Clients value') words rest rest' given given' = absurd (apart _ _ words rest rest' given.names given'.names)
chooses_one (Clients value) (Servers value') words rest rest' given given' = absurd (apart _ _ words rest' rest given'.names given.names)

-- the rest is shorter than the words
shorter : (name text : List ℕ) (words rest : List (List ℕ)) → Names name text words rest → length rest < length words
shorter name text words rest (inl is) = omega (arith, ap length is)
shorter name text words rest (inr is) = omega (arith, ap length is)

pub choice_shortens : (choice : Choice) (words rest : List (List ℕ)) → Chooses choice words rest → length rest < length words
choice_shortens (Servers value) words rest given = shorter _ _ words rest given.names
choice_shortens (Clients value) words rest given = shorter _ _ words rest given.names
