-- How far a walk along names has come.
use Rattle.std.proofs.Common.{◌≡◌, ◌∙◌, sym, ap, subst, refl, ℕ, ◌+◌, ◌<◌, ◌≤◌, List, [], ◌∷◌, ◌++◌, length, drop, get_or, MatchBool, true, false, Result, Ok, Err, append_assoc, arith}
use Rattle.std.proofs.lemmas.List.{append-nil, at_drop_more, at_drop_all}
use Rattle.mds_base.specs.declared.attr.Attr.{Attr}
use Rattle.mds_base.specs.declared.walked.Walked.{Walked}
use Rattle.mds_base.specs.declared.walked.Walked.TheVariants as verdicts
use Rattle.path_walk.specs.declared.asker.Lookup.{Lookup}
use Rattle.path_walk.specs.declared.asker.Asked.{Asked}
use Rattle.path_walk.specs.declared.asker.Asked.TheVariants.{Found, Missing, Unanswered}
use Rattle.mds_base.specs.Entries.{is_file}
use Rattle.path_walk.specs.Walks.{After, Ends, Walks, BeginsAlong, root, ends_at}

-- what was asked along the names before this place led to what was found here: a walk from here on is one of the whole
pub record HasCome (names : List (List ℕ)) (place : ℕ) (here : Attr) (start now : List Lookup) : Type 0 where
  pub asks : List Lookup
  pub asked : now ≡ start ++ asks
  pub on : (more : List Lookup) → (verdict : Walked) → Walks place here (drop place names) more verdict → Walks 0 root names (asks ++ more) verdict

pub set_out : (names : List (List ℕ)) (start : List Lookup) → HasCome names 0 root start start
set_out names start = record { asks = []; asked = sym (append-nil start); on = λ more verdict w. w }

-- no names are left
pub arrived : (names : List (List ℕ)) (place : ℕ) (here : Attr) (start now : List Lookup) → length names ≤ place → HasCome names place here start now → (asks : List Lookup) × (now ≡ start ++ asks) × Walks 0 root names asks (verdicts.Found here)
arrived names place here start now all come =
    let none : drop place names ≡ [] = at_drop_all (λ l. l) names place all in
    let here_is = subst (λ l. Walks place here l [] (verdicts.Found here)) (sym none) (refl, refl) in
    (come.asks, come.asked, subst (λ l. Walks 0 root names l (verdicts.Found here)) (append-nil come.asks) (come.on [] (verdicts.Found here) here_is))

-- the first of the names that are left
pub first_left : (names : List (List ℕ)) (place : ℕ) (name : List ℕ) → place < length names → name ≡ get_or names place name → drop place names ≡ name ∷ drop (place + 1) names
first_left names place name within is = at_drop_more (λ l. l) names place name within ∙ ap (λ n. n ∷ drop (place + 1) names) (sym is)

module _ {names : List (List ℕ)} {place : ℕ} {here : Attr} {start now : List Lookup} (come : HasCome names place here start now) (name : List ℕ) (rest : List (List ℕ)) (left : drop place names ≡ name ∷ rest) where
  -- a walk that asks for the next name
  asks_next : (answer : Asked) (more : List Lookup) (verdict : Walked) → After answer place rest more verdict (λ attr. Walks (place + 1) attr rest more verdict) → Walks 0 root names (come.asks ++ record { dir = here.dir; name = name; answer = answer } ∷ more) verdict
  asks_next answer more verdict after =
      let ask : Lookup = record { dir = here.dir; name = name; answer = answer } in
      come.on (ask ∷ more) verdict (subst (λ l. Walks place here l (ask ∷ more) verdict) (sym left) (refl, refl, after))

  -- the next ask was refused
  pub refused : {later : List Lookup} → later ≡ now → (asks : List Lookup) × (later ≡ start ++ asks) × BeginsAlong (Ok names) asks
  refused same = (come.asks, same ∙ come.asked, record { more = record { dir = here.dir; name = name; answer = Unanswered } ∷ []; verdict = verdicts.Open place; is = asks_next Unanswered [] _ (refl, refl) })

  module _ {later : List Lookup} (answer : Asked) (asked : later ≡ now ++ record { dir = here.dir; name = name; answer = answer } ∷ []) where
    all_asked : later ≡ start ++ (come.asks ++ record { dir = here.dir; name = name; answer = answer } ∷ [])
    all_asked = asked ∙ ap (λ l. l ++ record { dir = here.dir; name = name; answer = answer } ∷ []) come.asked ∙ append_assoc start come.asks _

    -- with this answer the verdict is known
    ended : (verdict : Walked) → After answer place rest [] verdict (λ attr. Walks (place + 1) attr rest [] verdict) → (asks : List Lookup) × (later ≡ start ++ asks) × Walks 0 root names asks verdict
    ended verdict after = (come.asks ++ record { dir = here.dir; name = name; answer = answer } ∷ [], all_asked, asks_next answer [] verdict after)

    pub ended_missing : answer ≡ Missing → (asks : List Lookup) × (later ≡ start ++ asks) × Walks 0 root names asks (verdicts.Missing place)
    ended_missing is = ended (verdicts.Missing place) (subst (λ (a : Asked). After a place rest [] (verdicts.Missing place) (λ attr. Walks (place + 1) attr rest [] (verdicts.Missing place))) (sym is) (refl, refl))

    pub ended_open : answer ≡ Unanswered → (asks : List Lookup) × (later ≡ start ++ asks) × Walks 0 root names asks (verdicts.Open place)
    ended_open is = ended (verdicts.Open place) (subst (λ (a : Asked). After a place rest [] (verdicts.Open place) (λ attr. Walks (place + 1) attr rest [] (verdicts.Open place))) (sym is) (refl, refl))

    pub ended_at : (attr : Attr) → answer ≡ Found attr → ends_at attr rest ≡ true → (asks : List Lookup) × (later ≡ start ++ asks) × Walks 0 root names asks (verdicts.NotDir place)
    ended_at attr is ends = ended (verdicts.NotDir place) (subst (λ (a : Asked). After a place rest [] (verdicts.NotDir place) (λ attr. Walks (place + 1) attr rest [] (verdicts.NotDir place))) (sym is)
        (subst (λ b. MatchBool b (Ends [] (verdicts.NotDir place) (verdicts.NotDir place)) (Walks (place + 1) attr rest [] (verdicts.NotDir place))) (sym ends) (refl, refl)))

    -- with this answer the walk goes on from what was found
    pub goes_on : (attr : Attr) → answer ≡ Found attr → ends_at attr rest ≡ false → drop (place + 1) names ≡ rest → HasCome names (place + 1) attr start later
    goes_on attr found on after = record {
      asks = come.asks ++ record { dir = here.dir; name = name; answer = answer } ∷ [];
      asked = all_asked;
      on = λ more verdict walk. subst (λ l. Walks 0 root names l verdict) (sym (append_assoc come.asks (record { dir = here.dir; name = name; answer = answer } ∷ []) more))
          (asks_next answer more verdict (subst (λ (a : Asked). After a place rest more verdict (λ x. Walks (place + 1) x rest more verdict)) (sym found)
          (subst (λ b. MatchBool b (Ends more verdict (verdicts.NotDir place)) (Walks (place + 1) attr rest more verdict)) (sym on) (subst (λ l. Walks (place + 1) attr l more verdict) after walk))));
    }

-- each path has a walk
pub some_walk : (said : Result (List (List ℕ)) ℕ) → BeginsAlong said []
some_walk (Ok []) = record { more = []; verdict = verdicts.Found root; is = (refl, refl) }
some_walk (Ok (name ∷ names)) = record { more = record { dir = 1; name = name; answer = Unanswered } ∷ []; verdict = verdicts.Open 0; is = (refl, refl, (refl, refl)) }
some_walk (Err at) = record { more = []; verdict = verdicts.BadPath at; is = (refl, refl) }

-- a walk ends at a file before further names, and only there
pub file_ends : (attr : Attr) (rest : List (List ℕ)) → is_file attr ≡ true → 0 < length rest → ends_at attr rest ≡ true
file_ends attr [] file some = absurd (omega arith)
file_ends attr (name ∷ rest) file some = file

pub last_ends_not : (attr : Attr) (rest : List (List ℕ)) → length rest ≡ 0 → ends_at attr rest ≡ false
last_ends_not attr [] none = refl
last_ends_not attr (name ∷ rest) none = absurd (omega (arith, none))

pub dir_ends_not : (attr : Attr) (rest : List (List ℕ)) → is_file attr ≡ false → ends_at attr rest ≡ false
dir_ends_not attr [] file = refl
dir_ends_not attr (name ∷ rest) file = file
