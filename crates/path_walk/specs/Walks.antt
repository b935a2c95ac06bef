-- A walk along a path: the asks that it makes, one a name, and what it comes to by their answers.
use Rattle.std.specs.Prelude.{ℕ, ◌+◌, ◌≡◌, List, [], ◌∷◌, ◌++◌, Bool, false, Result, Ok, Err, MatchBool}
use Rattle.mds_base.specs.declared.attr.Attr.{Attr}
use Rattle.mds_base.specs.declared.walked.Walked.{Walked}
use Rattle.mds_base.specs.declared.walked.Walked.TheVariants as verdicts
use Rattle.mds_base.specs.Entries.{is_file, new_directory}
use Rattle.path_walk.specs.declared.asker.Lookup.{Lookup}
use Rattle.path_walk.specs.declared.asker.Asked.{Asked}
use Rattle.path_walk.specs.declared.asker.Asked.TheVariants.{Found, Missing, Unanswered}
use Rattle.path_walk.specs.Paths.{names_along}

-- whether a walk ends at what was found before these names: a file has no entries
abbrev pub ends_at : Attr → List (List ℕ) → Bool
ends_at attr [] = false
ends_at attr (name ∷ names) = is_file attr

-- no more is asked, and this is the verdict
abbrev pub Ends : List Lookup → Walked → Walked → Type 0
Ends asks verdict known = (asks ≡ []) × (verdict ≡ known)

-- after an answer at a place the verdict is known, or the walk goes on from what was found
abbrev pub After : Asked → ℕ → List (List ℕ) → List Lookup → Walked → (Attr → Type 0) → Type 0
After Missing at names asks verdict GoesOn = Ends asks verdict (verdicts.Missing at)
After Unanswered at names asks verdict GoesOn = Ends asks verdict (verdicts.Open at)
After (Found attr) at names asks verdict GoesOn =
    MatchBool (ends_at attr names) (Ends asks verdict (verdicts.NotDir at)) (GoesOn attr)

-- from what was found so far these names, of which the first is at this place, are walked with these asks to this
-- verdict
abbrev pub Walks : ℕ → Attr → List (List ℕ) → List Lookup → Walked → Type 0
Walks at here [] asks verdict = Ends asks verdict (verdicts.Found here)
Walks at here (name ∷ names) [] verdict = ⊥
Walks at here (name ∷ names) (ask ∷ asks) verdict = (ask.dir ≡ here.dir) × (ask.name ≡ name)
    × After ask.answer at names asks verdict (λ attr. Walks (at + 1) attr names asks verdict)

-- the root, at which each walk begins
abbrev pub root : Attr
root = new_directory 1

-- a bad path is told before anything is asked
abbrev pub IsWalkAlong : Result (List (List ℕ)) ℕ → List Lookup → Walked → Type 0
IsWalkAlong (Ok names) asks verdict = Walks 0 root names asks verdict
IsWalkAlong (Err at) asks verdict = Ends asks verdict (verdicts.BadPath at)

-- the walk along the path, with these asks and their answers, comes to this verdict
abbrev pub IsWalk : List ℕ → List Lookup → Walked → Type 0
IsWalk path asks verdict = IsWalkAlong (names_along path) asks verdict

-- the asks are the first ones of a walk along names, or along what a path says
pub record BeginsAlong (said : Result (List (List ℕ)) ℕ) (asks : List Lookup) : Type 0 where
  pub more : List Lookup
  pub verdict : Walked
  pub is : IsWalkAlong said (asks ++ more) verdict

-- the asks are the first ones of a walk along the path
abbrev pub BeginsWalk : List ℕ → List Lookup → Type 0
BeginsWalk path asks = BeginsAlong (names_along path) asks
