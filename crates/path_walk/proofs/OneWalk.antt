-- A path and answers have one walk.
use Rattle.std.proofs.Common.{◌≡◌, ◌∙◌, sym, subst, ℕ, ◌+◌, List, [], ◌∷◌, map, Bool, true, false, MatchBool, Result, Ok, Err}
use Rattle.mds_base.specs.declared.attr.Attr.{Attr}
use Rattle.mds_base.specs.declared.walked.Walked.{Walked}
use Rattle.mds_base.specs.declared.walked.Walked.TheVariants as verdicts
use Rattle.path_walk.specs.declared.asker.Lookup.{Lookup}
use Rattle.path_walk.specs.declared.asker.Asked.{Asked}
use Rattle.path_walk.specs.declared.asker.Asked.TheVariants.{Found, Missing, Unanswered}
use Rattle.path_walk.specs.Walks.{After, Ends, Walks, IsWalkAlong, root, ends_at}

-- the same asks, and the same verdict
abbrev pub AreOne : List Lookup → List Lookup → Walked → Walked → Type 0
AreOne asks others verdict other = (asks ≡ others) × (verdict ≡ other)

one_end : {asks others : List Lookup} {verdict other : Walked} (known : Walked) → Ends asks verdict known → Ends others other known → AreOne asks others verdict other
one_end known a b = (a.0 ∙ sym b.0, a.1 ∙ sym b.1)

one_choice : (ends : Bool) {asks others : List Lookup} {verdict other : Walked} (known : Walked) (P Q : Type 0) → (P → Q → AreOne asks others verdict other) → MatchBool ends (Ends asks verdict known) P → MatchBool ends (Ends others other known) Q → AreOne asks others verdict other
one_choice true known P Q on a b = one_end known a b
one_choice false known P Q on a b = on a b

one_after : (answer : Asked) (at : ℕ) (names : List (List ℕ)) {asks others : List Lookup} {verdict other : Walked} (P Q : Attr → Type 0) → ((attr : Attr) → P attr → Q attr → AreOne asks others verdict other) → After answer at names asks verdict P → After answer at names others other Q → AreOne asks others verdict other
one_after Missing at names P Q on a b = one_end (verdicts.Missing at) a b
one_after Unanswered at names P Q on a b = one_end (verdicts.Open at) a b
one_after (Found attr) at names P Q on a b = one_choice (ends_at attr names) (verdicts.NotDir at) (P attr) (Q attr) (on attr) a b

same_ask : (x y : Lookup) → x.dir ≡ y.dir → x.name ≡ y.name → x.answer ≡ y.answer → x ≡ y
same_ask x y dir name answer = λ i. record { dir = dir i; name = name i; answer = answer i }

one_from : (at : ℕ) (here : Attr) (names : List (List ℕ)) (asks others : List Lookup) (verdict other : Walked) → Walks at here names asks verdict → Walks at here names others other → map (λ ask. ask.answer) asks ≡ map (λ ask. ask.answer) others → AreOne asks others verdict other
one_from at here [] asks others verdict other a b same = one_end (verdicts.Found here) a b
one_from at here (name ∷ names) [] others verdict other a b same = absurd a
one_from at here (name ∷ names) (ask ∷ asks) [] verdict other a b same = absurd b
one_from at here (name ∷ names) (ask ∷ asks) (next ∷ others) verdict other a b same =
    let answer : ask.answer ≡ next.answer = cc in
    let later : map (λ ask. ask.answer) asks ≡ map (λ ask. ask.answer) others = cc in
    let on = λ (attr : Attr) (p : Walks (at + 1) attr names asks verdict) (q : Walks (at + 1) attr names others other). one_from (at + 1) attr names asks others verdict other p q later in
    let b' = subst (λ (x : Asked). After x at names others other (λ attr. Walks (at + 1) attr names others other)) (sym answer) b.2 in
    let rest = one_after ask.answer at names (λ attr. Walks (at + 1) attr names asks verdict) (λ attr. Walks (at + 1) attr names others other) on a.2 b' in
    let first = same_ask ask next (a.0 ∙ sym b.0) (a.1 ∙ sym b.1) answer in
    ((λ i. first i ∷ rest.0 i), rest.1)

pub one_walk : (said : Result (List (List ℕ)) ℕ) (asks others : List Lookup) (verdict other : Walked) → IsWalkAlong said asks verdict → IsWalkAlong said others other → map (λ ask. ask.answer) asks ≡ map (λ ask. ask.answer) others → AreOne asks others verdict other
one_walk (Ok names) asks others verdict other a b same = one_from 0 root names asks others verdict other a b same
one_walk (Err at) asks others verdict other a b same = one_end (verdicts.BadPath at) a b
