-- Bytes that only grow.
use Rattle.std.proofs.Common.{◌≡◌, ◌∙◌, sym, ap, refl, ℕ, List, [], ◌++◌, append_assoc, length, take, Bool, true, false, cond}
use Rattle.std.proofs.lemmas.List.{append-nil, take_at}
use Rattle.records.specs.Writing.{OnlyGrows}

-- bytes behind others, or none
pub more_behind : (old text new : List ℕ) → new ≡ old ++ text → OnlyGrows old new
more_behind old text new is front begins = record { more = begins.more ++ text; is = is ∙ ap (λ (t : List ℕ). t ++ text) begins.is ∙ append_assoc front begins.more text }

pub more_or_same : (b : Bool) (old text new : List ℕ) → new ≡ cond b (old ++ text) old → OnlyGrows old new
more_or_same true old text new is = more_behind old text new is
more_or_same false old text new is = more_behind old [] new (is ∙ sym (append-nil old))

-- cut where they ended before, they are what they were
pub cut_back : (old new : List ℕ) → OnlyGrows old new → take (length old) new ≡ old
cut_back old new grows =
    let begins = grows old (record { more = []; is = sym (append-nil old) }) in
    ap (take (length old)) begins.is ∙ take_at old begins.more (length old) refl
