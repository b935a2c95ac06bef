-- The pieces of a slice, and those that pass a test, where the clauses of the calls name their closures.
use denote.Param.Members.{Mut}
use denote.Ref.{Bor}
use Rattle.std.proofs.Common.{◌≡◌, List, Bool, false, Option}
use Rattle.std.specs.Prelude.{filter}
use Rattle.std.specs.Fn.{CalledAt}
use Rattle.std.specs.Iterator.Runs.{EachRunFrom, Run}
use Rattle.std.specs.Iterator.Adapters.{filter_source, filter_callee, filter_steps}
use Rattle.std.specs.List.{slice_split}
use Rattle.std.specs.Slice.Iter as slice
use Rattle.std.proofs.lemmas.Iterator.{YieldsList}
use Rattle.std.proofs.lemmas.Iterator.Consumers.{YieldsList-from_filter}
use Rattle.std.proofs.lemmas.Iterator.Splits.{YieldsList-from_slice_split}

pub pieces_of : {A F : Type 0} {s : _} (g : Mut F (Bor A × Unit {0}) Bool) (P : Run (slice.split_steps g) → Type 0) (p : A → Bool) {f : F} (xs : List A) → EachRunFrom (slice.split_steps g) s P → slice.split_rest s ≡ xs → slice.split_done s ≡ false → slice.split_callee s ≡ f → ((x : A) (b : Bool) (q : F) → CalledAt g f x b q → (q ≡ f) × (b ≡ p x)) → YieldsList (slice.split_steps g) (λ x. x.now) s (slice_split p xs)
pieces_of g P p xs runs rest done closure tests = YieldsList-from_slice_split g p xs rest done closure tests

pub passing : {S A B F : Type 0} {steps : S → Option A → S → Type 0} {v : A → B} {ys : List B} {s : _} (g : Mut F (Bor A × Unit {0}) Bool) (P : Run (filter_steps steps g) → Type 0) (test : B → Bool) {f : F} → YieldsList steps v (filter_source s) ys → EachRunFrom (filter_steps steps g) s P → filter_callee s ≡ f → ((x : A) (b : Bool) (q : F) → CalledAt g f x b q → (q ≡ f) × (b ≡ test (v x))) → YieldsList (filter_steps steps g) v s (filter test ys)
passing g P test source runs closure tests = YieldsList-from_filter g test source closure tests
