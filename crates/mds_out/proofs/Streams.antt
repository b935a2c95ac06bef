-- A read of a list of bytes, and writes one after another.
use Rattle.std.proofs.Common.{◌≡◌, ℕ, ◌+◌, ◌-◌, ◌≤◌, min, List, ◌++◌, Some, None, length, take, drop, arith, length-append, sym, ap, ◌∙◌, append_assoc, length-drop, take-append-drop}
use Rattle.std.proofs.lemmas.List.{take_at, drop_all, drop-drop, length-take, take_all}
use Rattle.std.proofs.Math.Seq.{take-add}
use Rattle.std.specs.Io.KnownBytes.{Appends}
use Rattle.std.specs.Prelude.{Option}
use Rattle.mds_out.specs.Stream.{Gives}

-- what a call gives that copies the next k bytes
pub copied : (bytes into gave : List ℕ) (at k step : ℕ) → gave ≡ take k (drop at bytes) → k ≡ min (min step (length into)) (length bytes - at) → 1 ≤ step → 1 ≤ length into
    → Gives (Some (drop at bytes)) (Some (drop (at + k) bytes)) (gave ++ drop k into) k
copied bytes into gave at k step gives count steps room =
    let size : length gave ≡ k = omega (arith, ap length gives, length-take k (drop at bytes), length-drop at bytes) in
    record {
      within = omega (arith, length-append gave (drop k into), length-drop k into);
      given = sym (ap (λ (l : List ℕ). l ++ drop (at + k) bytes) (take_at gave (drop k into) k size ∙ gives) ∙ ap (λ (l : List ℕ). take k (drop at bytes) ++ l) (sym (drop-drop k at bytes)) ∙ take-append-drop k (drop at bytes));
      ends = λ none. drop_all at bytes (omega arith);
    }

-- a front that was taken, and then a part of the rest
pub front_grows : (first mid last : Option (List ℕ)) (bytes : List ℕ) (n k : ℕ) → Appends first mid (take n bytes) → Appends mid last (take k (drop n bytes)) → Appends first last (take (n + k) bytes)
front_grows None mid last bytes n k front back = tt
front_grows (Some a) None last bytes n k front back = absurd front
front_grows (Some a) (Some b) None bytes n k front back = absurd back
front_grows (Some a) (Some b) (Some c) bytes n k front back =
    back ∙ ap (λ (l : List ℕ). l ++ take k (drop n bytes)) front ∙ append_assoc a (take n bytes) (take k (drop n bytes)) ∙ ap (λ (l : List ℕ). a ++ l) (sym (take-add n k bytes))

-- what is left of a rest
pub rest_of_rest : (bytes rest : List ℕ) (n k : ℕ) → rest ≡ drop n bytes → take (length rest - k) (drop k rest) ≡ drop (n + k) bytes
rest_of_rest bytes rest n k is = take_all (length rest - k) (drop k rest) (omega (arith, length-drop k rest)) ∙ ap (drop k) is ∙ drop-drop k n bytes
