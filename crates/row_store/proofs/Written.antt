-- What a file reads as once it was written whole.
use Rattle.std.proofs.Common.{ℕ, ◌≡◌, ◌∙◌, sym, subst, ap, rules, List, Option, None, Some}
use Rattle.mds_out.specs.Disk.{Tells, put}
use Rattle.mds_out.specs.Known.{OnTold}
use Rattle.std.specs.Prelude.{take}

put_first : (old bytes : List ℕ) → put (take 0 old) 0 bytes ≡ bytes
put_first old bytes = search rules

-- it was cut, and the bytes were written from its front on
pub whole : (told told' told'' now : Option (List ℕ)) (bytes : List ℕ) → Tells told told' (λ old new. new ≡ take 0 old) → Tells told' told'' (λ old new. new ≡ put old 0 bytes) → now ≡ told'' → OnTold now (λ held. held ≡ bytes)
whole told told' told'' now bytes cut written same = subst (λ (t : Option (List ℕ)). OnTold t (λ held. held ≡ bytes)) (sym same) (at told told' told'' cut written)
  where
    at : (told told' told'' : Option (List ℕ)) → Tells told told' (λ old new. new ≡ take 0 old) → Tells told' told'' (λ old new. new ≡ put old 0 bytes) → OnTold told'' (λ held. held ≡ bytes)
    at told told' None cut written = tt
    at None None (Some now) cut written = absurd written
    at None (Some mid) (Some now) cut written = absurd cut
    at (Some old) None (Some now) cut written = absurd cut
    at (Some old) (Some mid) (Some now) cut written = written ∙ ap (λ held. put held 0 bytes) cut ∙ put_first old bytes
