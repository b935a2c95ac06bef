-- What calls alone make of a fuse: the laws, proved.
use Rattle.std.specs.Prelude.{◌≡◌, ℕ, None}
use Rattle.mds_out.specs.Fused.{Fused, IsUnarmed, OutlastsBy, FailsBy}
use Rattle.std.proofs.Common.{◌∙◌, refl, arith}

pub fused_here : {D : Type 0} (lasts : D → D → Type 0) (faults : D → ℕ) → ((disk : D) → lasts disk disk)
    → (fuse : Fused D) → OutlastsBy lasts faults fuse fuse
fused_here lasts faults here fuse = record {
  inner = here fuse.inner;
  later = omega arith;
  more = omega arith;
  unarmed = λ unarmed. record { left = unarmed; refused = refl };
}

-- by one run of calls more
unarmed_on : {D : Type 0} (a b c : Fused D) → IsUnarmed a b → (b.left ≡ None → IsUnarmed b c) → IsUnarmed a c
unarmed_on a b c first second =
    let then = second first.left in
    record { left = then.left; refused = then.refused ∙ first.refused }

pub fused_on : {D : Type 0} (lasts : D → D → Type 0) (faults : D → ℕ)
    → ((a b c : D) → lasts a b → lasts b c → lasts a c)
    → (a b c : Fused D) → OutlastsBy lasts faults a b → OutlastsBy lasts faults b c → OutlastsBy lasts faults a c
fused_on lasts faults on a b c first second = record {
  inner = on a.inner b.inner c.inner first.inner second.inner;
  later = omega (arith, first.later, second.later);
  more = omega (arith, first.more, second.more);
  unarmed = λ unarmed. unarmed_on a b c (first.unarmed unarmed) second.unarmed;
}

pub fused_fails_on : {D : Type 0} (lasts fails : D → D → Type 0) (faults : D → ℕ)
    → ((a b c : D) → fails a b → lasts b c → fails a c)
    → (a b c : Fused D) → FailsBy fails faults a b → OutlastsBy lasts faults b c → FailsBy fails faults a c
fused_fails_on lasts fails faults on a b c first second = record {
  rose = omega (arith, first.rose, second.later, second.more);
  unarmed = λ unarmed. on a.inner b.inner c.inner (first.unarmed unarmed) second.inner;
}

pub fused_fails_after : {D : Type 0} (lasts fails : D → D → Type 0) (faults : D → ℕ)
    → ((a b c : D) → lasts a b → fails b c → fails a c)
    → (a b c : Fused D) → OutlastsBy lasts faults a b → FailsBy fails faults b c → FailsBy fails faults a c
fused_fails_after lasts fails faults after a b c first second = record {
  rose = omega (arith, first.later, first.more, second.rose);
  unarmed = λ unarmed. after a.inner b.inner c.inner first.inner (second.unarmed (first.unarmed unarmed).left);
}
