use Rattle.std.proofs.Common.{◌∙◌, sym, ap, subst}
use Rattle.mds_base.specs.Entries.{Place}
use Rattle.lease_cache.specs.Cache.{answered}
use Rattle.lease_cache.specs.Keys.{place_of, AreKeyed}
use Rattle.lease_cache.proofs.Caches.{Leases, bytes, keyed_as, used_is}
use Rattle.lease_cache.proofs.Places.{keyed_promoted}
use Rattle.lease_cache.proofs.lease_cache.LeaseCache.answer.Goals as goal

pub invariant_of-self : goal.invariant_of-self
invariant_of-self c =
    let keyed = keyed_as c.as_slice.result.now c.key_of-key.result.items c.as_slice.ensures.value c.key_of-key.ensures.is_key in
    subst (λ (l : Leases). AreKeyed bytes l.entries) (sym c.promote.ensures.entries) (keyed_promoted bytes c.as_slice.result.now keyed c.self.inside.leases.entries c.self.invariant)

pub returns-clause-used : goal.returns-clause-used
returns-clause-used c =
    let keyed = keyed_as c.as_slice.result.now c.key_of-key.result.items c.as_slice.ensures.value c.key_of-key.ensures.is_key in
    let place = ap place_of c.as_slice.ensures.value ∙ c.key_of-key.ensures.place in
    let answer = sym (c.said.ensures ∙ ap (λ (p : Place). answered c.args.self.now p c.args.now) c.key_of-key.ensures.place) ∙ c.in_ok-attr.was in
    used_is c.self.inside.leases c.self.invariant c.args.self.now c.self.view_is c.as_slice.result.now keyed (c.args.dir, c.args.name.now) place
    c.promote.new.self c.args.now c.in_ok-attr.attr c.promote.ensures.entries answer
