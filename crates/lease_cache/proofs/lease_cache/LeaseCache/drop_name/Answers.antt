use Rattle.std.proofs.Common.{◌∙◌, sym, ap, subst}
use Rattle.lease_cache.specs.Keys.{place_of, AreKeyed}
use Rattle.lease_cache.proofs.Caches.{Leases, bytes, keyed_as, dropped_is}
use Rattle.lease_cache.proofs.Places.{keyed_removed}
use Rattle.lease_cache.proofs.lease_cache.LeaseCache.drop_name.Goals as goal

pub invariant_of-self : goal.invariant_of-self
invariant_of-self c =
    let keyed = keyed_as c.as_slice.result.now c.key_of.result.items c.as_slice.ensures.value c.key_of.ensures.is_key in
    subst (λ (l : Leases). AreKeyed bytes l.entries) (sym c.pop.ensures.entries) (keyed_removed bytes c.as_slice.result.now keyed c.self.inside.leases.entries c.self.invariant)

pub returns : goal.returns
returns c =
    let keyed = keyed_as c.as_slice.result.now c.key_of.result.items c.as_slice.ensures.value c.key_of.ensures.is_key in
    let place = ap place_of c.as_slice.ensures.value ∙ c.key_of.ensures.place in
    dropped_is c.self.inside.leases c.self.invariant c.args.self.now c.self.view_is c.as_slice.result.now keyed (c.args.dir, c.args.name.now) place c.pop.new.self c.pop.ensures.entries
