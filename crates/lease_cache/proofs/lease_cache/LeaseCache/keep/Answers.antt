use Rattle.std.proofs.Common.{◌∙◌, sym, ap, subst}
use Rattle.lease_cache.specs.Keys.{place_of, AreKeyed}
use Rattle.lease_cache.proofs.Caches.{Leases, bytes, keyed_as, kept_is}
use Rattle.lease_cache.proofs.Places.{keyed_put}
use Rattle.lease_cache.proofs.lease_cache.LeaseCache.keep.Goals as goal

pub invariant_of-self-2 : goal.invariant_of-self-2
invariant_of-self-2 c =
    let same = c.in_ok-key.ensures.items ∙ c.as_slice.ensures.value in
    let keyed = keyed_as c.in_ok-key.key.items c.key_of.result.items same c.key_of.ensures.is_key in
    subst (λ (l : Leases). AreKeyed bytes l.entries) (sym c.in_ok-put.ensures.entries) (keyed_put bytes c.self.inside.leases c.in_ok-key.key (record { attr = c.args.attr; until = c.args.until }) keyed c.self.invariant)

pub returns-clause-ok : goal.returns-clause-ok
returns-clause-ok c =
    let same = c.in_ok-key.ensures.items ∙ c.as_slice.ensures.value in
    let keyed = keyed_as c.in_ok-key.key.items c.key_of.result.items same c.key_of.ensures.is_key in
    let place = ap place_of same ∙ c.key_of.ensures.place in
    kept_is c.self.inside.leases c.self.invariant c.args.self.now c.self.view_is c.put.new.self c.in_ok-key.key (record { attr = c.args.attr; until = c.args.until }) (c.args.dir, c.args.name.now) keyed place c.in_ok-put.ensures.entries
