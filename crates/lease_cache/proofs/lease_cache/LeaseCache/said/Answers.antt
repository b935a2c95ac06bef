use Rattle.std.proofs.Common.{sym, ap, ◌∙◌, None}
use Rattle.lease_cache.proofs.Caches.{keyed_as, said_is, live_is, over_is}
use Rattle.lease_cache.specs.Keys.{place_of}
use Rattle.std.specs.Option.{option_copied}
use Rattle.lease_cache.proofs.lease_cache.LeaseCache.said.Goals as goal

pub returns-in-Some : goal.returns-in-Some
returns-in-Some c =
    live_is c.self.inside.leases c.self.invariant c.args.self.now c.self.view_is c.as_slice.result.now (keyed_as c.as_slice.result.now c.args.key.now.items c.as_slice.ensures.value c.requires) (place_of c.args.key.now.items) (ap place_of c.as_slice.ensures.value)
    c.in-Some.lease.now c.args.now c.in-Some.ensures c.if-now-lease.true

pub returns-in_default : goal.returns-in_default
returns-in_default c =
    over_is c.self.inside.leases c.self.invariant c.args.self.now c.self.view_is c.as_slice.result.now (keyed_as c.as_slice.result.now c.args.key.now.items c.as_slice.ensures.value c.requires) (place_of c.args.key.now.items) (ap place_of c.as_slice.ensures.value)
    c.in-Some.lease.now c.args.now c.in-Some.ensures c.if-now-lease.false

pub returns-in_default-2 : goal.returns-in_default-2
returns-in_default-2 c =
    said_is c.self.inside.leases c.self.invariant c.args.self.now c.self.view_is c.as_slice.result.now (keyed_as c.as_slice.result.now c.args.key.now.items c.as_slice.ensures.value c.requires) (place_of c.args.key.now.items) (ap place_of c.as_slice.ensures.value)
    None c.args.now (sym (ap option_copied c.in_default.is) ∙ c.peek.ensures)
