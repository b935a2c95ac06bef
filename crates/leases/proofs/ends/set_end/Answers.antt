use Rattle.std.proofs.Common.{◌∙◌, sym, subst, IsSome, refl}
use Rattle.std.proofs.lemmas.Bool.{false≢true}
use Rattle.std.proofs.lemmas.Cmp.{nat_list_cmp_total}
use Rattle.std.proofs.lemmas.Map.Lookups.{exact_bytes}
use Rattle.mds_base.proofs.Maps.{get_entries, one_put}
use Rattle.leases.proofs.ends.set_end.Goals as goal

pub returns-in-Some : goal.returns-in-Some
returns-in-Some c =
    one_put nat_list_cmp_total exact_bytes c.args.by_name.now.entries (c.get_mut.follows.lender c.args.until).entries c.args.name.now c.args.until
    (((c.get_mut.follows.holds c.args.until).3 (subst IsSome c.in-Some.ensures.value refl)).0)

pub returns-in_default : goal.returns-in_default
returns-in_default c = absurd (false≢true (subst IsSome (get_entries nat_list_cmp_total exact_bytes c.args.by_name.now.entries c.args.name.now ∙ sym c.in_default.ensures.value) c.requires))
