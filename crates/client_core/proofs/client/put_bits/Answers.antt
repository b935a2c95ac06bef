use Rattle.std.specs.Cmp.{nat_cmp_total}
use Rattle.std.proofs.lemmas.Map.Lookups.{exact_unsigned}
use Rattle.mds_base.proofs.Maps.{one_put}
use Rattle.client_core.proofs.client.put_bits.Goals as goal

pub returns-clause-ok : goal.returns-clause-ok
returns-clause-ok c = one_put nat_cmp_total exact_unsigned c.args.bits.now.entries c.insert.new.self.entries c.args.dir c.args.bitmap c.in_ok-insert.ensures.updates.0
