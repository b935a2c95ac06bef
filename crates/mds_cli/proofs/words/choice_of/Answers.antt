use Rattle.std.proofs.Common.{arith}
use Rattle.mds_cli.specs.declared.words.Choice.TheVariants.{Servers, Clients}
use Rattle.mds_cli.proofs.words.choice_of.Goals as goal

pub returns-in_default-number_of : goal.returns-in_default-number_of
returns-in_default-number_of c (Servers value) rest given = c.in_default.ensures value rest (record { names = given.names; some = given.some; few = omega (arith, given.few) })
returns-in_default-number_of c (Clients value) rest given = c.in_default-number_of.ensures value rest (record { names = given.names; some = given.some; few = omega (arith, given.few) })
