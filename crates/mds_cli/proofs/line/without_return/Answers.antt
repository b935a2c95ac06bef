use Rattle.std.proofs.Common.{refl}
use Rattle.mds_cli.proofs.RunFollows.{return_of}
use Rattle.mds_cli.proofs.line.without_return.Goals as goal

pub returns : goal.returns
returns c = return_of c.args.line.now c.before_return.result c.before_return.ensures c.args.line c.unwrap_or.result refl c.unwrap_or.ensures
