use Rattle.mds_base.proofs.Setups.{setup_test}
use Rattle.mds_base.proofs.setup.Setup.is_fit.Goals as goal

pub returns-clause-fit : goal.returns-clause-fit
returns-clause-fit c = setup_test c.args.self.now c.are_within.result c.are_within.ensures
