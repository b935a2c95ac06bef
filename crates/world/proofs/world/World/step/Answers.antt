use Rattle.std.proofs.lemmas.Result.{on_ok_weaker}
use Rattle.world.proofs.Runs.{leads_on}
use Rattle.world.proofs.world.World.step.Goals as goal

pub returns-clause-law : goal.returns-clause-law
returns-clause-law c =
    on_ok_weaker c.carry_out.result (leads_on c.args.self.now c.args.event.now c.carry_out.new.self c.setup-setup.ensures.is_setup.some_server c.requires) c.carry_out.ensures
