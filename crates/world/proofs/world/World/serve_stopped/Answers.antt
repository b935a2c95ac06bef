use Rattle.std.proofs.Common.{◌∙◌, sym, ap}
use Rattle.std.specs.Option.{option_copied}
use Rattle.world.proofs.Stepped.{stopped_is}
use Rattle.world.proofs.Within.{stopped_ranges}
use Rattle.world.proofs.world.World.serve_stopped.Goals as goal

pub invariant_of-self-2 : goal.invariant_of-self-2
invariant_of-self-2 c =
    stopped_ranges _ c.args.self.now c.self.view_is c.self.invariant c.args.server c.index_mut-state.result.now c.index_mut-state.ensures.value c.requires.can c.args.message c.unwrap-msg.result.now
    (sym c.msg_at.ensures ∙ ap option_copied c.unwrap-msg.ensures) c.stop_serving.new.self c.in_ok-stop_serving.ensures.ok

pub returns : goal.returns
returns c =
    stopped_is _ c.args.self.now c.self.view_is c.args.server c.index_mut-state.result.now c.index_mut-state.ensures.value c.args.message c.unwrap-msg.result.now
    (sym c.msg_at.ensures ∙ ap option_copied c.unwrap-msg.ensures) c.requires.can c.stop_serving.new.self c.in_ok-stop_serving.ensures.ok
