use Rattle.std.proofs.Common.{◌∙◌, sym, ap}
use Rattle.std.specs.Option.{option_copied}
use Rattle.world.proofs.Stepped.{done_is}
use Rattle.world.proofs.Within.{done_ranges}
use Rattle.world.proofs.world.World.serve_done.Goals as goal

pub invariant_of-self-2 : goal.invariant_of-self-2
invariant_of-self-2 c =
    done_ranges _ c.args.self.now c.self.view_is c.self.invariant c.args.server c.index_mut-state.result.now c.index_mut-state.ensures.value c.requires.can c.serve.new.self c.serve.ensures.doubt c.unwrap-msg.result.now
    c.in_ok-outputs.outputs c.append.new.self c.in_ok-outputs.ensures.outputs c.in_ok-append.ensures.ok

pub returns : goal.returns
returns c =
    done_is _ c.args.self.now c.self.view_is c.args.server c.index_mut-state.result.now c.index_mut-state.ensures.value c.args.message c.unwrap-msg.result.now
    (sym c.msg_at.ensures ∙ ap option_copied c.unwrap-msg.ensures) c.requires.can c.serve.new.self c.in_ok-outputs.outputs c.append.new.self c.in_ok-outputs.ensures.outputs c.in_ok-outputs.ensures.ok c.in_ok-append.ensures.ok
