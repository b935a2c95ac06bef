use Rattle.std.proofs.Common.{ap, ◌∙◌, Some}
use Rattle.std.proofs.lemmas.List.{map-set}
use Rattle.frame_pool.specs.Frames.{Frames, given, bytes_of}
use Rattle.frame_pool.proofs.pool.Pool.give.Goals as goal

pub returns : goal.returns
returns c =
    let frame = c.frame.inside in
    map-set bytes_of c.self.inside.places.items frame.number (Some frame.block)
    ∙ ap (λ (frames : Frames). given frames (record { number = frame.number; bytes = frame.block.items })) c.self.view_is
    ∙ ap (given c.args.self.now) c.frame.view_is
