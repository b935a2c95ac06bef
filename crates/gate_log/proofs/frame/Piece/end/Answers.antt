use Rattle.std.proofs.Common.{◌≡◌, ◌++◌, ◌∷◌, [], drop, take, length, ◌∙◌, ap, arith, length-drop, rules}
use Rattle.mds_out.proofs.Rooms.{lent_whole}
use Rattle.gate_log.specs.Frame.{framed}
use Rattle.gate_log.proofs.Framed.{framed_behind, body_framed}
use Rattle.gate_log.proofs.frame.Piece.end.Goals as goal

framed_is : (c : goal.In_ok-push) → c.push.new.self.items ≡ framed (drop 4 c.args.buffer.items) ++ 0 ∷ []
framed_is c =
    let whole : take c.args.buffer.len (c.spell_length.new.buffer ++ drop (length c.spell_length.new.buffer) c.args.buffer.items) ≡ c.spell_length.new.buffer = lent_whole c.args.buffer.items c.spell_length.new.buffer c.args.buffer.len (search rules) (search rules) in
    framed_behind c.args.buffer.items c.spell_length.new.buffer c.push.new.self.items (search rules) (c.in_ok-push.ensures.items ∙ ap (λ l. l ++ 0 ∷ []) whole)

pub invariant_of-result : goal.invariant_of-result
invariant_of-result c = record { body = drop 4 c.args.buffer.items; is = framed_is c; short = omega (arith, c.requires.short, length-drop 4 c.args.buffer.items) }

pub returns : goal.returns
returns c = body_framed (drop 4 c.args.buffer.items) c.push.new.self.items (framed_is c)
