use Rattle.std.proofs.Common.{sym, subst, ◌+◌, ◌≤◌, length}
use Rattle.script.proofs.LineRoom.{number_fits, number_room}
use Rattle.script.proofs.line_text.LineText.put_number.Goals as goal

pub write_digits-self-inside-requires : goal.write_digits-self-inside-requires
write_digits-self-inside-requires c =
    let within = subst (λ n. c.self.inside.from ≤ n) (sym c.self.told) c.self.invariant in
    let room = subst (λ n. 20 + length c.args.self.now ≤ n) (sym c.self.told) c.requires in
    (number_fits c.args.number c.self.inside.from c.self.inside.bytes c.args.self.now c.ranges.number.fits within c.self.view_is room, within)

pub returns-clause-room : goal.returns-clause-room
returns-clause-room c = number_room c.args.number c.args.self.now _ _ c.ranges.number.fits c.write_digits-self-inside.ensures.written c.self.view_is
