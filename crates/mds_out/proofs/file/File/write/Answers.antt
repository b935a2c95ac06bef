use Rattle.std.proofs.Common.{◌≡◌, ◌∙◌, ◌+◌, ◌≤◌, ◌++◌, ◌∷◌, [], min, length, take, drop, refl, sym, ap, subst, arith, rules}
use Rattle.std.proofs.lemmas.List.{length-take-le}
use Rattle.mds_out.specs.Change.{Write}
use Rattle.mds_out.specs.Disk.{put}
use Rattle.mds_out.specs.FileRooms.{HasRooms}
use Rattle.mds_out.specs.Undo.{unwound}
use Rattle.mds_out.proofs.Rooms.{lent_whole, noted_rooms, changed_rooms}
use Rattle.mds_out.proofs.Undoing.{write_front, write_rest}
use Rattle.mds_out.proofs.file.File.write.Goals as goal

pub invariant_of-self-2 : goal.invariant_of-self-2
invariant_of-self-2 c =
    let i = c.self.inside in
    let old = c.make_room.new.buffer.items in
    let new = c.write_over-self-inside.new.buffer in
    let bytes = c.args.bytes.now in
    let now = take i.len old in
    let rooms : HasRooms old i.len i.undo i.since = noted_rooms i.current.items old i.len i.undo i.undo i.since c.self.invariant c.make_room.ensures.front c.make_room.ensures.longer refl (λ n le fit. fit) in
    let size : length now ≡ i.len = length-take-le i.len old rooms.room in
    let file : take i.len c.deref.result.now ≡ now = ap (take i.len) c.deref.ensures.value in
    let from : c.min-from.result ≡ min c.args.at (length now) = (let m : c.min-from.result ≡ min c.args.at i.len = search rules in m ∙ ap (min c.args.at) (sym size)) in
    let to : c.min-to.result ≡ min (c.args.at + length bytes) (length now) = (let m : c.min-to.result ≡ min (c.args.at + length bytes) i.len = search rules in m ∙ ap (min (c.args.at + length bytes)) (sym size)) in
    let front : take c.min-from.result (put now c.args.at bytes) ≡ take c.min-from.result (take i.len c.deref.result.now) =
    ap (λ n. take n (put now c.args.at bytes)) from ∙ write_front now bytes c.args.at ∙ ap (λ n. take n now) (sym from) ∙ ap (take c.min-from.result) (sym file) in
    let back = c.in_ok-add_old.ensures.back (put now c.args.at bytes) front
    (λ inside. ap (λ n. drop n (put now c.args.at bytes)) to ∙ write_rest now bytes c.args.at (omega (arith, inside, to, ap length file)) ∙ ap (λ n. drop n now) (sym to) ∙ ap (drop c.min-to.result) (sym file)) in
    let same : length new ≡ length old = search rules in
    let is : take c.write_over-self-inside.result new ≡ put now c.args.at bytes = search rules in
    let pushed : c.add_write.new.self ≡ i.since ++ Write c.args.at bytes ∷ [] = search rules in
    let room : c.args.at + length bytes ≤ length old = search rules in
    let whole = lent_whole old new c.make_room.new.buffer.len same (search rules) in
    subst (λ l. HasRooms l c.write_over-self-inside.result c.add_old.new.self c.add_write.new.self) (sym whole)
    (changed_rooms old new i.len c.write_over-self-inside.result i.undo c.add_old.new.self i.since c.add_write.new.self (Write c.args.at bytes) rooms same c.write_over-self-inside.ensures.count is
    (ap (λ l. unwound l c.add_old.new.self) is ∙ back ∙ ap (λ l. unwound l i.undo) file) (λ n le. c.in_ok-add_old.ensures.fit n (omega (arith, le, ap length file))) room pushed)
