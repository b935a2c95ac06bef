use Rattle.std.proofs.Common.{◌≡◌, ◌∙◌, ap, sym, ◌++◌, [], ◌∷◌, List, length, refl, append-nil, append_assoc, arith}
use Rattle.std.specs.Vec.Iter.{into_iter_items}
use Rattle.pasts.proofs.DisksGiven.{nothing_left, put_length}
use Rattle.pasts.proofs.opening.handed_back.Goals as goal

pub push_reserved-requires : goal.push_reserved-requires
push_reserved-requires g c =
    let out = c.put_back.ensures.disks in
    let n = put_length g.D.Disk.seen g.D.Disk.images c.args.stores.items c.args.back.items c.put_back.new.back.items out.0 c.requires.none out.1 out.2 in
    omega arith

pub loop-disk-init : goal.loop-disk-init
loop-disk-init g c =
    let out = c.put_back.ensures.disks in
    let n = put_length g.D.Disk.seen g.D.Disk.images c.args.stores.items c.args.back.items c.put_back.new.back.items out.0 c.requires.none out.1 out.2 in
    let r = ap (λ it. length (into_iter_items it)) c.into_iter-disk-iterator.ensures.into_iter_gives in
    record { all = refl; room = omega arith }

-- the disks, one more and the rest are all that was put back
whole : {X : Type 0} (none disks put pushed rest after last left : List X) (disk : X) → none ≡ [] → put ≡ none ++ disks → pushed ≡ put ++ disk ∷ [] → after ≡ rest → last ++ left ≡ pushed ++ after → left ≡ [] → last ≡ disks ++ disk ∷ rest
whole none disks put pushed rest after last left disk empty was one same all end =
    sym (append-nil last) ∙ ap (λ l. last ++ l) (sym end) ∙ all
    ∙ ap (λ l. pushed ++ l) same ∙ ap (λ l. l ++ rest) (one ∙ ap (λ l. l ++ disk ∷ []) (was ∙ ap (λ l. l ++ disks) empty))
    ∙ append_assoc disks (disk ∷ []) rest

pub returns : goal.returns
returns g c =
    let out = c.put_back.ensures.disks in
    let at = c.loop-disk in
    let none = c.in-None.ensures.steps in
    let len = at.disk-iterator.rest.ok in
    let empty : into_iter_items at.disk-iterator ≡ [] = nothing_left (into_iter_items at.disk-iterator) (omega arith) in (
      out.0,
      whole c.args.back.items out.0 c.put_back.new.back.items c.push_reserved.new.self.items (into_iter_items c.args.rest) (into_iter_items c.into_iter-disk-iterator.result) at.back.items (into_iter_items at.disk-iterator) c.args.refused
          c.requires.none out.1 c.push_reserved.ensures.items (ap into_iter_items c.into_iter-disk-iterator.ensures.into_iter_gives) at.invariant.all empty,
      out.2,
    )
