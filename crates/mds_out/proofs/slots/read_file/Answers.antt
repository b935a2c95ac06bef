use Rattle.std.proofs.Common.{◌≡◌, ◌+◌, ◌≤◌, ℕ, List, [], length, take, drop, ap, sym, subst, ◌∙◌, arith}
use Rattle.std.proofs.lemmas.List.{nil_from_length, length-take}
use Rattle.mds_out.specs.Content.{Content, bytes_of, at_rest}
use Rattle.mds_out.specs.Slots.{content_in}
use Rattle.mds_out.proofs.Places.{first_is, none_is}
use Rattle.mds_out.proofs.slots.read_file.Goals as goal

pub read-requires : goal.read-requires
read-requires c =
    let P : Content → Type 0 = λ file. c.args.at + length c.args.into.now ≤ length (bytes_of file) in
    subst P (first_is c.args.slots.now c.args.number c.in-Some.place c.index-slots-place.result c.in-Some.ensures) c.requires

pub returns-in-Some : goal.returns-in-Some
returns-in-Some c = c.read.ensures ∙ ap (λ (file : Content). take (length c.args.into.now) (drop c.args.at (bytes_of file))) (sym (first_is c.args.slots.now c.args.number c.in-Some.place c.index-slots-place.result c.in-Some.ensures))

-- nothing is read of a file that was never written
nothing : (into : List ℕ) (at : ℕ) (file : Content) → file ≡ at_rest [] → at + length into ≤ length (bytes_of file) → into ≡ take (length into) (drop at (bytes_of file))
nothing into at file empty fits =
    let none : length into ≡ 0 = omega (arith, ap (λ (f : Content). length (bytes_of f)) empty) in
    let bytes = bytes_of file in
    nil_from_length into none ∙ sym (nil_from_length (take (length into) (drop at bytes)) (omega (arith, length-take (length into) (drop at bytes))))

pub returns-in_default : goal.returns-in_default
returns-in_default c = nothing c.args.into.now c.args.at (content_in c.args.slots.now c.args.number) (none_is c.args.slots.now c.args.number c.in_default.ensures) c.requires
