use Rattle.std.proofs.Common.{◌≡◌, ◌∙◌, sym, ap, Err, List, ℕ, true, false, take, length, arith}
use Rattle.std.proofs.lemmas.List.{length-take}
use Rattle.mds_base.specs.declared.name.NameFault.{NameFault}
use Rattle.mds_base.specs.Name.{is_name}
use Rattle.records.specs.Reading.{from_foreign}
use Rattle.records.proofs.Numbers.{whole_rest}
use Rattle.records.proofs.Fields.{front_of, text_foreign, text_cut, text_named, text_unnamed}
use Rattle.records.proofs.reading.text.Goals as goal

pub overflow_add-result : goal.overflow_add-result
overflow_add-result c = let within = c.in-Some.ensures.1 in omega arith

pub returns-in-Some : goal.returns-in-Some
returns-in-Some c =
    let front = front_of c.args.len c.min.result c.args.bytes.now c.min.ensures in
    let left : length (from_foreign (take c.args.len c.args.bytes.now)) ≡ c.in-Some.left = ap (λ (t : List ℕ). length (from_foreign t)) (sym front) ∙ c.in-Some.ensures.2 in
    text_foreign c.args.len c.in-Some.left _ c.args.bytes.now left c.in-Some.ensures.0 (omega (arith, length-take c.min.result c.args.bytes.now, c.min.ensures))

pub returns-then-bytes-len : goal.returns-then-bytes-len
returns-then-bytes-len c =
    let front = front_of c.args.len c.min.result c.args.bytes.now c.min.ensures in
    text_cut c.args.len c.args.bytes.now (ap from_foreign (sym front) ∙ c.in_default.ensures) c.if-bytes-len.true

pub returns-in-Ok : goal.returns-in-Ok
returns-in-Ok c =
    let front = front_of c.args.len c.min.result c.args.bytes.now c.min.ensures in
    let named : is_name (take c.args.len c.args.bytes.now) ≡ true = ap is_name (sym front) ∙ c.in-Ok.ensures.is_name in
    let name : c.in-Ok.name ≡ take c.args.len c.args.bytes.now = c.in-Ok.ensures.ok ∙ front in
    rw (name, whole_rest c.args.len c.args.bytes.now) (text_named c.args.len c.args.bytes.now (ap from_foreign (sym front) ∙ c.in_default.ensures) c.if-bytes-len.false named)

pub returns-in-Err-BadName : goal.returns-in-Err-BadName
returns-in-Err-BadName c =
    let front = front_of c.args.len c.min.result c.args.bytes.now c.min.ensures in
    let named : is_name (take c.args.len c.args.bytes.now) ≡ false = ap is_name (sym front) ∙ c.in-Err-BadName.ensures.bad_name.0 (ap (λ (e : NameFault). Err e) c.in-Err-BadName.field-0-is) in
    text_unnamed c.args.len c.args.bytes.now (ap from_foreign (sym front) ∙ c.in_default.ensures) c.if-bytes-len.false named
