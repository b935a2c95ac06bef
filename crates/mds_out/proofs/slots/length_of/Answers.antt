use Rattle.std.proofs.Common.{length, ap, sym, ◌∙◌}
use Rattle.mds_out.specs.Content.{Content, bytes_of}
use Rattle.mds_out.proofs.Places.{first_is, none_is}
use Rattle.mds_out.proofs.slots.length_of.Goals as goal

pub returns-in-Some-clause-len : goal.returns-in-Some-clause-len
returns-in-Some-clause-len c = c.len.ensures.len ∙ ap (λ (file : Content). length (bytes_of file)) (sym (first_is c.args.slots.now c.args.number c.in-Some.place c.index-slots-place.result c.in-Some.ensures))

pub returns-in-None-clause-len : goal.returns-in-None-clause-len
returns-in-None-clause-len c = ap (λ (file : Content). length (bytes_of file)) (sym (none_is c.args.slots.now c.args.number c.in-None.ensures))
