use Rattle.std.proofs.Common.{None, subst, sym, refl, rules}
use Rattle.merge_rows.specs.Merging.{AreApart}
use Rattle.merge_rows.proofs.Stepping.{merging_new}
use Rattle.merge_rows.proofs.merge.Merge.start.Goals as goal

pub returns-clause-merging : goal.returns-clause-merging
returns-clause-merging c = λ seen sizes.
    merging_new c.args.tables.now (record { builder = c.in_ok-new.field-0; cursors = c.in_ok-cursors_of.field-0; last = None }) seen sizes
    (subst (AreApart c.args.tables.now) (sym c.in_ok-new.ensures.file) c.requires.apart) c.in_ok-new.ensures.begun (search rules) refl (c.in_ok-new.ensures.built (seen c.in_ok-new.field-0.file))
