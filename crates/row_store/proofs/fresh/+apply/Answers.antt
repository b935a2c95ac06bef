use Rattle.std.proofs.Common.{◌∙◌, sym, subst, Option}
use Rattle.std.specs.Prelude.{IfSome}
use Rattle.mds_base.specs.declared.attr.Attr.{Attr}
use Rattle.row_store.specs.Rows.{AreMarked}
use Rattle.sorted_table.specs.TableRows.{IsMarked}
use Rattle.row_store.proofs.Firsts.{cons_of, rest_of}
use Rattle.row_store.proofs.Maps.{applied, said_marked, taken_back}
use Rattle.row_store.proofs.fresh.+apply.Goals as goal

pub returns-in-Ok-clause-ok : goal.returns-in-Ok-clause-ok
returns-in-Ok-clause-ok t c = λ base.
    applied base c.args.fresh.now.entries c.put.new.fresh.entries c.apply.new.fresh.entries c.change-item.result (rest_of c.args.changes.now) c.args.changes.now
    (cons_of c.args.changes.now c.change-item.result c.in-len1-up.len_at_least c.change-item.is) c.in_ok-before-in-len1-up.ensures.said (c.in-Ok.ensures.ok base)

pub returns-in-Ok-clause-marked : goal.returns-in-Ok-clause-marked
returns-in-Ok-clause-marked t c = λ old.
    let split = cons_of c.args.changes.now c.change-item.result c.in-len1-up.len_at_least c.change-item.is in
    c.in-Ok.ensures.marked (said_marked c.args.fresh.now.entries c.put.new.fresh.entries c.change-item.result.key c.change-item.result.attr (subst AreMarked split c.requires).0 c.in_ok-before-in-len1-up.ensures.said old)

pub returns-in-Err-clause-err : goal.returns-in-Err-clause-err
returns-in-Err-clause-err t c =
    taken_back c.args.fresh.now.entries c.apply.new.fresh.entries c.take_back.new.fresh.entries c.change-item.result.key c.change-item.result.attr c.in_ok-before-in-len1-up.before c.in_ok-before-in-len1-up.ensures.before
    (λ q. c.in-Err.ensures.err q ∙ c.in_ok-before-in-len1-up.ensures.said q) c.take_back.ensures

pub returns-in-Err-clause-marked : goal.returns-in-Err-clause-marked
returns-in-Err-clause-marked t c = λ old q.
    let same = taken_back c.args.fresh.now.entries c.apply.new.fresh.entries c.take_back.new.fresh.entries c.change-item.result.key c.change-item.result.attr c.in_ok-before-in-len1-up.before c.in_ok-before-in-len1-up.ensures.before
    (λ k. c.in-Err.ensures.err k ∙ c.in_ok-before-in-len1-up.ensures.said k) c.take_back.ensures q in
    subst (λ (found : Option (Option Attr)). IfSome found IsMarked) (sym same) (old q)
