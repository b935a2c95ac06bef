use Rattle.std.proofs.Common.{◌∙◌, sym, ap, refl, Some}
use Rattle.mds_base.specs.RowKeys.{RowMap}
use Rattle.row_store.specs.Rows.{changed_all}
use Rattle.row_store.specs.Store.{Kept, TellsAll, reading, with_body, base_of}
use Rattle.row_store.specs.Value.{Keeps}
use Rattle.row_store.proofs.Appends.{none_committing}
use Rattle.row_store.proofs.Firsts.{on_err, ok_more}
use Rattle.row_store.proofs.Maps.{same_said}
use Rattle.row_store.proofs.row_store.RowStore.commit.Goals as goal

pub returns-then-log_length-gt-LONGEST-clause-any_moment : goal.returns-then-log_length-gt-LONGEST-clause-any_moment
returns-then-log_length-gt-LONGEST-clause-any_moment g c = λ running.
    none_committing g.D.Disk.moment g.D.Disk.images_since c.args.disk.now c.args.self.now (g.D.Disk.seen c.args.disk.now) (g.D.Disk.sizes c.args.disk.now) (g.D.Disk.images c.args.disk.now) c.args.piece.now (g.met.D.Disk.only_now c.args.disk.now) (c.requires.ready running)

pub returns-in_err-apply-clause-any_moment : goal.returns-in_err-apply-clause-any_moment
returns-in_err-apply-clause-any_moment g c = λ running.
    none_committing g.D.Disk.moment g.D.Disk.images_since c.args.disk.now c.args.self.now (g.D.Disk.seen c.args.disk.now) (g.D.Disk.sizes c.args.disk.now) (g.D.Disk.images c.args.disk.now) c.args.piece.now (g.met.D.Disk.only_now c.args.disk.now) (c.requires.ready running)

pub returns-in_err-apply-clause-refused : goal.returns-in_err-apply-clause-refused
returns-in_err-apply-clause-refused g c =
    on_err c.from_residual.result _ (λ running. (
      refl,
      λ kept rows image keeps. record { by = keeps.by; rows_are = keeps.rows_are ∙ sym (same_said (base_of kept) c.args.self.now.fresh.entries c.apply.new.fresh.entries c.in_err-apply.ensures.err) },
    ))

pub returns-clause-kept : goal.returns-clause-kept
returns-clause-kept g c =
    let P : Type 0 = TellsAll (g.D.Disk.seen c.args.disk.now) → (kept : Kept) → (rows : RowMap) → Keeps (record c.args.self.now { fresh = c.apply.new.fresh }) (Some kept) rows (reading (g.D.Disk.seen c.args.disk.now))
    → Keeps c.append.new.self (Some (with_body kept c.args.piece.now)) rows (reading (g.D.Disk.seen c.append.new.disk)) in
    let Q : Type 0 = TellsAll (g.D.Disk.seen c.args.disk.now) → (kept : Kept) → (rows : RowMap) → Keeps c.args.self.now (Some kept) rows (reading (g.D.Disk.seen c.args.disk.now))
    → Keeps c.append.new.self (Some (with_body kept c.args.piece.now)) (changed_all rows c.args.changes.now) (reading (g.D.Disk.seen c.append.new.disk)) in
    ok_more c.append.result P Q (λ gives tells kept rows keeps. gives tells kept (changed_all rows c.args.changes.now)
    (record { by = keeps.by; rows_are = ap (λ (m : RowMap). changed_all m c.args.changes.now) keeps.rows_are ∙ sym (c.in_ok-apply.ensures.ok kept.base) })) c.append.ensures.kept

pub returns-clause-any_moment : goal.returns-clause-any_moment
returns-clause-any_moment g c = λ running tells kept rows keeps.
    c.append.ensures.any_moment tells kept (changed_all rows c.args.changes.now)
    (record { by = keeps.by; rows_are = ap (λ (m : RowMap). changed_all m c.args.changes.now) keeps.rows_are ∙ sym (c.in_ok-apply.ensures.ok kept.base) })
