use Rattle.std.proofs.Common.{◌∙◌, ◌∷◌, [], List, subst, sym}
use Rattle.sorted_table.specs.Tables.{TableState, IsReady}
use Rattle.sorted_table.proofs.Rising.{all_joined}
use Rattle.merge_rows.specs.Telling.{AreReady}
use Rattle.merge_rows.proofs.Stepping.{ready_unchanged}
use Rattle.rows_store.proofs.merges.open_all.Goals as goal

pub loop-file-preserved : goal.loop-file-preserved
loop-file-preserved g c =
    let seen = g.D.Disk.seen c.open_file.new.disk in
    let sizes = g.D.Disk.sizes c.open_file.new.disk in
    let P : List TableState → Type 0 = λ tables. AreReady tables seen sizes in
    let before = ready_unchanged c.loop-file.tables.items (g.D.Disk.seen c.loop-file.disk) seen (g.D.Disk.sizes c.loop-file.disk) sizes c.open_file.ensures.unchanged c.loop-file.invariant.ready in
    record {
      ready = subst P (sym c.in_ok-push.ensures.items) (all_joined (λ (t : TableState). IsReady t seen sizes) c.loop-file.tables.items (c.in_ok-table.table ∷ []) before (c.in_ok-table.ensures.ready, tt));
      number = c.open_file.ensures.frame ∙ c.loop-file.invariant.number;
    }
