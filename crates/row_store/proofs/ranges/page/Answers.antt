use Rattle.std.proofs.Common.{◌≡◌, ◌∙◌, ℕ, ◌+◌, sym, ap, subst, refl, List, [], ◌∷◌, ◌++◌, length, Option, arith, length-append}
use Rattle.mds_base.specs.declared.attr.Attr.{Attr}
use Rattle.mds_base.specs.declared.row.Row.{Row}
use Rattle.mds_base.specs.declared.row_key.RowKey.{RowKey}
use Rattle.mds_base.specs.RowKeys.{row_of}
use Rattle.row_store.proofs.Joined.{reads_here, reads_on, reads_ok}
use Rattle.row_store.proofs.Passing.{Firsts}
use Rattle.row_store.proofs.Paging.{behind_page, paging_none, paging_all, paging_beyond, paging_more}
use Rattle.row_store.proofs.Told.{same_seen, tables_on}
use Rattle.sorted_table.specs.Starts.{is_before}
use Rattle.row_store.proofs.ranges.page.Goals as goal

pub loop-row-init : goal.loop-row-init
loop-row-init g c = record {
  call = reads_here c.args.disk.now tt (g.met.D.Disk.only_now c.args.disk.now) (g.met.D.Disk.lasts_here c.args.disk.now);
  frames = refl;
  count_is = ap (λ (page : List Row). length page) c.new-page.ensures;
  lists = paging_none c.args.tables.now c.args.fresh.now.entries c.args.span.dir c.args.span.part c.args.from.now c.args.span.last c.args.span.limit (g.D.Disk.seen c.args.disk.now) c.args.from.now.at c.new-page.result c.new-page.ensures;
}

pub first_row-requires-clause-ready : goal.first_row-requires-clause-ready
first_row-requires-clause-ready g c =
    tables_on c.args.tables.now (g.D.Disk.seen c.args.disk.now) (g.D.Disk.seen c.loop-row.disk) (g.D.Disk.sizes c.args.disk.now) (g.D.Disk.sizes c.loop-row.disk) c.loop-row.invariant.call.unchanged c.requires.ready

pub returns-in_default-clause-listed : goal.returns-in_default-clause-listed
returns-in_default-clause-listed g c =
    let S : List Row → Type 0 = λ rows. (key : RowKey) → is_before c.start-start.result key ≡ behind_page c.args.span.dir c.args.span.part c.args.from.now c.loop-row.rev rows key in
    let P : Option (RowKey × Attr) → Type 0 = Firsts c.args.tables.now c.args.fresh.now.entries (g.D.Disk.seen c.loop-row.disk) (is_before c.start-start.result) in
    paging_all c.args.tables.now c.args.fresh.now.entries c.args.span.dir c.args.span.part c.args.from.now c.args.span.last c.args.span.limit (g.D.Disk.seen c.args.disk.now) (g.D.Disk.seen c.loop-row.disk) c.loop-row.rev c.loop-row.page (is_before c.start-start.result)
    (same_seen (g.D.Disk.seen c.args.disk.now) (g.D.Disk.seen c.loop-row.disk) (g.D.Disk.sizes c.args.disk.now) (g.D.Disk.sizes c.loop-row.disk) c.loop-row.invariant.call.unchanged)
    (subst S c.rows.ensures c.start-start.ensures) c.loop-row.invariant.lists (subst P c.in_default.is c.in_ok-key.ensures.found)

pub returns-then-is_beyond-clause-listed : goal.returns-then-is_beyond-clause-listed
returns-then-is_beyond-clause-listed g c =
    let S : List Row → Type 0 = λ rows. (key : RowKey) → is_before c.start-start.result key ≡ behind_page c.args.span.dir c.args.span.part c.args.from.now c.loop-row.rev rows key in
    let P : Option (RowKey × Attr) → Type 0 = Firsts c.args.tables.now c.args.fresh.now.entries (g.D.Disk.seen c.loop-row.disk) (is_before c.start-start.result) in
    paging_beyond c.args.tables.now c.args.fresh.now.entries c.args.span.dir c.args.span.part c.args.from.now c.args.span.last c.args.span.limit (g.D.Disk.seen c.args.disk.now) (g.D.Disk.seen c.loop-row.disk) c.loop-row.rev c.loop-row.page (is_before c.start-start.result) c.in-Some.key c.in-Some.attr
    (same_seen (g.D.Disk.seen c.args.disk.now) (g.D.Disk.seen c.loop-row.disk) (g.D.Disk.sizes c.args.disk.now) (g.D.Disk.sizes c.loop-row.disk) c.loop-row.invariant.call.unchanged)
    (subst S c.rows.ensures c.start-start.ensures) c.loop-row.invariant.lists (subst P c.in-Some.is c.in_ok-key.ensures.found) (sym c.is_beyond.ensures ∙ c.if-is_beyond.true)

pub loop-row-preserved : goal.loop-row-preserved
loop-row-preserved g c =
    let S : List Row → Type 0 = λ rows. (key : RowKey) → is_before c.start-start.result key ≡ behind_page c.args.span.dir c.args.span.part c.args.from.now c.loop-row.rev rows key in
    let P : Option (RowKey × Attr) → Type 0 = Firsts c.args.tables.now c.args.fresh.now.entries (g.D.Disk.seen c.loop-row.disk) (is_before c.start-start.result) in
    let pushed : c.push.new.self ≡ c.loop-row.page ++ row_of (c.in-Some.key, c.in-Some.attr) ∷ [] = c.in_ok-push.ensures.ok in
    record {
      call = reads_on g.met.D.Disk.lasts_on g.met.D.Disk.fails_after c.loop-row.invariant.call (reads_ok c.in_ok-key.ensures.call tt);
      frames = c.in_ok-key.ensures.frames ∙ c.loop-row.invariant.frames;
      count_is = ap (λ (page : List Row). length page) pushed ∙ length-append c.loop-row.page (row_of (c.in-Some.key, c.in-Some.attr) ∷ []) ∙ ap (λ (n : ℕ). n + 1) c.loop-row.invariant.count_is;
      lists = paging_more c.args.tables.now c.args.fresh.now.entries c.args.span.dir c.args.span.part c.args.from.now c.args.span.last c.args.span.limit (g.D.Disk.seen c.args.disk.now) (g.D.Disk.seen c.loop-row.disk) c.loop-row.rev c.loop-row.page c.push.new.self (is_before c.start-start.result) c.in-Some.key c.in-Some.attr
          (same_seen (g.D.Disk.seen c.args.disk.now) (g.D.Disk.seen c.loop-row.disk) (g.D.Disk.sizes c.args.disk.now) (g.D.Disk.sizes c.loop-row.disk) c.loop-row.invariant.call.unchanged)
          (subst S c.rows.ensures c.start-start.ensures) c.loop-row.invariant.lists (subst P c.in-Some.is c.in_ok-key.ensures.found) (sym c.is_beyond.ensures ∙ c.if-is_beyond.false)
          (omega (arith, c.loop-row.invariant.count_is, c.loop-row-test.true)) pushed;
    }
