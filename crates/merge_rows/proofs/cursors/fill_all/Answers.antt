use Rattle.std.proofs.Common.{◌≡◌, ◌∙◌, ◌+◌, ◌≤◌, suc, Ok, take, set, get_or, subst, sym, refl, arith}
use Rattle.sorted_table.specs.Tables.{TableState, IsReady}
use Rattle.merge_rows.specs.Cursors.{AllAlong, IsPlaced, HasNext, weight}
use Rattle.merge_rows.proofs.Along.{along_length, along_at, along_set, along_none, along_more, along_all, lefts_set, weights_set}
use Rattle.merge_rows.proofs.Running.{quiet, reads_none, reads_as, reads_on}
use Rattle.merge_rows.proofs.Stepping.{ready_unchanged, all_at, tells_still}
use Rattle.merge_rows.proofs.cursors.fill_all.Goals as goal

pub loop-place-init : goal.loop-place-init
loop-place-init g c = record {
  placed = c.requires.placed;
  next = along_none HasNext c.args.cursors.now c.args.tables.now;
  same = λ blocks tell. refl;
  lighter = omega arith;
  number = refl;
  reads = reads_none c.args.disk.now (g.met.D.Disk.only_now c.args.disk.now) (g.met.D.Disk.lasts_here c.args.disk.now);
}

pub bounds-cursors-place : goal.bounds-cursors-place
bounds-cursors-place g c = omega (arith, along_length IsPlaced c.loop-place.cursors c.args.tables.now c.loop-place.invariant.placed, c.loop-place-test.true)

pub fill-requires : goal.fill-requires
fill-requires g c =
    let seen = g.D.Disk.seen c.loop-place.disk in
    let sizes = g.D.Disk.sizes c.loop-place.disk in
    let ready = ready_unchanged c.args.tables.now (g.D.Disk.seen c.args.disk.now) seen (g.D.Disk.sizes c.args.disk.now) sizes c.loop-place.invariant.reads.unchanged c.requires.ready in
    record {
      ready = subst (λ (t : TableState). IsReady t seen sizes) (sym c.index-tables-place.is) (all_at (λ (t : TableState). IsReady t seen sizes) c.args.tables.now c.loop-place.place c.index-tables-place.result c.loop-place-test.true ready);
      placed = subst (IsPlaced (get_or c.loop-place.cursors c.loop-place.place c.index-cursors-place.result)) (sym c.index-tables-place.is)
          (along_at IsPlaced c.loop-place.cursors c.args.tables.now c.loop-place.place c.index-cursors-place.result c.index-tables-place.result c.loop-place-test.true c.loop-place.invariant.placed);
    }

pub loop-place-preserved : goal.loop-place-preserved
loop-place-preserved g c =
    let cursors = c.loop-place.cursors in
    let tables = c.args.tables.now in
    let place = c.loop-place.place in
    let new = c.fill.new.self in
    let table = c.index-tables-place.result in
    let at = c.index-tables-place.is in
    let before = c.loop-place.invariant in
    let long = along_length IsPlaced cursors tables before.placed in
    let further : suc place ≡ place + 1 = omega arith in
    let more = along_more HasNext cursors tables place new table long c.loop-place-test.true before.next (subst (HasNext new) at c.in_ok-fill.ensures.next) in
    let less = weights_set cursors tables place new c.index-cursors-place.result table (omega (arith, long, c.loop-place-test.true)) c.loop-place-test.true
    (subst (λ (t : TableState). weight new t ≤ weight (get_or cursors place c.index-cursors-place.result) t) at c.in_ok-fill.ensures.weight) in
    record {
      placed = along_set IsPlaced cursors tables place new table before.placed (subst (IsPlaced new) at c.in_ok-fill.ensures.placed);
      next = subst (λ n. AllAlong HasNext (take n (set cursors place new)) (take n tables)) further more;
      same = λ blocks tell.
          lefts_set (g.D.Disk.seen c.args.disk.now) cursors tables blocks place new c.index-cursors-place.result table tell
          (λ one tells. c.in_ok-fill.ensures.rest one (tells_still table (get_or tables place table) (g.D.Disk.seen c.args.disk.now) (g.D.Disk.seen c.loop-place.disk) one at before.reads.unchanged.bytes tells))
          ∙ before.same blocks tell;
      lighter = omega (arith, less, before.lighter);
      number = c.in_ok-fill.ensures.frame ∙ before.number;
      reads = reads_on quiet c.args.disk.now c.loop-place.disk c.fill.new.disk (g.met.D.Disk.lasts_on c.args.disk.now c.loop-place.disk c.fill.new.disk) (g.met.D.Disk.fails_after c.args.disk.now c.loop-place.disk c.fill.new.disk) before.reads
          (reads_as (Ok c.in_ok-fill.field-0) quiet c.loop-place.disk c.fill.new.disk tt c.in_ok-fill.ensures.reads);
    }

pub returns-clause-next : goal.returns-clause-next
returns-clause-next g c =
    along_all HasNext c.loop-place.cursors c.args.tables.now c.loop-place.place (along_length IsPlaced c.loop-place.cursors c.args.tables.now c.loop-place.invariant.placed) c.loop-place-test.false c.loop-place.invariant.next
