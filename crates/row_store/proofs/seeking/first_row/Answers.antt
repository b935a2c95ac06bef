use Rattle.std.proofs.Common.{◌∙◌, subst, Option, Some, None}
use Rattle.mds_base.specs.declared.attr.Attr.{Attr}
use Rattle.mds_base.specs.declared.row_key.RowKey.{RowKey}
use Rattle.row_store.proofs.Joined.{reads_on, reads_ok, reads_passed}
use Rattle.row_store.proofs.Passing.{Passes, Has, first_stands, next_passes}
use Rattle.row_store.proofs.Told.{same_seen, tables_on}
use Rattle.sorted_table.proofs.Seeking.{before_down}
use Rattle.sorted_table.specs.Starts.{is_before, place_of}
use Rattle.row_store.proofs.seeking.first_row.Goals as goal

pub returns-in_default-clause-found : goal.returns-in_default-clause-found
returns-in_default-clause-found g c =
    let P : Option RowKey → Type 0 = Passes c.args.tables.now c.args.fresh.now.entries (g.D.Disk.seen c.args.disk.now) (is_before c.args.start.now) in
    subst P c.in_default.is c.in_ok-first.ensures.found

pub loop-step-init : goal.loop-step-init
loop-step-init g c =
    let P : Option RowKey → Type 0 = Passes c.args.tables.now c.args.fresh.now.entries (g.D.Disk.seen c.args.disk.now) (is_before c.args.start.now) in
    record { call = reads_ok c.in_ok-first.ensures.call tt; frames = c.in_ok-first.ensures.frames; passes = subst P c.in-Some.is c.in_ok-first.ensures.found }

pub row_at-requires-clause-ready : goal.row_at-requires-clause-ready
row_at-requires-clause-ready g c =
    tables_on c.args.tables.now (g.D.Disk.seen c.args.disk.now) (g.D.Disk.seen c.loop-step.disk) (g.D.Disk.sizes c.args.disk.now) (g.D.Disk.sizes c.loop-step.disk) c.loop-step.invariant.call.unchanged c.requires.ready

pub returns-in_err-attr-clause-call : goal.returns-in_err-attr-clause-call
returns-in_err-attr-clause-call g c =
    reads_on g.met.D.Disk.lasts_on g.met.D.Disk.fails_after c.loop-step.invariant.call (reads_passed c.in_err-attr.ensures.call c.from_residual-in_err-attr.result c.from_residual-in_err-attr.ensures.1)

pub returns-in-Some-2-clause-found : goal.returns-in-Some-2-clause-found
returns-in-Some-2-clause-found g c =
    let P : Option Attr → Type 0 = Has c.args.tables.now c.args.fresh.now.entries (g.D.Disk.seen c.loop-step.disk) c.loop-step.key in
    first_stands c.args.tables.now c.args.fresh.now.entries (is_before c.args.start.now) (g.D.Disk.seen c.args.disk.now) (g.D.Disk.seen c.loop-step.disk) c.loop-step.key c.in-Some-2.attr
    (same_seen (g.D.Disk.seen c.args.disk.now) (g.D.Disk.seen c.loop-step.disk) (g.D.Disk.sizes c.args.disk.now) (g.D.Disk.sizes c.loop-step.disk) c.loop-step.invariant.call.unchanged)
    c.loop-step.invariant.passes (subst P c.in-Some-2.is c.in_ok-attr.ensures.found)

pub returns-in-Some-2-clause-call : goal.returns-in-Some-2-clause-call
returns-in-Some-2-clause-call g c =
    reads_on g.met.D.Disk.lasts_on g.met.D.Disk.fails_after c.loop-step.invariant.call (reads_ok c.in_ok-attr.ensures.call (Some (c.loop-step.key, c.in-Some-2.attr)))

pub key_from-requires-in-loop-step-clause-ready : goal.key_from-requires-in-loop-step-clause-ready
key_from-requires-in-loop-step-clause-ready g c =
    tables_on c.args.tables.now (g.D.Disk.seen c.loop-step.disk) (g.D.Disk.seen c.row_at.new.disk) (g.D.Disk.sizes c.loop-step.disk) (g.D.Disk.sizes c.row_at.new.disk) c.in_ok-attr.ensures.call.unchanged
    (tables_on c.args.tables.now (g.D.Disk.seen c.args.disk.now) (g.D.Disk.seen c.loop-step.disk) (g.D.Disk.sizes c.args.disk.now) (g.D.Disk.sizes c.loop-step.disk) c.loop-step.invariant.call.unchanged c.requires.ready)

pub returns-in_err-next-clause-call : goal.returns-in_err-next-clause-call
returns-in_err-next-clause-call g c =
    reads_on g.met.D.Disk.lasts_on g.met.D.Disk.fails_after c.loop-step.invariant.call
    (reads_on g.met.D.Disk.lasts_on g.met.D.Disk.fails_after c.in_ok-attr.ensures.call (reads_passed c.in_err-next.ensures.call c.from_residual-in_err-next.result c.from_residual-in_err-next.ensures.1))

pub returns-in_default-3-clause-found : goal.returns-in_default-3-clause-found
returns-in_default-3-clause-found g c =
    let P : Option Attr → Type 0 = Has c.args.tables.now c.args.fresh.now.entries (g.D.Disk.seen c.loop-step.disk) c.loop-step.key in
    let Q : Option RowKey → Type 0 = Passes c.args.tables.now c.args.fresh.now.entries (g.D.Disk.seen c.row_at.new.disk) (is_before c.past.result) in
    next_passes c.args.tables.now c.args.fresh.now.entries (is_before c.args.start.now) (g.D.Disk.seen c.args.disk.now) (g.D.Disk.seen c.loop-step.disk) (g.D.Disk.seen c.row_at.new.disk) c.loop-step.key (place_of c.past.result) c.past.result.past None
    (same_seen (g.D.Disk.seen c.args.disk.now) (g.D.Disk.seen c.loop-step.disk) (g.D.Disk.sizes c.args.disk.now) (g.D.Disk.sizes c.loop-step.disk) c.loop-step.invariant.call.unchanged)
    (same_seen (g.D.Disk.seen c.loop-step.disk) (g.D.Disk.seen c.row_at.new.disk) (g.D.Disk.sizes c.loop-step.disk) (g.D.Disk.sizes c.row_at.new.disk) c.in_ok-attr.ensures.call.unchanged)
    (before_down (place_of c.args.start.now) c.args.start.now.past) c.past.ensures.place c.past.ensures.past c.loop-step.invariant.passes (subst P c.in_default-2.is c.in_ok-attr.ensures.found) (subst Q c.in_default-3.is c.in_ok-next.ensures.found)

pub returns-in_default-3-clause-call : goal.returns-in_default-3-clause-call
returns-in_default-3-clause-call g c =
    reads_on g.met.D.Disk.lasts_on g.met.D.Disk.fails_after c.loop-step.invariant.call
    (reads_on g.met.D.Disk.lasts_on g.met.D.Disk.fails_after c.in_ok-attr.ensures.call (reads_ok c.in_ok-next.ensures.call None))

pub loop-step-preserved : goal.loop-step-preserved
loop-step-preserved g c =
    let P : Option Attr → Type 0 = Has c.args.tables.now c.args.fresh.now.entries (g.D.Disk.seen c.loop-step.disk) c.loop-step.key in
    let Q : Option RowKey → Type 0 = Passes c.args.tables.now c.args.fresh.now.entries (g.D.Disk.seen c.row_at.new.disk) (is_before c.past.result) in
    record {
      call = reads_on g.met.D.Disk.lasts_on g.met.D.Disk.fails_after c.loop-step.invariant.call
          (reads_on g.met.D.Disk.lasts_on g.met.D.Disk.fails_after c.in_ok-attr.ensures.call (reads_ok c.in_ok-next.ensures.call tt));
      frames = c.in_ok-next.ensures.frames ∙ c.in_ok-attr.ensures.frames ∙ c.loop-step.invariant.frames;
      passes = next_passes c.args.tables.now c.args.fresh.now.entries (is_before c.args.start.now) (g.D.Disk.seen c.args.disk.now) (g.D.Disk.seen c.loop-step.disk) (g.D.Disk.seen c.row_at.new.disk) c.loop-step.key (place_of c.past.result) c.past.result.past (Some c.in-Some-3.next)
          (same_seen (g.D.Disk.seen c.args.disk.now) (g.D.Disk.seen c.loop-step.disk) (g.D.Disk.sizes c.args.disk.now) (g.D.Disk.sizes c.loop-step.disk) c.loop-step.invariant.call.unchanged)
          (same_seen (g.D.Disk.seen c.loop-step.disk) (g.D.Disk.seen c.row_at.new.disk) (g.D.Disk.sizes c.loop-step.disk) (g.D.Disk.sizes c.row_at.new.disk) c.in_ok-attr.ensures.call.unchanged)
          (before_down (place_of c.args.start.now) c.args.start.now.past) c.past.ensures.place c.past.ensures.past c.loop-step.invariant.passes (subst P c.in_default-2.is c.in_ok-attr.ensures.found) (subst Q c.in-Some-3.is c.in_ok-next.ensures.found);
    }
