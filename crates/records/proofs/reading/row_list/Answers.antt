use Rattle.std.proofs.Common.{◌≡◌, ◌∙◌, sym, ap, subst, ℕ, suc, ◌-◌, ◌+◌, List, arith, Ok}
use Rattle.mds_base.specs.declared.row.Row.{Row}
use Rattle.records.specs.Faults.{Fails}
use Rattle.records.specs.Reading.{list_after, row_at}
use Rattle.records.proofs.ToCome.{list_step, list_fails, list_done}
use Rattle.records.proofs.reading.row_list.Goals as goal

pub returns-in-Err : goal.returns-in-Err
returns-in-Err c =
    let rows : c.rows-in-loop-place.result.now ≡ c.loop-place.rows = c.rows-in-loop-place.ensures in
    let left : c.args.count - c.loop-place.place ≡ suc (c.args.count - 1 - c.loop-place.place) = omega arith in
    let row = subst (λ (r : List Row). Fails c.in-Err.stop (row_at c.args.stamped r (c.args.count - 1 - c.loop-place.place) c.loop-place.rest.now)) rows c.in-Err.ensures in
    let read = list_fails (row_at c.args.stamped) c.loop-place.rows (c.args.count - 1 - c.loop-place.place) c.loop-place.rest.now c.in-Err.stop row in
    let so_far = sym (ap (λ (n : ℕ). list_after (row_at c.args.stamped) c.loop-place.rows n c.loop-place.rest.now) left) ∙ c.loop-place.invariant in
    subst (Fails c.in-Err.stop) so_far read

pub loop-place-preserved : goal.loop-place-preserved
loop-place-preserved c =
    let rows : c.rows-in-loop-place.result.now ≡ c.loop-place.rows = c.rows-in-loop-place.ensures in
    let left : c.args.count - c.loop-place.place ≡ suc (c.args.count - 1 - c.loop-place.place) = omega arith in
    let after : c.args.count - (c.loop-place.place + 1) ≡ c.args.count - 1 - c.loop-place.place = omega arith in
    let row = subst (λ (r : List Row). row_at c.args.stamped r (c.args.count - 1 - c.loop-place.place) c.loop-place.rest.now ≡ Ok (c.in-Ok.next, c.in-Ok.after.now)) rows c.in-Ok.ensures in
    let step = list_step (row_at c.args.stamped) c.loop-place.rows (c.args.count - 1 - c.loop-place.place) c.loop-place.rest.now c.in-Ok.next c.in-Ok.after.now row in
    ap (λ (n : ℕ). list_after (row_at c.args.stamped) c.push.new.self n c.in-Ok.after.now) after ∙ ap (λ (r : List Row). list_after (row_at c.args.stamped) r (c.args.count - 1 - c.loop-place.place) c.in-Ok.after.now) c.in_ok-push-in-Ok.ensures.ok
    ∙ sym step ∙ sym (ap (λ (n : ℕ). list_after (row_at c.args.stamped) c.loop-place.rows n c.loop-place.rest.now) left) ∙ c.loop-place.invariant

pub returns : goal.returns
returns c =
    let none : c.args.count - c.loop-place.place ≡ 0 = omega arith in
    sym c.loop-place.invariant ∙ ap (λ (n : ℕ). list_after (row_at c.args.stamped) c.loop-place.rows n c.loop-place.rest.now) none ∙ list_done (row_at c.args.stamped) c.loop-place.rows c.loop-place.rest.now
