use Rattle.std.proofs.Common.{◌≡◌, ◌∙◌, sym, ap, subst, ℕ, ◌-◌, List, length, drop, arith, Err}
use Rattle.std.proofs.lemmas.List.{length-drop}
use Rattle.records.specs.declared.fault.Fault.TheVariants.{Short, Bad}
use Rattle.records.specs.declared.fault.RecordFault.TheVariants as faults
use Rattle.records.specs.Spelling.{IsBadAt}
use Rattle.records.specs.ReadingRecords.{record_at}
use Rattle.records.specs.declared.record.Record.{Record}
use Rattle.records.proofs.Decoding.{same_ok, not_both}
use Rattle.records.proofs.Fronts.{front_found, front_read, begun_found, begun_read, bad_found, one_bad, bad_no_record, bad_not_short, stopped_at}
use Rattle.records.proofs.reading.read.Goals as goal

pub overflow_sub-result : goal.overflow_sub-result
overflow_sub-result c = (front_found c.args.bytes.now c.in-Ok.item c.in-Ok.rest.now (λ i. omega (arith, c.type_inv.bytes i)) c.in-Ok.ensures).shorter

pub overflow_sub-result-in-Err-Fault-Bad : goal.overflow_sub-result-in-Err-Fault-Bad
overflow_sub-result-in-Err-Fault-Bad c = (bad_found c.args.bytes.now c.in-Err-Fault-Bad.left (λ i. omega (arith, c.type_inv.bytes i)) (stopped_at _ _ (Bad c.in-Err-Fault-Bad.left) (record_at c.args.bytes.now) c.in-Err-Fault-Bad.ensures c.in-Err-Fault-Bad.field-0-is c.in-Err-Fault-Bad.field-0-0-is)).within

pub returns-in-Ok-clause-found : goal.returns-in-Ok-clause-found
returns-in-Ok-clause-found c = (omega arith, (front_found c.args.bytes.now c.in-Ok.item c.in-Ok.rest.now (λ i. omega (arith, c.type_inv.bytes i)) c.in-Ok.ensures).spelled)

pub returns-in-Ok-clause-only : goal.returns-in-Ok-clause-only
returns-in-Ok-clause-only c = λ len item within s.
    let read = front_read c.args.bytes.now len item s in
    let same = same_ok _ (c.in-Ok.item, c.in-Ok.rest.now) (item, drop len c.args.bytes.now) c.in-Ok.ensures read in
    let rest : length c.in-Ok.rest.now ≡ length c.args.bytes.now - len = ap (λ (p : Record × List ℕ). length p.1) same ∙ length-drop len c.args.bytes.now in
    let count : length c.args.bytes.now - length c.in-Ok.rest.now ≡ len = omega arith in
    let it : c.in-Ok.item ≡ item = ap (λ (p : Record × List ℕ). p.0) same in
    cc

pub returns-in-Ok-clause-short_only : goal.returns-in-Ok-clause-short_only
returns-in-Ok-clause-short_only c = λ begun. absurd (not_both _ _ _ c.in-Ok.ensures (begun_read c.args.bytes.now (λ i. omega (arith, c.type_inv.bytes i)) begun))

pub returns-in-Ok-clause-bad_only : goal.returns-in-Ok-clause-bad_only
returns-in-Ok-clause-bad_only c = λ place bad. absurd (bad_no_record c.args.bytes.now place c.in-Ok.item c.in-Ok.rest.now (λ i. omega (arith, c.type_inv.bytes i)) bad c.in-Ok.ensures)

pub returns-in-Err-Fault-Short-clause-only : goal.returns-in-Err-Fault-Short-clause-only
returns-in-Err-Fault-Short-clause-only c = λ len item within s. absurd (not_both _ _ _ (front_read c.args.bytes.now len item s) (stopped_at _ _ Short (record_at c.args.bytes.now) c.in-Err-Fault-Short.ensures c.in-Err-Fault-Short.field-0-is c.in-Err-Fault-Short.field-0-0-is))

pub returns-in-Err-Fault-Short-clause-short : goal.returns-in-Err-Fault-Short-clause-short
returns-in-Err-Fault-Short-clause-short c = λ _. begun_found c.args.bytes.now (λ i. omega (arith, c.type_inv.bytes i)) (stopped_at _ _ Short (record_at c.args.bytes.now) c.in-Err-Fault-Short.ensures c.in-Err-Fault-Short.field-0-is c.in-Err-Fault-Short.field-0-0-is)

pub returns-in-Err-Fault-Short-clause-bad_only : goal.returns-in-Err-Fault-Short-clause-bad_only
returns-in-Err-Fault-Short-clause-bad_only c = λ place bad. absurd (bad_not_short c.args.bytes.now place (λ i. omega (arith, c.type_inv.bytes i)) bad (stopped_at _ _ Short (record_at c.args.bytes.now) c.in-Err-Fault-Short.ensures c.in-Err-Fault-Short.field-0-is c.in-Err-Fault-Short.field-0-0-is))

pub returns-in-Err-Fault-Bad-clause-only : goal.returns-in-Err-Fault-Bad-clause-only
returns-in-Err-Fault-Bad-clause-only c = λ len item within s. absurd (not_both _ _ _ (front_read c.args.bytes.now len item s) (stopped_at _ _ (Bad c.in-Err-Fault-Bad.left) (record_at c.args.bytes.now) c.in-Err-Fault-Bad.ensures c.in-Err-Fault-Bad.field-0-is c.in-Err-Fault-Bad.field-0-0-is))

pub returns-in-Err-Fault-Bad-clause-short_only : goal.returns-in-Err-Fault-Bad-clause-short_only
returns-in-Err-Fault-Bad-clause-short_only c = λ begun. let short = begun_read c.args.bytes.now (λ i. omega (arith, c.type_inv.bytes i)) begun in let bad = (stopped_at _ _ (Bad c.in-Err-Fault-Bad.left) (record_at c.args.bytes.now) c.in-Err-Fault-Bad.ensures c.in-Err-Fault-Bad.field-0-is c.in-Err-Fault-Bad.field-0-0-is) in absurd (let e : Err (Bad c.in-Err-Fault-Bad.left) ≡ Err Short = sym bad ∙ short in cc)

pub returns-in-Err-Fault-Bad-clause-bad : goal.returns-in-Err-Fault-Bad-clause-bad
returns-in-Err-Fault-Bad-clause-bad c = λ place is.
    let found = bad_found c.args.bytes.now c.in-Err-Fault-Bad.left (λ i. omega (arith, c.type_inv.bytes i)) (stopped_at _ _ (Bad c.in-Err-Fault-Bad.left) (record_at c.args.bytes.now) c.in-Err-Fault-Bad.ensures c.in-Err-Fault-Bad.field-0-is c.in-Err-Fault-Bad.field-0-0-is) in
    let same : length c.args.bytes.now - c.in-Err-Fault-Bad.left ≡ place = cc in
    subst (IsBadAt c.args.bytes.now) same found.bad

pub returns-in-Err-Fault-Bad-clause-bad_only : goal.returns-in-Err-Fault-Bad-clause-bad_only
returns-in-Err-Fault-Bad-clause-bad_only c = λ place bad.
    let found = bad_found c.args.bytes.now c.in-Err-Fault-Bad.left (λ i. omega (arith, c.type_inv.bytes i)) (stopped_at _ _ (Bad c.in-Err-Fault-Bad.left) (record_at c.args.bytes.now) c.in-Err-Fault-Bad.ensures c.in-Err-Fault-Bad.field-0-is c.in-Err-Fault-Bad.field-0-0-is) in
    ap (λ (n : ℕ). Err (faults.Bad n)) (one_bad c.args.bytes.now (length c.args.bytes.now - c.in-Err-Fault-Bad.left) place found.bad bad)
