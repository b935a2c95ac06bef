use Rattle.std.proofs.Common.{rules, ◌≡◌, [], ◌∷◌, ◌++◌, arith, ap, length, refl}
use Rattle.std.proofs.lemmas.List.{length-map}
use Rattle.message_store.specs.declared.calls.CallRow.{CallRow}
use Rattle.message_store.specs.Calls.{IsCallPut, call_of, row_in}
use Rattle.message_store.proofs.Names.{rows_within, rows_shown}
use Rattle.message_store.proofs.calls.Calls.push.Goals as goal

pub invariant_of-self-2 : goal.invariant_of-self-2
invariant_of-self-2 c =
    let row : CallRow = record { slot = c.in-Some.slot; seq = c.args.ask.now.seq; client = c.args.ask.now.client } in
    let put : IsCallPut c.self.inside.bytes.items c.put.new.bytes.items row.slot (call_of c.args.ask.now).call = rw c.in-Some.is at c.in_ok-slot.ensures in
    let pushed : c.push.new.self.items ≡ c.self.inside.rows.items ++ row ∷ [] = search rules in
    rows_within _ _ _ _ (call_of c.args.ask.now) row put pushed c.self.invariant

pub returns : goal.returns
returns c =
    let row : CallRow = record { slot = c.in-Some.slot; seq = c.args.ask.now.seq; client = c.args.ask.now.client } in
    let put : IsCallPut c.self.inside.bytes.items c.put.new.bytes.items row.slot (call_of c.args.ask.now).call = rw c.in-Some.is at c.in_ok-slot.ensures in
    let pushed : c.push.new.self.items ≡ c.self.inside.rows.items ++ row ∷ [] = search rules in
    (omega (arith, c.len-row.ensures, c.self.inside.rows.ok.0, length-map c.self.inside.rows.items (row_in c.self.inside.bytes.items), ap length c.self.view_is), rows_shown _ _ _ _ (call_of c.args.ask.now) row put pushed c.self.invariant _ c.self.view_is refl refl)
