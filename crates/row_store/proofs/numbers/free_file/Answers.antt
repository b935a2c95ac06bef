use Rattle.std.proofs.Common.{◌≡◌, ◌+◌, arith, rules, false}
use Rattle.root_slots.specs.Root.{is_fresh}
use Rattle.row_store.proofs.FreeNumbers.{few_taken, one_more, none_before}
use Rattle.row_store.proofs.numbers.free_file.Goals as goal

pub taken-init : goal.taken-init
taken-init c = record { few = omega arith; taken = none_before c.args.taken.now }

pub overflow_add-file : goal.overflow_add-file
overflow_add-file c = omega (arith, c.taken.invariant.few, c.requires)

pub taken-preserved : goal.taken-preserved
taken-preserved c =
    let now : is_fresh c.taken.file c.args.taken.now ≡ false = search rules in
    let each = one_more c.args.taken.now c.taken.file c.taken.invariant.taken now in
    record { few = few_taken c.args.taken.now (c.taken.file + 1) each; taken = each }

pub taken-smaller : goal.taken-smaller
taken-smaller c =
    let now : is_fresh c.taken.file c.args.taken.now ≡ false = search rules in
    omega (arith, few_taken c.args.taken.now (c.taken.file + 1) (one_more c.args.taken.now c.taken.file c.taken.invariant.taken now))

pub returns : goal.returns
returns c = record { free = search rules; least = c.taken.invariant.taken }
