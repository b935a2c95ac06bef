use Rattle.sorted_table.proofs.table.key_in.Goals as goal

pub returns-in_default-clause-found : goal.returns-in_default-clause-found
returns-in_default-clause-found c = λ rows is. let never = rw c.in_default.is at c.block_behind.ensures.from rows is in absurd cc
