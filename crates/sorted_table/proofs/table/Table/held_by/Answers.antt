use Rattle.std.proofs.Common.{arith}
use Rattle.sorted_table.proofs.Looking.{held_at_hand, answer_at_hand}
use Rattle.sorted_table.proofs.table.Table.held_by.Goals as goal

pub returns-clause-held : goal.returns-clause-held
returns-clause-held c = held_at_hand c.args.self.now c.args.key.now c.args.block.now c.args.place c.held_at.result c.requires.place (omega (arith, c.requires.within)) c.held_at.ensures.held

pub returns-clause-answer : goal.returns-clause-answer
returns-clause-answer c = answer_at_hand c.args.self.now c.args.key.now c.args.block.now c.args.place c.held_at.result c.requires.place (omega (arith, c.requires.within)) c.held_at.ensures.held c.held_at.ensures.no_fault c.held_at.ensures.no_memory
