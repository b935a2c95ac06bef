use Rattle.chains.proofs.Depths.{depth_before, depth_add_parent, depth_add_child, depth_add_other, locate_add_in, locate_add_out, locate_before_add}
use Rattle.chains.proofs.depth.laws_of_children.Goals as goal

pub returns-clause-before : goal.returns-clause-before
returns-clause-before c = λ radix part depth set f. depth_before f part depth

pub returns-clause-parent : goal.returns-clause-parent
returns-clause-parent c = λ radix part depth set f. depth_add_parent f part depth

pub returns-clause-child : goal.returns-clause-child
returns-clause-child c = λ radix part depth set f. depth_add_child f part depth

pub returns-clause-other : goal.returns-clause-other
returns-clause-other c = λ radix part depth x e set low. depth_add_other part depth low x e

pub returns-clause-moved : goal.returns-clause-moved
returns-clause-moved c = λ radix hash part depth set f. locate_add_in f hash part depth

pub returns-clause-moved_from : goal.returns-clause-moved_from
returns-clause-moved_from c = λ radix hash part depth set f. locate_before_add f hash part depth

pub returns-clause-stayed : goal.returns-clause-stayed
returns-clause-stayed c = λ radix hash part depth set f. locate_add_out f hash part depth
