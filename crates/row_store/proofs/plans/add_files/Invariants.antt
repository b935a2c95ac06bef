use Rattle.std.proofs.Common.{◌≡◌, ◌++◌, drop}
use Rattle.row_store.proofs.plans.add_files.Given as goal

abbrev pub invariant-loop-file : goal.invariant-loop-file
invariant-loop-file l = l.list ++ drop l.file-index l.files ≡ l.initial.list ++ l.files
