use Rattle.std.proofs.Common.{◌≡◌, ◌++◌, take}
use Rattle.std.specs.List.{flat_map}
use Rattle.records.specs.Installs.{session_spelling}
use Rattle.records.specs.Writing.{OnlyGrows}
use Rattle.records.proofs.writing_installs.put_each_session.Given as goal

abbrev pub invariant-loop-session : goal.invariant-loop-session
invariant-loop-session l = record { written : l.out.items ≡ l.fn.out.items ++ flat_map session_spelling (take l.session-index l.sessions); grows : OnlyGrows l.fn.out.items l.out.items }
