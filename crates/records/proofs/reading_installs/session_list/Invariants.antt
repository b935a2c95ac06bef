use Rattle.records.proofs.Sessions.{SessionsRead}
use Rattle.records.proofs.reading_installs.session_list.Given as goal

abbrev pub invariant-loop-place : goal.invariant-loop-place
invariant-loop-place l = SessionsRead l.count l.bytes l.sessions l.least l.place l.rest
