-- Sessions: what a partition keeps of its clients' last changes, as a finite map from the client to the number of
-- its last change and the reply that this change got.
use Rattle.std.specs.Prelude.{ℕ, List, map, Option, Some, None, nat_lt, ◌==◌, if◌then◌else◌}
use Rattle.std.specs.Ordering.{nat_cmp}
use Rattle.std.specs.FinMap as map
use Rattle.mds_base.specs.declared.session.Session.{Session}
use Rattle.mds_base.specs.declared.reply.Final.{Final}
use Rattle.sessions.specs.declared.kept.Kept.{Kept}
use Rattle.sessions.specs.declared.kept.Judged.{Judged}
use Rattle.sessions.specs.declared.kept.Judged.TheVariants.{New, Again, Old}

abbrev pub SessionMap : Type 0
SessionMap = map.FinMap nat_cmp Kept

-- the number of the last change that is kept of a client, 0 where none is
abbrev pub seq_of : Option Kept → ℕ
seq_of None = 0
seq_of (Some kept) = kept.seq

-- how a change with this number stands to what is kept of its client
abbrev pub judge_kept : Option Kept → ℕ → Judged
judge_kept None seq = New
judge_kept (Some kept) seq =
    if nat_lt kept.seq seq then New else (if kept.seq == seq then Again kept.said else Old kept.seq)

abbrev pub judged : SessionMap → ℕ → ℕ → Judged
judged sessions client seq = judge_kept (map.get sessions client) seq

-- the sessions once a change was noted
abbrev pub noted : SessionMap → ℕ → ℕ → Final → SessionMap
noted sessions client seq said = map.insert sessions client (record { seq = seq; said = said })

abbrev pub session_of : ℕ × Kept → Session
session_of entry = record { client = entry.0; seq = entry.1.seq; said = entry.1.said }

abbrev pub entry_of : Session → ℕ × Kept
entry_of session = (session.client, record { seq = session.seq; said = session.said })

-- the sessions as a list, by rising clients
abbrev pub listed : SessionMap → List Session
listed sessions = map session_of (map.entries sessions)

-- the sessions that a list names; where a client stands twice, its first one
abbrev pub from_listed : List Session → SessionMap
from_listed list = map.from_entries (map entry_of list)

-- the sessions with what was kept of a client put back: taken away where nothing was kept, and else in place of what is
-- kept now, where something is
abbrev pub put_back : SessionMap → ℕ → Option Kept → Option Kept → SessionMap
put_back sessions client now None = map.remove sessions client
put_back sessions client None (Some kept) = sessions
put_back sessions client (Some now) (Some kept) = map.insert sessions client kept

abbrev pub restored : SessionMap → ℕ → Option Kept → SessionMap
restored sessions client kept = put_back sessions client (map.get sessions client) kept
