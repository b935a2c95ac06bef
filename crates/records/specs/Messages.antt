-- Whom a message is for.
use Rattle.std.specs.Prelude.{ℕ, Option, Some, None}
use Rattle.records.specs.declared.msg.Msg.{Msg}
use Rattle.records.specs.declared.msg.Msg.TheVariants.{Request, Redirect, Answer, Busy, Held, Page, Closed, Transfer}
use Rattle.records.specs.declared.msg.Msg.TheVariants.{Installed}

-- the server that a message is for
abbrev pub server_of_msg : Msg → Option ℕ
server_of_msg (Request server ask cursor) = Some server
server_of_msg (Transfer server dir part depth index count bitmap sessions top rows) = Some server
server_of_msg (Installed server dir part child) = Some server
server_of_msg msg = None

-- the client that a message is for
abbrev pub client_of_msg : Msg → Option ℕ
client_of_msg (Redirect client seq attempt dir bitmap) = Some client
client_of_msg (Answer client seq attempt reply) = Some client
client_of_msg (Busy client seq attempt part depth) = Some client
client_of_msg (Held client seq attempt until) = Some client
client_of_msg (Page client seq attempt rows next) = Some client
client_of_msg (Closed client seq attempt part epoch) = Some client
client_of_msg msg = None
