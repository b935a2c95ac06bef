-- Taking a message, by what was decided of it.
use Rattle.std.proofs.Common.{◌≡◌, refl, ℕ, Option, Some, None}
use Rattle.mds_base.specs.declared.ask.Ask.{Ask}
use Rattle.mds_base.specs.declared.cursor.Cursor.{Cursor}
use Rattle.mds_base.specs.declared.reply.Reply.{Reply}
use Rattle.records.specs.declared.msg.Msg.TheVariants.{Request, Answer, Busy, Held, Page, Closed, Installed}
use Rattle.client_core.specs.declared.client.Pending.{Pending}
use Rattle.client_core.specs.Clients.{ClientV}
use Rattle.client_core.specs.Taking.{take_at, answered_if, busy_if, held_if, ignored, present_at, answers_at}

pub answer_at : (client : ClientV) (o : Option Pending) (to seq attempt : ℕ) (reply : Reply) → take_at client o (Answer to seq attempt reply) ≡ answered_if client reply (answers_at client o seq attempt reply)
answer_at client None to seq attempt reply = refl
answer_at client (Some pending) to seq attempt reply = refl

pub busy_at : (client : ClientV) (o : Option Pending) (to seq attempt part depth : ℕ) → take_at client o (Busy to seq attempt part depth) ≡ busy_if client part (present_at client o seq attempt)
busy_at client None to seq attempt part depth = refl
busy_at client (Some pending) to seq attempt part depth = refl

pub held_at : (client : ClientV) (o : Option Pending) (to seq attempt until : ℕ) → take_at client o (Held to seq attempt until) ≡ held_if client until (present_at client o seq attempt)
held_at client None to seq attempt until = refl
held_at client (Some pending) to seq attempt until = refl

pub request_at : (client : ClientV) (o : Option Pending) (to : ℕ) (ask : Ask) (cursor : Option Cursor) → take_at client o (Request to ask cursor) ≡ ignored client
request_at client None to ask cursor = refl
request_at client (Some pending) to ask cursor = refl

pub installed_at : (client : ClientV) (o : Option Pending) (to dir part child : ℕ) → take_at client o (Installed to dir part child) ≡ ignored client
installed_at client None to dir part child = refl
installed_at client (Some pending) to dir part child = refl
