-- How messages lie: calls, numbers, attributes and whole messages in lists of their own, and a slot for each message.
use Rattle.std.specs.Prelude.{◌≡◌, ℕ, ◌<◌, List, ◌++◌, length, get_or, Option, Some, None}
use Rattle.mds_base.specs.declared.call.Call.TheVariants.{Scan}
use Rattle.mds_base.specs.declared.entry.Entry.{Entry}
use Rattle.mds_base.specs.declared.reply.Final.{Final}
use Rattle.mds_base.specs.declared.reply.Final.TheVariants as finals
use Rattle.mds_base.specs.declared.reply.Reply.{Reply}
use Rattle.mds_base.specs.declared.reply.Reply.TheVariants as replies
use Rattle.records.specs.declared.msg.Msg.{Msg}
use Rattle.records.specs.declared.msg.Msg.TheVariants as msgs
use Rattle.records.specs.Messages.{server_of_msg, client_of_msg}
use Rattle.message_store.specs.declared.sides.Plain.{Plain}
use Rattle.message_store.specs.declared.sides.Plain.TheVariants as plains
use Rattle.message_store.specs.declared.sides.Found.{Found}
use Rattle.message_store.specs.declared.sides.Slot.{Slot}
use Rattle.message_store.specs.declared.sides.Slot.TheVariants as slots
use Rattle.message_store.specs.Calls.{CallV, ask_of, call_of, entry_of, no_call}

-- what slots point into
pub record SidesV : Type 0 where
  pub calls : List CallV
  -- the numbers of directories that were made
  pub numbers : List ℕ
  -- what lookups found
  pub founds : List Found
  -- the messages that fit no slot
  pub whole : List Msg

-- a final that holds no number
abbrev pub final_by : Plain → Final
final_by plains.Created = finals.Created
final_by plains.Exists = finals.Exists
final_by plains.Removed = finals.Removed
final_by plains.Missing = finals.Missing
final_by plains.IsDir = finals.IsDir
final_by plains.Set = finals.Set

abbrev pub reply_in : Found → Reply
reply_in found =
    replies.Found (record { dir = found.dir; mode = found.mode; size = found.size; owner = found.owner; mtime = 0 })
    found.until

abbrev pub no_found : Found
no_found = record { dir = 0; size = 0; until = 0; mode = 0; owner = 0 }

abbrev pub no_msg : Msg
no_msg = msgs.Installed 0 0 0 0

-- the answer to a call
abbrev pub answer_to : CallV → ℕ → Reply → Msg
answer_to call attempt reply = msgs.Answer call.client call.seq attempt reply

abbrev pub call_at : SidesV → ℕ → CallV
call_at sides row = get_or sides.calls row no_call

-- the message of a slot
abbrev pub shown : SidesV → Slot → Msg
shown sides (slots.Request server attempt row) = msgs.Request server (ask_of (call_at sides row) attempt) None
shown sides (slots.Said said attempt row) = answer_to (call_at sides row) attempt (replies.Said (final_by said))
shown sides (slots.Directory attempt row at) =
    answer_to (call_at sides row) attempt (replies.Said (finals.CreatedDir (get_or sides.numbers at 0)))
shown sides (slots.Found attempt row at) =
    answer_to (call_at sides row) attempt (reply_in (get_or sides.founds at no_found))
shown sides (slots.Whole at) = get_or sides.whole at no_msg

-- what the slot points to is there
abbrev pub IsIn : SidesV → Slot → Type 0
IsIn sides (slots.Request server attempt row) = row < length sides.calls
IsIn sides (slots.Said said attempt row) = row < length sides.calls
IsIn sides (slots.Directory attempt row at) = (row < length sides.calls) × (at < length sides.numbers)
IsIn sides (slots.Found attempt row at) = (row < length sides.calls) × (at < length sides.founds)
IsIn sides (slots.Whole at) = at < length sides.whole

-- after more was put behind
pub record Grows (old new : SidesV) : Type 0 where
  pub calls : List CallV
  pub numbers : List ℕ
  pub founds : List Found
  pub whole : List Msg
  pub calls' : new.calls ≡ old.calls ++ calls
  pub numbers' : new.numbers ≡ old.numbers ++ numbers
  pub founds' : new.founds ≡ old.founds ++ founds
  pub whole' : new.whole ≡ old.whole ++ whole

-- a message was put, and the slot shows it
pub record IsPut (old new : SidesV) (slot : Slot) (msg : Msg) : Type 0 where
  pub grows : Grows old new
  pub shows : shown new slot ≡ msg
  pub within : IsIn new slot

-- whom a message is for, where it was sent
abbrev pub server_for : Option Msg → Option ℕ
server_for None = None
server_for (Some msg) = server_of_msg msg

abbrev pub client_for : Option Msg → Option ℕ
client_for None = None
client_for (Some msg) = client_of_msg msg

-- the entry of a request that got this reply
abbrev pub no_entry : Reply → Entry
no_entry reply = record { client = 0; seq = 0; call = Scan 0; reply = reply }

abbrev pub entry_by : Msg → Reply → Entry
entry_by (msgs.Request server ask cursor) reply = entry_of (call_of ask) reply
entry_by msg reply = no_entry reply

-- the reply of an answer
abbrev pub reply_by : Msg → Reply
reply_by (msgs.Answer client seq attempt reply) = reply
reply_by msg = replies.Said finals.Created

-- the message of a number
abbrev pub message_at : List Msg → ℕ → Msg
message_at sent message = get_or sent message no_msg
