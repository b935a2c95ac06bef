-- How entries lie: by the numbers of the messages that tell of them, or whole.
use Rattle.std.specs.Prelude.{◌≡◌, ℕ, ◌<◌, List, [], ◌∷◌, ◌++◌, length, get_or, Option, Some, None}
use Rattle.mds_base.specs.declared.call.Call.{Call}
use Rattle.mds_base.specs.declared.call.Call.TheVariants.{Scan}
use Rattle.mds_base.specs.declared.reply.Final.{Final}
use Rattle.mds_base.specs.declared.reply.Final.TheVariants as finals
use Rattle.mds_base.specs.declared.reply.Reply.{Reply}
use Rattle.mds_base.specs.declared.reply.Reply.TheVariants as replies
use Rattle.records.specs.declared.msg.Msg.{Msg}
use Rattle.message_store.specs.declared.made.Kind.{Kind}
use Rattle.message_store.specs.declared.made.Kind.TheVariants as kinds
use Rattle.message_store.specs.declared.made.Made.{Made}
use Rattle.message_store.specs.declared.pairs.MadeSlot.{MadeSlot}
use Rattle.message_store.specs.declared.pairs.MadeSlot.TheVariants as slots
use Rattle.message_store.specs.Messages.{entry_by, final_by, message_at, reply_by}

-- the entry of a change
abbrev pub change : ℕ → ℕ → Call → Final → Made
change client seq call said =
    record {
      entry = record { client = client; seq = seq; call = call; reply = replies.Said said };
      kind = kinds.Change;
    }

-- that of a request, by its final
abbrev pub change_by : Msg → Final → Made
change_by request said = record { entry = entry_by request (replies.Said said); kind = kinds.Change }

-- and of a lookup, by the answer of this number
abbrev pub lookup_by : Msg → Msg → ℕ → Made
lookup_by request answer message =
    record { entry = entry_by request (reply_by answer); kind = kinds.Lookup message }

abbrev pub no_made : Made
no_made = change 0 0 (Scan 0) finals.Created

-- the entry of a slot, over the messages and the entries that fit no slot
abbrev pub made_in : List Msg → List Made → MadeSlot → Made
made_in sent whole (slots.Change said request) = change_by (message_at sent request) (final_by said)
made_in sent whole (slots.Directory request number) = change_by (message_at sent request) (finals.CreatedDir number)
made_in sent whole (slots.Lookup request answer) =
    lookup_by (message_at sent request) (message_at sent answer) answer
made_in sent whole (slots.Whole at) = get_or whole at no_made

-- what it points to is there
abbrev pub IsMadeIn : List Msg → List Made → MadeSlot → Type 0
IsMadeIn sent whole (slots.Change said request) = request < length sent
IsMadeIn sent whole (slots.Directory request number) = request < length sent
IsMadeIn sent whole (slots.Lookup request answer) = (request < length sent) × (answer < length sent)
IsMadeIn sent whole (slots.Whole at) = at < length whole

-- the message of a number is a request of this call
pub record Asks (sent : List Msg) (message client seq : ℕ) (call : Call) : Type 0 where
  pub there : message < length sent
  pub is : (reply : Reply) → entry_by (message_at sent message) reply
      ≡ record { client = client; seq = seq; call = call; reply = reply }

-- a slot that shows an entry
pub record IsMade (sent : List Msg) (whole : List Made) (slot : MadeSlot) (made : Made) : Type 0 where
  pub shows : made_in sent whole slot ≡ made
  pub within : IsMadeIn sent whole slot

-- an entry was added, in a slot or beside the slots
pub record IsAdded (sent : List Msg) (made made_new : List MadeSlot) (whole whole_new : List Made)
    (entry : Made) : Type 0 where
  pub slot : MadeSlot
  pub extra : List Made
  pub pushed : made_new ≡ made ++ slot ∷ []
  pub adds : whole_new ≡ whole ++ extra
  pub is : IsMade sent whole_new slot entry

-- what an entry is, where there is one
abbrev pub kind_at : Option Made → Option Kind
kind_at None = None
kind_at (Some made) = Some made.kind

-- all messages, and all entries
pub record MessagesV : Type 0 where
  pub sent : List Msg
  pub made : List Made
