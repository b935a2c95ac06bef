-- Reading from left to right: what the first bytes of bytes say and the bytes behind them, where they say it.
use Rattle.std.specs.Prelude.{ℕ, zero, suc, length, is_some, not, ◌+◌, ◌*◌, ◌-◌, ◌^◌, List, [], ◌∷◌, Option, Some, None}
use Rattle.std.specs.Prelude.{Bool, true, false, nat_le, nat_lt, nat_eq, ◌==◌, ◌&&◌, if◌then◌else◌, codes, decimal}
use Rattle.std.specs.List.{find}
use Rattle.std.specs.Cmp.Lexicographic.{pointwise}
use Rattle.std.specs.Char.{digit_value}
use Rattle.std.specs.Str.Parse.{digits_value}
use Rattle.mds_base.specs.declared.limits.TheConstants.{MODE_MOST, BATCH_MOST, TICK_MOST, FUSE_MOST}
use Rattle.mds_base.specs.Calls.{is_directory}
use Rattle.mds_base.specs.Name.{is_name}
use Rattle.mds_base.specs.declared.attr.Stamp.{Stamp}
use Rattle.mds_base.specs.declared.call.Call.{Call}
use Rattle.mds_base.specs.declared.call.Call.TheVariants as calls
use Rattle.mds_base.specs.declared.setup.Setup.{Setup}
use Rattle.script.specs.Words.{word_at, rest_at}
use Rattle.script.specs.declared.line.Line.{Line}
use Rattle.script.specs.declared.line.Line.TheVariants as lines
use Rattle.script.specs.declared.verb.Verb.{Verb}
use Rattle.script.specs.declared.verb.Verb.TheVariants as verbs
use Rattle.script.specs.declared.verb.CallVerb.{CallVerb}
use Rattle.script.specs.declared.verb.CallVerb.TheVariants as asked

infixl 10 ◌>>=◌
abbrev pub ◌>>=◌ : {A B : Type 0} → Option A → (A → Option B) → Option B
None >>= f = None
(Some x) >>= f = f x

-- ---- one word

-- the number that a word spells: the value of its digits, where these are its spelling
unfoldable pub number_of : List ℕ → Option ℕ
number_of word = if nat_lt (digits_value 10 word) (2 ^ 64) && pointwise nat_eq (decimal (digits_value 10 word)) word
    then Some (digits_value 10 word) else None

-- a byte in front of the bytes that the rest of a word spells
abbrev pub onto : ℕ → Option (List ℕ) → Option (List ℕ)
onto byte None = None
onto byte (Some bytes) = Some (byte ∷ bytes)

-- the byte of two hexadecimal digits
abbrev pub hex_byte : ℕ → ℕ → Option ℕ
hex_byte high low = if nat_lt (digit_value high) 16 && nat_lt (digit_value low) 16
    then Some (16 * digit_value high + digit_value low) else None

-- the bytes that a word spells, where each of its escapes is whole
unfoldable pub unescaped : List ℕ → Option (List ℕ)
unescaped [] = Some []
unescaped (byte ∷ []) = if byte == 37 then None else Some (byte ∷ [])
unescaped (byte ∷ high ∷ []) = if byte == 37 then None else onto byte (unescaped (high ∷ []))
unescaped (byte ∷ high ∷ low ∷ rest) = if byte == 37 then hex_byte high low >>= (λ b. onto b (unescaped rest))
    else onto byte (unescaped (high ∷ low ∷ rest))

-- these bytes, where they are a name
abbrev pub checked_name : List ℕ → Option (List ℕ)
checked_name bytes = if is_name bytes then Some bytes else None

-- the name that a word spells
unfoldable pub name_of : List ℕ → Option (List ℕ)
name_of word = unescaped word >>= checked_name

-- the first bytes that a line may have
abbrev pub verb_text : Verb → List ℕ
verb_text verbs.Call = codes "call"
verb_text verbs.Issue = codes "issue"
verb_text verbs.Retry = codes "retry"
verb_text verbs.Deliver = codes "deliver"
verb_text verbs.Batch = codes "batch"
verb_text verbs.Take = codes "take"
verb_text verbs.Settle = codes "settle"
verb_text verbs.Remind = codes "remind"
verb_text verbs.Tick = codes "tick"
verb_text verbs.Fuse = codes "fuse"
verb_text verbs.Stop = codes "stop"
verb_text verbs.Restart = codes "restart"
verb_text verbs.Walk = codes "walk"
verb_text verbs.Bulk = codes "bulk"
verb_text verbs.Rmdir = codes "rmdir"
verb_text verbs.Feed = codes "feed"
verb_text verbs.Promote = codes "promote"

-- the first bytes that a call may have
abbrev pub call_verb_text : CallVerb → List ℕ
call_verb_text asked.Create = codes "create"
call_verb_text asked.Mkdir = codes "mkdir"
call_verb_text asked.Remove = codes "remove"
call_verb_text asked.Lookup = codes "lookup"
call_verb_text asked.Setattr = codes "setattr"
call_verb_text asked.Scan = codes "scan"

abbrev pub each_verb : List Verb
each_verb = verbs.Call ∷ verbs.Issue ∷ verbs.Retry ∷ verbs.Deliver ∷ verbs.Batch ∷ verbs.Take ∷ verbs.Settle
    ∷ verbs.Remind ∷ verbs.Tick ∷ verbs.Fuse ∷ verbs.Stop ∷ verbs.Restart ∷ verbs.Walk ∷ verbs.Bulk ∷ verbs.Rmdir
    ∷ verbs.Feed ∷ verbs.Promote ∷ []

abbrev pub each_call_verb : List CallVerb
each_call_verb = asked.Create ∷ asked.Mkdir ∷ asked.Remove ∷ asked.Lookup ∷ asked.Setattr ∷ asked.Scan ∷ []

-- whether a call of this verb has a name
abbrev pub is_named : CallVerb → Bool
is_named asked.Scan = false
is_named verb = true

unfoldable pub verb_of : List ℕ → Option Verb
verb_of word = find (λ verb. pointwise nat_eq (verb_text verb) word) each_verb

unfoldable pub call_verb_of : List ℕ → Option CallVerb
call_verb_of word = find (λ verb. pointwise nat_eq (call_verb_text verb) word) each_call_verb

-- ---- the first word, and what is behind it

-- whether no word is left
unfoldable pub is_end : List ℕ → Bool
is_end bytes = not (is_some (word_at bytes))

unfoldable pub number_at : List ℕ → Option (ℕ × List ℕ)
number_at bytes = do
  word ← word_at bytes
  number ← number_of word.0
  Some (number, word.1)

-- a number from least to most
unfoldable pub number_within : ℕ → ℕ → List ℕ → Option (ℕ × List ℕ)
number_within least most bytes = do
  number ← number_at bytes
  if nat_le least number.0 && nat_le number.0 most then Some number else None

unfoldable pub server_at : Setup → List ℕ → Option (ℕ × List ℕ)
server_at setup bytes = do
  number ← number_at bytes
  if nat_lt number.0 setup.servers then Some number else None

unfoldable pub name_at : List ℕ → Option (List ℕ × List ℕ)
name_at bytes = do
  word ← word_at bytes
  name ← name_of word.0
  Some (name, word.1)

-- ---- a call

-- a directory
unfoldable pub directory_at : List ℕ → Option (ℕ × List ℕ)
directory_at bytes = do
  number ← number_at bytes
  if is_directory number.0 then Some number else None

-- a directory and a name in it
unfoldable pub place_at : List ℕ → Option (ℕ × List ℕ × List ℕ)
place_at bytes = do
  dir ← directory_at bytes
  name ← name_at dir.1
  Some (dir.0, name.0, name.1)

-- an owner and a time of modification
unfoldable pub stamp_here : List ℕ → Option (Option Stamp × List ℕ)
stamp_here bytes = do
  owner ← number_within 0 (2 ^ 32 - 1) bytes
  mtime ← number_at owner.1
  Some (Some (record { owner = owner.0; mtime = mtime.0 }), mtime.1)

-- a stamp, where a word is left
unfoldable pub stamp_at : List ℕ → Option (Option Stamp × List ℕ)
stamp_at bytes = if is_end bytes then Some (None, bytes) else stamp_here bytes

unfoldable pub setattr_after : ℕ → List ℕ → List ℕ → Option (Call × List ℕ)
setattr_after dir name bytes = do
  mode ← number_within 0 MODE_MOST bytes
  size ← number_at mode.1
  stamp ← stamp_at size.1
  Some (calls.Setattr dir name mode.0 size.0 stamp.0, stamp.1)

-- what follows the verb in a call
unfoldable pub call_after : CallVerb → List ℕ → Option (Call × List ℕ)
call_after asked.Create bytes = do
  place ← place_at bytes
  Some (calls.Create place.0 place.1, place.2)
call_after asked.Mkdir bytes = do
  place ← place_at bytes
  Some (calls.Mkdir place.0 place.1, place.2)
call_after asked.Remove bytes = do
  place ← place_at bytes
  Some (calls.Remove place.0 place.1, place.2)
call_after asked.Lookup bytes = do
  place ← place_at bytes
  Some (calls.Lookup place.0 place.1, place.2)
call_after asked.Setattr bytes = do
  place ← place_at bytes
  setattr_after place.0 place.1 place.2
call_after asked.Scan bytes = do
  dir ← directory_at bytes
  Some (calls.Scan dir.0, dir.1)

unfoldable pub call_at : List ℕ → Option (Call × List ℕ)
call_at bytes = do
  word ← word_at bytes
  verb ← call_verb_of word.0
  call_after verb word.1

-- a client
abbrev pub client_at : Setup → List ℕ → Option (ℕ × List ℕ)
client_at setup bytes = number_within 1 setup.clients bytes

-- a client, and the call that it is to make
unfoldable pub asked_at : Setup → List ℕ → Option (ℕ × Call × List ℕ)
asked_at setup bytes = do
  client ← client_at setup bytes
  call ← call_at client.1
  Some (client.0, call.0, call.1)

-- as many numbers as there are, but at most so many
unfoldable pub numbers_at : ℕ → List ℕ → Option (List ℕ × List ℕ)
numbers_at zero bytes = Some ([], bytes)
numbers_at (suc most) bytes = if is_end bytes then Some ([], bytes)
    else (number_at bytes >>= (λ number. numbers_at most number.1 >>= (λ more. Some (number.0 ∷ more.0, more.1))))

-- ---- a line, behind its first word

unfoldable pub call_line : Setup → List ℕ → Option (Line × List ℕ)
call_line setup bytes = do
  asked ← asked_at setup bytes
  Some (lines.Call asked.0 asked.1, asked.2)

unfoldable pub issue_line : Setup → List ℕ → Option (Line × List ℕ)
issue_line setup bytes = do
  asked ← asked_at setup bytes
  Some (lines.Issue asked.0 asked.1, asked.2)

unfoldable pub retry_line : Setup → List ℕ → Option (Line × List ℕ)
retry_line setup bytes = do
  client ← client_at setup bytes
  Some (lines.Retry client.0, client.1)

unfoldable pub deliver_line : List ℕ → Option (Line × List ℕ)
deliver_line bytes = do
  message ← number_at bytes
  Some (lines.Deliver message.0, message.1)

-- from 1 to `BATCH_MOST` places
unfoldable pub batch_line : Setup → List ℕ → Option (Line × List ℕ)
batch_line setup bytes = do
  server ← server_at setup bytes
  places ← numbers_at BATCH_MOST server.1
  if nat_le 1 (length places.0) then Some (lines.Batch server.0 places.0, places.1) else None

unfoldable pub take_line : Setup → List ℕ → Option (Line × List ℕ)
take_line setup bytes = do
  client ← client_at setup bytes
  message ← number_at client.1
  Some (lines.Take client.0 message.0, message.1)

unfoldable pub remind_line : Setup → List ℕ → Option (Line × List ℕ)
remind_line setup bytes = do
  server ← server_at setup bytes
  Some (lines.Remind server.0, server.1)

unfoldable pub tick_line : List ℕ → Option (Line × List ℕ)
tick_line bytes = do
  by ← number_within 1 TICK_MOST bytes
  Some (lines.Tick by.0, by.1)

unfoldable pub fuse_line : Setup → List ℕ → Option (Line × List ℕ)
fuse_line setup bytes = do
  server ← server_at setup bytes
  calls ← number_within 0 FUSE_MOST server.1
  Some (lines.Fuse server.0 calls.0, calls.1)

unfoldable pub stop_line : Setup → List ℕ → Option (Line × List ℕ)
stop_line setup bytes = do
  server ← server_at setup bytes
  Some (lines.Stop server.0, server.1)

unfoldable pub restart_line : Setup → List ℕ → Option (Line × List ℕ)
restart_line setup bytes = do
  server ← server_at setup bytes
  Some (lines.Restart server.0, server.1)

unfoldable pub walk_line : Setup → List ℕ → Option (Line × List ℕ)
walk_line setup bytes = do
  client ← client_at setup bytes
  path ← word_at client.1
  Some (lines.Walk client.0 path.0, path.1)

unfoldable pub bulk_line : Setup → List ℕ → Option (Line × List ℕ)
bulk_line setup bytes = do
  client ← client_at setup bytes
  place ← place_at client.1
  json ← rest_at place.2
  Some (lines.Bulk client.0 place.0 place.1 json.0, json.1)

unfoldable pub rmdir_line : Setup → List ℕ → Option (Line × List ℕ)
rmdir_line setup bytes = do
  client ← client_at setup bytes
  place ← place_at client.1
  Some (lines.Rmdir client.0 place.0 place.1, place.2)

unfoldable pub feed_line : Setup → List ℕ → Option (Line × List ℕ)
feed_line setup bytes = do
  server ← server_at setup bytes
  Some (lines.Feed server.0, server.1)

unfoldable pub promote_line : Setup → List ℕ → Option (Line × List ℕ)
promote_line setup bytes = do
  server ← server_at setup bytes
  Some (lines.Promote server.0, server.1)

unfoldable pub line_after : Verb → Setup → List ℕ → Option (Line × List ℕ)
line_after verbs.Call setup bytes = call_line setup bytes
line_after verbs.Issue setup bytes = issue_line setup bytes
line_after verbs.Retry setup bytes = retry_line setup bytes
line_after verbs.Deliver setup bytes = deliver_line bytes
line_after verbs.Batch setup bytes = batch_line setup bytes
line_after verbs.Take setup bytes = take_line setup bytes
line_after verbs.Settle setup bytes = Some (lines.Settle, bytes)
line_after verbs.Remind setup bytes = remind_line setup bytes
line_after verbs.Tick setup bytes = tick_line bytes
line_after verbs.Fuse setup bytes = fuse_line setup bytes
line_after verbs.Stop setup bytes = stop_line setup bytes
line_after verbs.Restart setup bytes = restart_line setup bytes
line_after verbs.Walk setup bytes = walk_line setup bytes
line_after verbs.Bulk setup bytes = bulk_line setup bytes
line_after verbs.Rmdir setup bytes = rmdir_line setup bytes
line_after verbs.Feed setup bytes = feed_line setup bytes
line_after verbs.Promote setup bytes = promote_line setup bytes

-- the line that begins with this word
unfoldable pub line_from : Setup → Option (List ℕ × List ℕ) → Option Line
line_from setup None = Some lines.Skipped
line_from setup (Some word) = do
  verb ← verb_of word.0
  line ← line_after verb setup word.1
  if is_end line.1 then Some line.0 else None

-- the line that the words of these bytes are
unfoldable pub line_of : Setup → List ℕ → Option Line
line_of setup bytes = line_from setup (word_at bytes)
