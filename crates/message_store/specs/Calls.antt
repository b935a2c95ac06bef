-- How calls lie: the bytes of their names one behind the other, and a row for each call.
use Rattle.std.specs.Prelude.{◌≡◌, ℕ, ◌+◌, ◌≤◌, ◌<◌, List, ◌++◌, length, take, drop, get_or, IsTrue}
use Rattle.std.specs.Prelude.{Option, Some, None, Result, Ok, Err}
use Rattle.mds_base.specs.Name.{is_name}
use Rattle.mds_base.specs.declared.ask.Ask.{Ask}
use Rattle.mds_base.specs.declared.call.Call.{Call}
use Rattle.mds_base.specs.declared.call.Call.TheVariants as calls
use Rattle.mds_base.specs.declared.entry.Entry.{Entry}
use Rattle.mds_base.specs.declared.reply.Reply.{Reply}
use Rattle.message_store.specs.declared.calls.Verb.{Verb}
use Rattle.message_store.specs.declared.calls.Verb.TheVariants as verbs
use Rattle.message_store.specs.declared.calls.CallSlot.{CallSlot}
use Rattle.message_store.specs.declared.calls.CallSlot.TheVariants as slots
use Rattle.message_store.specs.declared.calls.CallRow.{CallRow}

-- what was put has this property; or nothing was put, for want of room in a row or of memory
abbrev pub OnFit : {T E : Type 0} → Result (Option T) E → (T → Type 0) → Type 0 → Type 0
OnFit (Ok (Some x)) Fits Else = Fits x
OnFit (Ok None) Fits Else = Else
OnFit (Err e) Fits Else = Else

-- the bytes of a name, at an offset
abbrev pub name_in : List ℕ → ℕ → ℕ → List ℕ
name_in bytes at len = take len (drop at bytes)

pub record IsNameIn (bytes : List ℕ) (at len : ℕ) : Type 0 where
  pub within : at + len ≤ length bytes
  pub named : IsTrue (is_name (name_in bytes at len))

-- a call on a name that has no other parts
abbrev pub named_call : Verb → ℕ → List ℕ → Call
named_call verbs.Create dir name = calls.Create dir name
named_call verbs.Mkdir dir name = calls.Mkdir dir name
named_call verbs.Remove dir name = calls.Remove dir name
named_call verbs.Lookup dir name = calls.Lookup dir name

-- the call of a slot, over the bytes of names
abbrev pub call_in : List ℕ → CallSlot → Call
call_in bytes (slots.Named verb len at dir) = named_call verb dir (name_in bytes at len)
call_in bytes (slots.Setattr len mode at dir size) = calls.Setattr dir (name_in bytes at len) mode size None

-- its name lies among the bytes
abbrev pub IsCallIn : List ℕ → CallSlot → Type 0
IsCallIn bytes (slots.Named verb len at dir) = IsNameIn bytes at len
IsCallIn bytes (slots.Setattr len mode at dir size) = IsNameIn bytes at len

-- a call, with its client and its number among the client's calls
pub record CallV : Type 0 where
  pub client : ℕ
  pub seq : ℕ
  pub call : Call

abbrev pub call_of : Ask → CallV
call_of ask = record { client = ask.client; seq = ask.seq; call = ask.call }

-- and as it is sent
abbrev pub ask_of : CallV → ℕ → Ask
ask_of call attempt = record { seq = call.seq; client = call.client; attempt = attempt; call = call.call }

-- the entry of a call that got this reply
abbrev pub entry_of : CallV → Reply → Entry
entry_of call reply = record { client = call.client; seq = call.seq; call = call.call; reply = reply }

abbrev pub no_call : CallV
no_call = record { client = 0; seq = 0; call = calls.Scan 0 }

abbrev pub row_in : List ℕ → CallRow → CallV
row_in bytes row = record { client = row.client; seq = row.seq; call = call_in bytes row.slot }

abbrev pub IsRowIn : List ℕ → CallRow → Type 0
IsRowIn bytes row = IsCallIn bytes row.slot

-- a call was put: its name's bytes stand at the end, and the slot shows it
pub record IsCallPut (bytes bytes_new : List ℕ) (slot : CallSlot) (call : Call) : Type 0 where
  pub more : List ℕ
  pub grows : bytes_new ≡ bytes ++ more
  pub shows : call_in bytes_new slot ≡ call
  pub within : IsCallIn bytes_new slot

-- the call of this row is one of the client, with this number
pub record IsCallOf (kept : List CallV) (row client seq : ℕ) : Type 0 where
  pub there : row < length kept
  pub client' : (get_or kept row no_call).client ≡ client
  pub seq' : (get_or kept row no_call).seq ≡ seq
