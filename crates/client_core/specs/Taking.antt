-- What a client makes of a message.
use Rattle.std.specs.Prelude.{◌≡◌, ℕ, ◌&&◌, ◌==◌, Bool, true, false, Option, Some, None}
use Rattle.mds_base.specs.declared.call.Call.{Call}
use Rattle.mds_base.specs.declared.reply.Reply.{Reply}
use Rattle.mds_base.specs.declared.reply.Reply.TheVariants.{Said, Found, Listed}
use Rattle.records.specs.declared.msg.Msg.{Msg}
use Rattle.records.specs.declared.msg.Msg.TheVariants.{Redirect, Answer, Busy, Held, Page, Closed}
use Rattle.bitmap.specs.Bits.{Bits}
use Rattle.client_core.specs.declared.client.Pending.{Pending}
use Rattle.client_core.specs.declared.taken.Taken.{Taken}
use Rattle.client_core.specs.declared.taken.Taken.TheVariants as variants
use Rattle.client_core.specs.Clients.{ClientV, target_of, merged, resent}
use Rattle.mds_base.specs.Calls.{CallOn, OnName, OnDirectory, OnPartition, asked_of, dir_of}

abbrev pub is_said : Reply → Bool
is_said (Said said) = true
is_said (Found attr until) = false
is_said (Listed rows) = false

abbrev pub is_looked : Reply → Bool
is_looked (Said said) = true
is_looked (Found attr until) = true
is_looked (Listed rows) = false

-- whether a reply answers a call: a scan is answered by pages alone, and only a lookup finds attributes
abbrev pub fits_on : CallOn → Reply → Bool
fits_on (OnName dir name true) reply = is_said reply
fits_on (OnName dir name false) reply = is_looked reply
fits_on (OnDirectory dir) reply = false
fits_on (OnPartition dir part) reply = is_said reply

abbrev pub fits : Call → Reply → Bool
fits call reply = fits_on (asked_of call) reply

-- whether numbers are those of the open call's present sending
abbrev pub is_present : ClientV → Pending → ℕ → ℕ → Bool
is_present client pending seq attempt = (seq == client.seq) && (attempt == pending.attempt)

-- what was made of a message, and the client then
pub record Took : Type 0 where
  pub taken : Taken
  pub client : ClientV

abbrev pub ignored : ClientV → Took
ignored client = record { taken = variants.Ignored; client = client }

-- the client once its open call was answered
abbrev pub closed : ClientV → ClientV
closed client = record client { pending = None }

-- whether numbers are those of the present sending, where a call is open
abbrev pub present_at : ClientV → Option Pending → ℕ → ℕ → Bool
present_at client None seq attempt = false
present_at client (Some pending) seq attempt = is_present client pending seq attempt

-- whether a redirection of a directory is one of the open call
abbrev pub redirects_at : ClientV → Option Pending → ℕ → ℕ → ℕ → Bool
redirects_at client None seq attempt dir = false
redirects_at client (Some pending) seq attempt dir =
    is_present client pending seq attempt && (dir == dir_of pending.call)

-- whether a reply answers the open call
abbrev pub answers_at : ClientV → Option Pending → ℕ → ℕ → Reply → Bool
answers_at client None seq attempt reply = false
answers_at client (Some pending) seq attempt reply = is_present client pending seq attempt && fits pending.call reply

-- what taking an answer, a Busy and a Held comes to, by whether it is of the present sending and fits
abbrev pub answered_if : ClientV → Reply → Bool → Took
answered_if client reply true = record { taken = variants.Answer reply; client = closed client }
answered_if client reply false = ignored client

abbrev pub busy_if : ClientV → ℕ → Bool → Took
busy_if client part true = record { taken = variants.Busy part; client = client }
busy_if client part false = ignored client

abbrev pub held_if : ClientV → ℕ → Bool → Took
held_if client until true = record { taken = variants.Held until; client = client }
held_if client until false = ignored client

-- a redirection that is taken: the bitmap is merged, and the attempt number rises at once
abbrev pub redirected_if : ClientV → Pending → ℕ → Bits → Bool → Took
redirected_if client pending dir bits true = record {
  taken = variants.Redirected
      (target_of (merged client dir bits) pending.call);
  client = resent (merged client dir bits) pending;
}
redirected_if client pending dir bits false = ignored client

abbrev pub take_pending : ClientV → Pending → Msg → Took
take_pending client pending (Answer to seq attempt reply) =
    answered_if client reply (is_present client pending seq attempt && fits pending.call reply)
take_pending client pending (Redirect to seq attempt dir bits) =
    redirected_if client pending dir bits (is_present client pending seq attempt && (dir == dir_of pending.call))
take_pending client pending (Busy to seq attempt part depth) =
    busy_if client part (is_present client pending seq attempt)
take_pending client pending (Held to seq attempt until) = held_if client until (is_present client pending seq attempt)
take_pending client pending msg = ignored client

-- what a redirection comes to, where a call is open
abbrev pub redirected_at : ClientV → Option Pending → ℕ → ℕ → ℕ → Bits → Took
redirected_at client None seq attempt dir bits = ignored client
redirected_at client (Some pending) seq attempt dir bits =
    redirected_if client pending dir bits (is_present client pending seq attempt && (dir == dir_of pending.call))

abbrev pub take_at : ClientV → Option Pending → Msg → Took
take_at client None msg = ignored client
take_at client (Some pending) msg = take_pending client pending msg

-- taking a message: a message of another call or attempt, or one that does not fit the open call, changes nothing
abbrev pub take : ClientV → Msg → Took
take client msg = take_at client client.pending msg

-- what was made of a message is what the specification says
pub record IsTaken (took : Took) (taken : Taken) (client : ClientV) : Type 0 where
  pub taken' : taken ≡ took.taken
  pub client' : client ≡ took.client
