-- A client, as a value: its number, the calls that it numbered so far, its open call, and a bitmap for each directory.
use Rattle.std.specs.Prelude.{◌≡◌, ℕ, ◌+◌, ◌<◌, List, Option, Some, None, unwrap_or}
use Rattle.std.specs.Ordering.{nat_cmp}
use Rattle.std.specs.FinMap as map
use Rattle.std.specs.FinSet as set
use Rattle.mds_base.specs.declared.limits.TheConstants.{ATTEMPTS, DIRECTORIES}
use Rattle.mds_base.specs.Calls.{CallOn, OnName, OnDirectory, OnPartition, asked_of, dir_of}
use Rattle.mds_base.specs.declared.TheConstants.{RADIX}
use Rattle.mds_base.specs.declared.setup.Setup.{Setup}
use Rattle.mds_base.specs.declared.call.Call.{Call}
use Rattle.mds_base.specs.declared.call.Call.TheVariants.{Scan}
use Rattle.mds_base.specs.declared.cursor.Cursor.{Cursor}
use Rattle.records.specs.declared.msg.Msg.{Msg}
use Rattle.records.specs.declared.msg.Msg.TheVariants.{Request}
use Rattle.bitmap.specs.Bits.{Bits, has}
use Rattle.chains.specs.Located.{located}
use Rattle.placement.specs.Placement.{server_of}
use Rattle.name_hash.specs.NameHash.{hash_of}
use Rattle.client_core.specs.declared.client.Pending.{Pending}

pub record ClientV : Type 0 where
  -- the client's number, from 1
  pub number : ℕ
  pub setup : Setup
  -- how many calls it numbered so far
  pub seq : ℕ
  pub pending : Option Pending
  pub bits : map.FinMap nat_cmp Bits

abbrev pub new_client : ℕ → Setup → ClientV
new_client number setup = record { number = number; setup = setup; seq = 0; pending = None; bits = map.empty }

-- the bitmap with partition 0 alone
abbrev pub zero_bits : Bits
zero_bits = set.insert set.empty 0

-- the client's bitmap of a directory, which begins with partition 0 alone
abbrev pub bits_in : ClientV → ℕ → Bits
bits_in client dir = unwrap_or (map.get client.bits dir) zero_bits

-- the partition that the client locates for a name of a directory
abbrev pub located_in : ClientV → ℕ → List ℕ → ℕ
located_in client dir name = located RADIX (hash_of name) (has (bits_in client dir))

-- the partition to which the client sends a call; the first page of a scan is asked of partition 0
abbrev pub target_on : ClientV → CallOn → ℕ
target_on client (OnName dir name changes) = located_in client dir name
target_on client (OnDirectory dir) = 0
target_on client (OnPartition dir part) = part

abbrev pub target_of : ClientV → Call → ℕ
target_of client call = target_on client (asked_of call)

-- a scan begins before all names
abbrev pub cursor_of : Call → Option Cursor
cursor_of (Scan dir) = Some (record { at = 0; after = None })
cursor_of call = None

-- the request that a client sends
abbrev pub request_of : ClientV → ℕ → ℕ → Call → Msg
request_of client seq attempt call =
    Request (server_of (dir_of call) (target_of client call) client.setup.servers)
    (record { client = client.number; seq = seq; attempt = attempt; call = call }) (cursor_of call)

-- the client once its next call was sent for the first time
abbrev pub issued : ClientV → Call → ClientV
issued client call = record {
  number = client.number;
  setup = client.setup;
  bits = client.bits;
  seq = client.seq + 1;
  pending = Some (record { call = call; attempt = 1 });
}

abbrev pub issue_msg : ClientV → Call → Msg
issue_msg client call = request_of client (client.seq + 1) 1 call

-- the client once its open call was sent again
abbrev pub resent : ClientV → Pending → ClientV
resent client pending = record client { pending = Some (record { call = pending.call; attempt = pending.attempt + 1 }) }

abbrev pub resend_msg : ClientV → Pending → Msg
resend_msg client pending = request_of client client.seq (pending.attempt + 1) pending.call

-- the client once a bitmap of a directory was merged into its own
abbrev pub merged : ClientV → ℕ → Bits → ClientV
merged client dir bits = record client { bits = map.insert client.bits dir (set.union (bits_in client dir) bits) }

-- the attempt number of an open call, 0 where none is open
abbrev pub attempt_of : Option Pending → ℕ
attempt_of None = 0
attempt_of (Some pending) = pending.attempt

-- a call is open whose directory's number is within its range, and whose attempts leave room
abbrev pub HasPending : Option Pending → Type 0
HasPending None = ⊥
HasPending (Some pending) = (dir_of pending.call < DIRECTORIES) × (pending.attempt < ATTEMPTS)

-- the attempts of the open call, if there is one, leave room
abbrev pub HasRoom : Option Pending → Type 0
HasRoom None = Unit {0}
HasRoom (Some pending) = pending.attempt < ATTEMPTS

-- the open call was sent again
abbrev pub SendsAgain : ClientV → ClientV → Msg → Option Pending → Type 0
SendsAgain old new msg None = ⊥
SendsAgain old new msg (Some pending) = (msg ≡ resend_msg old pending) × (new ≡ resent old pending)
