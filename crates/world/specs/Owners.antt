-- Owners of names: each name has one server that owns it, which keeps session numbers at least those of each change
-- that was carried out on the name.
use Rattle.std.specs.Prelude.{◌≡◌, ℕ, ◌≤◌, Bool, true, List}
use Rattle.mds_base.specs.Calls.{OnName, asked_of}
use Rattle.mds_base.specs.Lists.{Each, Among, OnceBy}
use Rattle.sessions.specs.Kept.{seq_of}
use Rattle.node_core.specs.Nodes.{server_for, part_for, owns, session_in}
use Rattle.world.specs.declared.state.ServerState.{ServerState}
use Rattle.world.specs.Histories.{MadeV, Trace, Change}

-- whether a server owns a name: the partition that its node locates for the name lies on it
abbrev pub owns_name : ServerState → ℕ → List ℕ → Bool
owns_name state dir name = owns state.node dir (part_for state.node dir name)

-- the number of the last change that a server keeps of a client, in the partition that it locates for a name
abbrev pub last_kept : ServerState → ℕ → List ℕ → ℕ → ℕ
last_kept state dir name client = seq_of (session_in state.node dir (part_for state.node dir name) client)

-- a change on the name that was carried out
pub record IsChangeOn (dir : ℕ) (name : List ℕ) (e : MadeV) : Type 0 where
  pub kind : e.kind ≡ Change
  pub on : asked_of e.entry.call ≡ OnName dir name true

-- two servers that own one name
pub record BothOwn (dir : ℕ) (name : List ℕ) (a b : ServerState) : Type 0 where
  pub left : owns_name a dir name ≡ true
  pub right : owns_name b dir name ≡ true

-- a server owns the name, stands where the name's partition is placed, and keeps of each client a number at least that
-- of each change of the client on the name
pub record IsOwner (t : Trace) (dir : ℕ) (name : List ℕ) (s : ℕ) (state : ServerState) : Type 0 where
  pub owns' : owns_name state dir name ≡ true
  pub placed : s ≡ server_for t.world.setup.servers dir (part_for state.node dir name)
  pub covers : Each t.past.made (λ k e. IsChangeOn dir name e → e.entry.seq ≤ last_kept state dir name e.entry.client)

-- a name has one owner, whether up or down
pub record HasOwner (t : Trace) (dir : ℕ) (name : List ℕ) : Type 0 where
  pub owner : Among t.world.servers (λ s state. IsOwner t dir name s state)
  pub one : OnceBy t.world.servers (BothOwn dir name)
