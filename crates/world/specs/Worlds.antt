-- Worlds: servers, clients, and every message that was ever sent, as a value.
use Rattle.std.specs.Prelude.{ℕ, true, false, List, []}
use Rattle.std.specs.List.{range_with_len}
use Rattle.std.specs.FinMap as maps
use Rattle.std.specs.Prelude.{map}
use Rattle.mds_base.specs.declared.setup.Setup.{Setup}
use Rattle.records.specs.declared.msg.Msg.{Msg}
use Rattle.node_core.specs.Nodes.{NodeAndRows, new_node}
use Rattle.client_core.specs.Clients.{new_client}
use Rattle.world.specs.declared.state.ServerState.{ServerState}
use Rattle.world.specs.declared.state.ClientState.{ClientState}

pub record WorldV : Type 0 where
  pub setup : Setup
  -- the moment
  pub now : ℕ
  -- the servers, by their numbers
  pub servers : List ServerState
  -- the clients, by their numbers less 1
  pub clients : List ClientState
  -- all messages, in the order in which they were sent
  pub sent : List Msg

abbrev pub store_of : ServerState → NodeAndRows
store_of server = record { node = server.node; rows = server.rows }

-- a server with another store
abbrev pub with_store : ServerState → NodeAndRows → ServerState
with_store server store = record { node = store.node; rows = store.rows; up = server.up; doubt = server.doubt }

abbrev pub new_server : Setup → ℕ → ServerState
new_server setup number = record { node = new_node number setup; rows = maps.empty; up = true; doubt = [] }

abbrev pub new_seat : Setup → ℕ → ClientState
new_seat setup number = record { client = new_client number setup; quit = false }

-- a world in which nothing happened yet, over servers
abbrev pub fresh_world : Setup → List ServerState → WorldV
fresh_world setup servers = record {
  setup = setup;
  now = 0;
  servers = servers;
  clients =
      map (new_seat setup) (range_with_len 1 setup.clients);
  sent = [];
}

abbrev pub new_world : Setup → WorldV
new_world setup = fresh_world setup (map (new_server setup) (range_with_len 0 setup.servers))
