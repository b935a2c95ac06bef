-- What a run may be started with.
use Rattle.std.specs.Prelude.{◌≤◌, ◌&&◌, Bool, nat_le}
use Rattle.mds_base.specs.declared.limits.TheConstants.{SERVERS_MOST, CLIENTS_MOST, LEASE_MOST, THRESHOLD_MOST}
use Rattle.mds_base.specs.declared.setup.Setup.{Setup}

pub record IsSetup (setup : Setup) : Type 0 where
  pub some_server : 1 ≤ setup.servers
  pub few_servers : setup.servers ≤ SERVERS_MOST
  pub some_client : 1 ≤ setup.clients
  pub few_clients : setup.clients ≤ CLIENTS_MOST
  pub lease : setup.lease ≤ LEASE_MOST
  pub some_row : 1 ≤ setup.threshold
  pub few_rows : setup.threshold ≤ THRESHOLD_MOST

-- whether it is one
abbrev pub is_setup : Setup → Bool
is_setup setup =
    ((nat_le 1 setup.servers && nat_le setup.servers SERVERS_MOST)
    && (nat_le 1 setup.clients && nat_le setup.clients CLIENTS_MOST))
    && (nat_le setup.lease LEASE_MOST && (nat_le 1 setup.threshold && nat_le setup.threshold THRESHOLD_MOST))
