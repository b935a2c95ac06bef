-- The test of a setup says what the relation says.
use Rattle.std.proofs.Common.{◌≡◌, ◌∙◌, sym, ◌&&◌, Bool, true}
use Rattle.std.specs.Prelude.{◌↔◌, IsTrue, nat_le}
use Rattle.std.proofs.lemmas.Bool.{and_parts, and_from, leb-true, le-leb}
use Rattle.mds_base.specs.declared.limits.TheConstants.{SERVERS_MOST, CLIENTS_MOST, LEASE_MOST, THRESHOLD_MOST}
use Rattle.mds_base.specs.declared.setup.Setup.{Setup}
use Rattle.mds_base.specs.Setups.{IsSetup, is_setup}

module _ (setup : Setup) where
  abbrev servers_fit : Bool
  servers_fit = nat_le 1 setup.servers && nat_le setup.servers SERVERS_MOST

  abbrev clients_fit : Bool
  clients_fit = nat_le 1 setup.clients && nat_le setup.clients CLIENTS_MOST

  abbrev threshold_fits : Bool
  threshold_fits = nat_le 1 setup.threshold && nat_le setup.threshold THRESHOLD_MOST

  pub setup_is : is_setup setup ≡ true → IsSetup setup
  setup_is e =
      let both = and_parts (servers_fit && clients_fit) (nat_le setup.lease LEASE_MOST && threshold_fits) e in
      let front = and_parts servers_fit clients_fit both.0 in
      let servers = and_parts (nat_le 1 setup.servers) (nat_le setup.servers SERVERS_MOST) front.0 in
      let clients = and_parts (nat_le 1 setup.clients) (nat_le setup.clients CLIENTS_MOST) front.1 in
      let back = and_parts (nat_le setup.lease LEASE_MOST) threshold_fits both.1 in
      let threshold = and_parts (nat_le 1 setup.threshold) (nat_le setup.threshold THRESHOLD_MOST) back.1 in
      record {
        some_server = leb-true 1 setup.servers servers.0;
        few_servers = leb-true setup.servers SERVERS_MOST servers.1;
        some_client = leb-true 1 setup.clients clients.0;
        few_clients = leb-true setup.clients CLIENTS_MOST clients.1;
        lease = leb-true setup.lease LEASE_MOST back.0;
        some_row = leb-true 1 setup.threshold threshold.0;
        few_rows = leb-true setup.threshold THRESHOLD_MOST threshold.1;
      }

  pub setup_passes : IsSetup setup → is_setup setup ≡ true
  setup_passes is =
      let servers = and_from (nat_le 1 setup.servers) (nat_le setup.servers SERVERS_MOST) (le-leb 1 setup.servers is.some_server) (le-leb setup.servers SERVERS_MOST is.few_servers) in
      let clients = and_from (nat_le 1 setup.clients) (nat_le setup.clients CLIENTS_MOST) (le-leb 1 setup.clients is.some_client) (le-leb setup.clients CLIENTS_MOST is.few_clients) in
      let threshold = and_from (nat_le 1 setup.threshold) (nat_le setup.threshold THRESHOLD_MOST) (le-leb 1 setup.threshold is.some_row) (le-leb setup.threshold THRESHOLD_MOST is.few_rows) in
      and_from (servers_fit && clients_fit) (nat_le setup.lease LEASE_MOST && threshold_fits) (and_from servers_fit clients_fit servers clients) (and_from (nat_le setup.lease LEASE_MOST) threshold_fits (le-leb setup.lease LEASE_MOST is.lease) threshold)

  pub setup_test : (b : Bool) → b ≡ is_setup setup → IsTrue b ↔ IsSetup setup
  setup_test b is = (λ t. setup_is (sym is ∙ t), λ s. is ∙ setup_passes s)
