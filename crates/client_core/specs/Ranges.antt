-- The ranges of a client's numbers.
use Rattle.std.specs.Prelude.{◌<◌}
use Rattle.mds_base.specs.declared.setup.Setup.{Setup}

pub record AreRanges (setup : Setup) : Type 0 where
  pub some_servers : 0 < setup.servers
