-- Where the partitions of a directory lie.
use Rattle.std.specs.Prelude.{ℕ, ◌+◌, ◌%◌}

-- the server of a partition of a directory, among so many servers
abbrev pub server_of : ℕ → ℕ → ℕ → ℕ
server_of dir part servers = (dir + part) % servers
