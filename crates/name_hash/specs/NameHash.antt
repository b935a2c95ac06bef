-- The hash of a name.
use Rattle.std.specs.Prelude.{ℕ, List, take}
use Rattle.std.specs.Int.{from_be_bytes, w64}
use Rattle.md5.specs.Md5.{md5}

-- the first 8 bytes of the name's MD5 digest, read as a big-endian number
unfoldable pub hash_of : List ℕ → ℕ
hash_of name = from_be_bytes w64 (take 8 (md5 name))
