-- What a disk that tells no content owes as a disk: the laws, proved.
use Rattle.std.specs.Prelude.{◌≡◌, ℕ, List, Option, None, Some, length}

-- no content is told
pub never_told : {bytes : List ℕ} {size : Option ℕ} → None ≡ Some bytes → size ≡ Some (length bytes)
never_told told = cc
