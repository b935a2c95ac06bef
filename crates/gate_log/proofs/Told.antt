-- A file that a disk tells is told after its calls.
use Rattle.std.proofs.Common.{◌≡◌, ℕ, List, Option, None, Some, subst, sym}
use Rattle.mds_out.specs.Disk.{StaysTold}

pub told_here : (seen : Option (List ℕ)) → StaysTold seen seen
told_here None = tt
told_here (Some bytes) = tt

-- by one call more
pub told_on : (seen seen' seen'' : Option (List ℕ)) → StaysTold seen seen' → StaysTold seen' seen'' → StaysTold seen seen''
told_on None None None first second = tt
told_on None None (Some now) first second = absurd second
told_on None (Some mid) seen'' first second = absurd first
told_on (Some before) None seen'' first second = absurd first
told_on (Some before) (Some mid) None first second = absurd second
told_on (Some before) (Some mid) (Some now) first second = tt

-- by one that changed nothing
pub told_still : (seen seen' seen'' : Option (List ℕ)) → StaysTold seen seen' → seen'' ≡ seen' → StaysTold seen seen''
told_still seen seen' seen'' told same = subst (StaysTold seen) (sym same) told
