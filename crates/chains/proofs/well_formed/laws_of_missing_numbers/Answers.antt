use Rattle.std.proofs.Common.{◌≡◌, false}
use Rattle.chains.specs.WellFormed.{IsRequiredBy}
use Rattle.chains.proofs.Sets.{formed_misses, formed_from, with_formed, missing_with, required_missing}
use Rattle.chains.proofs.well_formed.laws_of_missing_numbers.Goals as goal

pub returns-clause-none_missing : goal.returns-clause-none_missing
returns-clause-none_missing c = λ radix set f. formed_misses f

pub returns-clause-well_formed : goal.returns-clause-well_formed
returns-clause-well_formed c = λ radix set below none. formed_from below none

pub returns-clause-with_child : goal.returns-clause-with_child
returns-clause-with_child c = λ radix set part depth f low deep. with_formed f part depth low deep

pub returns-clause-child_misses : goal.returns-clause-child_misses
returns-clause-child_misses c = λ radix set part depth m f low deep. (missing_with f part depth low m, λ (w : (set m ≡ false) × IsRequiredBy part depth m). required_missing set part depth low deep m w.0 w.1)
