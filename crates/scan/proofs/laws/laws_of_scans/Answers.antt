use Rattle.scan.proofs.Orders.{whole_scan}
use Rattle.scan.proofs.laws.laws_of_scans.Goals as goal

pub returns-clause-rise : goal.returns-clause-rise
returns-clause-rise c = λ pages are. (whole_scan pages are).0

pub returns-clause-behind : goal.returns-clause-behind
returns-clause-behind c = λ pages are. (whole_scan pages are).1
