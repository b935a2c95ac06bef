use Rattle.records.proofs.Growing.{more_or_same}
use Rattle.records.proofs.writing.put_bytes.Goals as goal

pub returns-clause-grows : goal.returns-clause-grows
returns-clause-grows c = more_or_same _ _ _ _ c.extend_from_slice.ensures.items
