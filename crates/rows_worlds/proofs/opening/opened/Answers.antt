use Rattle.node_store.proofs.Stores.{is_up}
use Rattle.rows_worlds.proofs.opening.opened.Goals as goal

pub next_id-next-requires : goal.next_id-next-requires
next_id-next-requires c = is_up c.is_down.result c.args.store.up c.if-is_down.false c.is_down.ensures.1
