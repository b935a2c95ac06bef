use Rattle.rows_store.proofs.merges.merge_all.Goals as goal

pub take_turns-requires-clause-merging : goal.take_turns-requires-clause-merging
take_turns-requires-clause-merging g c = c.in_ok-merge.ensures.merging (g.D.Disk.seen c.args.disk.now) (g.D.Disk.sizes c.args.disk.now)
