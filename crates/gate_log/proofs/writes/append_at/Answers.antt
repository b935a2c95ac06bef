use Rattle.std.proofs.Common.{◌+◌, ◌-◌, length, max, arith}
use Rattle.std.proofs.lemmas.Result.{on_ok_weaker}
use Rattle.gate_log.proofs.Appends.{after_first, after_both, appended, kept_after, known_after, on_ok_three, piece_length}
use Rattle.gate_log.proofs.writes.append_at.Goals as goal

pub returns-in_err-write_synced-clause-any_moment : goal.returns-in_err-write_synced-clause-any_moment
returns-in_err-write_synced-clause-any_moment g c = λ bodies log.
    after_first c.args.file c.args.end bodies c.args.piece.now c.bytes.result.now c.bytes.ensures.bytes g.D.Disk.moment g.D.Disk.images_since (g.D.Disk.seen c.args.disk.now c.args.file) (g.D.Disk.images c.args.disk.now) c.args.disk.now c.write_synced.new.disk
    c.requires.ready.told log c.write_synced.ensures.any_moment

pub returns-clause-any_moment : goal.returns-clause-any_moment
returns-clause-any_moment g c = λ bodies log.
    after_both c.args.file c.args.end bodies c.args.piece.now c.bytes.result.now c.bytes.ensures.bytes g.D.Disk.moment g.D.Disk.images_since (g.D.Disk.seen c.args.disk.now c.args.file) (g.D.Disk.seen c.write_synced.new.disk c.args.file) (g.D.Disk.images c.args.disk.now) (g.D.Disk.images c.write_synced.new.disk) c.args.disk.now c.write_synced.new.disk c.write_synced-2.new.disk
    (omega (arith, c.bytes.ensures.short)) c.requires.ready.told log c.write_synced.ensures.any_moment c.in_ok-write_synced.ensures.written c.in_ok-write_synced.ensures.durable c.write_synced-2.ensures.any_moment

pub returns-clause-appended : goal.returns-clause-appended
returns-clause-appended g c = on_ok_weaker c.write_synced-2.result
    (λ second bodies log. appended c.args.file c.args.end bodies c.args.piece.now c.bytes.result.now c.bytes.ensures.bytes (g.D.Disk.seen c.args.disk.now c.args.file) (g.D.Disk.seen c.write_synced.new.disk c.args.file) (g.D.Disk.seen c.write_synced-2.new.disk c.args.file) (omega (arith, c.bytes.ensures.short)) c.in_ok-write_synced.ensures.written second log)
    c.write_synced-2.ensures.written

pub returns-clause-ready : goal.returns-clause-ready
returns-clause-ready g c = on_ok_three c.write_synced-2.result
    (λ second size durable.
    let first_size = known_after (g.D.Disk.sizes c.args.disk.now c.args.file) (g.D.Disk.sizes c.write_synced.new.disk c.args.file) c.requires.ready.size (λ n. max n (c.args.end + length c.bytes.result.now)) c.requires.ready.known c.in_ok-write_synced.ensures.size in
    record {
      size = max (max c.requires.ready.size (c.args.end + length c.bytes.result.now)) (c.args.end - 1 + 1);
      known = known_after (g.D.Disk.sizes c.write_synced.new.disk c.args.file) (g.D.Disk.sizes c.write_synced-2.new.disk c.args.file) (max c.requires.ready.size (c.args.end + length c.bytes.result.now)) (λ n. max n (c.args.end - 1 + 1)) first_size size;
      reaches = omega (arith, piece_length c.args.piece.now c.bytes.result.now c.bytes.ensures.bytes);
      some = omega arith;
      told = kept_after c.args.file c.args.end c.args.piece.now c.bytes.result.now c.bytes.ensures.bytes (g.D.Disk.seen c.args.disk.now c.args.file) (g.D.Disk.seen c.write_synced.new.disk c.args.file) (g.D.Disk.seen c.write_synced-2.new.disk c.args.file) (g.D.Disk.images c.args.disk.now) (g.D.Disk.images c.write_synced-2.new.disk) (omega (arith, c.bytes.ensures.short)) c.in_ok-write_synced.ensures.written second durable c.requires.ready.told;
    })
    c.write_synced-2.ensures.written c.write_synced-2.ensures.size c.write_synced-2.ensures.durable
