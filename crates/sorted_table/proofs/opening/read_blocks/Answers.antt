use Rattle.std.proofs.Common.{◌≡◌, ◌∙◌, ◌+◌, ◌*◌, ◌≤◌, ℕ, List, Option, [], length, take, drop, ap, subst, sym, refl, arith}
use Rattle.mds_out.specs.Known.{OnTold}
use Rattle.mds_out.proofs.Moments.{both, started}
use Rattle.gate_log.proofs.Scans.{unchanged_twice, same_twice, known_still}
use Rattle.sorted_table.proofs.Opens.{unchanged_here, same_here, opening_none, opening_more, read_whole, within_known}
use Rattle.sorted_table.proofs.opening.read_blocks.Goals as goal

pub whole-init : goal.whole-init
whole-init g c =
    let none : length c.new.result.firsts.items ≤ 0 = omega (arith, ap length c.new.ensures.firsts) in
    record {
      within = omega arith;
      opening = opening_none (g.D.Disk.seen c.args.disk.now c.args.file) c.new-sum.result c.new.result c.new-sum.ensures c.new.ensures;
      aligned = (0, refl, none);
      unchanged = unchanged_here (g.D.Disk.seen c.args.disk.now) (g.D.Disk.sizes c.args.disk.now);
      same = same_here (g.D.Disk.images c.args.disk.now);
      moment = started g.D.Disk.moment g.D.Disk.images_since c.args.disk.now (g.D.Disk.images c.args.disk.now) (g.met.D.Disk.only_now c.args.disk.now);
      lasting = g.met.D.Disk.lasts_here c.args.disk.now;
      quiet = refl;
      asked = omega arith;
      changes = refl;
    }

pub read_at-requires-clause-within : goal.read_at-requires-clause-within
read_at-requires-clause-within g c =
    within_known (g.D.Disk.sizes c.whole.disk c.args.file) (c.args.end + 16) (c.whole.at + length c.whole.block)
    (known_still (g.D.Disk.sizes c.args.disk.now c.args.file) (g.D.Disk.sizes c.whole.disk c.args.file) (c.args.end + 16) c.requires.known (c.whole.invariant.unchanged.lengths c.args.file))
    (omega (arith, c.whole.auto.block, c.requires.block, c.whole-test.true))

pub whole-preserved : goal.whole-preserved
whole-preserved g c =
    let before = c.whole.invariant in
    let size : length c.whole.block ≡ 4096 = omega (arith, c.whole.auto.block, c.requires.block) in
    record {
      within = omega (arith, c.whole-test.true, before.within);
      opening = opening_more (g.D.Disk.seen c.args.disk.now c.args.file) c.whole.at c.whole.sum c.update.new.self c.whole.checked c.in_ok-checked.checked c.read_at.new.into before.opening
          (read_whole (g.D.Disk.seen c.args.disk.now c.args.file) (g.D.Disk.seen c.whole.disk c.args.file) c.read_at.new.into (length c.whole.block) c.whole.at (before.unchanged.bytes c.args.file) size c.in_ok-read_at.ensures.bytes)
          c.update.ensures c.in_ok-checked.ensures.read;
      aligned = (before.aligned.0 + 1, omega (arith, before.aligned.1), c.in_ok-checked.ensures.count before.aligned.0 before.aligned.2);
      unchanged = unchanged_twice _ _ _ _ _ _ before.unchanged c.read_at.ensures.unchanged;
      same = same_twice _ _ _ before.same c.read_at.ensures.crash;
      moment = both g.D.Disk.moment g.D.Disk.images_since c.args.disk.now c.whole.disk c.read_at.new.disk (g.D.Disk.images c.args.disk.now) (g.D.Disk.images c.whole.disk) (g.D.Disk.images c.args.disk.now) before.moment c.read_at.ensures.any_moment (λ image is. is) before.same.no_other;
      lasting = g.met.D.Disk.lasts_on _ _ _ before.lasting c.read_at.ensures.lasts;
      quiet = c.in_ok-read_at.ensures.cause.kept ∙ before.quiet;
      asked = omega (arith, before.asked, c.read_at.ensures.asked);
      changes = c.read_at.ensures.changes ∙ before.changes;
    }
