use Rattle.std.proofs.Common.{subst, ap, ℕ}
use Rattle.mds_out.specs.Disk.{StaysTold}
use Rattle.gate_log.specs.LogState.{LogState}
use Rattle.node_store.proofs.Standing.{kept_after, either_after, doubt_after}
use Rattle.node_store.proofs.serve.append.Goals as goal

pub returns-in-Ok-clause-kept : goal.returns-in-Ok-clause-kept
returns-in-Ok-clause-kept g c = λ server setup store items is follow k.
    let e = c.in-Ok.ensures in
    let told : StaysTold (g.D.Disk.seen c.args.disk.now 1) (g.D.Disk.seen c.append.new.disk 1) = subst (λ (f : ℕ). StaysTold (g.D.Disk.seen c.args.disk.now f) (g.D.Disk.seen c.append.new.disk f)) c.requires.file e.told in
    kept_after server setup store _ items is follow _ _ _ _ _ _ _ _ (ap (λ (l : LogState). l.file) e.length) (ap (λ (l : LogState). l.stopped) e.length) e.ready told e.appended k

pub returns-in-Ok-clause-any_moment : goal.returns-in-Ok-clause-any_moment
returns-in-Ok-clause-any_moment g c = λ server setup store items is follow k.
    either_after server setup store _ items is follow g.D.Disk.moment g.D.Disk.images_since _ _ _ _ _ _ (c.append.ensures.any_moment c.requires.running) k

pub returns-in-Err-clause-any_moment : goal.returns-in-Err-clause-any_moment
returns-in-Err-clause-any_moment g c = λ server setup store items is follow k.
    either_after server setup store _ items is follow g.D.Disk.moment g.D.Disk.images_since _ _ _ _ _ _ (c.append.ensures.any_moment c.requires.running) k

pub returns-in-Err-clause-doubt : goal.returns-in-Err-clause-doubt
returns-in-Err-clause-doubt g c = λ server setup store items is follow k.
    let e = c.in-Err.ensures in
    let told : StaysTold (g.D.Disk.seen c.args.disk.now 1) (g.D.Disk.seen c.append.new.disk 1) = subst (λ (f : ℕ). StaysTold (g.D.Disk.seen c.args.disk.now f) (g.D.Disk.seen c.append.new.disk f)) c.requires.file e.told in
    doubt_after server setup store _ items is follow g.D.Disk.moment g.D.Disk.images_since (g.D.Disk.images c.append.new.disk) _ _ (g.D.Disk.seen c.args.disk.now) (g.D.Disk.seen c.append.new.disk) _ _ c.args.log.now c.append.new.self told (ap (λ (l : LogState). l.length) e.stops) (λ t image le now. g.met.D.Disk.counts_now c.append.new.disk t image le now) (c.append.ensures.any_moment c.requires.running) k
