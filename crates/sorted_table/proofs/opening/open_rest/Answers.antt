use Rattle.std.proofs.Common.{◌≡◌, ◌∙◌, ◌+◌, ◌-◌, ◌*◌, ◌≤◌, ℕ, List, Option, length, take, drop, ap, subst, sym, refl, arith}
use Rattle.mds_out.specs.Known.{OnTold}
use Rattle.gate_log.proofs.Scans.{known_still}
use Rattle.sorted_table.specs.Openings.{IsVerdict}
use Rattle.sorted_table.proofs.Opens.{read_part, verdict_told, open_answer, open_ready}
use Rattle.sorted_table.proofs.opening.open_rest.Goals as goal

pub returns-clause-answer : goal.returns-clause-answer
returns-clause-answer g c =
    let seen = g.D.Disk.seen c.args.disk.now c.args.file in
    open_answer c.args.file seen c.verdict.result
    (verdict_told seen (g.D.Disk.sizes c.args.disk.now c.args.file) (c.args.end + 16) c.args.opening.at c.args.end c.args.opening.sum c.args.opening.checked c.read_at.new.into c.read_at-2.new.into c.finalize.result c.args.file c.verdict.result
    (g.met.D.Disk.tells_length c.args.disk.now c.args.file) c.requires.known c.requires.long refl (omega (arith, c.requires.counts)) c.requires.opening
    (read_part seen seen c.read_at.new.into (length c.args.counts.now) (c.args.end - c.args.opening.at) c.args.opening.at refl (omega (arith, c.requires.counts)) c.in_ok-read_at.ensures.bytes)
    (read_part seen (g.D.Disk.seen c.read_at.new.disk c.args.file) c.read_at-2.new.into 16 16 c.args.end (c.read_at.ensures.unchanged.bytes c.args.file) refl c.in_ok-read_at-2.ensures.bytes)
    (λ m h. c.finalize.ensures _ (c.update.ensures m h)) c.verdict.ensures.verdict)
    c.verdict.ensures.answer

pub returns-clause-ready : goal.returns-clause-ready
returns-clause-ready g c =
    let seen = g.D.Disk.seen c.args.disk.now c.args.file in
    open_ready (g.D.Disk.seen c.args.disk.now) (g.D.Disk.seen c.read_at-2.new.disk) (g.D.Disk.sizes c.read_at-2.new.disk) c.args.file (c.args.end + 16) c.requires.aligned.0 c.args.opening.checked c.verdict.result
    (c.read_at-2.ensures.unchanged.bytes c.args.file ∙ c.read_at.ensures.unchanged.bytes c.args.file)
    (known_still (g.D.Disk.sizes c.read_at.new.disk c.args.file) (g.D.Disk.sizes c.read_at-2.new.disk c.args.file) (c.args.end + 16)
    (known_still (g.D.Disk.sizes c.args.disk.now c.args.file) (g.D.Disk.sizes c.read_at.new.disk c.args.file) (c.args.end + 16) c.requires.known (c.read_at.ensures.unchanged.lengths c.args.file)) (c.read_at-2.ensures.unchanged.lengths c.args.file))
    c.requires.short (omega (arith, c.requires.aligned.1, c.requires.counts)) c.requires.aligned.2
    (verdict_told seen (g.D.Disk.sizes c.args.disk.now c.args.file) (c.args.end + 16) c.args.opening.at c.args.end c.args.opening.sum c.args.opening.checked c.read_at.new.into c.read_at-2.new.into c.finalize.result c.args.file c.verdict.result
    (g.met.D.Disk.tells_length c.args.disk.now c.args.file) c.requires.known c.requires.long refl (omega (arith, c.requires.counts)) c.requires.opening
    (read_part seen seen c.read_at.new.into (length c.args.counts.now) (c.args.end - c.args.opening.at) c.args.opening.at refl (omega (arith, c.requires.counts)) c.in_ok-read_at.ensures.bytes)
    (read_part seen (g.D.Disk.seen c.read_at.new.disk c.args.file) c.read_at-2.new.into 16 16 c.args.end (c.read_at.ensures.unchanged.bytes c.args.file) refl c.in_ok-read_at-2.ensures.bytes)
    (λ m h. c.finalize.ensures _ (c.update.ensures m h)) c.verdict.ensures.verdict)
    c.verdict.ensures.file c.verdict.ensures.firsts
