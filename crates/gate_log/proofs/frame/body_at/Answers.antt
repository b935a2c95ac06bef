use Rattle.std.proofs.Common.{◌≡◌, ◌+◌, ◌++◌, List, ℕ, Option, take, drop, length, Some, subst, refl, sym, ◌∙◌, rules}
use Rattle.mds_out.specs.Known.{OnTold}
use Rattle.mds_out.proofs.Rooms.{lent_whole}
use Rattle.gate_log.specs.Calls.{IsReplayed, IsSomeGate}
use Rattle.gate_log.specs.LogState.{open_log}
use Rattle.mds_out.proofs.Calling.{reading_on}
use Rattle.gate_log.proofs.Readings.{log_reads, log_passes}
use Rattle.gate_log.proofs.Replays.{not_lacking, replayed, next_some}
use Rattle.gate_log.proofs.frame.body_at.Goals as goal

pub returns-in_default-clause-refused : goal.returns-in_default-clause-refused
returns-in_default-clause-refused g c = (refl, not_lacking (g.D.Disk.seen c.args.disk.now c.args.file) (open_log c.args.file c.args.end) c.args.at c.requires.gate c.requires.within (rw c.in_default.is at c.in_ok-count.ensures.length))

pub returns-clause-given : goal.returns-clause-given
returns-clause-given g c = λ before after gate.
    let there = rw c.in-Some.is at c.in_ok-count.ensures.length in
    let fits = rw c.in-Some.is at c.in_ok-count.ensures.fits in
    let body = c.in_ok-read.ensures.bytes in
    let size : length c.deref_mut.result.now ≡ c.in-Some.count = search rules in
    let P : Option (List ℕ) → Type 0 = λ seen. OnTold seen (λ bytes. c.read.new.into ≡ take (length c.deref_mut.result.now) (drop (c.args.at + 5) bytes)) in
    let Q : ℕ → Type 0 = λ n. OnTold (g.D.Disk.seen c.args.disk.now c.args.file) (λ bytes. c.read.new.into ≡ take n (drop (c.args.at + 5) bytes)) in
    let bytes = subst Q size (subst P (c.length_at.ensures.call.unchanged.bytes c.args.file) body) in
    let whole : take c.resize.new.self.len (c.read.new.into ++ drop (length c.read.new.into) c.resize.new.self.items) ≡ c.read.new.into = lent_whole c.resize.new.self.items c.read.new.into c.resize.new.self.len (search rules) (search rules) in
    let R : List ℕ → Type 0 = λ into. OnTold (g.D.Disk.seen c.args.disk.now c.args.file) (IsReplayed (open_log c.args.file c.args.end) before after (Some (c.args.at + 5 + c.in-Some.count)) into) in
    subst R (sym whole) (replayed (g.D.Disk.seen c.args.disk.now c.args.file) (open_log c.args.file c.args.end) c.args.at c.in-Some.count c.read.new.into before after gate c.requires.within fits.0 there bytes)

pub returns-clause-gate : goal.returns-clause-gate
returns-clause-gate g c =
    let there = rw c.in-Some.is at c.in_ok-count.ensures.length in
    let fits = rw c.in-Some.is at c.in_ok-count.ensures.fits in
    let P : Option (List ℕ) → Type 0 = λ seen. OnTold seen (IsSomeGate (open_log c.args.file c.args.end) (c.args.at + 5 + c.in-Some.count)) in
    subst P (sym (c.read.ensures.call.unchanged.bytes c.args.file ∙ c.length_at.ensures.call.unchanged.bytes c.args.file))
    (next_some (g.D.Disk.seen c.args.disk.now c.args.file) (open_log c.args.file c.args.end) c.args.at c.in-Some.count c.requires.gate c.requires.within fits.0 there)

pub returns-in_err-read-clause-call : goal.returns-in_err-read-clause-call
returns-in_err-read-clause-call g c =
    let reads = reading_on g.D.Disk.lasts g.D.Disk.fails g.met.D.Disk.lasts_on g.met.D.Disk.fails_after c.in_ok-count.ensures.call c.in_err-read.ensures.call in
    log_passes c.in_err-read.field-0.0 g.met.D.Disk.only_now reads c.from_residual-in_err-read.result (search rules)

pub returns-clause-call : goal.returns-clause-call
returns-clause-call g c =
    let reads = reading_on g.D.Disk.lasts g.D.Disk.fails g.met.D.Disk.lasts_on g.met.D.Disk.fails_after c.in_ok-count.ensures.call c.in_ok-read.ensures.call in
    log_reads g.met.D.Disk.only_now reads (c.args.at + 5 + c.in-Some.count)
