use Rattle.std.proofs.Common.{◌≡◌, ◌∙◌, ◌++◌, ◌+◌, ◌*◌, ◌≤◌, List, ℕ, [], length, ap, refl, arith, length-append}
use Rattle.std.specs.Int.{w32, w64, to_be_bytes}
use Rattle.md5.specs.Md5.{md5}
use Rattle.mds_out.specs.Known.{OnTold}
use Rattle.sorted_table.specs.Blocks.{blocks_spelling}
use Rattle.sorted_table.specs.Tables.{TableState, HasRows}
use Rattle.sorted_table.proofs.Builds.{blocks_held, blocks_reach, sealed, ready_of}
use Rattle.sorted_table.proofs.Verdicts.{md5_length}
use Rattle.sorted_table.proofs.builder.Builder.seal.Goals as goal

pub returns-clause-rows : goal.returns-clause-rows
returns-clause-rows g c = λ full rows builds.
    let b = c.args.self in
    let counts = to_be_bytes w32 b.written ++ to_be_bytes w64 b.number in
    let table : TableState = record { file = b.file; firsts = b.firsts.items } in
    sealed b full rows (g.D.Disk.seen c.args.disk.now b.file) (g.D.Disk.seen c.put_end.new.disk b.file) builds c.put_counts.ensures.few c.put_counts.ensures.few_rows table c.deref.result.now c.finalize.result refl
    (c.deref.ensures.value ∙ c.in_ok-extend_from_slice.ensures.items ∙ ap (λ l. l ++ c.finalize.result) c.in_ok-put_counts.ensures.counts)
    (c.finalize.ensures (blocks_spelling full ++ c.as_slice.result.now) (c.update.ensures (blocks_spelling full) builds.sum) ∙ ap (λ l. md5 (blocks_spelling full ++ l)) (c.as_slice.ensures.value ∙ c.in_ok-put_counts.ensures.counts))
    (c.in_ok-put_end.ensures.told (blocks_spelling full) (blocks_held b full [] rows (g.D.Disk.seen c.args.disk.now b.file) builds) builds.told)

pub returns-clause-ready : goal.returns-clause-ready
returns-clause-ready g c = λ full rows builds.
    let b = c.args.self in
    let counts = to_be_bytes w32 b.written ++ to_be_bytes w64 b.number in
    let table : TableState = record { file = b.file; firsts = b.firsts.items } in
    let tail_is : c.deref.result.now ≡ counts ++ c.finalize.result = c.deref.ensures.value ∙ c.in_ok-extend_from_slice.ensures.items ∙ ap (λ l. l ++ c.finalize.result) c.in_ok-put_counts.ensures.counts in
    let sum_is : c.finalize.result ≡ md5 (blocks_spelling full ++ counts) = c.finalize.ensures (blocks_spelling full ++ c.as_slice.result.now) (c.update.ensures (blocks_spelling full) builds.sum) ∙ ap (λ l. md5 (blocks_spelling full ++ l)) (c.as_slice.ensures.value ∙ c.in_ok-put_counts.ensures.counts) in
    let has : OnTold (g.D.Disk.seen c.put_end.new.disk b.file) (HasRows table rows) =
    sealed b full rows (g.D.Disk.seen c.args.disk.now b.file) (g.D.Disk.seen c.put_end.new.disk b.file) builds c.put_counts.ensures.few c.put_counts.ensures.few_rows table c.deref.result.now c.finalize.result refl tail_is sum_is
    (c.in_ok-put_end.ensures.told (blocks_spelling full) (blocks_held b full [] rows (g.D.Disk.seen c.args.disk.now b.file) builds) builds.told) in
    let tail_long : length c.deref.result.now ≡ 12 + length c.finalize.result = ap length tail_is ∙ length-append counts c.finalize.result in
    let sum_long : length c.finalize.result ≡ 16 = ap length sum_is ∙ md5_length (blocks_spelling full ++ counts) in
    let few = c.put_counts.ensures.few in
    let reach = blocks_reach b full rows (g.D.Disk.seen c.args.disk.now b.file) (g.D.Disk.seen c.put_end.new.disk b.file) builds c.put_counts.ensures.few c.put_counts.ensures.few_rows table refl in
    ready_of table rows (g.D.Disk.seen c.put_end.new.disk) (g.D.Disk.sizes c.put_end.new.disk) (4096 * b.written + length c.deref.result.now) c.in_ok-put_end.ensures.size (omega arith) (omega arith) has
