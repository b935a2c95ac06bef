use Rattle.std.proofs.Common.{◌≡◌, ◌∙◌, ◌++◌, ◌-◌, List, ℕ, length, take, replicate, ap, subst, sym, refl, rules}
use Rattle.std.specs.Int.{w16, to_be_bytes}
use Rattle.md5.specs.Md5.{Holds}
use Rattle.mds_out.specs.Known.{OnTold}
use Rattle.sorted_table.specs.Blocks.{blocks_spelling}
use Rattle.sorted_table.proofs.Builds.{block_written, blocks_held}
use Rattle.sorted_table.proofs.builder.Builder.write_block.Goals as goal

pub returns-clause-written : goal.returns-clause-written
returns-clause-written g c = λ full present rows builds some.
    let old = c.args.self.now in
    let seen = g.D.Disk.seen c.args.disk.now old.file in
    let seen' = g.D.Disk.seen c.put_block.new.disk old.file in
    let filled : List ℕ → List ℕ = λ r. take 4096 (to_be_bytes w16 old.count ++ r) ++ replicate (4096 - length (to_be_bytes w16 old.count ++ r)) 0 in
    let P : List ℕ → Type 0 = λ block. OnTold seen' (λ held. held ≡ blocks_spelling full ++ block) in
    let Q : List ℕ → List ℕ → Type 0 = λ m block. Holds c.update.new.self (m ++ block) in
    block_written old _ full present rows seen seen' c.fill_block.new.block.items builds some
    (c.in_ok-fill_block.ensures.block ∙ ap filled c.deref.ensures.value)
    refl c.clear.ensures.items refl (search rules) refl
    (λ m h. subst (Q m) c.as_slice.ensures.value (c.update.ensures m h))
    (subst P c.deref-2.ensures.value (c.in_ok-put_block.ensures.told (blocks_spelling full) (blocks_held old full present rows seen builds) builds.told))
