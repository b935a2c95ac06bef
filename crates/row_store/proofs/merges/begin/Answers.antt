use Rattle.std.proofs.Common.{◌≡◌, true, rules}
use Rattle.root_slots.specs.Root.{is_fresh}
use Rattle.row_store.specs.Files.{named_by}
use Rattle.row_store.proofs.Turned.{apart_of}
use Rattle.row_store.proofs.merges.begin.Goals as goal

pub start-requires : goal.start-requires
start-requires c =
    let fresh : is_fresh c.free_file-file.result (named_by c.args.force.now) ≡ true = search rules in
    record { apart = apart_of c.args.tables.now c.args.force.now c.free_file-file.result c.requires.named fresh }

pub returns : goal.returns
returns c = λ seen sizes.
    let fresh : is_fresh c.free_file-file.result (named_by c.args.force.now) ≡ true = search rules in
    record { file_is = c.in_ok-merge.ensures.file; apart = fresh; some = c.requires.some; merging = c.in_ok-merge.ensures.merging seen sizes }
