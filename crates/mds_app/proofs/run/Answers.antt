use Rattle.std.proofs.Common.{map, length}
use Rattle.std.specs.Prelude.{string_bytes}
use Rattle.mds_cli.proofs.Options.{asks_count, asks_same}
use Rattle.mds_app.proofs.run.Goals as goal

pub giga_solo-requires : goal.giga_solo-requires
giga_solo-requires c = asks_same (λ word. string_bytes word) _ c.deref.result.now c.deref-2.result.now (length c.in-Ok-new_disks.disks.items) c.deref.ensures.value c.deref-2.ensures.value
    (asks_count (map (λ word. string_bytes word) c.deref.result.now) c.in-Some.count c.in-Some.ensures (length c.in-Ok-new_disks.disks.items) c.in-Ok-new_disks.ensures.count)
