-- A disk behind a fuse tells and may leave what the disk does.
use Rattle.mds_out.specs.Disk.{Image, Contents}
use Rattle.mds_out.specs.Fused.{Fused}

abbrev pub seen_by : {D : Type 0} → (D → Contents) → Fused D → Contents
seen_by seen fuse = seen fuse.inner

abbrev pub images_by : {D : Type 0} → (D → Image → Type 0) → Fused D → Image → Type 0
images_by images fuse = images fuse.inner
