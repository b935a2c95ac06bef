-- Each micro-step keeps the invariant.
use Rattle.world.specs.Histories.{Trace}
use Rattle.world.proofs.Invariant.{Inv}
use Rattle.world.proofs.Steps.{Micro, Note, Redo, Look, Tell, Refer, Defer, Send, Open, Bump, Merge, Close, Quit, Down, Up, Tick, Count, may, does}
use Rattle.world.proofs.Say.{send_keeps, tell_keeps, refer_keeps, defer_keeps, look_keeps}
use Rattle.world.proofs.Clients.{open_keeps, bump_keeps, merge_keeps, close_keeps, quit_keeps}
use Rattle.world.proofs.Servers.{noted_keeps, redo_keeps, down_keeps, up_keeps, tick_keeps, count_keeps}

pub keeps : (m : Micro) (t : Trace) → Inv t → may t m → Inv (does t m)
keeps (Note s state client seq call dir name) t inv h = noted_keeps t inv s state client seq call dir name h
keeps (Redo s state client seq call dir name part said items) t inv h = redo_keeps t inv s state client seq call dir name part said items h
keeps (Look s state ask dir name until) t inv h = look_keeps t inv s state ask dir name until h
keeps (Tell client seq attempt said) t inv h = tell_keeps t inv client seq attempt said h
keeps (Refer client seq attempt dir bits) t inv h = refer_keeps t inv client seq attempt dir bits h
keeps (Defer client seq attempt part depth) t inv h = defer_keeps t inv client seq attempt part depth
keeps (Send to ask cursor) t inv h = send_keeps t inv to ask cursor h
keeps (Open k seat call) t inv h = open_keeps t inv k seat call h
keeps (Bump k seat pending) t inv h = bump_keeps t inv k seat pending h
keeps (Merge k seat dir bits) t inv h = merge_keeps t inv k seat dir bits h
keeps (Close k seat pending attempt reply place) t inv h = close_keeps t inv k seat pending attempt reply place h
keeps (Quit k seat) t inv h = quit_keeps t inv k seat h
keeps (Down s state doubt) t inv h = down_keeps t inv s state doubt h
keeps (Up s state) t inv h = up_keeps t inv s state h
keeps (Tick by) t inv h = tick_keeps t inv by
keeps (Count n) t inv h = count_keeps n t inv
