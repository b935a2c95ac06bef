use Rattle.std.proofs.Common.{◌∙◌, ◌∷◌, [], ℕ, sym, ap, subst, Option, Some}
use Rattle.block_cache.specs.Blocks.{Blocks, without}
use Rattle.row_store.specs.Caching.{HaveLeft}
use Rattle.row_store.proofs.KeptBlocks.{left_one}
use Rattle.row_store.proofs.caching.leave.Goals as goal

pub returns-in-Some : goal.returns-in-Some
returns-in-Some c =
    subst (λ (k : Option Blocks). HaveLeft (c.args.table.now ∷ []) k (Some c.leave.new.self)) (sym c.in-Some.is)
    (left_one c.in-Some.cache c.leave.new.self c.args.table.now (c.leave.ensures ∙ ap (λ (n : ℕ). without c.in-Some.cache n) c.file.ensures))
