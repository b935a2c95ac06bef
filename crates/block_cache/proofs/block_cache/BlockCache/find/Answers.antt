use Rattle.std.proofs.Common.{◌∙◌, sym, ap, Vec, Global, ℕ, List, Some}
use Rattle.std.specs.Option.{option_copied, option_map}
use Rattle.block_cache.specs.Blocks.{Blocks, is_place, held}
use Rattle.block_cache.proofs.Seen.{lookup_seen}
use Rattle.block_cache.proofs.block_cache.BlockCache.find.Goals as goal

abbrev items : Vec ℕ Global → List ℕ
items buffer = buffer.items

pub returns-in-Some : goal.returns-in-Some
returns-in-Some c =
    ap Some c.as_slice.ensures.value ∙ ap (option_map items) c.in-Some.ensures
    ∙ lookup_seen items (is_place c.args.place) c.self.inside.blocks.entries ∙ ap (λ (m : Blocks). held m c.args.place) c.self.view_is

pub returns-in-None : goal.returns-in-None
returns-in-None c =
    ap (option_map items) c.in-None.ensures
    ∙ lookup_seen items (is_place c.args.place) c.self.inside.blocks.entries ∙ ap (λ (m : Blocks). held m c.args.place) c.self.view_is
