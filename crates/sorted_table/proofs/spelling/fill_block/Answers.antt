use Rattle.std.proofs.Common.{◌∙◌, ap, ◌++◌, rules}
use Rattle.std.specs.Int.{w16, to_be_bytes}
use Rattle.sorted_table.proofs.Builds.{filled_as}
use Rattle.sorted_table.proofs.spelling.fill_block.Goals as goal

pub returns-clause-block : goal.returns-clause-block
returns-clause-block c =
    let rows = c.args.rows.now in
    filled_as c.resize.result c.resize.new.self.items c.extend_from_slice.new.self.items (to_be_bytes w16 c.args.count ++ rows) c.extend_from_slice.new.self.len c.resize.ensures.items
    (c.in_ok-extend_from_slice.ensures.items ∙ ap (λ l. l ++ rows) (c.in_ok-put_u16.ensures ∙ ap (λ l. l ++ to_be_bytes w16 c.args.count) c.clear.ensures.items)) (search rules)
