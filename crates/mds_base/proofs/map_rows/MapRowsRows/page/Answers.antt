use Rattle.std.proofs.Common.{◌≡◌, ◌∙◌, sym, ap, take, length, ℕ, List, [], ◌∷◌, ◌++◌, ◌&&◌, true}
use Rattle.std.specs.Map.Iter.{deref_pair}
use Rattle.std.specs.List.{filter}
use Rattle.std.specs.Ordering.{is_le}
use Rattle.std.proofs.lemmas.Map.Iter.{rest_more}
use Rattle.mds_base.specs.declared.attr.Attr.{Attr}
use Rattle.mds_base.specs.declared.row.Row.{Row}
use Rattle.mds_base.specs.declared.row_key.RowKey.{RowKey}
use Rattle.mds_base.specs.RowKeys.{row_key_cmp, row_of, page_of}
use Rattle.mds_base.proofs.RowMaps.{from_first, walked, walk_over, walk_full, walked_none, walk_ends, walk_lists, walk_passes, walked_page}
use Rattle.mds_base.proofs.map_rows.MapRowsRows.page.Goals as goal
use Rattle.mds_base.proofs.map_rows.MapRowsRows.page.Goals.{in-None, in-Some+then-rows-limit, then-rows-limit-via-then-rows-limit, then-rows-limit-via-else-rows-limit+then-is_beyond}

pub returns-clause-listed : goal.returns-clause-listed
returns-clause-listed c =
    let whole = walked_page c.args.dir c.args.part c.args.from.now c.args.last c.self.inside.rows.entries c.range-key-items.ensures.ordered c.self.invariant in
    let over = walk_over c.args.dir c.args.part c.args.from.now c.args.last c.args.limit c.loop-key.page c.loop-key.key-iterator _ c.loop-key.invariant in
    let full = walk_full c.args.dir c.args.part c.args.from.now c.args.last c.args.limit c.loop-key.page c.loop-key.key-iterator _ c.loop-key.invariant in
    let page : c.loop-key.page ≡ take c.args.limit (walked c.args.dir c.args.part c.args.from.now c.args.last c.into_iter-key-iterator.result) =
    elim c.match-next.branch [
      | in-None w ↦ over (walked_none _ _ _ _ c.loop-key.key-iterator w.in-None.ensures.steps.0)
      | in-Some+then-rows-limit w ↦
          let more = rest_more deref_pair c.loop-key.key-iterator c.next.new.self c.next.result (w.in-Some.key, w.in-Some.attr) w.in-Some.is c.next.ensures.steps in
          elim w.then-rows-limit.branch [
            | then-rows-limit-via-then-rows-limit w' ↦ full (ap length (sym w.rows.ensures) ∙ w'.if-rows-limit.true)
            | then-rows-limit-via-else-rows-limit+then-is_beyond w' ↦ over (walk_ends _ _ c.args.from.now _ c.loop-key.key-iterator _ _ more (sym w'.is_beyond.ensures ∙ w'.if-is_beyond.true))
          ]
    ] in
    let start : c.range-key-items.result ≡ from_first c.args.dir c.args.part c.args.from.now c.self.inside.rows.entries = c.range-key-items.ensures.between tt ∙ ap (λ (key : RowKey). filter (λ (e : RowKey × Attr). is_le (row_key_cmp key e.0) && true) c.self.inside.rows.entries) c.in_ok-start.ensures in
    page
    ∙ ap (λ (es : List (RowKey × Attr)). take c.args.limit (walked c.args.dir c.args.part c.args.from.now c.args.last es)) (c.into_iter-key-iterator.ensures.into_iter_gives ∙ start)
    ∙ ap (λ (rows : List Row). take c.args.limit rows) whole
    ∙ ap (λ m. page_of m c.args.dir c.args.part c.args.from.now c.args.last c.args.limit) c.self.view_is

pub loop-key-preserved-in_ok-push : goal.loop-key-preserved-in_ok-push
loop-key-preserved-in_ok-push c =
    let more = rest_more deref_pair c.loop-key.key-iterator c.next.new.self c.next.result (c.in-Some.key, c.in-Some.attr) c.in-Some.is c.next.ensures.steps in
    let room : length c.loop-key.page ≡ c.args.limit → ⊥ = λ full. c.if-rows-limit.false (ap length c.rows.ensures ∙ full) in
    let name : List ℕ → Row = λ bytes. record { name = bytes; attr = c.in-Some.attr.now } in
    let pushed : c.push.new.self ≡ c.loop-key.page ++ row_of (c.in-Some.key.now, c.in-Some.attr.now) ∷ [] = c.in_ok-push.ensures.ok ∙ ap (λ (bytes : List ℕ). c.loop-key.page ++ name bytes ∷ []) c.in_ok-copy.ensures.value in
    rw pushed (walk_lists c.args.dir c.args.part c.args.from.now c.args.last c.args.limit c.loop-key.page c.loop-key.key-iterator _ _ c.next.new.self c.loop-key.invariant more room (sym c.is_beyond.ensures ∙ c.if-is_beyond.false) (sym c.is_past_cursor.ensures ∙ c.if-is_past_cursor.true))

pub loop-key-preserved : goal.loop-key-preserved
loop-key-preserved c =
    let more = rest_more deref_pair c.loop-key.key-iterator c.next.new.self c.next.result (c.in-Some.key, c.in-Some.attr) c.in-Some.is c.next.ensures.steps in
    walk_passes c.args.dir c.args.part c.args.from.now c.args.last c.args.limit c.loop-key.page c.loop-key.key-iterator _ _ c.next.new.self c.loop-key.invariant more (sym c.is_beyond.ensures ∙ c.if-is_beyond.false) (sym c.is_past_cursor.ensures ∙ c.if-is_past_cursor.false)
