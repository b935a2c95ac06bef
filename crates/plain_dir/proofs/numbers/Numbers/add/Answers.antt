use Rattle.std.proofs.Common.{◌∙◌, ap}
use Rattle.std.specs.List.{list_any}
use Rattle.std.proofs.lemmas.Bool.{MatchBool-at_true, MatchBool-at_false}
use Rattle.plain_dir.specs.declared.numbers.Range.{Range}
use Rattle.plain_dir.specs.Numbers.{meets}
use Rattle.plain_dir.proofs.Giving.{refused_common, accepted}
use Rattle.plain_dir.proofs.numbers.Numbers.add.Goals as goal

pub returns-then-not-is_from_two : goal.returns-then-not-is_from_two
returns-then-not-is_from_two c = λ new. MatchBool-at_false _ _ c.if-not-is_from_two.true c.is_from_two.ensures new.from_two

pub returns-then-has_common : goal.returns-then-has_common
returns-then-has_common c = refused_common c.self.inside.ranges.items c.args.range c.args.self.now c.has_common.result c.self.view_is
    (c.has_common.ensures ∙ ap (λ items. list_any (λ (r : Range). meets r c.args.range) items) c.as_slice.ensures.value) c.if-has_common.true

pub returns : goal.returns
returns c = accepted c.self.inside.ranges.items c.push.new.self.items c.args.range c.args.self.now c.has_common.result c.self.view_is
    (c.has_common.ensures ∙ ap (λ items. list_any (λ (r : Range). meets r c.args.range) items) c.as_slice.ensures.value) c.if-has_common.false
    (MatchBool-at_true _ _ c.if-not-is_from_two.false c.is_from_two.ensures) c.in_ok-push.ensures.items
