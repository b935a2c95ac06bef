use Rattle.std.proofs.Common.{◌≡◌, ◌+◌, ◌-◌, ◌/◌, ◌<◌, ◌%◌, ◌^◌, ◌↔◌, ℕ, sym, ap, ◌∙◌, subst, lit≤, arith}
use Rattle.mds_base.specs.declared.TheConstants.{RADIX}
use Rattle.chains.specs.WellFormed.{IsWellFormed}
use Rattle.chains.specs.Located.{located}
use Rattle.chains.specs.Depth.{depth_of}
use Rattle.chains.specs.Reversed.{reversed}
use Rattle.bitmap.specs.Bits.{Bits, has}
use Rattle.bitmap.specs.Span.{range_of, IsInside}
use Rattle.bitmap.specs.Words.{set_of}
use Rattle.bitmap.specs.declared.span.Span.{Span}
use Rattle.bitmap.proofs.Bitmaps.{answers_span, record_of, span_holds, span_locates, span_end_fits}
use Rattle.bitmap.proofs.bitmap.Bitmap.range_of.Goals as goal

formed : (c : goal.After-depth_in) → IsWellFormed RADIX (has c.args.self.now)
formed c = subst (λ (b : Bits). IsWellFormed RADIX (has b)) c.self.view_is c.self.invariant.well_formed

span : (c : goal.After-depth_in) → record_of c.reverse-first.result (c.reverse-first.result + (2 ^ 64 - 1) / 2 ^ c.depth_in.result) ≡ range_of RADIX c.args.self.now c.args.part
span c =
    answers_span (set_of c.self.inside.words) c.args.self.now c.self.view_is c.self.invariant.well_formed (lit≤ tt) c.args.part c.depth_in.result c.reverse-first.result c.depth_in.ensures.value c.depth_in.ensures.least.within
    (c.reverse-first.ensures ∙ ap (reversed 64) c.from.ensures)

pub overflow_add-result : goal.overflow_add-result
overflow_add-result c =
    let P : ℕ → Type 0 = λ x. x < 2 ^ 64 in
    let fits : c.reverse-first.result + (2 ^ 64 - 1) / 2 ^ c.depth_in.result < 2 ^ 64 =
    subst P (sym (ap (λ (s : Span). s.last) (span c))) (span_end_fits c.args.part c.args.self.now (lit≤ tt) (formed c) c.requires) in
    omega (arith, fits)

pub returns-clause-value : goal.returns-clause-value
returns-clause-value c = span c

pub returns-clause-holds : goal.returns-clause-holds
returns-clause-holds c hash =
    subst (λ (s : Span). (hash % 2 ^ depth_of RADIX c.args.part (has c.args.self.now) ≡ c.args.part) ↔ IsInside s (reversed 64 hash)) (sym (span c))
    (span_holds c.args.self.now (lit≤ tt) (formed c) c.requires hash)

pub returns-clause-locates : goal.returns-clause-locates
returns-clause-locates c hash =
    subst (λ (s : Span). (located RADIX hash (has c.args.self.now) ≡ c.args.part) ↔ IsInside s (reversed 64 hash)) (sym (span c))
    (span_locates c.args.self.now (lit≤ tt) (formed c) c.requires hash)
