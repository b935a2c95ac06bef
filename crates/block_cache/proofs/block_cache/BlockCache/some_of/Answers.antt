use Rattle.std.proofs.Common.{◌≡◌, ◌≢◌, ◌∙◌, sym, ap, refl, subst, suc, ℕ, List, Vec, Global, Some, rules}
use Rattle.std.specs.Prelude.{IsSome}
use Rattle.std.specs.List.{AllByRecursion, slice_get}
use Rattle.block_cache.specs.Blocks.{Blocks, held, IsNoneOf}
use Rattle.block_cache.specs.declared.place.Place.{Place}
use Rattle.block_cache.proofs.Leaving.{is_some_at}
use Rattle.block_cache.proofs.Seen.{seen, seen_entry, seen_at, all_seen}
use Rattle.block_cache.proofs.block_cache.BlockCache.some_of.Goals as goal

abbrev items : Vec ℕ Global → List ℕ
items buffer = buffer.items

abbrev Entry : Type 0
Entry = Place × Vec ℕ Global

pub loop-place-init : goal.loop-place-init
loop-place-init c =
    let entries = c.self.inside.blocks.entries in
    let same : c.into_iter-place-iterator.result ≡ entries = search rules in
    record {
      next = tt;
      finite = tt;
      none = λ all. subst (λ (m : Blocks). IsNoneOf m c.args.file) c.self.view_is
          (all_seen items (λ (p : Place). p.file ≢ c.args.file) entries (subst (λ (es : List Entry). AllByRecursion (λ (e : Entry). e.0.file ≢ c.args.file) es) same all));
      some = λ i e at. subst (λ (m : Blocks). IsSome (held m e.0)) c.self.view_is
          (is_some_at e.0 (seen items entries) i (seen_entry items e) (seen_at items entries i e (sym (ap (λ (es : List Entry). slice_get es i) same) ∙ at)) refl);
    }

pub loop-place-preserved : goal.loop-place-preserved
loop-place-preserved c =
    let steps = c.in-Some.ensures.steps in
    record {
      next = tt;
      finite = tt;
      none = λ all. c.loop-place.invariant.none (subst (λ (es : List Entry). AllByRecursion (λ (e : Entry). e.0.file ≢ c.args.file) es) (sym steps) (c.if-place-file.false, all));
      some = λ i e at. c.loop-place.invariant.some (suc i) e (ap (λ (es : List Entry). slice_get es (suc i)) steps ∙ at);
    }

pub returns-then-place-file-clause-some : goal.returns-then-place-file-clause-some
returns-then-place-file-clause-some c =
    (c.if-place-file.true, c.loop-place.invariant.some 0 (c.in-Some.place.now, c.in-Some._bytes.now) (ap (λ (es : List Entry). slice_get es 0) c.in-Some.ensures.steps))
