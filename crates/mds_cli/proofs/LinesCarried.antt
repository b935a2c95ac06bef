-- Lines that were carried out, from the first on, to the end of the input or up to one that was not.
use Rattle.std.proofs.Common.{◌≡◌, ◌∙◌, sym, ap, subst, refl, ℕ, ◌+◌, ◌≤◌, ◌^◌, Bool, true, false, List, [], ◌∷◌, ◌++◌, length, arith, Option, Some, None, length-append}
use Rattle.std.specs.Io.KnownBytes.{Consumes}
use Rattle.std.specs.List.{AllByRecursion}
use Rattle.std.proofs.lemmas.Bool.{true≢false}
use Rattle.std.proofs.lemmas.List.{append-nil}
use Rattle.mds_out.specs.Disk.{Image, Contents}
use Rattle.mds_out.specs.Fused.{Fused}
use Rattle.simulation.specs.Shows.{SimulationV}
use Rattle.mds_cli.specs.Lines.{IsPart}
use Rattle.mds_cli.specs.SoFar.{HaveRead, SoFar, HasStopped}
use Rattle.mds_cli.specs.Streams.{Streams, Ends, has_feed}
use Rattle.mds_cli.specs.Turn.{IsFound, TakesTurn, CarriesAll}
use Rattle.mds_cli.specs.declared.line.Line.{Line}
use Rattle.mds_cli.specs.declared.line.Line.TheVariants as lines
use Rattle.mds_cli.specs.declared.status.Status.{Status}
use Rattle.mds_cli.proofs.Known.{consumes_both}
use Rattle.mds_cli.proofs.LineRead.{consumes_none}
use Rattle.mds_cli.proofs.ScriptLines.{with_feeds, feeds_push, parts_push}
use Rattle.mds_cli.proofs.SoFar.{so_far_none, so_far_next, stops_next}

ends_behind : (a b c : Option (List ℕ)) (lines : List (List ℕ)) → HaveRead a b lines → Ends b c → Ends a c
ends_behind None b c lines read ends = tt
ends_behind (Some a) None c lines read ends = absurd read
ends_behind (Some a) (Some b) None lines read ends = absurd ends
ends_behind (Some a) (Some b) (Some c) lines read ends = ends

-- Before each line: the ones before it were carried out, each had its line feed, and they are no more than a script may
-- have.
pub record Carrying {D : Type 0} (faults : D → ℕ) (lasts : D → D → Type 0) (seen : D → Contents) (images : D → Image → Type 0) (first now : Streams) (old sim : SimulationV (Fused D)) (count : ℕ) : Type 0 where
  pub so_far : SoFar faults lasts seen images first now old sim
  pub parts : AllByRecursion IsPart so_far.lines
  pub consumed : Consumes first.unread now.unread (with_feeds so_far.lines)
  pub counted : length so_far.lines ≡ count
  pub bound : count ≤ 2 ^ 22

module _ {D : Type 0} (faults : D → ℕ) (lasts : D → D → Type 0) (seen : D → Contents) (images : D → Image → Type 0) where
  pub carrying_none : (first : Streams) (sim : SimulationV (Fused D)) → Carrying faults lasts seen images first first sim sim 0
  unfolding so_far_none
  carrying_none first sim = record { so_far = so_far_none faults lasts seen images first sim; parts = tt; consumed = consumes_none first.unread; counted = refl; bound = omega arith }

  pub within_feed : (found : Line) (number : ℕ) (before now : Streams) (old new : SimulationV (Fused D)) → has_feed found ≡ true → TakesTurn faults lasts seen images found number before now old new → number ≤ 2 ^ 22
  within_feed lines.Ended number before now old new feed turn = turn.is.2
  within_feed lines.Last number before now old new feed turn = absurd (true≢false (sym feed))
  within_feed lines.None number before now old new feed turn = absurd (true≢false (sym feed))

  module _ (first mid now : Streams) (old sim new : SimulationV (Fused D)) (count number : ℕ) (numbered : number ≡ count + 1) (carrying : Carrying faults lasts seen images first mid old sim count) where
    -- one line more
    pub carrying_more : (found : Line) → has_feed found ≡ true → TakesTurn faults lasts seen images found number mid now sim new → Carrying faults lasts seen images first now old new number
    unfolding so_far_next
    carrying_more lines.Ended feed turn =
        let before : List (List ℕ) = carrying.so_far.lines in
        let line : List ℕ = turn.is.0 in
        let same : before ++ turn.so_far.lines ≡ before ++ line ∷ [] = ap (λ ls. before ++ ls) turn.is.1 in
        record {
          so_far = so_far_next faults lasts seen images first mid now old sim new carrying.so_far turn.so_far;
          parts = subst (AllByRecursion IsPart) (sym same) (parts_push before line carrying.parts turn.is.3);
          consumed = subst (λ ls. Consumes first.unread now.unread (with_feeds ls)) (sym same)
              (subst (λ l. Consumes first.unread now.unread l) (sym (feeds_push before line)) (consumes_both first.unread mid.unread now.unread (with_feeds before) (line ++ 10 ∷ []) carrying.consumed turn.is.4));
          counted = ap length same ∙ length-append before (line ∷ []) ∙ ap (λ n. n + 1) carrying.counted ∙ sym numbered;
          bound = turn.is.2;
        }
    carrying_more lines.Last feed turn = absurd (true≢false (sym feed))
    carrying_more lines.None feed turn = absurd (true≢false (sym feed))

    -- the last line, or none
    pub carries_all : (found : Line) → has_feed found ≡ false → TakesTurn faults lasts seen images found number mid now sim new → CarriesAll faults lasts seen images first now old new
    unfolding so_far_next
    carries_all lines.Ended feed turn = absurd (true≢false feed)
    carries_all lines.Last feed turn = record {
      so_far = so_far_next faults lasts seen images first mid now old sim new carrying.so_far turn.so_far;
      ends = ends_behind first.unread mid.unread now.unread carrying.so_far.lines carrying.so_far.read turn.is.3;
      count = let within = turn.is.2 in omega (arith, length-append carrying.so_far.lines turn.so_far.lines, ap length turn.is.1, carrying.counted, numbered, within);
    }
    carries_all lines.None feed turn = record {
      so_far = so_far_next faults lasts seen images first mid now old sim new carrying.so_far turn.so_far;
      ends = ends_behind first.unread mid.unread now.unread carrying.so_far.lines carrying.so_far.read turn.is.1;
      count = omega (arith, length-append carrying.so_far.lines turn.so_far.lines, ap length turn.is.0, carrying.counted, carrying.bound);
    }

    -- one that was not carried out to its end
    pub carrying_stops : (status : Status) → HasStopped faults lasts seen images status number mid now sim new → HasStopped faults lasts seen images status 1 first now old new
    carrying_stops status stopped =
        stops_next faults lasts seen images first mid now old sim new carrying.so_far carrying.parts carrying.consumed 1 number (omega (arith, numbered, carrying.counted)) (omega (arith, numbered, carrying.bound)) status stopped
