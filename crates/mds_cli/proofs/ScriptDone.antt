-- The program's end, for the setup that the words ask for; and scripts that are carried out to their end.
use Rattle.std.proofs.Common.{◌≡◌, ◌∙◌, sym, ap, subst, refl, ℕ, zero, suc, ◌+◌, ◌<◌, ◌≤◌, ◌^◌, Bool, true, false, leb, List, [], ◌∷◌, ◌++◌, length, length-append, arith, Option, Some, None, inl, inr}
use Rattle.std.specs.Prelude.{◌⊎◌}
use Rattle.std.specs.List.{slice_get}
use Rattle.std.proofs.lemmas.Bool.{true≢false, leb-true, leb-false}
use Rattle.std.proofs.lemmas.Option.{none-some}
use Rattle.mds_base.specs.declared.setup.Setup.{Setup}
use Rattle.mds_base.specs.declared.setup.Which.{Which}
use Rattle.mds_out.specs.Disk.{Image, Contents}
use Rattle.mds_out.specs.Fault.{Rose}
use Rattle.mds_out.specs.Known.{OnTold}
use Rattle.script.specs.declared.line.Line.{Line}
use Rattle.script.proofs.Meanings.{one_line}
use Rattle.simulation.specs.Runs.{RunV, start_run}
use Rattle.pasts.specs.Openings.{ComeBack, Paired}
use Rattle.pasts.specs.Starts.{AreReached}
use Rattle.mds_base.proofs.Lists.{get_below}
use Rattle.world.specs.declared.event.Event.{Event}
use Rattle.world.specs.Law.{PastRun}
use Rattle.interpreter.specs.Steps.{IsAtLimit}
use Rattle.interpreter.specs.Story.{grown_by, IsDone, IsBegun}
use Rattle.interpreter.proofs.EventsText.{grown_append}
use Rattle.mds_cli.specs.Ending.{HasEnded, IsEnd, IsNotBegun, Explains}
use Rattle.mds_cli.specs.Follows.{Says, Follows}
use Rattle.mds_cli.specs.Lines.{lines_of, without_return}
use Rattle.mds_cli.specs.Run.{Leaves, BeginsWith, BeginsBad, BeginsAllowed, MeetsLimit, EndsAfter, HasRun, RunsOver}
use Rattle.mds_cli.specs.Payments.{stops_in, fuses_armed, CountPays, RunIsPaid}
use Rattle.mds_cli.specs.Scripts.{AreCalm, IsScript, IsWithinLimits, HaveNotRisen, Completes}
use Rattle.mds_cli.specs.Streams.{Streams}
use Rattle.mds_cli.specs.Words.{AsksFor}
use Rattle.mds_cli.specs.declared.status.Status.{Status}
use Rattle.mds_cli.specs.declared.status.Status.TheVariants.{Done, Usage, BadScript, ReadFault, WriteFault, OpenFault, BadDisk, Limit, OutOfMemory}
use Rattle.mds_cli.proofs.EventStops.{stops_append}
use Rattle.mds_cli.proofs.Options.{asks_one}
use Rattle.mds_cli.proofs.SoFar.{fuses_append}

-- ---- a script within the grammar and the limits

same_line : (setup : Setup) (bytes : List ℕ) (a b : Line) → Says setup bytes a → Says setup bytes b → a ≡ b
same_line setup bytes a b says said = one_line setup (without_return bytes) a b says.1 said.1

-- calm events, in two parts
calm_parts : (setup : Setup) (a b events : List Event) → events ≡ a ++ b → AreCalm setup events → AreCalm setup a × AreCalm setup b
calm_parts setup a b events are calm =
    (λ s small. let sum = stops_append a b s in omega (arith, sum, ap (λ e. stops_in e s) are, calm s small), λ s small. let sum = stops_append a b s in omega (arith, sum, ap (λ e. stops_in e s) are, calm s small))

-- what is left of a script whose first lines were followed
script_after : (setup : Setup) (r : RunV) (lines rest : List (List ℕ)) (events : List Event) → IsScript setup r (lines ++ rest) → Follows setup r lines events → AreCalm setup events → IsScript setup (grown_by r events) rest
script_after setup r [] rest events script none calm = subst (λ e. IsScript setup (grown_by r e) rest) (sym none) script
script_after setup r (bytes ∷ more) rest events script f calm =
    let parts = calm_parts setup f.0 f.1 events f.2 calm in
    let done : IsDone r script.0 f.0 = subst (λ l. IsDone r l f.0) (same_line setup bytes f.3.line script.0 f.3.says script.1) f.3.done in
    subst (λ q. IsScript setup q rest) (sym (ap (grown_by r) f.2 ∙ grown_append r f.0 f.1))
    (script_after setup (grown_by r f.0) more rest f.1 (script.4 f.0 done f.3.may parts.0) f.4 parts.1)

module _ (setup : Setup) (r : RunV) (bytes : List ℕ) (lines next : List (List ℕ)) (printed events : List Event) (script : IsScript setup r (lines_of bytes)) (calm : AreCalm setup events) where
  never_bad : (line : ℕ) → EndsAfter (BadScript line) setup 1 lines next (Some bytes) r printed events → ⊥
  never_bad line e =
      let b : BeginsBad setup (grown_by r e.whole) e.because.2.0 = e.because.2.2 in
      let left : IsScript setup (grown_by r e.whole) (b.bad ∷ b.more) = script_after setup r lines (b.bad ∷ b.more) e.whole (subst (IsScript setup r) (e.because.2.1 ∙ ap (λ ls. lines ++ ls) b.is) script) e.follows (calm_parts setup e.whole e.part events e.are calm).0 in
      true≢false (sym left.2 ∙ b.is_bad left.0 left.1)

  never_met : (which : Which) → length (lines_of bytes) ≤ 2 ^ 22 → Leaves (Some bytes) lines (BeginsWith next) → EndsAfter (Limit which) setup 1 lines next (Some bytes) r printed events → ⊥
  never_met which few begins e = by e.because
    where
      by : MeetsLimit which setup (grown_by r e.whole) (1 + length lines) (Leaves (Some bytes) lines) next e.part → ⊥
      by (inl m) =
          let q : RunV = grown_by r e.whole in
          let a : BeginsAllowed setup q m.3.0 = m.3.2 in
          let many = m.2 in
          absurd (omega (arith, few, many, ap length m.3.1, ap length a.is, length-append lines m.3.0))
      by (inr m) =
          let q : RunV = grown_by r e.whole in
          let at : lines_of bytes ≡ lines ++ m.0 ∷ begins.2.0 = begins.1 ∙ ap (λ ls. lines ++ ls) (begins.2.1 ∙ ap (λ n. n ++ begins.2.0) m.1) in
          let left : IsScript setup q (m.0 ∷ begins.2.0) = script_after setup r lines (m.0 ∷ begins.2.0) e.whole (subst (IsScript setup r) at script) e.follows (calm_parts setup e.whole e.part events e.are calm).0 in
          let same : m.3.line ≡ left.0 = same_line setup m.0 m.3.line left.0 m.3.says left.1 in
          left.3 which e.part (subst (λ l. IsBegun q l e.part) same m.3.begun) m.3.may (calm_parts setup e.whole e.part events e.are calm).1
          (subst (λ l. IsAtLimit which (grown_by q e.part) (λ event. IsBegun q l (e.part ++ event ∷ []))) same m.3.at)

-- ---- no device stopped a server

-- disks that come back are at their places
come_at : {D : Type 0} (P : ℕ → D → D → Type 0) (p : ℕ) (old new : List D) → Paired P p old new → (s : ℕ) (before : D) → slice_get old s ≡ Some before → (now : D) × (slice_get new s ≡ Some now)
come_at P p [] new on s before at = absurd (none-some before at)
come_at P p (x ∷ old) [] on s before at = absurd on
come_at P p (x ∷ old) (y ∷ new) on zero before at = (y, refl)
come_at P p (x ∷ old) (y ∷ new) on (suc s) before at = come_at P (p + 1) old new on.1 s before at

-- a count that has not risen pays for no stop
none_paid : (before now stops fuses : ℕ) → (Rose before now → ⊥) → fuses ≡ 0 → CountPays before now stops fuses → stops ≡ 0
none_paid before now stops fuses risen none (inr full) = absurd (risen (omega (arith, full)))
none_paid before now stops fuses risen none (inl paid) = by (leb now before) refl
  where
    by : (low : Bool) → leb now before ≡ low → stops ≡ 0
    by true is = let few = leb-true now before is in omega (arith, few, paid, none)
    by false is = absurd (risen (let many = leb-false now before is in omega (arith, many)))

-- the lines that were carried out, and the one that was begun, arm no fuse where no line of the script does
none_armed : (bytes : List ℕ) (lines next : List (List ℕ)) (s : ℕ) → Leaves (Some bytes) lines (BeginsWith next) → fuses_armed (lines_of bytes) s ≡ 0 → fuses_armed (lines ++ next) s ≡ 0
none_armed bytes lines next s begins none =
    let more : List (List ℕ) = begins.2.0 in
    let is : fuses_armed (lines_of bytes) s ≡ fuses_armed (lines ++ (next ++ more)) s = ap (λ ls. fuses_armed ls s) (begins.1 ∙ ap (λ r. lines ++ r) begins.2.1) in
    omega (arith, is, none, fuses_append lines (next ++ more) s, fuses_append next more s, fuses_append lines next s)

module _ (setup : Setup) (past : List PastRun) where
  always : (input : Option (List ℕ)) (P : Type 0) → P → OnTold input (λ bytes. IsWithinLimits setup past bytes → P)
  always None P p = tt
  always (Some bytes) P p = λ _. p

  module _ {D : Type 0} (faults : D → ℕ) (lasts : D → D → Type 0) (seen : D → Contents) (images : D → Image → Type 0) (old disks : List D) (now : Streams) (enough : length old ≡ setup.servers) (back : ComeBack lasts old disks) (risen : HaveNotRisen faults old disks) where
    calm_run : (lines : List (List ℕ)) (events : List Event) → RunIsPaid faults old disks lines events → ((s : ℕ) → fuses_armed lines s ≡ 0) → AreCalm setup events
    calm_run lines events paid none s small =
        let before = get_below old s (omega (arith, small, enough)) in
        let after = come_at (λ s. lasts) 0 old disks back s before.0 before.1 in
        none_paid (faults before.0) (faults after.0) (stops_in events s) (fuses_armed lines s) (risen s before.0 after.0 before.1 after.1) (none s) (paid s before.0 after.0 before.1 after.1)

    -- the lines of the input, where a run was stopped by one of them
    over_told : (status : Status) → ((bytes : List ℕ) (r : RunV) (lines next : List (List ℕ)) (printed events : List Event) → IsScript setup r (lines_of bytes) → AreCalm setup events → length (lines_of bytes) ≤ 2 ^ 22 → Leaves (Some bytes) lines (BeginsWith next) → EndsAfter status setup 1 lines next (Some bytes) r printed events → ⊥)
        → (first : Streams) (input : Option (List ℕ)) → first.unread ≡ input → (o : RunsOver faults seen images setup past old disks status first now) → RunIsPaid faults old disks (o.ends.lines ++ o.ends.next) o.ends.events → OnTold input (λ bytes. IsWithinLimits setup past bytes → Completes status)
    over_told status never first None is o paid = tt
    over_told status never first (Some bytes) is o paid = λ fits.
        let r : RunV = start_run setup o.servers o.entries in
        let h : HasRun status setup first now r = o.ends in
        let begins : Leaves (Some bytes) h.lines (BeginsWith h.next) = subst (λ u. Leaves u h.lines (BeginsWith h.next)) is h.begins in
        absurd (never bytes r h.lines h.next h.printed h.events (fits.each o.keep o.servers o.entries o.reached)
        (calm_run (h.lines ++ h.next) h.events paid (λ s. none_armed bytes h.lines h.next s begins (fits.unarmed s))) fits.count begins
        (subst (λ u. EndsAfter status setup 1 h.lines h.next u r h.printed h.events) is h.after))

    over : (status : Status) (first : Streams) → IsEnd seen setup disks status first now → RunsOver faults seen images setup past old disks status first now → OnTold first.unread (λ bytes. IsWithinLimits setup past bytes → Completes status)
    over (BadScript line) first end o = over_told (BadScript line) (λ bytes r lines next printed events script calm few begins e. never_bad setup r bytes lines next printed events script calm line e) first first.unread refl o o.paid
    over (Limit which) first end o = over_told (Limit which) (λ bytes r lines next printed events script calm few begins e. never_met setup r bytes lines next printed events script calm which few begins e) first first.unread refl o o.paid
    over (BadDisk server file place damage) first end o = absurd o.ends.after.because
    over (OpenFault server) first end o = absurd end
    over Usage first end o = absurd end
    over status first end o = always first.unread (Completes status) tt

    not_begun : (status : Status) (first : Streams) → AreReached seen images setup old past → IsNotBegun faults seen images setup status old disks first now → OnTold first.unread (λ bytes. IsWithinLimits setup past bytes → Completes status)
    not_begun (OpenFault server) first reached n =
        let before = get_below old server n.why.within in
        let after = come_at (λ s. lasts) 0 old disks back server before.0 before.1 in
        absurd (risen server before.0 after.0 before.1 after.1 (n.why.cause before.0 after.0 before.1 after.1))
    not_begun (BadDisk server file place damage) first reached n = absurd (n.why.1 past reached)
    not_begun OutOfMemory first reached n = always first.unread (Completes OutOfMemory) tt
    not_begun status first reached n = absurd n.why

-- ---- the clauses of the program's call

module _ {D : Type 0} (faults : D → ℕ) (seen : D → Contents) (images : D → Image → Type 0) (old new : List D) (first now : Streams) (words : List (List ℕ)) (setup : Setup) (asks : AsksFor words setup) (status : Status) (ends : HasEnded faults seen images setup status old new first now) where
  -- for the one setup that the words ask for
  pub ended_clause : (s : Setup) → AsksFor words s → HasEnded faults seen images s status old new first now
  ended_clause s asked = subst (λ t. HasEnded faults seen images t status old new first now) (asks_one words setup s asks asked) ends

  pub complete_clause : (lasts : D → D → Type 0) → ((s : Setup) → AsksFor words s → length old ≡ s.servers) → ComeBack lasts old new → (s : Setup) → AsksFor words s → (past : List PastRun) → AreReached seen images s old past → HaveNotRisen faults old new → OnTold first.unread (λ bytes. IsWithinLimits s past bytes → Completes status)
  complete_clause lasts enough back s asked past reached risen = by (ended_clause s asked).how
    where
      by : IsNotBegun faults seen images s status old new first now ⊎ (IsEnd seen s new status first now × Explains faults seen images s status old new first now) → OnTold first.unread (λ bytes. IsWithinLimits s past bytes → Completes status)
      by (inl n) = not_begun s past faults lasts seen images old new now (enough s asked) back risen status first reached n
      by (inr e) = over s past faults lasts seen images old new now (enough s asked) back risen status first e.0 (e.1 past reached)

  pub never_usage : status ≡ Usage → ⊥
  never_usage is = by (subst (λ t. HasEnded faults seen images setup t old new first now) is ends).how
    where
      by : IsNotBegun faults seen images setup Usage old new first now ⊎ (IsEnd seen setup new Usage first now × Explains faults seen images setup Usage old new first now) → ⊥
      by (inl n) = n.why
      by (inr e) = e.0
