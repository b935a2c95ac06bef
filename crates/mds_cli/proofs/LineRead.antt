-- Reading a line, part by part.
use Rattle.std.proofs.Common.{◌≡◌, ◌∙◌, sym, ap, subst, refl, ℕ, ◌+◌, ◌-◌, ◌≤◌, ◌^◌, List, [], ◌∷◌, ◌++◌, length, take, arith, Option, Some, None, append_assoc, length-append, length-drop}
use Rattle.std.specs.Io.KnownBytes.{Consumes, Appends, prepend_known}
use Rattle.std.proofs.lemmas.List.{append-nil, drop_all, take_rest}
use Rattle.mds_out.specs.Fault.{Rose}
use Rattle.mds_out.specs.Known.{OnTold}
use Rattle.mds_out.specs.Stream.{TakesFront}
use Rattle.mds_out.proofs.Streams.{front_grows}
use Rattle.mds_cli.specs.Lines.{IsPart}
use Rattle.mds_cli.specs.Streams.{Streams, streams, Flows, IsQuiet, EndsLine, GoesOn, PassesLimit, ReadsEnded, ReadsLast, ReadsNone, StopsLong, StopsReading, StopsWriting, BeginsLong, Ends}
use Rattle.mds_cli.proofs.ByteParts.{lacks-append}

pub is_nil : (bytes : List ℕ) → length bytes ≡ 0 → bytes ≡ []
is_nil [] none = refl
is_nil (byte ∷ bytes) none = absurd (omega (arith, none))

-- Known bytes

pub appends_none : (known : Option (List ℕ)) → Appends known known []
appends_none None = tt
appends_none (Some bytes) = sym (append-nil bytes)

pub consumes_none : (known : Option (List ℕ)) → Consumes known known []
consumes_none None = tt
consumes_none (Some bytes) = refl

pub consumed_more : (all left : Option (List ℕ)) (line held piece rest : List ℕ) → Consumes all (prepend_known held left) line → held ≡ piece ++ rest → Consumes all (prepend_known rest left) (line ++ piece)
consumed_more None left line held piece rest consumed splits = tt
consumed_more (Some all) None line held piece rest consumed splits = absurd consumed
consumed_more (Some all) (Some left) line held piece rest consumed splits =
    consumed ∙ ap (λ h. line ++ (h ++ left)) splits ∙ ap (λ l. line ++ l) (append_assoc piece rest left) ∙ sym (append_assoc line piece (rest ++ left))

pub refilled : (all left later : Option (List ℕ)) (line held : List ℕ) → Consumes all (prepend_known [] left) line → Consumes left later held → Consumes all (prepend_known held later) line
refilled None left later line held consumed read = tt
refilled (Some all) None later line held consumed read = absurd consumed
refilled (Some all) (Some left) None line held consumed read = absurd read
refilled (Some all) (Some left) (Some later) line held consumed read = consumed ∙ ap (λ l. line ++ l) read

pub ends_all : (all left later : Option (List ℕ)) (line : List ℕ) → Consumes all (prepend_known [] left) line → Ends left later → Ends all (prepend_known [] later)
ends_all None left later line consumed ends = tt
ends_all (Some all) None later line consumed ends = absurd consumed
ends_all (Some all) (Some left) None line consumed ends = absurd ends
ends_all (Some all) (Some left) (Some later) line consumed ends = ends

-- Text on its way

pub flows_none : (taken : Option (List ℕ)) (pending : List ℕ) → Flows taken taken pending pending
flows_none taken pending = record { count = 0; within = omega arith; taken = appends_none taken; rest = refl }

pub flows_flushed : (first mid last : Option (List ℕ)) (pending text : List ℕ) → Flows first mid pending text → Appends mid last pending → Flows first last [] text
flows_flushed first mid last pending text flows appends = record {
  count = length text;
  within = omega arith;
  taken = subst (λ l. Appends first last l) (ap (λ n. take n text) (let e : flows.count + (length text - flows.count) ≡ length text = omega (arith, flows.within) in e)) (front_grows first mid last text flows.count (length text - flows.count) flows.taken (subst (λ p. Appends mid last p) (flows.rest ∙ sym (take_rest text flows.count)) appends));
  rest = sym (drop_all (length text) text (omega arith));
}

pub flows_failed : (first mid last : Option (List ℕ)) (pending text : List ℕ) → Flows first mid pending text → TakesFront mid last pending → TakesFront first last text
flows_failed first mid last pending text flows front = record {
  count = flows.count + front.count;
  within = omega (arith, flows.within, front.within, ap length flows.rest, length-drop flows.count text);
  taken = front_grows first mid last text flows.count front.count flows.taken (subst (λ p. Appends mid last (take front.count p)) flows.rest front.taken);
}

-- The line so far was read and is part of a line, and no stream failed.
pub record IsReading (before now : Streams) (line : List ℕ) : Type 0 where
  pub quiet : IsQuiet before now
  pub is_part : IsPart line
  pub short : length line ≤ 2 ^ 20 + 1
  pub consumed : Consumes before.unread now.unread line

pub starts : (before : Streams) → IsReading before before []
starts before = record {
  quiet = record { reads = refl; writes = refl; flows = flows_none before.taken before.pending };
  is_part = refl;
  short = omega arith;
  consumed = consumes_none before.unread;
}

begins_long : (all left : Option (List ℕ)) (line held rest : List ℕ) → IsPart line → PassesLimit held rest line → Consumes all (prepend_known held left) line → OnTold all BeginsLong
begins_long None left line held rest is_part passes consumed = tt
begins_long (Some all) None line held rest is_part passes consumed = absurd consumed
begins_long (Some all) (Some left) line held rest is_part passes consumed = record {
  part = line ++ passes.part;
  rest = passes.rest ++ left;
  is_part = lacks-append 10 line passes.part is_part passes.is_part;
  splits = consumed ∙ ap (λ h. line ++ (h ++ left)) passes.splits ∙ ap (λ l. line ++ l) (append_assoc passes.part passes.rest left) ∙ sym (append_assoc line passes.part (passes.rest ++ left));
  long = omega (arith, passes.long, length-append line passes.part);
}

module _ (before : Streams) (held : List ℕ) (left taken : Option (List ℕ)) (pending : List ℕ) (reads writes : ℕ) (line : List ℕ) (reading : IsReading before (streams held left taken pending reads writes) line) where
  pub ended : (rest longer : List ℕ) → EndsLine held rest line longer → ReadsEnded before (streams rest left taken pending reads writes) longer
  ended rest longer ends = record {
    quiet = record { reads = reading.quiet.reads; writes = reading.quiet.writes; flows = reading.quiet.flows };
    is_part = subst IsPart (sym ends.grows) (lacks-append 10 line ends.part reading.is_part ends.is_part);
    consumed = subst (λ l. Consumes before.unread (prepend_known rest left) l)
        (sym (append_assoc line ends.part (10 ∷ [])) ∙ ap (λ l. l ++ 10 ∷ []) (sym ends.grows))
        (consumed_more before.unread left line held (ends.part ++ 10 ∷ []) rest reading.consumed (ends.splits ∙ sym (append_assoc ends.part (10 ∷ []) rest)));
  }

  pub too_long : (rest : List ℕ) → PassesLimit held rest line → StopsLong before (streams rest left taken pending reads writes)
  too_long rest passes = record { quiet = record { reads = reading.quiet.reads; writes = reading.quiet.writes; flows = reading.quiet.flows }; begins = begins_long before.unread left line held rest reading.is_part passes reading.consumed }

  module _ (rest longer : List ℕ) (goes_on : GoesOn held rest line longer) where
    all_read : Consumes before.unread (prepend_known [] left) longer
    all_read = subst (λ l. Consumes before.unread (prepend_known [] left) l) (sym goes_on.grows) (consumed_more before.unread left line held held [] reading.consumed (sym (append-nil held)))

    longer_part : IsPart longer
    longer_part = subst IsPart (sym goes_on.grows) (lacks-append 10 line held reading.is_part goes_on.is_part)

    module _ (taken_now : Option (List ℕ)) (pending_now : List ℕ) (writes_now : ℕ) where
      -- the sink failed
      pub stops_writing : (held_now : List ℕ) (left_now : Option (List ℕ)) (reads_now : ℕ) → left_now ≡ left → reads_now ≡ reads → TakesFront taken taken_now pending → Rose writes writes_now → StopsWriting before (streams held_now left_now taken_now pending_now reads_now writes_now)
      stops_writing held_now left_now reads_now same_left same_reads front rose = record {
        reads = same_reads ∙ reading.quiet.reads;
        writes = subst (λ n. Rose n writes_now) reading.quiet.writes rose;
        front = flows_failed before.taken taken taken_now pending before.pending reading.quiet.flows front;
      }

      -- what was pending was written, and the source was read
      module _ (appends : Appends taken taken_now pending) (none : pending_now ≡ []) (same_writes : writes_now ≡ writes) (held_now : List ℕ) (left_now : Option (List ℕ)) (reads_now : ℕ) (read : Consumes left left_now held_now) where
        flushed : Flows before.taken taken_now pending_now before.pending
        flushed = subst (λ p. Flows before.taken taken_now p before.pending) (sym none) (flows_flushed before.taken taken taken_now pending before.pending reading.quiet.flows appends)

        pub reads_on : reads_now ≡ reads → IsReading before (streams held_now left_now taken_now pending_now reads_now writes_now) longer
        reads_on same_reads = record {
          quiet = record { reads = same_reads ∙ reading.quiet.reads; writes = same_writes ∙ reading.quiet.writes; flows = flushed };
          is_part = longer_part;
          short = goes_on.short;
          consumed = refilled before.unread left left_now longer held_now all_read read;
        }

        pub ends_there : held_now ≡ [] → Ends left left_now → Ends before.unread (prepend_known held_now left_now)
        ends_there nothing ends = subst (λ h. Ends before.unread (prepend_known h left_now)) (sym nothing) (ends_all before.unread left left_now longer all_read ends)

        pub reads_last : reads_now ≡ reads → held_now ≡ [] → Ends left left_now → 1 ≤ length longer → ReadsLast before (streams held_now left_now taken_now pending_now reads_now writes_now) longer
        reads_last same_reads nothing ends some =
            let on = reads_on same_reads in
            record { quiet = on.quiet; is_part = on.is_part; some = some; consumed = on.consumed; ends = ends_there nothing ends }

        pub reads_none : reads_now ≡ reads → held_now ≡ [] → Ends left left_now → longer ≡ [] → ReadsNone before (streams held_now left_now taken_now pending_now reads_now writes_now)
        reads_none same_reads nothing ends empty =
            let on = reads_on same_reads in
            record { quiet = on.quiet; consumed = subst (λ l. Consumes before.unread (prepend_known held_now left_now) l) empty on.consumed; ends = ends_there nothing ends }

        pub stops_reading : Rose reads reads_now → held_now ≡ [] → StopsReading before (streams held_now left_now taken_now pending_now reads_now writes_now)
        stops_reading rose nothing = record {
          none = nothing;
          reads = subst (λ n. Rose n reads_now) reading.quiet.reads rose;
          writes = same_writes ∙ reading.quiet.writes;
          flows = flushed;
          part = longer;
          is_part = longer_part;
          consumed = refilled before.unread left left_now longer held_now all_read read;
        }
