-- Bytes that are known of, and text on its way to the sink.
use Rattle.std.proofs.Common.{◌≡◌, ◌∙◌, sym, ap, subst, refl, ℕ, ◌+◌, ◌≤◌, List, [], ◌∷◌, ◌++◌, length, take, drop, arith, Option, Some, None, append_assoc, length-append, length-drop}
use Rattle.std.specs.Io.KnownBytes.{Consumes, Appends, Keeps, prepend_known}
use Rattle.std.proofs.Math.Seq.{take-append-add, take-length}
use Rattle.std.proofs.lemmas.List.{append-nil, take-append-le, take-append-drop, drop-append-le, drop-drop}
use Rattle.mds_out.specs.Stream.{TakesFront}
use Rattle.mds_out.proofs.Streams.{front_grows}
use Rattle.mds_cli.specs.Streams.{Flows}

pub append_both : (a b c d : List ℕ) → a ≡ b → c ≡ d → a ++ c ≡ b ++ d
append_both a b c d one two = λ i. one i ++ two i

-- ---- bytes that are read

pub consumes_both : (a b c : Option (List ℕ)) (first second : List ℕ) → Consumes a b first → Consumes b c second → Consumes a c (first ++ second)
consumes_both None b c first second one two = tt
consumes_both (Some a) None c first second one two = absurd one
consumes_both (Some a) (Some b) None first second one two = absurd two
consumes_both (Some a) (Some b) (Some c) first second one two = one ∙ ap (λ l. first ++ l) two ∙ sym (append_assoc first second c)

pub prepend_none : (left : Option (List ℕ)) → prepend_known [] left ≡ left
prepend_none None = refl
prepend_none (Some left) = refl

-- ---- bytes that are written

pub appends_both : (a b c : Option (List ℕ)) (text more : List ℕ) → Appends a b text → Appends b c more → Appends a c (text ++ more)
appends_both None b c text more one two = tt
appends_both (Some a) None c text more one two = absurd one
appends_both (Some a) (Some b) None text more one two = absurd two
appends_both (Some a) (Some b) (Some c) text more one two = two ∙ ap (λ l. l ++ more) one ∙ append_assoc a text more

pub front_then : (a b c : Option (List ℕ)) (text more : List ℕ) → Appends a b text → TakesFront b c more → TakesFront a c (text ++ more)
front_then a b c text more appends front = record {
  count = length text + front.count;
  within = omega (arith, front.within, length-append text more);
  taken = subst (λ l. Appends a c l) (sym (take-append-add text more front.count)) (appends_both a b c text (take front.count more) appends front.taken);
}

pub appends_kept : (a b c : Option (List ℕ)) (text : List ℕ) → Appends a b text → Keeps b c → Appends a c text
appends_kept None b c text one keeps = tt
appends_kept (Some a) None c text one keeps = absurd one
appends_kept (Some a) (Some b) None text one keeps = absurd keeps
appends_kept (Some a) (Some b) (Some c) text one keeps = keeps ∙ one

pub front_all : (a b c : Option (List ℕ)) (text : List ℕ) → Appends a b text → Keeps b c → TakesFront a c text
front_all a b c text appends keeps = record { count = length text; within = omega arith; taken = subst (λ l. Appends a c l) (sym (take-length text)) (appends_kept a b c text appends keeps) }

pub front_longer : (a b : Option (List ℕ)) (text more : List ℕ) → TakesFront a b text → TakesFront a b (text ++ more)
front_longer a b text more front = record { count = front.count; within = omega (arith, front.within, length-append text more); taken = subst (λ l. Appends a b l) (sym (take-append-le front.count text more front.within)) front.taken }

pub front_whole : (a b : Option (List ℕ)) (text : List ℕ) → Appends a b text → TakesFront a b text
front_whole a b text appends = record { count = length text; within = omega arith; taken = subst (λ l. Appends a b l) (sym (take-length text)) appends }

-- ---- text on its way

pub flows_through : (a b c : Option (List ℕ)) (waits pending text more : List ℕ) → Flows a b waits text → Flows b c pending (waits ++ more) → Flows a c pending (text ++ more)
flows_through a b c waits pending text more one two =
    let dropped : drop one.count (text ++ more) ≡ waits ++ more = drop-append-le one.count text more one.within ∙ ap (λ w. w ++ more) (sym one.rest) in
    record {
      count = one.count + two.count;
      within = omega (arith, one.within, two.within, length-append text more, length-append waits more, ap length one.rest, length-drop one.count text);
      taken = front_grows a b c (text ++ more) one.count two.count
          (subst (λ l. Appends a b l) (sym (take-append-le one.count text more one.within)) one.taken)
          (subst (λ l. Appends b c (take two.count l)) (sym dropped) two.taken);
      rest = two.rest ∙ ap (drop two.count) (sym dropped) ∙ drop-drop two.count one.count (text ++ more);
    }

-- text that is added behind what is on its way is on its way too
pub flows_more : (before now : Option (List ℕ)) (pending text more : List ℕ) → Flows before now pending text → Flows before now (pending ++ more) (text ++ more)
flows_more before now pending text more flows = record {
  count = flows.count;
  within = omega (arith, flows.within, length-append text more);
  taken = subst (λ l. Appends before now l) (sym (take-append-le flows.count text more flows.within)) flows.taken;
  rest = ap (λ p. p ++ more) flows.rest ∙ sym (drop-append-le flows.count text more flows.within);
}

pub flows_text : (a b c : Option (List ℕ)) (pending text more : List ℕ) → Flows a b pending text → Appends b c (pending ++ more) → Appends a c (text ++ more)
flows_text a b c pending text more flows appends =
    subst (λ l. Appends a c l)
    (sym (append_assoc (take flows.count text) pending more) ∙ ap (λ l. l ++ more) (ap (λ p. take flows.count text ++ p) flows.rest ∙ take-append-drop flows.count text))
    (appends_both a b c (take flows.count text) (pending ++ more) flows.taken appends)

pub flows_front : (a b c : Option (List ℕ)) (pending text more : List ℕ) → Flows a b pending text → TakesFront b c (pending ++ more) → TakesFront a c (text ++ more)
flows_front a b c pending text more flows front =
    subst (λ l. TakesFront a c l)
    (sym (append_assoc (take flows.count text) pending more) ∙ ap (λ l. l ++ more) (ap (λ p. take flows.count text ++ p) flows.rest ∙ take-append-drop flows.count text))
    (front_then a b c (take flows.count text) (pending ++ more) flows.taken front)

pub took : (a b c : Option (List ℕ)) (pending text : List ℕ) → Flows a b pending text → Appends b c pending → Appends a c text
took a b c pending text flows appends = subst (λ l. Appends a c l) (append-nil text) (flows_text a b c pending text [] flows (subst (λ l. Appends b c l) (sym (append-nil pending)) appends))

pub took_front : (a b c : Option (List ℕ)) (pending text : List ℕ) → Flows a b pending text → TakesFront b c pending → TakesFront a c text
took_front a b c pending text flows front = subst (λ l. TakesFront a c l) (append-nil text) (flows_front a b c pending text [] flows (subst (λ l. TakesFront b c l) (sym (append-nil pending)) front))
