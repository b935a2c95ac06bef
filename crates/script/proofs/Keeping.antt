-- Which calls and lines keep bytes: where memory ran out, what was to be read keeps some.
use Rattle.std.proofs.Common.{◌≡◌, sym, subst, refl, ℕ, List, Bool, true, false, cond, length, nat_le, Option, Some, None, Result, Ok, Err}
use Rattle.std.specs.Prelude.{IfSome, IsTrue}
use Rattle.std.specs.List.{list_any}
use Rattle.std.proofs.lemmas.Bool.{true≢false}
use Rattle.mds_base.specs.declared.limits.TheConstants.{MODE_MOST, BATCH_MOST}
use Rattle.mds_base.specs.declared.call.Call.{Call}
use Rattle.mds_base.specs.declared.call.Call.TheVariants as calls
use Rattle.mds_base.specs.declared.setup.Setup.{Setup}
use Rattle.script.specs.declared.line.Line.{Line}
use Rattle.script.specs.declared.line.Line.TheVariants as lines
use Rattle.script.specs.declared.fault.LineFault.{LineFault}
use Rattle.script.specs.declared.fault.LineFault.TheVariants.{NotALine, OutOfMemory}
use Rattle.script.specs.declared.verb.Verb.{Verb}
use Rattle.script.specs.declared.verb.Verb.TheVariants as verbs
use Rattle.script.specs.declared.verb.CallVerb.{CallVerb}
use Rattle.script.specs.declared.verb.CallVerb.TheVariants as asked
use Rattle.script.specs.Answers.{OnMemory}
use Rattle.script.specs.Grammar.{is_kept, call_parts, keeps}
use Rattle.script.specs.Words.{word_at, rest_at}
use Rattle.script.specs.Reading.{◌>>=◌, is_named, call_verb_of, number_at, number_within, server_at, client_at, place_at, stamp_at, setattr_after, call_after, call_at, numbers_at, batch_line, walk_line, bulk_line, rmdir_line, line_after}

-- what comes of a step, whatever it found
then_all : {A B : Type 0} (found : Option A) (next : A → Option B) (P : B → Type 0) → ((value : A) → IfSome (next value) P) → IfSome (found >>= next) P
then_all None next P each = tt
then_all (Some value) next P each = each value

if_all : {A : Type 0} (t : Bool) (value : A) (P : A → Type 0) → P value → IfSome (cond t (Some value) None) P
if_all true value P holds = holds
if_all false value P holds = tt

-- what was found keeps bytes
abbrev pub Named : Call × List ℕ → Type 0
Named x = IsTrue (list_any is_kept (call_parts x.0))

abbrev pub AsksNamed : ℕ × Call × List ℕ → Type 0
AsksNamed x = IsTrue (list_any is_kept (call_parts x.1))

abbrev pub Keeps : Line × List ℕ → Type 0
Keeps x = IsTrue (keeps x.0)

-- ---- calls

setattr_named : (dir : ℕ) (name bytes : List ℕ) → IfSome (setattr_after dir name bytes) Named
unfolding setattr_after
setattr_named dir name bytes =
    then_all (number_within 0 MODE_MOST bytes) (λ mode. number_at mode.1 >>= (λ size. stamp_at size.1 >>= (λ stamp. Some (calls.Setattr dir name mode.0 size.0 stamp.0, stamp.1)))) Named (λ mode.
    then_all (number_at mode.1) (λ size. stamp_at size.1 >>= (λ stamp. Some (calls.Setattr dir name mode.0 size.0 stamp.0, stamp.1))) Named (λ size.
    then_all (stamp_at size.1) (λ stamp. Some (calls.Setattr dir name mode.0 size.0 stamp.0, stamp.1)) Named (λ stamp. refl)))

after_named : (verb : CallVerb) (bytes : List ℕ) → is_named verb ≡ true → IfSome (call_after verb bytes) Named
unfolding call_after
after_named asked.Create bytes named = then_all (place_at bytes) (λ place. Some (calls.Create place.0 place.1, place.2)) Named (λ place. refl)
after_named asked.Mkdir bytes named = then_all (place_at bytes) (λ place. Some (calls.Mkdir place.0 place.1, place.2)) Named (λ place. refl)
after_named asked.Remove bytes named = then_all (place_at bytes) (λ place. Some (calls.Remove place.0 place.1, place.2)) Named (λ place. refl)
after_named asked.Lookup bytes named = then_all (place_at bytes) (λ place. Some (calls.Lookup place.0 place.1, place.2)) Named (λ place. refl)
after_named asked.Setattr bytes named = then_all (place_at bytes) (λ place. setattr_after place.0 place.1 place.2) Named (λ place. setattr_named place.0 place.1 place.2)
after_named asked.Scan bytes named = absurd (true≢false (sym named))

pub call_named : (bytes word rest : List ℕ) (verb : CallVerb) (r : Result Call LineFault) → word_at bytes ≡ Some (word, rest) → call_verb_of word ≡ Some verb → OnMemory r (IsTrue (is_named verb)) → OnMemory r (IfSome (call_at bytes) Named)
unfolding call_at
call_named bytes word rest verb (Ok call) first is memory = tt
call_named bytes word rest verb (Err NotALine) first is memory = tt
call_named bytes word rest verb (Err OutOfMemory) first is memory =
    subst (λ o. IfSome (o >>= (λ word. call_verb_of word.0 >>= (λ verb. call_after verb word.1))) Named) (sym first)
    (subst (λ o. IfSome (o >>= (λ verb. call_after verb rest)) Named) (sym is) (after_named verb rest memory))

-- ---- lines

batch_keeps : (setup : Setup) (bytes : List ℕ) → IfSome (batch_line setup bytes) Keeps
unfolding batch_line
batch_keeps setup bytes =
    then_all (server_at setup bytes) (λ server. numbers_at BATCH_MOST server.1 >>= (λ places. cond (nat_le 1 (length places.0)) (Some (lines.Batch server.0 places.0, places.1)) None)) Keeps (λ server.
    then_all (numbers_at BATCH_MOST server.1) (λ places. cond (nat_le 1 (length places.0)) (Some (lines.Batch server.0 places.0, places.1)) None) Keeps (λ places.
    if_all (nat_le 1 (length places.0)) (lines.Batch server.0 places.0, places.1) Keeps refl))

walk_keeps : (setup : Setup) (bytes : List ℕ) → IfSome (walk_line setup bytes) Keeps
unfolding walk_line
walk_keeps setup bytes =
    then_all (client_at setup bytes) (λ client. word_at client.1 >>= (λ path. Some (lines.Walk client.0 path.0, path.1))) Keeps (λ client.
    then_all (word_at client.1) (λ path. Some (lines.Walk client.0 path.0, path.1)) Keeps (λ path. refl))

bulk_keeps : (setup : Setup) (bytes : List ℕ) → IfSome (bulk_line setup bytes) Keeps
unfolding bulk_line
bulk_keeps setup bytes =
    then_all (client_at setup bytes) (λ client. place_at client.1 >>= (λ place. rest_at place.2 >>= (λ json. Some (lines.Bulk client.0 place.0 place.1 json.0, json.1)))) Keeps (λ client.
    then_all (place_at client.1) (λ place. rest_at place.2 >>= (λ json. Some (lines.Bulk client.0 place.0 place.1 json.0, json.1))) Keeps (λ place.
    then_all (rest_at place.2) (λ json. Some (lines.Bulk client.0 place.0 place.1 json.0, json.1)) Keeps (λ json. refl)))

rmdir_keeps : (setup : Setup) (bytes : List ℕ) → IfSome (rmdir_line setup bytes) Keeps
unfolding rmdir_line
rmdir_keeps setup bytes =
    then_all (client_at setup bytes) (λ client. place_at client.1 >>= (λ place. Some (lines.Rmdir client.0 place.0 place.1, place.2))) Keeps (λ client.
    then_all (place_at client.1) (λ place. Some (lines.Rmdir client.0 place.0 place.1, place.2)) Keeps (λ place. refl))

-- where memory ran out at a line that keeps bytes whatever its words are
module _ (r : Result Line LineFault) (setup : Setup) (bytes : List ℕ) where
  at_memory : (found : Option (Line × List ℕ)) → IfSome found Keeps → OnMemory r (IfSome found Keeps)
  at_memory found kept = by r
    where
      by : (r : Result Line LineFault) → OnMemory r (IfSome found Keeps)
      by (Ok line) = tt
      by (Err NotALine) = tt
      by (Err OutOfMemory) = kept

  pub batch_memory : (verb : Verb) → verb ≡ verbs.Batch → OnMemory r (IfSome (line_after verb setup bytes) Keeps)
  unfolding line_after
  batch_memory verb is = subst (λ verb. OnMemory r (IfSome (line_after verb setup bytes) Keeps)) (sym is) (at_memory (batch_line setup bytes) (batch_keeps setup bytes))

  pub walk_memory : (verb : Verb) → verb ≡ verbs.Walk → OnMemory r (IfSome (line_after verb setup bytes) Keeps)
  unfolding line_after
  walk_memory verb is = subst (λ verb. OnMemory r (IfSome (line_after verb setup bytes) Keeps)) (sym is) (at_memory (walk_line setup bytes) (walk_keeps setup bytes))

  pub bulk_memory : (verb : Verb) → verb ≡ verbs.Bulk → OnMemory r (IfSome (line_after verb setup bytes) Keeps)
  unfolding line_after
  bulk_memory verb is = subst (λ verb. OnMemory r (IfSome (line_after verb setup bytes) Keeps)) (sym is) (at_memory (bulk_line setup bytes) (bulk_keeps setup bytes))

  pub rmdir_memory : (verb : Verb) → verb ≡ verbs.Rmdir → OnMemory r (IfSome (line_after verb setup bytes) Keeps)
  unfolding line_after
  rmdir_memory verb is = subst (λ verb. OnMemory r (IfSome (line_after verb setup bytes) Keeps)) (sym is) (at_memory (rmdir_line setup bytes) (rmdir_keeps setup bytes))
