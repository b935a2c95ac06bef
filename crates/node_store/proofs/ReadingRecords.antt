-- Records that follow one another: what their spellings begin with, and where they lead.
use Rattle.std.proofs.Common.{◌≡◌, ◌≢◌, ◌∙◌, sym, ap, subst, refl, ℕ, ◌+◌, ◌-◌, ◌<◌, ◌≤◌, List, [], ◌∷◌, ◌++◌, length, take, drop, arith, true, false, Option, Some, None, Ok, Err}
use Rattle.std.specs.List.{AllByRecursion, flat_map}
use Rattle.std.proofs.lemmas.Bool.{and_from}
use Rattle.std.proofs.lemmas.List.{append-nil, length-append, length-drop, length-take-le, take_at, take_all, take-append-drop}
use Rattle.std.proofs.Math.Seq.{take-add}
use Rattle.std.proofs.lemmas.Grind.{flat_map-append}
use Rattle.mds_base.specs.declared.limits.TheConstants.{DIRECTORIES}
use Rattle.mds_base.specs.RowKeys.{RowMap}
use Rattle.mds_base.specs.declared.call.Call.{Call}
use Rattle.mds_base.specs.declared.store_fault.Head.{Head}
use Rattle.mds_base.specs.declared.call.Call.TheVariants.{Create, Mkdir, Remove, Lookup, Setattr, Scan, Grab, Load, Link, Seal, Unseal, Kill, Unlink}
use Rattle.records.specs.declared.fault.RecordFault.{RecordFault}
use Rattle.records.specs.declared.fault.RecordFault.TheVariants as record_faults
use Rattle.records.specs.declared.record.Record.{Record}
use Rattle.records.specs.declared.record.Record.TheVariants.{Head as Begins, Opened, Begin, Install, End, Served}
use Rattle.records.specs.Spelling.{IsRecord, SpellsBut, Spells, GivesOrMemory, record_spelling}
use Rattle.records.specs.ReadingRecords.{record_at}
use Rattle.records.proofs.Changes.{ChangeParts, change_parts}
use Rattle.records.proofs.Decoding.{same_ok}
use Rattle.records.proofs.ToCome.{Reads}
use Rattle.records.proofs.Records.{record_reads}
use Rattle.node_core.specs.Nodes.{NodeV, NodeAndRows}
use Rattle.node_core.specs.Ranges.{RecordFits}
use Rattle.mds_base.specs.Calls.{dir_of}
use Rattle.node_core.specs.Serving.{may_follow, replayed, replayed_all, IsReplayed}
use Rattle.node_store.specs.Damage.{NoneFollows}
use Rattle.node_store.specs.Stands.{all_follow}
use Rattle.node_store.proofs.Standing.{replayed_more, follow_more}
use Rattle.node_store.specs.Reading.{TakesRecord, IsFrontOf, IsHeadOf, IsHeadFound, IsRead, LeadsOn, IsWrongWithin}

abbrev reads : Reads SpellsBut record_at
reads = record_reads

-- bytes begin with one record
pub one_front : (a b : Record) (x y : List ℕ) → IsRecord a → IsRecord b → record_spelling a ++ x ≡ record_spelling b ++ y → (a ≡ b) × (x ≡ y)
one_front a b x y is other same =
    let first = reads.again (record_spelling a) a x (is, refl) in
    let second = reads.again (record_spelling b) b y (other, refl) in
    let e : ◌≡◌ {A = Record × List ℕ} (a, x) (b, y) = same_ok (record_at (record_spelling a ++ x)) (a, x) (b, y) first (ap record_at same ∙ second) in
    (ap (λ (p : Record × List ℕ). p.0) e, ap (λ (p : Record × List ℕ). p.1) e)

-- no spelling is empty
pub some_byte : (item : Record) → IsRecord item → 0 < length (record_spelling item)
some_byte (Begins format servers server threshold) is = omega arith
some_byte Opened is = omega arith
some_byte (Served client seq part call said) is = omega arith
some_byte (Begin dir part depth) is = omega arith
some_byte (Install dir part depth bitmap sessions rows) is = omega arith
some_byte (End dir part depth) is = omega arith

-- ---- lists of records

pub each_append : (xs ys : List Record) → AllByRecursion IsRecord xs → AllByRecursion IsRecord ys → AllByRecursion IsRecord (xs ++ ys)
each_append [] ys first second = second
each_append (x ∷ xs) ys first second = (first.0, each_append xs ys first.1 second)

-- ---- the record at the front of some bytes

gives_not : (fault : RecordFault) (front : Record × ℕ) → fault ≢ record_faults.OutOfMemory → GivesOrMemory (Err fault) (Ok front) → ⊥
gives_not record_faults.Short front other gives = cc
gives_not (record_faults.Bad place) front other gives = cc
gives_not record_faults.OutOfMemory front other gives = other refl

-- where reading was refused, and not for want of memory, no record begins the bytes
pub no_front : (bytes : List ℕ) (fault : RecordFault) → ((len : ℕ) (item : Record) → len ≤ length bytes → Spells (take len bytes) item → GivesOrMemory (Err fault) (Ok (item, len)))
    → fault ≢ record_faults.OutOfMemory → (item : Record) (more : List ℕ) → IsRecord item → bytes ≢ record_spelling item ++ more
no_front bytes fault only other item more is parts =
    let len = length (record_spelling item) in
    let within : len ≤ length bytes = omega (arith, ap length parts, length-append (record_spelling item) more) in
    let front : take len bytes ≡ record_spelling item = ap (take len) parts ∙ take_at (record_spelling item) more len refl in
    gives_not fault (item, len) other (only len item within (is, front))

-- the record that begins the bytes is the only one
pub only_front : (bytes : List ℕ) (item : Record) (count : ℕ) → Spells (take count bytes) item → (other : Record) (more : List ℕ) → IsRecord other → bytes ≡ record_spelling other ++ more → other ≡ item
only_front bytes item count spells other more is parts =
    let whole : bytes ≡ record_spelling item ++ drop count bytes = sym (take-append-drop count bytes) ∙ ap (λ (l : List ℕ). l ++ drop count bytes) spells.1 in
    (one_front other item more (drop count bytes) is spells.0 (sym parts ∙ whole)).0

-- where that one may not follow, none does
pub none_follows : (store : NodeAndRows) (bytes : List ℕ) (item : Record) (count : ℕ) → Spells (take count bytes) item → may_follow store item ≡ false → NoneFollows store bytes
none_follows store bytes item count spells not other more is parts follows =
    let same = only_front bytes item count spells other more is parts in
    let both : false ≡ true = sym not ∙ ap (may_follow store) (sym same) ∙ follows in
    cc

-- ---- the head of a log

pub no_head : (body : List ℕ) → IsFrontOf body None → IsHeadFound body None
no_head body none head is spelled = none (Begins 1 head.servers head.server head.threshold) [] is (spelled ∙ sym (append-nil (record_spelling (Begins 1 head.servers head.server head.threshold))))

whole_body : (body : List ℕ) (item : Record) (count : ℕ) → count ≡ length body → Spells (take count body) item → body ≡ record_spelling item
whole_body body item count all spells = sym (take_all count body (omega arith)) ∙ spells.1

pub head_found : (body : List ℕ) (item : Record) (count : ℕ) (found : Option Head) → count ≡ length body → Spells (take count body) item → IsHeadOf item found → IsHeadFound body found
head_found body item count (Some head) all spells is =
    let same = is spells.0 in
    (subst IsRecord same spells.0, whole_body body item count all spells ∙ ap record_spelling same)
head_found body item count None all spells is = λ head begins spelled.
    let front = whole_body body item count all spells in
    is head spells.0 (one_front item (Begins 1 head.servers head.server head.threshold) [] [] spells.0 begins (ap (λ (l : List ℕ). l ++ []) (sym front ∙ spelled))).0

pub head_longer : (body : List ℕ) (item : Record) (count : ℕ) → count ≢ length body → count ≤ length body → Spells (take count body) item → IsHeadFound body None
head_longer body item count longer within spells head begins spelled =
    let whole : body ≡ record_spelling item ++ drop count body = sym (take-append-drop count body) ∙ ap (λ (l : List ℕ). l ++ drop count body) spells.1 in
    let none = (one_front item (Begins 1 head.servers head.server head.threshold) (drop count body) [] spells.0 begins (sym whole ∙ spelled ∙ sym (append-nil (record_spelling (Begins 1 head.servers head.server head.threshold))))).1 in
    longer (omega (arith, ap length none, length-drop count body))

pub nothing_follows : (store : NodeAndRows) (bytes : List ℕ) → IsFrontOf bytes None → NoneFollows store bytes
nothing_follows store bytes none item more is parts follows = none item more is parts

-- ---- which records a node replays

call_fits : (call : Call) → ChangeParts 0 call → dir_of call < DIRECTORIES
call_fits (Create dir name) change = change.0.1
call_fits (Mkdir dir name) change = change.0.1
call_fits (Remove dir name) change = change.0.1
call_fits (Setattr dir name mode size stamp) change = change.0.1
call_fits (Lookup dir name) change = absurd change
call_fits (Scan dir) change = absurd change
call_fits (Grab dir name count) change = change.0.1
call_fits (Load dir rows) change = change.0.1
call_fits (Link dir name id) change = change.0.1
call_fits (Seal dir part epoch) change = change.0.1
call_fits (Unseal dir part epoch) change = change.0.1
call_fits (Kill dir epoch) change = change.0.1
call_fits (Unlink dir name id) change = change.0.1

pub fits : (item : Record) → IsRecord item → RecordFits item
fits (Begins format servers server threshold) is = tt
fits Opened is = tt
fits (Begin dir part depth) is = tt
fits (Install dir part depth bitmap sessions rows) is = tt
fits (End dir part depth) is = tt
fits (Served client seq part call said) is = call_fits call (change_parts 0 call is.change)

abbrev with : NodeV → RowMap → NodeAndRows
with node rows = record { node = node; rows = rows }

pub took : (old : NodeAndRows) (bytes : List ℕ) (item : Record) (count : ℕ) (new : NodeAndRows) → count ≤ length bytes → Spells (take count bytes) item → IsReplayed old item new.node new.rows true → TakesRecord old bytes count new
took old bytes item count new within spells replay = record {
  item = item;
  within = within;
  spelled = spells;
  follows = sym replay.follows';
  leads = ap (λ (n : NodeV). with n new.rows) replay.node' ∙ ap (with (replayed old item).node) replay.rows';
}

-- ---- a body record by record

pub none_read : (store : NodeAndRows) (body : List ℕ) → IsRead store body 0 store
none_read store body = record { front = []; each = tt; within = omega arith; split = refl; follow = refl; leads = refl; empty = λ e. refl }

-- the bytes from a place on
pub from_place : (place : ℕ) (body : List ℕ) → take (length body - place) (drop place body) ≡ drop place body
from_place place body = take_all (length body - place) (drop place body) (omega (arith, length-drop place body))

-- one record more
pub record ReadsOn (old : NodeAndRows) (body : List ℕ) (place count : ℕ) (new : NodeAndRows) : Type 0 where
  pub onward : 0 < count
  pub within : place + count ≤ length body
  pub front : List Record
  pub each : AllByRecursion IsRecord front
  pub some : 0 < length front
  pub split : take (place + count) body ≡ flat_map record_spelling front
  pub follow : all_follow old front ≡ true
  pub leads : new ≡ replayed_all old front

pub reads_on : (old mid new : NodeAndRows) (body rest : List ℕ) (place count : ℕ) → IsRead old body place mid → rest ≡ drop place body → TakesRecord mid rest count new → ReadsOn old body place count new
reads_on old mid new body rest place count so_far rest_is takes =
    let item = takes.item in
    let bytes : take count (drop place body) ≡ record_spelling item = ap (take count) (sym rest_is) ∙ takes.spelled.1 in
    let size : length rest ≡ length body - place = ap length rest_is ∙ length-drop place body in
    let long : length (take count rest) ≡ count = length-take-le count rest takes.within in
    record {
      onward = omega (arith, some_byte item takes.spelled.0, long, ap length takes.spelled.1);
      within = omega (arith, takes.within, so_far.within);
      front = so_far.front ++ item ∷ [];
      each = each_append so_far.front (item ∷ []) so_far.each (takes.spelled.0, tt);
      some = omega (arith, length-append so_far.front (item ∷ []));
      split = take-add place count body ∙ ap (λ (l : List ℕ). l ++ take count (drop place body)) so_far.split ∙ ap (λ (l : List ℕ). flat_map record_spelling so_far.front ++ l) (bytes ∙ sym (append-nil (record_spelling item))) ∙ sym (flat_map-append record_spelling so_far.front (item ∷ []));
      follow = follow_more old so_far.front (item ∷ []) so_far.follow (and_from (may_follow (replayed_all old so_far.front) item) true (subst (λ (s : NodeAndRows). may_follow s item ≡ true) so_far.leads takes.follows) refl);
      leads = takes.leads ∙ ap (λ (s : NodeAndRows). replayed s item) so_far.leads ∙ sym (replayed_more old so_far.front (item ∷ []));
    }

-- the body goes on
pub goes_on : (old new : NodeAndRows) (body : List ℕ) (place count : ℕ) → ReadsOn old body place count new → place + count ≢ length body → IsRead old body (place + count) new
goes_on old new body place count on more = record {
  front = on.front;
  each = on.each;
  within = on.within;
  split = on.split;
  follow = on.follow;
  leads = on.leads;
  empty = λ e. absurd (more e);
}

-- the body was read whole
pub ends : (old new : NodeAndRows) (body : List ℕ) (place count : ℕ) → ReadsOn old body place count new → place + count ≡ length body → LeadsOn old body new
ends old new body place count on all = record {
  items = on.front;
  is = record { some = on.some; each = on.each; spelled = sym (take_all (place + count) body (omega arith)) ∙ on.split };
  follow = on.follow;
  leads = on.leads;
}

-- a record may not stand here
pub goes_wrong : (old mid : NodeAndRows) (body rest : List ℕ) (place : ℕ) → IsRead old body place mid → rest ≡ drop place body → NoneFollows mid rest → IsWrongWithin old body place
goes_wrong old mid body rest place so_far rest_is none = record {
  front = so_far.front;
  each = so_far.each;
  rest = rest;
  split = sym (take-append-drop place body) ∙ ap (λ (l : List ℕ). l ++ drop place body) so_far.split ∙ ap (λ (l : List ℕ). flat_map record_spelling so_far.front ++ l) (sym rest_is);
  follow = so_far.follow;
  none = subst (λ (s : NodeAndRows). NoneFollows s rest) so_far.leads none;
  empty = λ (e : rest ≡ []). so_far.empty (let within = so_far.within in omega (arith, ap length e, ap length rest_is, length-drop place body));
  place_is = sym (length-take-le place body so_far.within) ∙ ap length so_far.split;
}
