-- The laws of serving, case by case of what a plan can be.
use Rattle.std.proofs.Common.{◌≡◌, ◌∙◌, sym, ap, subst, refl, ℕ, zero, suc, ◌+◌, ◌-◌, ◌≤◌, Bool, true, false, List, [], ◌∷◌, length, take, Option, Some, None, arith}
use Rattle.std.specs.Prelude.{map as list_map}
use Rattle.std.specs.FinMap as map
use Rattle.mds_base.specs.declared.attr.Attr.{Attr}
use Rattle.mds_base.specs.declared.ask.Ask.{Ask}
use Rattle.mds_base.specs.declared.call.Call.{Call}
use Rattle.mds_base.specs.declared.call.Call.TheVariants.{Create, Mkdir, Remove, Lookup, Setattr, Scan, Grab, Load, Link, Seal, Unseal, Kill, Unlink}
use Rattle.mds_base.specs.declared.reply.Final.{Final}
use Rattle.mds_base.specs.declared.reply.Final.TheVariants.{Missing}
use Rattle.mds_base.specs.declared.reply.Reply.{Reply}
use Rattle.mds_base.specs.declared.reply.Reply.TheVariants as replies
use Rattle.mds_base.specs.declared.row.Row.{Row}
use Rattle.mds_base.specs.declared.row_key.RowKey.{RowKey}
use Rattle.mds_base.specs.declared.session.Session.{Session}
use Rattle.mds_base.specs.declared.setup.Setup.{Setup}
use Rattle.mds_base.specs.Calls.{CallOn, OnName, OnDirectory, OnPartition, asked_of, dir_of, dir_on}
use Rattle.mds_base.specs.Entries.{Place, Entries}
use Rattle.mds_base.specs.PlainRules.{Allows, after}
use Rattle.mds_base.specs.RowKeys.{RowMap}
use Rattle.partition.specs.declared.edits.RowEdit.{RowEdit}
use Rattle.partition.specs.declared.plan.Change.TheVariants.{Nothing, Lease, Note}
use Rattle.partition.specs.declared.plan.Step.{Step}
use Rattle.partition.specs.declared.plan.Step.TheVariants.{Said}
use Rattle.partition.specs.declared.plan.Plan.{Plan}
use Rattle.partition.specs.declared.partition.Partition.{Partition}
use Rattle.partition.specs.Rows.{written, load_edits}
use Rattle.name_hash.specs.RowPlace.{row_key}
use Rattle.partition.specs.Replies.{IsServed, rows_of}
use Rattle.partition.specs.Planning.{unchanging, look_plan, carry_plan, plan_on, plan_part}
use Rattle.partition.specs.Serving.{part_made, rows_made, edits_in, IsInPart}
use Rattle.partition.specs.Meaning.{names_on, names_of, IsApart, AreWithin, Mirrors, count_in}
use Rattle.partition.proofs.Cases.{OfEach, plan_is, edit_at}
use Rattle.partition.proofs.Rowing.{name_apart, load_apart, one_at_most, name_count, load_count}
use Rattle.partition.proofs.Mirrored.{name_plain, load_plain, no_directory}

-- ---- which rows change

looked_rows : (rows : RowMap) (attr : Option Attr) (name : List ℕ) (until now : ℕ) → rows_made rows (look_plan attr name until now) ≡ rows
looked_rows rows None name until now = refl
looked_rows rows (Some attr) name until now = refl

pub rows_law : (part : Partition) (rows : RowMap) (dir number : ℕ) (ask : Ask) (now : ℕ) (setup : Setup) (fresh : ℕ) (key : RowKey) → IsApart dir number (names_of ask.call) key
    → map.get (rows_made rows (plan_part part rows dir number ask now setup fresh)) key ≡ map.get rows key
rows_law part rows dir number ask now setup fresh key apart = plan_is (λ plan. map.get (rows_made rows plan) key ≡ map.get rows key) part rows dir number ask now fresh setup (record {
  idle = λ step. refl;
  looked = λ attr name until. ap (λ m. map.get m key) (looked_rows rows attr name until now);
  named = λ d name is. name_apart rows dir number name (edit_at rows (row_key dir number name) ask fresh) key (subst (λ on. IsApart dir number (names_on on (rows_of ask.call)) key) is apart);
  all = λ d is. load_apart rows dir number (rows_of ask.call) key (subst (λ on. IsApart dir number (names_on on (rows_of ask.call)) key) is apart);
  whole = λ d p is. load_apart rows dir number (rows_of ask.call) key (subst (λ on. IsApart dir number (names_on on (rows_of ask.call)) key) is apart);
})

-- ---- a call on a name that was refused

looked_few : (attr : Option Attr) (name : List ℕ) (until now : ℕ) → length (edits_in (look_plan attr name until now).change) ≤ 1
looked_few None name until now = omega arith
looked_few (Some attr) name until now = omega arith

abbrev is_name : CallOn → Bool
is_name (OnName d name changes) = true
is_name (OnDirectory d) = false
is_name (OnPartition d p) = false

no_name : {P : Type 0} (d : ℕ) (name : List ℕ) (changes : Bool) (on : CallOn) → OnName d name changes ≡ on → is_name on ≡ false → P
no_name d name changes on e other = let t : true ≡ is_name on = ap is_name e in cc

looked_place : (g d : ℕ) (n m : List ℕ) → OnName g n false ≡ OnName d m false → ◌≡◌ {A = Place} (g, n) (d, m)
looked_place g d n m e = cc

few_law : (part : Partition) (rows : RowMap) (dir number d : ℕ) (name : List ℕ) (ask : Ask) (now : ℕ) (setup : Setup) (fresh : ℕ) → asked_of ask.call ≡ OnName d name true
    → length (edits_in (plan_part part rows dir number ask now setup fresh).change) ≤ 1
few_law part rows dir number d name ask now setup fresh asked = plan_is (λ plan. length (edits_in plan.change) ≤ 1) part rows dir number ask now fresh setup (record {
  idle = λ step. omega arith;
  looked = λ attr name until. looked_few attr name until now;
  named = λ d name is. one_at_most (row_key dir number name) (edit_at rows (row_key dir number name) ask fresh);
  all = λ e is. no_name d name true (OnDirectory e) (sym asked ∙ is) refl;
  whole = λ e p is. no_name d name true (OnPartition e p) (sym asked ∙ is) refl;
})

-- of one edit at most none is made in part
pub first_none : (rows left : RowMap) (edits : List RowEdit) (made : ℕ) → length edits ≤ 1 → made ≤ length edits - 1 → left ≡ written rows (take made edits) → left ≡ rows
first_none rows left edits zero few within is = is
first_none rows left edits (suc made) few within is = absurd (omega arith)

pub refused_law : (part : Partition) (rows left : RowMap) (dir number d : ℕ) (name : List ℕ) (ask : Ask) (now : ℕ) (setup : Setup) (fresh : ℕ)
    → asked_of ask.call ≡ OnName d name true → IsInPart rows (edits_in (plan_part part rows dir number ask now setup fresh).change) left → left ≡ rows
refused_law part rows left dir number d name ask now setup fresh asked part_made =
    first_none rows left (edits_in (plan_part part rows dir number ask now setup fresh).change) part_made.made (few_law part rows dir number d name ask now setup fresh asked) part_made.few part_made.rows'

-- ---- the plain rules

abbrev IsStep : (within : List ℕ → Bool) → Entries → RowMap → ℕ → ℕ → Ask → Plan → Type 0
IsStep within entries rows dir number ask plan =
    (edits : List RowEdit) (session : Session) (count : ℕ) (reply : Reply) → plan.change ≡ Note edits session count → plan.step ≡ Said reply
    → Allows entries ask.call reply × Mirrors within (after entries ask.call reply) dir (rows_made rows plan) number

carried_step : (within : List ℕ → Bool) (entries : Entries) (rows : RowMap) (dir number : ℕ) (ask : Ask) (said : Final) (es : List RowEdit) (n now : ℕ)
    → Allows entries ask.call (replies.Said said) × Mirrors within (after entries ask.call (replies.Said said)) dir (written rows es) number
    → IsStep within entries rows dir number ask (carry_plan ask said es n now)
carried_step within entries rows dir number ask said es n now p edits session count reply change step =
    let same : replies.Said said ≡ reply = cc in
    subst (λ r. Allows entries ask.call r × Mirrors within (after entries ask.call r) dir (written rows es) number) same p

looked_step : (within : List ℕ → Bool) (entries : Entries) (rows : RowMap) (dir number : ℕ) (ask : Ask) (attr : Option Attr) (name : List ℕ) (until now : ℕ) → IsStep within entries rows dir number ask (look_plan attr name until now)
looked_step within entries rows dir number ask None name until now edits session count reply change step = cc
looked_step within entries rows dir number ask (Some attr) name until now edits session count reply change step = cc

idle_step : (within : List ℕ → Bool) (entries : Entries) (rows : RowMap) (dir number : ℕ) (ask : Ask) (step : Step) (now : ℕ) → IsStep within entries rows dir number ask (unchanging step now)
idle_step within entries rows dir number ask done now edits session count reply change step = cc

pub plain_law : (within : List ℕ → Bool) (entries : Entries) (part : Partition) (rows : RowMap) (dir number : ℕ) (ask : Ask) (now : ℕ) (setup : Setup) (fresh : ℕ) (edits : List RowEdit) (session : Session) (count : ℕ) (reply : Reply)
    → Mirrors within entries dir rows number → IsServed ask.call → dir_of ask.call ≡ dir → AreWithin within (names_of ask.call)
    → (plan_part part rows dir number ask now setup fresh).change ≡ Note edits session count → (plan_part part rows dir number ask now setup fresh).step ≡ Said reply
    → Allows entries ask.call reply × Mirrors within (after entries ask.call reply) dir (rows_made rows (plan_part part rows dir number ask now setup fresh)) number
plain_law within entries part rows dir number ask now setup fresh edits session count reply m served here own change step =
    plan_is (IsStep within entries rows dir number ask) part rows dir number ask now fresh setup (record {
      idle = λ step. idle_step within entries rows dir number ask step now;
      looked = λ attr name until. looked_step within entries rows dir number ask attr name until now;
      named = λ d name is. carried_step within entries rows dir number ask _ _ _ now (name_plain within entries rows dir number d name ask.call fresh is here m (subst (λ on. AreWithin within (names_on on (rows_of ask.call))) is own).0);
      all = λ d is. absurd (no_directory ask.call d served is);
      whole = λ d p is. carried_step within entries rows dir number ask _ _ _ now (load_plain within entries rows dir number d p ask.call served is here m (subst (λ on. AreWithin within (names_on on (rows_of ask.call))) is own));
    }) edits session count reply change step

-- ---- a lookup

found_allowed : (entries : Entries) (call : Call) (d : ℕ) (name : List ℕ) (until now : ℕ) (o : Option Attr) (reply : Reply) → asked_of call ≡ OnName d name false → map.get entries (d, name) ≡ o
    → (look_plan o name until now).step ≡ Said reply → Allows entries call reply
found_allowed entries (Lookup g n) d name until now None reply asked stands step =
    let at : map.get entries (g, n) ≡ None = ap (λ (p : Place). map.get entries p) (looked_place g d n name asked) ∙ stands in
    let same : reply ≡ replies.Said Missing = cc in
    rw at same
found_allowed entries (Lookup g n) d name until now (Some attr) reply asked stands step =
    let at : map.get entries (g, n) ≡ Some attr = ap (λ (p : Place). map.get entries p) (looked_place g d n name asked) ∙ stands in
    let same : reply ≡ replies.Found attr until = cc in
    rw at (until, same)
found_allowed entries (Create g n) d name until now o reply asked stands step = cc
found_allowed entries (Mkdir g n) d name until now o reply asked stands step = cc
found_allowed entries (Remove g n) d name until now o reply asked stands step = cc
found_allowed entries (Setattr g n mode size stamp) d name until now o reply asked stands step = cc
found_allowed entries (Scan g) d name until now o reply asked stands step = cc
found_allowed entries (Grab g n count) d name until now o reply asked stands step = cc
found_allowed entries (Load g rows) d name until now o reply asked stands step = cc
found_allowed entries (Link g n id) d name until now o reply asked stands step = cc
found_allowed entries (Seal g part epoch) d name until now o reply asked stands step = cc
found_allowed entries (Unseal g part epoch) d name until now o reply asked stands step = cc
found_allowed entries (Kill g epoch) d name until now o reply asked stands step = cc
found_allowed entries (Unlink g n id) d name until now o reply asked stands step = cc

looked_on : (part : Partition) (rows : RowMap) (dir number d : ℕ) (name : List ℕ) (ask : Ask) (now : ℕ) (setup : Setup) (fresh : ℕ) → asked_of ask.call ≡ OnName d name false
    → plan_part part rows dir number ask now setup fresh ≡ look_plan (map.get rows (row_key dir number name)) name (now + setup.lease) now
looked_on part rows dir number d name ask now setup fresh asked = ap (plan_on part rows dir number ask now setup fresh) asked

pub looked_law : (within : List ℕ → Bool) (entries : Entries) (part : Partition) (rows : RowMap) (dir number d : ℕ) (name : List ℕ) (ask : Ask) (now : ℕ) (setup : Setup) (fresh : ℕ) (reply : Reply)
    → Mirrors within entries dir rows number → asked_of ask.call ≡ OnName d name false → dir_of ask.call ≡ dir → within name ≡ true
    → (plan_part part rows dir number ask now setup fresh).step ≡ Said reply → Allows entries ask.call reply
looked_law within entries part rows dir number d name ask now setup fresh reply m asked here own step =
    found_allowed entries ask.call d name (now + setup.lease) now (map.get rows (row_key dir number name)) reply asked
    (ap (λ x. map.get entries (x, name)) (sym (ap dir_on asked) ∙ here) ∙ m.same name own)
    (ap (λ (p : Plan). p.step) (sym (looked_on part rows dir number d name ask now setup fresh asked)) ∙ step)

-- ---- the count

looked_count : (part : Partition) (attr : Option Attr) (name : List ℕ) (until now : ℕ) → (part_made part (look_plan attr name until now)).count ≡ part.count
looked_count part None name until now = refl
looked_count part (Some attr) name until now = refl

pub counted_law : (part : Partition) (rows : RowMap) (dir number : ℕ) (ask : Ask) (now : ℕ) (setup : Setup) (fresh : ℕ) → part.count ≡ count_in rows dir number
    → (part_made part (plan_part part rows dir number ask now setup fresh)).count ≡ count_in (rows_made rows (plan_part part rows dir number ask now setup fresh)) dir number
counted_law part rows dir number ask now setup fresh is = plan_is (λ plan. (part_made part plan).count ≡ count_in (rows_made rows plan) dir number) part rows dir number ask now fresh setup (record {
  idle = λ step. is;
  looked = λ attr name until. looked_count part attr name until now ∙ is ∙ ap (λ m. count_in m dir number) (sym (looked_rows rows attr name until now));
  named = λ d name at. name_count rows dir number part.count name (edit_at rows (row_key dir number name) ask fresh) is;
  all = λ d at. loaded is;
  whole = λ d p at. loaded is;
})
  where
    loaded : part.count ≡ count_in rows dir number → part.count + length (load_edits rows dir number (rows_of ask.call)) ≡ count_in (written rows (load_edits rows dir number (rows_of ask.call))) dir number
    loaded is = ap (λ n. n + length (load_edits rows dir number (rows_of ask.call))) is ∙ load_count rows dir number (rows_of ask.call)
