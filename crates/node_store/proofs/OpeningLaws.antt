-- A file stands for one store at most, so far as a log can bring it back, and none that stands for a store is damaged.
use Rattle.std.proofs.Common.{◌≡◌, ◌∙◌, sym, ap, subst, refl, ℕ, ◌<◌, List, [], ◌∷◌, ◌++◌, append_assoc, length, arith, true, inl, inr}
use Rattle.std.specs.List.{AllByRecursion, flat_map}
use Rattle.std.proofs.lemmas.Bool.{and_parts}
use Rattle.std.proofs.lemmas.List.{length-append}
use Rattle.std.proofs.lemmas.List.Concat.{flat_map-cons}
use Rattle.mds_base.specs.declared.setup.Setup.{Setup}
use Rattle.mds_base.specs.declared.store_fault.Head.{Head}
use Rattle.mds_base.specs.declared.store_fault.Damage.{Damage}
use Rattle.mds_base.specs.declared.store_fault.Damage.TheVariants as damages
use Rattle.records.specs.declared.record.Record.{Record}
use Rattle.records.specs.declared.record.Record.TheVariants as records
use Rattle.records.specs.Spelling.{IsRecord, IsHead, record_spelling}
use Rattle.gate_log.specs.Log.{HoldsLog}
use Rattle.gate_log.proofs.Unique.{one_log, no_log}
use Rattle.node_core.specs.Durable.{durable}
use Rattle.node_core.specs.Nodes.{NodeAndRows}
use Rattle.node_core.specs.Serving.{may_follow, replayed, replayed_all}
use Rattle.node_store.specs.Damage.{NoneFollows, HasFirst, IsWrongAt, IsDamaged, head_spelling, wanted_head}
use Rattle.node_store.specs.Stands.{StandFor, FileStandsFor, IsNewFile, IsBody, AreBodies, all_of, all_follow, head_of, new_store}
use Rattle.node_store.proofs.Standing.{replayed_more}
use Rattle.node_store.proofs.ReadingRecords.{one_front, some_byte}
use Rattle.node_store.proofs.ReadingLogs.{long_enough}

spelled_more : (x : Record) (xs : List Record) → flat_map record_spelling (x ∷ xs) ≡ record_spelling x ++ flat_map record_spelling xs
spelled_more x xs = flat_map-cons record_spelling x xs

not_empty : (x : Record) (rest : List ℕ) → IsRecord x → [] ≡ record_spelling x ++ rest → ⊥
not_empty x rest is none = omega (arith, ap length none, length-append (record_spelling x) rest, some_byte x is)

-- ---- which records a body holds

one_body : (xs ys : List Record) → AllByRecursion IsRecord xs → AllByRecursion IsRecord ys → flat_map record_spelling xs ≡ flat_map record_spelling ys → xs ≡ ys
one_body [] [] a b same = refl
one_body [] (y ∷ ys) a b same = absurd (not_empty y (flat_map record_spelling ys) b.0 (same ∙ spelled_more y ys))
one_body (x ∷ xs) [] a b same = absurd (not_empty x (flat_map record_spelling xs) a.0 (sym same ∙ spelled_more x xs))
one_body (x ∷ xs) (y ∷ ys) a b same =
    let first = one_front x y (flat_map record_spelling xs) (flat_map record_spelling ys) a.0 b.0 (sym (spelled_more x xs) ∙ same ∙ spelled_more y ys) in
    ap (λ (r : Record). r ∷ xs) first.0 ∙ ap (λ (rs : List Record). y ∷ rs) (one_body xs ys a.1 b.1 first.1)

one_each : (bodies : List (List ℕ)) (items others : List (List Record)) → AreBodies bodies items → AreBodies bodies others → items ≡ others
one_each [] [] [] a b = refl
one_each [] (x ∷ items) others a b = absurd a
one_each [] [] (y ∷ others) a b = absurd b
one_each (body ∷ bodies) [] others a b = absurd a
one_each (body ∷ bodies) (x ∷ items) [] a b = absurd b
one_each (body ∷ bodies) (x ∷ items) (y ∷ others) a b =
    ap (λ (r : List Record). r ∷ items) (one_body x y a.0.each b.0.each (sym a.0.spelled ∙ b.0.spelled)) ∙ ap (λ (rs : List (List Record)). y ∷ rs) (one_each bodies items others a.1 b.1)

same_tail : (x y : List ℕ) (xs ys : List (List ℕ)) → ◌≡◌ {A = List (List ℕ)} (x ∷ xs) (y ∷ ys) → xs ≡ ys
same_tail x y xs ys e = cc

same_head : (x y : List ℕ) (xs ys : List (List ℕ)) → ◌≡◌ {A = List (List ℕ)} (x ∷ xs) (y ∷ ys) → x ≡ y
same_head x y xs ys e = cc

-- bodies stand for one store, so far as a log can bring it back
pub stand_once : (server : ℕ) (setup : Setup) (bodies others : List (List ℕ)) (a b : NodeAndRows) → bodies ≡ others → StandFor server setup bodies a → StandFor server setup others b → durable a ≡ durable b
stand_once server setup bodies others a b same s t =
    let rests = same_tail (record_spelling (head_of server setup)) (record_spelling (head_of server setup)) s.rest t.rest (sym s.head ∙ same ∙ t.head) in
    let items = one_each t.rest s.items t.items (subst (λ (r : List (List ℕ)). AreBodies r s.items) rests s.are) t.are in
    s.leads ∙ ap (λ (i : List (List Record)). replayed_all (new_store server setup) (all_of i)) items ∙ sym t.leads

-- ---- new files

pub new_has_none : (file body : List ℕ) (bodies : List (List ℕ)) → IsNewFile file → HoldsLog (body ∷ bodies) file → ⊥
new_has_none file body bodies (inl short) holds = omega (arith, short, long_enough body file bodies holds)
new_has_none file body bodies (inr none) holds = let e = one_log [] (body ∷ bodies) file none holds in cc

pub new_stands_not : (server : ℕ) (setup : Setup) (file : List ℕ) (bodies : List (List ℕ)) (store : NodeAndRows) → IsNewFile file → HoldsLog bodies file → StandFor server setup bodies store → ⊥
new_stands_not server setup file bodies store new holds s = new_has_none file (record_spelling (head_of server setup)) s.rest new (subst (λ (b : List (List ℕ)). HoldsLog b file) s.head holds)

pub one_store : (server : ℕ) (setup : Setup) (file : List ℕ) (a b : NodeAndRows) → FileStandsFor server setup file a → FileStandsFor server setup file b → durable a ≡ durable b
one_store server setup file a b (inl new) (inl other) = new.1 ∙ sym other.1
one_store server setup file a b (inl new) (inr log) = absurd (new_stands_not server setup file log.0 b new.0 log.1 log.2)
one_store server setup file a b (inr log) (inl new) = absurd (new_stands_not server setup file log.0 a new.0 log.1 log.2)
one_store server setup file a b (inr log) (inr other) = stand_once server setup log.0 other.0 a b (one_log log.0 other.0 file log.1 other.1) log.2 other.2

-- ---- damage

-- a body among others, and the records that it and those before it hold
record Among (before : List (List ℕ)) (body : List ℕ) (after : List (List ℕ)) (items : List (List Record)) : Type 0 where
  front : List (List Record)
  its : List Record
  back : List (List Record)
  parts : items ≡ front ++ its ∷ back
  are : AreBodies before front
  is : IsBody body its

among : (before : List (List ℕ)) (body : List ℕ) (after : List (List ℕ)) (items : List (List Record)) → AreBodies (before ++ body ∷ after) items → Among before body after items
among [] body after [] are = absurd are
among [] body after (x ∷ items) are = record { front = []; its = x; back = items; parts = refl; are = tt; is = are.0 }
among (first ∷ before) body after [] are = absurd are
among (first ∷ before) body after (x ∷ items) are =
    let rest = among before body after items are.1 in
    record { front = x ∷ rest.front; its = rest.its; back = rest.back; parts = ap (λ (i : List (List Record)). x ∷ i) rest.parts; are = (are.0, rest.are); is = rest.is }

all_of-append : (front back : List (List Record)) → all_of (front ++ back) ≡ all_of front ++ all_of back
all_of-append [] back = refl
all_of-append (x ∷ front) back = ap (λ (r : List Record). x ++ r) (all_of-append front back) ∙ sym (append_assoc x (all_of front) (all_of back))

follow_rest : (store : NodeAndRows) (xs ys : List Record) → all_follow store (xs ++ ys) ≡ true → all_follow (replayed_all store xs) ys ≡ true
follow_rest store [] ys follow = follow
follow_rest store (x ∷ xs) ys follow = follow_rest (replayed store x) xs ys (and_parts (may_follow store x) (all_follow (replayed store x) (xs ++ ys)) follow).1

-- records that bytes begin with, and the records that the bytes are
record Begins (front : List Record) (rest : List ℕ) (its : List Record) : Type 0 where
  more : List Record
  parts : its ≡ front ++ more
  each : AllByRecursion IsRecord more
  spelled : rest ≡ flat_map record_spelling more

begins : (front its : List Record) (rest : List ℕ) → AllByRecursion IsRecord front → AllByRecursion IsRecord its → flat_map record_spelling its ≡ flat_map record_spelling front ++ rest → Begins front rest its
begins [] its rest a b same = record { more = its; parts = refl; each = b; spelled = sym same }
begins (x ∷ front) [] rest a b same = absurd (not_empty x (flat_map record_spelling front ++ rest) a.0 (same ∙ ap (λ (l : List ℕ). l ++ rest) (spelled_more x front) ∙ append_assoc (record_spelling x) (flat_map record_spelling front) rest))
begins (x ∷ front) (y ∷ its) rest a b same =
    let first = one_front y x (flat_map record_spelling its) (flat_map record_spelling front ++ rest) b.0 a.0 (sym (spelled_more y its) ∙ same ∙ ap (λ (l : List ℕ). l ++ rest) (spelled_more x front) ∙ append_assoc (record_spelling x) (flat_map record_spelling front) rest) in
    let more = begins front its rest a.1 b.1 first.1 in
    record { more = more.more; parts = ap (λ (r : Record). r ∷ its) first.0 ∙ ap (λ (rs : List Record). x ∷ rs) more.parts; each = more.each; spelled = more.spelled }

-- where all records of a body follow, none of them stands wrong
none_wrong : (store : NodeAndRows) (front more : List Record) (rest : List ℕ) (back : List Record) → AllByRecursion IsRecord more → rest ≡ flat_map record_spelling more → all_follow store ((front ++ more) ++ back) ≡ true → 0 < length (front ++ more)
    → NoneFollows (replayed_all store front) rest → (rest ≡ [] → front ≡ []) → ⊥
none_wrong store front [] rest back each spelled follow some none empty =
    let nothing : front ≡ [] = empty spelled in
    omega (arith, some, ap (λ (r : List Record). length (r ++ [])) nothing)
none_wrong store front (x ∷ more) rest back each spelled follow some none empty =
    let here : all_follow store (front ++ x ∷ (more ++ back)) ≡ true = subst (λ (r : List Record). all_follow store r ≡ true) (append_assoc front (x ∷ more) back) follow in
    let next = follow_rest store front (x ∷ (more ++ back)) here in
    none x (flat_map record_spelling more) each.0 (spelled ∙ spelled_more x more) (and_parts (may_follow (replayed_all store front) x) (all_follow (replayed (replayed_all store front) x) (more ++ back)) next).0

wrong_not : (server : ℕ) (setup : Setup) (file : List ℕ) (place : ℕ) (bodies : List (List ℕ)) (store : NodeAndRows) → HoldsLog bodies file → StandFor server setup bodies store → IsWrongAt server setup file place → ⊥
wrong_not server setup file place bodies store holds s w =
    let head = record_spelling (head_of server setup) in
    let new = new_store server setup in
    let rests = same_tail head head s.rest (w.before ++ w.body ∷ w.after) (sym s.head ∙ one_log bodies (head ∷ w.before ++ w.body ∷ w.after) file holds w.holds) in
    let a = among w.before w.body w.after s.items (subst (λ (r : List (List ℕ)). AreBodies r s.items) rests s.are) in
    let fronts = one_each w.before a.front w.items a.are w.are in
    let b = begins w.front a.its w.rest w.each a.is.each (sym a.is.spelled ∙ w.split) in
    let whole : all_of s.items ≡ all_of a.front ++ (a.its ++ all_of a.back) = ap all_of a.parts ∙ all_of-append a.front (a.its ∷ a.back) in
    let at = replayed_all new (all_of a.front) in
    let follow : all_follow at (a.its ++ all_of a.back) ≡ true = follow_rest new (all_of a.front) (a.its ++ all_of a.back) (subst (λ (r : List Record). all_follow new r ≡ true) whole s.follow) in
    let none : NoneFollows (replayed_all at w.front) w.rest = subst (λ (to : NodeAndRows). NoneFollows to w.rest) (replayed_more new (all_of w.items) w.front ∙ ap (λ (i : List (List Record)). replayed_all (replayed_all new (all_of i)) w.front) (sym fronts)) w.none in
    none_wrong at w.front b.more w.rest (all_of a.back) b.each b.spelled (subst (λ (r : List Record). all_follow at (r ++ all_of a.back) ≡ true) b.parts follow) (subst (λ (r : List Record). 0 < length r) b.parts a.is.some) none w.empty

first_is : (server : ℕ) (setup : Setup) (file body : List ℕ) (bodies : List (List ℕ)) (store : NodeAndRows) → HoldsLog bodies file → StandFor server setup bodies store → HasFirst body file → body ≡ record_spelling (head_of server setup)
first_is server setup file body bodies store holds s first = same_head body (record_spelling (head_of server setup)) first.after s.rest (one_log (body ∷ first.after) bodies file first.holds holds ∙ s.head)

abbrev as_head : Record → Head
as_head (records.Head format servers server threshold) = record { servers = servers; server = server; threshold = threshold }
as_head item = record { servers = 0; server = 0; threshold = 0 }

foreign_not : (server : ℕ) (setup : Setup) (kept wanted : Head) → IsHead 1 setup.servers server setup.threshold → IsHead 1 kept.servers kept.server kept.threshold → wanted ≡ wanted_head server setup → head_spelling kept ≡ record_spelling (head_of server setup) → kept ≡ wanted
foreign_not server setup kept wanted is other wanted_is same =
    ap as_head (one_front (records.Head 1 kept.servers kept.server kept.threshold) (head_of server setup) [] [] other is (ap (λ (l : List ℕ). l ++ []) same)).0 ∙ sym wanted_is

log_not_damaged : (server : ℕ) (setup : Setup) (file : List ℕ) (bodies : List (List ℕ)) (store : NodeAndRows) (place : ℕ) (damage : Damage) → IsHead 1 setup.servers server setup.threshold → HoldsLog bodies file → StandFor server setup bodies store → IsDamaged server setup file place damage → ⊥
log_not_damaged server setup file bodies store place damages.Spelling is holds s (long, inl short) = no_log bodies file place holds short
log_not_damaged server setup file bodies store place damages.Spelling is holds s (long, inr (inl none)) = none.none (wanted_head server setup) is (first_is server setup file none.body bodies store holds s none.first)
log_not_damaged server setup file bodies store place damages.Spelling is holds s (long, inr (inr wrong)) = wrong_not server setup file place bodies store holds s wrong
log_not_damaged server setup file bodies store place (damages.Sum kept found) is holds s damaged = damaged
log_not_damaged server setup file bodies store place (damages.Head kept wanted) is holds s damaged = damaged.differ (foreign_not server setup kept wanted is damaged.is damaged.wanted_is (first_is server setup file (head_spelling kept) bodies store holds s damaged.first))

pub new_not_damaged : (server : ℕ) (setup : Setup) (file : List ℕ) (place : ℕ) (damage : Damage) → IsNewFile file → IsDamaged server setup file place damage → ⊥
new_not_damaged server setup file place damages.Spelling (inl few) damaged = omega (arith, few, damaged.0)
new_not_damaged server setup file place damages.Spelling (inr none) (long, inl short) = no_log [] file place none short
new_not_damaged server setup file place damages.Spelling (inr none) (long, inr (inl headless)) = new_has_none file headless.body headless.first.after (inr none) headless.first.holds
new_not_damaged server setup file place damages.Spelling (inr none) (long, inr (inr wrong)) = new_has_none file (record_spelling (head_of server setup)) (wrong.before ++ wrong.body ∷ wrong.after) (inr none) wrong.holds
new_not_damaged server setup file place (damages.Sum kept found) new damaged = damaged
new_not_damaged server setup file place (damages.Head kept wanted) new damaged = new_has_none file (head_spelling kept) damaged.first.after new damaged.first.holds

pub not_damaged : (server : ℕ) (setup : Setup) (file : List ℕ) (store : NodeAndRows) (place : ℕ) (damage : Damage) → IsHead 1 setup.servers server setup.threshold → FileStandsFor server setup file store → IsDamaged server setup file place damage → ⊥
not_damaged server setup file store place damage is (inl new) damaged = new_not_damaged server setup file place damage new.0 damaged
not_damaged server setup file store place damage is (inr log) damaged = log_not_damaged server setup file log.0 store place damage is log.1 log.2 damaged
