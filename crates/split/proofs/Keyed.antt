-- Halves where each row stands at the key of its name.
use Rattle.std.proofs.Common.{◌≡◌, ◌∙◌, sym, ap, refl, subst, ℕ, zero, suc, ◌+◌, ◌-◌, ◌*◌, ◌^◌, ◌%◌, ◌/◌, ◌<◌, ◌≤◌, ◌==◌, Bool, true, false, cond, not, T, ◌&&◌, ◌||◌, List, [], ◌∷◌, ◌++◌, map, fold, Option, Some, None, is_some, IsSome, nat_lt, nat_le, arith}
use Rattle.std.specs.declared.cmp.Ordering.{Ordering}
use Rattle.std.specs.declared.cmp.Ordering.TheVariants.{Less, Equal, Greater}
use Rattle.std.specs.Ordering.{is_lt, is_eq, eq_by_cmp}
use Rattle.std.specs.Cmp.{Equal-is}
use Rattle.std.specs.List.{AllByRecursion, filter, list_any}
use Rattle.std.specs.FinMap as map
use Rattle.std.specs.FinMap.Entries.{below_all}
use Rattle.std.proofs.lemmas.Bool.{and_parts, and_from, eq-eqb, eqb-true, le-leb, lt-ltb, leb-true, false≢true}
use Rattle.std.proofs.lemmas.Cmp.{tied_itself}
use Rattle.std.proofs.lemmas.Bool.Decides.{nat_tests}
use Rattle.std.proofs.lemmas.Nat.{mod-pow-add}
use Rattle.std.proofs.Math.Nat.{mod-lt}
use Rattle.chains.specs.Reversed.{reversed, first_of, last_of, IsInSpan}
use Rattle.chains.proofs.Reversals.{range_interval}
use Rattle.mds_base.specs.declared.attr.Attr.{Attr}
use Rattle.mds_base.specs.declared.row.Row.{Row}
use Rattle.mds_base.specs.declared.row_key.RowKey.{RowKey}
use Rattle.mds_base.specs.RowKeys.{RowMap, row_key_cmp, is_past, is_in_page, row_of}
use Rattle.mds_base.proofs.RowMaps.{row_keys_total, exact_row_keys, same_rows, kept_rows}
use Rattle.name_hash.specs.NameHash.{hash_of}
use Rattle.name_hash.specs.ScanOrder.{place_of}
use Rattle.split.proofs.Moving.{child_low}
use Rattle.split.specs.Halves.{is_moving, is_behind, rising, before_all, upper_rows, half_of, without_rows, IsKeyed, is_half_key}
use Rattle.name_hash.specs.RowPlace.{row_key}

-- ---- a name of the partition moves exactly where its hash has the bit set

moves_one : (n p b r : ℕ) → r ≡ b * n + p → b ≡ 1 → (r == (p + n)) ≡ true
moves_one n p b r is one = eq-eqb r (p + n) (omega (arith, is, ap (λ b. b * n) one))

stays_zero : (n p b r : ℕ) → 0 < n → r ≡ b * n + p → b ≡ 0 → (r == (p + n)) ≡ false
stays_zero n p b r some is none = elim (r == (p + n)) as (λ t. (r == (p + n)) ≡ t → t ≡ false) [
  | true ↦ λ same. absurd (omega (arith, eqb-true r (p + n) same, is, ap (λ b. b * n) none, some))
  | false ↦ λ _. refl
] refl

zero_of : (b : ℕ) → b < 2 → (b == 1) ≡ false → b ≡ 0
zero_of zero small none = refl
zero_of (suc zero) small none = let never : true ≡ false = none in cc
zero_of (suc (suc b)) small none = absurd (omega (arith, small))

pub frozen_moves : (part depth : ℕ) (name : List ℕ) → part < 2 ^ depth → hash_of name % 2 ^ depth ≡ part → is_moving part depth name ≡ ((hash_of name / 2 ^ depth) % 2 == 1)
frozen_moves part depth name low is =
    let n = 2 ^ depth in
    let b = (hash_of name / n) % 2 in
    let split : hash_of name % 2 ^ suc depth ≡ b * n + part = ap (λ k. hash_of name % 2 ^ k) (let e : suc depth ≡ 1 + depth = omega arith in e) ∙ mod-pow-add (hash_of name) 1 depth ∙ ap (λ r. b * n + r) is in
    elim (b == 1) as (λ t. (b == 1) ≡ t → is_moving part depth name ≡ t) [
      | true ↦ λ one. moves_one n part b (hash_of name % 2 ^ suc depth) split (eqb-true b 1 one)
      | false ↦ λ none. stays_zero n part b (hash_of name % 2 ^ suc depth) (omega (arith, low)) split (zero_of b (mod-lt (hash_of name / n) (omega arith)) none)
    ] refl

-- ---- the rows of the upper half are those whose names move

same_bool : (a b : Bool) → (a ≡ true → b ≡ true) → (b ≡ true → a ≡ true) → a ≡ b
same_bool true b to from = sym (to refl)
same_bool false true to from = from refl
same_bool false false to from = refl

-- past all before the first place: at it or above
past_first : (first : ℕ) (key : RowKey) → is_past (before_all first) key ≡ nat_le first key.rev
past_first first key = grind (arith, nat_tests)

span_is : (part depth : ℕ) (key : RowKey) → depth < 64 → part < 2 ^ depth → key.rev ≡ place_of key.name
    → is_past (before_all (first_of 64 (part + 2 ^ depth))) key && nat_le key.rev (last_of 64 (part + 2 ^ depth) (suc depth)) ≡ is_moving part depth key.name
span_is part depth key deep low at =
    let child = part + 2 ^ depth in
    let interval = range_interval 64 (suc depth) child (hash_of key.name) (omega (arith, deep)) (child_low part depth low) in
    ap (λ b. b && nat_le key.rev (last_of 64 child (suc depth))) (past_first (first_of 64 child) key)
    ∙ ap (λ r. nat_le (first_of 64 child) r && nat_le r (last_of 64 child (suc depth))) at
    ∙ same_bool _ _
    (λ within. eq-eqb _ _ (interval.1 (record { from = leb-true _ _ (and_parts _ _ within).0; to = leb-true _ _ (and_parts _ _ within).1 })))
    (λ moves. let inside = interval.0 (eqb-true _ _ moves) in and_from _ _ (le-leb _ _ inside.from) (le-leb _ _ inside.to))

-- a row at the key of its name is in the page of the upper half exactly where its name moves
page_is : (dir part depth : ℕ) (key : RowKey) → depth < 64 → part < 2 ^ depth → (key.dir ≡ dir → key.part ≡ part → key.rev ≡ place_of key.name)
    → is_in_page dir part (before_all (first_of 64 (part + 2 ^ depth))) (last_of 64 (part + 2 ^ depth) (suc depth)) key ≡ is_half_key dir part depth key
page_is dir part depth key deep low keyed =
    elim (key.dir == dir) as (λ d. (key.dir == dir) ≡ d → (d && (key.part == part)) && in_span ≡ (d && (key.part == part)) && is_moving part depth key.name) [
      | false ↦ λ _. refl
      | true ↦ λ is. elim (key.part == part) as (λ p. (key.part == part) ≡ p → p && in_span ≡ p && is_moving part depth key.name) [
        | false ↦ λ _. refl
        | true ↦ λ too. span_is part depth key deep low (keyed (eqb-true key.dir dir is) (eqb-true key.part part too))
      ] refl
    ] refl
  where
    in_span : Bool
    in_span = is_past (before_all (first_of 64 (part + 2 ^ depth))) key && nat_le key.rev (last_of 64 (part + 2 ^ depth) (suc depth))

abbrev none_attr : Option Attr
none_attr = None

alike : {X : Type 0} (f : RowKey → X) (q x : RowKey) → row_key_cmp q x ≡ Equal → f x ≡ f q
alike f q x tied = ap f (sym (exact_row_keys q x tied))

none_both : (a b : Bool) → cond a (none_attr) none_attr ≡ cond b none_attr none_attr
none_both true true = refl
none_both true false = refl
none_both false true = refl
none_both false false = refl

upper_keys : (rows : RowMap) (dir part depth : ℕ) → depth < 64 → part < 2 ^ depth → IsKeyed rows dir part
    → map.retain_keys rows (is_in_page dir part (before_all (first_of 64 (part + 2 ^ depth))) (last_of 64 (part + 2 ^ depth) (suc depth))) ≡ map.retain_keys rows (is_half_key dir part depth)
upper_keys rows dir part depth deep low keyed =
    let page = is_in_page dir part (before_all (first_of 64 (part + 2 ^ depth))) (last_of 64 (part + 2 ^ depth) (suc depth)) in
    let half = is_half_key dir part depth in
    same_rows (map.retain_keys rows page) (map.retain_keys rows half) (λ q.
    let here : (o : Option Attr) → map.get rows q ≡ o → cond (page q) o None ≡ cond (half q) o None = λ o. elim o as (λ o. map.get rows q ≡ o → cond (page q) o None ≡ cond (half q) o None) [
      | None ↦ λ _. none_both (page q) (half q)
      | Some attr ↦ λ there. ap (λ b. cond b (Some attr) None) (page_is dir part depth q deep low (λ d p. keyed q d p (ap is_some there)))
    ] in
    map.get-retain_keys rows page q (alike page q) ∙ here (map.get rows q) refl ∙ sym (map.get-retain_keys rows half q (alike half q)))

-- ---- in their order they rise

abbrev Follows : Option RowKey → List (RowKey × Attr) → Type 0
Follows None es = Unit {0}
Follows (Some before) es = T (below_all row_key_cmp before es)

abbrev IsOfHalf : ℕ → ℕ → ℕ → RowKey × Attr → Type 0
IsOfHalf dir part depth e = (e.0 ≡ row_key dir part e.0.name) × (is_moving part depth e.0.name ≡ true)

first_part : (a b : Bool) → T (a && b) → T a
first_part true b p = tt
first_part false b p = absurd p

second_part : (a b : Bool) → T (a && b) → T b
second_part true b p = p
second_part false b p = absurd p

is_true : (b : Bool) → T b → b ≡ true
is_true true p = refl
is_true false p = absurd p

first_behind : (before : Option RowKey) (e : RowKey × Attr) (es : List (RowKey × Attr)) → Follows before (e ∷ es) → is_behind before e.0 ≡ true
first_behind None e es follows = refl
first_behind (Some key) e es follows = is_true _ (first_part _ _ follows)

rising_all : (dir part depth : ℕ) (before : Option RowKey) (es : List (RowKey × Attr)) → AllByRecursion (IsOfHalf dir part depth) es → T (map.is_sorted row_key_cmp es) → Follows before es
    → rising dir part depth before (map row_of es) ≡ es
rising_all dir part depth before [] all sorted follows = refl
rising_all dir part depth before (e ∷ es) all sorted follows =
    let at = all.0.0 in
    let behind : is_behind before (row_key dir part e.0.name) ≡ true = ap (is_behind before) (sym at) ∙ first_behind before e es follows in
    let taken : (is_moving part depth e.0.name && is_behind before (row_key dir part e.0.name)) ≡ true = and_from _ _ all.0.1 behind in
    let key = row_key dir part e.0.name in
    ap (λ b. cond b ((key, e.1) ∷ rising dir part depth (Some key) (map row_of es)) (rising dir part depth before (map row_of es))) taken
    ∙ ap (λ k. (k, e.1) ∷ rising dir part depth (Some k) (map row_of es)) (sym at)
    ∙ ap (λ l. e ∷ l) (rising_all dir part depth (Some e.0) es all.1 (second_part _ _ sorted) (first_part _ _ sorted))

-- each entry of a map is there
each_there : (es : List (RowKey × Attr)) → AllByRecursion (λ e. IsSome (map.find row_key_cmp e.0 es)) es
each_there [] = tt
each_there (e ∷ es) =
    (ap (λ r. is_some (cond (is_eq r) (Some e.1) (map.find row_key_cmp e.0 es))) (tied_itself row_keys_total e.0), found_more es es (each_there es))
  where
    found_more : (some all : List (RowKey × Attr)) → AllByRecursion (λ x. IsSome (map.find row_key_cmp x.0 all)) some → AllByRecursion (λ x. IsSome (map.find row_key_cmp x.0 (e ∷ all))) some
    found_more [] all there = tt
    found_more (x ∷ some) all there =
        (elim (eq_by_cmp row_key_cmp x.0 e.0) as (λ b. is_some (cond b (Some e.1) (map.find row_key_cmp x.0 all)) ≡ true) [ true ↦ refl | false ↦ there.0 ], found_more some all there.1)

half_entry : (dir part depth : ℕ) (e : RowKey × Attr) → is_half_key dir part depth e.0 ≡ true → (e.0.dir ≡ dir → e.0.part ≡ part → e.0.rev ≡ place_of e.0.name) → IsOfHalf dir part depth e
half_entry dir part depth e is keyed =
    let here = (and_parts _ _ is).0 in
    let dirs = eqb-true e.0.dir dir (and_parts _ _ here).0 in
    let parts = eqb-true e.0.part part (and_parts _ _ here).1 in
    ((λ i. record { dir = dirs i; part = parts i; rev = keyed dirs parts i; name = e.0.name }), (and_parts _ _ is).1)

of_half : (rows : RowMap) (dir part depth : ℕ) → IsKeyed rows dir part → AllByRecursion (IsOfHalf dir part depth) (map.entries (map.retain_keys rows (is_half_key dir part depth)))
of_half rows dir part depth keyed =
    subst (AllByRecursion (IsOfHalf dir part depth)) (sym (kept_rows rows (is_half_key dir part depth)))
    (of_filter (map.entries rows) (each_there (map.entries rows)))
  where
    of_filter : (es : List (RowKey × Attr)) → AllByRecursion (λ e. IsSome (map.find row_key_cmp e.0 (map.entries rows))) es → AllByRecursion (IsOfHalf dir part depth) (filter (λ e. is_half_key dir part depth e.0) es)
    of_filter [] there = tt
    of_filter (e ∷ es) there =
        elim (is_half_key dir part depth e.0) as (λ b. is_half_key dir part depth e.0 ≡ b → AllByRecursion (IsOfHalf dir part depth) (cond b (e ∷ filter (λ e. is_half_key dir part depth e.0) es) (filter (λ e. is_half_key dir part depth e.0) es))) [
          | true ↦ λ is. (half_entry dir part depth e is (λ d p. keyed e.0 d p (subst IsSome (sym (map.get-entries rows e.0)) there.0)), of_filter es there.1)
          | false ↦ λ _. of_filter es there.1
        ] refl

pub half_exact : (rows : RowMap) (dir part depth : ℕ) → depth < 64 → part < 2 ^ depth → IsKeyed rows dir part
    → half_of rows dir part depth ≡ map.entries (map.retain_keys rows (is_half_key dir part depth))
half_exact rows dir part depth deep low keyed =
    let kept = map.retain_keys rows (is_half_key dir part depth) in
    ap (λ (m : RowMap). rising dir part depth None (map row_of (map.entries m))) (upper_keys rows dir part depth deep low keyed)
    ∙ rising_all dir part depth None (map.entries kept) (of_half rows dir part depth keyed) (map.entries_sorted kept) tt

-- ---- without the half

either : (a b : Bool) (o : Option Attr) → cond b none_attr (cond a none_attr o) ≡ cond (a || b) none_attr o
either true true o = refl
either true false o = refl
either false true o = refl
either false false o = refl

get_without : (es : List (RowKey × Attr)) (rows : RowMap) (q : RowKey) → map.get (without_rows rows es) q ≡ cond (list_any (eq_by_cmp row_key_cmp q) (map (λ e. e.0) es)) None (map.get rows q)
get_without [] rows q = refl
get_without (e ∷ es) rows q =
    get_without es (map.remove rows e.0) q
    ∙ ap (cond (list_any (eq_by_cmp row_key_cmp q) (map (λ e. e.0) es)) None) (map.get-remove row_keys_total rows e.0 q)
    ∙ either (eq_by_cmp row_key_cmp q e.0) (list_any (eq_by_cmp row_key_cmp q) (map (λ e. e.0) es)) (map.get rows q)

left_of : (b : Bool) (o : Option Attr) → cond (is_some (cond b o none_attr)) none_attr o ≡ cond (not b) o none_attr
left_of true None = refl
left_of true (Some attr) = refl
left_of false None = refl
left_of false (Some attr) = refl

pub rest_exact : (rows : RowMap) (dir part depth : ℕ) → depth < 64 → part < 2 ^ depth → IsKeyed rows dir part
    → without_rows rows (half_of rows dir part depth) ≡ map.retain_keys rows (λ key. not (is_half_key dir part depth key))
rest_exact rows dir part depth deep low keyed =
    let half = is_half_key dir part depth in
    let kept = map.retain_keys rows half in
    let others : RowKey → Bool = λ key. not (half key) in
    same_rows (without_rows rows (half_of rows dir part depth)) (map.retain_keys rows others) (λ q.
    get_without (half_of rows dir part depth) rows q
    ∙ ap (λ es. cond (list_any (eq_by_cmp row_key_cmp q) (map (λ (e : RowKey × Attr). e.0) es)) None (map.get rows q)) (half_exact rows dir part depth deep low keyed)
    ∙ ap (λ b. cond b None (map.get rows q)) (sym (map.contains_key-keys kept q))
    ∙ ap (λ o. cond (is_some o) None (map.get rows q)) (map.get-retain_keys rows half q (alike half q))
    ∙ left_of (half q) (map.get rows q)
    ∙ sym (map.get-retain_keys rows others q (alike others q)))

-- ---- a write outside of the half

one_key : (a b : RowKey) → eq_by_cmp row_key_cmp a b ≡ true → a ≡ b
one_key a b same = exact_row_keys a b ((Equal-is (row_key_cmp a b)).0 same)

other_key : (same half : Bool) (new old : Option Attr) → (same ≡ true → half ≡ false) → cond half (cond same new old) none_attr ≡ cond half old none_attr
other_key true half new old out = ap (λ b. cond b new none_attr) (out refl) ∙ sym (ap (λ b. cond b old none_attr) (out refl))
other_key false half new old out = refl

keyed_put : (rows : RowMap) (dir part : ℕ) (key : RowKey) (attr : Attr) → IsKeyed rows dir part → key.rev ≡ place_of key.name → IsKeyed (map.insert rows key attr) dir part
keyed_put rows dir part key attr keyed at q d p there =
    elim (eq_by_cmp row_key_cmp q key) as (λ b. eq_by_cmp row_key_cmp q key ≡ b → IsSome (cond b (Some attr) (map.get rows q)) → q.rev ≡ place_of q.name) [
      | true ↦ λ same _. ap (λ (k : RowKey). k.rev) (one_key q key same) ∙ at ∙ sym (ap (λ (k : RowKey). place_of k.name) (one_key q key same))
      | false ↦ λ _ still. keyed q d p still
    ] refl (subst IsSome (map.get-insert row_keys_total rows key attr q) there)

keyed_taken : (rows : RowMap) (dir part : ℕ) (key : RowKey) → IsKeyed rows dir part → IsKeyed (map.remove rows key) dir part
keyed_taken rows dir part key keyed q d p there =
    elim (eq_by_cmp row_key_cmp q key) as (λ b. IsSome (cond b none_attr (map.get rows q)) → q.rev ≡ place_of q.name) [
      | true ↦ λ none. let never : false ≡ true = none in cc
      | false ↦ λ still. keyed q d p still
    ] (subst IsSome (map.get-remove row_keys_total rows key q) there)

pub outside_put : (rows : RowMap) (dir part depth : ℕ) (key : RowKey) (attr : Attr) → depth < 64 → part < 2 ^ depth → IsKeyed rows dir part → key.rev ≡ place_of key.name → is_half_key dir part depth key ≡ false
    → half_of (map.insert rows key attr) dir part depth ≡ half_of rows dir part depth
outside_put rows dir part depth key attr deep low keyed at out =
    let half = is_half_key dir part depth in
    half_exact (map.insert rows key attr) dir part depth deep low (keyed_put rows dir part key attr keyed at)
    ∙ ap (λ (m : RowMap). map.entries m) (same_rows (map.retain_keys (map.insert rows key attr) half) (map.retain_keys rows half) (λ q.
    map.get-retain_keys (map.insert rows key attr) half q (alike half q)
    ∙ ap (λ o. cond (half q) o None) (map.get-insert row_keys_total rows key attr q)
    ∙ other_key (eq_by_cmp row_key_cmp q key) (half q) (Some attr) (map.get rows q) (λ same. ap half (one_key q key same) ∙ out)
    ∙ sym (map.get-retain_keys rows half q (alike half q))))
    ∙ sym (half_exact rows dir part depth deep low keyed)

pub outside_taken : (rows : RowMap) (dir part depth : ℕ) (key : RowKey) → depth < 64 → part < 2 ^ depth → IsKeyed rows dir part → is_half_key dir part depth key ≡ false
    → half_of (map.remove rows key) dir part depth ≡ half_of rows dir part depth
outside_taken rows dir part depth key deep low keyed out =
    let half = is_half_key dir part depth in
    half_exact (map.remove rows key) dir part depth deep low (keyed_taken rows dir part key keyed)
    ∙ ap (λ (m : RowMap). map.entries m) (same_rows (map.retain_keys (map.remove rows key) half) (map.retain_keys rows half) (λ q.
    map.get-retain_keys (map.remove rows key) half q (alike half q)
    ∙ ap (λ o. cond (half q) o None) (map.get-remove row_keys_total rows key q)
    ∙ other_key (eq_by_cmp row_key_cmp q key) (half q) None (map.get rows q) (λ same. ap half (one_key q key same) ∙ out)
    ∙ sym (map.get-retain_keys rows half q (alike half q))))
    ∙ sym (half_exact rows dir part depth deep low keyed)
