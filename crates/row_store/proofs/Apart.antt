-- Numbers of files that are not 0 and none of others.
use Rattle.std.proofs.Common.{◌≡◌, ◌≢◌, ◌∙◌, sym, ap, subst, refl, ℕ, zero, suc, ◌<◌, ◌≤◌, List, [], ◌∷◌, ◌++◌, length, take, Bool, true, false, arith}
use Rattle.std.specs.Prelude.{◌&&◌, ◌||◌, ◌==◌, not, nat_le, slice_index_or, Contains}
use Rattle.std.specs.List.{list_any}
use Rattle.std.proofs.lemmas.Bool.{and_parts, and_from, eq-eqb, eqb-true, leb-true, le-leb}
use Rattle.root_slots.specs.declared.root.Root.{Root}
use Rattle.root_slots.specs.declared.TheConstants.{TABLES_MOST}
use Rattle.root_slots.specs.Root.{is_fresh, are_apart, is_root}

pub differ : (a b : ℕ) → not (a == b) ≡ true → a ≢ b
differ a b tested same =
    let is : (a == b) ≡ true = eq-eqb a b same in
    let wrong : false ≡ true = rw is at tested in
    cc

pub told_apart : (a b : ℕ) → a ≢ b → not (a == b) ≡ true
told_apart a b apart = at (a == b) refl
  where
    at : (test : Bool) → (a == b) ≡ test → not (a == b) ≡ true
    at true is = absurd (apart (eqb-true a b is))
    at false is = ap not is

split_parts : (a b c : Bool) → (not a && not (b || c)) ≡ true → (not b ≡ true) × ((not a && not c) ≡ true)
split_parts true b c is = cc
split_parts false true c is = cc
split_parts false false true is = cc
split_parts false false false is = (refl, refl)

joined_parts : (a b c : Bool) → not b ≡ true → (not a && not c) ≡ true → (not a && not (b || c)) ≡ true
joined_parts a true c first rest = cc
joined_parts a false c first rest = rest

-- the first of them, and the others
pub fresh_parts : (file first : ℕ) (files : List ℕ) → is_fresh file (first ∷ files) ≡ true → (first ≢ file) × (is_fresh file files ≡ true)
fresh_parts file first files is =
    let parts = split_parts (file == 0) (first == file) (list_any (λ other. other == file) files) is in
    (differ first file parts.0, parts.1)

pub fresh_more : (file first : ℕ) (files : List ℕ) → first ≢ file → is_fresh file files ≡ true → is_fresh file (first ∷ files) ≡ true
fresh_more file first files apart is = joined_parts (file == 0) (first == file) (list_any (λ other. other == file) files) (told_apart first file apart) is

pub fresh_zero : (file : ℕ) (files : List ℕ) → is_fresh file files ≡ true → file ≢ 0
fresh_zero file files is = differ file 0 (and_parts (not (file == 0)) (not (list_any (λ other. other == file) files)) is).0

-- it is none of them
pub fresh_not : (file : ℕ) (files : List ℕ) → is_fresh file files ≡ true → (k other : ℕ) → k < length files → slice_index_or files k other ≡ other → other ≢ file
fresh_not file [] is k other below at = absurd (omega arith)
fresh_not file (first ∷ files) is zero other below at = subst (λ n. n ≢ file) at (fresh_parts file first files is).0
fresh_not file (first ∷ files) is (suc k) other below at = fresh_not file files (fresh_parts file first files is).1 k other (omega arith) at

pub fresh_among : (file : ℕ) (files : List ℕ) (other : ℕ) → is_fresh file files ≡ true → Contains files other → other ≢ file
fresh_among file files other is (k, below, at) = fresh_not file files is k other below at

-- what is not free is 0 or one of them, so a free one is apart
pub free_apart : (files : List ℕ) (free taken : ℕ) → is_fresh free files ≡ true → is_fresh taken files ≡ false → taken ≢ free
free_apart files free taken is not_free same =
    let wrong : true ≡ false = sym is ∙ (subst (λ n. is_fresh n files ≡ false) same not_free) in
    cc

-- one of them is taken
pub taken_among : (files : List ℕ) (other : ℕ) → Contains files other → is_fresh other files ≡ false
taken_among files other among = at (is_fresh other files) refl
  where
    at : (test : Bool) → is_fresh other files ≡ test → is_fresh other files ≡ false
    at true is = absurd (fresh_among other files other is among refl)
    at false is = is

pub fresh_none : (file : ℕ) → file ≢ 0 → is_fresh file [] ≡ true
fresh_none file apart = and_from (not (file == 0)) true (told_apart file 0 apart) refl

pub fresh_take : (file : ℕ) (files : List ℕ) (n : ℕ) → is_fresh file files ≡ true → is_fresh file (take n files) ≡ true
fresh_take file files zero is = fresh_none file (fresh_zero file files is)
fresh_take file [] (suc n) is = is
fresh_take file (first ∷ files) (suc n) is =
    let parts = fresh_parts file first files is in fresh_more file first (take n files) parts.0 (fresh_take file files n parts.1)

-- with one more at the end
pub fresh_end : (file : ℕ) (files : List ℕ) (last : ℕ) → is_fresh file files ≡ true → last ≢ file → is_fresh file (files ++ last ∷ []) ≡ true
fresh_end file [] last is apart = fresh_more file last [] apart is
fresh_end file (first ∷ files) last is apart =
    let parts = fresh_parts file first files is in fresh_more file first (files ++ last ∷ []) parts.0 (fresh_end file files last parts.1 apart)

-- without the last
pub fresh_front : (file : ℕ) (files : List ℕ) (last : ℕ) → is_fresh file (files ++ last ∷ []) ≡ true → (is_fresh file files ≡ true) × (last ≢ file)
fresh_front file [] last is = let parts = fresh_parts file last [] is in (parts.1, parts.0)
fresh_front file (first ∷ files) last is =
    let parts = fresh_parts file first (files ++ last ∷ []) is in
    let rest = fresh_front file files last parts.1 in
    (fresh_more file first files parts.0 rest.0, rest.1)

pub apart_parts : (first : ℕ) (files : List ℕ) → are_apart (first ∷ files) ≡ true → (is_fresh first files ≡ true) × (are_apart files ≡ true)
apart_parts first files is = and_parts (is_fresh first files) (are_apart files) is

pub apart_more : (first : ℕ) (files : List ℕ) → is_fresh first files ≡ true → are_apart files ≡ true → are_apart (first ∷ files) ≡ true
apart_more first files fresh apart = and_from (is_fresh first files) (are_apart files) fresh apart

-- the front of them, with a new one at the end
pub apart_merged : (files : List ℕ) (n last : ℕ) → are_apart files ≡ true → is_fresh last files ≡ true → are_apart (take n files ++ last ∷ []) ≡ true
apart_merged files zero last apart fresh = apart_more last [] (fresh_none last (fresh_zero last files fresh)) refl
apart_merged [] (suc n) last apart fresh = apart_more last [] (fresh_none last (fresh_zero last [] fresh)) refl
apart_merged (first ∷ files) (suc n) last apart fresh =
    let parts = apart_parts first files apart in
    let others = fresh_parts last first files fresh in
    apart_more first (take n files ++ last ∷ []) (fresh_end first (take n files) last (fresh_take first files n parts.0) (λ same. others.0 (sym same))) (apart_merged files n last parts.1 others.1)

-- ---- roots

six : (a b c d e f : Bool) → (((((a && b) && c) && d) && e) && f) ≡ true → (b ≡ true) × (c ≡ true) × (d ≡ true) × (e ≡ true) × (f ≡ true)
six false b c d e f is = cc
six true false c d e f is = cc
six true true false d e f is = cc
six true true true false e f is = cc
six true true true true false f is = cc
six true true true true true false is = cc
six true true true true true true is = (refl, refl, refl, refl, refl)

all_six : (a b c d e f : Bool) → a ≡ true → b ≡ true → c ≡ true → d ≡ true → e ≡ true → f ≡ true → (((((a && b) && c) && d) && e) && f) ≡ true
all_six true true true true true true first second third fourth fifth sixth = refl
all_six false b c d e f first second third fourth fifth sixth = cc
all_six true false c d e f first second third fourth fifth sixth = cc
all_six true true false d e f first second third fourth fifth sixth = cc
all_six true true true false e f first second third fourth fifth sixth = cc
all_six true true true true false f first second third fourth fifth sixth = cc
all_six true true true true true false first second third fourth fifth sixth = cc

pub record RootParts (root : Root) : Type 0 where
  pub few : length root.tables ≤ TABLES_MOST
  pub state : is_fresh root.state root.tables ≡ true
  pub log_file : is_fresh root.log_file root.tables ≡ true
  pub apart : root.state ≢ root.log_file
  pub tables : are_apart root.tables ≡ true

few_of : (n m : ℕ) → nat_le n m ≡ true → n ≤ m
few_of n m is = leb-true n m is

few_test : (n m : ℕ) → n ≤ m → nat_le n m ≡ true
few_test n m is = le-leb n m is

pub root_parts : (root : Root) → is_root root ≡ true → RootParts root
root_parts root is =
    let parts = six (not (root.number == 0)) (nat_le (length root.tables) TABLES_MOST) (is_fresh root.state root.tables) (is_fresh root.log_file root.tables) (not (root.state == root.log_file)) (are_apart root.tables) is in
    record { few = few_of (length root.tables) TABLES_MOST parts.0; state = parts.1; log_file = parts.2; apart = differ root.state root.log_file parts.3; tables = parts.4 }

pub root_of_parts : (root : Root) → root.number ≢ 0 → RootParts root → is_root root ≡ true
root_of_parts root some parts =
    all_six (not (root.number == 0)) (nat_le (length root.tables) TABLES_MOST) (is_fresh root.state root.tables) (is_fresh root.log_file root.tables) (not (root.state == root.log_file)) (are_apart root.tables)
    (told_apart root.number 0 some) (few_test (length root.tables) TABLES_MOST parts.few) parts.state parts.log_file (told_apart root.state root.log_file parts.apart) parts.tables
