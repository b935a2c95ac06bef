-- A half, row by row.
use Rattle.std.proofs.Common.{◌≡◌, ◌∙◌, sym, ap, refl, ℕ, suc, ◌+◌, ◌-◌, ◌*◌, ◌^◌, ◌%◌, ◌/◌, ◌<◌, ◌≤◌, min, Bool, true, false, cond, ◌&&◌, List, [], ◌∷◌, ◌++◌, append_assoc, length, map, take, drop, get_or, Option, Some, None, option_map, arith}
use Rattle.std.proofs.lemmas.List.{drop_more, length-map}
use Rattle.std.proofs.Math.Nat.{mod-eq_of_lt, div-eq_of_lt, pow-suc}
use Rattle.std.proofs.Math.Pow.{pow_mono}
use Rattle.std.proofs.lemmas.List.{take_min, take_all, length-take}
use Rattle.std.specs.List.{slice_get}
use Rattle.mds_base.specs.RowKeys.{row_of}
use Rattle.mds_base.specs.declared.attr.Attr.{Attr}
use Rattle.mds_base.specs.declared.row.Row.{Row}
use Rattle.mds_base.specs.declared.row_key.RowKey.{RowKey}
use Rattle.split.specs.Halves.{is_moving, is_behind, last_key, rising, with_rising}
use Rattle.name_hash.specs.RowPlace.{row_key}

abbrev takes : ℕ → ℕ → ℕ → Option RowKey → Row → Bool
takes dir part depth before row = is_moving part depth row.name && is_behind before (row_key dir part row.name)

last_push : (half : List (RowKey × Attr)) (e : RowKey × Attr) → last_key (half ++ e ∷ []) ≡ Some e.0
last_push [] e = refl
last_push (first ∷ []) e = refl
last_push (first ∷ second ∷ half) e = last_push (second ∷ half) e

-- one row more
pub rising_more : (dir part depth : ℕ) (half : List (RowKey × Attr)) (row : Row) (rows : List Row)
    → with_rising dir part depth half row ++ rising dir part depth (last_key (with_rising dir part depth half row)) rows ≡ half ++ rising dir part depth (last_key half) (row ∷ rows)
rising_more dir part depth half row rows =
    let e : RowKey × Attr = (row_key dir part row.name, row.attr) in
    elim (takes dir part depth (last_key half) row) as (λ b. cond b (half ++ e ∷ []) half ++ rising dir part depth (last_key (cond b (half ++ e ∷ []) half)) rows
    ≡ half ++ cond b (e ∷ rising dir part depth (Some e.0) rows) (rising dir part depth (last_key half) rows)) [
      | true ↦ ap (λ before. (half ++ e ∷ []) ++ rising dir part depth before rows) (last_push half e) ∙ append_assoc half (e ∷ []) (rising dir part depth (Some e.0) rows)
      | false ↦ refl
    ]

-- a half has no more rows than it was taken from
pub rising_length : (dir part depth : ℕ) (before : Option RowKey) (rows : List Row) → length (rising dir part depth before rows) ≤ length rows
rising_length dir part depth before [] = omega arith
rising_length dir part depth before (row ∷ rows) =
    let e : RowKey × Attr = (row_key dir part row.name, row.attr) in
    elim (takes dir part depth before row) as (λ b. length (cond b (e ∷ rising dir part depth (Some e.0) rows) (rising dir part depth before rows)) ≤ suc (length rows)) [
      | true ↦ omega (arith, rising_length dir part depth (Some e.0) rows)
      | false ↦ omega (arith, rising_length dir part depth before rows)
    ]

pub rows_length : (dir part depth : ℕ) (rows : List Row) → length (map row_of (rising dir part depth None rows)) ≤ length rows
rows_length dir part depth rows = omega (arith, length-map (rising dir part depth None rows) row_of, rising_length dir part depth None rows)

-- the last key, by its place
pub last_is : (half : List (RowKey × Attr)) (e : RowKey × Attr) → slice_get half (length half - 1) ≡ Some e → last_key half ≡ Some e.0
last_is [] e is = ap (λ o. option_map (λ (e : RowKey × Attr). e.0) o) is
last_is (first ∷ []) e is = ap (λ o. option_map (λ (e : RowKey × Attr). e.0) o) is
last_is (first ∷ second ∷ half) e is =
    last_is (second ∷ half) e (ap (slice_get (second ∷ half)) (let e : suc (length half) - 1 ≡ length half = omega arith in e) ∙ ap (slice_get (first ∷ second ∷ half)) (let e : suc (length half) ≡ suc (suc (length half)) - 1 = omega arith in e) ∙ is)

-- the loop over the rows
pub rising_next : (dir part depth : ℕ) (half new : List (RowKey × Attr)) (rows : List Row) (row : Row) (i : ℕ) (all : List (RowKey × Attr)) → i < length rows → row ≡ get_or rows i row
    → new ≡ with_rising dir part depth half row → half ++ rising dir part depth (last_key half) (drop i rows) ≡ all → new ++ rising dir part depth (last_key new) (drop (i + 1) rows) ≡ all
rising_next dir part depth half new rows row i all within item pushed is =
    ap (λ (h : List (RowKey × Attr)). h ++ rising dir part depth (last_key h) (drop (i + 1) rows)) pushed
    ∙ rising_more dir part depth half row (drop (i + 1) rows)
    ∙ ap (λ (l : List Row). half ++ rising dir part depth (last_key half) l) (ap (λ r. r ∷ drop (i + 1) rows) item ∙ sym (drop_more rows i row within))
    ∙ is

-- ---- the numbers of the upper half

pub child_number : (part depth : ℕ) → depth < 10 → part + (1 * 2 ^ depth) % 2 ^ 32 ≡ part + 2 ^ depth
child_number part depth deep =
    let small : 2 ^ depth ≤ 2 ^ 10 = pow_mono {i = depth} {j = 10} (omega (arith, deep)) in
    let fits : 1 * 2 ^ depth < 2 ^ 32 = omega (arith, small) in
    omega (arith, mod-eq_of_lt fits)

pub child_low : (part depth : ℕ) → part < 2 ^ depth → part + 2 ^ depth < 2 ^ suc depth
child_low part depth low = let twice : 2 ^ suc depth ≡ 2 ^ depth * 2 = pow-suc 2 depth in omega (arith, low, twice)

pub last_number : (first depth : ℕ) → depth < 10 → first + ((1 * 2 ^ (63 - depth)) % 2 ^ 64 - 1) ≡ first + (2 ^ (64 - suc depth) - 1)
last_number first depth deep =
    let small : 2 ^ (63 - depth) ≤ 2 ^ 63 = pow_mono {i = 63 - depth} {j = 63} (omega arith) in
    let fits : 1 * 2 ^ (63 - depth) < 2 ^ 64 = omega (arith, small) in
    let same : 2 ^ (63 - depth) ≡ 2 ^ (64 - suc depth) = ap (λ n. 2 ^ n) (let e : 63 - depth ≡ 64 - suc depth = omega arith in e) in
    omega (arith, mod-eq_of_lt fits, same)

pub take_whole : (n : ℕ) (rows : List Row) → length rows ≤ n → take n rows ≡ rows
take_whole n rows within = sym (take_min n rows) ∙ ap (λ m. take m rows) (let e : min n (length rows) ≡ length rows = omega (arith, within) in e) ∙ take_all (length rows) rows (omega arith)

-- a page that is not full has all rows
pub page_whole : (n : ℕ) (page rows : List Row) → page ≡ take n rows → length page < n → page ≡ rows
page_whole n page rows is short = is ∙ take_whole n rows (omega (arith, ap length is, length-take n rows, short))

-- a depth at which no hash has a bit
pub no_bit : (hash depth : ℕ) → hash < 2 ^ 64 → 64 ≤ depth → hash / 2 ^ depth ≡ 0
no_bit hash depth fits deep = let small : 2 ^ 64 ≤ 2 ^ depth = pow_mono {i = 64} {j = depth} deep in div-eq_of_lt (omega (arith, fits, small))
