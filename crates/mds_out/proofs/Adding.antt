-- What is kept of a disk in memory, one act more or less.
use Rattle.std.proofs.Common.{◌≡◌, ◌∙◌, sym, ap, refl, ℕ, zero, suc, ◌+◌, ◌-◌, ◌≤◌, List, [], ◌∷◌, ◌++◌, length, length-append, take, drop, sum_by, Option, Some, None, option_to_list, IsSome, MatchOption, Result, Ok, Err, OnOk, true, false, ◌<◌, arith}
use Rattle.std.proofs.lemmas.List.{append-nil, length-take, length-drop, take-append-drop, take-append-le, take_all, drop-append-le}
use Rattle.std.proofs.lemmas.List.Sums.{sum_by-cons, sum_by_push}
use Rattle.mds_out.specs.declared.heads.Head.{Head}
use Rattle.mds_out.specs.declared.heads.Head.TheVariants as head
use Rattle.mds_out.specs.declared.heads.Short.{Short}
use Rattle.mds_out.specs.declared.heads.Short.TheVariants as short
use Rattle.mds_out.specs.Kept.{bytes_in, act_of, acts_of, IsShortOf, long_heads, in_full}
use Rattle.mds_out.specs.Past.{Act}

-- ---- heads in short forms, one more

pub long_push : (shorts : List Short) (s : Short) → long_heads (shorts ++ s ∷ []) ≡ long_heads shorts + long_heads (s ∷ [])
long_push [] s = omega arith
long_push (short.Write file len at ∷ shorts) s = long_push shorts s
long_push (short.Cut file to ∷ shorts) s = long_push shorts s
long_push (short.Synced file ∷ shorts) s = long_push shorts s
long_push (short.Restarted ∷ shorts) s = long_push shorts s
long_push (short.Long ∷ shorts) s = omega (arith, long_push shorts s)

-- what it says, beside the heads that it adds to those without a short form, stands behind what the others say
pub full_push : (longs more : List Head) (shorts : List Short) (h : Head) (s : Short) → long_heads shorts ≡ length longs → in_full more (s ∷ []) ≡ h ∷ []
    → in_full (longs ++ more) (shorts ++ s ∷ []) ≡ in_full longs shorts ++ h ∷ []
full_push [] more [] h s count is = is
full_push (k ∷ longs) more [] h s count is = absurd (omega (arith, count))
full_push longs more (short.Write file len at ∷ shorts) h s count is = ap (λ l. head.Write file at len ∷ l) (full_push longs more shorts h s count is)
full_push longs more (short.Cut file to ∷ shorts) h s count is = ap (λ l. head.Cut file to ∷ l) (full_push longs more shorts h s count is)
full_push longs more (short.Synced file ∷ shorts) h s count is = ap (λ l. head.Synced file ∷ l) (full_push longs more shorts h s count is)
full_push longs more (short.Restarted ∷ shorts) h s count is = ap (λ l. head.Restarted ∷ l) (full_push longs more shorts h s count is)
full_push [] more (short.Long ∷ shorts) h s count is = absurd (omega (arith, count))
full_push (k ∷ longs) more (short.Long ∷ shorts) h s count is = ap (λ l. k ∷ l) (full_push longs more shorts h s (omega (arith, count)) is)

-- a short form says its head, and adds none
says : (h : Head) (s : Short) → IsShortOf h s → in_full [] (s ∷ []) ≡ h ∷ []
says h (short.Write file len at) is = ap (λ k. k ∷ []) (sym is)
says h (short.Cut file to) is = ap (λ k. k ∷ []) (sym is)
says h (short.Synced file) is = ap (λ k. k ∷ []) (sym is)
says h short.Restarted is = ap (λ k. k ∷ []) (sym is)
says h short.Long is = absurd is

adds_none : (h : Head) (s : Short) → IsShortOf h s → long_heads (s ∷ []) ≡ 0
adds_none h (short.Write file len at) is = refl
adds_none h (short.Cut file to) is = refl
adds_none h (short.Synced file) is = refl
adds_none h short.Restarted is = refl
adds_none h short.Long is = absurd is

pub short_push : (longs : List Head) (shorts : List Short) (h : Head) (s : Short) → long_heads shorts ≡ length longs → IsShortOf h s
    → in_full longs (shorts ++ s ∷ []) ≡ in_full longs shorts ++ h ∷ []
short_push longs shorts h s count is =
    ap (λ l. in_full l (shorts ++ s ∷ [])) (sym (append-nil longs)) ∙ full_push longs [] shorts h s count (says h s is)

pub short_count : (n : ℕ) (shorts : List Short) (h : Head) (s : Short) → IsShortOf h s → long_heads shorts ≡ n → long_heads (shorts ++ s ∷ []) ≡ n
short_count n shorts h s is count = omega (arith, long_push shorts s, adds_none h s is, count)

-- and one that has none, which is added to those without
pub none_push : (longs : List Head) (shorts : List Short) (h : Head) → long_heads shorts ≡ length longs
    → in_full (longs ++ h ∷ []) (shorts ++ short.Long ∷ []) ≡ in_full longs shorts ++ h ∷ []
none_push longs shorts h count = full_push longs (h ∷ []) shorts h short.Long count refl

pub none_count : (longs : List Head) (shorts : List Short) (h : Head) → long_heads shorts ≡ length longs
    → long_heads (shorts ++ short.Long ∷ []) ≡ length (longs ++ h ∷ [])
none_count longs shorts h count = omega (arith, count, long_push shorts short.Long, length-append longs (h ∷ []))

-- ---- and one less

-- where the last of the short forms left
pub short_count_back : (longs : List Head) (shorts front : List Short) (h : Head) (s : Short) → shorts ≡ front ++ s ∷ [] → long_heads shorts ≡ length longs → IsShortOf h s
    → long_heads front ≡ length longs
short_count_back longs shorts front h s left count is = omega (arith, long_push front s, adds_none h s is, sym (ap long_heads left) ∙ count)

pub short_back : (longs : List Head) (shorts front : List Short) (h : Head) (s : Short) → shorts ≡ front ++ s ∷ [] → long_heads shorts ≡ length longs → IsShortOf h s
    → in_full longs shorts ≡ in_full longs front ++ h ∷ []
short_back longs shorts front h s left count is =
    ap (in_full longs) left ∙ short_push longs front h s (short_count_back longs shorts front h s left count is) is

-- and the last of those without
last_count : (longs rest more : List Head) (shorts front : List Short) (s : Short) → shorts ≡ front ++ s ∷ [] → s ≡ short.Long → long_heads shorts ≡ length longs
    → longs ≡ rest ++ more → long_heads front + 1 ≡ length rest + length more
last_count longs rest more shorts front s left long count popped =
    omega (arith, long_push front s, ap (λ t. long_heads (t ∷ [])) long, sym (ap long_heads left) ∙ count, ap length popped, length-append rest more)

pub last_count_back : (longs rest : List Head) (last : Option Head) (shorts front : List Short) (s : Short) → shorts ≡ front ++ s ∷ [] → s ≡ short.Long → long_heads shorts ≡ length longs
    → longs ≡ rest ++ option_to_list last → (0 < length longs → IsSome last) → long_heads front ≡ length rest
last_count_back longs rest None shorts front s left long count popped some =
    absurd (let never : false ≡ true = some (omega (arith, last_count longs rest [] shorts front s left long count popped, ap length popped, length-append rest [])) in cc)
last_count_back longs rest (Some h) shorts front s left long count popped some =
    omega (arith, last_count longs rest (h ∷ []) shorts front s left long count popped)

pub last_back : (now longs rest : List Head) (last : Option Head) (shorts front : List Short) (s : Short) → in_full longs shorts ≡ now
    → shorts ≡ front ++ s ∷ [] → s ≡ short.Long → long_heads shorts ≡ length longs → longs ≡ rest ++ option_to_list last → (0 < length longs → IsSome last)
    → MatchOption last ((now ≡ []) × (in_full rest front ≡ [])) (λ h. now ≡ in_full rest front ++ h ∷ [])
last_back now longs rest None shorts front s is left long count popped some =
    absurd (let never : false ≡ true = some (omega (arith, last_count longs rest [] shorts front s left long count popped, ap length popped, length-append rest [])) in cc)
last_back now longs rest (Some h) shorts front s is left long count popped some =
    sym is ∙ (λ i. in_full (popped i) (left i)) ∙ ap (λ t. in_full (rest ++ h ∷ []) (front ++ t ∷ [])) long
    ∙ none_push rest front h (last_count_back longs rest (Some h) shorts front s left long count popped some)

-- ---- acts, by heads and bytes

-- one more, whose bytes were put behind
pub acts_push : (written bytes : List ℕ) (heads : List Head) (h : Head) → sum_by bytes_in heads ≡ length written → bytes_in h ≡ length bytes
    → acts_of (written ++ bytes) (heads ++ h ∷ []) ≡ acts_of written heads ++ act_of bytes h ∷ []
acts_push [] bytes [] h sum count = ap (λ l. act_of l h ∷ []) (ap (λ n. take n bytes) count ∙ take_all (length bytes) bytes (omega arith))
acts_push (b ∷ written) bytes [] h sum count = absurd (omega (arith, sum))
acts_push written bytes (g ∷ heads) h sum count =
    let n = bytes_in g in
    let size = sum_by-cons bytes_in g heads in
    let within : n ≤ length written = omega (arith, size, sum) in
    let rest : sum_by bytes_in heads ≡ length (drop n written) = omega (arith, size, sum, length-drop n written) in
    (λ i. act_of (take-append-le n written bytes within i) g ∷ acts_of (drop-append-le n written bytes within i) (heads ++ h ∷ []))
    ∙ ap (λ l. act_of (take n written) g ∷ l) (acts_push (drop n written) bytes heads h rest count)

-- one more that wrote nothing
pub added_none : {E : Type 0} (result : Result (Unit {0}) E) (written : List ℕ) (now : List Act) (heads new : List Head) (h : Head) → sum_by bytes_in heads ≡ length written → bytes_in h ≡ 0
    → acts_of written heads ≡ now → OnOk result (new ≡ heads ++ h ∷ []) → OnOk result (acts_of written new ≡ now ++ act_of [] h ∷ [])
added_none (Err e) written now heads new h sum none is pushed = pushed
added_none (Ok u) written now heads new h sum none is pushed =
    ap (acts_of written) pushed ∙ ap (λ w. acts_of w (heads ++ h ∷ [])) (sym (append-nil written)) ∙ acts_push written [] heads h sum none ∙ ap (λ l. l ++ act_of [] h ∷ []) is

-- the front of a list with one more
front_is : {X : Type 0} (xs ys : List X) (x y : X) → xs ++ x ∷ [] ≡ ys ++ y ∷ [] → xs ≡ ys
front_is xs ys x y is =
    let size : length xs ≡ length ys = omega (arith, ap length is, length-append xs (x ∷ []), length-append ys (y ∷ [])) in
    sym (take_all (length xs) xs (omega arith)) ∙ sym (take-append-le (length xs) xs (x ∷ []) (omega arith))
    ∙ ap (take (length xs)) is
    ∙ ap (λ n. take n (ys ++ y ∷ [])) size
    ∙ take-append-le (length ys) ys (y ∷ []) (omega arith) ∙ take_all (length ys) ys (omega arith)

-- without the last one and the bytes that it wrote
pub acts_back : (written : List ℕ) (heads : List Head) (h : Head) (n : ℕ) (acts : List Act) (act : Act) → sum_by bytes_in (heads ++ h ∷ []) ≡ length written → n + bytes_in h ≡ length written
    → acts_of written (heads ++ h ∷ []) ≡ acts ++ act ∷ [] → acts_of (take n written) heads ≡ acts
acts_back written heads h n acts act sum front is =
    let whole = take-append-drop n written in
    let sum_front : sum_by bytes_in heads ≡ length (take n written) = omega (arith, sum, front, sum_by_push bytes_in heads h, length-take n written) in
    let count : bytes_in h ≡ length (drop n written) = omega (arith, front, length-drop n written) in
    front_is (acts_of (take n written) heads) acts (act_of (drop n written) h) act
    (sym (acts_push (take n written) (drop n written) heads h sum_front count) ∙ ap (λ w. acts_of w (heads ++ h ∷ [])) whole ∙ is)
