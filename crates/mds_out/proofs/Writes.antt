-- Writes into a buffer of which a front counts.
use Rattle.std.proofs.Common.{◌≡◌, ⊎_elim, ℕ, ◌+◌, ◌-◌, ◌/◌, ◌<◌, ◌≤◌, min, max, List, [], ◌++◌, length, take, drop, refl, sym, ◌∙◌, ap, subst, arith, append_assoc, length-append, replicate}
use Rattle.std.proofs.lemmas.List.{take_at, take_all, take-take, drop_all, drop-take, append-nil, length-take-le, length-replicate, length-drop}
use Rattle.std.proofs.lemmas.Slice.{put_mid-paste, drop-put_mid, take-put_mid}
use Rattle.std.proofs.lemmas.Bool.{cases_lt}
use Rattle.std.proofs.Math.Seq.{take-append-add}
use lib.Seq.{paste}
use borrow.Rule.Slice.PartMut.{put_mid}
use Rattle.mds_out.specs.Disk.{put}
use Rattle.mds_out.specs.Change.{half_written}
use Rattle.mds_out.specs.ContentLaws.{half_length}

-- a front of a front
pub take_min : (xs : List ℕ) (at len m : ℕ) → m ≡ min at len → len ≤ length xs → take at (take len xs) ≡ take m xs
take_min xs at len m is within = ⊎_elim
    (λ (lt : at < len). take-take at len xs (omega arith) ∙ ap (λ n. take n xs) (omega arith))
    (λ (le : len ≤ at). take_all at (take len xs) (omega (arith, length-take-le len xs within)) ∙ ap (λ n. take n xs) (omega arith)) (cases_lt at len)

rest_of_front : (xs : List ℕ) (at len e k : ℕ) → len ≡ e + k → e ≡ at → drop at (take len xs) ≡ take k (drop e xs)
rest_of_front xs at len e k sum same = subst (λ n. drop n (take len xs) ≡ take k (drop e xs)) same (ap (λ n. drop e (take n xs)) sum ∙ drop-take e k xs)

-- the front that counts after a write of ys at m
pub written_front : (xs ys : List ℕ) (len at n m : ℕ) → m ≡ min at len → n ≡ length ys → len ≤ length xs → m + n ≤ length xs → take (max len (m + n)) (paste xs m ys n) ≡ put (take len xs) at ys
written_front xs ys len at n m is count within fits = ⊎_elim behind inside (cases_lt (m + n) len)
  where
    size : length (take len xs) ≡ len
    size = length-take-le len xs within

    all : take n ys ≡ ys
    all = take_all n ys (omega arith)

    front : List ℕ
    front = take m xs ++ take n ys

    front_size : length front ≡ m + n
    front_size = omega (arith, length-append (take m xs) (take n ys), length-take-le m xs (omega arith), length-take-le n ys (omega arith))

    front_is : front ≡ take at (take len xs) ++ ys
    front_is = ap (λ l. take m xs ++ l) all ∙ ap (λ l. l ++ ys) (sym (take_min xs at len m is within))

    behind : m + n < len → take (max len (m + n)) (paste xs m ys n) ≡ put (take len xs) at ys
    behind lt =
        ap (λ w. take w (front ++ drop (m + n) xs)) (omega (arith, front_size)) ∙ take-append-add front (drop (m + n) xs) (len - (m + n))
        ∙ ap (λ l. l ++ take (len - (m + n)) (drop (m + n) xs)) front_is
        ∙ ap (λ l. take at (take len xs) ++ ys ++ l) (sym (rest_of_front xs (at + length ys) len (m + n) (len - (m + n)) (omega arith) (omega arith)))

    inside : len ≤ m + n → take (max len (m + n)) (paste xs m ys n) ≡ put (take len xs) at ys
    inside le =
        take_at front (drop (m + n) xs) (max len (m + n)) (omega (arith, front_size))
        ∙ sym (append-nil front) ∙ ap (λ l. l ++ []) front_is
        ∙ ap (λ l. take at (take len xs) ++ ys ++ l) (sym (drop_all (at + length ys) (take len xs) (omega (arith, size))))

-- the same, as a goal shows the buffer
pub written_mid : (xs ys zs : List ℕ) (len at n m w : ℕ) → m ≡ min at len → n ≡ length zs → ys ≡ zs → n ≡ w → len ≤ length xs → m + n ≤ length xs → take (max len (m + n)) (put_mid m w xs ys) ≡ put (take len xs) at zs
written_mid xs ys zs len at n m w is count same width within fits =
    ap (take (max len (m + n))) (put_mid-paste m w xs ys zs n same width count) ∙ written_front xs zs len at n m is count within fits

-- two writes, one directly behind the other
pub two_mids : (xs a b : List ℕ) (m h k n u v : ℕ) → length a ≡ h → length b ≡ k → h + k ≡ n → u ≡ m + h → v ≡ h → m + n ≤ length xs → put_mid u k (put_mid m v xs a) b ≡ put_mid m n xs (a ++ b)
two_mids xs a b m h k n u v a_is b_is sum place width fits =
    put_mid-paste u k mid b b k refl refl (sym b_is)
    ∙ ap (λ l. l ++ take k b ++ drop (u + k) mid) (take-put_mid m v xs a u (omega arith) (omega arith))
    ∙ ap (λ l. take m xs ++ a ++ l ++ drop (u + k) mid) (take_all k b (omega arith))
    ∙ ap (λ l. take m xs ++ a ++ b ++ l) (drop-put_mid m v xs a (u + k) (omega arith) (omega arith) (omega arith) ∙ ap (λ e. drop e xs) (omega arith))
    ∙ ap (λ l. l ++ drop (m + n) xs) (append_assoc (take m xs) a b ∙ ap (λ l. take m xs ++ l) (sym (take_all n (a ++ b) (omega (arith, length-append a b)))))
    ∙ sym (put_mid-paste m n xs (a ++ b) (a ++ b) n refl refl (omega (arith, length-append a b)))
  where
    mid : List ℕ
    mid = put_mid m v xs a

-- how long a part of the buffer is after a write
pub part_length : (xs a : List ℕ) (m v u w : ℕ) → length a ≡ v → m + v ≤ length xs → u + w ≤ length xs → length (take w (drop u (put_mid m v xs a))) ≡ w
part_length xs a m v u w is fits within =
    let whole : length (paste xs m a v) ≡ length xs = omega (arith, length-append (take m xs ++ take v a) (drop (m + v) xs), length-append (take m xs) (take v a), length-take-le m xs (omega arith), length-take-le v a (omega arith), length-drop (m + v) xs) in
    let all : length (put_mid m v xs a) ≡ length xs = ap length (put_mid-paste m v xs a a v refl refl (sym is)) ∙ whole in
    length-take-le w (drop u (put_mid m v xs a)) (omega (arith, length-drop u (put_mid m v xs a), all))

-- the front that counts after a write of the first half of ys and of as many a5 as are left
pub spoilt_mid : (xs ys a b : List ℕ) (len at m v u w : ℕ) → m ≡ min at len → len ≤ length xs → m + length ys ≤ length xs → a ≡ take (length ys / 2) ys → b ≡ replicate (length ys - length ys / 2) 165
    → v ≡ length ys / 2 → u ≡ m + length ys / 2 → w ≡ length ys - length ys / 2 → take (max len (m + length ys)) (put_mid u w (put_mid m v xs a) b) ≡ put (take len xs) at (half_written ys)
spoilt_mid xs ys a b len at m v u w is within fits a_is b_is v_is u_is w_is =
    ap (take (max len (m + length ys))) (two_mids xs a b m (length ys / 2) w (length ys) u v (ap length a_is ∙ length-take-le (length ys / 2) ys (omega arith)) (ap length b_is ∙ length-replicate {A = ℕ} (length ys - length ys / 2) 165 ∙ sym w_is) (omega arith) u_is v_is fits)
    ∙ written_mid xs (a ++ b) (half_written ys) len at (length ys) m (length ys) is (sym (half_length ys)) (ap (λ l. l ++ b) a_is ∙ ap (λ l. take (length ys / 2) ys ++ l) b_is) refl within fits
