-- The two writes of an append on a disk that may tell what it holds.
use Rattle.std.proofs.Common.{◌≡◌, inl, ℕ, ◌+◌, ◌-◌, ◌<◌, ◌^◌, List, [], ◌∷◌, ◌++◌, length, drop, Option, None, Some, Result, Ok, Err, OnOk, refl, ◌∙◌, ap, subst, arith, length-append}
use Rattle.mds_out.specs.Disk.{Image, Tells, LeavesOnly, Elapses, Follows, put}
use Rattle.mds_out.specs.Images.{IsTorn}
use Rattle.mds_out.specs.Known.{OnKnown, OnTold}
use Rattle.mds_out.proofs.Moments.{leaves_weaker, both, started, goes_on}
use Rattle.mds_out.proofs.Acted.{untouched_torn}
use Rattle.gate_log.specs.Frame.{framed}
use Rattle.gate_log.specs.Log.{log_bytes, log_length, HoldsLog, IsBeforeOrAfter}
use Rattle.gate_log.specs.LogState.{IsWrittenOver, IsKept, IsLogOf, open_log}
use Rattle.gate_log.proofs.Frames.{torn_behind, written_behind, holds_opened, torn_gate, written_gate, longer, staged, length-framed}

module _ (file end : ℕ) (bodies : List (List ℕ)) (body written : List ℕ) (is : written ≡ framed body ++ 0 ∷ []) where
  first_image : (bytes : List ℕ) (images : Image → Type 0) → IsLogOf (open_log file end) bodies bytes → ((image : Image) → images image → image file ≡ bytes) → (image : Image) → IsWrittenOver file end (length written) images image → HoldsLog bodies (image file)
  first_image bytes images log durable image over =
      let torn : IsTorn (log_length bodies) (length written) bytes (image file) = subst (λ e. IsTorn e (length written) bytes (image file)) log.ends (subst (λ b. IsTorn end (length written) b (image file)) (durable over.before over.was) over.changes.changed) in
      torn_behind bodies body bytes (image file) (length written) log.holds torn

  staged_bytes : (bytes mid : List ℕ) (log : IsLogOf (open_log file end) bodies bytes) → mid ≡ put bytes end written → mid ≡ staged bodies log.holds.gate body (drop (log_length bodies + length (framed body ++ 0 ∷ [])) bytes)
  staged_bytes bytes mid log put_is = put_is ∙ ap (λ e. put bytes e written) log.ends ∙ ap (put bytes (log_length bodies)) is ∙ written_behind bodies body bytes log.holds

  second_image : (bytes mid : List ℕ) (images : Image → Type 0) → length body < 2 ^ 32 → IsLogOf (open_log file end) bodies bytes → mid ≡ put bytes end written → ((image : Image) → images image → image file ≡ mid) → (image : Image) → IsWrittenOver file (end - 1) 1 images image → IsBeforeOrAfter bodies body (image file)
  second_image bytes mid images fits log put_is durable image over =
      let offset : end - 1 ≡ length (log_bytes bodies) = omega (arith, log.ends) in
      let rest = drop (log_length bodies + length (framed body ++ 0 ∷ [])) bytes in
      let torn : IsTorn (length (log_bytes bodies)) 1 (staged bodies log.holds.gate body rest) (image file) = subst (λ e. IsTorn e 1 (staged bodies log.holds.gate body rest) (image file)) offset (subst (λ b. IsTorn (end - 1) 1 b (image file)) (durable over.before over.was ∙ staged_bytes bytes mid log put_is) over.changes.changed) in
      torn_gate bodies body log.holds.gate rest (image file) fits log.holds.short torn

  module _ {D : Type 0} (moment : D → ℕ) (since : D → ℕ → Image → Type 0) where
    -- the first write keeps the bodies at each moment
    pub after_first : (seen : Option (List ℕ)) (images : Image → Type 0) (old new : D) → OnTold seen (IsKept (open_log file end) images) → OnTold seen (IsLogOf (open_log file end) bodies)
        → LeavesOnly moment since old new (IsWrittenOver file end (length written) images) → OnTold seen (λ _. LeavesOnly moment since old new (λ image. IsBeforeOrAfter bodies body (image file)))
    after_first None images old new kept log leaves = tt
    after_first (Some bytes) images old new kept log leaves = leaves_weaker moment since old new _ _ (λ image over. inl (first_image bytes images log kept.durable image over)) leaves

    -- both writes leave the bodies with the new one or without, at each moment
    pub after_both : (seen seen' : Option (List ℕ)) (images images' : Image → Type 0) (old mid new : D) → length body < 2 ^ 32 → OnTold seen (IsKept (open_log file end) images) → OnTold seen (IsLogOf (open_log file end) bodies)
        → LeavesOnly moment since old mid (IsWrittenOver file end (length written) images) → Tells seen seen' (λ before now. now ≡ put before end written) → OnTold seen' (λ now. (image : Image) → images' image → image file ≡ now)
        → LeavesOnly moment since mid new (IsWrittenOver file (end - 1) 1 images') → OnTold seen (λ _. LeavesOnly moment since old new (λ image. IsBeforeOrAfter bodies body (image file)))
    after_both None seen' images images' old mid new fits kept log first tells durable second = tt
    after_both (Some bytes) None images images' old mid new fits kept log first tells durable second = absurd tells
    after_both (Some bytes) (Some now) images images' old mid new fits kept log first tells durable second =
        both moment since old mid new _ _ _ first second (λ image over. inl (first_image bytes images log kept.durable image over)) (λ image over. second_image bytes now images' fits log tells durable image over)

  -- the log after both writes
  opened_log : (bytes mid new : List ℕ) → length body < 2 ^ 32 → IsLogOf (open_log file end) bodies bytes → mid ≡ put bytes end written → new ≡ put mid (end - 1) (1 ∷ []) → IsLogOf (open_log file (end + 5 + length body)) (bodies ++ body ∷ []) new
  opened_log bytes mid new fits log first second =
      let offset : end - 1 ≡ length (log_bytes bodies) = omega (arith, log.ends) in
      let rest = drop (log_length bodies + length (framed body ++ 0 ∷ [])) bytes in
      let whole : new ≡ staged bodies 1 body rest = second ∙ ap (λ e. put mid e (1 ∷ [])) offset ∙ ap (λ b. put b (length (log_bytes bodies)) (1 ∷ [])) (staged_bytes bytes mid log first) ∙ written_gate bodies body log.holds.gate rest in
      record { holds = holds_opened bodies body rest new fits log.holds.short whole; ends = omega (arith, log.ends, longer bodies body) }

  pub appended : (seen seen' seen'' : Option (List ℕ)) → length body < 2 ^ 32 → Tells seen seen' (λ before now. now ≡ put before end written) → Tells seen' seen'' (λ before now. now ≡ put before (end - 1) (1 ∷ []))
      → OnTold seen (IsLogOf (open_log file end) bodies) → OnTold seen'' (IsLogOf (open_log file (end + 5 + length body)) (bodies ++ body ∷ []))
  appended None None None fits first second log = tt
  appended None None (Some now) fits first second log = absurd second
  appended None (Some mid) seen'' fits first second log = absurd first
  appended (Some bytes) None seen'' fits first second log = absurd first
  appended (Some bytes) (Some mid) None fits first second log = absurd second
  appended (Some bytes) (Some mid) (Some now) fits first second log = opened_log bytes mid now fits log first second

pub kept_after : (file end : ℕ) (body written : List ℕ) → written ≡ framed body ++ 0 ∷ [] → (seen seen' seen'' : Option (List ℕ)) (images images'' : Image → Type 0) → length body < 2 ^ 32
    → Tells seen seen' (λ before now. now ≡ put before end written) → Tells seen' seen'' (λ before now. now ≡ put before (end - 1) (1 ∷ [])) → OnTold seen'' (λ now. (image : Image) → images'' image → image file ≡ now)
    → OnTold seen (IsKept (open_log file end) images) → OnTold seen'' (IsKept (open_log file (end + 5 + length body)) images'')
kept_after file end body written is None None None images images'' fits first second durable kept = tt
kept_after file end body written is None None (Some now) images images'' fits first second durable kept = absurd second
kept_after file end body written is None (Some mid) seen'' images images'' fits first second durable kept = absurd first
kept_after file end body written is (Some bytes) None seen'' images images'' fits first second durable kept = absurd first
kept_after file end body written is (Some bytes) (Some mid) None images images'' fits first second durable kept = absurd second
kept_after file end body written is (Some bytes) (Some mid) (Some now) images images'' fits first second durable kept =
    record { bodies = kept.bodies ++ body ∷ []; is = opened_log file end kept.bodies body written is bytes mid now fits kept.is first second; durable = durable }

-- a length that is known after one call more
pub known_after : (size size' : Option ℕ) (n : ℕ) (f : ℕ → ℕ) → size ≡ Some n → OnKnown size size' (λ old new. new ≡ f old) → size' ≡ Some (f n)
known_after None size' n f is known = cc
known_after (Some old) None n f is known = absurd known
known_after (Some old) (Some new) n f is known = ap Some (known ∙ ap f (some_same old n is))
  where
    some_same : (a b : ℕ) → Some a ≡ Some b → a ≡ b
    some_same a b same = cc

pub on_ok_three : {T E A B C P : Type 0} (r : Result T E) → (A → B → C → P) → OnOk r A → OnOk r B → OnOk r C → OnOk r P
on_ok_three (Ok x) f a b c = f a b c
on_ok_three (Err e) f a b c = tt

-- an old image is one after a write that did nothing
unchanged_over : (file at count : ℕ) (old : Image → Type 0) (image : Image) → old image → IsWrittenOver file at count old image
unchanged_over file at count old image was = record { before = image; was = was; changes = record { changed = untouched_torn at count (image file); others = λ other apart. refl } }

pub follows_over : (file at count : ℕ) (old new : Image → Type 0) → Follows file (IsTorn at count) old new → (image : Image) → new image → IsWrittenOver file at count old image
follows_over file at count old new follows image now = let from = follows image now in record { before = from.0; was = from.1; changes = from.2 }

module _ {D : Type 0} (moment : D → ℕ) (since : D → ℕ → Image → Type 0) (file at count : ℕ) where
  pub write_moment : (old new : D) (images images' : Image → Type 0) → ((image : Image) → since old (moment old) image → images image) → Elapses (moment old) (moment new) (since old) (since new) images'
      → Follows file (IsTorn at count) images images' → LeavesOnly moment since old new (IsWrittenOver file at count images)
  write_moment old new images images' only time follows = goes_on moment since old old new (IsWrittenOver file at count images) images' (started moment since old (IsWrittenOver file at count images) (λ image left. unchanged_over file at count images image (only image left))) time (follows_over file at count images images' follows)

  pub sync_moment : (old mid new : D) (images images' images'' : Image → Type 0) → LeavesOnly moment since old mid (IsWrittenOver file at count images) → Elapses (moment mid) (moment new) (since mid) (since new) images''
      → Follows file (IsTorn at count) images images' → ((image : Image) → images'' image → images' image) → LeavesOnly moment since old new (IsWrittenOver file at count images)
  sync_moment old mid new images images' images'' so_far time follows fewer = goes_on moment since old mid new (IsWrittenOver file at count images) images'' so_far time (λ image now. follows_over file at count images images' follows image (fewer image now))

pub piece_length : (body written : List ℕ) → written ≡ framed body ++ 0 ∷ [] → length written ≡ 5 + length body
piece_length body written is = omega (arith, ap length is, length-append (framed body) (0 ∷ []), length-framed body)
