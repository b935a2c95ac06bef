-- Grammars in which what is asked of a value waits until all its bytes are there, and how readers of their parts make a
-- reader of the whole. `G missing text value`: the bytes spell the value, as far as can be said while the last `missing`
-- bytes of them are still to come.
use Rattle.std.proofs.Common.{◌≡◌, ◌∙◌, sym, ap, subst, refl, ℕ, zero, suc, ◌-◌, ◌<◌, ◌≤◌, lit<, Bool, true, false, cond, List, [], ◌∷◌, ◌++◌, append_assoc, length, arith, Result, Ok, Err, inl, inr}
use Rattle.std.proofs.lemmas.Bool.{cases_lt}
use Rattle.std.proofs.lemmas.List.{append-nil, length-append}
use Rattle.records.specs.declared.fault.Fault.{Fault}
use Rattle.records.specs.declared.fault.Fault.TheVariants.{Short, Bad}
use Rattle.records.specs.declared.fault.Stop.{Stop}
use Rattle.records.specs.declared.fault.Stop.TheVariants as stops
use Rattle.records.specs.Faults.{◌>>=◌, Fails}
use Rattle.records.specs.Reading.{list_after}
use Rattle.records.proofs.Decoding.{IsBytes, Takes, Decodes, Follows, Seq, Ends, ends_here, Splits, split_front, bytes_after, bind_ok, bind_err, same_ok, not_both, failed}

-- the bytes are a proper prefix of what may become a spelling
pub record Started {X : Type 0} (G : ℕ → List ℕ → X → Type 0) (bytes : List ℕ) : Type 0 where
  pub more : List ℕ
  pub value : X
  pub some : 0 < length more
  pub spelled : G (length more) (bytes ++ more) value

-- a byte, with so many bytes from it on, is the first after which nothing can become a spelling
pub record Stops {X : Type 0} (G : ℕ → List ℕ → X → Type 0) (bytes : List ℕ) (left : ℕ) : Type 0 where
  pub front : List ℕ
  pub byte : ℕ
  pub rest : List ℕ
  pub parts : bytes ≡ front ++ byte ∷ rest
  pub left_is : left ≡ suc (length rest)
  pub started : Started G front
  pub never : (more : List ℕ) (value : X) → G (length more) (front ++ byte ∷ more) value → ⊥

-- what may be said while more bytes are missing is less
pub record Waits {X : Type 0} (G : ℕ → List ℕ → X → Type 0) : Type 0 where
  pub looser : (m n : ℕ) (text : List ℕ) (value : X) → m ≤ n → G m text value → G n text value

-- a grammar that may be begun
pub record Opens {X : Type 0} (G : ℕ → List ℕ → X → Type 0) : Type 0 where
  pub waits : Waits G
  pub text : List ℕ
  pub value : X
  pub spelled : G (suc (length text)) text value

-- the reader reads the grammar exactly
pub record Reads {X : Type 0} (G : ℕ → List ℕ → X → Type 0) (f : List ℕ → Result (X × List ℕ) Fault) : Type 0 where
  pub found : (bytes : List ℕ) (value : X) (rest : List ℕ) → IsBytes bytes → f bytes ≡ Ok (value, rest) → Takes (G 0) bytes value rest
  pub again : (text : List ℕ) (value : X) (rest : List ℕ) → G 0 text value → f (text ++ rest) ≡ Ok (value, rest)
  pub short : (bytes : List ℕ) → IsBytes bytes → f bytes ≡ Err Short → Started G bytes
  pub bad : (bytes : List ℕ) (left : ℕ) → IsBytes bytes → f bytes ≡ Err (Bad left) → Stops G bytes left
  pub cut : (bytes more : List ℕ) (value : X) → IsBytes bytes → 0 < length more → G (length more) (bytes ++ more) value → f bytes ≡ Err Short

-- a reader of a grammar that may be begun
pub record Goes {X : Type 0} (G : ℕ → List ℕ → X → Type 0) (f : List ℕ → Result (X × List ℕ) Fault) : Type 0 where
  pub reads : Reads G f
  pub opens : Opens G

pub bytes_before : (text rest : List ℕ) → IsBytes (text ++ rest) → IsBytes text
bytes_before [] rest fits i = lit< tt
bytes_before (b ∷ text) rest fits zero = fits 0
bytes_before (b ∷ text) rest fits (suc i) = bytes_before text rest (λ k. fits (suc k)) i

-- a list that is not empty begins with a byte, and ends with one
one_more : (list : List ℕ) → 0 < length list → (b : ℕ) × (rest : List ℕ) × (list ≡ b ∷ rest)
one_more [] some = absurd (omega arith)
one_more (b ∷ rest) some = (b, rest, refl)

last_one : (list : List ℕ) → 0 < length list → (front : List ℕ) × (b : ℕ) × (list ≡ front ++ b ∷ [])
last_one [] some = absurd (omega arith)
last_one (b ∷ []) some = ([], b, refl)
last_one (a ∷ b ∷ list) some = let rest = last_one (b ∷ list) (omega arith) in (a ∷ rest.0, rest.1, ap (λ (l : List ℕ). a ∷ l) rest.2)

-- ---- what asks nothing of bytes to come

module _ {X : Type 0} {G : List ℕ → X → Type 0} {f : List ℕ → Result (X × List ℕ) Fault} (one : Decodes G f) where
  pub plain_cut : (bytes more : List ℕ) (value : X) → IsBytes bytes → 0 < length more → G (bytes ++ more) value → f bytes ≡ Err Short
  plain_cut bytes more value fits some spelled = go (f bytes) refl
    where
      go : (r : Result (X × List ℕ) Fault) → f bytes ≡ r → r ≡ Err Short
      go (Ok p) is =
          let t = one.found bytes p.0 p.1 fits is in
          let whole : bytes ++ more ≡ t.text ++ (p.1 ++ more) = ap (λ (u : List ℕ). u ++ more) t.parts ∙ append_assoc t.text p.1 more in
          let short : f (bytes ++ more) ≡ Ok (p.0, p.1 ++ more) = ap f whole ∙ one.again t.text p.0 (p.1 ++ more) t.spelled in
          let long : f (bytes ++ more) ≡ Ok (value, []) = ap f (sym (append-nil (bytes ++ more))) ∙ one.again (bytes ++ more) value [] spelled in
          let same = same_ok (f (bytes ++ more)) (p.0, p.1 ++ more) (value, []) short long in
          let none = ap (λ (q : X × List ℕ). length q.1) same in
          absurd (omega (arith, none, length-append p.1 more))
      go (Err Short) is = refl
      go (Err (Bad left)) is =
          let r = one.bad bytes left fits is in
          let whole : bytes ++ more ≡ r.front ++ r.byte ∷ (r.rest ++ more) = ap (λ (u : List ℕ). u ++ more) r.parts ∙ append_assoc r.front (r.byte ∷ r.rest) more in
          absurd (r.never (r.rest ++ more) value (subst (λ (u : List ℕ). G u value) whole spelled))

  pub plainly : Reads (λ _. G) f
  plainly = record {
    found = λ bytes value rest fits e. one.found bytes value rest fits e;
    again = λ text value rest s. one.again text value rest s;
    short = λ bytes fits e. let b = one.short bytes fits e in record { more = b.more; value = b.value; some = b.some; spelled = b.spelled };
    bad = λ bytes left fits e. let r = one.bad bytes left fits e in record { front = r.front; byte = r.byte; rest = r.rest; parts = r.parts; left_is = r.left_is; started = record { more = r.begun.more; value = r.begun.value; some = r.begun.some; spelled = r.begun.spelled }; never = r.never };
    cut = plain_cut;
  }

pub goes_plainly : {X : Type 0} {G : List ℕ → X → Type 0} {f : List ℕ → Result (X × List ℕ) Fault} → Follows G f → Goes (λ _. G) f
goes_plainly one = record { reads = plainly one.decodes; opens = record { waits = record { looser = λ m n text value le s. s }; text = one.text; value = one.value; spelled = one.spelled } }

-- ---- a test of a value that is asked once its bytes are all there

pub record Passing {X : Type 0} (G : List ℕ → X → Type 0) (test : X → Bool) (missing : ℕ) (text : List ℕ) (value : X) : Type 0 where
  pub spelled : G text value
  pub passes : missing ≡ 0 → test value ≡ true

-- the value, if it passes; else the last byte of its spelling is bad
abbrev pub passed_or : {X : Type 0} → Bool → X → List ℕ → Result (X × List ℕ) Fault
passed_or b x rest = cond b (Ok (x, rest)) (Err (Bad (suc (length rest))))

same_left : {A : Type 0} (a b : ℕ) → failed {A = A} (Bad a) ≡ Err (Bad b) → a ≡ b
same_left a b e = cc

module _ {X : Type 0} {G : List ℕ → X → Type 0} {f : List ℕ → Result (X × List ℕ) Fault} (one : Follows G f) (some_byte : (text : List ℕ) (x : X) → G text x → 0 < length text) (test : X → Bool) where
  abbrev tested : List ℕ → Result (X × List ℕ) Fault
  tested bytes = f bytes >>= λ p. passed_or (test p.0) p.0 p.1

  test_found : (bytes : List ℕ) (value : X) (rest : List ℕ) → IsBytes bytes → tested bytes ≡ Ok (value, rest) → Takes (Passing G test 0) bytes value rest
  test_found bytes value rest fits e = go (bind_ok (f bytes) (λ p. passed_or (test p.0) p.0 p.1) (value, rest) e).value (bind_ok (f bytes) (λ p. passed_or (test p.0) p.0 p.1) (value, rest) e).first (bind_ok (f bytes) (λ p. passed_or (test p.0) p.0 p.1) (value, rest) e).second
    where
      go : (p : X × List ℕ) → f bytes ≡ Ok p → passed_or (test p.0) p.0 p.1 ≡ Ok (value, rest) → Takes (Passing G test 0) bytes value rest
      go p first second = elim (test p.0) as (λ b. test p.0 ≡ b → passed_or b p.0 p.1 ≡ Ok (value, rest) → Takes (Passing G test 0) bytes value rest) [
        | true ↦ λ is same.
            let pair : ◌≡◌ {A = X × List ℕ} p (value, rest) = cc in
            let t = one.decodes.found bytes p.0 p.1 fits first in
            subst (λ (q : X × List ℕ). Takes (Passing G test 0) bytes q.0 q.1) pair (record { text = t.text; parts = t.parts; spelled = record { spelled = t.spelled; passes = λ _. is } })
        | false ↦ λ is same. absurd cc
      ] refl second

  test_again : (text : List ℕ) (value : X) (rest : List ℕ) → Passing G test 0 text value → tested (text ++ rest) ≡ Ok (value, rest)
  test_again text value rest s =
      let first = one.decodes.again text value rest s.spelled in
      ap (λ r. r >>= λ p. passed_or (test p.0) p.0 p.1) first ∙ ap (λ b. passed_or b value rest) (s.passes refl)

  begun_yet : (bytes more : List ℕ) (value : X) → 0 < length more → G (bytes ++ more) value → Started (Passing G test) bytes
  begun_yet bytes more value some spelled = record { more = more; value = value; some = some; spelled = record { spelled = spelled; passes = λ none. absurd (omega arith) } }

  test_short : (bytes : List ℕ) → IsBytes bytes → tested bytes ≡ Err Short → Started (Passing G test) bytes
  test_short bytes fits e = elim (bind_err (f bytes) (λ p. passed_or (test p.0) p.0 p.1) Short e) [
    | inl first ↦ let b = one.decodes.short bytes fits first in begun_yet bytes b.more b.value b.some b.spelled
    | inr s ↦ elim (test s.value.0) as (λ b. passed_or b s.value.0 s.value.1 ≡ Err Short → Started (Passing G test) bytes) [ true ↦ λ same. absurd cc | false ↦ λ same. absurd cc ] s.second
  ]

  -- a whole spelling whose value does not pass is bad at its last byte
  fails_at : (bytes : List ℕ) (left : ℕ) (x : X) (rest : List ℕ) → IsBytes bytes → f bytes ≡ Ok (x, rest) → test x ≡ false → suc (length rest) ≡ left → Stops (Passing G test) bytes left
  fails_at bytes left x rest fits first off is =
      let t = one.decodes.found bytes x rest fits first in
      let end = last_one t.text (some_byte t.text x t.spelled) in
      let spelled : G (end.0 ++ end.1 ∷ []) x = subst (λ (u : List ℕ). G u x) end.2 t.spelled in
      record {
        front = end.0;
        byte = end.1;
        rest = rest;
        parts = t.parts ∙ ap (λ (u : List ℕ). u ++ rest) end.2 ∙ append_assoc end.0 (end.1 ∷ []) rest;
        left_is = sym is;
        started = begun_yet end.0 (end.1 ∷ []) x (omega arith) spelled;
        never = λ more v s.
            let whole : (end.0 ++ end.1 ∷ []) ++ more ≡ end.0 ++ end.1 ∷ more = append_assoc end.0 (end.1 ∷ []) more in
            let short : f ((end.0 ++ end.1 ∷ []) ++ more) ≡ Ok (x, more) = one.decodes.again (end.0 ++ end.1 ∷ []) x more spelled in
            let long : f ((end.0 ++ end.1 ∷ []) ++ more) ≡ Ok (v, []) = ap f (whole ∙ sym (append-nil (end.0 ++ end.1 ∷ more))) ∙ one.decodes.again (end.0 ++ end.1 ∷ more) v [] s.spelled in
            let same = same_ok (f ((end.0 ++ end.1 ∷ []) ++ more)) (x, more) (v, []) short long in
            let none : length more ≡ 0 = ap (λ (q : X × List ℕ). length q.1) same in
            let on : test x ≡ true = ap test (ap (λ (q : X × List ℕ). q.0) same) ∙ s.passes none in
            let both : true ≡ false = sym on ∙ off in
            cc;
      }

  test_bad : (bytes : List ℕ) (left : ℕ) → IsBytes bytes → tested bytes ≡ Err (Bad left) → Stops (Passing G test) bytes left
  test_bad bytes left fits e = elim (bind_err (f bytes) (λ p. passed_or (test p.0) p.0 p.1) (Bad left) e) [
    | inl first ↦
        let r = one.decodes.bad bytes left fits first in
        record { front = r.front; byte = r.byte; rest = r.rest; parts = r.parts; left_is = r.left_is; started = begun_yet r.front r.begun.more r.begun.value r.begun.some r.begun.spelled; never = λ more v s. r.never more v s.spelled }
    | inr s ↦ elim (test s.value.0) as (λ b. test s.value.0 ≡ b → passed_or b s.value.0 s.value.1 ≡ Err (Bad left) → Stops (Passing G test) bytes left) [
      | true ↦ λ is same. absurd cc
      | false ↦ λ is same. fails_at bytes left s.value.0 s.value.1 fits s.first is (same_left {A = X × List ℕ} _ left same)
    ] refl s.second
  ]

  pub tested_reads : Goes (Passing G test) tested
  tested_reads = record {
    reads = record {
      found = test_found;
      again = test_again;
      short = test_short;
      bad = test_bad;
      cut = λ bytes more v fits some s. ap (λ r. r >>= λ p. passed_or (test p.0) p.0 p.1) (plain_cut one.decodes bytes more v fits some s.spelled);
    };
    opens = record {
      waits = record { looser = λ m n text v le s. record { spelled = s.spelled; passes = λ none. s.passes (omega arith) } };
      text = one.text;
      value = one.value;
      spelled = record { spelled = one.spelled; passes = λ none. absurd (omega arith) };
    };
  }

-- ---- one reader after another

-- the spelling of one value, and after it the spelling of a second
pub record Then {X Y : Type 0} (G : ℕ → List ℕ → X → Type 0) (H : X → ℕ → List ℕ → Y → Type 0) (missing : ℕ) (text : List ℕ) (end : Y) : Type 0 where
  pub front : List ℕ
  pub back : List ℕ
  pub value : X
  pub parts : text ≡ front ++ back
  pub first : G (missing - length back) front value
  pub second : H value missing back end

module _ {X Y : Type 0} {G : ℕ → List ℕ → X → Type 0} {H : X → ℕ → List ℕ → Y → Type 0} {f : List ℕ → Result (X × List ℕ) Fault} {g : X → List ℕ → Result (Y × List ℕ) Fault}
    (one : Reads G f) (waits : Waits G) (next : (text : List ℕ) (x : X) → G 0 text x → Reads (H x) (g x)) (on : (n : ℕ) (text : List ℕ) (x : X) → G n text x → Opens (H x)) where
  abbrev both : List ℕ → Result (Y × List ℕ) Fault
  both bytes = f bytes >>= λ p. g p.0 p.1

  rest_bytes : (bytes text rest : List ℕ) → IsBytes bytes → bytes ≡ text ++ rest → IsBytes rest
  rest_bytes bytes text rest fits e = bytes_after text rest (subst IsBytes e fits)

  then_found : (bytes : List ℕ) (y : Y) (rest : List ℕ) → IsBytes bytes → both bytes ≡ Ok (y, rest) → Takes (Then G H 0) bytes y rest
  then_found bytes y rest fits e =
      let s = bind_ok (f bytes) (λ p. g p.0 p.1) (y, rest) e in
      let a = one.found bytes s.value.0 s.value.1 fits s.first in
      let b = (next a.text s.value.0 a.spelled).found s.value.1 y rest (rest_bytes bytes a.text s.value.1 fits a.parts) s.second in
      record {
        text = a.text ++ b.text;
        parts = a.parts ∙ ap (λ (t : List ℕ). a.text ++ t) b.parts ∙ sym (append_assoc a.text b.text rest);
        spelled = record { front = a.text; back = b.text; value = s.value.0; parts = refl; first = waits.looser 0 (0 - length b.text) a.text s.value.0 (omega arith) a.spelled; second = b.spelled };
      }

  then_again : (text : List ℕ) (y : Y) (rest : List ℕ) → Then G H 0 text y → both (text ++ rest) ≡ Ok (y, rest)
  then_again text y rest s =
      let strict : G 0 s.front s.value = waits.looser (0 - length s.back) 0 s.front s.value (omega arith) s.first in
      let whole : text ++ rest ≡ s.front ++ (s.back ++ rest) = ap (λ (t : List ℕ). t ++ rest) s.parts ∙ append_assoc s.front s.back rest in
      let first : f (text ++ rest) ≡ Ok (s.value, s.back ++ rest) = ap f whole ∙ one.again s.front s.value (s.back ++ rest) strict in
      ap (λ r. r >>= λ p. g p.0 p.1) first ∙ (next s.front s.value strict).again s.back y rest s.second

  started_first : (front : List ℕ) → Started G front → Started (Then G H) front
  started_first front b =
      let n = on (length b.more) (front ++ b.more) b.value b.spelled in
      let some = b.some in
      let long = length-append b.more n.text in
      record {
        more = b.more ++ n.text;
        value = n.value;
        some = omega (arith, long);
        spelled = record {
          front = front ++ b.more;
          back = n.text;
          value = b.value;
          parts = sym (append_assoc front b.more n.text);
          first = waits.looser (length b.more) (length (b.more ++ n.text) - length n.text) (front ++ b.more) b.value (omega (arith, long)) b.spelled;
          second = n.waits.looser (suc (length n.text)) (length (b.more ++ n.text)) n.text n.value (omega (arith, long)) n.spelled;
        };
      }

  started_second : (text : List ℕ) (x : X) (front : List ℕ) → G 0 text x → Started (H x) front → Started (Then G H) (text ++ front)
  started_second text x front first b = record {
    more = b.more;
    value = b.value;
    some = b.some;
    spelled = record { front = text; back = front ++ b.more; value = x; parts = append_assoc text front b.more; first = waits.looser 0 (length b.more - length (front ++ b.more)) text x (omega arith) first; second = b.spelled };
  }

  then_short : (bytes : List ℕ) → IsBytes bytes → both bytes ≡ Err Short → Started (Then G H) bytes
  then_short bytes fits e = elim (bind_err (f bytes) (λ p. g p.0 p.1) Short e) [
    | inl first ↦ started_first bytes (one.short bytes fits first)
    | inr s ↦
        let a = one.found bytes s.value.0 s.value.1 fits s.first in
        let b = (next a.text s.value.0 a.spelled).short s.value.1 (rest_bytes bytes a.text s.value.1 fits a.parts) s.second in
        subst (Started (Then G H)) (sym a.parts) (started_second a.text s.value.0 s.value.1 a.spelled b)
  ]

  -- a spelling of the first value that goes past the bytes goes on in what is still to come
  past : (bytes more : List ℕ) (y : Y) (s : Then G H (length more) (bytes ++ more) y) → length bytes ≤ length s.front → (between : List ℕ) × (s.front ≡ bytes ++ between) × (more ≡ between ++ s.back) × G (length between) (bytes ++ between) s.value
  past bytes more y s le =
      let p = split_front bytes more s.front s.back s.parts le in
      let count = ap length p.back ∙ length-append p.between s.back in
      (p.between, p.front, p.back, subst (λ (t : List ℕ). G (length p.between) t s.value) p.front (waits.looser (length more - length s.back) (length p.between) s.front s.value (omega (arith, count)) s.first))

  -- one that ends within them is whole
  whole_first : (bytes more : List ℕ) (y : Y) (s : Then G H (length more) (bytes ++ more) y) → length s.front ≤ length bytes → G 0 s.front s.value
  whole_first bytes more y s le =
      let count = ap length s.parts ∙ length-append s.front s.back in
      let total = length-append bytes more in
      waits.looser (length more - length s.back) 0 s.front s.value (omega (arith, count, total)) s.first

  then_cut : (bytes more : List ℕ) (y : Y) → IsBytes bytes → 0 < length more → Then G H (length more) (bytes ++ more) y → both bytes ≡ Err Short
  then_cut bytes more y fits some s = elim (cases_lt (length bytes) (length s.front)) [
    | inl longer ↦
        let p = past bytes more y s (omega arith) in
        let some : 0 < length p.0 = omega (arith, ap length p.1, length-append bytes p.0) in
        ap (λ r. r >>= λ p. g p.0 p.1) (one.cut bytes p.0 s.value fits some p.3)
    | inr within ↦
        let strict = whole_first bytes more y s within in
        let p = split_front s.front s.back bytes more (sym s.parts) within in
        let first : f bytes ≡ Ok (s.value, p.between) = ap f p.front ∙ one.again s.front s.value p.between strict in
        let second = (next s.front s.value strict).cut p.between more y (rest_bytes bytes s.front p.between fits p.front) some (subst (λ (t : List ℕ). H s.value (length more) t y) p.back s.second) in
        ap (λ r. r >>= λ p. g p.0 p.1) first ∙ second
  ]

  never_first : (bytes : List ℕ) (left : ℕ) (r : Stops G bytes left) → f bytes ≡ Err (Bad left) → (more : List ℕ) (y : Y) → Then G H (length more) (r.front ++ r.byte ∷ more) y → ⊥
  never_first bytes left r e more y s = elim (cases_lt (length r.front) (length s.front)) [
    | inl longer ↦
        let p = split_front r.front (r.byte ∷ more) s.front s.back s.parts (omega arith) in
        goes_past p (one_more p.between (omega (arith, ap length p.front, length-append r.front p.between)))
    | inr within ↦
        let p = split_front s.front s.back r.front (r.byte ∷ more) (sym s.parts) within in
        let count = ap length p.back ∙ length-append p.between (r.byte ∷ more) in
        let strict : G 0 s.front s.value = waits.looser (length more - length s.back) 0 s.front s.value (omega (arith, count)) s.first in
        let whole : bytes ≡ s.front ++ (p.between ++ r.byte ∷ r.rest) = r.parts ∙ ap (λ (t : List ℕ). t ++ r.byte ∷ r.rest) p.front ∙ append_assoc s.front p.between (r.byte ∷ r.rest) in
        not_both (f bytes) (s.value, p.between ++ r.byte ∷ r.rest) (Bad left) (ap f whole ∙ one.again s.front s.value (p.between ++ r.byte ∷ r.rest) strict) e
  ]
    where
      goes_past : (p : Splits r.front (r.byte ∷ more) s.front s.back) → ((b : ℕ) × (rest : List ℕ) × (p.between ≡ b ∷ rest)) → ⊥
      goes_past p m =
          let back : r.byte ∷ more ≡ m.0 ∷ (m.1 ++ s.back) = p.back ∙ ap (λ (t : List ℕ). t ++ s.back) m.2 in
          let byte : m.0 ≡ r.byte = cc in
          let tail : more ≡ m.1 ++ s.back = cc in
          let count = ap length tail ∙ length-append m.1 s.back in
          let front : s.front ≡ r.front ++ r.byte ∷ m.1 = p.front ∙ ap (λ (t : List ℕ). r.front ++ t) m.2 ∙ ap (λ (b : ℕ). r.front ++ b ∷ m.1) byte in
          r.never m.1 s.value (subst (λ (t : List ℕ). G (length m.1) t s.value) front (waits.looser (length more - length s.back) (length m.1) s.front s.value (omega (arith, count)) s.first))

  never_second : (text : List ℕ) (x : X) (first : G 0 text x) (after : List ℕ) (n : ℕ) (r : Stops (H x) after n) → IsBytes (text ++ (r.front ++ r.byte ∷ [])) → (more : List ℕ) (y : Y) → Then G H (length more) ((text ++ r.front) ++ r.byte ∷ more) y → ⊥
  never_second text x first after n r fits more y s =
      let seen : List ℕ = text ++ (r.front ++ r.byte ∷ []) in
      let whole : text ++ (r.front ++ r.byte ∷ more) ≡ s.front ++ s.back = sym (append_assoc text r.front (r.byte ∷ more)) ∙ s.parts in
      let parts : seen ++ more ≡ s.front ++ s.back = append_assoc text (r.front ++ r.byte ∷ []) more ∙ ap (λ (t : List ℕ). text ++ t) (append_assoc r.front (r.byte ∷ []) more) ∙ whole in
      let t : Then G H (length more) (seen ++ more) y = record { front = s.front; back = s.back; value = s.value; parts = parts; first = s.first; second = s.second } in
      elim (cases_lt (length seen) (length s.front)) [
        | inl longer ↦
            let p = past seen more y t (omega arith) in
            let some : 0 < length p.0 = omega (arith, ap length p.1, length-append seen p.0) in
            not_both (f seen) (x, r.front ++ r.byte ∷ []) Short (one.again text x (r.front ++ r.byte ∷ []) first) (one.cut seen p.0 s.value fits some p.3)
        | inr within ↦
            let strict = whole_first seen more y t within in
            let same : ◌≡◌ {A = X × List ℕ} (x, r.front ++ r.byte ∷ more) (s.value, s.back) = same_ok (f (s.front ++ s.back)) (x, r.front ++ r.byte ∷ more) (s.value, s.back) (ap f (sym whole) ∙ one.again text x (r.front ++ r.byte ∷ more) first) (one.again s.front s.value s.back strict) in
            r.never more y (subst (λ (p : X × List ℕ). H p.0 (length more) p.1 y) (sym same) s.second)
      ]

  then_bad : (bytes : List ℕ) (left : ℕ) → IsBytes bytes → both bytes ≡ Err (Bad left) → Stops (Then G H) bytes left
  then_bad bytes left fits e = elim (bind_err (f bytes) (λ p. g p.0 p.1) (Bad left) e) [
    | inl first ↦
        let r = one.bad bytes left fits first in
        record { front = r.front; byte = r.byte; rest = r.rest; parts = r.parts; left_is = r.left_is; started = started_first r.front r.started; never = never_first bytes left r first }
    | inr s ↦
        let a = one.found bytes s.value.0 s.value.1 fits s.first in
        let r = (next a.text s.value.0 a.spelled).bad s.value.1 left (rest_bytes bytes a.text s.value.1 fits a.parts) s.second in
        let grouped : r.front ++ r.byte ∷ r.rest ≡ (r.front ++ r.byte ∷ []) ++ r.rest = sym (append_assoc r.front (r.byte ∷ []) r.rest) in
        let seen : bytes ≡ (a.text ++ (r.front ++ r.byte ∷ [])) ++ r.rest = a.parts ∙ ap (λ (t : List ℕ). a.text ++ t) (r.parts ∙ grouped) ∙ sym (append_assoc a.text (r.front ++ r.byte ∷ []) r.rest) in
        record {
          front = a.text ++ r.front;
          byte = r.byte;
          rest = r.rest;
          parts = a.parts ∙ ap (λ (t : List ℕ). a.text ++ t) r.parts ∙ sym (append_assoc a.text r.front (r.byte ∷ r.rest));
          left_is = r.left_is;
          started = started_second a.text s.value.0 r.front a.spelled r.started;
          never = never_second a.text s.value.0 a.spelled s.value.1 left r (bytes_before (a.text ++ (r.front ++ r.byte ∷ [])) r.rest (subst IsBytes seen fits));
        }
  ]

  pub reads_in_turn : Reads (Then G H) (λ bytes. f bytes >>= λ p. g p.0 p.1)
  reads_in_turn = record { found = then_found; again = then_again; short = then_short; bad = then_bad; cut = then_cut }

  pub waits_in_turn : Waits (Then G H)
  waits_in_turn = record {
    looser = λ m n text y le s. record {
      front = s.front;
      back = s.back;
      value = s.value;
      parts = s.parts;
      first = waits.looser (m - length s.back) (n - length s.back) s.front s.value (omega arith) s.first;
      second = (on (m - length s.back) s.front s.value s.first).waits.looser m n s.back y le s.second;
    };
  }

pub go_in_turn : {X Y : Type 0} {G : ℕ → List ℕ → X → Type 0} {H : X → ℕ → List ℕ → Y → Type 0} {f : List ℕ → Result (X × List ℕ) Fault} {g : X → List ℕ → Result (Y × List ℕ) Fault} → Goes G f → ((text : List ℕ) (x : X) → G 0 text x → Reads (H x) (g x)) → ((n : ℕ) (text : List ℕ) (x : X) → G n text x → Opens (H x)) → Goes (Then G H) (λ bytes. f bytes >>= λ p. g p.0 p.1)
go_in_turn one next on =
    let o = one.opens in
    let n = on (suc (length o.text)) o.text o.value o.spelled in
    let long = length-append o.text n.text in
    record {
      reads = reads_in_turn one.reads o.waits next on;
      opens = record {
        waits = waits_in_turn one.reads o.waits next on;
        text = o.text ++ n.text;
        value = n.value;
        spelled = record {
          front = o.text;
          back = n.text;
          value = o.value;
          parts = refl;
          first = o.waits.looser (suc (length o.text)) (suc (length (o.text ++ n.text)) - length n.text) o.text o.value (omega (arith, long)) o.spelled;
          second = n.waits.looser (suc (length n.text)) (suc (length (o.text ++ n.text))) n.text n.value (omega (arith, long)) n.spelled;
        };
      };
    }

-- ---- the same of grammars that ask nothing of bytes to come

module _ {X Y : Type 0} {G : List ℕ → X → Type 0} {H : X → List ℕ → Y → Type 0} where
  to_seq : (n : ℕ) (text : List ℕ) (y : Y) → Then (λ _. G) (λ x _. H x) n text y → Seq G H text y
  to_seq n text y s = record { front = s.front; back = s.back; value = s.value; parts = s.parts; first = s.first; second = s.second }

  to_then : (n : ℕ) (text : List ℕ) (y : Y) → Seq G H text y → Then (λ _. G) (λ x _. H x) n text y
  to_then n text y s = record { front = s.front; back = s.back; value = s.value; parts = s.parts; first = s.first; second = s.second }

  pub in_turn : {f : List ℕ → Result (X × List ℕ) Fault} {g : X → List ℕ → Result (Y × List ℕ) Fault} → Decodes G f → ((text : List ℕ) (x : X) → G text x → Follows (H x) (g x)) → Decodes (Seq G H) (λ bytes. f bytes >>= λ p. g p.0 p.1)
  in_turn one next =
      let r = reads_in_turn (plainly one) (record { looser = λ m n text x le s. s }) (λ text x s. plainly (next text x s).decodes) (λ n text x s. (goes_plainly (next text x s)).opens) in
      record {
        found = λ bytes y rest fits e. let t = r.found bytes y rest fits e in record { text = t.text; parts = t.parts; spelled = to_seq 0 t.text y t.spelled };
        again = λ text y rest s. r.again text y rest (to_then 0 text y s);
        short = λ bytes fits e. let b = r.short bytes fits e in record { more = b.more; value = b.value; some = b.some; spelled = to_seq (length b.more) (bytes ++ b.more) b.value b.spelled };
        bad = λ bytes left fits e. let s = r.bad bytes left fits e in record {
          front = s.front;
          byte = s.byte;
          rest = s.rest;
          parts = s.parts;
          left_is = s.left_is;
          begun = record { more = s.started.more; value = s.started.value; some = s.started.some; spelled = to_seq (length s.started.more) (s.front ++ s.started.more) s.started.value s.started.spelled };
          never = λ more y k. s.never more y (to_then (length more) (s.front ++ s.byte ∷ more) y k);
        };
      }

  pub both_follow : {f : List ℕ → Result (X × List ℕ) Fault} {g : X → List ℕ → Result (Y × List ℕ) Fault} → Follows G f → ((text : List ℕ) (x : X) → G text x → Follows (H x) (g x)) → Follows (Seq G H) (λ bytes. f bytes >>= λ p. g p.0 p.1)
  both_follow one next =
      let n = next one.text one.value one.spelled in
      record { decodes = in_turn one.decodes next; text = one.text ++ n.text; value = n.value; spelled = record { front = one.text; back = n.text; value = one.value; parts = refl; first = one.spelled; second = n.spelled } }

-- another word for a grammar
pub same_goes : {X : Type 0} {G K : ℕ → List ℕ → X → Type 0} {f : List ℕ → Result (X × List ℕ) Fault} → ((n : ℕ) (text : List ℕ) (x : X) → G n text x → K n text x) → ((n : ℕ) (text : List ℕ) (x : X) → K n text x → G n text x) → Goes G f → Goes K f
same_goes there back one =
    let r = one.reads in
    let o = one.opens in
    record {
      reads = record {
        found = λ bytes x rest fits e. let t = r.found bytes x rest fits e in record { text = t.text; parts = t.parts; spelled = there 0 t.text x t.spelled };
        again = λ text x rest s. r.again text x rest (back 0 text x s);
        short = λ bytes fits e. let b = r.short bytes fits e in record { more = b.more; value = b.value; some = b.some; spelled = there (length b.more) (bytes ++ b.more) b.value b.spelled };
        bad = λ bytes left fits e. let s = r.bad bytes left fits e in record {
          front = s.front;
          byte = s.byte;
          rest = s.rest;
          parts = s.parts;
          left_is = s.left_is;
          started = record { more = s.started.more; value = s.started.value; some = s.started.some; spelled = there (length s.started.more) (s.front ++ s.started.more) s.started.value s.started.spelled };
          never = λ more x k. s.never more x (back (length more) (s.front ++ s.byte ∷ more) x k);
        };
        cut = λ bytes more x fits some k. r.cut bytes more x fits some (back (length more) (bytes ++ more) x k);
      };
      opens = record {
        waits = record { looser = λ m n text x le k. there n text x (o.waits.looser m n text x le (back m text x k)) };
        text = o.text;
        value = o.value;
        spelled = there (suc (length o.text)) o.text o.value o.spelled;
      };
    }

pub goes_by_test : {X : Type 0} {G K : ℕ → List ℕ → X → Type 0} {f g : List ℕ → Result (X × List ℕ) Fault} (b : Bool) → (b ≡ true → Goes G f) → (b ≡ false → Goes K g) → Goes (λ n text x. cond b (G n text x) (K n text x)) (λ bytes. cond b (f bytes) (g bytes))
goes_by_test true on off = same_goes (λ n text x s. s) (λ n text x s. s) (on refl)
goes_by_test false on off = same_goes (λ n text x s. s) (λ n text x s. s) (off refl)

-- ---- so many elements, where what one may be goes by those before it and by how many follow

module _ {X : Type 0} (G : List X → ℕ → ℕ → List ℕ → X → Type 0) where
  abbrev pub Listed : List X → ℕ → ℕ → List ℕ → List X → Type 0
  Listed so_far zero missing = Ends so_far
  Listed so_far (suc left) missing = Then (G so_far left) (λ x. Listed (so_far ++ x ∷ []) left) missing

module _ {X : Type 0} {G : List X → ℕ → ℕ → List ℕ → X → Type 0} {item : List X → ℕ → List ℕ → Result (X × List ℕ) Fault} (Good : List X → ℕ → Type 0)
    (each : (so_far : List X) (left : ℕ) → Good so_far (suc left) → Goes (G so_far left) (item so_far left))
    (kept : (so_far : List X) (left n : ℕ) (text : List ℕ) (x : X) → Good so_far (suc left) → G so_far left n text x → Good (so_far ++ x ∷ []) left) where
  pub list_goes : (so_far : List X) (left : ℕ) → Good so_far left → Goes (Listed G so_far left) (list_after item so_far left)
  unfolding list_after
  list_goes so_far zero good = goes_plainly (record { decodes = ends_here so_far; text = []; value = so_far; spelled = record { none = refl; is = refl } })
  list_goes so_far (suc left) good = go_in_turn (each so_far left good)
      (λ text x s. (list_goes (so_far ++ x ∷ []) left (kept so_far left 0 text x good s)).reads)
      (λ n text x s. (list_goes (so_far ++ x ∷ []) left (kept so_far left n text x good s)).opens)

-- ---- one element after another, as a loop reads them

pub list_step : {X : Type 0} (item : List X → ℕ → List ℕ → Result (X × List ℕ) Fault) (so_far : List X) (left : ℕ) (bytes : List ℕ) (x : X) (rest : List ℕ) → item so_far left bytes ≡ Ok (x, rest) → list_after item so_far (suc left) bytes ≡ list_after item (so_far ++ x ∷ []) left rest
unfolding list_after
list_step item so_far left bytes x rest e = ap (λ r. r >>= λ y. list_after item (so_far ++ y.0 ∷ []) left y.1) e

pub list_fails : {X : Type 0} (item : List X → ℕ → List ℕ → Result (X × List ℕ) Fault) (so_far : List X) (left : ℕ) (bytes : List ℕ) (stop : Stop) → Fails stop (item so_far left bytes) → Fails stop (list_after item so_far (suc left) bytes)
unfolding list_after
list_fails item so_far left bytes stops.Memory e = tt
list_fails item so_far left bytes (stops.Fault fault) e = ap (λ r. r >>= λ y. list_after item (so_far ++ y.0 ∷ []) left y.1) e

pub list_done : {X : Type 0} (item : List X → ℕ → List ℕ → Result (X × List ℕ) Fault) (so_far : List X) (bytes : List ℕ) → list_after item so_far 0 bytes ≡ Ok (so_far, bytes)
unfolding list_after
list_done item so_far bytes = refl
