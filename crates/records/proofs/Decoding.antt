-- What it is to read a grammar exactly.
use Rattle.std.proofs.Common.{◌≡◌, ◌∙◌, sym, ap, refl, ℕ, suc, ◌<◌, ◌≤◌, Bool, true, false, cond, List, [], ◌∷◌, ◌++◌, length, get_or, arith, Result, Ok, Err, inl, inr, ◌⊎◌}
use Rattle.records.specs.declared.fault.Fault.{Fault}
use Rattle.records.specs.declared.fault.Fault.TheVariants.{Short, Bad}
use Rattle.records.specs.Faults.{◌>>=◌}

-- a reader: what stands at the front of the bytes and the bytes after it, or the first fault
abbrev pub Reader : Type 0 → Type 0
Reader X = List ℕ → Result (X × List ℕ) Fault

-- a grammar: which bytes spell which values
abbrev pub Grammar : Type 0 → Type 1
Grammar X = List ℕ → X → Type 0

abbrev pub IsBytes : List ℕ → Type 0
IsBytes bytes = (i : ℕ) → get_or bytes i 0 < 256

-- the bytes are a proper prefix of some spelling
pub record Begun {X : Type 0} (G : List ℕ → X → Type 0) (bytes : List ℕ) : Type 0 where
  pub more : List ℕ
  pub value : X
  pub some : 0 < length more
  pub spelled : G (bytes ++ more) value

-- the bytes begin with the spelling of a value
pub record Takes {X : Type 0} (G : List ℕ → X → Type 0) (bytes : List ℕ) (value : X) (rest : List ℕ) : Type 0 where
  pub text : List ℕ
  pub parts : bytes ≡ text ++ rest
  pub spelled : G text value

-- a byte, with so many bytes from it on, is the first after which no spelling can follow
pub record Refuses {X : Type 0} (G : List ℕ → X → Type 0) (bytes : List ℕ) (left : ℕ) : Type 0 where
  pub front : List ℕ
  pub byte : ℕ
  pub rest : List ℕ
  pub parts : bytes ≡ front ++ byte ∷ rest
  pub left_is : left ≡ suc (length rest)
  pub begun : Begun G front
  pub never : (more : List ℕ) (value : X) → G (front ++ byte ∷ more) value → ⊥

-- the reader reads the grammar exactly
pub record Decodes {X : Type 0} (G : List ℕ → X → Type 0) (f : List ℕ → Result (X × List ℕ) Fault) : Type 0 where
  pub found : (bytes : List ℕ) (value : X) (rest : List ℕ) → IsBytes bytes → f bytes ≡ Ok (value, rest) → Takes G bytes value rest
  pub again : (text : List ℕ) (value : X) (rest : List ℕ) → G text value → f (text ++ rest) ≡ Ok (value, rest)
  pub short : (bytes : List ℕ) → IsBytes bytes → f bytes ≡ Err Short → Begun G bytes
  pub bad : (bytes : List ℕ) (left : ℕ) → IsBytes bytes → f bytes ≡ Err (Bad left) → Refuses G bytes left

-- a reader of a grammar that is not empty
pub record Follows {X : Type 0} (G : List ℕ → X → Type 0) (f : List ℕ → Result (X × List ℕ) Fault) : Type 0 where
  pub decodes : Decodes G f
  pub text : List ℕ
  pub value : X
  pub spelled : G text value

-- ---- lists and results

abbrev pub done : {A : Type 0} → A → Result A Fault
done x = Ok x

abbrev pub failed : {A : Type 0} → Fault → Result A Fault
failed e = Err e

pub same_ok : {A : Type 0} (r : Result A Fault) (x y : A) → r ≡ Ok x → r ≡ Ok y → x ≡ y
same_ok r x y p q = let e : done x ≡ done y = sym p ∙ q in cc

pub not_both : {A : Type 0} (r : Result A Fault) (x : A) (e : Fault) → r ≡ Ok x → r ≡ Err e → ⊥
not_both r x e p q = let e : done x ≡ failed e = sym p ∙ q in cc

-- a step that did not fail
pub record Stepped {A B : Type 0} (r : Result A Fault) (f : A → Result B Fault) (end : Result B Fault) : Type 0 where
  pub value : A
  pub first : r ≡ Ok value
  pub second : f value ≡ end

pub bind_ok : {A B : Type 0} (r : Result A Fault) (f : A → Result B Fault) (y : B) → (r >>= f) ≡ Ok y → Stepped r f (Ok y)
bind_ok (Ok x) f y e = record { value = x; first = refl; second = e }
bind_ok (Err d) f y e = absurd cc

pub bind_err : {A B : Type 0} (r : Result A Fault) (f : A → Result B Fault) (d : Fault) → (r >>= f) ≡ Err d → (r ≡ Err d) ⊎ Stepped r f (Err d)
bind_err (Ok x) f d e = inr (record { value = x; first = refl; second = e })
bind_err (Err c) f d e = inl cc

-- where one list splits in two ways, the shorter front begins the longer one
pub record Splits (a b c d : List ℕ) : Type 0 where
  pub between : List ℕ
  pub front : c ≡ a ++ between
  pub back : b ≡ between ++ d

pub split_front : (a b c d : List ℕ) → a ++ b ≡ c ++ d → length a ≤ length c → Splits a b c d
split_front [] b c d e le = record { between = c; front = refl; back = e }
split_front (x ∷ a) b [] d e le = absurd (omega arith)
split_front (x ∷ a) b (y ∷ c) d e le =
    let tails : a ++ b ≡ c ++ d = cc in
    let heads : y ≡ x = cc in
    let s = split_front a b c d tails (omega arith) in
    record { between = s.between; front = ap (λ (t : List ℕ). y ∷ t) s.front ∙ ap (λ (n : ℕ). n ∷ (a ++ s.between)) heads; back = s.back }

pub bytes_after : (text rest : List ℕ) → IsBytes (text ++ rest) → IsBytes rest
bytes_after [] rest fits = fits
bytes_after (b ∷ text) rest fits = bytes_after text rest (λ i. fits (suc i))

-- the spelling of one value, and after it the spelling of a second
pub record Seq {X Y : Type 0} (G : List ℕ → X → Type 0) (H : X → List ℕ → Y → Type 0) (text : List ℕ) (end : Y) : Type 0 where
  pub front : List ℕ
  pub back : List ℕ
  pub value : X
  pub parts : text ≡ front ++ back
  pub first : G front value
  pub second : H value back end

-- ---- the end, a choice, and another word for a grammar

-- nothing is left to read
pub record Ends {X : Type 0} (value : X) (text : List ℕ) (end : X) : Type 0 where
  pub none : text ≡ []
  pub is : end ≡ value

pub ends_here : {X : Type 0} (value : X) → Decodes (Ends value) (λ bytes. Ok (value, bytes))
ends_here {X} value = record {
  found = λ bytes x rest fits e. let same : ◌≡◌ {A = X × List ℕ} (value, bytes) (x, rest) = cc in record { text = []; parts = ap (λ (p : X × List ℕ). p.1) same; spelled = record { none = refl; is = ap (λ (p : X × List ℕ). p.0) (sym same) } };
  again = λ text x rest s. rw (s.none, s.is) refl;
  short = λ bytes fits e. absurd cc;
  bad = λ bytes left fits e. absurd cc;
}

pub follows_here : {X : Type 0} (value : X) → Follows (Ends value) (λ bytes. Ok (value, bytes))
follows_here value = record { decodes = ends_here value; text = []; value = value; spelled = record { none = refl; is = refl } }

pub same_grammar : {X : Type 0} {G K : List ℕ → X → Type 0} {f : List ℕ → Result (X × List ℕ) Fault} → ((text : List ℕ) (x : X) → G text x → K text x) → ((text : List ℕ) (x : X) → K text x → G text x) → Decodes G f → Decodes K f
same_grammar there back d = record {
  found = λ bytes x rest fits e. let t = d.found bytes x rest fits e in record { text = t.text; parts = t.parts; spelled = there t.text x t.spelled };
  again = λ text x rest s. d.again text x rest (back text x s);
  short = λ bytes fits e. let b = d.short bytes fits e in record { more = b.more; value = b.value; some = b.some; spelled = there (bytes ++ b.more) b.value b.spelled };
  bad = λ bytes left fits e. let r = d.bad bytes left fits e in record { front = r.front; byte = r.byte; rest = r.rest; parts = r.parts; left_is = r.left_is; begun = record { more = r.begun.more; value = r.begun.value; some = r.begun.some; spelled = there (r.front ++ r.begun.more) r.begun.value r.begun.spelled }; never = λ more x s. r.never more x (back (r.front ++ r.byte ∷ more) x s) };
}

pub by_test : {X : Type 0} {G K : List ℕ → X → Type 0} {f g : List ℕ → Result (X × List ℕ) Fault} (b : Bool) → (b ≡ true → Follows G f) → (b ≡ false → Follows K g) → Follows (λ text x. cond b (G text x) (K text x)) (λ bytes. cond b (f bytes) (g bytes))
by_test true on off = record { decodes = (on refl).decodes; text = (on refl).text; value = (on refl).value; spelled = (on refl).spelled }
by_test false on off = record { decodes = (off refl).decodes; text = (off refl).text; value = (off refl).value; spelled = (off refl).spelled }

pub same_follows : {X : Type 0} {G K : List ℕ → X → Type 0} {f : List ℕ → Result (X × List ℕ) Fault} → ((text : List ℕ) (x : X) → G text x → K text x) → ((text : List ℕ) (x : X) → K text x → G text x) → Follows G f → Follows K f
same_follows there back one = record { decodes = same_grammar there back one.decodes; text = one.text; value = one.value; spelled = there one.text one.value one.spelled }
