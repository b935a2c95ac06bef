-- Fields that stand one after another, read along a shape: the values read, their ranges and their bytes.
use Rattle.std.proofs.Common.{◌≡◌, ◌∙◌, sym, ap, subst, refl, ℕ, ◌^◌, ◌<◌, ◌≤◌, ◌==◌, ◌||◌, Bool, true, false, cond, List, [], ◌∷◌, ◌++◌, length, Result, Ok}
use Rattle.std.specs.Prelude.{IsTrue}
use Rattle.std.specs.Int.{bytes_high_first}
use Rattle.std.proofs.lemmas.Bool.{eqb-true}
use Rattle.std.proofs.lemmas.List.{append-nil}
use Rattle.mds_base.specs.Name.{is_name}
use Rattle.records.specs.declared.fault.Fault.{Fault}
use Rattle.records.specs.Faults.{◌>>=◌}
use Rattle.records.specs.Reading.{byte_where, number_at, name_at}
use Rattle.records.proofs.ToCome.{both_follow}
use Rattle.records.proofs.Decoding.{Follows, follows_here, by_test, same_follows}
use Rattle.records.proofs.Fields.{is_among, byte_reads, number_reads, name_reads}

-- what is read: a byte that passes a test, a number of so many bytes within a range, a name; and how it goes on
pub data Shape (X : Type 0) : Type 0 where
  Done : X → Shape X
  Byte : (test : ℕ → Bool) → (ℕ → Shape X) → Shape X
  Number : (width least most : ℕ) → (ℕ → Shape X) → Shape X
  Name : (List ℕ → Shape X) → Shape X
  If : Bool → Shape X → Shape X → Shape X

abbrev pub shape_at : {X : Type 0} → Shape X → List ℕ → Result (X × List ℕ) Fault
shape_at (Done x) bytes = Ok (x, bytes)
shape_at (Byte test f) bytes = byte_where test bytes >>= λ b. shape_at (f b.0) b.1
shape_at (Number width least most f) bytes = number_at width least most bytes >>= λ n. shape_at (f n.0) n.1
shape_at (Name f) bytes = name_at bytes >>= λ name. shape_at (f name.0) name.1
shape_at (If b s t) bytes = cond b (shape_at s bytes) (shape_at t bytes)

-- one of two, as a test says
abbrev pub pick : {A B C : Type 0} (b : Bool) → (A → C) → (B → C) → cond b A B → C
pick true f g x = f x
pick false f g x = g x

abbrev pub Pick : {A B : Type 0} (b : Bool) → (A → Type 0) → (B → Type 0) → cond b A B → Type 0
Pick true P Q x = P x
Pick false P Q x = Q x

-- the values that are read
abbrev pub Args : {X : Type 0} → Shape X → Type 0
Args (Done x) = Unit {0}
Args (Byte test f) = (b : ℕ) × Args (f b)
Args (Number width least most f) = (n : ℕ) × Args (f n)
Args (Name f) = (name : List ℕ) × Args (f name)
Args (If b s t) = cond b (Args s) (Args t)

abbrev pub Ranged : {X : Type 0} (s : Shape X) → Args s → Type 0
Ranged (Done x) a = Unit {0}
Ranged (Byte test f) a = ((a.0 < 256) × (test a.0 ≡ true)) × Ranged (f a.0) a.1
Ranged (Number width least most f) a = ((least ≤ a.0) × (a.0 ≤ most)) × Ranged (f a.0) a.1
Ranged (Name f) a = IsTrue (is_name a.0) × Ranged (f a.0) a.1
Ranged (If b s t) a = Pick b (Ranged s) (Ranged t) a

-- what is made of them
abbrev pub value_of : {X : Type 0} (s : Shape X) → Args s → X
value_of (Done x) a = x
value_of (Byte test f) a = value_of (f a.0) a.1
value_of (Number width least most f) a = value_of (f a.0) a.1
value_of (Name f) a = value_of (f a.0) a.1
value_of (If b s t) a = pick b (value_of s) (value_of t) a

-- their bytes behind others
abbrev pub joined : {X : Type 0} → List ℕ → (s : Shape X) → Args s → List ℕ
joined front (Done x) a = front
joined front (Byte test f) a = front ++ joined (a.0 ∷ []) (f a.0) a.1
joined front (Number width least most f) a = front ++ joined (bytes_high_first width a.0) (f a.0) a.1
joined front (Name f) a = front ++ joined (length a.0 ∷ a.0) (f a.0) a.1
joined front (If b s t) a = pick b (joined front s) (joined front t) a

abbrev pub text_of : {X : Type 0} (s : Shape X) → Args s → List ℕ
text_of (Done x) a = []
text_of (Byte test f) a = joined (a.0 ∷ []) (f a.0) a.1
text_of (Number width least most f) a = joined (bytes_high_first width a.0) (f a.0) a.1
text_of (Name f) a = joined (length a.0 ∷ a.0) (f a.0) a.1
text_of (If b s t) a = pick b (text_of s) (text_of t) a

-- the bytes spell a value of the shape
pub record Of {X : Type 0} (s : Shape X) (text : List ℕ) (x : X) : Type 0 where
  pub args : Args s
  pub ranged : Ranged s args
  pub text_is : text ≡ text_of s args
  pub value_is : x ≡ value_of s args

-- each test is passed by some byte, and each range has a number
abbrev pub Sound : {X : Type 0} → Shape X → Type 0
Sound (Done x) = Unit {0}
Sound (Byte test f) = ((b : ℕ) × (b < 256) × (test b ≡ true)) × ((b : ℕ) → test b ≡ true → Sound (f b))
Sound (Number width least most f) = (least ≤ most) × (most < 256 ^ width) × ((n : ℕ) → least ≤ n → n ≤ most → Sound (f n))
Sound (Name f) = (name : List ℕ) → IsTrue (is_name name) → Sound (f name)
Sound (If b s t) = (b ≡ true → Sound s) × (b ≡ false → Sound t)

join_pick : {X : Type 0} (b : Bool) (front : List ℕ) (s t : Shape X) → ((a : Args s) → joined front s a ≡ front ++ text_of s a) → ((a : Args t) → joined front t a ≡ front ++ text_of t a)
    → (a : cond b (Args s) (Args t)) → pick b (joined front s) (joined front t) a ≡ front ++ pick b (text_of s) (text_of t) a
join_pick true front s t one other a = one a
join_pick false front s t one other a = other a

pub join_is : {X : Type 0} (front : List ℕ) (s : Shape X) (a : Args s) → joined front s a ≡ front ++ text_of s a
join_is front (Done x) a = sym (append-nil front)
join_is front (Byte test f) a = refl
join_is front (Number width least most f) a = refl
join_is front (Name f) a = refl
join_is front (If b s t) a = join_pick b front s t (join_is front s) (join_is front t) a

-- a value of a choice is one of the shape that is chosen
chosen : {X : Type 0} (b : Bool) (s t : Shape X) (text : List ℕ) (x : X) → cond b (Of s text x) (Of t text x) → Of (If b s t) text x
chosen true s t text x o = record { args = o.args; ranged = o.ranged; text_is = o.text_is; value_is = o.value_is }
chosen false s t text x o = record { args = o.args; ranged = o.ranged; text_is = o.text_is; value_is = o.value_is }

unchosen : {X : Type 0} (b : Bool) (s t : Shape X) (text : List ℕ) (x : X) → Of (If b s t) text x → cond b (Of s text x) (Of t text x)
unchosen true s t text x o = record { args = o.args; ranged = o.ranged; text_is = o.text_is; value_is = o.value_is }
unchosen false s t text x o = record { args = o.args; ranged = o.ranged; text_is = o.text_is; value_is = o.value_is }

-- what is read along a sound shape is read exactly
pub shape_reads : {X : Type 0} (s : Shape X) → Sound s → Follows (Of s) (shape_at s)
shape_reads (Done x) sound = same_follows (λ text y e. record { args = tt; ranged = tt; text_is = e.none; value_is = e.is }) (λ text y o. record { none = o.text_is; is = o.value_is }) (follows_here x)
shape_reads (Byte test f) sound = same_follows
    (λ text y s. record {
      args = (s.value, s.second.args);
      ranged = ((s.first.byte, s.first.passes), s.second.ranged);
      text_is = s.parts ∙ ap (λ (t : List ℕ). t ++ s.back) s.first.text_is ∙ ap (λ (t : List ℕ). s.value ∷ t) s.second.text_is ∙ sym (join_is (s.value ∷ []) (f s.value) s.second.args);
      value_is = s.second.value_is;
    })
    (λ text y o. record {
      front = o.args.0 ∷ [];
      back = text_of (f o.args.0) o.args.1;
      value = o.args.0;
      parts = o.text_is ∙ join_is (o.args.0 ∷ []) (f o.args.0) o.args.1;
      first = record { text_is = refl; byte = o.ranged.0.0; passes = o.ranged.0.1 };
      second = record { args = o.args.1; ranged = o.ranged.1; text_is = refl; value_is = o.value_is };
    })
    (both_follow (byte_reads test sound.0.0 sound.0.1 sound.0.2) (λ text b s. shape_reads (f b) (sound.1 b s.passes)))
shape_reads (Number width least most f) sound = same_follows
    (λ text y s. record {
      args = (s.value, s.second.args);
      ranged = ((s.first.low, s.first.high), s.second.ranged);
      text_is = s.parts ∙ ap (λ (t : List ℕ). t ++ s.back) s.first.text_is ∙ ap (λ (t : List ℕ). bytes_high_first width s.value ++ t) s.second.text_is ∙ sym (join_is (bytes_high_first width s.value) (f s.value) s.second.args);
      value_is = s.second.value_is;
    })
    (λ text y o. record {
      front = bytes_high_first width o.args.0;
      back = text_of (f o.args.0) o.args.1;
      value = o.args.0;
      parts = o.text_is ∙ join_is (bytes_high_first width o.args.0) (f o.args.0) o.args.1;
      first = record { low = o.ranged.0.0; high = o.ranged.0.1; text_is = refl };
      second = record { args = o.args.1; ranged = o.ranged.1; text_is = refl; value_is = o.value_is };
    })
    (both_follow (number_reads least most sound.0 width sound.1) (λ text n s. shape_reads (f n) (sound.2 n s.low s.high)))
shape_reads (Name f) sound = same_follows
    (λ text y s. record {
      args = (s.value, s.second.args);
      ranged = (s.first.named, s.second.ranged);
      text_is = s.parts ∙ ap (λ (t : List ℕ). t ++ s.back) s.first.text_is ∙ ap (λ (t : List ℕ). length s.value ∷ (s.value ++ t)) s.second.text_is ∙ sym (join_is (length s.value ∷ s.value) (f s.value) s.second.args);
      value_is = s.second.value_is;
    })
    (λ text y o. record {
      front = length o.args.0 ∷ o.args.0;
      back = text_of (f o.args.0) o.args.1;
      value = o.args.0;
      parts = o.text_is ∙ join_is (length o.args.0 ∷ o.args.0) (f o.args.0) o.args.1;
      first = record { text_is = refl; named = o.ranged.0 };
      second = record { args = o.args.1; ranged = o.ranged.1; text_is = refl; value_is = o.value_is };
    })
    (both_follow name_reads (λ text name s. shape_reads (f name) (sound name s.named)))
shape_reads (If b s t) sound = same_follows (chosen b s t) (unchosen b s t) (by_test b (λ is. shape_reads s (sound.0 is)) (λ is. shape_reads t (sound.1 is)))

-- what holds of each number of a list holds of one that is among them
abbrev pub AllOf : (ℕ → Type 0) → List ℕ → Type 0
AllOf P [] = Unit {0}
AllOf P (k ∷ ks) = P k × AllOf P ks

pub each_of : (P : ℕ → Type 0) (allowed : List ℕ) → AllOf P allowed → (b : ℕ) → is_among allowed b ≡ true → P b
each_of P [] all b e = absurd cc
each_of P (k ∷ ks) all b e = elim (k == b) as (λ t. (k == b) ≡ t → (t || is_among ks b) ≡ true → P b) [
  | true ↦ λ is rest. subst P (eqb-true k b is) all.0
  | false ↦ λ is rest. each_of P ks all.1 b rest
] refl e
