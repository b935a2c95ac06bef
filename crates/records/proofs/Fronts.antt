-- What the bytes begin with: a spelling, a part of one, or neither; and what reading them gives then.
use Rattle.std.proofs.Common.{◌≡◌, ◌∙◌, sym, ap, subst, ℕ, ◌+◌, ◌-◌, ◌<◌, ◌≤◌, List, [], ◌∷◌, ◌++◌, append_assoc, length, take, drop, arith, Result, Ok, Err, inl, inr}
use Rattle.std.proofs.lemmas.Bool.{cases_lt}
use Rattle.std.proofs.lemmas.List.{append-nil, length-append, take_at, take-append-drop, take_all, take-take}
use Rattle.records.specs.declared.fault.Fault.{Fault}
use Rattle.records.specs.declared.fault.Fault.TheVariants.{Short, Bad}
use Rattle.records.specs.declared.fault.Stop.{Stop}
use Rattle.records.specs.declared.fault.Stop.TheVariants as stops
use Rattle.records.specs.declared.record.Record.{Record}
use Rattle.records.specs.Faults.{Fails}
use Rattle.records.specs.Spelling.{SpellsBut, Spells, IsBegun, IsBadAt}
use Rattle.records.specs.ReadingRecords.{record_at}
use Rattle.records.proofs.Decoding.{IsBytes, same_ok, not_both}
use Rattle.records.proofs.ToCome.{Reads, Waits, bytes_before}
use Rattle.records.proofs.Records.{record_reads, record_waits}

abbrev reads : Reads SpellsBut record_at
reads = record_reads

abbrev waits : Waits SpellsBut
waits = record_waits

-- bytes spell one record, and no spelling is a proper prefix of another
pub no_prefix : (bytes more : List ℕ) (a b : Record) → Spells bytes a → Spells (bytes ++ more) b → (more ≡ []) × (a ≡ b)
no_prefix bytes more a b first second =
    let short = reads.again bytes a more first in
    let long : record_at (bytes ++ more) ≡ Ok (b, []) = ap record_at (sym (append-nil (bytes ++ more))) ∙ reads.again (bytes ++ more) b [] second in
    let same = same_ok (record_at (bytes ++ more)) (a, more) (b, []) short long in
    (ap (λ (p : Record × List ℕ). p.1) same, ap (λ (p : Record × List ℕ). p.0) same)

-- the record that was read, and the length of its spelling
pub record Front (bytes : List ℕ) (item : Record) (rest : List ℕ) : Type 0 where
  pub shorter : length rest ≤ length bytes
  pub spelled : Spells (take (length bytes - length rest) bytes) item

pub front_found : (bytes : List ℕ) (item : Record) (rest : List ℕ) → IsBytes bytes → record_at bytes ≡ Ok (item, rest) → Front bytes item rest
front_found bytes item rest fits e =
    let t = reads.found bytes item rest fits e in
    let long = ap length t.parts ∙ length-append t.text rest in
    let count : length t.text ≡ length bytes - length rest = omega arith in
    let front : take (length bytes - length rest) bytes ≡ t.text = ap (take (length bytes - length rest)) t.parts ∙ take_at t.text rest (length bytes - length rest) count in
    record { shorter = omega arith; spelled = subst (λ (u : List ℕ). Spells u item) (sym front) t.spelled }

pub front_read : (bytes : List ℕ) (len : ℕ) (item : Record) → Spells (take len bytes) item → record_at bytes ≡ Ok (item, drop len bytes)
front_read bytes len item s = ap record_at (sym (take-append-drop len bytes)) ∙ reads.again (take len bytes) item (drop len bytes) s

pub begun_found : (bytes : List ℕ) → IsBytes bytes → record_at bytes ≡ Err Short → IsBegun bytes
begun_found bytes fits e = let b = reads.short bytes fits e in (b.more, b.value, b.some, b.spelled)

pub begun_read : (bytes : List ℕ) → IsBytes bytes → IsBegun bytes → record_at bytes ≡ Err Short
begun_read bytes fits begun = reads.cut bytes begun.0 begun.1 fits begun.2 begun.3

-- the byte that was refused, and its place
pub record Refused (bytes : List ℕ) (left : ℕ) : Type 0 where
  pub within : left ≤ length bytes
  pub bad : IsBadAt bytes (length bytes - left)

pub bad_found : (bytes : List ℕ) (left : ℕ) → IsBytes bytes → record_at bytes ≡ Err (Bad left) → Refused bytes left
bad_found bytes left fits e =
    let r = reads.bad bytes left fits e in
    let long = ap length r.parts ∙ length-append r.front (r.byte ∷ r.rest) in
    let left_is = r.left_is in
    let place : length r.front ≡ length bytes - left = omega arith in
    let front : take (length bytes - left) bytes ≡ r.front = ap (take (length bytes - left)) r.parts ∙ take_at r.front (r.byte ∷ r.rest) (length bytes - left) place in
    let parts : bytes ≡ (r.front ++ r.byte ∷ []) ++ r.rest = r.parts ∙ sym (append_assoc r.front (r.byte ∷ []) r.rest) in
    let one_more : length (r.front ++ r.byte ∷ []) ≡ length bytes - left + 1 = omega (arith, length-append r.front (r.byte ∷ [])) in
    let byte : take (length bytes - left + 1) bytes ≡ r.front ++ r.byte ∷ [] = ap (take (length bytes - left + 1)) parts ∙ take_at (r.front ++ r.byte ∷ []) r.rest (length bytes - left + 1) one_more in
    record {
      within = omega arith;
      bad = record {
        within = omega arith;
        before = subst IsBegun (sym front) (r.started.more, r.started.value, r.started.some, r.started.spelled);
        after = λ more item s. r.never more item (subst (λ (u : List ℕ). SpellsBut (length more) u item) (ap (λ (u : List ℕ). u ++ more) byte ∙ append_assoc r.front (r.byte ∷ []) more) s);
      };
    }

-- a longer front of the bytes is a shorter one with more bytes
front_of_front : (bytes : List ℕ) (m n : ℕ) → m ≤ n → (between : List ℕ) × (take n bytes ≡ take m bytes ++ between)
front_of_front bytes m n le =
    let same : take m (take n bytes) ≡ take m bytes = take-take m n bytes le in
    (drop m (take n bytes), sym (take-append-drop m (take n bytes)) ∙ ap (λ (u : List ℕ). u ++ drop m (take n bytes)) same)

-- a bad place is before no other place up to which a spelling begins
bad_first : (bytes : List ℕ) (place further : ℕ) → IsBadAt bytes place → place < further → (more : List ℕ) (item : Record) → SpellsBut (length more) (take further bytes ++ more) item → ⊥
bad_first bytes place further bad lt more item s =
    let f = front_of_front bytes (place + 1) further (omega arith) in
    let longer = length-append f.0 more in
    let loose = waits.looser (length more) (length (f.0 ++ more)) (take further bytes ++ more) item (omega arith) s in
    bad.after (f.0 ++ more) item (subst (λ (u : List ℕ). SpellsBut (length (f.0 ++ more)) u item) (ap (λ (u : List ℕ). u ++ more) f.1 ∙ append_assoc (take (place + 1) bytes) f.0 more) loose)

pub one_bad : (bytes : List ℕ) (a b : ℕ) → IsBadAt bytes a → IsBadAt bytes b → a ≡ b
one_bad bytes a b first second = elim (cases_lt a b) [
  | inl lt ↦ let s = second.before in absurd (bad_first bytes a b first lt s.0 s.1 s.3)
  | inr le ↦ elim (cases_lt b a) [
    | inl gt ↦ let s = first.before in absurd (bad_first bytes b a second gt s.0 s.1 s.3)
    | inr ge ↦ omega arith
  ]
]

-- no record is read, and none is cut short, where a place is bad
pub bad_no_record : (bytes : List ℕ) (place : ℕ) (item : Record) (rest : List ℕ) → IsBytes bytes → IsBadAt bytes place → record_at bytes ≡ Ok (item, rest) → ⊥
bad_no_record bytes place item rest fits bad e =
    let f = front_found bytes item rest fits e in
    let len = length bytes - length rest in
    elim (cases_lt place len) [
      | inl lt ↦ bad_first bytes place len bad lt [] item (subst (λ (u : List ℕ). Spells u item) (sym (append-nil (take len bytes))) f.spelled)
      | inr le ↦
          let g = front_of_front bytes len place le in
          let b = bad.before in
          let fits_front = bytes_before (take place bytes) (drop place bytes) (subst IsBytes (sym (take-append-drop place bytes)) fits) in
          let short = reads.cut (take place bytes) b.0 b.1 fits_front b.2 b.3 in
          let whole : record_at (take place bytes) ≡ Ok (item, g.0) = ap record_at g.1 ∙ reads.again (take len bytes) item g.0 f.spelled in
          not_both (record_at (take place bytes)) (item, g.0) Short whole short
    ]

pub bad_not_short : (bytes : List ℕ) (place : ℕ) → IsBytes bytes → IsBadAt bytes place → record_at bytes ≡ Err Short → ⊥
bad_not_short bytes place fits bad e =
    let b = reads.short bytes fits e in
    let all : take (length bytes) bytes ≡ bytes = take_all (length bytes) bytes (omega arith) in
    bad_first bytes place (length bytes) bad bad.within b.more b.value (subst (λ (u : List ℕ). SpellsBut (length b.more) (u ++ b.more) b.value) (sym all) b.spelled)

-- what a reader that stopped at a fault was to read
pub stopped_at : {Y : Type 0} (stop : Stop) (inner fault : Fault) (r : Result Y Fault) → Fails stop r → stop ≡ stops.Fault inner → inner ≡ fault → r ≡ Err fault
stopped_at stop inner fault r fails outer is = let P : Stop → Type 0 = λ s. Fails s r in subst (λ (e : Fault). r ≡ Err e) is (subst P outer fails)
