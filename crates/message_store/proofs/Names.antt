-- Names among bytes, before and after more bytes were put behind.
use Rattle.std.proofs.Common.{◌≡◌, ◌∙◌, sym, ap, subst, ℕ, ◌+◌, ◌≤◌, List, [], ◌∷◌, ◌++◌, length, length-append, map, take, drop, None, IsTrue, arith}
use Rattle.std.specs.List.{AllByRecursion}
use Rattle.std.proofs.lemmas.List.{length-drop, take-append-le, take_all, drop-append-le, drop_all}
use Rattle.mds_base.specs.Name.{is_name}
use Rattle.mds_base.specs.declared.call.Call.TheVariants as calls
use Rattle.message_store.specs.declared.calls.Verb.{Verb}
use Rattle.message_store.specs.declared.calls.CallSlot.{CallSlot}
use Rattle.message_store.specs.declared.calls.CallSlot.TheVariants as slots
use Rattle.message_store.specs.declared.calls.CallRow.{CallRow}
use Rattle.message_store.specs.Calls.{name_in, IsNameIn, named_call, call_in, IsCallIn, CallV, row_in, IsRowIn, IsCallPut}
use Rattle.message_store.proofs.Dense.{still_push, same_push}

-- bytes at an offset are the same where more stand behind them
same_bytes : (bytes more : List ℕ) (at len : ℕ) → at + len ≤ length bytes → name_in (bytes ++ more) at len ≡ name_in bytes at len
same_bytes bytes more at len within =
    ap (take len) (drop-append-le at bytes more (omega (arith, within)))
    ∙ take-append-le len (drop at bytes) more (omega (arith, within, length-drop at bytes))

-- and those that were put behind stand there
new_bytes : (bytes more : List ℕ) → name_in (bytes ++ more) (length bytes) (length more) ≡ more
new_bytes bytes more =
    ap (take (length more)) (drop-append-le (length bytes) bytes more (omega arith) ∙ ap (λ l. l ++ more) (drop_all (length bytes) bytes (omega arith)))
    ∙ take_all (length more) more (omega arith)

module _ (bytes bytes_new more : List ℕ) (grows : bytes_new ≡ bytes ++ more) where
  same_name : (at len : ℕ) → IsNameIn bytes at len → name_in bytes_new at len ≡ name_in bytes at len
  same_name at len is = ap (λ l. name_in l at len) grows ∙ same_bytes bytes more at len is.within

  still_name : (at len : ℕ) → IsNameIn bytes at len → IsNameIn bytes_new at len
  still_name at len is =
      record {
        within = omega (arith, is.within, ap length grows, length-append bytes more);
        named = subst (λ l. IsTrue (is_name l)) (sym (same_name at len is)) is.named;
      }

  same_call : (slot : CallSlot) → IsCallIn bytes slot → call_in bytes_new slot ≡ call_in bytes slot
  same_call (slots.Named verb len at dir) is = ap (named_call verb dir) (same_name at len is)
  same_call (slots.Setattr len mode at dir size) is = ap (λ name. calls.Setattr dir name mode size None) (same_name at len is)

  still_call : (slot : CallSlot) → IsCallIn bytes slot → IsCallIn bytes_new slot
  still_call (slots.Named verb len at dir) is = still_name at len is
  still_call (slots.Setattr len mode at dir size) is = still_name at len is

  -- a row shows what it did
  same_row : (row : CallRow) → IsRowIn bytes row → row_in bytes_new row ≡ row_in bytes row
  same_row row is = ap (λ call. record { client = row.client; seq = row.seq; call = call }) (same_call row.slot is)

  still_row : (row : CallRow) → IsRowIn bytes row → IsRowIn bytes_new row
  still_row row is = still_call row.slot is

-- one row more
module _ (bytes bytes_new : List ℕ) (rows rows_new : List CallRow) (call : CallV) (row : CallRow)
    (put : IsCallPut bytes bytes_new row.slot call.call) (pushed : rows_new ≡ rows ++ row ∷ []) (within : AllByRecursion (IsRowIn bytes) rows) where
  pub rows_within : AllByRecursion (IsRowIn bytes_new) rows_new
  rows_within =
      still_push (row_in bytes) (row_in bytes_new) (IsRowIn bytes) (IsRowIn bytes_new)
      (same_row bytes bytes_new put.more put.grows) (still_row bytes bytes_new put.more put.grows) rows rows_new row pushed within put.within

  pub rows_shown : (old : List CallV) → map (row_in bytes) rows ≡ old → row.client ≡ call.client → row.seq ≡ call.seq
      → map (row_in bytes_new) rows_new ≡ old ++ call ∷ []
  rows_shown old is client seq =
      same_push (row_in bytes) (row_in bytes_new) (IsRowIn bytes) (IsRowIn bytes_new)
      (same_row bytes bytes_new put.more put.grows) (still_row bytes bytes_new put.more put.grows) rows rows_new row old call pushed within is
      (λ i. record { client = client i; seq = seq i; call = put.shows i })

-- ---- what is put

name_put : (bytes bytes_new name : List ℕ) → bytes_new ≡ bytes ++ name → name_in bytes_new (length bytes) (length name) ≡ name
name_put bytes bytes_new name is = ap (λ l. name_in l (length bytes) (length name)) is ∙ new_bytes bytes name

name_within : (bytes bytes_new name : List ℕ) → bytes_new ≡ bytes ++ name → IsTrue (is_name name) → IsNameIn bytes_new (length bytes) (length name)
name_within bytes bytes_new name is named =
    record {
      within = omega (arith, ap length is, length-append bytes name);
      named = subst (λ l. IsTrue (is_name l)) (sym (name_put bytes bytes_new name is)) named;
    }

pub named_put : (bytes bytes_new name : List ℕ) (verb : Verb) (dir : ℕ) → bytes_new ≡ bytes ++ name → IsTrue (is_name name)
    → IsCallPut bytes bytes_new (slots.Named verb (length name) (length bytes) dir) (named_call verb dir name)
named_put bytes bytes_new name verb dir is named =
    record {
      more = name;
      grows = is;
      shows = ap (named_call verb dir) (name_put bytes bytes_new name is);
      within = name_within bytes bytes_new name is named;
    }

pub setattr_put : (bytes bytes_new name : List ℕ) (dir mode size : ℕ) → bytes_new ≡ bytes ++ name → IsTrue (is_name name)
    → IsCallPut bytes bytes_new (slots.Setattr (length name) mode (length bytes) dir size) (calls.Setattr dir name mode size None)
setattr_put bytes bytes_new name dir mode size is named =
    record {
      more = name;
      grows = is;
      shows = ap (λ n. calls.Setattr dir n mode size None) (name_put bytes bytes_new name is);
      within = name_within bytes bytes_new name is named;
    }
