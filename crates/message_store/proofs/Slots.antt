-- Slots of messages, before and after more was put into the lists that they point into.
use Rattle.std.proofs.Common.{◌≡◌, ◌∙◌, sym, ap, subst, ℕ, ◌<◌, List, [], ◌∷◌, ◌++◌, length, map, get_or, None}
use Rattle.std.specs.List.{AllByRecursion}
use Rattle.std.proofs.lemmas.List.{append-nil}
use Rattle.mds_base.specs.declared.ask.Ask.{Ask}
use Rattle.mds_base.specs.declared.attr.Attr.{Attr}
use Rattle.mds_base.specs.declared.reply.Final.{Final}
use Rattle.mds_base.specs.declared.reply.Final.TheVariants as finals
use Rattle.mds_base.specs.declared.reply.Reply.TheVariants as replies
use Rattle.records.specs.declared.msg.Msg.{Msg}
use Rattle.records.specs.declared.msg.Msg.TheVariants as msgs
use Rattle.message_store.specs.declared.sides.Plain.{Plain}
use Rattle.message_store.specs.declared.sides.Found.{Found}
use Rattle.message_store.specs.declared.sides.Slot.{Slot}
use Rattle.message_store.specs.declared.sides.Slot.TheVariants as slots
use Rattle.message_store.specs.Calls.{CallV, call_of, ask_of, no_call, IsCallOf}
use Rattle.message_store.specs.Messages.{SidesV, final_by, reply_in, no_found, no_msg, answer_to, call_at, shown, IsIn, Grows, IsPut}
use Rattle.message_store.proofs.Dense.{still_push, same_push}
use Rattle.message_store.proofs.Lists.{last, last_there, there, same_at}

module _ (old new : SidesV) (grows : Grows old new) where
  same_call : (row : ℕ) → row < length old.calls → call_at new row ≡ call_at old row
  same_call row below = same_at old.calls new.calls grows.calls no_call row grows.calls' below

  -- a slot shows what it did
  pub same_slot : (slot : Slot) → IsIn old slot → shown new slot ≡ shown old slot
  same_slot (slots.Request server attempt row) is = ap (λ c. msgs.Request server (ask_of c attempt) None) (same_call row is)
  same_slot (slots.Said said attempt row) is = ap (λ c. answer_to c attempt (replies.Said (final_by said))) (same_call row is)
  same_slot (slots.Directory attempt row at) is = (λ i. answer_to (same_call row is.0 i) attempt
      (replies.Said (finals.CreatedDir (same_at old.numbers new.numbers grows.numbers 0 at grows.numbers' is.1 i))))
  same_slot (slots.Found attempt row at) is = (λ i. answer_to (same_call row is.0 i) attempt
      (reply_in (same_at old.founds new.founds grows.founds no_found at grows.founds' is.1 i)))
  same_slot (slots.Whole at) is = same_at old.whole new.whole grows.whole no_msg at grows.whole' is

  pub still_slot : (slot : Slot) → IsIn old slot → IsIn new slot
  still_slot (slots.Request server attempt row) is = there old.calls new.calls grows.calls row grows.calls' is
  still_slot (slots.Said said attempt row) is = there old.calls new.calls grows.calls row grows.calls' is
  still_slot (slots.Directory attempt row at) is =
      (there old.calls new.calls grows.calls row grows.calls' is.0, there old.numbers new.numbers grows.numbers at grows.numbers' is.1)
  still_slot (slots.Found attempt row at) is =
      (there old.calls new.calls grows.calls row grows.calls' is.0, there old.founds new.founds grows.founds at grows.founds' is.1)
  still_slot (slots.Whole at) is = there old.whole new.whole grows.whole at grows.whole' is

-- one slot more
module _ (old new : SidesV) (list list_new : List Slot) (msg : Msg) (slot : Slot) (put : IsPut old new slot msg)
    (pushed : list_new ≡ list ++ slot ∷ []) (within : AllByRecursion (IsIn old) list) where
  pub slots_within : AllByRecursion (IsIn new) list_new
  slots_within =
      still_push (shown old) (shown new) (IsIn old) (IsIn new) (same_slot old new put.grows) (still_slot old new put.grows)
      list list_new slot pushed within put.within

  pub slots_shown : (was : List Msg) → map (shown old) list ≡ was → map (shown new) list_new ≡ was ++ msg ∷ []
  slots_shown was is =
      same_push (shown old) (shown new) (IsIn old) (IsIn new) (same_slot old new put.grows) (still_slot old new put.grows)
      list list_new slot was msg pushed within is put.shows

-- ---- what is put

none : {X : Type 0} (xs : List X) → xs ≡ xs ++ []
none xs = sym (append-nil xs)

of_was : (was old : SidesV) → was ≡ old → (row client seq : ℕ) → IsCallOf old.calls row client seq → IsCallOf was.calls row client seq
of_was was old is row client seq call = subst (λ o. IsCallOf o.calls row client seq) (sym is) call

to_old : (was old : SidesV) → was ≡ old → (new : SidesV) (slot : Slot) (msg : Msg) → IsPut was new slot msg → IsPut old new slot msg
to_old was old is new slot msg put = subst (λ o. IsPut o new slot msg) is put

pub request_put : (was old : SidesV) → was ≡ old → (calls_new : List CallV) (server row : ℕ) (ask : Ask) → row ≡ length was.calls → calls_new ≡ was.calls ++ call_of ask ∷ []
    → IsPut old (record was { calls = calls_new }) (slots.Request server ask.attempt row) (msgs.Request server ask None)
request_put was old same calls_new server row ask here more =
    to_old was old same (record was { calls = calls_new }) (slots.Request server ask.attempt row) (msgs.Request server ask None)
    (record {
      grows = record {
        calls = call_of ask ∷ [];
        numbers = [];
        founds = [];
        whole = [];
        calls' = more;
        numbers' = none was.numbers;
        founds' = none was.founds;
        whole' = none was.whole;
      };
      shows = ap (λ c. msgs.Request server (ask_of c ask.attempt) None) (last was.calls calls_new (call_of ask) no_call row here more);
      within = last_there was.calls calls_new (call_of ask) row here more;
    })

pub said_put : (old : SidesV) (row client seq attempt : ℕ) (plain : Plain) (said : Final) → IsCallOf old.calls row client seq → final_by plain ≡ said
    → IsPut old old (slots.Said plain attempt row) (msgs.Answer client seq attempt (replies.Said said))
said_put old row client seq attempt plain said is same =
    record {
      grows = record {
        calls = [];
        numbers = [];
        founds = [];
        whole = [];
        calls' = none old.calls;
        numbers' = none old.numbers;
        founds' = none old.founds;
        whole' = none old.whole;
      };
      shows = (λ i. msgs.Answer (is.client' i) (is.seq' i) attempt (replies.Said (same i)));
      within = is.there;
    }

pub number_put : (was old : SidesV) → was ≡ old → (numbers_new : List ℕ) (row client seq attempt number at : ℕ) → IsCallOf old.calls row client seq
    → at ≡ length was.numbers → numbers_new ≡ was.numbers ++ number ∷ []
    → IsPut old (record was { numbers = numbers_new }) (slots.Directory attempt row at) (msgs.Answer client seq attempt (replies.Said (finals.CreatedDir number)))
number_put was old same numbers_new row client seq attempt number at call here more =
    let is = of_was was old same row client seq call in
    to_old was old same (record was { numbers = numbers_new }) (slots.Directory attempt row at) (msgs.Answer client seq attempt (replies.Said (finals.CreatedDir number)))
    (record {
      grows = record {
        calls = [];
        numbers = number ∷ [];
        founds = [];
        whole = [];
        calls' = none was.calls;
        numbers' = more;
        founds' = none was.founds;
        whole' = none was.whole;
      };
      shows = (λ i. msgs.Answer (is.client' i) (is.seq' i) attempt (replies.Said (finals.CreatedDir (last was.numbers numbers_new number 0 at here more i))));
      within = (is.there, last_there was.numbers numbers_new number at here more);
    })

abbrev pub found_of : Attr → ℕ → Found
found_of attr until = record { dir = attr.dir; size = attr.size; until = until; mode = attr.mode; owner = attr.owner }

pub found_put : (was old : SidesV) → was ≡ old → (founds_new : List Found) (row client seq attempt : ℕ) (attr : Attr) (until at : ℕ) → IsCallOf old.calls row client seq
    → attr.mtime ≡ 0 → at ≡ length was.founds → founds_new ≡ was.founds ++ found_of attr until ∷ []
    → IsPut old (record was { founds = founds_new }) (slots.Found attempt row at) (msgs.Answer client seq attempt (replies.Found attr until))
found_put was old same founds_new row client seq attempt attr until at call unmodified here more =
    let is = of_was was old same row client seq call in
    let said : reply_in (get_or founds_new at no_found) ≡ replies.Found attr until =
    ap reply_in (last was.founds founds_new (found_of attr until) no_found at here more)
    ∙ ap (λ m. replies.Found (record { dir = attr.dir; mode = attr.mode; size = attr.size; owner = attr.owner; mtime = m }) until) (sym unmodified) in
    to_old was old same (record was { founds = founds_new }) (slots.Found attempt row at) (msgs.Answer client seq attempt (replies.Found attr until))
    (record {
      grows = record {
        calls = [];
        numbers = [];
        founds = found_of attr until ∷ [];
        whole = [];
        calls' = none was.calls;
        numbers' = none was.numbers;
        founds' = more;
        whole' = none was.whole;
      };
      shows = (λ i. msgs.Answer (is.client' i) (is.seq' i) attempt (said i));
      within = (is.there, last_there was.founds founds_new (found_of attr until) at here more);
    })

pub whole_put : (was old : SidesV) → was ≡ old → (whole_new : List Msg) (msg : Msg) (at : ℕ) → at ≡ length was.whole → whole_new ≡ was.whole ++ msg ∷ []
    → IsPut old (record was { whole = whole_new }) (slots.Whole at) msg
whole_put was old same whole_new msg at here more =
    to_old was old same (record was { whole = whole_new }) (slots.Whole at) msg
    (record {
      grows = record {
        calls = [];
        numbers = [];
        founds = [];
        whole = msg ∷ [];
        calls' = none was.calls;
        numbers' = none was.numbers;
        founds' = none was.founds;
        whole' = more;
      };
      shows = last was.whole whole_new msg no_msg at here more;
      within = last_there was.whole whole_new msg at here more;
    })
