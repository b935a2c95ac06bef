-- Slots of entries, before and after more messages and entries were put behind.
use Rattle.std.proofs.Common.{◌≡◌, ◌∙◌, sym, ap, ℕ, ◌<◌, ◌≤◌, List, [], ◌∷◌, ◌++◌, length, length-append, map, get_or, arith}
use Rattle.std.proofs.lemmas.List.{append-nil, get_or-append-add}
use Rattle.std.proofs.Math.Seq.{get_or-append_seam}
use Rattle.std.specs.List.{AllByRecursion}
use Rattle.mds_base.specs.declared.reply.Final.TheVariants as finals
use Rattle.records.specs.declared.msg.Msg.{Msg}
use Rattle.message_store.specs.declared.made.Made.{Made}
use Rattle.message_store.specs.declared.pairs.MadeSlot.{MadeSlot}
use Rattle.message_store.specs.declared.pairs.MadeSlot.TheVariants as slots
use Rattle.message_store.specs.Messages.{final_by, message_at, no_msg}
use Rattle.message_store.specs.Made.{made_in, IsMadeIn, IsMade, IsAdded, MessagesV, change_by, lookup_by, no_made}
use Rattle.message_store.proofs.Dense.{still_push, same_push, same_all, still_all}
use Rattle.message_store.proofs.Lists.{last_there, there, same_at}

module _ (sent sent_new more : List Msg) (whole whole_new extra : List Made) (sends : sent_new ≡ sent ++ more) (adds : whole_new ≡ whole ++ extra) where
  same_made : (slot : MadeSlot) → IsMadeIn sent whole slot → made_in sent_new whole_new slot ≡ made_in sent whole slot
  same_made (slots.Change said request) is = ap (λ m. change_by m (final_by said)) (same_at sent sent_new more no_msg request sends is)
  same_made (slots.Directory request number) is = ap (λ m. change_by m (finals.CreatedDir number)) (same_at sent sent_new more no_msg request sends is)
  same_made (slots.Lookup request answer) is =
      (λ i. lookup_by (same_at sent sent_new more no_msg request sends is.0 i) (same_at sent sent_new more no_msg answer sends is.1 i) answer)
  same_made (slots.Whole at) is = same_at whole whole_new extra no_made at adds is

  still_made : (slot : MadeSlot) → IsMadeIn sent whole slot → IsMadeIn sent_new whole_new slot
  still_made (slots.Change said request) is = there sent sent_new more request sends is
  still_made (slots.Directory request number) is = there sent sent_new more request sends is
  still_made (slots.Lookup request answer) is = (there sent sent_new more request sends is.0, there sent sent_new more answer sends is.1)
  still_made (slots.Whole at) is = there whole whole_new extra at adds is

  module _ (made : List MadeSlot) (within : AllByRecursion (IsMadeIn sent whole) made) where
    pub made_within : AllByRecursion (IsMadeIn sent_new whole_new) made
    made_within = still_all (made_in sent whole) (made_in sent_new whole_new) (IsMadeIn sent whole) (IsMadeIn sent_new whole_new) same_made still_made made within

    pub made_same : map (made_in sent_new whole_new) made ≡ map (made_in sent whole) made
    made_same = same_all (made_in sent whole) (made_in sent_new whole_new) (IsMadeIn sent whole) (IsMadeIn sent_new whole_new) same_made still_made made within

    -- one entry more
    module _ (made_new : List MadeSlot) (slot : MadeSlot) (entry : Made) (pushed : made_new ≡ made ++ slot ∷ []) (is : IsMade sent_new whole_new slot entry) where
      pub one_within : AllByRecursion (IsMadeIn sent_new whole_new) made_new
      one_within = still_push (made_in sent whole) (made_in sent_new whole_new) (IsMadeIn sent whole) (IsMadeIn sent_new whole_new) same_made still_made made made_new slot pushed within is.within

      pub one_made : (was : List Made) → map (made_in sent whole) made ≡ was → map (made_in sent_new whole_new) made_new ≡ was ++ entry ∷ []
      one_made was shows = same_push (made_in sent whole) (made_in sent_new whole_new) (IsMadeIn sent whole) (IsMadeIn sent_new whole_new) same_made still_made made made_new slot was entry pushed within shows is.shows

-- ---- what a store shows

abbrev view : List Msg → List Made → List MadeSlot → MessagesV
view sent whole made = record { sent = sent; made = map (made_in sent whole) made }

module _ (sent : List Msg) (whole : List Made) (made : List MadeSlot) (now : MessagesV) (was : view sent whole made ≡ now)
    (within : AllByRecursion (IsMadeIn sent whole) made) where
  -- once more messages were sent
  module _ (sent_new more : List Msg) (sends : sent_new ≡ sent ++ more) where
    pub sent_within : AllByRecursion (IsMadeIn sent_new whole) made
    sent_within = made_within sent sent_new more whole whole [] sends (sym (append-nil whole)) made within

    pub sent_more : view sent_new whole made ≡ record { sent = now.sent ++ more; made = now.made }
    sent_more = (λ i. record {
      sent = (sends ∙ ap (λ v. v.sent ++ more) was) i;
      made = (made_same sent sent_new more whole whole [] sends (sym (append-nil whole)) made within ∙ ap (λ v. v.made) was) i;
    })

  -- or an entry was added
  module _ (whole_new : List Made) (made_new : List MadeSlot) (entry : Made) (added : IsAdded sent made made_new whole whole_new entry) where
    pub added_within : AllByRecursion (IsMadeIn sent whole_new) made_new
    added_within =
        one_within sent sent [] whole whole_new added.extra (sym (append-nil sent)) added.adds made within made_new added.slot entry added.pushed added.is

    pub added_more : view sent whole_new made_new ≡ record { sent = now.sent; made = now.made ++ entry ∷ [] }
    added_more = (λ i. record {
      sent = ap (λ v. v.sent) was i;
      made = one_made sent sent [] whole whole_new added.extra (sym (append-nil sent)) added.adds made within made_new added.slot entry added.pushed added.is
          now.made (ap (λ v. v.made) was) i;
    })

  -- or both
  module _ (sent_new more : List Msg) (sends : sent_new ≡ sent ++ more) (made_new : List MadeSlot) (slot : MadeSlot) (entry : Made)
      (pushed : made_new ≡ made ++ slot ∷ []) (is : IsMade sent_new whole slot entry) where
    pub answered_within : AllByRecursion (IsMadeIn sent_new whole) made_new
    answered_within = one_within sent sent_new more whole whole [] sends (sym (append-nil whole)) made within made_new slot entry pushed is

    pub answered_more : view sent_new whole made_new ≡ record { sent = now.sent ++ more; made = now.made ++ entry ∷ [] }
    answered_more = (λ i. record {
      sent = (sends ∙ ap (λ v. v.sent ++ more) was) i;
      made = one_made sent sent_new more whole whole [] sends (sym (append-nil whole)) made within made_new slot entry pushed is now.made (ap (λ v. v.made) was) i;
    })

-- ---- what is added

pub slot_added : (sent : List Msg) (made made_new : List MadeSlot) (whole : List Made) (slot : MadeSlot) (entry : Made)
    → made_new ≡ made ++ slot ∷ [] → IsMade sent whole slot entry → IsAdded sent made made_new whole whole entry
slot_added sent made made_new whole slot entry pushed is =
    record { slot = slot; extra = []; pushed = pushed; adds = sym (append-nil whole); is = is }

pub whole_added : (sent : List Msg) (made made_new : List MadeSlot) (whole whole_new : List Made) (at : ℕ) (entry : Made)
    → at ≡ length whole → made_new ≡ made ++ slots.Whole at ∷ [] → whole_new ≡ whole ++ entry ∷ [] → IsAdded sent made made_new whole whole_new entry
whole_added sent made made_new whole whole_new at entry here pushed adds =
    record {
      slot = slots.Whole at;
      extra = entry ∷ [];
      pushed = pushed;
      adds = adds;
      is = record {
        shows = (λ i. get_or (adds i) (here i) no_made) ∙ get_or-append_seam whole entry [] no_made;
        within = last_there whole whole_new entry at here adds;
      };
    }

pub lookup_made : (sent sent_new more : List Msg) (whole : List Made) (request answer : ℕ) → sent_new ≡ sent ++ more → request < length sent
    → answer ≡ length sent → (some : 1 ≤ length more)
    → IsMade sent_new whole (slots.Lookup request answer) (lookup_by (message_at sent request) (get_or more 0 no_msg) answer)
lookup_made sent sent_new more whole request answer sends below here some =
    let found : message_at sent_new answer ≡ get_or more 0 no_msg =
    (λ i. get_or (sends i) (here i) no_msg) ∙ ap (λ k. get_or (sent ++ more) k no_msg) (omega arith) ∙ get_or-append-add sent more 0 no_msg in
    record {
      shows = (λ i. lookup_by (same_at sent sent_new more no_msg request sends below i) (found i) answer);
      within = (there sent sent_new more request sends below, omega (arith, ap length sends, length-append sent more, here, some));
    }
