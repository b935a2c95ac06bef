-- What clients do keeps the invariant: they open calls, send them again, merge bitmaps, take answers and give up.
use Rattle.std.proofs.Common.{◌≡◌, ◌∙◌, sym, ap, subst, refl, ℕ, zero, suc, ◌+◌, ◌≤◌, true, List, [], ◌∷◌, ◌++◌, Option, Some, None, unwrap_or, inl, inr, arith}
use Rattle.std.specs.Prelude.{slice_set}
use Rattle.std.specs.List.{slice_get}
use Rattle.std.specs.FinSet as set
use Rattle.std.specs.Cmp.{nat_cmp_total}
use Rattle.std.proofs.lemmas.Map.Lookups.{exact_unsigned}
use Rattle.std.proofs.lemmas.Bool.{or_cases}
use Rattle.mds_base.specs.declared.ask.Ask.{Ask}
use Rattle.mds_base.specs.declared.call.Call.{Call}
use Rattle.mds_base.specs.declared.reply.Reply.{Reply}
use Rattle.mds_base.proofs.Maps.{insert_apart}
use Rattle.records.specs.declared.msg.Msg.{Msg}
use Rattle.records.specs.declared.msg.Msg.TheVariants.{Answer}
use Rattle.records.specs.Messages.{server_of_msg}
use Rattle.node_core.specs.Rules.{request_in}
use Rattle.bitmap.specs.Bits.{Bits, has}
use Rattle.node_core.proofs.Views.{insert_here}
use Rattle.client_core.specs.declared.client.Pending.{Pending}
use Rattle.client_core.specs.Clients.{ClientV, issued, resent, merged, bits_in, zero_bits}
use Rattle.client_core.specs.Taking.{closed}
use Rattle.world.specs.declared.state.ClientState.{ClientState}
use Rattle.mds_base.specs.Lists.{Among}
use Rattle.world.specs.Histories.{IssuedV, AnsweredV, Trace}
use Rattle.mds_base.proofs.Grow.{get_set, set_here, set_apart, among_more, among_last, among_map, each_push, each_map, each_set, once_push, once_same, pred_same}
use Rattle.world.proofs.Choices.{nat_or_apart}
use Rattle.world.proofs.Keepers.{Keepers, keepers, IsKept}
use Rattle.world.proofs.Invariant.{Inv, Sizes, CallsKept, AskTrue, RequestTrue, IsAnsweredBy, AreKept, seq_in, seq_or}
use Rattle.world.proofs.Steps.{with_seat, open_at, close_at, MayOpen, MayBump, MayMerge, MayClose}

pub seq_was : (clients : List ClientState) (k : ℕ) (seat : ClientState) → slice_get clients k ≡ Some seat → seq_in clients (suc k) ≡ seat.client.seq
unfolding seq_in
seq_was clients k seat is = ap seq_or is

seq_here : (clients : List ClientState) (k : ℕ) (seat new : ClientState) → slice_get clients k ≡ Some seat → seq_in (slice_set clients k new) (suc k) ≡ new.client.seq
unfolding seq_in
seq_here clients k seat new is = ap seq_or (set_here clients k seat new is)

seq_apart : (clients : List ClientState) (k j : ℕ) (new : ClientState) → (j ≡ k → ⊥) → seq_in (slice_set clients k new) (suc j) ≡ seq_in clients (suc j)
unfolding seq_in
seq_apart clients k j new differ = ap seq_or (set_apart clients k j new differ)

-- a client's count of calls does not fall
seq_rises : (clients : List ClientState) (k : ℕ) (seat new : ClientState) → slice_get clients k ≡ Some seat → seat.client.seq ≤ new.client.seq → (c : ℕ) → seq_in clients c ≤ seq_in (slice_set clients k new) c
unfolding seq_in
seq_rises clients k seat new is up zero = omega arith
seq_rises clients k seat new is up (suc j) = elim (nat_or_apart j k) [
  | inl e ↦ subst (λ i. seq_or (slice_get clients i) ≤ seq_or (slice_get (slice_set clients k new) i)) (sym e)
      (let a = ap seq_or is in let b = ap seq_or (set_here clients k seat new is) in omega (arith, a, b, up))
  | inr e ↦ let a = ap seq_or (set_apart clients k j new e) in omega (arith, a)
]

-- a client is set to one with the same count of calls, whose open call, if there is one, was open before
module _ (t : Trace) (inv : Inv t) (k : ℕ) (seat new : ClientState) (is : slice_get t.world.clients k ≡ Some seat) (same : new.client.seq ≡ seat.client.seq)
    (stays : (pending : Pending) → new.client.pending ≡ Some pending → (before : Pending) × (seat.client.pending ≡ Some before) × (before.call ≡ pending.call)) where
  calls_set : CallsKept (slice_set t.world.clients k new) t.past.issued t.past.answered t.past.count
  calls_set = record {
    issued_below = each_map inv.calls.issued_below (λ j i n. record {
      from_one = n.from_one;
      below = (let r = seq_rises t.world.clients k seat new is (omega (arith, same)) i.client in let b = n.below in omega (arith, r, b));
      now = n.now;
    });
    issued_once = inv.calls.issued_once;
    open_issued = λ j x pending at busy. elim (get_set t.world.clients k new j x at) [
      | inl h ↦
          let now : new.client.pending ≡ Some pending = subst (λ (y : ClientState). y.client.pending ≡ Some pending) (sym h.1) busy in
          let b = stays pending now in
          let q : new.client.seq ≡ x.client.seq = ap (λ (y : ClientState). y.client.seq) h.1 in
          among_map (inv.calls.open_issued k seat b.0 is b.1) (λ l i n. record { client' = n.client' ∙ ap suc (sym h.0); seq' = n.seq' ∙ sym same ∙ q; call' = n.call' ∙ b.2; served = n.served })
      | inr h ↦ inv.calls.open_issued j x pending h.1 busy
    ];
    open_unanswered = λ j x pending at busy. elim (get_set t.world.clients k new j x at) [
      | inl h ↦
          let now : new.client.pending ≡ Some pending = subst (λ (y : ClientState). y.client.pending ≡ Some pending) (sym h.1) busy in
          let b = stays pending now in
          let q : new.client.seq ≡ x.client.seq = ap (λ (y : ClientState). y.client.seq) h.1 in
          each_map (inv.calls.open_unanswered k seat b.0 is b.1) (λ l a no c s. no (c ∙ ap suc h.0) (s ∙ sym q ∙ same))
      | inr h ↦ inv.calls.open_unanswered j x pending h.1 busy
    ];
    answered_below = each_map inv.calls.answered_below (λ j a n. let r = seq_rises t.world.clients k seat new is (omega (arith, same)) a.client in omega (arith, r, n));
    answered_once = inv.calls.answered_once;
  }

  sizes_set : new.client.number ≡ seat.client.number → new.client.setup ≡ seat.client.setup → Sizes t.world.setup t.world.servers (slice_set t.world.clients k new)
  sizes_set number setup = let old = inv.sizes.clients_are.at k seat is in record {
    some_servers = inv.sizes.some_servers;
    server_count = inv.sizes.server_count;
    servers_are = inv.sizes.servers_are;
    clients_are = each_set k new inv.sizes.clients_are (record { number = number ∙ old.number; setup' = setup ∙ old.setup' });
  }

  seat_keeps : new.client.number ≡ seat.client.number → new.client.setup ≡ seat.client.setup → AreKept keepers new.client → Inv (with_seat t k new)
  seat_keeps number setup kept = record {
    sizes = sizes_set number setup;
    rows = inv.rows;
    calls = calls_set;
    made = inv.made;
    legal = inv.legal;
    sessions = inv.sessions;
    messages = inv.messages;
    answers = inv.answers;
    numbers = inv.numbers;
    doubt = inv.doubt;
    bits = record { bits_kept = each_set k new inv.bits.bits_kept kept; sent_kept = inv.bits.sent_kept; own_kept = inv.bits.own_kept };
  }

pub bump_keeps : (t : Trace) → Inv t → (k : ℕ) (seat : ClientState) (pending : Pending) → MayBump t k seat pending → Inv (with_seat t k (record { client = resent seat.client pending; quit = seat.quit }))
bump_keeps t inv k seat pending may =
    seat_keeps t inv k seat (record { client = resent seat.client pending; quit = seat.quit }) may.is refl
    (λ p e. let same : pending.call ≡ p.call = cc in (pending, may.busy, same)) refl refl (inv.bits.bits_kept.at k seat may.is)

pub quit_keeps : (t : Trace) → Inv t → (k : ℕ) (seat : ClientState) → slice_get t.world.clients k ≡ Some seat → Inv (with_seat t k (record { client = seat.client; quit = true }))
quit_keeps t inv k seat is =
    seat_keeps t inv k seat (record { client = seat.client; quit = true }) is refl (λ p e. (p, e, refl)) refl refl (inv.bits.bits_kept.at k seat is)

merged_here : (client : ClientV) (dir : ℕ) (bits : Bits) → bits_in (merged client dir bits) dir ≡ set.union (bits_in client dir) bits
merged_here client dir bits = ap (λ o. unwrap_or o zero_bits) (insert_here nat_cmp_total client.bits dir (set.union (bits_in client dir) bits))

merged_apart : (client : ClientV) (dir : ℕ) (bits : Bits) (other : ℕ) → (other ≡ dir → ⊥) → bits_in (merged client dir bits) other ≡ bits_in client other
merged_apart client dir bits other differ = ap (λ o. unwrap_or o zero_bits) (insert_apart nat_cmp_total exact_unsigned client.bits dir (set.union (bits_in client dir) bits) other differ)

-- a bitmap whose numbers are kept may be merged
merged_kept : (who : Keepers) (client : ClientV) (dir : ℕ) (bits : Bits) → AreKept who client → ((part : ℕ) → has bits part ≡ true → IsKept who dir part) → AreKept who (merged client dir bits)
merged_kept who client dir bits own more d part e = elim (nat_or_apart d dir) [
  | inl h ↦
      let at : has (set.union (bits_in client dir) bits) part ≡ true = sym (ap (λ b. has b part) (ap (bits_in (merged client dir bits)) h ∙ merged_here client dir bits)) ∙ e in
      elim (or_cases (has (bits_in client dir) part) (has bits part) (sym (set.contains-union nat_cmp_total (bits_in client dir) bits part) ∙ at)) [
        | inl l ↦ subst (λ g. IsKept who g part) (sym h) (own dir part l)
        | inr r ↦ subst (λ g. IsKept who g part) (sym h) (more part r)
      ]
  | inr h ↦ own d part (sym (ap (λ b. has b part) (merged_apart client dir bits d h)) ∙ e)
]

pub merge_keeps : (t : Trace) → Inv t → (k : ℕ) (seat : ClientState) (dir : ℕ) (bits : Bits) → MayMerge t k seat dir bits → Inv (with_seat t k (record { client = merged seat.client dir bits; quit = seat.quit }))
merge_keeps t inv k seat dir bits may =
    seat_keeps t inv k seat (record { client = merged seat.client dir bits; quit = seat.quit }) may.is refl (λ p e. (p, e, refl)) refl refl
    (merged_kept keepers seat.client dir bits (inv.bits.bits_kept.at k seat may.is) may.kept)

ask_more : (who : Keepers) (count : ℕ) (issued more : List IssuedV) (to : Option ℕ) (o : Option Ask) → AskTrue who count issued to o → AskTrue who count (issued ++ more) to o
ask_more who count issued more to None r = tt
ask_more who count issued more to (Some ask) r = record { issue = among_more more r.issue; part = r.part; kept = r.kept; there = r.there }

request_more : (who : Keepers) (count : ℕ) (issued more : List IssuedV) (m : Msg) → RequestTrue who count issued m → RequestTrue who count (issued ++ more) m
request_more who count issued more m r = ask_more who count issued more (server_of_msg m) (request_in m) r

module _ (t : Trace) (inv : Inv t) (k : ℕ) (seat : ClientState) (call : Call) (may : MayOpen t k seat call) where
  abbrev opened : ClientState
  opened = record { client = issued seat.client call; quit = seat.quit }

  abbrev issue : IssuedV
  issue = record { client = suc k; seq = seat.client.seq + 1; call = call; at = t.past.count }

  abbrev clients' : List ClientState
  clients' = slice_set t.world.clients k opened

  rises : (c : ℕ) → seq_in t.world.clients c ≤ seq_in clients' c
  rises = seq_rises t.world.clients k seat opened may.is (omega arith)

  was_below : (c seq : ℕ) → seq ≤ seq_in t.world.clients c → c ≡ suc k → seq ≡ seat.client.seq + 1 → ⊥
  was_below c seq below e q =
      let b : seq ≤ seq_in t.world.clients (suc k) = subst (λ x. seq ≤ seq_in t.world.clients x) e below in
      let w = seq_was t.world.clients k seat may.is in
      absurd (omega (arith, b, w, q))

  calls_open : CallsKept clients' (t.past.issued ++ issue ∷ []) t.past.answered t.past.count
  calls_open = record {
    issued_below = each_push issue
        (each_map inv.calls.issued_below (λ j i n. record { from_one = n.from_one; below = (let r = rises i.client in let b = n.below in omega (arith, r, b)); now = n.now }))
        (record { from_one = omega arith; below = (let h = seq_here t.world.clients k seat opened may.is in omega (arith, h)); now = omega arith });
    issued_once = once_push issue inv.calls.issued_once
        (λ j x at alike. was_below x.client x.seq (inv.calls.issued_below.at j x at).below alike.client alike.seq)
        (λ j x at alike. was_below x.client x.seq (inv.calls.issued_below.at j x at).below (sym alike.client) (sym alike.seq));
    open_issued = λ j x pending at busy. elim (get_set t.world.clients k opened j x at) [
      | inl h ↦
          let now : opened.client.pending ≡ Some pending = subst (λ (y : ClientState). y.client.pending ≡ Some pending) (sym h.1) busy in
          let same : call ≡ pending.call = cc in
          among_last t.past.issued issue (record { client' = ap suc (sym h.0); seq' = ap (λ (y : ClientState). y.client.seq) h.1; call' = same; served = may.served })
      | inr h ↦ among_more (issue ∷ []) (inv.calls.open_issued j x pending h.1 busy)
    ];
    open_unanswered = λ j x pending at busy. elim (get_set t.world.clients k opened j x at) [
      | inl h ↦ record { at = λ l a there c q. was_below a.client a.seq (inv.calls.answered_below.at l a there) (c ∙ ap suc h.0) (q ∙ ap (λ (y : ClientState). y.client.seq) (sym h.1)) }
      | inr h ↦ inv.calls.open_unanswered j x pending h.1 busy
    ];
    answered_below = each_map inv.calls.answered_below (λ j a n. let r = rises a.client in omega (arith, r, n));
    answered_once = inv.calls.answered_once;
  }

  pub open_keeps : Inv (open_at t k seat call)
  open_keeps = let old = inv.sizes.clients_are.at k seat may.is in record {
    sizes = record {
      some_servers = inv.sizes.some_servers;
      server_count = inv.sizes.server_count;
      servers_are = inv.sizes.servers_are;
      clients_are = each_set k opened inv.sizes.clients_are (record { number = old.number; setup' = old.setup' });
    };
    rows = inv.rows;
    calls = calls_open;
    made = record {
      made_issued = each_map inv.made.made_issued (λ j e i. among_more (issue ∷ []) i);
      made_now = inv.made.made_now;
      made_kind = inv.made.made_kind;
      looked_sent = inv.made.looked_sent;
      looked_once = inv.made.looked_once;
      change_once = inv.made.change_once;
    };
    legal = inv.legal;
    sessions = inv.sessions;
    messages = record {
      request_true = each_map inv.messages.request_true (λ j m r. request_more keepers t.world.setup.servers t.past.issued (issue ∷ []) m r);
      answer_true = inv.messages.answer_true;
    };
    answers = inv.answers;
    numbers = inv.numbers;
    doubt = inv.doubt;
    bits = record { bits_kept = each_set k opened inv.bits.bits_kept (inv.bits.bits_kept.at k seat may.is); sent_kept = inv.bits.sent_kept; own_kept = inv.bits.own_kept };
  }

module _ (t : Trace) (inv : Inv t) (k : ℕ) (seat : ClientState) (pending : Pending) (attempt : ℕ) (reply : Reply) (place : ℕ) (may : MayClose t k seat pending attempt reply place) where
  abbrev shut : ClientState
  shut = record { client = closed seat.client; quit = seat.quit }

  abbrev answer : AnsweredV
  answer = record { client = suc k; seq = seat.client.seq; call = pending.call; reply = reply; message = place; at = t.past.count }

  none_open : (p : Pending) → shut.client.pending ≡ Some p → (before : Pending) × (seat.client.pending ≡ Some before) × (before.call ≡ p.call)
  none_open p e = cc

  shut_calls : CallsKept (slice_set t.world.clients k shut) t.past.issued t.past.answered t.past.count
  shut_calls = calls_set t inv k seat shut may.is refl none_open

  fresh : (j : ℕ) (x : AnsweredV) → slice_get t.past.answered j ≡ Some x → x.client ≡ suc k → x.seq ≡ seat.client.seq → ⊥
  fresh j x at = (inv.calls.open_unanswered k seat pending may.is may.busy).at j x at

  calls_close : CallsKept (slice_set t.world.clients k shut) t.past.issued (t.past.answered ++ answer ∷ []) t.past.count
  calls_close = record {
    issued_below = shut_calls.issued_below;
    issued_once = shut_calls.issued_once;
    open_issued = shut_calls.open_issued;
    open_unanswered = λ j x p at busy. each_push answer (shut_calls.open_unanswered j x p at busy)
        (λ c q. elim (get_set t.world.clients k shut j x at) [
          | inl h ↦ let now : shut.client.pending ≡ Some p = subst (λ (y : ClientState). y.client.pending ≡ Some p) (sym h.1) busy in cc
          | inr h ↦ h.0 (sym (pred_same c))
        ]);
    answered_below = each_push answer shut_calls.answered_below (let h = seq_here t.world.clients k seat shut may.is in omega (arith, h));
    answered_once = once_push answer shut_calls.answered_once
        (λ j x at alike. fresh j x at alike.client alike.seq)
        (λ j x at alike. fresh j x at (sym alike.client) (sym alike.seq));
  }

  -- the entry from which the answer has its reply
  made_for : Among t.past.made (λ j e. IsAnsweredBy answer e)
  made_for =
      let source = inv.messages.answer_true.at place (Answer (suc k) seat.client.seq attempt reply) may.msg in
      let e = source.item in
      let i = inv.made.made_issued.at source.place e source.is in
      let o = inv.calls.open_issued k seat pending may.is may.busy in
      let one : i.item ≡ o.item = once_same inv.calls.issued_once i.place o.place i.item o.item i.is o.is
      (record { client = i.good.client ∙ source.good.client' ∙ sym o.good.client'; seq = i.good.seq ∙ source.good.seq' ∙ sym o.good.seq' }) in
      record {
        place = source.place;
        item = e;
        is = source.is;
        good = record {
          answer = record {
            client = source.good.client';
            seq = source.good.seq';
            call = sym i.good.call ∙ ap (λ (x : IssuedV). x.call) one ∙ o.good.call';
            reply = source.good.reply';
            earlier = inv.made.made_now.at source.place e source.is;
          };
          kind = source.good.kind;
        };
      }

  pub close_keeps : Inv (close_at t k seat pending reply place)
  close_keeps = record {
    sizes = sizes_set t inv k seat shut may.is refl none_open refl refl;
    rows = inv.rows;
    calls = calls_close;
    made = inv.made;
    legal = inv.legal;
    sessions = inv.sessions;
    messages = inv.messages;
    answers = record {
      answered_taken = each_push answer inv.answers.answered_taken (attempt, may.msg);
      answered_made = each_push answer inv.answers.answered_made made_for;
    };
    numbers = inv.numbers;
    doubt = inv.doubt;
    bits = record { bits_kept = each_set k shut inv.bits.bits_kept (inv.bits.bits_kept.at k seat may.is); sent_kept = inv.bits.sent_kept; own_kept = inv.bits.own_kept };
  }
