-- A change that is carried out keeps the rest of the invariant.
use Rattle.std.proofs.Common.{◌≡◌, ◌∙◌, sym, ap, subst, ℕ, ◌+◌, ◌*◌, ◌<◌, ◌≤◌, true, false, List, [], ◌∷◌, ◌++◌, length, Some, inl, inr, arith, nat_eq, nat_le}
use Rattle.std.specs.Prelude.{slice_set}
use Rattle.std.specs.List.{slice_get, AllByRecursion}
use Rattle.std.proofs.lemmas.Bool.Decides.{nat_tests}
use Rattle.std.proofs.lemmas.List.{append-nil}
use Rattle.mds_base.specs.declared.limits.TheConstants.{SERVER_DIRECTORIES, SERVE_DIRECTORIES}
use Rattle.mds_base.specs.declared.call.Call.{Call}
use Rattle.mds_base.specs.declared.reply.Final.{Final}
use Rattle.mds_base.specs.declared.reply.Reply.TheVariants.{Said}
use Rattle.mds_base.specs.PlainRules.{Allows, after, given_by}
use Rattle.mds_base.specs.History.{IsLegal, map_after, given}
use Rattle.records.specs.declared.msg.Msg.{Msg}
use Rattle.records.specs.declared.msg.Msg.TheVariants.{Request, Redirect, Answer, Busy, Held, Page, Closed, Transfer, Installed}
use Rattle.records.specs.declared.record.Record.{Record}
use Rattle.node_core.specs.Nodes.{NodeAndRows, row_in, part_for, end_of_numbers}
use Rattle.node_core.specs.Rules.{said_in, said_of}
use Rattle.node_core.specs.Serving.{carried}
use Rattle.node_core.proofs.Views.{noted_server, noted_setup, noted_next}
use Rattle.world.specs.declared.state.ServerState.{ServerState}
use Rattle.mds_base.specs.Lists.{Among}
use Rattle.world.specs.Worlds.{store_of}
use Rattle.world.specs.Histories.{MadeV, Trace, Change, entries_of, IsOfIssue}
use Rattle.mds_base.proofs.Grow.{among_more, each_push, each_map, each_set, once_push, length_set, within}
use Rattle.world.proofs.Choices.{nat_or_apart}
use Rattle.world.proofs.Stores.{store_here, store_apart}
use Rattle.world.proofs.Tables.{allowed_change, given_change}
use Rattle.mds_base.proofs.Lists.{all_push}
use Rattle.world.proofs.Legal.{entries_push, GivesFresh, GivesWell, given_push, legal_push, map_push}
use Rattle.world.proofs.Keepers.{keepers, noted_knows}
use Rattle.world.proofs.Invariant.{Inv, Sizes, LegalKept, MadeKept, MessagesKept, AnswerTrue, AnswersKept, NumbersKept, IsWithinRange, IsGivenBelow, DoubtKept, Follows, MayCarry, store_in}
use Rattle.world.proofs.Steps.{noted_state, note_at}
use Rattle.world.proofs.Note.{issue, is_new, was, before, rows_note, sessions_note}

-- an answer stays true when more was made
pub answer_more : (made more : List MadeV) (k : ℕ) (m : Msg) → AnswerTrue made k m → AnswerTrue (made ++ more) k m
answer_more made more k (Answer client seq attempt reply) a = among_more more a
answer_more made more k (Redirect client seq attempt dir bits) a = tt
answer_more made more k (Transfer to dir part depth index pieces bits sessions top rows) a = tt
answer_more made more k (Request to ask cursor) a = tt
answer_more made more k (Busy client seq attempt part depth) a = tt
answer_more made more k (Held client seq attempt until) a = tt
answer_more made more k (Page client seq attempt rows next) a = tt
answer_more made more k (Closed client seq attempt part epoch) a = tt
answer_more made more k (Installed to dir part child) a = tt

pub all_map : {X : Type 0} (P Q : X → Type 0) (xs : List X) → ((x : X) → P x → Q x) → AllByRecursion P xs → AllByRecursion Q xs
all_map P Q [] f all = tt
all_map P Q (x ∷ xs) f all = (f x all.0, all_map P Q xs f all.1)

-- a number that a server may give next was not given
pub not_given : (count : ℕ) (stores : ℕ → NodeAndRows) (s number m : ℕ) → s < count → number ≡ (stores s).node.next → s * SERVER_DIRECTORIES ≤ number → number < (s + 1) * SERVER_DIRECTORIES → IsGivenBelow count stores m → nat_eq m number ≡ false
not_given count stores s number m lt is from to below =
    elim (nat_or_apart m number) [
      | inl e ↦
          let low : m < (stores s).node.next = below s lt (omega (arith, e, from)) (omega (arith, e, to)) in
          absurd (omega (arith, e, is, low))
      | inr e ↦ grind (arith, nat_tests)
    ]

nat_le_true : (a b : ℕ) → nat_le a b ≡ true → a ≤ b
nat_le_true a b e = grind (arith, nat_tests)

same_range : (j k n : ℕ) → j * SERVER_DIRECTORIES ≤ n → n < (j + 1) * SERVER_DIRECTORIES → k * SERVER_DIRECTORIES ≤ n → n < (k + 1) * SERVER_DIRECTORIES → j ≡ k
same_range j k n a b c d = omega arith

module _ (t : Trace) (inv : Inv t) (s : ℕ) (state : ServerState) (is : slice_get t.world.servers s ≡ Some state) (client seq : ℕ) (call : Call) (dir : ℕ) (name : List ℕ)
    (may : MayCarry t.world.setup.servers t.world.sent s (store_of state) client seq call dir name) where
  abbrev servers : ℕ
  servers = t.world.setup.servers

  abbrev store : NodeAndRows
  store = store_of state

  abbrev said : Final
  said = said_in (store_of state) call dir name

  abbrev part : ℕ
  part = part_for state.node dir name

  abbrev entry : MadeV
  entry = record { entry = record { client = client; seq = seq; call = call; reply = Said said }; kind = Change; at = t.past.count }

  made_note : MadeKept t.world.sent t.past.issued (t.past.made ++ entry ∷ []) t.past.count
  made_note =
      let i = issue t inv s state is client seq call dir name may in
      let of_issue : Among t.past.issued (λ j x. IsOfIssue entry x) = record {
        place = i.place;
        item = i.item;
        is = i.is;
        good = record { client = i.good.client'; seq = i.good.seq'; call = i.good.call'; later = (inv.calls.issued_below.at i.place i.item i.is).now };
      } in
      record {
        made_issued = each_push entry inv.made.made_issued of_issue;
        made_now = each_push entry inv.made.made_now (omega arith);
        made_kind = each_push entry inv.made.made_kind (dir, name, may.asked);
        looked_sent = each_push entry inv.made.looked_sent tt;
        looked_once = once_push entry inv.made.looked_once (λ k x at alike. let e = alike.right in cc) (λ k x at alike. let e = alike.left in cc);
        change_once = once_push entry inv.made.change_once
            (λ k x at alike. is_new t inv s state is client seq call dir name may k x at alike.left alike.client alike.seq)
            (λ k x at alike. is_new t inv s state is client seq call dir name may k x at alike.right (sym alike.client) (sym alike.seq));
      }

  -- the server's own range of numbers
  in_range : IsWithinRange s store
  in_range =
      let w = within t.world.servers s state is in
      let c = inv.sizes.server_count in
      subst (IsWithinRange s) (was t inv s state is client seq call dir name may) (inv.numbers.next_within s (omega arith))

  s_below : s < servers
  s_below = let w = within t.world.servers s state is in let c = inv.sizes.server_count in omega arith

  room : store.node.next + SERVE_DIRECTORIES ≤ end_of_numbers s
  room =
      let e : state.node.server ≡ s = (inv.sizes.servers_are.at s state is).server in
      let h : store.node.next + SERVE_DIRECTORIES ≤ end_of_numbers state.node.server = nat_le_true (store.node.next + SERVE_DIRECTORIES) (end_of_numbers state.node.server) may.numbers in
      subst (λ n. store.node.next + SERVE_DIRECTORIES ≤ end_of_numbers n) e h

  fresh : GivesFresh (entries_of t.past.made) store.node.next
  fresh =
      let r = in_range in
      let b = s_below in
      let m = room in
      let w = was t inv s state is client seq call dir name may in
      let next : store.node.next ≡ (store_in t.world.servers s).node.next = sym (ap (λ (v : NodeAndRows). v.node.next) w) in
      record {
        from_two = omega (arith, r.from);
        apart = all_map (IsGivenBelow servers (store_in t.world.servers)) (λ x. nat_eq x store.node.next ≡ false) (given (entries_of t.past.made))
            (λ x below. not_given servers (store_in t.world.servers) s store.node.next x b next (omega (arith, r.from)) (omega (arith, m)) below) inv.numbers.given_below;
      }

  gives : GivesWell (entries_of t.past.made) (given_by call (Said said))
  gives = elim (given_change call (row_in store.rows dir part name) store.node.next dir name may.asked) [
    | inl none ↦ inl none
    | inr one ↦ inr (store.node.next, one, fresh)
  ]

  allowed : Allows t.past.entries call (Said said)
  allowed = subst (λ o. Allows t.past.entries call (Said (said_of call o store.node.next))) (before t inv s state is client seq call dir name may) (allowed_change t.past.entries call store.node.next dir name may.asked)

  legal_note : LegalKept t.past.start (after t.past.entries call (Said said)) (t.past.made ++ entry ∷ [])
  legal_note = record {
    legal = subst (IsLegal t.past.start) (sym (entries_push t.past.made entry))
        (legal_push t.past.start (entries_of t.past.made) entry.entry inv.legal.legal (subst (λ m. Allows m call (Said said)) inv.legal.now allowed) gives);
    now = ap (λ m. after m call (Said said)) inv.legal.now ∙ sym (map_push t.past.start (entries_of t.past.made) entry.entry) ∙ ap (map_after t.past.start) (sym (entries_push t.past.made entry));
  }

  messages_note : MessagesKept keepers servers t.world.sent t.past.issued (t.past.made ++ entry ∷ [])
  messages_note = record {
    request_true = inv.messages.request_true;
    answer_true = each_map inv.messages.answer_true (λ k m a. answer_more t.past.made (entry ∷ []) k m a);
  }

  answers_note : AnswersKept t.world.sent (t.past.made ++ entry ∷ []) t.past.answered
  answers_note = record {
    answered_taken = inv.answers.answered_taken;
    answered_made = each_map inv.answers.answered_made (λ k a m. among_more (entry ∷ []) m);
  }

  module _ (new : ℕ → NodeAndRows) (here : new s ≡ carried store client seq call dir name) (apart : (k : ℕ) → (k ≡ s → ⊥) → new k ≡ store_in t.world.servers k) where
    next_here : (new s).node.next ≡ store.node.next + length (given_by call (Said said))
    next_here = ap (λ (v : NodeAndRows). v.node.next) here ∙ noted_next store.node store.rows dir part name client seq call said

    given_few : length (given_by call (Said said)) ≤ 1
    given_few = elim gives [
      | inl none ↦ let e = ap length none in omega (arith, e)
      | inr one ↦ let e = ap length one.1 in omega (arith, e)
    ]

    within_new : (k : ℕ) → k < servers → IsWithinRange k (new k)
    within_new k lt = elim (nat_or_apart k s) [
      | inl e ↦ subst (λ j. IsWithinRange j (new j)) (sym e)
          (let n = next_here in let r = in_range in let m = room in let f = given_few in
          record { from = omega (arith, n, r.from); to = omega (arith, n, m, f) })
      | inr e ↦ subst (IsWithinRange k) (sym (apart k e)) (inv.numbers.next_within k lt)
    ]

    below_new : (number : ℕ) → IsGivenBelow servers (store_in t.world.servers) number → IsGivenBelow servers new number
    below_new number below k lt from to = elim (nat_or_apart k s) [
      | inl e ↦
          let old : number < (store_in t.world.servers s).node.next = below s s_below (subst (λ j. j * SERVER_DIRECTORIES ≤ number) e from) (subst (λ j. number < (j + 1) * SERVER_DIRECTORIES) e to) in
          let w = ap (λ (v : NodeAndRows). v.node.next) (was t inv s state is client seq call dir name may) in
          let n = next_here in
          subst (λ j. number < (new j).node.next) (sym e) (omega (arith, old, w, n))
      | inr e ↦ subst (λ (v : NodeAndRows). number < v.node.next) (sym (apart k e)) (below k lt from to)
    ]

    below_fresh : given_by call (Said said) ≡ store.node.next ∷ [] → IsGivenBelow servers new store.node.next
    below_fresh one k lt from to =
        let r = in_range in
        let m = room in
        let e : k ≡ s = same_range k s store.node.next from to (omega (arith, r.from)) (omega (arith, m)) in
        let n = next_here in
        let l = ap length one in
        subst (λ j. store.node.next < (new j).node.next) (sym e) (omega (arith, n, l))

    numbers_note : NumbersKept servers new (t.past.made ++ entry ∷ [])
    numbers_note = record {
      next_within = within_new;
      given_below =
          let all = all_map (IsGivenBelow servers (store_in t.world.servers)) (IsGivenBelow servers new) (given (entries_of t.past.made)) below_new inv.numbers.given_below in
          let same : given (entries_of (t.past.made ++ entry ∷ [])) ≡ given (entries_of t.past.made) ++ given_by call (Said said) = ap given (entries_push t.past.made entry) ∙ given_push (entries_of t.past.made) entry.entry in
          subst (AllByRecursion (IsGivenBelow servers new)) (sym same)
          (elim (given_change call (row_in store.rows dir part name) store.node.next dir name may.asked) [
            | inl none ↦ subst (λ ns. AllByRecursion (IsGivenBelow servers new) (given (entries_of t.past.made) ++ ns)) (sym none) (subst (AllByRecursion (IsGivenBelow servers new)) (sym (append-nil (given (entries_of t.past.made)))) all)
            | inr one ↦ subst (λ ns. AllByRecursion (IsGivenBelow servers new) (given (entries_of t.past.made) ++ ns)) (sym one) (all_push (IsGivenBelow servers new) (given (entries_of t.past.made)) store.node.next all (below_fresh one))
          ]);
    }

  module _ (doubt : List Record) (settled : state.up ≡ true → doubt ≡ []) (follows : Follows servers t.world.sent s (carried store client seq call dir name) doubt) where
    abbrev next_state : ServerState
    next_state = noted_state state client seq call dir name doubt

    sizes_note : Sizes t.world.setup (slice_set t.world.servers s next_state) t.world.clients
    sizes_note =
        let old = inv.sizes.servers_are.at s state is in
        record {
          some_servers = inv.sizes.some_servers;
          server_count = length_set t.world.servers s next_state ∙ inv.sizes.server_count;
          servers_are = each_set s next_state inv.sizes.servers_are (record {
            server = noted_server store.node store.rows dir part name client seq call said ∙ old.server;
            setup' = noted_setup store.node store.rows dir part name client seq call said ∙ old.setup';
          });
          clients_are = inv.sizes.clients_are;
        }

    doubt_note : DoubtKept servers t.world.sent (slice_set t.world.servers s next_state)
    doubt_note = record {
      doubt_down = each_set s next_state inv.doubt.doubt_down settled;
      doubt_follows = each_set s next_state inv.doubt.doubt_follows follows;
    }

    abbrev new_stores : ℕ → NodeAndRows
    new_stores = store_in (slice_set t.world.servers s next_state)

    here_now : new_stores s ≡ carried store client seq call dir name
    here_now = store_here t.world.servers s state next_state is

    apart_now : (k : ℕ) → (k ≡ s → ⊥) → new_stores k ≡ store_in t.world.servers k
    apart_now = store_apart t.world.servers s next_state

    pub note_keeps : Inv (note_at t s state client seq call dir name doubt)
    note_keeps = record {
      sizes = sizes_note;
      rows = rows_note t inv s state is client seq call dir name may new_stores here_now apart_now;
      calls = inv.calls;
      made = made_note;
      legal = legal_note;
      sessions = sessions_note t inv s state is client seq call dir name may new_stores here_now apart_now;
      messages = messages_note;
      answers = answers_note;
      numbers = numbers_note new_stores here_now apart_now;
      doubt = doubt_note;
      bits = record {
        own_kept = each_set s next_state inv.bits.own_kept
            (noted_knows keepers state.node state.rows dir part name client seq call said (inv.bits.own_kept.at s state is));
        bits_kept = inv.bits.bits_kept;
        sent_kept = inv.bits.sent_kept;
      };
    }
