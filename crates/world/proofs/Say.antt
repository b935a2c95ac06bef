-- Messages that are sent keep the invariant: a request, the answer to a change, and the answer to a lookup.
use Rattle.std.proofs.Common.{◌≡◌, ◌∙◌, sym, ap, subst, refl, ℕ, ◌≤◌, List, [], ◌∷◌, ◌++◌, length, Option, Some, inl, inr, arith, true}
use Rattle.std.specs.List.{slice_get, AllByRecursion}
use Rattle.std.specs.FinMap as map
use Rattle.std.proofs.lemmas.List.{append-nil}
use Rattle.mds_base.specs.declared.ask.Ask.{Ask}
use Rattle.mds_base.specs.declared.call.Call.{Call}
use Rattle.mds_base.specs.declared.cursor.Cursor.{Cursor}
use Rattle.mds_base.specs.declared.reply.Final.{Final}
use Rattle.mds_base.specs.declared.reply.Reply.{Reply}
use Rattle.mds_base.specs.declared.reply.Reply.TheVariants.{Said}
use Rattle.mds_base.specs.PlainRules.{Allows}
use Rattle.mds_base.specs.History.{IsLegal, map_after, given}
use Rattle.records.specs.declared.msg.Msg.{Msg}
use Rattle.records.specs.declared.msg.Msg.TheVariants.{Request, Answer, Redirect, Busy}
use Rattle.records.specs.declared.record.Record.{Record}
use Rattle.records.specs.declared.record.Record.TheVariants.{Head, Opened, Begin, Install, End, Served}
use Rattle.node_core.specs.Nodes.{NodeAndRows, server_for, part_for, row_in, session_in}
use Rattle.node_core.specs.Rules.{ChangeOf, asked_of, found}
use Rattle.bitmap.specs.Bits.{Bits, has}
use Rattle.sessions.specs.Kept.{seq_of}
use Rattle.world.specs.declared.state.ServerState.{ServerState}
use Rattle.mds_base.specs.Lists.{Each, Among}
use Rattle.world.specs.Worlds.{store_of}
use Rattle.world.specs.Histories.{MadeV, Trace, Kind, Change, Looked, entries_of, IsOfIssue}
use Rattle.mds_base.proofs.Grow.{get_front, get_last, get_pushed, among_more, among_last, among_map, each_push, each_map, once_push, within}
use Rattle.world.proofs.Stores.{store_was}
use Rattle.world.proofs.Tables.{allowed_look, given_look, after_look}
use Rattle.world.proofs.Legal.{entries_push, given_push, legal_push, map_push}
use Rattle.world.proofs.Keepers.{keepers, IsKept, own_holder}
use Rattle.world.proofs.Invariant.{Inv, BitsTrue, LegalKept, MadeKept, IsSentAs, RequestTrue, AnswerTrue, IsTakenFrom, IsGivenBelow, DoubtKept, Follows, MayCarry, MayFollow, made_by, store_in}
use Rattle.world.proofs.Steps.{with_msg, look_at, found_at, MayLook, MaySend, IsToldOf}
use Rattle.world.proofs.Note.{told_issue}
use Rattle.world.proofs.NoteRest.{answer_more}

may_grow : (count : ℕ) (sent more : List Msg) (s : ℕ) (store : NodeAndRows) (client seq : ℕ) (call : Call) (dir : ℕ) (name : List ℕ) → MayCarry count sent s store client seq call dir name → MayCarry count (sent ++ more) s store client seq call dir name
may_grow count sent more s store client seq call dir name m = record { asked = m.asked; owner = m.owner; free = m.free; newer = m.newer; numbers = m.numbers; told = among_more more m.told }

follow_grows : (count : ℕ) (sent more : List Msg) (s : ℕ) (store : NodeAndRows) (item : Record) → MayFollow count sent s store item → MayFollow count (sent ++ more) s store item
follow_grows count sent more s store (Served client seq part call said) m =
    record { dir = m.dir; name = m.name; may = may_grow count sent more s store client seq call m.dir m.name m.may; said' = m.said'; part' = m.part' }
follow_grows count sent more s store Opened m = absurd m
follow_grows count sent more s store (Begin dir part depth) m = absurd m
follow_grows count sent more s store (Install dir part depth bitmap sessions rows) m = absurd m
follow_grows count sent more s store (End dir part depth) m = absurd m
follow_grows count sent more s store (Head format servers server threshold) m = absurd m

-- records in doubt may still be made when more was sent
pub follows_grows : (count : ℕ) (sent more : List Msg) (s : ℕ) (items : List Record) (store : NodeAndRows) → Follows count sent s store items → Follows count (sent ++ more) s store items
follows_grows count sent more s [] store f = tt
follows_grows count sent more s (item ∷ items) store f = (follow_grows count sent more s store item f.0, follows_grows count sent more s items (made_by store item) f.1)

sent_more : (sent more : List Msg) (e : MadeV) (kind : Kind) → IsSentAs sent e kind → IsSentAs (sent ++ more) e kind
sent_more sent more e Change h = tt
sent_more sent more e (Looked place) h = (h.0, get_front sent more place _ h.1)

module _ (t : Trace) (inv : Inv t) (msg : Msg) where
  abbrev sent' : List Msg
  sent' = t.world.sent ++ msg ∷ []

  looked_sent' : Each t.past.made (λ k e. IsSentAs sent' e e.kind)
  looked_sent' = each_map inv.made.looked_sent (λ k e h. sent_more t.world.sent (msg ∷ []) e e.kind h)

  pub doubt_said : DoubtKept t.world.setup.servers sent' t.world.servers
  doubt_said = record {
    doubt_down = inv.doubt.doubt_down;
    doubt_follows = each_map inv.doubt.doubt_follows (λ s state f. follows_grows t.world.setup.servers t.world.sent (msg ∷ []) s state.doubt (store_of state) f);
  }

  pub taken_said : Each t.past.answered (λ k a. IsTakenFrom sent' a)
  taken_said = each_map inv.answers.answered_taken (λ k a h. (h.0, get_front t.world.sent (msg ∷ []) a.message _ h.1))

  pub msg_keeps : RequestTrue keepers t.world.setup.servers t.past.issued msg → AnswerTrue t.past.made (length t.world.sent) msg → BitsTrue keepers msg → Inv (with_msg t msg)
  msg_keeps request answer bits = record {
    sizes = inv.sizes;
    rows = inv.rows;
    calls = inv.calls;
    made = record {
      made_issued = inv.made.made_issued;
      made_now = inv.made.made_now;
      made_kind = inv.made.made_kind;
      looked_sent = looked_sent';
      looked_once = inv.made.looked_once;
      change_once = inv.made.change_once;
    };
    legal = inv.legal;
    sessions = inv.sessions;
    messages = record {
      request_true = each_push msg inv.messages.request_true request;
      answer_true = each_push msg inv.messages.answer_true answer;
    };
    answers = record { answered_taken = taken_said; answered_made = inv.answers.answered_made };
    numbers = inv.numbers;
    doubt = doubt_said;
    bits = record { own_kept = inv.bits.own_kept; bits_kept = inv.bits.bits_kept; sent_kept = each_push msg inv.bits.sent_kept bits };
  }

pub send_keeps : (t : Trace) → Inv t → (to : ℕ) (ask : Ask) (cursor : Option Cursor) → MaySend t to ask → Inv (with_msg t (Request to ask cursor))
send_keeps t inv to ask cursor may = msg_keeps t inv (Request to ask cursor) (record { issue = may.issue; part = may.part; kept = may.kept; there = ap Some may.there }) tt tt

pub tell_keeps : (t : Trace) → Inv t → (client seq attempt : ℕ) (said : Final) → Among t.past.made (λ k e. IsToldOf e client seq said) → Inv (with_msg t (Answer client seq attempt (Said said)))
tell_keeps t inv client seq attempt said told =
    msg_keeps t inv (Answer client seq attempt (Said said)) tt
    (among_map told (λ k e h. record { client' = h.client'; seq' = h.seq'; reply' = h.reply'; kind = inl h.kind })) tt

-- a redirection tells a client of kept partitions, and a Busy nothing
pub refer_keeps : (t : Trace) → Inv t → (client seq attempt dir : ℕ) (bits : Bits) → ((part : ℕ) → has bits part ≡ true → IsKept keepers dir part) → Inv (with_msg t (Redirect client seq attempt dir bits))
refer_keeps t inv client seq attempt dir bits kept = msg_keeps t inv (Redirect client seq attempt dir bits) tt tt kept

pub defer_keeps : (t : Trace) → Inv t → (client seq attempt part depth : ℕ) → Inv (with_msg t (Busy client seq attempt part depth))
defer_keeps t inv client seq attempt part depth = msg_keeps t inv (Busy client seq attempt part depth) tt tt tt

module _ (t : Trace) (inv : Inv t) (s : ℕ) (state : ServerState) (ask : Ask) (dir : ℕ) (name : List ℕ) (until : ℕ) (may : MayLook t s state ask dir name) where
  abbrev servers : ℕ
  servers = t.world.setup.servers

  abbrev reply : Reply
  reply = found_at state dir name until

  abbrev msg : Msg
  msg = Answer ask.client ask.seq ask.attempt (found_at state dir name until)

  abbrev entry : MadeV
  entry = record { entry = record { client = ask.client; seq = ask.seq; call = ask.call; reply = found_at state dir name until }; kind = Looked (length t.world.sent); at = t.past.count }

  not_there : (k : ℕ) (x : MadeV) → slice_get t.past.made k ≡ Some x → (place : ℕ) → x.kind ≡ Looked place → place ≡ length t.world.sent → ⊥
  not_there k x at place kind e =
      let h : IsSentAs t.world.sent x (Looked place) = subst (IsSentAs t.world.sent x) kind (inv.made.looked_sent.at k x at) in
      let w = within t.world.sent place _ h.1 in
      absurd (omega (arith, w, e))

  place_of_entry : (place : ℕ) → entry.kind ≡ Looked place → place ≡ length t.world.sent
  place_of_entry place e = cc

  made_look : MadeKept (t.world.sent ++ msg ∷ []) t.past.issued (t.past.made ++ entry ∷ []) t.past.count
  made_look =
      let i = told_issue keepers servers t.past.issued ask.client ask.seq ask.call may.told.item may.told.good (inv.messages.request_true.at may.told.place may.told.item may.told.is) in
      let of_issue : Among t.past.issued (λ j x. IsOfIssue entry x) = record {
        place = i.place;
        item = i.item;
        is = i.is;
        good = record { client = i.good.client'; seq = i.good.seq'; call = i.good.call'; later = (inv.calls.issued_below.at i.place i.item i.is).now };
      } in
      record {
        made_issued = each_push entry inv.made.made_issued of_issue;
        made_now = each_push entry inv.made.made_now (omega arith);
        made_kind = each_push entry inv.made.made_kind (dir, name, may.asked);
        looked_sent = each_push entry (looked_sent' t inv msg) (ask.attempt, get_last t.world.sent msg);
        looked_once = once_push entry inv.made.looked_once
            (λ k x at alike. not_there k x at alike.place alike.left (place_of_entry alike.place alike.right))
            (λ k x at alike. not_there k x at alike.place alike.right (place_of_entry alike.place alike.left));
        change_once = once_push entry inv.made.change_once (λ k x at alike. let e = alike.right in cc) (λ k x at alike. let e = alike.left in cc);
      }

  abbrev part : ℕ
  part = part_for state.node dir name

  before : map.get t.past.entries (dir, name) ≡ row_in state.rows dir part name
  before =
      inv.rows.map_rows dir name
      ∙ ap (λ p. row_in (store_in t.world.servers (server_for servers dir p)).rows dir p name) (own_holder state.node dir name (inv.bits.own_kept.at s state may.is))
      ∙ ap (λ j. row_in (store_in t.world.servers j).rows dir part name) may.owner
      ∙ ap (λ (v : NodeAndRows). row_in v.rows dir part name) (store_was t.world.servers s state may.is)

  allowed : Allows t.past.entries ask.call reply
  allowed = subst (λ o. Allows t.past.entries ask.call (found o until)) before (allowed_look t.past.entries ask.call until dir name may.asked)

  given_same : given (entries_of (t.past.made ++ entry ∷ [])) ≡ given (entries_of t.past.made)
  given_same =
      ap given (entries_push t.past.made entry) ∙ given_push (entries_of t.past.made) entry.entry
      ∙ ap (λ ns. given (entries_of t.past.made) ++ ns) (given_look ask.call reply dir name may.asked) ∙ append-nil (given (entries_of t.past.made))

  legal_look : LegalKept t.past.start t.past.entries (t.past.made ++ entry ∷ [])
  legal_look = record {
    legal = subst (IsLegal t.past.start) (sym (entries_push t.past.made entry))
        (legal_push t.past.start (entries_of t.past.made) entry.entry inv.legal.legal (subst (λ m. Allows m ask.call reply) inv.legal.now allowed) (inl (given_look ask.call reply dir name may.asked)));
    now = inv.legal.now ∙ sym (after_look (map_after t.past.start (entries_of t.past.made)) ask.call reply dir name may.asked)
        ∙ sym (map_push t.past.start (entries_of t.past.made) entry.entry) ∙ ap (map_after t.past.start) (sym (entries_push t.past.made entry));
  }

  covers_look : (k : ℕ) (e : MadeV) → slice_get (t.past.made ++ entry ∷ []) k ≡ Some e → e.kind ≡ Change → (d : ℕ) (n : List ℕ) → asked_of e.entry.call ≡ ChangeOf d n
      → e.entry.seq ≤ seq_of (session_in (store_in t.world.servers (server_for servers d (keepers.holder d n))).node d (keepers.holder d n) e.entry.client)
  covers_look k e at kind d n asked = elim (get_pushed t.past.made entry k e at) [
    | inl h ↦ inv.sessions.session_covers k e h kind d n asked
    | inr h ↦ let look : entry.kind ≡ Change = ap (λ (x : MadeV). x.kind) h.1 ∙ kind in cc
  ]

  pub look_keeps : Inv (look_at t state ask dir name until)
  look_keeps = record {
    sizes = inv.sizes;
    rows = inv.rows;
    calls = inv.calls;
    made = made_look;
    legal = legal_look;
    sessions = record {
      session_true = λ d p c kept e. among_more (entry ∷ []) (inv.sessions.session_true d p c kept e);
      session_covers = covers_look;
    };
    messages = record {
      request_true = each_push msg inv.messages.request_true tt;
      answer_true = each_push msg (each_map inv.messages.answer_true (λ k m a. answer_more t.past.made (entry ∷ []) k m a))
          (among_last t.past.made entry (record { client' = refl; seq' = refl; reply' = refl; kind = inr refl }));
    };
    answers = record {
      answered_taken = taken_said t inv msg;
      answered_made = each_map inv.answers.answered_made (λ k a m. among_more (entry ∷ []) m);
    };
    numbers = record {
      next_within = inv.numbers.next_within;
      given_below = subst (AllByRecursion (IsGivenBelow servers (store_in t.world.servers))) (sym given_same) inv.numbers.given_below;
    };
    doubt = doubt_said t inv msg;
    bits = record { own_kept = inv.bits.own_kept; bits_kept = inv.bits.bits_kept; sent_kept = each_push msg inv.bits.sent_kept tt };
  }
