-- A change that is carried out keeps the invariant, whether a server serves it or keeps its record at a restart.
use Rattle.std.proofs.Common.{◌≡◌, ◌∙◌, sym, ap, subst, refl, ℕ, ◌<◌, ◌≤◌, List, [], ◌∷◌, ◌++◌, Option, Some, None, inl, inr, arith}
use Rattle.std.specs.List.{slice_get}
use Rattle.std.specs.FinMap as map
use Rattle.mds_base.specs.declared.ask.Ask.{Ask}
use Rattle.mds_base.specs.declared.call.Call.{Call}
use Rattle.mds_base.specs.declared.reply.Final.{Final}
use Rattle.mds_base.specs.declared.reply.Reply.TheVariants.{Said}
use Rattle.mds_base.specs.Entries.{Place}
use Rattle.mds_base.specs.PlainRules.{after, edit_of}
use Rattle.mds_base.proofs.Places.{places_total, exact_places, edited_apart}
use Rattle.records.specs.declared.msg.Msg.{Msg}
use Rattle.records.specs.Messages.{server_of_msg}
use Rattle.sessions.specs.declared.kept.Kept.{Kept}
use Rattle.sessions.specs.Kept.{seq_of}
use Rattle.node_core.specs.Nodes.{NodeAndRows, PartKey, server_for, part_for, session_in, row_in, noted_in}
use Rattle.node_core.specs.Rules.{ChangeOf, asked_of, said_in, request_in}
use Rattle.node_core.specs.Serving.{carried}
use Rattle.mds_base.specs.Entries.{edited_entry}
use Rattle.mds_base.proofs.Places.{edited_here}
use Rattle.node_core.proofs.Views.{row_here, row_apart, session_here, session_beside, session_apart, parts_total, exact_parts}
use Rattle.world.specs.declared.state.ServerState.{ServerState}
use Rattle.mds_base.specs.Lists.{Among}
use Rattle.world.specs.Worlds.{store_of}
use Rattle.world.specs.Histories.{MadeV, IssuedV, Trace, Change}
use Rattle.mds_base.proofs.Grow.{get_pushed, among_last, among_more, among_map, once_same}
use Rattle.node_core.proofs.Keys.{same_or_apart}
use Rattle.world.proofs.Choices.{nat_or_apart, three_or_apart, pair_same, judged_new}
use Rattle.world.proofs.Stores.{store_was}
use Rattle.world.proofs.Tables.{after_change, one_place}
use Rattle.world.proofs.Keepers.{Keepers, keepers, own_holder}
use Rattle.world.proofs.Invariant.{Inv, RowsKept, SessionsKept, MayCarry, AsksIf, AsksFor, AskTrue, RequestTrue, IsIssueOf, IsNotedAs, store_in}

-- the issue of which a request tells
told_of : (who : Keepers) (count : ℕ) (issued : List IssuedV) (client seq : ℕ) (call : Call) (to : Option ℕ) (o : Option Ask) → AsksIf client seq call o → AskTrue who count issued to o → Among issued (λ j i. IsIssueOf i client seq call)
told_of who count issued client seq call to None a r = absurd a
told_of who count issued client seq call to (Some ask) a r = among_map r.issue (λ j i h. record { client' = h.client' ∙ a.client'; seq' = h.seq' ∙ a.seq'; call' = h.call' ∙ a.call'; served = h.served })

pub told_issue : (who : Keepers) (count : ℕ) (issued : List IssuedV) (client seq : ℕ) (call : Call) (m : Msg) → AsksFor client seq call m → RequestTrue who count issued m → Among issued (λ j i. IsIssueOf i client seq call)
told_issue who count issued client seq call m a r = told_of who count issued client seq call (server_of_msg m) (request_in m) a r

abbrev said_or : Final → Option Kept → Final
said_or d None = d
said_or d (Some kept) = kept.said

module _ (t : Trace) (inv : Inv t) (s : ℕ) (state : ServerState) (is : slice_get t.world.servers s ≡ Some state) (client seq : ℕ) (call : Call) (dir : ℕ) (name : List ℕ)
    (may : MayCarry t.world.setup.servers t.world.sent s (store_of state) client seq call dir name) where
  abbrev servers : ℕ
  servers = t.world.setup.servers

  abbrev store : NodeAndRows
  store = store_of state

  abbrev said : Final
  said = said_in (store_of state) call dir name

  abbrev old : ℕ → NodeAndRows
  old = store_in t.world.servers

  abbrev part : ℕ
  part = part_for state.node dir name

  pub was : old s ≡ store
  was = store_was t.world.servers s state is

  holds : keepers.holder dir name ≡ part
  holds = own_holder state.node dir name (inv.bits.own_kept.at s state is)

  -- the row of the name, by the map
  pub before : map.get t.past.entries (dir, name) ≡ row_in store.rows dir part name
  before =
      inv.rows.map_rows dir name
      ∙ ap (λ p. row_in (old (server_for servers dir p)).rows dir p name) holds
      ∙ ap (λ j. row_in (old j).rows dir part name) may.owner
      ∙ ap (λ (v : NodeAndRows). row_in v.rows dir part name) was

  pub issue : Among t.past.issued (λ j i. IsIssueOf i client seq call)
  issue = told_issue keepers servers t.past.issued client seq call may.told.item may.told.good (inv.messages.request_true.at may.told.place may.told.item may.told.is)

  pub from_one : 1 ≤ seq
  from_one = subst (λ n. 1 ≤ n) issue.good.seq' (inv.calls.issued_below.at issue.place issue.item issue.is).from_one

  newer : seq_of (session_in store.node dir part client) < seq
  newer = judged_new (session_in store.node dir part client) seq may.newer from_one

  -- what the server kept of the client before
  kept_before : (e : MadeV) → e.entry.client ≡ client → session_in (old (server_for servers dir part)).node dir part e.entry.client ≡ session_in store.node dir part client
  kept_before e c =
      ap (λ j. session_in (old j).node dir part e.entry.client) may.owner ∙ ap (λ (v : NodeAndRows). session_in v.node dir part e.entry.client) was ∙ ap (session_in store.node dir part) c

  -- no change of this call was made: its holder would keep its number
  pub is_new : (k : ℕ) (e : MadeV) → slice_get t.past.made k ≡ Some e → e.kind ≡ Change → e.entry.client ≡ client → e.entry.seq ≡ seq → ⊥
  is_new k e at kind c q =
      let i = inv.made.made_issued.at k e at in
      let one : i.item ≡ issue.item = once_same inv.calls.issued_once i.place issue.place i.item issue.item i.is issue.is
      (record { client = i.good.client ∙ c ∙ sym issue.good.client'; seq = i.good.seq ∙ q ∙ sym issue.good.seq' }) in
      let same : e.entry.call ≡ call = sym i.good.call ∙ ap (λ (x : IssuedV). x.call) one ∙ issue.good.call' in
      let low : e.entry.seq ≤ seq_of (session_in (old (server_for servers dir (keepers.holder dir name))).node dir (keepers.holder dir name) e.entry.client) = inv.sessions.session_covers k e at kind dir name (ap asked_of same ∙ may.asked) in
      let low' : e.entry.seq ≤ seq_of (session_in (old (server_for servers dir part)).node dir part e.entry.client) = subst (λ p. e.entry.seq ≤ seq_of (session_in (old (server_for servers dir p)).node dir p e.entry.client)) holds low in
      let last : e.entry.seq ≤ seq_of (session_in store.node dir part client) = subst (λ o. e.entry.seq ≤ seq_of o) (kept_before e c) low' in
      let above = newer in
      absurd (omega (arith, last, above, q))

  module _ (new : ℕ → NodeAndRows) (here : new s ≡ carried store client seq call dir name) (apart : (k : ℕ) → (k ≡ s → ⊥) → new k ≡ old k) where
    row_elsewhere : (k d p : ℕ) (n : List ℕ) → (d ≡ dir → p ≡ part → n ≡ name → ⊥) → row_in (new k).rows d p n ≡ row_in (old k).rows d p n
    row_elsewhere k d p n differ =
        elim (nat_or_apart k s) [
          | inl e ↦ subst (λ j. row_in (new j).rows d p n ≡ row_in (old j).rows d p n) (sym e)
              (ap (λ (v : NodeAndRows). row_in v.rows d p n) here ∙ row_apart store.rows dir part name call said d p n differ ∙ sym (ap (λ (v : NodeAndRows). row_in v.rows d p n) was))
          | inr e ↦ ap (λ (v : NodeAndRows). row_in v.rows d p n) (apart k e)
        ]

    there : map.get (after t.past.entries call (Said said)) (dir, name) ≡ row_in (new (server_for servers dir (keepers.holder dir name))).rows dir (keepers.holder dir name) name
    there =
        ap (λ m. map.get m (dir, name)) (after_change t.past.entries call said dir name may.asked)
        ∙ edited_here t.past.entries (dir, name) (edit_of call (Said said) (map.get t.past.entries (dir, name)))
        ∙ ap (λ o. edited_entry (edit_of call (Said said) o) o) before
        ∙ sym (row_here store.rows dir part name call said)
        ∙ sym (ap (λ (v : NodeAndRows). row_in v.rows dir part name) here)
        ∙ sym (ap (λ j. row_in (new j).rows dir part name) may.owner)
        ∙ sym (ap (λ p. row_in (new (server_for servers dir p)).rows dir p name) holds)

    pub rows_note : RowsKept keepers servers new (after t.past.entries call (Said said))
    rows_note = record {
      map_rows = λ d n. elim (same_or_apart places_total exact_places (d, n) (dir, name)) [
        | inl e ↦ subst (λ (q : Place). map.get (after t.past.entries call (Said said)) q ≡ row_in (new (server_for servers q.0 (keepers.holder q.0 q.1))).rows q.0 (keepers.holder q.0 q.1) q.1) (sym e) there
        | inr differ ↦
            ap (λ m. map.get m (d, n)) (after_change t.past.entries call said dir name may.asked)
            ∙ edited_apart t.past.entries (dir, name) (edit_of call (Said said) (map.get t.past.entries (dir, name))) (d, n) differ
            ∙ inv.rows.map_rows d n
            ∙ sym (row_elsewhere (server_for servers d (keepers.holder d n)) d (keepers.holder d n) n (λ ed ep en. differ (pair_same ed en)))
      ];
    }

    abbrev now_kept : Kept
    now_kept = record { seq = seq; said = said }

    session_there : session_in (new (server_for servers dir part)).node dir part client ≡ Some now_kept
    session_there =
        ap (λ j. session_in (new j).node dir part client) may.owner
        ∙ ap (λ (v : NodeAndRows). session_in v.node dir part client) here
        ∙ session_here store.node store.rows dir part name client seq call said

    session_at_s : (d p c : ℕ) → (d ≡ dir → p ≡ part → c ≡ client → ⊥) → session_in (noted_in store.node store.rows dir part name client seq call said) d p c ≡ session_in store.node d p c
    session_at_s d p c differ =
        elim (same_or_apart parts_total exact_parts (d, p) (dir, part)) [
          | inl e ↦ subst (λ (q : PartKey). session_in (noted_in store.node store.rows dir part name client seq call said) q.0 q.1 c ≡ session_in store.node q.0 q.1 c) (sym e)
              (session_beside store.node store.rows dir part name client seq call said c (λ ec. differ (ap (λ (q : PartKey). q.0) e) (ap (λ (q : PartKey). q.1) e) ec))
          | inr e ↦ session_apart store.node store.rows dir part name client seq call said d p c e
        ]

    session_elsewhere : (k d p c : ℕ) → (d ≡ dir → p ≡ part → c ≡ client → ⊥) → session_in (new k).node d p c ≡ session_in (old k).node d p c
    session_elsewhere k d p c differ =
        elim (nat_or_apart k s) [
          | inl e ↦ subst (λ j. session_in (new j).node d p c ≡ session_in (old j).node d p c) (sym e)
              (ap (λ (v : NodeAndRows). session_in v.node d p c) here ∙ session_at_s d p c differ ∙ sym (ap (λ (v : NodeAndRows). session_in v.node d p c) was))
          | inr e ↦ ap (λ (v : NodeAndRows). session_in v.node d p c) (apart k e)
        ]

    abbrev entry : MadeV
    entry = record { entry = record { client = client; seq = seq; call = call; reply = Said said }; kind = Change; at = t.past.count }

    -- what is kept where the change was noted
    session_now : (d p c : ℕ) → d ≡ dir → p ≡ part → c ≡ client → session_in (new (server_for servers d p)).node d p c ≡ Some now_kept
    session_now d p c ed ep ec =
        ap (λ z. session_in (new (server_for servers z p)).node z p c) ed
        ∙ ap (λ y. session_in (new (server_for servers dir y)).node dir y c) ep
        ∙ ap (session_in (new (server_for servers dir part)).node dir part) ec
        ∙ session_there

    true_now : (d p c : ℕ) (kept : Kept) → session_in (new (server_for servers d p)).node d p c ≡ Some kept → Among (t.past.made ++ entry ∷ []) (λ k e. IsNotedAs e c kept)
    true_now d p c kept e =
        elim (three_or_apart d p c dir part client) [
          | inl h ↦
              let same : Some kept ≡ Some now_kept = sym e ∙ session_now d p c h.0 h.1 h.2 in
              among_last t.past.made entry (record { kind = refl; client' = sym h.2; seq = ap (λ o. seq_of o) (sym same); reply = ap (λ o. Said (said_or said o)) (sym same) })
          | inr differ ↦ among_more (entry ∷ []) (inv.sessions.session_true d p c kept (sym (session_elsewhere (server_for servers d p) d p c differ) ∙ e))
        ]

    new_covers : (d : ℕ) (n : List ℕ) → asked_of call ≡ ChangeOf d n → seq ≤ seq_of (session_in (new (server_for servers d (keepers.holder d n))).node d (keepers.holder d n) client)
    new_covers d n asked =
        let one = one_place call dir d name n may.asked asked in
        let same : keepers.holder d n ≡ part = ap (λ z. keepers.holder z n) (sym one.0) ∙ ap (keepers.holder dir) (sym one.1) ∙ holds in
        subst (λ o. seq ≤ seq_of o) (sym (session_now d (keepers.holder d n) client (sym one.0) same refl)) (omega arith)

    old_covers : (k : ℕ) (e : MadeV) → slice_get t.past.made k ≡ Some e → e.kind ≡ Change → (d : ℕ) (n : List ℕ) → asked_of e.entry.call ≡ ChangeOf d n
        → e.entry.seq ≤ seq_of (session_in (new (server_for servers d (keepers.holder d n))).node d (keepers.holder d n) e.entry.client)
    old_covers k e at kind d n asked =
        let low : e.entry.seq ≤ seq_of (session_in (old (server_for servers d (keepers.holder d n))).node d (keepers.holder d n) e.entry.client) = inv.sessions.session_covers k e at kind d n asked in
        elim (three_or_apart d (keepers.holder d n) e.entry.client dir part client) [
          | inl h ↦
              let low1 : e.entry.seq ≤ seq_of (session_in (old (server_for servers d part)).node d part e.entry.client) = subst (λ p. e.entry.seq ≤ seq_of (session_in (old (server_for servers d p)).node d p e.entry.client)) h.1 low in
              let low2 : e.entry.seq ≤ seq_of (session_in (old (server_for servers dir part)).node dir part e.entry.client) = subst (λ z. e.entry.seq ≤ seq_of (session_in (old (server_for servers z part)).node z part e.entry.client)) h.0 low1 in
              let low3 : e.entry.seq ≤ seq_of (session_in store.node dir part client) = subst (λ o. e.entry.seq ≤ seq_of o) (kept_before e h.2) low2 in
              let above = newer in
              subst (λ o. e.entry.seq ≤ seq_of o) (sym (session_now d (keepers.holder d n) e.entry.client h.0 h.1 h.2)) (omega (arith, low3, above))
          | inr differ ↦ subst (λ o. e.entry.seq ≤ seq_of o) (sym (session_elsewhere (server_for servers d (keepers.holder d n)) d (keepers.holder d n) e.entry.client differ)) low
        ]

    covers_now : (k : ℕ) (e : MadeV) → slice_get (t.past.made ++ entry ∷ []) k ≡ Some e → e.kind ≡ Change → (d : ℕ) (n : List ℕ) → asked_of e.entry.call ≡ ChangeOf d n
        → e.entry.seq ≤ seq_of (session_in (new (server_for servers d (keepers.holder d n))).node d (keepers.holder d n) e.entry.client)
    covers_now k e at kind d n asked =
        elim (get_pushed t.past.made entry k e at) [
          | inl before' ↦ old_covers k e before' kind d n asked
          | inr last ↦
              subst (λ (x : MadeV). asked_of x.entry.call ≡ ChangeOf d n → x.entry.seq ≤ seq_of (session_in (new (server_for servers d (keepers.holder d n))).node d (keepers.holder d n) x.entry.client)) last.1 (new_covers d n) asked
        ]

    pub sessions_note : SessionsKept keepers servers new (t.past.made ++ entry ∷ [])
    sessions_note = record { session_true = true_now; session_covers = covers_now }
