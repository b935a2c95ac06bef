-- A run that the invariant holds of is explained.
use Rattle.std.proofs.Common.{◌≡◌, ◌∙◌, sym, ap, subst, refl, ℕ, suc, ◌==◌, Bool, true, false, cond, List, [], ◌∷◌, ◌++◌, Some, inl, inr, filter, append_assoc}
use Rattle.std.specs.Prelude.{◌⊎◌}
use Rattle.std.specs.List.{slice_get}
use Rattle.std.proofs.lemmas.Bool.{eqb-true, eq-eqb}
use Rattle.mds_base.specs.declared.call.Call.{Call}
use Rattle.mds_base.specs.declared.call.Call.TheVariants.{Lookup}
use Rattle.mds_base.specs.declared.entry.Entry.{Entry}
use Rattle.mds_base.specs.Entries.{Entries}
use Rattle.mds_base.specs.History.{IsLegal, IsLookup}
use Rattle.mds_base.proofs.Histories.{dropped_legal}
use Rattle.records.specs.declared.msg.Msg.TheVariants.{Answer}
use Rattle.node_core.specs.Rules.{asked_of, LookOf}
use Rattle.mds_base.specs.Lists.{Among}
use Rattle.world.specs.Histories.{MadeV, IssuedV, AnsweredV, Trace, Kind, Change, Looked, entries_of, stands, stands_as, is_taken, effects, IsSameCall, IsExplained}
use Rattle.mds_base.proofs.Grow.{once_same}
use Rattle.mds_base.proofs.Filters.{filter_from, filter_to, filter_once, any_true, any_from}
use Rattle.world.proofs.Tables.{is_lookup, no_look_changes}
use Rattle.world.proofs.Invariant.{Inv, IsOfKind, IsSentAs}

dropped_of : (answered : List AnsweredV) (kind : Kind) (call : Call) → IsOfKind kind call → stands_as answered kind ≡ false → (d : ℕ) × (n : List ℕ) × (call ≡ Lookup d n)
dropped_of answered Change call k e = cc
dropped_of answered (Looked place) call k e = is_lookup call k.0 k.1 k.2

-- dropping lookups leaves a legal history legal
legal_of : (start : Entries) (p : MadeV → Bool) (front : List Entry) (x : MadeV) (xs : List MadeV) (b : Bool) → p x ≡ b → (p x ≡ false → IsLookup x.entry)
    → ((f : List Entry) → IsLegal start (f ++ entries_of xs) → IsLegal start (f ++ entries_of (filter p xs)))
    → IsLegal start (front ++ x.entry ∷ entries_of xs) → IsLegal start (front ++ entries_of (cond b (x ∷ filter p xs) (filter p xs)))
legal_of start p front x xs true px look rest legal =
    subst (IsLegal start) (append_assoc front (x.entry ∷ []) (entries_of (filter p xs)))
    (rest (front ++ x.entry ∷ []) (subst (IsLegal start) (sym (append_assoc front (x.entry ∷ []) (entries_of xs))) legal))
legal_of start p front x xs false px look rest legal = rest front (dropped_legal start front (entries_of xs) x.entry (look px) legal)

legal_filter : (start : Entries) (p : MadeV → Bool) (made : List MadeV) (front : List Entry) → ((k : ℕ) (x : MadeV) → slice_get made k ≡ Some x → p x ≡ false → IsLookup x.entry)
    → IsLegal start (front ++ entries_of made) → IsLegal start (front ++ entries_of (filter p made))
legal_filter start p [] front look legal = legal
legal_filter start p (x ∷ xs) front look legal =
    legal_of start p front x xs (p x) refl (look 0 x refl) (λ f h. legal_filter start p xs f (λ k y at px. look (suc k) y at px) h) legal

module _ (t : Trace) (inv : Inv t) where
  abbrev p : MadeV → Bool
  p = stands t.past.answered

  legal : IsLegal t.past.start (entries_of (effects t.past))
  legal = legal_filter t.past.start p t.past.made [] (λ k x at px. dropped_of t.past.answered x.kind x.entry.call (inv.made.made_kind.at k x at) px) inv.legal.legal

  -- two entries of one call have one call
  one_call : (i j : ℕ) (x y : MadeV) → slice_get t.past.made i ≡ Some x → slice_get t.past.made j ≡ Some y → IsSameCall x y → x.entry.call ≡ y.entry.call
  one_call i j x y ei ej same =
      let a = inv.made.made_issued.at i x ei in
      let b = inv.made.made_issued.at j y ej in
      let one : a.item ≡ b.item = once_same inv.calls.issued_once a.place b.place a.item b.item a.is b.is
      (record { client = a.good.client ∙ same.client ∙ sym b.good.client; seq = a.good.seq ∙ same.seq ∙ sym b.good.seq }) in
      sym a.good.call ∙ ap (λ (u : IssuedV). u.call) one ∙ b.good.call

  taker : (x : MadeV) (place k : ℕ) → slice_get t.past.made k ≡ Some x → x.kind ≡ Looked place → stands_as t.past.answered x.kind ≡ true → Among t.past.answered (λ j a. (a.message ≡ place) × (a.client ≡ x.entry.client) × (a.seq ≡ x.entry.seq))
  taker x place k at kind passes =
      let taken : is_taken t.past.answered place ≡ true = subst (λ w. stands_as t.past.answered w ≡ true) kind passes in
      let sent : IsSentAs t.world.sent x (Looked place) = subst (IsSentAs t.world.sent x) kind (inv.made.looked_sent.at k x at) in
      let r = any_true (λ (a : AnsweredV). a.message == place) t.past.answered taken in
      let there : r.item.message ≡ place = eqb-true r.item.message place r.good in
      let h = inv.answers.answered_taken.at r.place r.item r.is in
      let m : Some (Answer r.item.client r.item.seq h.0 r.item.reply) ≡ Some (Answer x.entry.client x.entry.seq sent.0 x.entry.reply) = sym h.1 ∙ ap (slice_get t.world.sent) there ∙ sent.1 in
      record { place = r.place; item = r.item; is = r.is; good = (there, cc, cc) }

  once_kinds : (kx ky : Kind) (i j : ℕ) (x y : MadeV) → slice_get t.past.made i ≡ Some x → slice_get t.past.made j ≡ Some y → x.kind ≡ kx → y.kind ≡ ky → p x ≡ true → p y ≡ true → IsSameCall x y → i ≡ j
  once_kinds Change Change i j x y ei ej kx ky px py same = inv.made.change_once.same i j x y ei ej (record { left = kx; right = ky; client = same.client; seq = same.seq })
  once_kinds Change (Looked q) i j x y ei ej kx ky px py same =
      let a : IsOfKind Change x.entry.call = subst (λ w. IsOfKind w x.entry.call) kx (inv.made.made_kind.at i x ei) in
      let b : IsOfKind (Looked q) y.entry.call = subst (λ w. IsOfKind w y.entry.call) ky (inv.made.made_kind.at j y ej) in
      absurd (no_look_changes x.entry.call a.0 b.0 a.1 b.1 a.2 (subst (λ c. asked_of c ≡ LookOf b.0 b.1) (sym (one_call i j x y ei ej same)) b.2))
  once_kinds (Looked q) Change i j x y ei ej kx ky px py same =
      let a : IsOfKind (Looked q) x.entry.call = subst (λ w. IsOfKind w x.entry.call) kx (inv.made.made_kind.at i x ei) in
      let b : IsOfKind Change y.entry.call = subst (λ w. IsOfKind w y.entry.call) ky (inv.made.made_kind.at j y ej) in
      absurd (no_look_changes y.entry.call b.0 a.0 b.1 a.1 b.2 (subst (λ c. asked_of c ≡ LookOf a.0 a.1) (one_call i j x y ei ej same) a.2))
  once_kinds (Looked q) (Looked r) i j x y ei ej kx ky px py same =
      let a = taker x q i ei kx px in
      let b = taker y r j ej ky py in
      let one : a.item ≡ b.item = once_same inv.calls.answered_once a.place b.place a.item b.item a.is b.is
      (record { client = a.good.1 ∙ same.client ∙ sym b.good.1; seq = a.good.2 ∙ same.seq ∙ sym b.good.2 }) in
      let qr : q ≡ r = sym a.good.0 ∙ ap (λ (u : AnsweredV). u.message) one ∙ b.good.0 in
      inv.made.looked_once.same i j x y ei ej (record { place = q; left = kx; right = ky ∙ ap Looked (sym qr) })

  stands_kind : (j : ℕ) (a : AnsweredV) → slice_get t.past.answered j ≡ Some a → (e : MadeV) → (e.kind ≡ Change) ⊎ (e.kind ≡ Looked a.message) → p e ≡ true
  stands_kind j a at e kind = elim kind [
    | inl h ↦ ap (stands_as t.past.answered) h
    | inr h ↦ ap (stands_as t.past.answered) h ∙ any_from (λ (b : AnsweredV). b.message == a.message) t.past.answered j a at (eq-eqb a.message a.message refl)
  ]

  pub explained : IsExplained t.past
  explained = record {
    legal = legal;
    once = filter_once p IsSameCall t.past.made (λ i j x y ei ej px py same. once_kinds x.kind y.kind i j x y ei ej refl refl px py same);
    issued = record { at = λ k e at. let f = filter_from p t.past.made k e at in inv.made.made_issued.at f.place e f.is };
    answered = record {
      at = λ k a at.
          let m = inv.answers.answered_made.at k a at in
          let w = filter_to p t.past.made m.place m.item m.is (stands_kind k a at m.item m.good.kind) in
          record { place = w.place; item = m.item; is = w.is; good = m.good.answer };
    };
  }
