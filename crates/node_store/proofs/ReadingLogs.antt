-- A log body by body: for which store the bodies that were read stand, and where they stand for none.
use Rattle.std.proofs.Common.{◌≡◌, ◌∙◌, sym, ap, subst, refl, ℕ, ◌+◌, ◌≤◌, List, [], ◌∷◌, ◌++◌, append_assoc, length, arith, true, Option, Some, None, inl, inr}
use Rattle.std.proofs.lemmas.List.{length-append}
use Rattle.mds_base.specs.declared.setup.Setup.{Setup}
use Rattle.mds_base.specs.declared.store_fault.Damage.{Damage}
use Rattle.mds_base.specs.declared.store_fault.Damage.TheVariants as damages
use Rattle.mds_base.specs.declared.store_fault.StoreFault.{StoreFault}
use Rattle.mds_base.specs.declared.store_fault.StoreFault.TheVariants as faults
use Rattle.mds_out.specs.Known.{OnTold}
use Rattle.records.specs.Spelling.{record_spelling}
use Rattle.gate_log.specs.Log.{HoldsLog, log_bytes}
use Rattle.gate_log.specs.LogState.{LogState}
use Rattle.gate_log.specs.Calls.{HasRead, ReadsOn}
use Rattle.node_core.specs.Nodes.{NodeAndRows}
use Rattle.node_core.specs.Serving.{replayed_all}
use Rattle.node_store.specs.Damage.{NoneFollows, IsWrongAt}
use Rattle.node_store.specs.Stands.{StandFor, all_of, all_follow, head_of, new_store}
use Rattle.node_store.specs.Store.{HoldsStore}
use Rattle.node_store.specs.Reading.{LeadsOn, IsWrongWithin, IsWrongHead, HasReplayed, IsRefusal, IsBad}
use Rattle.node_core.specs.Durable.{durable}
use Rattle.node_core.proofs.Durably.{new_durably, replayed_all_durably}
use Rattle.node_store.proofs.Standing.{replayed_more, follow_more, stand_more}
use Rattle.node_store.proofs.StandingAlike.{all_follow_durably, none_follows_durably}

-- ---- bodies that stand for a store

-- the head alone stands for the new store
pub stand_first : (server : ℕ) (setup : Setup) (body : List ℕ) → body ≡ record_spelling (head_of server setup) → StandFor server setup (body ∷ []) (new_store server setup)
stand_first server setup body is = record { rest = []; items = []; head = ap (λ (b : List ℕ). b ∷ []) is; are = tt; follow = refl; leads = new_durably server setup }

-- one body more, whose records may follow
pub stand_on : (server : ℕ) (setup : Setup) (bodies : List (List ℕ)) (old new : NodeAndRows) (body : List ℕ) → StandFor server setup bodies old → LeadsOn old body new → StandFor server setup (bodies ++ body ∷ []) new
stand_on server setup bodies old new body s leads = subst (StandFor server setup (bodies ++ body ∷ [])) (sym leads.leads) (stand_more server setup bodies old body leads.items s leads.is leads.follow)

-- ---- what a refusal says

-- of a file that reads as before, and with a weaker word
pub refused_more : (bad worse : ℕ → Damage → List ℕ → Type 0) (seen : Option (List ℕ)) (fault : StoreFault) → ((place : ℕ) (damage : Damage) (bytes : List ℕ) → bad place damage bytes → worse place damage bytes) → IsRefusal bad seen fault → IsRefusal worse seen fault
refused_more bad worse seen faults.Device more is = tt
refused_more bad worse seen faults.Stopped more is = is
refused_more bad worse None (faults.Damaged file place damage) more is = (is.0, tt)
refused_more bad worse (Some bytes) (faults.Damaged file place damage) more is = (is.0, more place damage bytes is.1)
refused_more bad worse seen faults.Room more is = is
refused_more bad worse seen faults.OutOfMemory more is = tt

pub never_bad : (bad : ℕ → Damage → List ℕ → Type 0) (seen : Option (List ℕ)) (fault : StoreFault) → IsRefusal (λ place damage bytes. ⊥) seen fault → IsRefusal bad seen fault
never_bad bad seen fault is = refused_more (λ place damage bytes. ⊥) bad seen fault (λ place damage bytes none. absurd none) is

-- ---- the first body

pub long_enough : (body bytes : List ℕ) (after : List (List ℕ)) → HoldsLog (body ∷ after) bytes → 2 ≤ length bytes
long_enough body bytes after holds = omega (arith, ap length holds.split, length-append (log_bytes (body ∷ after)) (holds.gate ∷ holds.rest))

pub first_read : (seen : Option (List ℕ)) (log : LogState) (server : ℕ) (setup : Setup) (next : ℕ) (body : List ℕ) → OnTold seen (ReadsOn log [] (Some next) body) → body ≡ record_spelling (head_of server setup)
    → OnTold seen (HasReplayed server setup log next (new_store server setup))
first_read None log server setup next body has is = tt
first_read (Some bytes) log server setup next body has is = record { bodies = body ∷ []; has = has; stands = stand_first server setup body is }

wrong_first : (log : LogState) (server : ℕ) (setup : Setup) (next : ℕ) (body bytes : List ℕ) (damage : Damage) → HasRead log next (body ∷ []) bytes → IsWrongHead server setup body damage → IsBad server setup 5 damage bytes
wrong_first log server setup next body bytes damages.Spelling has wrong =
    (long_enough body bytes has.after has.at.is.holds, inr (inl (record { body = body; first = record { after = has.after; holds = has.at.is.holds }; none = wrong; place_is = refl })))
wrong_first log server setup next body bytes (damages.Sum kept found) has wrong = wrong
wrong_first log server setup next body bytes (damages.Head kept wanted) has wrong =
    record { first = record { after = has.after; holds = subst (λ (b : List ℕ). HoldsLog (b ∷ has.after) bytes) wrong.spelled has.at.is.holds }; is = wrong.is; wanted_is = wrong.wanted_is; differ = wrong.differ; place_is = refl }

pub first_wrong : (seen seen' : Option (List ℕ)) → seen' ≡ seen → (log : LogState) (server : ℕ) (setup : Setup) (next : ℕ) (body : List ℕ) (damage : Damage) → OnTold seen' (ReadsOn log [] (Some next) body) → IsWrongHead server setup body damage
    → OnTold seen (IsBad server setup 5 damage)
first_wrong seen seen' same log server setup next body damage has wrong = at seen (subst (λ (s : Option (List ℕ)). OnTold s (ReadsOn log [] (Some next) body)) same has)
  where
    at : (s : Option (List ℕ)) → OnTold s (ReadsOn log [] (Some next) body) → OnTold s (IsBad server setup 5 damage)
    at None there = tt
    at (Some bytes) there = wrong_first log server setup next body bytes damage there wrong

-- ---- a body more

-- what reading the next body gives, in a file that reads as before
abbrev pub Reads : Option (List ℕ) → Option (List ℕ) → LogState → ℕ → Option ℕ → List ℕ → Type 0
Reads seen seen' log at next body = (read : List (List ℕ)) → OnTold seen (HasRead log at read) → OnTold seen' (ReadsOn log read next body)

module _ (server : ℕ) (setup : Setup) (log : LogState) (at : ℕ) where
  ended : (seen : Option (List ℕ)) (body : List ℕ) (store : NodeAndRows) → Reads seen seen log at None body → OnTold seen (HasReplayed server setup log at store) → OnTold seen (HoldsStore server setup log store)
  ended None body store reads has = tt
  ended (Some bytes) body store reads has = record { bodies = has.bodies; is = reads has.bodies has.has; stands = has.stands }

  went_on : (seen : Option (List ℕ)) (next : ℕ) (body : List ℕ) (old new : NodeAndRows) → Reads seen seen log at (Some next) body → LeadsOn old body new → OnTold seen (HasReplayed server setup log at old) → OnTold seen (HasReplayed server setup log next new)
  went_on None next body old new reads leads has = tt
  went_on (Some bytes) next body old new reads leads has = record { bodies = has.bodies ++ body ∷ []; has = reads has.bodies has.has; stands = stand_on server setup has.bodies old new body has.stands leads }

  wrong_at : (next place : ℕ) (body bytes : List ℕ) (old : NodeAndRows) → HasReplayed server setup log at old bytes → ((read : List (List ℕ)) → HasRead log at read bytes → HasRead log next (read ++ body ∷ []) bytes) → IsWrongWithin old body place → IsWrongAt server setup bytes (at + 5 + place)
  wrong_at next place body bytes old has reads wrong =
      let s = has.stands in
      let read = reads has.bodies has.has in
      let new = new_store server setup in
      let none_there : NoneFollows (replayed_all (durable old) wrong.front) wrong.rest = subst (λ (store : NodeAndRows). NoneFollows store wrong.rest) (sym (replayed_all_durably old wrong.front)) (none_follows_durably (replayed_all old wrong.front) wrong.rest wrong.none) in
      let parts : (has.bodies ++ body ∷ []) ++ read.after ≡ record_spelling (head_of server setup) ∷ s.rest ++ body ∷ read.after = append_assoc has.bodies (body ∷ []) read.after ∙ ap (λ (b : List (List ℕ)). b ++ body ∷ read.after) s.head in
      record {
        before = s.rest;
        body = body;
        after = read.after;
        holds = subst (λ (b : List (List ℕ)). HoldsLog b bytes) parts read.at.is.holds;
        items = s.items;
        are = s.are;
        front = wrong.front;
        each = wrong.each;
        rest = wrong.rest;
        split = wrong.split;
        follow = follow_more new (all_of s.items) wrong.front s.follow (subst (λ (store : NodeAndRows). all_follow store wrong.front ≡ true) s.leads (all_follow_durably old wrong.front ∙ wrong.follow));
        none = subst (λ (store : NodeAndRows). NoneFollows store wrong.rest) (ap (λ (store : NodeAndRows). replayed_all store wrong.front) s.leads ∙ sym (replayed_more new (all_of s.items) wrong.front)) none_there;
        empty = wrong.empty;
        place_is = omega (arith, has.has.at.place_is, ap (λ (b : List (List ℕ)). length (log_bytes b)) s.head, wrong.place_is);
      }

  went_wrong : (seen : Option (List ℕ)) (next place : ℕ) (body : List ℕ) (old : NodeAndRows) → Reads seen seen log at (Some next) body → IsWrongWithin old body place → OnTold seen (HasReplayed server setup log at old) → OnTold seen (IsBad server setup (at + 5 + place) damages.Spelling)
  went_wrong None next place body old reads wrong has = tt
  went_wrong (Some bytes) next place body old reads wrong has =
      let w = wrong_at next place body bytes old has reads wrong in
      (long_enough (record_spelling (head_of server setup)) bytes (w.before ++ w.body ∷ w.after) w.holds, inr (inr w))

module _ (seen seen' : Option (List ℕ)) (same : seen' ≡ seen) (server : ℕ) (setup : Setup) (log : LogState) (at : ℕ) (body : List ℕ) where
  still : (next : Option ℕ) → Reads seen seen' log at next body → Reads seen seen log at next body
  still next reads = subst (λ (s : Option (List ℕ)). Reads seen s log at next body) same reads

  pub ends_there : (store : NodeAndRows) → Reads seen seen' log at None body → OnTold seen (HasReplayed server setup log at store) → OnTold seen' (HoldsStore server setup log store)
  ends_there store reads has = subst (λ (s : Option (List ℕ)). OnTold s (HoldsStore server setup log store)) (sym same) (ended server setup log at seen body store (still None reads) has)

  pub goes_on_there : (next : ℕ) (old new : NodeAndRows) → Reads seen seen' log at (Some next) body → LeadsOn old body new → OnTold seen (HasReplayed server setup log at old) → OnTold seen' (HasReplayed server setup log next new)
  goes_on_there next old new reads leads has = subst (λ (s : Option (List ℕ)). OnTold s (HasReplayed server setup log next new)) (sym same) (went_on server setup log at seen next body old new (still (Some next) reads) leads has)

  pub is_wrong_there : (next place : ℕ) (old : NodeAndRows) → Reads seen seen' log at (Some next) body → IsWrongWithin old body place → OnTold seen (HasReplayed server setup log at old) → OnTold seen (IsBad server setup (at + 5 + place) damages.Spelling)
  is_wrong_there next place old reads wrong has = went_wrong server setup log at seen next place body old (still (Some next) reads) wrong has
