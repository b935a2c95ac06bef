-- What a server serves is a list of micro-steps, and the records of it may be made one after another: so a Serve is one,
-- whether it is done or stops with its records in doubt. All is said of any number of messages.
use Rattle.std.proofs.Common.{◌≡◌, ◌∙◌, sym, ap, subst, refl, ℕ, ◌+◌, ◌==◌, ◌&&◌, true, List, [], ◌∷◌, ◌++◌, length, Option, Some, None, append_assoc}
use Rattle.std.specs.Prelude.{slice_set}
use Rattle.std.specs.List.{slice_get, AllByRecursion, list_all}
use Rattle.std.proofs.lemmas.Bool.{and_parts}
use Rattle.std.proofs.lemmas.List.{append-nil, length-append}
use Rattle.mds_base.specs.declared.ask.Ask.{Ask}
use Rattle.mds_base.specs.declared.call.Call.{Call}
use Rattle.mds_base.specs.declared.reply.Final.{Final}
use Rattle.mds_base.specs.declared.reply.Reply.{Reply}
use Rattle.mds_base.specs.declared.reply.Reply.TheVariants.{Said}
use Rattle.mds_base.specs.Lists.{Among}
use Rattle.mds_base.proofs.Grow.{set_here, set_same, set_twice, among_last, among_map, among_more}
use Rattle.mds_base.proofs.Lists.{all_map}
use Rattle.records.specs.declared.msg.Msg.{Msg}
use Rattle.records.specs.declared.record.Record.{Record}
use Rattle.node_core.specs.Nodes.{NodeAndRows, has_numbers, server_for, part_for, session_in, bits_in}
use Rattle.node_core.specs.Rules.{Asked, ChangeOf, LookOf, NotServed, asked_of, said_in, Outcome, Silent, Looks, Repeats, Carries, outcome, request_in, Redirects, Waits}
use Rattle.mds_base.specs.Calls.{dir_of}
use Rattle.bitmap.specs.Bits.{Bits, has}
use Rattle.records.specs.declared.msg.Msg.TheVariants.{Redirect, Busy}
use Rattle.node_core.specs.Serving.{ServedV, served_as, serve_request, serve, serve_all, answer_to, carried_at, part_at}
use Rattle.node_core.proofs.Views.{noted_server, noted_setup}
use Rattle.world.specs.declared.event.ServeEnd.{ServeEnd}
use Rattle.world.specs.declared.event.ServeEnd.TheVariants as ends
use Rattle.world.specs.declared.state.ServerState.{ServerState}
use Rattle.world.specs.Worlds.{store_of, with_store}
use Rattle.world.specs.Events as events
use Rattle.world.specs.Events.{set_server, say, onto_msgs, msgs_at, can_serve, is_for_server}
use Rattle.world.specs.Histories as past
use Rattle.world.specs.Histories.{History, Trace, MadeV, Change, changed, weighed}
use Rattle.world.proofs.Choices.{two_places}
use Rattle.world.proofs.Stores.{store_was}
use Rattle.world.proofs.Invariant.{Inv, MayCarry, AsksFor, AsksIf, Follows, made_by, store_in}
use Rattle.world.proofs.Keepers.{keepers, IsKept}
use Rattle.world.proofs.Steps.{Note, Look, Tell, Refer, Defer, Down, note_at, found_at, IsToldOf}
use Rattle.world.proofs.Reaches.{Reaches, here, step, over, goes_on, reaches_keeps}
use Rattle.world.proofs.Outcomes.{OutcomeTrue, RedirectsTrue, LooksTrue, RepeatsTrue, CarriesTrue, outcome_true, owner_of}

-- the store of a server, by its number and by how many servers there are
pub record IsStoreOf (count s : ℕ) (store : NodeAndRows) : Type 0 where
  pub server : store.node.server ≡ s
  pub servers : store.node.setup.servers ≡ count

pub is_store : (t : Trace) → Inv t → (s : ℕ) (state : ServerState) → slice_get t.world.servers s ≡ Some state → IsStoreOf t.world.setup.servers s (store_of state)
is_store t inv s state is = let sizes = inv.sizes.servers_are.at s state is in record { server = sizes.server; servers = ap (λ x. x.servers) sizes.setup' }

still_store : (count s : ℕ) (store : NodeAndRows) (ask : Ask) (a : Asked) → IsStoreOf count s store → IsStoreOf count s (carried_at store ask.client ask.seq ask.call a)
still_store count s store ask (ChangeOf dir name) i =
    let said : Final = said_in store ask.call dir name in
    let part : ℕ = part_for store.node dir name in
    record {
      server = noted_server store.node store.rows dir part name ask.client ask.seq ask.call said ∙ i.server;
      servers = ap (λ x. x.servers) (noted_setup store.node store.rows dir part name ask.client ask.seq ask.call said) ∙ i.servers;
    }
still_store count s store ask (LookOf dir name) i = i
still_store count s store ask NotServed i = i

-- A request

module _ (count : ℕ) (sent : List Msg) (s : ℕ) (store : NodeAndRows) (own : IsStoreOf count s store) (numbers : has_numbers store.node ≡ true) (ask : Ask)
    (told : Among sent (λ k m. AsksFor ask.client ask.seq ask.call m)) where
  may_carry : (said : Final) (c : CarriesTrue store ask said) → MayCarry count sent s store ask.client ask.seq ask.call c.dir c.name
  may_carry said c = record { asked = c.asked; owner = owner_of store c.dir (part_for store.node c.dir c.name) count s c.owner own.servers own.server; free = c.free; newer = c.newer; numbers = numbers; told = told }

  -- the records of serving it may be made
  as_follows : (o : Outcome) (now : ℕ) → OutcomeTrue store ask now o → Follows count sent s store (served_as store ask o).records
  as_follows Silent now h = tt
  as_follows (Redirects bits) now h = tt
  as_follows (Waits part depth) now h = tt
  as_follows (Looks reply) now h = tt
  as_follows (Repeats said) now h = tt
  as_follows (Carries said) now c = (record { dir = c.dir; name = c.name; may = may_carry said c; said' = c.said'; part' = ap (part_at store) c.asked }, tt)

-- the run once a request was served that comes to this
abbrev done_as : Trace → ℕ → ServerState → Ask → Outcome → Trace
done_as t s state ask o = record {
  world = say (set_server t.world s (with_store state (served_as (store_of state) ask o).store)) (served_as (store_of state) ask o).outputs;
  past = past.served_request t.past (Some ask) (served_as (store_of state) ask o) (length t.world.sent);
}

-- the servers stay
module _ (t : Trace) (s : ℕ) (state : ServerState) (is : slice_get t.world.servers s ≡ Some state) where
  said_with : (msg : Msg) (h : History) → Reaches t (record { world = record t.world { sent = t.world.sent ++ msg ∷ [] }; past = h }) → Reaches t (record { world = say (set_server t.world s state) (msg ∷ []); past = h })
  said_with msg h r = subst (λ servers. Reaches t (record { world = record t.world { servers = servers; sent = t.world.sent ++ msg ∷ [] }; past = h })) (sym (set_same t.world.servers s state is)) r

  nothing : Reaches t (record { world = say (set_server t.world s state) []; past = t.past })
  nothing =
      subst (λ servers. Reaches t (record { world = record t.world { servers = servers; sent = t.world.sent ++ [] }; past = t.past })) (sym (set_same t.world.servers s state is))
      (subst (λ sent. Reaches t (record { world = record t.world { sent = sent }; past = t.past })) (sym (append-nil t.world.sent)) here)

module _ (t : Trace) (inv : Inv t) (s : ℕ) (state : ServerState) (is : slice_get t.world.servers s ≡ Some state) (up : state.up ≡ true) (numbers : has_numbers state.node ≡ true) (ask : Ask)
    (told : Among t.world.sent (λ k m. AsksFor ask.client ask.seq ask.call m)) where
  abbrev servers : ℕ
  servers = t.world.setup.servers

  abbrev own_store : NodeAndRows
  own_store = store_of state

  owned : IsStoreOf servers s own_store
  owned = is_store t inv s state is

  as_looks : (reply : Reply) → LooksTrue own_store ask t.world.now reply → Reaches t (done_as t s state ask (Looks reply))
  as_looks reply l =
      let until : ℕ = t.world.now + state.node.setup.lease in
      let found : Reply = found_at state l.dir l.name until in
      let owner = owner_of own_store l.dir (part_for state.node l.dir l.name) servers s l.owner owned.servers owned.server in
      subst (λ r. Reaches t (done_as t s state ask (Looks r))) (sym l.reply')
      (subst (λ a. Reaches t (record { world = say (set_server t.world s state) (answer_to ask found ∷ []); past = past.looked_as t.past ask a found (length t.world.sent) })) (sym l.asked)
      (said_with t s state is (answer_to ask found) (past.looked t.past ask found (length t.world.sent))
      (step (Look s state ask l.dir l.name until) (record { is = is; asked = l.asked; owner = owner; told = told }) here)))

  as_repeats : (said : Final) → RepeatsTrue own_store ask said → Reaches t (done_as t s state ask (Repeats said))
  as_repeats said r =
      let owner = owner_of own_store r.dir r.part servers s r.owner owned.servers owned.server in
      let old : session_in (store_in t.world.servers (server_for servers r.dir r.part)).node r.dir r.part ask.client ≡ Some r.kept =
      ap (λ j. session_in (store_in t.world.servers j).node r.dir r.part ask.client) owner
      ∙ ap (λ (v : NodeAndRows). session_in v.node r.dir r.part ask.client) (store_was t.world.servers s state is) ∙ r.session in
      let source : Among t.past.made (λ k e. IsToldOf e ask.client ask.seq said) =
      among_map (inv.sessions.session_true r.dir r.part ask.client r.kept old) (λ k e n. record { client' = n.client'; seq' = n.seq ∙ r.seq; reply' = n.reply ∙ ap Said r.said'; kind = n.kind }) in
      subst (λ a. Reaches t (record { world = say (set_server t.world s state) (answer_to ask (Said said) ∷ []); past = past.looked_as t.past ask a (Said said) (length t.world.sent) })) (sym r.asked)
      (said_with t s state is (answer_to ask (Said said)) t.past (step (Tell ask.client ask.seq ask.attempt said) source here))

  -- a redirection names kept partitions alone
  as_redirects : (bits : Bits) → RedirectsTrue own_store ask bits → Reaches t (done_as t s state ask (Redirects bits))
  as_redirects bits r =
      let known : (part : ℕ) → has (bits_in state.node r.dir) part ≡ true → IsKept keepers r.dir part = inv.bits.own_kept.at s state is r.dir in
      let kept : (part : ℕ) → has bits part ≡ true → IsKept keepers (dir_of ask.call) part =
      λ part there. subst (λ (d : ℕ). IsKept keepers d part) (sym r.on) (known part (sym (ap (λ (b : Bits). has b part) r.bits') ∙ there)) in
      said_with t s state is (Redirect ask.client ask.seq ask.attempt (dir_of ask.call) bits) t.past
      (step (Refer ask.client ask.seq ask.attempt (dir_of ask.call) bits) kept here)

  as_waits : (part depth : ℕ) → Reaches t (done_as t s state ask (Waits part depth))
  as_waits part depth =
      said_with t s state is (Busy ask.client ask.seq ask.attempt part depth) t.past
      (step (Defer ask.client ask.seq ask.attempt part depth) tt here)

  as_carries : (said : Final) → CarriesTrue own_store ask said → Reaches t (done_as t s state ask (Carries said))
  as_carries said c =
      let own : Final = said_in own_store ask.call c.dir c.name in
      let noted : Trace = note_at t s state ask.client ask.seq ask.call c.dir c.name state.doubt in
      let entry : MadeV = record { entry = record { client = ask.client; seq = ask.seq; call = ask.call; reply = Said own }; kind = Change; at = t.past.count } in
      let source : Among noted.past.made (λ k e. IsToldOf e ask.client ask.seq own) = among_last t.past.made entry (record { client' = refl; seq' = refl; reply' = refl; kind = refl }) in
      let at_name : Reaches t (record {
        world = say (set_server t.world s (with_store state (carried_at own_store ask.client ask.seq ask.call (ChangeOf c.dir c.name)))) (answer_to ask (Said own) ∷ []);
        past = changed t.past ask.client ask.seq ask.call own;
      }) =
      step (Note s state ask.client ask.seq ask.call c.dir c.name) (record { is = is; up = up; may = may_carry servers t.world.sent s own_store owned numbers ask told said c })
      (step (Tell ask.client ask.seq ask.attempt own) source here) in
      let at_call : Reaches t (done_as t s state ask (Carries own)) =
      subst (λ a. Reaches t (record { world = say (set_server t.world s (with_store state (carried_at own_store ask.client ask.seq ask.call a))) (answer_to ask (Said own) ∷ []); past = past.looked_as (changed t.past ask.client ask.seq ask.call own) ask a (Said own) (length t.world.sent) }))
      (sym c.asked) at_name in
      subst (λ f. Reaches t (done_as t s state ask (Carries f))) (sym c.said') at_call

  as_reaches : (o : Outcome) → OutcomeTrue own_store ask t.world.now o → Reaches t (done_as t s state ask o)
  as_reaches Silent h = nothing t s state is
  as_reaches (Redirects bits) h = as_redirects bits h
  as_reaches (Waits part depth) h = as_waits part depth
  as_reaches (Looks reply) h = as_looks reply h
  as_reaches (Repeats said) h = as_repeats said h
  as_reaches (Carries said) h = as_carries said h

-- A message, which is a request or does nothing

asks_as : (client seq : ℕ) (call : Call) (o : Option Ask) → (ask : Ask) → o ≡ Some ask → client ≡ ask.client → seq ≡ ask.seq → call ≡ ask.call → AsksIf client seq call o
asks_as client seq call o ask e c q l = subst (AsksIf client seq call) (sym e) (record { client' = sym c; seq' = sym q; call' = sym l })

tells : (sent : List Msg) (msg : Msg) (ask : Ask) → Among sent (λ k m. m ≡ msg) → request_in msg ≡ Some ask → Among sent (λ k m. AsksFor ask.client ask.seq ask.call m)
tells sent msg ask there e = among_map there (λ k m same. asks_as ask.client ask.seq ask.call (request_in m) ask (ap request_in same ∙ e) refl refl refl)

msg_follows : (count : ℕ) (sent : List Msg) (s : ℕ) (store : NodeAndRows) → IsStoreOf count s store → has_numbers store.node ≡ true → (o : Option Ask) (now : ℕ) → ((ask : Ask) → o ≡ Some ask → Among sent (λ k m. AsksFor ask.client ask.seq ask.call m))
    → Follows count sent s store (serve_request store o now).records
msg_follows count sent s store own numbers None now told = tt
msg_follows count sent s store own numbers (Some ask) now told = as_follows count sent s store own numbers ask (told ask refl) (outcome store ask now) now (outcome_true store ask now)

-- the run once a message was served that asks for this
abbrev done_for : Trace → ℕ → ServerState → Option Ask → Trace
done_for t s state o = record {
  world = say (set_server t.world s (with_store state (serve_request (store_of state) o t.world.now).store)) (serve_request (store_of state) o t.world.now).outputs;
  past = past.served_request t.past o (serve_request (store_of state) o t.world.now) (length t.world.sent);
}

msg_reaches : (t : Trace) → Inv t → (s : ℕ) (state : ServerState) → slice_get t.world.servers s ≡ Some state → state.up ≡ true → has_numbers state.node ≡ true → (o : Option Ask)
    → ((ask : Ask) → o ≡ Some ask → Among t.world.sent (λ k m. AsksFor ask.client ask.seq ask.call m)) → Reaches t (done_for t s state o)
msg_reaches t inv s state is up numbers None told = nothing t s state is
msg_reaches t inv s state is up numbers (Some ask) told = as_reaches t inv s state is up numbers ask (told ask refl) (outcome (store_of state) ask t.world.now) (outcome_true (store_of state) ask t.world.now)

-- Messages, one after another

-- each of them was sent
abbrev pub AreSent : List Msg → List Msg → Type 0
AreSent sent msgs = AllByRecursion (λ msg. Among sent (λ k m. m ≡ msg)) msgs

-- the server has the directory numbers for each of them
abbrev pub HasNumbersFor : NodeAndRows → List Msg → ℕ → Type 0
HasNumbersFor store [] now = Unit {0}
HasNumbersFor store (msg ∷ msgs) now = (has_numbers store.node ≡ true) × HasNumbersFor (serve store msg now).store msgs now

abbrev made_all : NodeAndRows → List Record → NodeAndRows
made_all store [] = store
made_all store (item ∷ items) = made_all (made_by store item) items

-- records may be made after others
follows_after : (count : ℕ) (sent : List Msg) (s : ℕ) (items more : List Record) (store : NodeAndRows) → Follows count sent s store items → Follows count sent s (made_all store items) more → Follows count sent s store (items ++ more)
follows_after count sent s [] more store first then' = then'
follows_after count sent s (item ∷ items) more store first then' = (first.0, follows_after count sent s items more (made_by store item) first.1 then')

-- the records of serving make the store that it gives
as_made : (store : NodeAndRows) (ask : Ask) (o : Outcome) → made_all store (served_as store ask o).records ≡ (served_as store ask o).store
as_made store ask Silent = refl
as_made store ask (Redirects bits) = refl
as_made store ask (Waits part depth) = refl
as_made store ask (Looks reply) = refl
as_made store ask (Repeats said) = refl
as_made store ask (Carries said) = refl

msg_made : (store : NodeAndRows) (o : Option Ask) (now : ℕ) → made_all store (serve_request store o now).records ≡ (serve_request store o now).store
msg_made store None now = refl
msg_made store (Some ask) now = as_made store ask (outcome store ask now)

as_store : (count s : ℕ) (store : NodeAndRows) → IsStoreOf count s store → (ask : Ask) (o : Outcome) → IsStoreOf count s (served_as store ask o).store
as_store count s store own ask Silent = own
as_store count s store own ask (Redirects bits) = own
as_store count s store own ask (Waits part depth) = own
as_store count s store own ask (Looks reply) = own
as_store count s store own ask (Repeats said) = own
as_store count s store own ask (Carries said) = still_store count s store ask (asked_of ask.call) own

msg_store : (count s : ℕ) (store : NodeAndRows) → IsStoreOf count s store → (o : Option Ask) (now : ℕ) → IsStoreOf count s (serve_request store o now).store
msg_store count s store own None now = own
msg_store count s store own (Some ask) now = as_store count s store own ask (outcome store ask now)

-- what is in doubt where a Serve of messages stops may be made
pub serve_follows : (count : ℕ) (sent : List Msg) (s : ℕ) (msgs : List Msg) (store : NodeAndRows) (now : ℕ) → IsStoreOf count s store → HasNumbersFor store msgs now → AreSent sent msgs → Follows count sent s store (serve_all store msgs now).records
unfolding serve
serve_follows count sent s [] store now own numbers are = tt
serve_follows count sent s (msg ∷ msgs) store now own numbers are =
    let next : NodeAndRows = (serve store msg now).store in
    let first = msg_follows count sent s store own numbers.0 (request_in msg) now (λ ask e. tells sent msg ask are.0 e) in
    let then' = serve_follows count sent s msgs next now (msg_store count s store own (request_in msg) now) numbers.1 are.1 in
    follows_after count sent s (serve store msg now).records (serve_all next msgs now).records store first
    (subst (λ v. Follows count sent s v (serve_all next msgs now).records) (sym (msg_made store (request_in msg) now)) then')

-- the run once these messages were served
abbrev done_all : Trace → ℕ → ServerState → List Msg → Trace
done_all t s state msgs = record {
  world = say (set_server t.world s (with_store state (serve_all (store_of state) msgs t.world.now).store)) (serve_all (store_of state) msgs t.world.now).outputs;
  past = past.served_all t.past (store_of state) msgs t.world.now (length t.world.sent);
}

-- a Serve of messages that is done is a list of micro-steps
pub serve_reaches : (msgs : List Msg) (t : Trace) → Inv t → (s : ℕ) (state : ServerState) → slice_get t.world.servers s ≡ Some state → state.up ≡ true → HasNumbersFor (store_of state) msgs t.world.now → AreSent t.world.sent msgs
    → Reaches t (done_all t s state msgs)
unfolding serve
serve_reaches [] t inv s state is up numbers are = nothing t s state is
serve_reaches (msg ∷ msgs) t inv s state is up numbers are =
    let one : ServedV = serve (store_of state) msg t.world.now in
    let next : ServerState = with_store state one.store in
    let all : ServedV = serve_all one.store msgs t.world.now in
    let t1 : Trace = done_for t s state (request_in msg) in
    let first : Reaches t t1 = msg_reaches t inv s state is up numbers.0 (request_in msg) (λ ask e. tells t.world.sent msg ask are.0 e) in
    let still : AreSent t1.world.sent msgs = all_map (λ m. Among t.world.sent (λ k x. x ≡ m)) (λ m. Among t1.world.sent (λ k x. x ≡ m)) msgs (λ m a. among_more one.outputs a) are.1 in
    let rest : Reaches t (done_all t1 s next msgs) = goes_on first (serve_reaches msgs t1 (reaches_keeps first inv) s next (set_here t.world.servers s state next is) up numbers.1 still) in
    subst (λ servers. Reaches t (record {
      world = record t.world { servers = servers; sent = t.world.sent ++ (one.outputs ++ all.outputs) };
      past = past.served_all (past.served_one t.past (store_of state) msg t.world.now (length t.world.sent)) one.store msgs t.world.now (length t.world.sent + length one.outputs);
    })) (set_twice t.world.servers s next (with_store state all.store))
    (subst (λ sent. Reaches t (record {
      world = record t.world { servers = slice_set (slice_set t.world.servers s next) s (with_store state all.store); sent = sent };
      past = past.served_all (past.served_one t.past (store_of state) msg t.world.now (length t.world.sent)) one.store msgs t.world.now (length t.world.sent + length one.outputs);
    })) (append_assoc t.world.sent one.outputs all.outputs)
    (subst (λ place. Reaches t (record {
      world = record t.world { servers = slice_set (slice_set t.world.servers s next) s (with_store state all.store); sent = (t.world.sent ++ one.outputs) ++ all.outputs };
      past = past.served_all (past.served_one t.past (store_of state) msg t.world.now (length t.world.sent)) one.store msgs t.world.now place;
    })) (length-append t.world.sent one.outputs) rest))

-- The event

onto_sent : (sent : List Msg) (place : ℕ) (m : Option Msg) → slice_get sent place ≡ m → (msgs : List Msg) → AreSent sent msgs → AreSent sent (onto_msgs m msgs)
onto_sent sent place None is msgs are = are
onto_sent sent place (Some msg) is msgs are = (record { place = place; item = msg; is = is; good = refl }, are)

are_sent : (sent : List Msg) (places : List ℕ) → AreSent sent (msgs_at sent places)
are_sent sent [] = tt
are_sent sent (place ∷ places) = onto_sent sent place (slice_get sent place) refl (msgs_at sent places) (are_sent sent places)

one_msg : (store : NodeAndRows) (now : ℕ) (m : Option Msg) → has_numbers store.node ≡ true → HasNumbersFor store (onto_msgs m []) now
one_msg store now None numbers = tt
one_msg store now (Some msg) numbers = (numbers, tt)

-- a Serve names one message: this alone is said of their number
one_place : (store : NodeAndRows) (now : ℕ) (sent : List Msg) (places : List ℕ) → (length places == 1) ≡ true → has_numbers store.node ≡ true → HasNumbersFor store (msgs_at sent places) now
one_place store now sent [] one numbers = tt
one_place store now sent (place ∷ []) one numbers = one_msg store now (slice_get sent place) numbers
one_place store now sent (place ∷ other ∷ places) one numbers = absurd (two_places (length places) one)

-- the run once a server served these messages
abbrev served : Trace → ℕ → ServerState → ℕ → ServeEnd → List Msg → Trace
served t s state weight how msgs = record {
  world = events.after_serve_of t.world s state (serve_all (store_of state) msgs t.world.now) how;
  past = weighed weight (past.served_if t.past t.world state msgs how);
}

ends_so : (t : Trace) → Inv t → (s : ℕ) (state : ServerState) → slice_get t.world.servers s ≡ Some state → state.up ≡ true → (weight : ℕ) (how : ServeEnd) (msgs : List Msg) → HasNumbersFor (store_of state) msgs t.world.now → AreSent t.world.sent msgs
    → Reaches t (served t s state weight how msgs)
ends_so t inv s state is up weight ends.Done msgs numbers are = goes_on (serve_reaches msgs t inv s state is up numbers are) (over weight)
ends_so t inv s state is up weight ends.Stop msgs numbers are =
    step (Down s state (serve_all (store_of state) msgs t.world.now).records)
    (record { is = is; follows = serve_follows t.world.setup.servers t.world.sent s msgs (store_of state) t.world.now (is_store t inv s state is) numbers are }) (over weight)

pub serve_event : (t : Trace) → Inv t → (s : ℕ) (places : List ℕ) (how : ServeEnd) (o : Option ServerState) → slice_get t.world.servers s ≡ o → can_serve o ≡ true
    → ((length places == 1) && list_all (λ k. is_for_server s (slice_get t.world.sent k)) places) ≡ true
    → Reaches t (record { world = events.after_serve t.world s places how o; past = weighed (length places) (past.after_serve t.past t.world places how o) })
serve_event t inv s places how None is can each = cc
serve_event t inv s places how (Some state) is can each =
    let c = and_parts state.up (has_numbers state.node) can in
    let one = and_parts (length places == 1) (list_all (λ k. is_for_server s (slice_get t.world.sent k)) places) each in
    ends_so t inv s state is c.0 (length places) how (msgs_at t.world.sent places) (one_place (store_of state) t.world.now t.world.sent places one.0 c.1) (are_sent t.world.sent places)
