-- A client's message is followed, round by round.
use Rattle.std.proofs.Common.{◌≡◌, ◌∙◌, sym, ap, subst, refl, ℕ, ◌+◌, ◌≤◌, Bool, true, false, List, [], ◌∷◌, ◌++◌, length, Some, None, inl, inr, arith}
use Rattle.std.specs.List.{slice_get}
use Rattle.mds_base.specs.declared.limits.TheConstants.{EVENTS}
use Rattle.mds_base.specs.declared.setup.Which.TheVariants as limits
use Rattle.mds_out.specs.Disk.{Image, Contents}
use Rattle.simulation.specs.Calls.{IsRequestAt}
use Rattle.simulation.specs.Runs.{RunV, grown}
use Rattle.simulation.specs.Shows.{SimulationV, Shows, server_for}
use Rattle.world.specs.declared.event.Event.{Event}
use Rattle.world.specs.declared.event.Event.TheVariants.{Serve, Miss, Take, Resend}
use Rattle.world.specs.declared.event.ServeEnd.TheVariants as ends
use Rattle.world.specs.Events.{is_up}
use Rattle.world.specs.Worlds.{WorldV}
use Rattle.interpreter.specs.declared.interpreter.Halt.{Halt}
use Rattle.interpreter.specs.declared.interpreter.Halt.TheVariants as halts
use Rattle.interpreter.specs.Steps.{GoesBy, Carries, Halts, IsDeliveredTo, IsEvent, IsSentOn, OrNone}
use Rattle.interpreter.specs.Story.{grown_by, IsDelivered, IsDeliveredAt, IsDelivery, IsAnswered, IsFollowed, IsFollowing, IsSentAndFollowed, IsSending, is_sent_on, redirects}
use Rattle.interpreter.proofs.RoundsLooped.{SoFar, Round, so_far_none, so_far_more, so_far_ends, so_far_halts, so_far_full}
use Rattle.interpreter.proofs.WorldSeen.{seen_msg}
use Rattle.interpreter.proofs.EventsText.{by_join, by_kind, halts_behind, halts_kind}

-- the message was delivered and the client took the reply, which redirected it or not
pub record IsTaken (client message : ℕ) (on : Bool) (run : RunV) (events : List Event) : Type 0 where
  pub delivered : Event
  pub taken : Event
  pub two : events ≡ delivered ∷ taken ∷ []
  pub answered : IsAnswered run client message delivered taken
  pub on' : is_sent_on run client delivered ≡ on

-- ---- the events of a round

answered_by : (run : RunV) (client message first : ℕ) (events more : List Event) (d : IsDeliveredTo message (Some first) run events) → more ≡ Take client first ∷ [] → IsAnswered run client message d.event (Take client first)
answered_by run client message first events more d is = record { delivered' = d.delivered; sends' = d.sends'.0; taken' = ap (Take client) d.sends'.1 }

joined_two : (events more : List Event) (a b : Event) → events ≡ a ∷ [] → more ≡ b ∷ [] → events ++ more ≡ a ∷ b ∷ []
joined_two events more a b e f = ap (λ l. l ++ more) e ∙ ap (λ l. a ∷ l) f

joined_three : (events more : List Event) (a b c : Event) → events ≡ a ∷ b ∷ [] → more ≡ c ∷ [] → events ++ more ≡ a ∷ b ∷ c ∷ []
joined_three events more a b c e f = ap (λ l. l ++ more) e ∙ ap (λ l. a ∷ b ∷ l) f

taken_two : (run : RunV) (client message first : ℕ) (on : Bool) (events more : List Event) → IsDeliveredTo message (Some first) run events → more ≡ Take client first ∷ [] → redirects (grown_by run events).trace.world client first ≡ on
    → IsTaken client message on run (events ++ more)
taken_two run client message first on events more d is redirected = record {
  delivered = d.event;
  taken = Take client first;
  two = joined_two events more d.event (Take client first) d.one is;
  answered = answered_by run client message first events more d is;
  on' = sym (subst (λ es. redirects (grown_by run es).trace.world client first ≡ is_sent_on run client d.event) (sym d.one) (ap (redirects (grown run d.event).trace.world client) d.sends'.1)) ∙ redirected;
}

followed_one : (run : RunV) (client message : ℕ) (events : List Event) → IsDeliveredTo message None run events → IsFollowed run client message events
followed_one run client message events d = subst (IsFollowed run client message) (sym d.one) (d.delivered, d.sends')

followed_two : (run : RunV) (client message : ℕ) (events : List Event) → IsTaken client message false run events → IsFollowed run client message events
followed_two run client message events t = subst (IsFollowed run client message) (sym t.two) (t.answered, t.on')

sent_on : (run : RunV) (client message next : ℕ) (events more : List Event) → IsTaken client message true run events → more ≡ Resend client ∷ [] → next ≡ length (grown_by run events).trace.world.sent → IsSentOn client message next run (events ++ more)
sent_on run client message next events more t is stands = record {
  delivered = t.delivered;
  taken = t.taken;
  sent = Resend client;
  three = joined_three events more t.delivered t.taken (Resend client) t.two is;
  again = record { answered = t.answered; redirects' = t.on'; sent' = refl };
  stands = subst (λ es. next ≡ length (grown_by run es).trace.world.sent) t.two stands;
}

-- .. so far

following_one : (run : RunV) (client message : ℕ) (events : List Event) → OrNone (λ r. IsDelivery r message) run events → IsFollowing run client message events
following_one run client message events (inl none) = subst (IsFollowing run client message) (sym none) tt
following_one run client message events (inr d) = subst (IsFollowing run client message) (sym d.1) d.2

following_two : (run : RunV) (client message first : ℕ) (events more : List Event) → IsDeliveredTo message (Some first) run events → OrNone (IsEvent (Take client first)) (grown_by run events) more → IsFollowing run client message (events ++ more)
following_two run client message first events more d (inl none) =
    subst (IsFollowing run client message) (sym (ap (λ l. l ++ more) d.one ∙ ap (λ l. d.event ∷ l) none)) d.delivered
following_two run client message first events more d (inr is) =
    subst (IsFollowing run client message) (sym (joined_two events more d.event (Take client first) d.one is)) (answered_by run client message first events more d is)

following_three : (run : RunV) (client message : ℕ) (events more : List Event) → IsTaken client message true run events → OrNone (IsEvent (Resend client)) (grown_by run events) more → IsFollowing run client message (events ++ more)
following_three run client message events more t (inl none) =
    subst (IsFollowing run client message) (sym (ap (λ l. l ++ more) t.two ∙ ap (λ l. t.delivered ∷ t.taken ∷ l) none)) t.answered
following_three run client message events more t (inr is) =
    subst (IsFollowing run client message) (sym (joined_three events more t.delivered t.taken (Resend client) t.two is)) (record { answered = t.answered; redirects' = t.on'; sent' = refl }, tt)

-- ---- a round of calls

module _ {X : Type 0} (seen : X → Contents) (images : X → Image → Type 0) where
  pub round_silent : (old new : SimulationV X) (was now : List ℕ) (client message : ℕ) → Carries seen images old new was now (IsDeliveredTo message None) → Carries seen images old new was now (λ run. IsFollowed run client message)
  round_silent old new was now client message delivers run shows = by_kind seen images new was now run _ (IsFollowed run client message) (followed_one run client message) (delivers run shows)

  pub round_taken : (old mid new : SimulationV X) (was at now : List ℕ) (client message first : ℕ) (on : Bool) → Carries seen images old mid was at (IsDeliveredTo message (Some first)) → Carries seen images mid new at now (IsEvent (Take client first))
      → ((run : RunV) → Shows seen images mid run → on ≡ redirects run.trace.world client first) → Carries seen images old new was now (IsTaken client message on)
  round_taken old mid new was at now client message first on delivers takes redirected run shows =
      let d = delivers run shows in
      by_join seen images mid new was at now run d.events (IsEvent (Take client first) (grown_by run d.events)) (IsTaken client message on run) d.goes
      (λ more is. taken_two run client message first on d.events more d.are is (sym (redirected (grown_by run d.events) d.goes.shows)))
      (takes (grown_by run d.events) d.goes.shows)

  pub round_ends : (old new : SimulationV X) (was now : List ℕ) (client message : ℕ) (on : Bool) → on ≡ false → Carries seen images old new was now (IsTaken client message on) → Carries seen images old new was now (λ run. IsFollowed run client message)
  round_ends old new was now client message on ends_here takes run shows =
      by_kind seen images new was now run _ (IsFollowed run client message) (λ events t. followed_two run client message events (subst (λ b. IsTaken client message b run events) ends_here t)) (takes run shows)

  pub round_on : (old mid new : SimulationV X) (was at now : List ℕ) (client message next : ℕ) (on : Bool) → on ≡ true → Carries seen images old mid was at (IsTaken client message on) → Carries seen images mid new at now (IsEvent (Resend client)) → next ≡ length mid.sent
      → Carries seen images old new was now (IsSentOn client message next)
  round_on old mid new was at now client message next on yes' takes sends stands run shows =
      let t = takes run shows in
      by_join seen images mid new was at now run t.events (IsEvent (Resend client) (grown_by run t.events)) (IsSentOn client message next run) t.goes
      (λ more is. sent_on run client message next t.events more (subst (λ b. IsTaken client message b run t.events) yes' t.are) is (stands ∙ ap length (sym t.goes.shows.sent)))
      (sends (grown_by run t.events) t.goes.shows)

  pub halts_delivery : (old new : SimulationV X) (was now : List ℕ) (client message : ℕ) (halt : Halt) → Halts seen images old new was now (OrNone (λ run. IsDelivery run message)) halt → Halts seen images old new was now (λ run. IsFollowing run client message) halt
  halts_delivery old new was now client message halt h = record {
    sound = h.sound;
    runs = λ run shows.
        halts_kind seen images new was now run _ (IsFollowing run client message) halt (following_one run client message) (h.runs run shows);
  }

  pub halts_take : (old mid new : SimulationV X) (was at now : List ℕ) (client message first : ℕ) (halt : Halt) → Carries seen images old mid was at (IsDeliveredTo message (Some first)) → Halts seen images mid new at now (OrNone (IsEvent (Take client first))) halt
      → Halts seen images old new was now (λ run. IsFollowing run client message) halt
  halts_take old mid new was at now client message first halt delivers h = record {
    sound = h.sound;
    runs = λ run shows.
        let d = delivers run shows in
        halts_behind seen images mid new was at now run d.events (OrNone (IsEvent (Take client first)) (grown_by run d.events)) (IsFollowing run client message) halt d.goes
        (λ more is. following_two run client message first d.events more d.are is) (h.runs (grown_by run d.events) d.goes.shows);
  }

  pub halts_resend : (old mid new : SimulationV X) (was at now : List ℕ) (client message : ℕ) (on : Bool) (halt : Halt) → on ≡ true → Carries seen images old mid was at (IsTaken client message on) → Halts seen images mid new at now (OrNone (IsEvent (Resend client))) halt
      → Halts seen images old new was now (λ run. IsFollowing run client message) halt
  halts_resend old mid new was at now client message on halt yes' takes h = record {
    sound = h.sound;
    runs = λ run shows.
        let t = takes run shows in
        halts_behind seen images mid new was at now run t.events (OrNone (IsEvent (Resend client)) (grown_by run t.events)) (IsFollowing run client message) halt t.goes
        (λ more is. following_three run client message t.events more (subst (λ b. IsTaken client message b run t.events) yes' t.are) is) (h.runs (grown_by run t.events) t.goes.shows);
  }

  -- ---- round after round

  some_three : (client message next : ℕ) (run : RunV) (events : List Event) → IsSentOn client message next run events → 1 ≤ length events
  some_three client message next run events s = subst (λ (es : List Event). 1 ≤ length es) (sym s.three) (omega arith)

  sent_ends : (run : RunV) (client message next : ℕ) (events more : List Event) → IsSentOn client message next run events → IsFollowed (grown_by run events) client next more → IsFollowed run client message (events ++ more)
  sent_ends run client message next events more s is =
      subst (λ es. IsFollowed run client message (es ++ more)) (sym s.three)
      (s.again, subst (λ k. IsFollowed (grown_by run (s.delivered ∷ s.taken ∷ s.sent ∷ [])) client k more) s.stands (subst (λ es. IsFollowed (grown_by run es) client next more) s.three is))

  sent_begins : (run : RunV) (client message next : ℕ) (events more : List Event) → IsSentOn client message next run events → IsFollowing (grown_by run events) client next more → IsFollowing run client message (events ++ more)
  sent_begins run client message next events more s is =
      subst (λ es. IsFollowing run client message (es ++ more)) (sym s.three)
      (s.again, subst (λ k. IsFollowing (grown_by run (s.delivered ∷ s.taken ∷ s.sent ∷ [])) client k more) s.stands (subst (λ es. IsFollowing (grown_by run es) client next more) s.three is))

  sent_round : (new : SimulationV X) (was now : List ℕ) (run : RunV) (client message next : ℕ) → GoesBy seen images new was now run (IsSentOn client message next run)
      → Round seen images new was now run (λ r. IsFollowed r client message) (λ r. IsFollowing r client message) (λ r. IsFollowed r client next) (λ r. IsFollowing r client next)
  sent_round new was now run client message next g = record {
    events = g.events;
    goes = g.goes;
    some = some_three client message next run g.events g.are;
    ends = λ more is. sent_ends run client message next g.events more g.are is;
    begins = λ more is. sent_begins run client message next g.events more g.are is;
  }

  -- the message that a client's message led to so far
  pub record Follows (old new : SimulationV X) (was now : List ℕ) (client message next rounds : ℕ) : Type 0 where
    pub setup : new.setup ≡ old.setup
    pub request : IsRequestAt new client next
    pub so_far : (run : RunV) → Shows seen images old run
        → SoFar seen images new was now run rounds (IsFollowed run client message) (IsFollowing run client message) (λ r. IsFollowed r client next) (λ r. IsFollowing r client next)

  pub follows_none : (sim : SimulationV X) (pending : List ℕ) (client message : ℕ) → IsRequestAt sim client message → Follows sim sim pending pending client message message 0
  follows_none sim pending client message request = record {
    setup = refl;
    request = request;
    so_far = λ run shows. so_far_none seen images sim pending run (λ r. IsFollowed r client message) (λ r. IsFollowing r client message) shows;
  }

  pub follows_more : (old mid new : SimulationV X) (was at now : List ℕ) (client message next then rounds : ℕ) → Follows old mid was at client message next rounds → new.setup ≡ mid.setup → IsRequestAt new client then
      → Carries seen images mid new at now (IsSentOn client next then) → Follows old new was now client message then (rounds + 1)
  follows_more old mid new was at now client message next then rounds f setup request carries = record {
    setup = setup ∙ f.setup;
    request = request;
    so_far = λ run shows.
        let s = f.so_far run shows in
        so_far_more seen images mid new was at now run rounds (IsFollowed run client message) (IsFollowing run client message) (λ r. IsFollowed r client next) (λ r. IsFollowing r client next) (λ r. IsFollowed r client then) (λ r. IsFollowing r client then) s
        (sent_round new at now (grown_by run s.events) client next then (carries (grown_by run s.events) s.goes.shows));
  }

  pub follows_ends : (old mid new : SimulationV X) (was at now : List ℕ) (client message next rounds : ℕ) → Follows old mid was at client message next rounds → Carries seen images mid new at now (λ run. IsFollowed run client next)
      → Carries seen images old new was now (λ run. IsFollowed run client message)
  follows_ends old mid new was at now client message next rounds f carries run shows =
      let s = f.so_far run shows in
      so_far_ends seen images mid new was at now run rounds (IsFollowed run client message) (IsFollowing run client message) (λ r. IsFollowed r client next) (λ r. IsFollowing r client next) s (carries (grown_by run s.events) s.goes.shows)

  pub follows_halts : (old mid new : SimulationV X) (was at now : List ℕ) (client message next rounds : ℕ) (halt : Halt) → Follows old mid was at client message next rounds → Halts seen images mid new at now (λ run. IsFollowing run client next) halt
      → Halts seen images old new was now (λ run. IsFollowing run client message) halt
  follows_halts old mid new was at now client message next rounds halt f h = record {
    sound = h.sound;
    runs = λ run shows.
        let s = f.so_far run shows in
        so_far_halts seen images mid new was at now run rounds (IsFollowed run client message) (IsFollowing run client message) (λ r. IsFollowed r client next) (λ r. IsFollowing r client next) halt s (h.runs (grown_by run s.events) s.goes.shows);
  }

  -- the message of a request may be delivered, in some way
  some_delivery : (w : WorldV) (message server : ℕ) (up : Bool) → server_for (slice_get w.sent message) ≡ Some server → is_up (slice_get w.servers server) ≡ up → (event : Event) × IsDelivered w message event
  some_delivery w message server true is up = (Serve server (message ∷ []) ends.Done, record { server = server; is = is; how = subst (λ b. IsDeliveredAt message server b (Serve server (message ∷ []) ends.Done)) (sym up) (inl refl) })
  some_delivery w message server false is up = (Miss message, record { server = server; is = is; how = subst (λ b. IsDeliveredAt message server b (Miss message)) (sym up) refl })

  pub follows_full : (old sim : SimulationV X) (was now : List ℕ) (client message next rounds : ℕ) → EVENTS ≤ rounds → Follows old sim was now client message next rounds → Halts seen images old sim was now (λ run. IsFollowing run client message) (halts.Limit limits.Events)
  follows_full old sim was now client message next rounds enough f = record {
    sound = tt;
    runs = λ run shows.
        let s = f.so_far run shows in
        let d = some_delivery (grown_by run s.events).trace.world next f.request.server _ (ap server_for (sym (seen_msg seen images sim (grown_by run s.events) s.goes.shows next)) ∙ f.request.is) refl in
        so_far_full seen images sim was now run rounds (IsFollowed run client message) (IsFollowing run client message) (λ r. IsFollowed r client next) (λ r. IsFollowing r client next) enough s tt d.0 d.1;
  }

  -- ---- a message is sent, and followed

  sends_ends : (run : RunV) (client message : ℕ) (event : Event) (events more : List Event) → IsEvent event run events → message ≡ length run.trace.world.sent → IsFollowed (grown_by run events) client message more → IsSentAndFollowed run client event (events ++ more)
  sends_ends run client message event events more is stands followed =
      subst (λ es. IsSentAndFollowed run client event (es ++ more)) (sym is)
      (refl, subst (λ k. IsFollowed (grown run event) client k more) stands (subst (λ es. IsFollowed (grown_by run es) client message more) is followed))

  sends_begins : (run : RunV) (client message : ℕ) (event : Event) (events more : List Event) → IsEvent event run events → message ≡ length run.trace.world.sent → IsFollowing (grown_by run events) client message more → IsSending run client event (events ++ more)
  sends_begins run client message event events more is stands following =
      subst (λ es. IsSending run client event (es ++ more)) (sym is)
      (refl, subst (λ k. IsFollowing (grown run event) client k more) stands (subst (λ es. IsFollowing (grown_by run es) client message more) is following))

  sending_one : (run : RunV) (client : ℕ) (event : Event) (events : List Event) → OrNone (IsEvent event) run events → IsSending run client event events
  sending_one run client event events (inl none) = subst (IsSending run client event) (sym none) tt
  sending_one run client event events (inr is) = subst (IsSending run client event) (sym is) (refl, tt)

  pub sent_followed : (old mid new : SimulationV X) (was at now : List ℕ) (client message : ℕ) (event : Event) → Carries seen images old mid was at (IsEvent event) → message ≡ length old.sent → Carries seen images mid new at now (λ run. IsFollowed run client message)
      → Carries seen images old new was now (λ run. IsSentAndFollowed run client event)
  sent_followed old mid new was at now client message event sends stands follows run shows =
      let e = sends run shows in
      by_join seen images mid new was at now run e.events (IsFollowed (grown_by run e.events) client message) (IsSentAndFollowed run client event) e.goes
      (λ more is. sends_ends run client message event e.events more e.are (stands ∙ ap length (sym shows.sent)) is) (follows (grown_by run e.events) e.goes.shows)

  pub sent_halts : (old mid new : SimulationV X) (was at now : List ℕ) (client message : ℕ) (event : Event) (halt : Halt) → Carries seen images old mid was at (IsEvent event) → message ≡ length old.sent → Halts seen images mid new at now (λ run. IsFollowing run client message) halt
      → Halts seen images old new was now (λ run. IsSending run client event) halt
  sent_halts old mid new was at now client message event halt sends stands h = record {
    sound = h.sound;
    runs = λ run shows.
        let e = sends run shows in
        halts_behind seen images mid new was at now run e.events (IsFollowing (grown_by run e.events) client message) (IsSending run client event) halt e.goes
        (λ more is. sends_begins run client message event e.events more e.are (stands ∙ ap length (sym shows.sent)) is) (h.runs (grown_by run e.events) e.goes.shows);
  }

  pub unsent_halts : (old new : SimulationV X) (was now : List ℕ) (client : ℕ) (event : Event) (halt : Halt) → Halts seen images old new was now (OrNone (IsEvent event)) halt → Halts seen images old new was now (λ run. IsSending run client event) halt
  unsent_halts old new was now client event halt h = record {
    sound = h.sound;
    runs = λ run shows.
        halts_kind seen images new was now run _ (IsSending run client event) halt (sending_one run client event) (h.runs run shows);
  }
