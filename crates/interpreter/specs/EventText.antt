-- The text of what happens: a line for each event that has one, and one for each effect.
use Rattle.std.specs.Prelude.{ℕ, List, [], ◌∷◌, ◌++◌, Option, Some, None, codes}
use Rattle.std.specs.List.{slice_get}
use Rattle.client_core.specs.Taking as taking
use Rattle.records.specs.declared.msg.Msg.{Msg}
use Rattle.simulation.specs.Runs.{RunV, grown}
use Rattle.simulation.specs.Shows.{server_for}
use Rattle.world.specs.declared.event.Event.{Event}
use Rattle.world.specs.declared.event.Event.TheVariants.{Serve, Miss, Take, Stop}
use Rattle.world.specs.declared.event.ServeEnd.TheVariants as ends
use Rattle.world.specs.declared.event.StopCause.TheVariants.{Device}
use Rattle.world.specs.declared.state.ClientState.{ClientState}
use Rattle.world.specs.Events.{seat_at}
use Rattle.world.specs.Histories.{History, effects, entries_of}
use Rattle.world.specs.Worlds.{WorldV}
use Rattle.interpreter.specs.Text.{taken_line, server_line, effects_of}

abbrev pub take_text : ℕ → Option ClientState → Option Msg → List ℕ
take_text client (Some seat) (Some msg) = taken_line client seat.client.seq (taking.take seat.client msg).taken
take_text client seat msg = []

abbrev pub down_text : Option ℕ → List ℕ
down_text None = []
down_text (Some server) = server_line (codes "down ") server

-- the line of an event
abbrev pub event_text : WorldV → Event → List ℕ
event_text w (Take client message) = take_text client (seat_at w.clients client) (slice_get w.sent message)
event_text w (Serve server places ends.Stop) = server_line (codes "stopped ") server
event_text w (Stop server Device) = server_line (codes "stopped ") server
event_text w (Miss message) = down_text (server_for (slice_get w.sent message))
event_text w event = []

-- the lines of events
abbrev pub events_text : RunV → List Event → List ℕ
events_text run [] = []
events_text run (event ∷ events) = event_text run.trace.world event ++ events_text (grown run event) events

abbrev pub effects_text : History → List ℕ
effects_text past = effects_of (entries_of (effects past))
