-- The clients of a world and those of a simulation.
use Rattle.std.proofs.Common.{◌≡◌, ◌∙◌, sym, ap, refl, ℕ, zero, suc, ◌-◌, List, [], ◌∷◌, Some, None, Option, arith}
use Rattle.std.specs.Prelude.{slice_set}
use Rattle.std.specs.Prelude.{map as list_map}
use Rattle.std.specs.List.{slice_get}
use Rattle.client_core.specs.Clients.{ClientV}
use Rattle.world.specs.declared.state.ClientState.{ClientState}
use Rattle.world.specs.Events.{seat_at, index_of}
use Rattle.simulation.specs.Shows.{client_at}

abbrev pub clients_of : List ClientState → List ClientV
clients_of seats = list_map (λ (seat : ClientState). seat.client) seats

-- the client of a seat, where there is one
abbrev pub client_in : Option ClientState → Option ClientV
client_in None = None
client_in (Some seat) = Some seat.client

client_in_at : (seats : List ClientState) (k : ℕ) → slice_get (clients_of seats) k ≡ client_in (slice_get seats k)
client_in_at [] k = refl
client_in_at (seat ∷ seats) zero = refl
client_in_at (seat ∷ seats) (suc k) = client_in_at seats k

client_in_seat : (seats : List ClientState) (number : ℕ) → client_at (clients_of seats) number ≡ client_in (seat_at seats number)
client_in_seat seats zero = refl
client_in_seat seats (suc k) = client_in_at seats k

pub client_is : (seats : List ClientState) (clients : List ClientV) (number : ℕ) → clients_of seats ≡ clients → client_at clients number ≡ client_in (seat_at seats number)
client_is seats clients number are = ap (λ l. client_at l number) (sym are) ∙ client_in_seat seats number

-- the clients once a seat was set
seats_set : (seats : List ClientState) (k : ℕ) (seat : ClientState) → clients_of (slice_set seats k seat) ≡ slice_set (clients_of seats) k seat.client
seats_set [] k seat = refl
seats_set (x ∷ seats) zero seat = refl
seats_set (x ∷ seats) (suc k) seat = ap (λ l. x.client ∷ l) (seats_set seats k seat)

index_is : (number : ℕ) → index_of number ≡ number - 1
index_is zero = omega arith
index_is (suc k) = omega arith

pub seats_moved : (seats : List ClientState) (clients : List ClientV) (number : ℕ) (seat : ClientState) → clients_of seats ≡ clients → clients_of (slice_set seats (index_of number) seat) ≡ slice_set clients (number - 1) seat.client
seats_moved seats clients number seat are = seats_set seats (index_of number) seat ∙ ap (λ l. slice_set l (index_of number) seat.client) are ∙ ap (λ k. slice_set clients k seat.client) (index_is number)

-- the place of a client's seat
pub seat_place : (seats : List ClientState) (number : ℕ) (seat : ClientState) → seat_at seats number ≡ Some seat → slice_get seats (index_of number) ≡ Some seat
seat_place seats zero seat e = cc
seat_place seats (suc k) seat e = e
