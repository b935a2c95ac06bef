-- What a reader of bytes answers, beside what reading gives.
use Rattle.std.specs.Prelude.{◌≡◌, Result, Ok, Err}
use Rattle.records.specs.declared.fault.Fault.{Fault}
use Rattle.records.specs.declared.fault.Stop.{Stop}
use Rattle.records.specs.declared.fault.Stop.TheVariants as stops

infixl 10 ◌>>=◌
abbrev pub ◌>>=◌ : {A B : Type 0} → Result A Fault → (A → Result B Fault) → Result B Fault
(Ok x) >>= f = f x
(Err e) >>= f = Err e

-- what a function returned is what reading gives, unless memory ran out
abbrev pub Fails : {Y : Type 0} → Stop → Result Y Fault → Type 0
Fails stops.Memory read = Unit {0}
Fails (stops.Fault fault) read = read ≡ Err fault

abbrev pub Gives : {X Y : Type 0} → (X → Y) → Result X Stop → Result Y Fault → Type 0
Gives view (Ok x) read = read ≡ Ok (view x)
Gives view (Err e) read = Fails e read
