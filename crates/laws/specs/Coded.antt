-- No error without a code: "Idle 50H, data 58H, error 51H, write fault 71H", and each error of the command table has its code.
use Rattle.std.specs.Prelude.{ℕ, ◌≡◌, Bool, true, List, [], ◌∷◌, eqb, Ok, Err}
use Rattle.ground.specs.Choice.{pick}
use Rattle.registers.specs.declared.State.{State}
use Rattle.laws.specs.Bits.{status_error, status_write_fault}
use Rattle.transfers.specs.Ends.{end_code}
use Rattle.port.specs.Data.{Effect}
use Rattle.transfers.specs.Before.{Tested}

-- an error is read off Status
abbrev pub in_error : ℕ → Bool
in_error status = pick (eqb status status_error) true (eqb status status_write_fault)

abbrev pub Coded : State → Type 0
Coded s = in_error s.registers.status ≡ true → s.code ≡ 0 → ⊥

-- the code of an end by a test, 0 where none failed
abbrev pub tested_code : Tested → ℕ
tested_code (Ok spot) = 0
tested_code (Err e) = end_code e 0

-- after each access of a list
abbrev pub AllCoded : List Effect → Type 0
AllCoded [] = Unit {0}
AllCoded (s ∷ l) = Coded s.next.state × AllCoded l
