-- The host: any list of accesses, each with its own tuple buffer, and what it may do.
use Rattle.std.specs.Prelude.{ℕ, Bool, true, false, not, List, [], ◌∷◌, ◌≡◌}
use Rattle.maps.specs.declared.Register.{Register}
use Rattle.maps.specs.declared.Register.TheVariants.{ErrorFeature, SectorCount, SectorNumber, CylinderLow, CylinderHigh, DriveHead, StatusCommand, AlternateControl, DriveAddress}
use Rattle.registers.specs.declared.State.{State}
use Rattle.registers.specs.State.{runs, sreset_in}
use Rattle.registers.specs.Machine.{Machine}
use Rattle.registers.specs.Resets.{bit_two}
use Rattle.transfers.specs.declared.Way.{Way}
use Rattle.card.specs.declared.Meaning.{Meaning}
use Rattle.card.specs.declared.Meaning.TheVariants.{TupleByte, ReadOption, WriteOption, ReadRegister, WriteRegister, ReadData, WriteData}
use Rattle.card.specs.Access.{Asked, meaning}
use Rattle.card.specs.Perform.{perform}
use Rattle.account.specs.Plain.{Plain}
use Rattle.account.specs.Notes.{Notes, note}

-- the card and what is lent to it, but for the phase, the two resets, the mask, the map setting and the interrupt mark
abbrev pub plain_in : State → List ℕ → List ℕ → List ℕ → Plain
plain_in s buffer store marks = record {
  made = s.made;
  current = s.current;
  registers = s.registers;
  code = s.code;
  bad = s.bad;
  block = s.block;
  buffer = buffer;
  store = store;
  marks = marks;
}

abbrev pub plain_of : Machine → Plain
plain_of m = plain_in m.state m.buffer m.store m.marks

-- no command, and no reset by Device Control
abbrev pub calm_register : Register → ℕ → Bool
calm_register ErrorFeature v = true
calm_register SectorCount v = true
calm_register SectorNumber v = true
calm_register CylinderLow v = true
calm_register CylinderHigh v = true
calm_register DriveHead v = true
calm_register StatusCommand v = false
calm_register AlternateControl v = not (bit_two v)
calm_register DriveAddress v = true

-- and none by SRESET
abbrev pub calm : Meaning → Bool
calm (Meaning.Refused r) = true
calm (TupleByte b) = true
calm ReadOption = true
calm (WriteOption v) = not (sreset_in v)
calm (ReadRegister r) = true
calm (WriteRegister r v) = calm_register r v
calm (ReadData port) = true
calm (WriteData port v) = true

-- "DRQ": the card asks for data, or has some
abbrev pub asks : Machine → Bool
asks m = runs m.phase

-- ---- by what its accesses mean

-- each of these is done while the card asks, and is no command and no reset
abbrev pub GoesBy : Machine → List Meaning → Type 0
GoesBy m [] = Unit {0}
GoesBy m (x ∷ l) = (asks m ≡ true) × (calm x ≡ true) × GoesBy (perform x m).next l

-- and after them the card asks no more
abbrev pub MovesBy : Machine → List Meaning → Type 0
MovesBy m [] = asks m ≡ false
MovesBy m (x ∷ l) = (asks m ≡ true) × (calm x ≡ true) × MovesBy (perform x m).next l

-- the machine after them, and what the host has noted
pub record Hosted : Type 0 where
  pub machine : Machine
  pub notes : Notes

unfoldable pub hosted_by : Way → Machine → Notes → List Meaning → Hosted
hosted_by way m q [] = record { machine = m; notes = q }
hosted_by way m q (x ∷ l) = let e = perform x m in hosted_by way e.next (note way x e.outcome q) l

-- what each of a list means to the card as those before it left it
abbrev pub meanings_by : {A : Type 0} → (Machine → A → Meaning) → Machine → List A → List Meaning
meanings_by means m [] = []
meanings_by means m (a ∷ l) = let rest = meanings_by means (perform (means m a) m).next l in means m a ∷ rest

-- ---- by the accesses

abbrev pub meanings : Machine → List Asked → List Meaning
meanings m l = meanings_by meaning m l

-- accesses that are made while the card asks, none a command or a reset
abbrev pub Goes : Machine → List Asked → Type 0
Goes m l = GoesBy m (meanings m l)

-- and after them the card asks no more
abbrev pub Moves : Machine → List Asked → Type 0
Moves m l = MovesBy m (meanings m l)

abbrev pub hosted : Way → Machine → Notes → List Asked → Hosted
hosted way m q l = hosted_by way m q (meanings m l)
