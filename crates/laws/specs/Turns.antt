-- The machine after each of the two resets is entered, left, or stays as it was: 01, "Maps" (Configuration Option) and "Registers" (Device Control).
use Rattle.std.specs.Prelude.{ℕ, ◌≡◌, true, false, Ok}
use Rattle.ground.specs.Choice.{pick}
use Rattle.maps.specs.declared.Register.{Register}
use Rattle.maps.specs.declared.Register.TheVariants.{ErrorFeature, SectorCount, SectorNumber, CylinderLow, CylinderHigh, DriveHead, StatusCommand, AlternateControl, DriveAddress}
use Rattle.registers.specs.declared.State.{State}
use Rattle.laws.specs.Bits.{status_idle, bit_one}
use Rattle.registers.specs.State.{runs, with_status, with_interrupt, with_option, with_control}
use Rattle.registers.specs.Machine.{Machine, core, with_core}
use Rattle.transfers.specs.Steps.{idle_with}
use Rattle.card.specs.declared.Card.{Card}
use Rattle.card.specs.declared.Meaning.TheVariants.{ReadRegister}
use Rattle.card.specs.Access.{Asked, meaning}
use Rattle.card.specs.Step.{step}
use Rattle.card.specs.Opening.{powered}
use Rattle.card.specs.Doors.{machine_of}

-- the card that the opening made, at power-on; 02, "Eight": with the number of marks that are not 0 as it is, "resets keep it"
abbrev pub powered_of : Machine → Card
powered_of m = powered m.state.made.default m.state.made.mode m.state.bad

-- what its registers read: "Power-on: Status 50H, Error 01H, Count 1, Sector 1, the rest 0"; "Drive/Head reads with bits 7 and 5 set"; sample 13, "7EH"
abbrev pub power_on_value : Register → ℕ
power_on_value ErrorFeature = 0x01
power_on_value SectorCount = 1
power_on_value SectorNumber = 1
power_on_value CylinderLow = 0
power_on_value CylinderHigh = 0
power_on_value DriveHead = 0xA0
power_on_value StatusCommand = status_idle
power_on_value AlternateControl = status_idle
power_on_value DriveAddress = 0x7E

abbrev pub ReadsPowerOn : Machine → Type 0
ReadsPowerOn m = (a : Asked) (r : Register) → meaning m a ≡ ReadRegister r → (step m a).outcome ≡ Ok (power_on_value r)

-- the machine with another state, and the transfer that runs
abbrev pub going_on_with : State → Machine → Machine
going_on_with s m = with_core (core m.phase s) m

-- a reset is entered: "A reset that ends one leaves Status 50H"; the interrupt mark is "Cleared by entering or leaving a reset"; all else stays
abbrev pub resting_state : Machine → State
resting_state m = with_interrupt false (with_status (pick (runs m.phase) status_idle m.state.registers.status) m.state)

-- ---- the Configuration Option Register

-- "Bit 7 set holds the card and ends any transfer"
abbrev pub sreset_entered : ℕ → Machine → Machine
sreset_entered v m = idle_with (with_option v (resting_state m)) m

-- "clearing it after that is power-on with the index just written"; store, marks and the number of bad sectors as they were
abbrev pub sreset_left : ℕ → Machine → Machine
sreset_left v m =
    let c = powered_of m in
    machine_of (record { phase = c.phase; state = with_option v c.state; buffer = c.buffer }) m.store m.marks

-- bit 7 as it was: "bits 6..0 together are the map setting"; a transfer goes on
abbrev pub setting_taken : ℕ → Machine → Machine
setting_taken v m = going_on_with (with_option v m.state) m

-- ---- Device Control

-- "bit 2 set: transfer ends"
abbrev pub control_entered : ℕ → Machine → Machine
control_entered v m = idle_with (with_control (record { held = true; masked = bit_one v }) (resting_state m)) m

-- "Clearing it gives the power-on registers, code 00H and default geometry; buffer and index are kept, and bit 1 is as just written."
abbrev pub control_left : ℕ → Machine → Machine
control_left v m =
    let c = powered_of m in
    machine_of
    (record {
      phase = c.phase;
      state = with_control (record { held = false; masked = bit_one v }) (with_option m.state.option c.state);
      buffer = m.buffer;
    })
    m.store m.marks

-- bit 2 as it was: bit 1 is taken, "other bits are lost"; a transfer goes on
abbrev pub mask_taken : ℕ → Machine → Machine
mask_taken v m = going_on_with (with_control (record { held = m.state.control.held; masked = bit_one v }) m.state) m
