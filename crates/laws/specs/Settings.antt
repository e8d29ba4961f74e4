-- The Configuration Option and Device Control after an access: what was last written to them; clearing SRESET is power-on, and clears Device Control
-- too. Nothing else changes them.
use Rattle.std.specs.Prelude.{ℕ, ◌≡◌, Bool, false, not, ◌&&◌, List, [], ◌∷◌}
use Rattle.ground.specs.Choice.{pick}
use Rattle.answers.specs.Answers.{refused}
use Rattle.maps.specs.declared.Register.{Register}
use Rattle.maps.specs.declared.Register.TheVariants.{ErrorFeature, SectorCount, SectorNumber, CylinderLow, CylinderHigh, DriveHead, StatusCommand, AlternateControl, DriveAddress}
use Rattle.registers.specs.declared.Control.{Control}
use Rattle.registers.specs.declared.State.{State}
use Rattle.registers.specs.Machine.{Machine}
use Rattle.card.specs.declared.Meaning.{Meaning}
use Rattle.card.specs.declared.Meaning.TheVariants.{TupleByte, ReadOption, WriteOption, ReadRegister, WriteRegister, ReadData, WriteData}
use Rattle.card.specs.Access.{Asked}
use Rattle.card.specs.Step.{step}
use Rattle.card.specs.Rows.{at_option, offset_in}
use Rattle.laws.specs.Holds.{offset_of}
use Rattle.laws.specs.Bits.{bit_seven, bit_two, bit_one}

pub record Settings : Type 0 where
  pub option : ℕ
  pub control : Control

abbrev pub settings_of : State → Settings
settings_of s = record { option = s.option; control = s.control }

-- "Reading gives the last value"; clearing SRESET "is power-on", which ends Device Control's hold and clears its mask
abbrev pub released : Control
released = record { held = false; masked = false }

abbrev pub option_settings : ℕ → State → Settings
option_settings v s = record { option = v; control = pick (bit_seven s.option) (pick (bit_seven v) s.control released) s.control }

-- "Device Control bit 2 set", "bit 1 is as just written", "other bits are lost"
abbrev pub control_after : Register → ℕ → Control → Control
control_after ErrorFeature v k = k
control_after SectorCount v k = k
control_after SectorNumber v k = k
control_after CylinderLow v k = k
control_after CylinderHigh v k = k
control_after DriveHead v k = k
control_after StatusCommand v k = k
control_after AlternateControl v k = record { held = bit_two v; masked = bit_one v }
control_after DriveAddress v k = k

abbrev pub settings_after : Meaning → State → Settings
settings_after (Meaning.Refused r) s = settings_of s
settings_after (TupleByte b) s = settings_of s
settings_after ReadOption s = settings_of s
settings_after (WriteOption v) s = option_settings v s
settings_after (ReadRegister r) s = settings_of s
settings_after (WriteRegister r v) s = record { option = s.option; control = control_after r v s.control }
settings_after (ReadData port) s = settings_of s
settings_after (WriteData port v) s = settings_of s

-- ---- the same by address: attribute 200H and offset E

-- a write that is accepted
abbrev pub takes : Machine → Asked → Bool
takes m a = a.access.write && not (refused (step m a).outcome)

abbrev pub settings_taken : Machine → Asked → Settings
settings_taken m a =
    pick (at_option a.access.space a.access.address) (option_settings a.access.value m.state)
    (pick (offset_in (0xE ∷ []) (offset_of m a)) (record { option = m.state.option; control = control_after AlternateControl a.access.value m.state.control })
    (settings_of m.state))

abbrev pub settings_at : Machine → Asked → Settings
settings_at m a = pick (takes m a) (settings_taken m a) (settings_of m.state)

-- no access of a list writes the option, each with the card as those before it left it
abbrev pub writes_option : Machine → Asked → Bool
writes_option m a = takes m a && at_option a.access.space a.access.address

abbrev pub NoOptionWrite : Machine → List Asked → Type 0
NoOptionWrite m [] = Unit {0}
NoOptionWrite m (a ∷ l) = (writes_option m a ≡ false) × NoOptionWrite (step m a).next l
