-- Each sector that an access changes is one of the card's, and whole.
use Rattle.std.proofs.Common.{Ok, Err, None, Some}
use Prim.Native.Nat.{ℕ, zero, suc, ◌<◌}
use mathlib.Core.Path.{◌≡◌, refl, ◌∙◌}
use mathlib.Core.Bool.{true}
use mathlib.Core.List.{List, []}
use lib.Dec.{ltb}
use lib.ListN.{length, get_or, replicate, length-replicate}
use Rattle.ground.proofs.Picks.{pick-elim}
use Rattle.geometry.specs.declared.Address.{Address}
use Rattle.geometry.specs.declared.Geometry.{Geometry}
use Rattle.geometry.specs.declared.Spot.{Spot}
use Rattle.geometry.specs.Limits.{current_for}
use Rattle.geometry.specs.Address.{locate, Located}
use Rattle.geometry.specs.Next.{next_of}
use Rattle.geometry.proofs.Inside.{inside}
use Rattle.sectors.specs.Marks.{writable}
use Rattle.maps.specs.declared.Port.{Port}
use Rattle.maps.specs.declared.Register.{Register}
use Rattle.maps.specs.declared.Register.TheVariants.{ErrorFeature, SectorCount, SectorNumber, CylinderLow, CylinderHigh, DriveHead, StatusCommand, AlternateControl, DriveAddress}
use Rattle.registers.specs.declared.Load.{Load}
use Rattle.registers.specs.declared.Load.TheVariants.{Sectors, Buffer}
use Rattle.registers.specs.declared.Transfer.{Transfer}
use Rattle.registers.specs.declared.Phase.{Phase}
use Rattle.registers.specs.declared.Phase.TheVariants.{Idle, DataIn, DataOut}
use Rattle.registers.specs.declared.State.{State}
use Rattle.registers.specs.State.{total_in, located_in}
use Rattle.registers.specs.Machine.{Machine}
use Rattle.registers.specs.WellMade.{well_made}
use Rattle.transfers.specs.Before.{run_past}
use Rattle.port.specs.declared.Fill.TheVariants.{Begun, Full}
use Rattle.commands.specs.declared.Command.{Command}
use Rattle.commands.specs.declared.Command.TheVariants.{Read, Write, Verify, Erase, Identify, ReadBuffer, WriteBuffer, SetGeometry, Diagnose, Recalibrate, Seek, Sense, SetMultiple, ReadMultiple, WriteMultiple, Other}
use Rattle.port.specs.Halves.{take_of, with_part, Take}
use Rattle.commands.specs.Table.{count_of, command_of}
use Rattle.card.specs.declared.Meaning.{Meaning}
use Rattle.card.specs.declared.Meaning.TheVariants.{TupleByte, ReadOption, WriteOption, ReadRegister, WriteRegister, ReadData, WriteData}
use Rattle.card.specs.Access.{Asked, decided, meaning}
use Rattle.kept.proofs.Registers.{apart}
use Rattle.kept.proofs.Decided.{meaning-elim}
use Rattle.kept.proofs.Lent.{part_length}
use Rattle.laws.specs.Changes.{Change, WholeSectors, sector_changes, erasures, run_erasures, command_changes, register_changes, load_changes, taken_changes, phase_changes, changes}
use Rattle.geometry.specs.declared.BadAddress.{BadAddress}

sector-whole : (l : Located) (total : ℕ) (marks bytes : List ℕ) (rest : List Change) → ((p : Spot) → l ≡ Ok p → p.index < total) → length bytes ≡ 512 →
    WholeSectors total rest → WholeSectors total (sector_changes l marks bytes rest)
sector-whole (Ok spot) total marks bytes rest i b r = pick-elim (WholeSectors total) (writable (get_or marks spot.index 0)) _ _ (λ e. (i spot refl, b, r)) (λ e. tt)
sector-whole (Err BadAddress.HeadOrSector) total marks bytes rest i b r = tt
sector-whole (Err BadAddress.Cylinder) total marks bytes rest i b r = tt
sector-whole (Err BadAddress.Lba) total marks bytes rest i b r = tt

erasures-whole : (n : ℕ) (a : Address) (g : Geometry) (total : ℕ) (marks : List ℕ) → current_for g total ≡ true → WholeSectors total (erasures n a g total marks)
unfolding erasures
erasures-whole zero a g total marks c = tt
erasures-whole (suc n) a g total marks c =
    sector-whole (locate a g total) total marks (replicate 512 0xFF) (erasures n (next_of a g) g total marks)
    (λ p e. inside a g total p c e) (length-replicate {A = ℕ} 512 0xFF) (erasures-whole n (next_of a g) g total marks c)

run_whole : (n : ℕ) (a : Address) (g : Geometry) (total : ℕ) (marks : List ℕ) → current_for g total ≡ true → WholeSectors total (run_erasures n a g total marks)
unfolding run_erasures
run_whole n a g total marks c = pick-elim (WholeSectors total) (run_past n (locate a g total)) _ _ (λ e. tt) (λ e. erasures-whole n a g total marks c)

of_command : (c : Command) (s : State) (marks : List ℕ) → current_for s.current (total_in s) ≡ true → WholeSectors (total_in s) (command_changes c s marks)
of_command Read s marks c = tt
of_command Write s marks c = tt
of_command Verify s marks c = tt
of_command Erase s marks c = run_whole (count_of s) s.registers.address s.current (total_in s) marks c
of_command Identify s marks c = tt
of_command ReadBuffer s marks c = tt
of_command WriteBuffer s marks c = tt
of_command SetGeometry s marks c = tt
of_command Diagnose s marks c = tt
of_command Recalibrate s marks c = tt
of_command Seek s marks c = tt
of_command Sense s marks c = tt
of_command SetMultiple s marks c = tt
of_command ReadMultiple s marks c = tt
of_command WriteMultiple s marks c = tt
of_command Other s marks c = tt

of_register : (r : Register) (v : ℕ) (m : Machine) → current_for m.state.current (total_in m.state) ≡ true → WholeSectors (total_in m.state) (register_changes r v m)
of_register ErrorFeature v m c = tt
of_register SectorCount v m c = tt
of_register SectorNumber v m c = tt
of_register CylinderLow v m c = tt
of_register CylinderHigh v m c = tt
of_register DriveHead v m c = tt
of_register StatusCommand v m c = pick-elim (WholeSectors (total_in m.state)) m.state.control.held _ _ (λ h. tt) (λ h. of_command (command_of v) m.state m.marks c)
of_register AlternateControl v m c = tt
of_register DriveAddress v m c = tt

of_load : (l : Load) (bytes : List ℕ) (m : Machine) → current_for m.state.current (total_in m.state) ≡ true → length bytes ≡ 512 → WholeSectors (total_in m.state) (load_changes l bytes m)
of_load Buffer bytes m c b = tt
of_load (Sectors left k) bytes m c b =
    sector-whole (located_in m.state) (total_in m.state) m.marks bytes [] (λ p e. inside m.state.registers.address m.state.current (total_in m.state) p c e) b tt

of_taken : (k : Take) (v : ℕ) (t : Transfer) (m : Machine) → current_for m.state.current (total_in m.state) ≡ true → length m.buffer ≡ 512 → WholeSectors (total_in m.state) (taken_changes k v t m)
of_taken None v t m c b = tt
of_taken (Some (part, Begun)) v t m c b = tt
of_taken (Some (part, Full)) v t m c b =
    pick-elim (WholeSectors (total_in m.state)) (ltb t.words 255) _ _ (λ e. tt)
    (λ e. of_load t.load (with_part part t.words v m.buffer) m c (part_length part t.words v m.buffer ∙ b))

of_phase_lem : (p : Phase) (port : Port) (v : ℕ) (m : Machine) → current_for m.state.current (total_in m.state) ≡ true → length m.buffer ≡ 512 →
    WholeSectors (total_in m.state) (phase_changes p port v m)
of_phase_lem Idle port v m c b = tt
of_phase_lem (DataIn t) port v m c b = tt
of_phase_lem (DataOut t) port v m c b = of_taken (take_of t.half port) v t m c b

of_meaning : (k : Meaning) (m : Machine) → current_for m.state.current (total_in m.state) ≡ true → length m.buffer ≡ 512 → WholeSectors (total_in m.state) (changes k m)
unfolding changes
of_meaning (Meaning.Refused r) m c b = tt
of_meaning (TupleByte x) m c b = tt
of_meaning ReadOption m c b = tt
of_meaning (WriteOption v) m c b = tt
of_meaning (ReadRegister r) m c b = tt
of_meaning (WriteRegister r v) m c b = of_register r v m c
of_meaning (ReadData port) m c b = tt
of_meaning (WriteData port v) m c b = pick-elim (WholeSectors (total_in m.state)) m.state.control.held _ _ (λ e. tt) (λ e. of_phase_lem m.phase port v m c b)

-- of a well-made card
pub meant_whole : (x : Meaning) (m : Machine) → well_made m.phase m.state ≡ true → length m.buffer ≡ 512 → WholeSectors (total_in m.state) (changes x m)
meant_whole x m w b = of_meaning x m (apart m.phase m.state w).0.2 b

pub changes-whole : (m : Machine) (a : Asked) → length m.buffer ≡ 512 → WholeSectors (total_in m.state) (changes (meaning m a) m)
unfolding changes
changes-whole m a b =
    meaning-elim (λ (k : Meaning). WholeSectors (total_in m.state) (changes k m)) m a tt tt tt tt
    (λ w s k t. meant_whole (decided m.state a) m w b)
