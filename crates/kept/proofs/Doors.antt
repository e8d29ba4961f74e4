-- The two resets as methods keep a card well made.
use Prim.Native.Nat.{ℕ}
use mathlib.Core.Bool.{true}
use mathlib.Core.Path.{◌≡◌, refl}
use mathlib.Core.List.{List}
use lib.ListN.{length}
use Rattle.maps.specs.declared.Mode.{Mode}
use Rattle.maps.specs.declared.Mode.TheVariants.{PcCard, TrueIde}
use Rattle.registers.specs.Machine.{core}
use Rattle.registers.specs.WellMade.{well_made, sreset_fits}
use Rattle.registers.specs.Resets.{option_turn}
use Rattle.card.specs.declared.Card.{Card}
use Rattle.card.specs.declared.Answer.{Answer}
use Rattle.card.specs.Doors.{machine_of, option_answered, control_answered}
use Rattle.kept.specs.Sound.{Sound}
use Rattle.kept.proofs.Registers.{StateFits, PhaseFits, apart, together}
use Rattle.kept.proofs.Resets.{Turned, option_turned_lem, control_turned_lem, buffer_turned_lem}
use Rattle.kept.proofs.DoorElim.{option-elim, control_elim}
use Rattle.kept.proofs.Perform.{sound-next}

-- what comes back of the card c
abbrev Back : Card → Card → Type 0
Back c x = Turned c.state.made c.state (core x.phase x.state) × (length c.buffer ≡ 512 → length x.buffer ≡ 512)

same : (c : Card) → StateFits c.state.made c.state → PhaseFits c.phase c.state → Back c c
same c f r = ((f, r, λ s. s), λ b. b)

mode_0 : (mode : Mode) (v : ℕ) → PcCard ≡ mode → sreset_fits mode v ≡ true
unfolding sreset_fits
mode_0 PcCard v e = refl
mode_0 TrueIde v e = cc

option_back : (v : ℕ) (c : Card) → well_made c.phase c.state ≡ true → Back c (option_answered v c).card
option_back v c e =
    let a = apart c.phase c.state e in
    option-elim (λ (x : Answer). Back c x.card) v c (λ r. same c a.0 a.1)
    (λ m i. (option_turned_lem v c.state.made c.phase c.state (i, mode_0 c.state.made.mode v m) a.0 a.1, buffer_turned_lem (option_turn v c.state) c.buffer))

control_back : (v : ℕ) (c : Card) → well_made c.phase c.state ≡ true → Back c (control_answered v c).card
control_back v c e =
    let a = apart c.phase c.state e in
    control_elim (λ (x : Answer). Back c x.card) v c (λ r. same c a.0 a.1) (control_turned_lem v c.state.made c.phase c.state a.0 a.1, λ b. b)

back_well : (c x : Card) → Back c x → well_made x.phase x.state ≡ true
back_well c x b = together c.state.made x.phase x.state b.0.0 b.0.1

back-sound : (c x : Card) (store marks : List ℕ) → Sound (machine_of c store marks) → Back c x → Sound (machine_of x store marks)
back-sound c x store marks s b =
    sound-next (machine_of c store marks) (machine_of x store marks) s ((b.0.0, b.0.1, b.0.2 s.count), λ l. (refl, refl, b.1 l))

pub option_kept : (v : ℕ) (c : Card) → well_made c.phase c.state ≡ true → well_made (option_answered v c).card.phase (option_answered v c).card.state ≡ true
option_kept v c e = back_well c (option_answered v c).card (option_back v c e)

pub control_kept : (v : ℕ) (c : Card) → well_made c.phase c.state ≡ true → well_made (control_answered v c).card.phase (control_answered v c).card.state ≡ true
control_kept v c e = back_well c (control_answered v c).card (control_back v c e)

pub option-sound : (v : ℕ) (c : Card) (store marks : List ℕ) → Sound (machine_of c store marks) → Sound (machine_of (option_answered v c).card store marks)
option-sound v c store marks s = back-sound c (option_answered v c).card store marks s (option_back v c s.made)

pub control_sound : (v : ℕ) (c : Card) (store marks : List ℕ) → Sound (machine_of c store marks) → Sound (machine_of (control_answered v c).card store marks)
control_sound v c store marks s = back-sound c (control_answered v c).card store marks s (control_back v c s.made)
