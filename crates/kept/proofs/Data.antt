-- Reads and writes of the data port leave a card well made.
use Prim.Native.Nat.{ℕ, ◌+◌}
use mathlib.Core.Bool.{true, false}
use mathlib.Core.Path.{◌≡◌, refl, ◌∙◌, subst}
use native.Mathlib.Omega.{arith}
use lib.Dec.{ltb, leb}
use lib.ListN.{length}
use borrow.Author.Tests.{ltb-true, le-leb}
use Rattle.ground.proofs.Picks.{un_not}
use Rattle.maps.specs.declared.Port.{Port}
use Rattle.registers.specs.declared.Half.{Half}
use Rattle.registers.specs.declared.Pace.{Pace}
use Rattle.registers.specs.declared.Load.TheVariants.{Sectors}
use Rattle.registers.specs.declared.Transfer.{Transfer}
use Rattle.registers.specs.declared.Phase.{Phase}
use Rattle.registers.specs.declared.Phase.TheVariants.{DataIn, DataOut}
use Rattle.registers.specs.declared.Made.{Made}
use Rattle.registers.specs.declared.State.{State}
use Rattle.registers.specs.Machine.{Machine, core_of}
use Rattle.registers.specs.WellMade.{well_made, status_fits, in_reset, hold_fits, words_fit, load_fits, run_fits, pace_fits, load_pace_fits, run_pace_fits}
use Rattle.port.specs.declared.Part.{Part}
use Rattle.port.specs.Halves.{halved, next_word}
use Rattle.transfers.specs.declared.Way.{Way}
use Rattle.transfers.specs.declared.Way.TheVariants.{In, Out}
use Rattle.transfers.specs.Steps.{all_moved}
use Rattle.port.specs.Data.{Effect, with_phase, data_read, data_written}
use Rattle.kept.proofs.Registers.{PhaseFits, CoreFits, apart, together}
use Rattle.kept.proofs.Lent.{lent_same, part_length}
use Rattle.kept.proofs.Ends.{LoadFits, Next}
use Rattle.kept.proofs.DataElim.{part_come, data_read_elim, data_written_elim}
use Rattle.kept.proofs.Steps.{load_read_lem, load_written_lem}

-- ---- either way

abbrev pub phase_of : Way → Transfer → Phase
phase_of In t = DataIn t
phase_of Out t = DataOut t

running : (way : Way) (t : Transfer) (s : State) → PhaseFits (phase_of way t) s → (in_reset s ≡ false) × LoadFits t.load s
unfolding hold_fits run_fits run_pace_fits
running In t s r = (un_not (in_reset s) _ r.1, (r.3, r.4))
running Out t s r = (un_not (in_reset s) _ r.1, (r.3, r.4))

-- a word begun, and the next word
halved-fits : (way : Way) (part : Part) (t : Transfer) (s : State) → PhaseFits (phase_of way t) s → PhaseFits (phase_of way (halved part t)) s
unfolding status_fits hold_fits words_fit run_fits run_pace_fits
halved-fits In part t s r = r
halved-fits Out part t s r = r

next_fits : (way : Way) (t : Transfer) (s : State) → leb (t.words + 1) 255 ≡ true → PhaseFits (phase_of way t) s → PhaseFits (phase_of way (next_word t)) s
unfolding status_fits hold_fits words_fit run_fits run_pace_fits
next_fits In t s w r = (r.0, r.1, w, r.3, r.4)
next_fits Out t s w r = (r.0, r.1, w, r.3, r.4)

-- 02, "One": any pace that fits is as good as another, whatever is left: of a card that moves sectors, "fewer sectors of the running block moved than that" is all
-- that is asked of the place
pub any_pace_well : (way : Way) (h : Half) (w left : ℕ) (k j : Pace) (s : State) → pace_fits j s.block ≡ true →
    well_made (phase_of way (record { load = Sectors left k; half = h; words = w })) s ≡ true → well_made (phase_of way (record { load = Sectors left j; half = h; words = w })) s ≡ true
unfolding status_fits hold_fits words_fit run_fits load_fits run_pace_fits load_pace_fits
any_pace_well In h w left k j s p e = let f = apart _ s e in together s.made _ s f.0 (f.1.0, f.1.1, f.1.2, f.1.3, p)
any_pace_well Out h w left k j s p e = let f = apart _ s e in together s.made _ s f.0 (f.1.0, f.1.1, f.1.2, f.1.3, p)

-- what the next word and the last byte need, of a card that runs a transfer this way
onward : (way : Way) (t : Transfer) (d : Made) (m : Machine) → m.phase ≡ phase_of way t → CoreFits d (core_of m) → PhaseFits (phase_of way t) m.state
onward way t d m e f = subst (λ (p : Phase). PhaseFits p m.state) e f.1

next_word_lem : (way : Way) (t : Transfer) (d : Made) (m : Machine) → m.phase ≡ phase_of way t → ltb t.words 255 ≡ true → CoreFits d (core_of m) →
    CoreFits d (core_of (with_phase (phase_of way (next_word t)) m))
next_word_lem way t d m e w f =
    let l = ltb-true t.words 255 w in
    (f.0, next_fits way t m.state (le-leb (t.words + 1) 255 (omega arith)) (onward way t d m e f), f.2)

pub data_read_lem : (port : Port) (d : Made) (m : Machine) → CoreFits d (core_of m) → Next d m (data_read port m).next
data_read_lem port d m f =
    data_read_elim (λ (x : Effect). Next d m x.next) port m (λ v. (f, lent_same m)) (f, lent_same m)
    (λ v part t e. ((f.0, halved-fits In part t m.state (onward In t d m e f), f.2), lent_same m))
    (λ v t e w. (next_word_lem In t d m e w f, lent_same m))
    (λ v t e. let x = running In t m.state (onward In t d m e f) in load_read_lem t.load d (all_moved m) ((f.0, f.2), x.0) x.1)

come : (part : Part) (t : Transfer) (value : ℕ) (m : Machine) → length m.buffer ≡ 512 → length (part_come part t value m).buffer ≡ 512
come part t value m b = part_length part t.words value m.buffer ∙ b

pub data_written_lem : (port : Port) (value : ℕ) (d : Made) (m : Machine) → CoreFits d (core_of m) → Next d m (data_written port value m).next
data_written_lem port value d m f =
    data_written_elim (λ (x : Effect). Next d m x.next) port value m (f, lent_same m) (f, lent_same m)
    (λ part t e. ((f.0, halved-fits Out part t m.state (onward Out t d m e f), f.2), λ b. (refl, refl, come part t value m b)))
    (λ part t e w. (next_word_lem Out t d m e w f, λ b. (refl, refl, come part t value m b)))
    (λ part t e.
    let x = running Out t m.state (onward Out t d m e f) in
    let w = load_written_lem t.load d (all_moved (part_come part t value m)) ((f.0, f.2), x.0) x.1 in
    (w.0, λ b. w.1 (come part t value m b)))
