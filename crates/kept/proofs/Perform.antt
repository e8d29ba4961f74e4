-- What an access does, once it is known what it means, leaves a card well made.
use Prim.Native.Nat.{ℕ, ◌*◌, ◌<◌}
use mathlib.Core.Bool.{true, false}
use mathlib.Core.Path.{◌≡◌, refl, sym, ap, ◌∙◌}
use Rattle.geometry.specs.Limits.{total_of}
use Rattle.maps.specs.declared.Register.{Register}
use Rattle.registers.specs.declared.Made.{Made}
use Rattle.registers.specs.declared.State.{State}
use Rattle.registers.specs.declared.Core.{Core}
use Rattle.registers.specs.State.{sreset_in, total_in}
use Rattle.registers.specs.Machine.{Machine, core_of}
use Rattle.registers.specs.WellMade.{well_made, in_reset}
use Rattle.registers.specs.Resets.{option_turn, control_written, option_core}
use Rattle.card.specs.declared.Meaning.{Meaning}
use Rattle.card.specs.declared.Meaning.TheVariants.{TupleByte, ReadOption, WriteOption, ReadRegister, WriteRegister, ReadData, WriteData}
use Rattle.card.specs.Perform.{option_written, register_written, perform}
use Rattle.kept.specs.Sound.{CountFits, Sound}
use Rattle.kept.specs.Allowed.{Allowed}
use Rattle.kept.proofs.RegisterElim.{written-elim}
use Rattle.kept.proofs.Registers.{CoreFits, apart, together, read_left, set-left}
use Rattle.kept.proofs.Resets.{Turned, OptionFits, option_turned_lem, control_turned_lem, buffer_turned_lem}
use Rattle.kept.proofs.Lent.{lent_same}
use Rattle.kept.proofs.Ends.{Next}
use Rattle.kept.proofs.Data.{data_read_lem, data_written_lem}
use Rattle.kept.proofs.Table.{command_next}

-- a machine that is as it was
same : (d : Made) (m : Machine) → CoreFits d (core_of m) → Next d m m
same d m f = (f, lent_same m)

turned_left : (d : Made) (s : State) (k : Core) → CountFits s → Turned d s k → CoreFits d k
turned_left d s k c t = (t.0, t.1, t.2 c)

option-next : (v : ℕ) (d : Made) (m : Machine) → OptionFits v m.state → CoreFits d (core_of m) → Next d m (option_written v m)
unfolding option_written
option-next v d m o f = (
  turned_left d m.state (option_core v m.phase m.state) f.2 (option_turned_lem v d m.phase m.state o f.0 f.1),
  λ b. (refl, refl, buffer_turned_lem (option_turn v m.state) m.buffer b),
)

pub not_held : (s : State) → sreset_in s.option ≡ false → s.control.held ≡ false → in_reset s ≡ false
unfolding in_reset
not_held s a b = rw (a, b)

register_next : (r : Register) (v : ℕ) (d : Made) (m : Machine) → sreset_in m.state.option ≡ false → v < 256 → CoreFits d (core_of m) → Next d m (register_written r v m)
register_next r v d m a b f =
    written-elim (Next d m) r v m (same d m f)
    (λ e h. (set-left r v d m.phase m.state b h f, lent_same m))
    (λ c e. command_next v d m ((f.0, f.2), not_held m.state a e))
    (λ c.
    (turned_left d m.state (control_written v m.phase m.state) f.2 (control_turned_lem v d m.phase m.state f.0 f.1), lent_same m))

perform-next : (x : Meaning) (d : Made) (m : Machine) → Allowed x m.state → CoreFits d (core_of m) → Next d m (perform x m).next
unfolding perform
perform-next (Meaning.Refused r) d m a f = same d m f
perform-next (TupleByte b) d m a f = same d m f
perform-next ReadOption d m a f = same d m f
perform-next (WriteOption v) d m a f = option-next v d m a f
perform-next (ReadRegister r) d m a f = (read_left r d m.phase m.state f, lent_same m)
perform-next (WriteRegister r v) d m a f = register_next r v d m a.0 a.1 f
perform-next (ReadData port) d m a f = data_read_lem port d m f
perform-next (WriteData port v) d m a f = data_written_lem port v d m f

-- ---- of a well-made card

pub perform_kept : (x : Meaning) (m : Machine) → Allowed x m.state → CountFits m.state → well_made m.phase m.state ≡ true → Next m.state.made m (perform x m).next
perform_kept x m a b e = let f = apart m.phase m.state e in perform-next x m.state.made m a (f.0, f.1, b)

next_well : (d : Made) (m n : Machine) → Next d m n → well_made n.phase n.state ≡ true
next_well d m n x = together d n.phase n.state x.0.0 x.0.1

pub perform_well : (x : Meaning) (m : Machine) → Allowed x m.state → CountFits m.state → well_made m.phase m.state ≡ true →
    well_made (perform x m).next.phase (perform x m).next.state ≡ true
perform_well x m a b e = next_well m.state.made m (perform x m).next (perform_kept x m a b e)

-- a sound machine stays sound
pub sound-next : (m n : Machine) → Sound m → Next m.state.made m n → Sound n
sound-next m n s x =
    let l = x.1 s.buffer in
    let t : total_in m.state ≡ total_in n.state = ap (λ (d : Made). total_of d.default) (sym x.0.0.0) in
    record {
      made = next_well m.state.made m n x;
      store = l.0 ∙ s.store ∙ ap (λ (k : ℕ). 512 * k) t;
      marks = l.1 ∙ s.marks ∙ t;
      buffer = l.2;
      count = x.0.2;
    }

pub perform-sound : (x : Meaning) (m : Machine) → Allowed x m.state → Sound m → Sound (perform x m).next
perform-sound x m a s = sound-next m (perform x m).next s (perform_kept x m a s.count s.made)
