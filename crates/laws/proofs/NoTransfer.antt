-- 01, "Maps": offsets "0, 8, 9 data"; "Data": "With no transfer that way, a read gives FFH or FFFFH and a write has no effect (H)", in whatever map.
use Rattle.std.proofs.Common.{Ok, Some}
use Prim.Native.Nat.{ℕ}
use mathlib.Core.Path.{◌≡◌, refl, sym, ap, subst, ◌∙◌}
use mathlib.Core.Bool.{Bool, true, false, true≢false, false≢true}
use mathlib.Core.List.{[], ◌∷◌}
use lib.Dec.{eqb}
use borrow.Author.Tests.{eqb-true}
use Rattle.ground.specs.Choice.{pick}
use Rattle.ground.proofs.Picks.{pick-elim}
use Rattle.answers.specs.Answers.{refused}
use Rattle.maps.specs.declared.Port.{Port}
use Rattle.maps.specs.declared.Port.TheVariants.{Even, Odd, Word}
use Rattle.maps.specs.declared.Target.TheVariants.{Data}
use Rattle.maps.specs.Places.{register_place}
use Rattle.maps.specs.Rows.{moved}
use Rattle.registers.specs.declared.Phase.{Phase}
use Rattle.registers.specs.declared.Phase.TheVariants.{Idle, DataIn, DataOut}
use Rattle.registers.specs.Machine.{Machine}
use Rattle.port.specs.Data.{accepted, absent_value, held_value, phase_read, data_read, phase_written, data_written}
use Rattle.card.specs.declared.Meaning.TheVariants.{ReadData, WriteData}
use Rattle.card.specs.Access.{Asked, meaning}
use Rattle.card.specs.Perform.{perform}
use Rattle.card.specs.Step.{step}
use Rattle.card.specs.Rows.{among}
use Rattle.laws.specs.Holds.{offset_of}
use Rattle.laws.specs.ByOffset.{port_for, that_way, nothing_read}
use Rattle.laws.proofs.Meant.{step_by}
use Rattle.laws.proofs.ByAddress.{Means, offset_means}

-- ---- where data stands

data_elim : (P : ℕ → Type 0) (o : ℕ) → P 0 → P 8 → P 9 → among o (0 ∷ 8 ∷ 9 ∷ []) ≡ true → P o
data_elim P o x y z =
    pick-elim (λ (t : Bool). t ≡ true → P o) (eqb o 0) _ _ (λ e h. subst P (sym (eqb-true o 0 e)) x)
    (λ e. pick-elim (λ (t : Bool). t ≡ true → P o) (eqb o 8) _ _ (λ e h. subst P (sym (eqb-true o 8 e)) y)
    (λ e. pick-elim (λ (t : Bool). t ≡ true → P o) (eqb o 9) _ _ (λ e h. subst P (sym (eqb-true o 9 e)) z) (λ e h. absurd (false≢true h))))

data_moved : (o width : ℕ) → among o (0 ∷ 8 ∷ 9 ∷ []) ≡ true → moved (register_place o) width ≡ Ok (Data (port_for o width))
unfolding register_place
data_moved o width = data_elim (λ (n : ℕ). moved (register_place n) width ≡ Ok (Data (port_for n width))) o refl refl refl

data_means : (m : Machine) (a : Asked) (o : ℕ) → offset_of m a ≡ Some o → among o (0 ∷ 8 ∷ 9 ∷ []) ≡ true → refused (step m a).outcome ≡ false →
    Means (Data (port_for o a.access.width)) a (meaning m a)
data_means m a o p d = offset_means m a o (Data (port_for o a.access.width)) (data_moved o a.access.width d) p

pub means_data_read : (m : Machine) (a : Asked) (o : ℕ) → offset_of m a ≡ Some o → among o (0 ∷ 8 ∷ 9 ∷ []) ≡ true → a.access.write ≡ false → refused (step m a).outcome ≡ false →
    meaning m a ≡ ReadData (port_for o a.access.width)
means_data_read m a o p d w f = (data_means m a o p d f).0 ∙ rw w

pub means_data_written : (m : Machine) (a : Asked) (o : ℕ) → offset_of m a ≡ Some o → among o (0 ∷ 8 ∷ 9 ∷ []) ≡ true → a.access.write ≡ true → refused (step m a).outcome ≡ false →
    meaning m a ≡ WriteData (port_for o a.access.width) a.access.value
means_data_written m a o p d w f = (data_means m a o p d f).0 ∙ rw w

-- ---- no transfer that way

absent_is : (port : Port) → absent_value port ≡ nothing_read port
absent_is Even = refl
absent_is Odd = refl
absent_is Word = refl

nothing_read_lem : (p : Phase) (port : Port) (m : Machine) → that_way p false ≡ false → phase_read p port m ≡ accepted (nothing_read port) m
nothing_read_lem Idle port m e = rw (← absent_is port)
nothing_read_lem (DataIn t) port m e = absurd (true≢false e)
nothing_read_lem (DataOut t) port m e = rw (← absent_is port)

nothing_written : (p : Phase) (port : Port) (v : ℕ) (m : Machine) → that_way p true ≡ false → phase_written p port v m ≡ accepted 0 m
nothing_written Idle port v m e = refl
nothing_written (DataIn t) port v m e = refl
nothing_written (DataOut t) port v m e = absurd (true≢false e)

pub meant_nothing_read : (port : Port) (m : Machine) → m.state.control.held ≡ false → that_way m.phase false ≡ false → perform (ReadData port) m ≡ accepted (nothing_read port) m
unfolding perform data_read
meant_nothing_read port m h e = ap (λ (t : Bool). pick t (accepted (held_value port) m) (phase_read m.phase port m)) h ∙ nothing_read_lem m.phase port m e

pub meant_nothing_written : (port : Port) (v : ℕ) (m : Machine) → m.state.control.held ≡ false → that_way m.phase true ≡ false → perform (WriteData port v) m ≡ accepted 0 m
unfolding perform data_written
meant_nothing_written port v m h e = ap (λ (t : Bool). pick t (accepted 0 m) (phase_written m.phase port v m)) h ∙ nothing_written m.phase port v m e

pub no_transfer_reads : (m : Machine) (a : Asked) (o : ℕ) → offset_of m a ≡ Some o → among o (0 ∷ 8 ∷ 9 ∷ []) ≡ true → a.access.write ≡ false →
    m.state.control.held ≡ false → that_way m.phase false ≡ false → refused (step m a).outcome ≡ false → step m a ≡ accepted (nothing_read (port_for o a.access.width)) m
no_transfer_reads m a o p d w h e f =
    let port = port_for o a.access.width in
    step_by m a (ReadData port) (accepted (nothing_read port) m) (means_data_read m a o p d w f) (meant_nothing_read port m h e)

pub no_transfer_writes : (m : Machine) (a : Asked) (o : ℕ) → offset_of m a ≡ Some o → among o (0 ∷ 8 ∷ 9 ∷ []) ≡ true → a.access.write ≡ true →
    m.state.control.held ≡ false → that_way m.phase true ≡ false → refused (step m a).outcome ≡ false → step m a ≡ accepted 0 m
no_transfer_writes m a o p d w h e f =
    let port = port_for o a.access.width in
    step_by m a (WriteData port a.access.value) (accepted 0 m) (means_data_written m a o p d w f) (meant_nothing_written port a.access.value m h e)
