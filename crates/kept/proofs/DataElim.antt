-- What an access to the data port can do: nothing, a refusal, a half moved, a word moved, or the last word moved.
use Rattle.std.proofs.Common.{Err, None, Some}
use Prim.Native.Nat.{ℕ}
use mathlib.Core.Bool.{true}
use mathlib.Core.Path.{◌≡◌, refl}
use lib.Dec.{ltb}
use Rattle.ground.proofs.Picks.{pick-elim}
use Rattle.answers.specs.declared.Refusal.TheVariants.{HalfMoved}
use Rattle.maps.specs.declared.Port.{Port}
use Rattle.registers.specs.declared.Transfer.{Transfer}
use Rattle.registers.specs.declared.Phase.{Phase}
use Rattle.registers.specs.declared.Phase.TheVariants.{Idle, DataIn, DataOut}
use Rattle.registers.specs.Machine.{Machine, with_buffer}
use Rattle.port.specs.declared.Part.{Part}
use Rattle.port.specs.declared.Fill.TheVariants.{Begun, Full}
use Rattle.port.specs.Halves.{take_of, part_value, with_part, halved, next_word, Take}
use Rattle.transfers.specs.Steps.{load_read, load_written, all_moved}
use Rattle.port.specs.Data.{Effect, accepted, with_phase, word_read, taken_read, phase_read, data_read, word_written, taken_written, phase_written, data_written}

-- refusal 11
abbrev pub half_moved : Machine → Effect
half_moved m = record { outcome = Err HalfMoved; next = m }

-- ---- reading

taken_read_lem : (P : Effect → Type 0) (k : Take) (t : Transfer) (m : Machine) → P (half_moved m) →
    ((v : ℕ) (part : Part) → P (accepted v (with_phase (DataIn (halved part t)) m))) →
    ((v : ℕ) → ltb t.words 255 ≡ true → P (accepted v (with_phase (DataIn (next_word t)) m))) →
    ((v : ℕ) → P (accepted v (load_read t.load (all_moved m)))) →
    P (taken_read k t m)
unfolding word_read
taken_read_lem P None t m r h n l = r
taken_read_lem P (Some (part, Begun)) t m r h n l = h _ part
taken_read_lem P (Some (part, Full)) t m r h n l =
    let v = part_value part t.words m.buffer in
    pick-elim (λ (x : Machine). P (accepted v x)) (ltb t.words 255) _ _ (n v) (λ e. l v)

phase_read_elim : (P : Effect → Type 0) (p : Phase) (port : Port) (m : Machine) → ((v : ℕ) → P (accepted v m)) → P (half_moved m) →
    ((v : ℕ) (part : Part) (t : Transfer) → p ≡ DataIn t → P (accepted v (with_phase (DataIn (halved part t)) m))) →
    ((v : ℕ) (t : Transfer) → p ≡ DataIn t → ltb t.words 255 ≡ true → P (accepted v (with_phase (DataIn (next_word t)) m))) →
    ((v : ℕ) (t : Transfer) → p ≡ DataIn t → P (accepted v (load_read t.load (all_moved m)))) →
    P (phase_read p port m)
phase_read_elim P Idle port m a r h n l = a _
phase_read_elim P (DataIn t) port m a r h n l = taken_read_lem P (take_of t.half port) t m r (λ v part. h v part t refl) (λ v e. n v t refl e) (λ v. l v t refl)
phase_read_elim P (DataOut t) port m a r h n l = a _

-- … and where Device Control holds the card: nothing
pub data_read_elim : (P : Effect → Type 0) (port : Port) (m : Machine) → ((v : ℕ) → P (accepted v m)) → P (half_moved m) →
    ((v : ℕ) (part : Part) (t : Transfer) → m.phase ≡ DataIn t → P (accepted v (with_phase (DataIn (halved part t)) m))) →
    ((v : ℕ) (t : Transfer) → m.phase ≡ DataIn t → ltb t.words 255 ≡ true → P (accepted v (with_phase (DataIn (next_word t)) m))) →
    ((v : ℕ) (t : Transfer) → m.phase ≡ DataIn t → P (accepted v (load_read t.load (all_moved m)))) →
    P (data_read port m)
unfolding data_read
data_read_elim P port m a r h n l = pick-elim P m.state.control.held _ _ (λ e. a _) (λ e. phase_read_elim P m.phase port m a r h n l)

-- ---- writing

-- the machine with the part that has come
abbrev pub part_come : Part → Transfer → ℕ → Machine → Machine
part_come part t value m = with_buffer (with_part part t.words value m.buffer) m

taken-written : (P : Effect → Type 0) (k : Take) (value : ℕ) (t : Transfer) (m : Machine) → P (half_moved m) →
    ((part : Part) → P (accepted 0 (with_phase (DataOut (halved part t)) (part_come part t value m)))) →
    ((part : Part) → ltb t.words 255 ≡ true → P (accepted 0 (with_phase (DataOut (next_word t)) (part_come part t value m)))) →
    ((part : Part) → P (accepted 0 (load_written t.load (all_moved (part_come part t value m))))) →
    P (taken_written k value t m)
unfolding word_written
taken-written P None value t m r h n l = r
taken-written P (Some (part, Begun)) value t m r h n l = h part
taken-written P (Some (part, Full)) value t m r h n l = pick-elim (λ (x : Machine). P (accepted 0 x)) (ltb t.words 255) _ _ (n part) (λ e. l part)

phase_written_elim : (P : Effect → Type 0) (p : Phase) (port : Port) (value : ℕ) (m : Machine) → P (accepted 0 m) → P (half_moved m) →
    ((part : Part) (t : Transfer) → p ≡ DataOut t → P (accepted 0 (with_phase (DataOut (halved part t)) (part_come part t value m)))) →
    ((part : Part) (t : Transfer) → p ≡ DataOut t → ltb t.words 255 ≡ true → P (accepted 0 (with_phase (DataOut (next_word t)) (part_come part t value m)))) →
    ((part : Part) (t : Transfer) → p ≡ DataOut t → P (accepted 0 (load_written t.load (all_moved (part_come part t value m))))) →
    P (phase_written p port value m)
phase_written_elim P Idle port value m a r h n l = a
phase_written_elim P (DataIn t) port value m a r h n l = a
phase_written_elim P (DataOut t) port value m a r h n l =
    taken-written P (take_of t.half port) value t m r (λ part. h part t refl) (λ part e. n part t refl e) (λ part. l part t refl)

pub data_written_elim : (P : Effect → Type 0) (port : Port) (value : ℕ) (m : Machine) → P (accepted 0 m) → P (half_moved m) →
    ((part : Part) (t : Transfer) → m.phase ≡ DataOut t → P (accepted 0 (with_phase (DataOut (halved part t)) (part_come part t value m)))) →
    ((part : Part) (t : Transfer) → m.phase ≡ DataOut t → ltb t.words 255 ≡ true → P (accepted 0 (with_phase (DataOut (next_word t)) (part_come part t value m)))) →
    ((part : Part) (t : Transfer) → m.phase ≡ DataOut t → P (accepted 0 (load_written t.load (all_moved (part_come part t value m))))) →
    P (data_written port value m)
unfolding data_written
data_written_elim P port value m a r h n l = pick-elim P m.state.control.held _ _ (λ e. a) (λ e. phase_written_elim P m.phase port value m a r h n l)
