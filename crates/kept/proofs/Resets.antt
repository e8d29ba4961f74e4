-- The two resets leave a card well made: entered, left, or a write that turns nothing.
use Prim.Native.Nat.{ℕ}
use mathlib.Core.Bool.{Bool, true, false}
use mathlib.Core.Path.{◌≡◌, refl, sym, ap, ◌∙◌}
use mathlib.Core.List.{List}
use native.Mathlib.Omega.{arith}
use lib.ListN.{length, length-replicate}
use Rattle.ground.specs.Choice.{pick}
use Rattle.geometry.specs.Limits.{fits, total_of}
use Rattle.geometry.proofs.Shapes.{fits_current}
use Rattle.registers.specs.declared.Phase.{Phase}
use Rattle.registers.specs.declared.Phase.TheVariants.{Idle, DataIn, DataOut}
use Rattle.registers.specs.declared.Made.{Made}
use Rattle.registers.specs.declared.State.{State}
use Rattle.registers.specs.declared.Core.{Core}
use Rattle.registers.specs.declared.resets.Turn.{Turn}
use Rattle.registers.specs.declared.resets.Turn.TheVariants.{Enter, Leave, Stay}
use Rattle.registers.specs.Status.{idle_status}
use Rattle.registers.specs.State.{with_option, with_control, sreset_in}
use Rattle.registers.specs.Machine.{core}
use Rattle.registers.specs.WellMade.{index_fits, sreset_fits, at_rest, status_fits, in_reset, hold_fits, words_fit, run_fits, bad_fits, block_fits, run_pace_fits}
use Rattle.registers.specs.PowerOn.{power_on, zeros}
use Rattle.registers.specs.Resets.{turn_of, rest_status, entered, option_turned, buffer_turned, control_turned, control_written, bit_two, bit_one, option_core}
use Rattle.kept.specs.Sound.{CountFits}
use Rattle.kept.proofs.Registers.{StateFits, PhaseFits, run_same}

-- what a reset leaves, of a Sector Count that may be any
abbrev pub Turned : Made → State → Core → Type 0
Turned d s k = StateFits d k.state × PhaseFits k.phase k.state × (CountFits s → CountFits k.state)

-- the map setting is one that may be written
abbrev pub OptionFits : ℕ → State → Type 0
OptionFits v s = (index_fits v ≡ true) × (sreset_fits s.made.mode v ≡ true)

rest_status_lem : (p : Phase) (status : ℕ) → status_fits p status ≡ true → at_rest (rest_status p status) ≡ true
unfolding status_fits at_rest
rest_status_lem Idle status e = e
rest_status_lem (DataIn t) status e = refl
rest_status_lem (DataOut t) status e = refl

-- a card at rest is tested by its Status alone
pub at_rest_lem : (s : State) → at_rest s.registers.status ≡ true → PhaseFits Idle s
unfolding status_fits hold_fits words_fit run_fits run_pace_fits
at_rest_lem s e = (e, refl, refl, refl, refl)

-- the transfer ends
entered_rests : (p : Phase) (s : State) → PhaseFits p s → at_rest (entered p s).registers.status ≡ true
entered_rests p s r = rest_status_lem p s.registers.status r.0

-- power-on, with any map setting that may be written, and no more bad sectors than N
pub power_stands : (d : Made) (b v : ℕ) → fits d.default ≡ true → index_fits v ≡ true → sreset_fits d.mode v ≡ true → bad_fits b (total_of d.default) ≡ true →
    StateFits d (power_on d b v)
unfolding block_fits
power_stands d b v f i m t = (refl, f, fits_current d.default f, i, m, t, refl)

pub power_status : at_rest idle_status ≡ true
unfolding at_rest
power_status = refl

same_sreset : (v : ℕ) (s : State) → sreset_in v ≡ sreset_in s.option → in_reset (with_option v s) ≡ in_reset s
unfolding in_reset
same_sreset v s e = ap (λ (b : Bool). pick b true s.control.held) e

option_stays : (v : ℕ) (d : Made) (p : Phase) (s : State) → sreset_in v ≡ sreset_in s.option → OptionFits v s → StateFits d s → PhaseFits p s → Turned d s (core p (with_option v s))
option_stays v d p s e o f r =
    ((f.0, f.1, f.2, o.0, o.1, f.5, f.6), (r.0, rw (same_sreset v s e) r.1, r.2, run_same p s (with_option v s) refl refl r.3, r.4), λ c. c)

option_by : (a b : Bool) (v : ℕ) (d : Made) (p : Phase) (s : State) → sreset_in s.option ≡ a → sreset_in v ≡ b → OptionFits v s → StateFits d s → PhaseFits p s →
    Turned d s (option_turned (turn_of a b) v p s)
unfolding option_turned turn_of
option_by false true v d p s x y o f r = ((f.0, f.1, f.2, o.0, o.1, f.5, f.6), at_rest_lem (with_option v (entered p s)) (entered_rests p s r), λ c. c)
option_by true false v d p s x y o f r =
    let g = power_stands s.made s.bad v f.1 o.0 o.1 f.5 in
    ((f.0, g.1, g.2, g.3, g.4, g.5, g.6), at_rest_lem (power_on s.made s.bad v) power_status, λ c. omega arith)
option_by false false v d p s x y o f r = option_stays v d p s (y ∙ sym x) o f r
option_by true true v d p s x y o f r = option_stays v d p s (y ∙ sym x) o f r

pub option_turned_lem : (v : ℕ) (d : Made) (p : Phase) (s : State) → OptionFits v s → StateFits d s → PhaseFits p s → Turned d s (option_core v p s)
option_turned_lem v d p s o f r = option_by (sreset_in s.option) (sreset_in v) v d p s refl refl o f r

control_by : (t : Turn) (masked : Bool) (d : Made) (p : Phase) (s : State) → StateFits d s → PhaseFits p s → Turned d s (control_turned t masked p s)
unfolding control_turned in_reset
control_by Enter masked d p s f r = (f, at_rest_lem (with_control (record { held = true; masked = masked }) (entered p s)) (entered_rests p s r), λ c. c)
control_by Leave masked d p s f r =
    let g = power_stands s.made s.bad s.option f.1 f.3 f.4 f.5 in
    ((f.0, g.1, g.2, g.3, g.4, g.5, g.6), at_rest_lem (with_control (record { held = false; masked = masked }) (power_on s.made s.bad s.option)) power_status, λ c. omega arith)
control_by Stay masked d p s f r =
    (f, (r.0, r.1, r.2, run_same p s (with_control (record { held = s.control.held; masked = masked }) s) refl refl r.3, r.4), λ c. c)

pub control_turned_lem : (v : ℕ) (d : Made) (p : Phase) (s : State) → StateFits d s → PhaseFits p s → Turned d s (control_written v p s)
control_turned_lem v d p s f r = control_by (turn_of s.control.held (bit_two v)) (bit_one v) d p s f r

pub zeros-length : length zeros ≡ 512
unfolding zeros
zeros-length = length-replicate {A = ℕ} 512 0

pub buffer_turned_lem : (t : Turn) (b : List ℕ) → length b ≡ 512 → length (buffer_turned t b) ≡ 512
unfolding buffer_turned
buffer_turned_lem Enter b e = e
buffer_turned_lem Leave b e = zeros-length
buffer_turned_lem Stay b e = e
