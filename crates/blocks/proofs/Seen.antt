-- That an access sets the mark, seen on a card whose mark was clear, is what the rule of the interrupt mark says of it.
use mathlib.Core.Bool.{Bool, true, false, not, ◌&&◌, ◌||◌}
use mathlib.Core.Path.{◌≡◌, refl, ap, ◌∙◌}
use Rattle.registers.specs.declared.State.{State}
use Rattle.registers.specs.State.{with_interrupt}
use Rattle.registers.specs.Machine.{Machine, core_of}
use Rattle.registers.specs.WellMade.{in_reset}
use Rattle.port.specs.Data.{Effect}
use Rattle.card.specs.declared.Meaning.{Meaning}
use Rattle.card.specs.declared.Meaning.TheVariants.{TupleByte, ReadOption, WriteOption, ReadRegister, WriteRegister, ReadData, WriteData}
use Rattle.card.specs.Access.{Asked, meaning}
use Rattle.card.specs.Step.{step}
use Rattle.kept.specs.Sound.{Sound}
use Rattle.kept.proofs.Registers.{apart, together, run_same}
use Rattle.laws.specs.Acts.{Act, StatusRead, CommandWrite, ControlWrite, OptionWrite, DataRead, DataWrite, NoMatter, act_of}
use Rattle.laws.specs.Interrupt.{sets, clears}
use Rattle.laws.proofs.InterruptRule.{interrupt_rule}
use Rattle.blocks.specs.Marks.{unmarked, sets_mark}
use Rattle.blocks.proofs.Alike.{step_alike}

-- it is as well made
unmarked-sound : (m : Machine) → Sound m → Sound (unmarked m)
unfolding in_reset
unmarked-sound m s =
    let f = apart m.phase m.state s.made in
    let r = f.1 in
    let q = with_interrupt false m.state in
    record {
      made = together m.state.made m.phase q f.0 (r.0, r.1, r.2, run_same m.phase m.state q refl refl r.3, r.4);
      store = s.store;
      marks = s.marks;
      buffer = s.buffer;
      count = s.count;
    }

-- the rule asks for the registers alone
by_registers : (x : Act) (s n k : State) → n.registers ≡ k.registers → sets x s n ≡ sets x s k
unfolding sets
by_registers StatusRead s n k e = refl
by_registers (CommandWrite c) s n k e = rw e
by_registers (ControlWrite v) s n k e = refl
by_registers (OptionWrite v) s n k e = refl
by_registers (DataRead last) s n k e = rw e
by_registers (DataWrite last) s n k e = rw e
by_registers NoMatter s n k e = refl

or-not : (a b : Bool) → (a || (false && b)) ≡ a
or-not true b = refl
or-not false b = refl

from_clear : (x : Act) (s : State) (n : State) → sets x (with_interrupt false s) n ≡ sets x s n
unfolding sets
from_clear StatusRead s n = refl
from_clear (CommandWrite c) s n = refl
from_clear (ControlWrite v) s n = refl
from_clear (OptionWrite v) s n = refl
from_clear (DataRead last) s n = refl
from_clear (DataWrite last) s n = refl
from_clear NoMatter s n = refl

means_clear : (m : Machine) (a : Asked) → Sound m → meaning (unmarked m) a ≡ meaning m a
unfolding meaning
means_clear m a s = rw (s.made, (unmarked-sound m s).made) refl

act_clear : (x : Meaning) (m : Machine) → act_of x (core_of (unmarked m)) ≡ act_of x (core_of m)
act_clear (Meaning.Refused r) m = refl
act_clear (TupleByte b) m = refl
act_clear ReadOption m = refl
act_clear (WriteOption v) m = refl
act_clear (ReadRegister r) m = refl
act_clear (WriteRegister r v) m = refl
act_clear (ReadData port) m = refl
act_clear (WriteData port v) m = refl

pub seen : (m : Machine) (a : Asked) → Sound m → sets_mark m a ≡ sets (act_of (meaning m a) (core_of m)) m.state (step m a).next.state
seen m a s =
    let u = unmarked m in
    let t = unmarked-sound m s in
    let n = (step u a).next.state in
    interrupt_rule u a
    ∙ or-not (sets (act_of (meaning u a) (core_of u)) u.state n) (not (clears (act_of (meaning u a) (core_of u)) u.state))
    ∙ ap (λ (x : Meaning). sets (act_of x (core_of u)) u.state n) (means_clear m a s)
    ∙ ap (λ (x : Act). sets x u.state n) (act_clear (meaning m a) m)
    ∙ from_clear (act_of (meaning m a) (core_of m)) m.state n
    ∙ by_registers (act_of (meaning m a) (core_of m)) m.state n (step m a).next.state (ap (λ (z : Effect). z.next.state.registers) (step_alike u m a t s refl))
