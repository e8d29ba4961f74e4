-- One access, and a list of them.
use Rattle.std.specs.Prelude.{List, [], ◌∷◌, Ok, Err}
use Rattle.registers.specs.Machine.{Machine}
use Rattle.port.specs.Data.{Effect}
use Rattle.card.specs.declared.Meaning.{Meaning}
use Rattle.card.specs.Access.{Asked, decided, meaning, Verdict}
use Rattle.card.specs.Perform.{perform}

unfoldable pub step : Machine → Asked → Effect
step m a = perform (meaning m a) m

-- the same of a card that is known to be well made, with all that is lent of the right length
unfoldable pub fit_step : Machine → Asked → Effect
fit_step m a = perform (decided m.state a) m

-- by the verdict of rows 12, 2, 3 and 5 (`verdict_of`, Access.antt): no access changes what they say, so a run tries them once
abbrev pub by_verdict : Verdict → Machine → Asked → Effect
by_verdict (Ok tt) m a = fit_step m a
by_verdict (Err r) m a = perform (Meaning.Refused r) m

-- a list of accesses: what each left, and the machine after the last
pub record Played : Type 0 where
  pub steps : List Effect
  pub last : Machine

unfoldable pub play : Machine → List Asked → Played
play m [] = record { steps = []; last = m }
play m (a ∷ l) = let s = step m a in let p = play s.next l in record { steps = s ∷ p.steps; last = p.last }
