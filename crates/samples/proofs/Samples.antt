-- The thirteen samples.
use mathlib.Core.Bool.{true}
use mathlib.Core.Path.{◌≡◌, refl}
use Rattle.card.specs.Step.{step}
use Rattle.samples.specs.Passes.{reader, passes}
use Rattle.samples.proofs.Computing.{computing}

-- The card's step and the tuple reader pass them, by computing.
pub samples_hold : passes step reader ≡ true
unfolding computing
samples_hold = refl
