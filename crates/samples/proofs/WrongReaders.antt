-- Wrong tuple readers, which fail sample 12.
use mathlib.Core.Bool.{false}
use mathlib.Core.Path.{◌≡◌, refl}
use Rattle.card.specs.Step.{step}
use Rattle.samples.specs.List.{sample12}
use Rattle.samples.specs.Passes.{holds_of}
use Rattle.samples.specs.WrongReaders.{starts_at_code, lists_end}
use Rattle.samples.proofs.Computing.{computing}

-- (18H,0,2)
pub starts_at_code_12 : holds_of step starts_at_code sample12 ≡ false
unfolding computing starts_at_code
starts_at_code_12 = refl

-- three entries
pub lists_end_12 : holds_of step lists_end sample12 ≡ false
unfolding computing lists_end
lists_end_12 = refl
