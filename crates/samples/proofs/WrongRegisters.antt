-- Cards with a fault in what stands at an address, or in what a register or the data port does, and a sample that each fails by itself.
use mathlib.Core.Bool.{false}
use mathlib.Core.Path.{◌≡◌, refl}
use Rattle.samples.specs.List.{sample10, sample11, sample13}
use Rattle.samples.specs.Passes.{reader, holds_of}
use Rattle.samples.specs.WrongRegisters.{even_at401, alternate_at3_f7, even_and_alternate, reads_even_at401, reads_alternate_at3_f7, alternate_clears, in_order_of_arrival, bit_seven_set, head_not_negated}
use Rattle.samples.proofs.Computing.{computing}

-- 400H gives 22H first
pub even_at_401_10 : holds_of even_at401 reader sample10 ≡ false
unfolding computing even_at401
even_at_401_10 = refl

-- E8H at 3F7H is no command
pub alternate_at_3f7_10 : holds_of alternate_at3_f7 reader sample10 ≡ false
unfolding computing alternate_at3_f7
alternate_at_3f7_10 = refl

pub even_and_alternate_10 : holds_of even_and_alternate reader sample10 ≡ false
unfolding computing even_and_alternate
even_and_alternate_10 = refl

-- 401H gives 11H where it is read first; reading 3F7H leaves the line up
pub reads_even_at_401_10 : holds_of reads_even_at401 reader sample10 ≡ false
unfolding computing reads_even_at401
reads_even_at_401_10 = refl

pub reads_alternate_at_3f7_10 : holds_of reads_alternate_at3_f7 reader sample10 ≡ false
unfolding computing reads_alternate_at3_f7
reads_alternate_at_3f7_10 = refl

-- reading 3FEH leaves the line down
pub alternate_clears_10 : holds_of alternate_clears reader sample10 ≡ false
unfolding computing alternate_clears
alternate_clears_10 = refl

-- 22H 11H
pub in_order_of_arrival_11 : holds_of in_order_of_arrival reader sample11 ≡ false
unfolding computing in_order_of_arrival
in_order_of_arrival_11 = refl

-- FEH; 42H
pub bit_seven_set_13 : holds_of bit_seven_set reader sample13 ≡ false
unfolding computing bit_seven_set
bit_seven_set_13 = refl

pub head_not_negated_13 : holds_of head_not_negated reader sample13 ≡ false
unfolding computing head_not_negated
head_not_negated_13 = refl
