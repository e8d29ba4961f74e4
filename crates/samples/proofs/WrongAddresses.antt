-- Cards with a fault in the address of a sector, and a sample that each fails by itself.
use mathlib.Core.Bool.{false}
use mathlib.Core.Path.{◌≡◌, refl}
use Rattle.samples.specs.List.{sample1, sample2, sample3, sample4, sample5, sample6, sample8}
use Rattle.samples.specs.Passes.{reader, holds_of}
use Rattle.samples.specs.WrongAddresses.{one_too_far, takes_sector_zero, bad_cylinder21, cylinder_first, from_sector_zero, past_end_as_zero, lba_below_current}
use Rattle.samples.proofs.Computing.{computing}

-- (3,1,4) is 32, and so sector 0 is erased
pub one_too_far_1 : holds_of one_too_far reader sample1 ≡ false
unfolding computing one_too_far
one_too_far_1 = refl

-- (0,0,0) is good
pub takes_sector_zero_2 : holds_of takes_sector_zero reader sample2 ≡ false
unfolding computing takes_sector_zero
takes_sector_zero_2 = refl

-- (4,0,1): 21H
pub bad_cylinder_21_3 : holds_of bad_cylinder21 reader sample3 ≡ false
unfolding computing bad_cylinder21
bad_cylinder_21_3 = refl

-- (4,2,1): 2FH
pub cylinder_first_4 : holds_of cylinder_first reader sample4 ≡ false
unfolding computing cylinder_first
cylinder_first_4 = refl

-- (4,0,1) is good; LBA 32 is good; there is a third sector to read
pub past_end_as_zero_3 : holds_of past_end_as_zero reader sample3 ≡ false
unfolding computing past_end_as_zero from_sector_zero
past_end_as_zero_3 = refl

pub past_end_as_zero_5 : holds_of past_end_as_zero reader sample5 ≡ false
unfolding computing past_end_as_zero from_sector_zero
past_end_as_zero_5 = refl

pub past_end_as_zero_6 : holds_of past_end_as_zero reader sample6 ≡ false
unfolding computing past_end_as_zero from_sector_zero
past_end_as_zero_6 = refl

-- LBA 30 is bad once current C·H·S is 30
pub lba_below_current_8 : holds_of lba_below_current reader sample8 ≡ false
unfolding computing lba_below_current
lba_below_current_8 = refl
