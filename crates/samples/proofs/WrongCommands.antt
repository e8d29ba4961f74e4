-- Cards with a fault in what a command does, and a sample that each fails by itself.
use mathlib.Core.Bool.{false}
use mathlib.Core.Path.{◌≡◌, refl}
use Rattle.samples.specs.List.{sample2, sample7, sample8, sample9}
use Rattle.samples.specs.Passes.{reader, holds_of}
use Rattle.samples.specs.WrongCommands.{clears_code, zero_means_none, run_not_tested, low_half_first, integrity_stays, ignores91_h, takes_heads}
use Rattle.samples.proofs.Computing.{computing}

-- the second 03H says 00H
pub clears_code_2 : holds_of clears_code reader sample2 ≡ false
unfolding computing clears_code
clears_code_2 = refl

-- Verify ends well, with nothing done
pub zero_means_none_7 : holds_of zero_means_none reader sample7 ≡ false
unfolding computing zero_means_none
zero_means_none_7 = refl

-- Count is 224 and the address LBA 32
pub run_not_tested_7 : holds_of run_not_tested reader sample7 ≡ false
unfolding computing run_not_tested
run_not_tested_7 = refl

-- word 7 is 32
pub low_half_first_8 : holds_of low_half_first reader sample8 ≡ false
unfolding computing low_half_first
low_half_first_8 = refl

-- word 255 is 46A5H after 91H
pub integrity_stays_8 : holds_of integrity_stays reader sample8 ≡ false
unfolding computing integrity_stays
integrity_stays_8 = refl

-- current C is still 4; 91H with Count 33 ends well
pub ignores_91h_8 : holds_of ignores91_h reader sample8 ≡ false
unfolding computing ignores91_h
ignores_91h_8 = refl

pub ignores_91h_9 : holds_of ignores91_h reader sample9 ≡ false
unfolding computing ignores91_h
ignores_91h_9 = refl

-- (3,1,4) is bad after the refused 91H
pub takes_heads_9 : holds_of takes_heads reader sample9 ≡ false
unfolding computing takes_heads
takes_heads_9 = refl
