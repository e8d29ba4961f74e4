-- The codes of the address decision, of 7XH and of 91H, as geometry says them, are those with which the card's commands end.
use Rattle.std.proofs.Common.{Ok, Err, Some, None}
use mathlib.Core.Path.{◌≡◌, refl}
use Rattle.geometry.specs.Codes.{located_code, sought_code, reshaped_code}
use Rattle.geometry.specs.Shape.{current_after, Reshaped}
use Rattle.registers.specs.declared.State.{State}
use Rattle.transfers.specs.Ends.{end_code}
use Rattle.transfers.specs.Before.{tested_of}
use Rattle.commands.specs.Table.{sought_end, reshaped_ended}
use Rattle.laws.specs.Coded.{tested_code}
use Rattle.geometry.specs.Address.{Located, Sought}
use Rattle.geometry.specs.declared.BadAddress.{BadAddress}

pub located_code_lem : (l : Located) → tested_code (tested_of l) ≡ located_code l
located_code_lem (Ok spot) = refl
located_code_lem (Err BadAddress.HeadOrSector) = refl
located_code_lem (Err BadAddress.Cylinder) = refl
located_code_lem (Err BadAddress.Lba) = refl

pub sought_code_lem : (x : Sought) → end_code (sought_end x) 0 ≡ sought_code x
sought_code_lem (Ok tt) = refl
sought_code_lem (Err BadAddress.HeadOrSector) = refl
sought_code_lem (Err BadAddress.Cylinder) = refl
sought_code_lem (Err BadAddress.Lba) = refl

-- 91H, from a state whose code is 0, as each command starts
pub reshaped_code_lem : (r : Reshaped) (s : State) → s.code ≡ 0 → (reshaped_ended r s).state.code ≡ reshaped_code r
reshaped_code_lem (Some g) s e = e
reshaped_code_lem None s e = refl

pub reshaped-geometry : (r : Reshaped) (s : State) → (reshaped_ended r s).state.current ≡ current_after r s.current
reshaped-geometry (Some g) s = refl
reshaped-geometry None s = refl
