-- 7XH: the account's test is the machine's.
use Rattle.std.proofs.Common.{Ok, Err}
use Prim.Native.Nat.{ℕ}
use mathlib.Core.Bool.{Bool, true, false, not}
use mathlib.Core.Path.{◌≡◌, refl}
use mathlib.Core.List.{List}
use lib.Dec.{ltb}
use Rattle.ground.proofs.Below.{not_below}
use Rattle.ground.specs.Choice.{pick}
use Rattle.geometry.specs.Address.{seek, by_lba, lba_of, head_of, cylinder_of}
use Rattle.registers.specs.declared.State.{State}
use Rattle.registers.specs.State.{total_in}
use Rattle.commands.specs.Table.{sought_end}
use Rattle.account.specs.Plain.{sectors_of, Well, NotFound}
use Rattle.account.specs.Addressed.{judged}
use Rattle.account.specs.Table.{seeks}
use Rattle.account.specs.Host.{plain_in}
use Rattle.account.proofs.Addressed.{selects_is, lba_is, cylinder_is}
use Rattle.account.proofs.Seats.{Shaped}
use Rattle.account.proofs.Tried.{finish_of}
use Rattle.geometry.specs.declared.BadAddress.{BadAddress}

seek_by : (a u v w : Bool) →
    pick a (judged false (not u) NotFound Well) (judged (not v) (not w) NotFound Well)
    ≡ finish_of (sought_end (pick a (pick u (Ok tt) (Err BadAddress.Lba)) (pick v (pick w (Ok tt) (Err BadAddress.Cylinder)) (Err BadAddress.HeadOrSector))))
seek_by true true v w = refl
seek_by true false v w = refl
seek_by false u true true = refl
seek_by false u true false = refl
seek_by false u false w = refl

pub seek_is : (s : State) (b t k : List ℕ) → Shaped s.made s.current → seeks (plain_in s b t k) ≡ finish_of (sought_end (seek s.registers.address s.current (total_in s)))
unfolding seeks seek
seek_is s b t k h =
    let a = s.registers.address in
    rw (h.1, selects_is a, lba_is a, cylinder_is a, not_below (lba_of a) (sectors_of s.made.default), not_below (head_of a) s.current.heads, not_below (cylinder_of a) s.current.cylinders)
    (seek_by (by_lba a) (ltb (lba_of a) (sectors_of s.made.default)) (ltb (head_of a) s.current.heads) (ltb (cylinder_of a) s.current.cylinders))
