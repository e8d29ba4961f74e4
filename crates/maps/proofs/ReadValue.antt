-- 01, row 9, speaks of a byte write: what a read means does not depend on the value that came with it.
use Prim.Native.Nat.{ℕ}
use mathlib.Core.Path.{◌≡◌}
use mathlib.Core.Bool.{false}
use Rattle.maps.specs.declared.Access.{Access}
use Rattle.maps.specs.declared.Mode.{Mode}
use Rattle.maps.specs.Places.{place_at}
use Rattle.maps.specs.Rows.{with_value, misfits, above_three, stands_at}

pub read_value : (mode : Mode) (index v : ℕ) (a : Access) → a.write ≡ false → stands_at mode index (with_value v a) ≡ stands_at mode index a
unfolding stands_at place_at misfits above_three
read_value mode index v a e = rw e
