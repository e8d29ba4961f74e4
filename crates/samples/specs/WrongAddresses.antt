-- Cards with one fault in the address of a sector: samples 1 to 8 show them.
use Rattle.std.specs.Prelude.{ℕ, zero, suc, ◌-◌, not, ◌&&◌, List, ◌++◌, eqb, leb, length, take, drop}
use Rattle.ground.specs.Choice.{pick}
use Rattle.ground.specs.Sizes.{sector_bytes}
use Rattle.geometry.specs.declared.Address.{Address}
use Rattle.geometry.specs.Limits.{capacity_of}
use Rattle.geometry.specs.Address.{by_lba, cylinder_of, lba_of}
use Rattle.geometry.specs.Next.{at_lba, at_chs}
use Rattle.registers.specs.declared.Phase.{Phase}
use Rattle.registers.specs.declared.Phase.TheVariants.{Idle, DataIn, DataOut}
use Rattle.registers.specs.State.{with_code, with_address, total_in}
use Rattle.registers.specs.Machine.{Machine}
use Rattle.commands.specs.Table.{command_given}
use Rattle.port.specs.Data.{Effect}
use Rattle.card.specs.Access.{Asked, meaning}
use Rattle.card.specs.Step.{step}
use Rattle.samples.specs.Kinds.{opcode_in, gives_any, gives_sectors, in_command, idnf_in, ends_in_idnf}
use Rattle.samples.specs.Faults.{address_in, at_address, with_lent, with_next, altered}

-- "CHS index is (c·H+h)·S+s-1": here without the -1, and the sector after the last is the first. Such a card works as over a store and marks whose
-- first sector was put at the end.
abbrev pub first_last : ℕ → List ℕ → List ℕ
first_last n l = drop n l ++ take n l

abbrev pub forth : Machine → Machine
forth m = with_lent (first_last sector_bytes m.store) (first_last 1 m.marks) m

abbrev pub back : Machine → Machine
back m = with_lent (first_last (length m.store - sector_bytes) m.store) (first_last (length m.marks - 1) m.marks) m

unfoldable pub one_too_far : Machine → Asked → Effect
one_too_far m a = let s = step (forth m) a in pick (in_command m a && not (by_lba (address_in m))) (with_next (back s.next) s) (step m a)

-- "s 1..S": here 0 is taken for 1
abbrev pub from_one : Address → Address
from_one a = record { sector = 1; low = a.low; high = a.high; head = a.head }

unfoldable pub takes_sector_zero : Machine → Asked → Effect
takes_sector_zero m a =
    pick (gives_sectors m a && (not (by_lba (address_in m)) && eqb (address_in m).sector 0)) (step (at_address (from_one (address_in m)) m) a) (step m a)

-- "Otherwise bad cylinder or LBA: 2FH.": here a bad cylinder is 21H
unfoldable pub bad_cylinder21 : Machine → Asked → Effect
bad_cylinder21 m a = let s = step m a in pick (ends_in_idnf 0x2F m a && not (by_lba (address_in s.next))) (altered (with_code 0x21) s) s

-- "Bad head or sector: code 21H. Otherwise …": here the cylinder is tested first
unfoldable pub cylinder_first : Machine → Asked → Effect
cylinder_first m a =
    let s = step m a in
    pick (ends_in_idnf 0x21 m a && leb m.state.current.cylinders (cylinder_of (address_in s.next))) (altered (with_code 0x2F) s) s

-- past the end as sector 0: the command goes on there with the Count that is left, as often as it comes to the end, 256 times at most
abbrev pub sector_zero : Address → Address
sector_zero a = pick (by_lba a) (at_lba a 0) (at_chs a 0 0 1)

unfoldable pub from_sector_zero : ℕ → ℕ → Machine → Machine
from_sector_zero zero opcode m = m
from_sector_zero (suc n) opcode m = let more = from_sector_zero n opcode (command_given opcode (at_address (sector_zero (address_in m)) m)) in pick (idnf_in 0x2F m.state) more m

-- the command whose data moves
abbrev pub moved_by : Phase → ℕ
moved_by Idle = 0x100
moved_by (DataIn t) = 0x20
moved_by (DataOut t) = 0x30

unfoldable pub past_end_as_zero : Machine → Asked → Effect
past_end_as_zero m a =
    let s = step m a in
    let opcode = pick (gives_any m a) (opcode_in (meaning m a)) (moved_by m.phase) in
    pick (ends_in_idnf 0x2F m a) (with_next (from_sector_zero 256 opcode s.next) s) s

-- LBA "below N": here a command's first sector is below the current C·H·S
unfoldable pub lba_below_current : Machine → Asked → Effect
lba_below_current m a =
    let here = address_in m in
    pick (gives_sectors m a && (by_lba here && leb (capacity_of m.state.current) (lba_of here)))
    (altered (with_address here) (step (at_address (at_lba here (total_in m.state)) m) a))
    (step m a)
