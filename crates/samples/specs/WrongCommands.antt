-- Cards with one fault in what a command does: samples 2, 7, 8 and 9 show them. Two are of 01, "Errors the old model made".
use Rattle.std.specs.Prelude.{ℕ, ◌+◌, ◌%◌, ◌&&◌, List, ◌++◌, eqb, take, drop, set}
use Rattle.ground.specs.Choice.{pick}
use Rattle.geometry.specs.Shape.{geometry_by}
use Rattle.registers.specs.declared.State.{State}
use Rattle.registers.specs.Status.{error_status}
use Rattle.registers.specs.State.{with_code, with_current, total_in}
use Rattle.registers.specs.Machine.{Machine, with_buffer, with_core}
use Rattle.maps.specs.Rows.{with_value}
use Rattle.port.specs.Data.{Effect}
use Rattle.commands.specs.Sweeps.{verify_from}
use Rattle.commands.specs.Table.{started, count_of, dropped}
use Rattle.card.specs.Access.{Asked, asked_with}
use Rattle.card.specs.Step.{step}
use Rattle.samples.specs.Kinds.{gives, gives_sectors}
use Rattle.samples.specs.Faults.{with_next, altered}

-- "03H clears the code, so a second 03H says 00H."
unfoldable pub clears_code : Machine → Asked → Effect
clears_code m a = pick (gives 0x03 m a) (altered (with_code 0x00) (step m a)) (step m a)

-- the command does nothing, as 1XH
abbrev pub does_nothing : Machine → Asked → Effect
does_nothing m a = step m (asked_with (with_value 0x10 a.access) a.tuples)

-- "Count 0 means 256.": here none, and the command does nothing, as 1XH
unfoldable pub zero_means_none : Machine → Asked → Effect
zero_means_none m a = pick (gives_sectors m a && eqb m.state.registers.count 0) (does_nothing m a) (step m a)

-- 02, "Six": "a run past the end ends before its first sector": here Verify goes sector after sector up to the end, as 01 had it
unfoldable pub run_not_tested : Machine → Asked → Effect
run_not_tested m a =
    let s = step m a in
    let t = started (dropped m).state in
    pick (gives 0x40 m a) (with_next (with_core (verify_from (count_of t) t m.marks) m) s) s

-- "Words 7 and 8 put low half first, as 57 and 58 are.": bytes 14, 15 and 16, 17 change places
abbrev pub low_first : List ℕ → List ℕ
low_first b = take 14 b ++ (take 2 (drop 16 b) ++ (take 2 (drop 14 b) ++ drop 18 b))

unfoldable pub low_half_first : Machine → Asked → Effect
low_half_first m a = let s = step m a in pick (gives 0xEC m a) (with_next (with_buffer (low_first s.next.buffer) s.next) s) s

-- 02, of word 255: "It follows every change": here its high byte stays as it is at power-on
unfoldable pub integrity_stays : Machine → Asked → Effect
integrity_stays m a = let s = step m a in pick (gives 0xEC m a) (with_next (with_buffer (set s.next.buffer 511 0x56) s.next) s) s

-- 91H: here it does nothing, as 1XH
unfoldable pub ignores91_h : Machine → Asked → Effect
ignores91_h m a = pick (gives 0x91 m a) (does_nothing m a) (step m a)

-- "old geometry stays": here a 91H that is refused still sets H
abbrev pub with_heads : ℕ → State → State
with_heads heads s = with_current (geometry_by heads s.current.sectors (total_in s)) s

unfoldable pub takes_heads : Machine → Asked → Effect
takes_heads m a =
    let s = step m a in
    pick (gives 0x91 m a && eqb s.next.state.registers.status error_status) (altered (with_heads (m.state.registers.address.head % 16 + 1)) s) s
