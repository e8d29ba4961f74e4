-- Every command begins as its account says.
use Rattle.std.proofs.Common.{Some, Option}
use Prim.Native.Nat.{ℕ, ◌+◌, ◌*◌, ◌%◌, ◌≤◌}
use mathlib.Core.Bool.{Bool, true, false, ◌||◌}
use mathlib.Core.Path.{◌≡◌, refl, sym, ◌∙◌}
use mathlib.Core.List.{List}
use lib.Dec.{ltb, eqb}
use lib.ListN.{length}
use Rattle.ground.specs.Choice.{pick}
use Rattle.geometry.specs.declared.Geometry.{Geometry}
use Rattle.geometry.specs.Limits.{total_of, current_for}
use Rattle.geometry.specs.Shape.{reshaped, current_after, Reshaped}
use Rattle.registers.specs.declared.Pace.{Pace}
use Rattle.registers.specs.declared.Phase.TheVariants.{Idle}
use Rattle.registers.specs.declared.State.{State}
use Rattle.registers.specs.declared.Core.{Core}
use Rattle.registers.specs.State.{located_in, total_in}
use Rattle.registers.specs.Blocks.{single}
use Rattle.registers.specs.Machine.{Machine, machine, core, with_core}
use Rattle.transfers.specs.declared.Order.TheVariants.{First}
use Rattle.transfers.specs.declared.Way.{Way}
use Rattle.transfers.specs.declared.Way.TheVariants.{In, Out}
use Rattle.transfers.specs.Steps.{read_sector, ask_sector}
use Rattle.commands.specs.Sweeps.{verify_run, erase_run}
use Rattle.commands.specs.Table.{count_of, reshaped_ended}
use Rattle.account.specs.Numbers.{code_geometry}
use Rattle.account.specs.Plain.{sectors_of, with_current, Well, Aborted, ends, Account, silent}
use Rattle.account.specs.Addressed.{At}
use Rattle.account.specs.Course.{course_of}
use Rattle.account.specs.Sweeps.{read_sectors, write_sectors, whole_run, verify_sectors, erase_sectors}
use Rattle.account.specs.Table.{asked, first, from_first, reads, writes, verifies, erases, shaped, sets_geometry}
use Rattle.account.specs.Host.{plain_of, plain_in}
use Rattle.account.specs.Notes.{None, no_notes}
use Rattle.account.specs.Claim.{AllBytes}
use Rattle.account.proofs.Addressed.{as_addressed, good_at_lem, addressed_is}
use Rattle.account.proofs.Seats.{Shaped, course_in, good_on, seat_good}
use Rattle.account.proofs.Stored.{LentFor}
use Rattle.account.proofs.Settled.{Settled}
use Rattle.account.proofs.Rest.{ByteWise, rest_at, rest, Ground, Rel, Between}
use Rattle.account.proofs.Begins.{asked-elim, Eight, read_begins, read_begins_between, write_begins, write_begins_between, verify_begins, erase_begins}

-- what a card must be to be given a command
abbrev pub Given : Machine → Type 0
Given m =
    Ground In m
    × Eight m.state
    × (length m.buffer ≡ 512)
    × AllBytes m.buffer
    × (m.state.made.default.cylinders ≤ 65535) × (m.state.made.default.heads ≤ 65535) × (m.state.made.default.sectors ≤ 65535)
    × (m.state.current.cylinders ≤ 65535) × (m.state.current.heads ≤ 65535) × (m.state.current.sectors ≤ 65535)
    × (m.state.bad ≤ 65535)

abbrev pub outward : (m : Machine) → Ground In m → Ground Out m
outward m g = (g.0, g.1, tt, g.3, g.4)

-- a command that is over at once
pub over : (plain : List ℕ → Account) (way : Way) (k : Core) (b t s : List ℕ) → k.phase ≡ Idle → Ground way (machine k b t s) → ((d : List ℕ) → plain d ≡ silent (plain_in k.state b t s)) →
    Rel way plain (machine k b t s) no_notes
unfolding rest_at
over plain In k b t s e g a = record { account = λ d. rw e (a d); ground = g; waits = rw e refl }
over plain Out k b t s e g a = record { account = λ d. rw e (a d); ground = g; waits = rw e refl }

pub settled_ground : (way : Way) (s : State) (k : Core) (b t x y z w : List ℕ) → Settled s k → Ground way (machine (core Idle s) b t x) → LentFor (total_of s.made.default) z w → ByteWise way z →
    Ground way (machine k y z w)
settled_ground way s k b t x y z w h g l q = rw (h.1, h.2, h.3, h.4) (g.0, l, q, g.3, g.4)

-- the first address: N is C·H·S
pub first_is : (m : Machine) → Shaped m.state.made m.state.current → first (plain_of m) ≡ as_addressed (located_in m.state)
first_is m h = rw h.1 (addressed_is m.state.registers.address m.state.current (sectors_of m.state.made.default))

pub first_at : (m : Machine) (i : ℕ) → Shaped m.state.made m.state.current → first (plain_of m) ≡ At i → located_in m.state ≡ good_on (course_in m.state) i
first_at m i h e = good_at_lem (located_in m.state) (course_in m.state).room i (sym (first_is m h) ∙ e) (λ p f. seat_good m.state p h f)

count_is : (s : State) → count_of s ≡ asked s.registers.count
unfolding count_of asked
count_is s = refl

pub read_all : (pace : Pace) (m : Machine) (d : List ℕ) → Ground In m → Eight m.state → reads (plain_of m) ≡ rest (read_sector (count_of m.state) pace m) d
read_all pace m d g h =
    rw (count_is m.state, first_is m g.0)
    (asked-elim (λ (n : ℕ). from_first (as_addressed (located_in m.state)) silent (λ i. read_sectors (course_of (plain_of m)) i n (plain_of m)) (plain_of m) ≡ rest (read_sector n pace m) d)
    m.state.registers.count h.0
    (λ n e. sym (read_begins n pace m h.1 e (located_in m.state) d g refl)))

pub read_all_between : (pace : Pace) (m : Machine) → Ground In m → Eight m.state → Between In (read_sector (count_of m.state) pace m) None
read_all_between pace m g h =
    rw (count_is m.state)
    (asked-elim (λ (n : ℕ). Between In (read_sector n pace m) None) m.state.registers.count h.0 (λ n e. read_begins_between n pace m h.1 e (located_in m.state) g refl))

pub write_all : (pace : Pace) (m : Machine) (d : List ℕ) → Ground Out m → Eight m.state → writes (plain_of m) d ≡ rest (with_core (ask_sector (count_of m.state) pace First m.state) m) d
write_all pace m d g h =
    rw (count_is m.state, first_is m g.0)
    (asked-elim (λ (n : ℕ). from_first (as_addressed (located_in m.state)) silent (λ i. write_sectors (course_of (plain_of m)) i n (plain_of m) d) (plain_of m)
    ≡ rest (with_core (ask_sector n pace First m.state) m) d)
    m.state.registers.count h.0
    (λ n e. sym (write_begins n pace m h.1 e (located_in m.state) d g refl)))

pub write_all_between : (pace : Pace) (m : Machine) → length m.buffer ≡ 512 → Ground Out m → Eight m.state → Between Out (with_core (ask_sector (count_of m.state) pace First m.state) m) None
write_all_between pace m f g h =
    rw (count_is m.state)
    (asked-elim (λ (n : ℕ). Between Out (with_core (ask_sector n pace First m.state) m) None) m.state.registers.count h.0
    (λ n e. write_begins_between n pace m h.1 e (located_in m.state) f g refl))

pub verify_all : (m : Machine) → Ground In m → Eight m.state → verifies (plain_of m) ≡ plain_in (verify_run (count_of m.state) m.state m.marks).state m.buffer m.store m.marks
verify_all m g h =
    rw (count_is m.state, first_is m g.0)
    (asked-elim (λ (n : ℕ). from_first (as_addressed (located_in m.state)) (λ q. q) (λ i. whole_run (course_of (plain_of m)) i n (plain_of m) (verify_sectors (course_of (plain_of m)) i n (plain_of m))) (plain_of m)
    ≡ plain_in (verify_run n m.state m.marks).state m.buffer m.store m.marks)
    m.state.registers.count h.0
    (λ n e. sym (verify_begins n single m h.1 e (located_in m.state) g refl)))

pub erase_all : (m : Machine) → Ground In m → Eight m.state →
    erases (plain_of m)
    ≡ plain_in (erase_run (count_of m.state) m.state m.store m.marks).outcome.state m.buffer
    (erase_run (count_of m.state) m.state m.store m.marks).next.store (erase_run (count_of m.state) m.state m.store m.marks).next.marks
erase_all m g h =
    rw (count_is m.state, first_is m g.0)
    (asked-elim (λ (n : ℕ). from_first (as_addressed (located_in m.state)) (λ q. q) (λ i. whole_run (course_of (plain_of m)) i n (plain_of m) (erase_sectors (course_of (plain_of m)) i n (plain_of m))) (plain_of m)
    ≡ plain_in (erase_run n m.state m.store m.marks).outcome.state m.buffer (erase_run n m.state m.store m.marks).next.store (erase_run n m.state m.store m.marks).next.marks)
    m.state.registers.count h.0
    (λ n e. sym (erase_begins n single m h.1 e (located_in m.state) g refl)))

-- 91H
set_by : (a v : Bool) (g : Geometry) (s : State) (b t k : List ℕ) →
    pick (a || v) (ends (Aborted code_geometry) (plain_in s b t k)) (ends Well (with_current g (plain_in s b t k)))
    ≡ plain_in (reshaped_ended (pick a Option.None (pick v Option.None (Some g))) s).state b t k
set_by true v g s b t k = refl
set_by false true g s b t k = refl
set_by false false g s b t k = refl

pub set_is : (s : State) (b t k : List ℕ) → Shaped s.made s.current →
    sets_geometry s.registers.count (s.registers.address.head % 16 + 1) (plain_in s b t k)
    ≡ plain_in (reshaped_ended (reshaped s.registers.count s.registers.address.head (total_in s)) s).state b t k
unfolding sets_geometry reshaped
set_is s b t k h =
    rw h.1 (set_by (eqb s.registers.count 0)
    (ltb (sectors_of s.made.default) ((s.registers.address.head % 16 + 1) * s.registers.count))
    (shaped (s.registers.address.head % 16 + 1) s.registers.count (sectors_of s.made.default)) s b t k)

pub set-idle : (r : Reshaped) (s : State) → (reshaped_ended r s).phase ≡ Idle
set-idle (Some g) s = refl
set-idle Option.None s = refl

pub set_ground : (r : Reshaped) (s : State) (b t k : List ℕ) → current_for (current_after r s.current) (total_of s.made.default) ≡ true →
    Ground In (machine (core Idle s) b t k) → Ground In (machine (reshaped_ended r s) b t k)
set_ground (Some x) s b t k e g = ((e, g.0.1, g.0.2), g.1, g.2, g.3, g.4)
set_ground Option.None s b t k e g = g
