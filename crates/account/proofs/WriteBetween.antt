-- Writing: what holds between two accesses is kept from sector to sector.
use Rattle.std.proofs.Common.{Ok, Err}
use Prim.Native.Nat.{ℕ, zero, suc, ◌+◌, ◌-◌, ◌<◌}
use mathlib.Core.Bool.{Bool, true, false}
use mathlib.Core.Path.{◌≡◌, refl, sym, subst}
use mathlib.Core.List.{List}
use native.Mathlib.Numerals.{sub-one}
use native.Mathlib.Omega.{arith}
use lib.Dec.{ltb}
use lib.ListN.{length, set, get_or}
use borrow.Author.Tests.{ltb-true, ne_eqb}
use Rattle.ground.specs.Choice.{pick}
use Rattle.geometry.specs.Limits.{total_of}
use Rattle.sectors.specs.Marks.{writable}
use Rattle.registers.specs.declared.Pace.{Pace}
use Rattle.registers.specs.Blocks.{pace_after}
use Rattle.registers.specs.declared.Load.{Load}
use Rattle.registers.specs.declared.Load.TheVariants.{Sectors, Buffer}
use Rattle.registers.specs.declared.Transfer.{Transfer}
use Rattle.registers.specs.declared.Phase.TheVariants.{DataOut}
use Rattle.registers.specs.declared.State.{State}
use Rattle.registers.specs.State.{with_bad, located_in}
use Rattle.registers.specs.Machine.{Machine, machine, with_buffer}
use Rattle.transfers.specs.declared.Order.{Order}
use Rattle.transfers.specs.declared.Order.TheVariants.{Later}
use Rattle.transfers.specs.declared.End.{End}
use Rattle.transfers.specs.Before.{address_test, tested_of, stored_by, sector_stored}
use Rattle.transfers.specs.Steps.{idle, sector_done, ask_tested, ask_sector, next_asked, written_by, load_written, all_moved}
use Rattle.port.specs.Halves.{next_word}
use Rattle.port.specs.Data.{with_phase}
use Rattle.transfers.specs.declared.Way.TheVariants.{Out}
use Rattle.account.specs.Course.{Course}
use Rattle.kept.specs.Lent.{store_marks_in}
use Rattle.account.specs.WholeSectors.{put_sector, bad_at}
use Rattle.account.specs.Host.{plain_of}
use Rattle.account.specs.Notes.{None, Waiting}
use Rattle.account.proofs.Seats.{Seated, Where, past_room, course_in, onward, done_on, seat_next, spot_on, good_on}
use Rattle.account.proofs.Stored.{stored_is, stored-lent}
use Rattle.account.proofs.Rest.{bare, here, Ground, Running, Between, Loaded, loaded_of}
use Rattle.account.proofs.WordWritten.{sector_test_lem, here_inside}
use Rattle.geometry.specs.Address.{Located}
use Rattle.geometry.specs.declared.BadAddress.{BadAddress}

past_between : (l : Bool) (n : ℕ) (pace : Pace) (order : Order) (s : State) (b t k : List ℕ) → Ground Out (idle s b t k) →
    Between Out (machine (ask_tested (tested_of (pick l (Err BadAddress.Lba) (Err BadAddress.Cylinder))) n pace order s) b t k) None
past_between true n pace order s b t k g = (g, refl)
past_between false n pace order s b t k g = (g, refl)

ask_by : (v : Bool) (n : ℕ) (pace : Pace) (order : Order) (c : Course) (i : ℕ) (s : State) (b t k : List ℕ) → length b ≡ 512 → Ground Out (idle s b t k) → Seated c i (suc n) s →
    located_in s ≡ pick v (good_on c i) (past_room c) →
    Between Out (machine (ask_tested (tested_of (pick v (good_on c i) (past_room c))) (suc n) pace order s) b t k) None
ask_by true n pace order c i s b t k e g q w = (g, (omega arith, e, tt, tt, loaded_of c i n pace s q w))
ask_by false n pace order c i s b t k e g q w = past_between c.lba (suc n) pace order s b t k g

pub ask_between : (n : ℕ) (pace : Pace) (order : Order) (c : Course) (i : ℕ) (s : State) (b t k : List ℕ) → length b ≡ 512 → Ground Out (idle s b t k) → Seated c i (suc n) s → Where c i s →
    Between Out (machine (ask_sector (suc n) pace order s) b t k) None
unfolding ask_sector address_test
ask_between n pace order c i s b t k e g q w =
    subst (λ (l : Located). Between Out (machine (ask_tested (tested_of l) (suc n) pace order s) b t k) None) (sym w) (ask_by (ltb i c.room) n pace order c i s b t k e g q w)

asked_between : (n : ℕ) (pace : Pace) (c : Course) (i : ℕ) (s : State) (b t k : List ℕ) → length b ≡ 512 → Ground Out (idle s b t k) → Seated c i (suc n) s → located_in s ≡ good_on c i →
    Between Out (machine (next_asked n pace s) b t k) None
unfolding next_asked
asked_between zero pace c i s b t k f g q e = unfold sector_done in (g, refl)
asked_between (suc n) pace c i s b t k f g q e =
    let z = seat_next c (suc n) i s g.0 e q.2 in
    rw (done_on n s, ne_eqb (suc n) 0 (omega arith)) (ask_between n pace Later c (i + 1) (onward (suc n) s) b t k f g z.0 z.1)

marked_between : (u : Bool) (n : ℕ) (pace : Pace) (c : Course) (i : ℕ) (m : Machine) → i < total_of m.state.made.default → length m.buffer ≡ 512 → Ground Out m → Seated c i (suc n) m.state →
    located_in m.state ≡ good_on c i →
    Between Out (written_by (stored_by (pick u (Ok (spot_on c i)) (Err End.WriteFault)) m.buffer (store_marks_in m)) n pace m) None
marked_between true n pace c i m h f g q e =
    rw (stored_is (total_of m.state.made.default) i m.state.bad m.store m.marks m.buffer h g.1)
    (asked_between n pace c i (with_bad (m.state.bad - bad_at i m.marks) m.state) m.buffer (put_sector i m.buffer m.store) (set m.marks i 0) f
    (g.0, stored-lent (total_of m.state.made.default) i m.store m.marks m.buffer h g.1 f, tt, g.3, g.4) q e)
marked_between false n pace c i m h f g q e = (g, refl)

written_between : (l : Load) (m : Machine) → length m.buffer ≡ 512 → Ground Out m → Loaded l (bare (plain_of m)) → Between Out (load_written l m) None
unfolding sector_stored
written_between Buffer m f g k = (g, refl)
written_between (Sectors zero pace) m f g k = absurd (omega (arith, k.1))
written_between (Sectors (suc n) pace) m f g k =
    rw (sector_test_lem (spot_on (course_in m.state) (here m.state)) m.state m.marks k.0, sub-one (suc n))
    (marked_between (writable (get_or m.marks (here m.state) 0)) n (pace_after pace) (course_in m.state) (here m.state) m (here_inside m.state g.0 k.0) f g (k.2, k.3, refl) k.0)

pub word_written_between : (v : Bool) (t : Transfer) (m : Machine) (b : List ℕ) (q : Waiting) → ltb t.words 255 ≡ v → length b ≡ 512 → Ground Out m → Running Out t (plain_of m) q →
    Between Out (pick v (with_phase (DataOut (next_word t)) (with_buffer b m)) (load_written t.load (all_moved (with_buffer b m)))) None
word_written_between true t m b q e f g r = let h : t.words < 255 = ltb-true _ _ e in (g, (omega arith, f, tt, tt, r.4))
word_written_between false t m b q e f g r = written_between t.load (all_moved (with_buffer b m)) f g r.4
