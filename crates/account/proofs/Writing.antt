-- Writing: from sector to sector the account of the rest is kept.
use Rattle.std.proofs.Common.{Ok, Err}
use Prim.Native.Nat.{ℕ, zero, suc, ◌+◌, ◌-◌, ◌<◌}
use mathlib.Core.Bool.{Bool, true, false, not, true≢false, false≢true}
use mathlib.Core.Path.{◌≡◌, refl, sym, ap, ◌∙◌, subst}
use mathlib.Core.List.{List}
use native.Mathlib.Numerals.{sub-one}
use native.Mathlib.Omega.{arith}
use lib.Dec.{ltb}
use lib.ListN.{take, drop, set, get_or}
use borrow.Author.Tests.{ltb-true, lt-ltb, ne_eqb}
use Rattle.ground.specs.Choice.{pick}
use Rattle.geometry.specs.Limits.{total_of}
use Rattle.registers.specs.declared.Pace.{Pace}
use Rattle.registers.specs.declared.Load.{Load}
use Rattle.registers.specs.declared.Load.TheVariants.{Sectors, Buffer}
use Rattle.registers.specs.declared.State.{State}
use Rattle.registers.specs.Status.{data_status}
use Rattle.registers.specs.State.{with_bad, located_in}
use Rattle.registers.specs.Machine.{Machine, machine}
use Rattle.transfers.specs.declared.Order.{Order}
use Rattle.transfers.specs.declared.Order.TheVariants.{Later}
use Rattle.transfers.specs.declared.End.{End}
use Rattle.transfers.specs.Before.{address_test, tested_of, stored_by}
use Rattle.transfers.specs.Steps.{sector_done, ask_tested, ask_sector, next_asked, written_by}
use Rattle.kept.specs.Lent.{store_marks_in}
use Rattle.account.specs.Numbers.{code_cylinder_or_lba}
use Rattle.account.specs.Plain.{Plain, with_buffer, Finish, Well, NotFound, Unreadable, WriteFault, Aborted, with_status, with_store, moving}
use Rattle.account.specs.Course.{Course}
use Rattle.account.specs.Sweeps.{tried, sweep_from, tests, unwritable, moved_by, write_done, write_sectors}
use Rattle.account.specs.WholeSectors.{first_sectors, last_sectors, replaced, cleared, put_sector, bad_at, bad_from}
use Rattle.account.specs.Host.{plain_of, plain_in}
use Rattle.account.proofs.Seats.{Shaped, Seated, Where, past_room, onward, done_on, seat_next, spot_on, good_on}
use Rattle.account.proofs.Tried.{stops_ends}
use Rattle.account.proofs.Stored.{LentFor, stored_is, sweep-later, bad_on, bad-none}
use Rattle.account.proofs.Verifying.{seated_last}
use Rattle.account.proofs.Rest.{done_out, stored_then, rest_at, rest, sweep_status}
use Rattle.geometry.specs.Address.{Located}
use Rattle.geometry.specs.declared.BadAddress.{BadAddress}

-- ---- the account of a sector, and of the rest

moved_more : (e : Finish) (k : ℕ) → moved_by e (suc k) ≡ suc (moved_by e k)
moved_more Well k = refl
moved_more (NotFound code) k = refl
moved_more Unreadable k = refl
moved_more WriteFault k = refl
moved_more (Aborted code) k = refl

write_marked : (u : Bool) (n : ℕ) (c : Course) (i : ℕ) (p : Plain) (d : List ℕ) →
    write_done c i (tried (pick u WriteFault Well) (suc n) i (sweep_from (tests unwritable WriteFault c p.marks) (i + 1) n)) p d
    ≡ moving (take 512 d) (stored_then u (suc n) i c p (take 512 d) (drop 512 d))
unfolding stored_then write_sectors first_sectors last_sectors replaced cleared
write_marked true n c i p d = rw (bad-none p.bad i p.marks)
write_marked false n c i p d =
    let r = sweep_from (tests unwritable WriteFault c p.marks) (i + 1) n in
    rw (moved_more r.finish r.done, sub-one (suc n), sweep-later unwritable WriteFault c p.marks i (i + 1) n (omega arith), bad_on p.bad i r.done p.marks)

write_sound : (n : ℕ) (c : Course) (i : ℕ) (p : Plain) (d : List ℕ) → i < c.room →
    write_sectors c i (suc n) p d ≡ moving (take 512 d) (stored_then (unwritable (get_or p.marks i 0)) (suc n) i c p (take 512 d) (drop 512 d))
unfolding write_sectors sweep_from tests
write_sound n c i p d h = rw (lt-ltb i c.room h) (unfold tests in write_marked (unwritable (get_or p.marks i 0)) n c i p d)

stored_status : (u : Bool) (n i : ℕ) (c : Course) (p : Plain) (b d : List ℕ) (v : ℕ) → stored_then u n i c (with_status v p) b d ≡ stored_then u n i c p b d
unfolding stored_then write_sectors
stored_status true n i c p b d v = refl
stored_status false n i c p b d v =
    let r = sweep_from (tests unwritable WriteFault c (set p.marks i 0)) (i + 1) (n - 1) in
    ap (λ (x : Plain). record { moved = first_sectors (moved_by r.finish r.done) d; left = x })
    (sweep_status c r v
    (with_buffer (last_sectors (moved_by r.finish r.done) d b)
    (with_store (replaced (i + 1) r.done d (put_sector i b p.store)) (cleared (i + 1) r.done (set p.marks i 0))
    (p.bad - bad_at i p.marks - bad_from (i + 1) r.done (set p.marks i 0)) p)))

stored_over : (u : Bool) (n i : ℕ) (c : Course) (p : Plain) (x b d : List ℕ) → stored_then u n i c (with_buffer x p) b d ≡ stored_then u n i c p b d
unfolding stored_then write_sectors
stored_over true n i c p x b d = refl
stored_over false n i c p x b d = refl

pub done_over : (l : Load) (p : Plain) (x b d : List ℕ) → done_out l (with_buffer x p) b d ≡ done_out l p b d
unfolding done_out
done_over Buffer p x b d = refl
done_over (Sectors n pace) p x b d = stored_over _ n _ _ p x b d

-- ---- the machine

past_rest : (l : Bool) (n : ℕ) (pace : Pace) (order : Order) (c : Course) (i : ℕ) (s : State) (b t k d : List ℕ) → Seated c i (suc n) s →
    rest (machine (ask_tested (tested_of (pick l (Err BadAddress.Lba) (Err BadAddress.Cylinder))) (suc n) pace order s) b t k) d
    ≡ write_done c i (tried (NotFound code_cylinder_or_lba) (suc n) i (sweep_from (tests unwritable WriteFault c k) (i + 1) n)) (plain_in s b t k) d
unfolding rest_at first_sectors last_sectors replaced cleared
past_rest true n pace order c i s b t k d q = rw (bad-none s.bad i k, stops_ends End.BadLba refl c (suc n) i s b t k q)
past_rest false n pace order c i s b t k d q = rw (bad-none s.bad i k, stops_ends End.BadCylinder refl c (suc n) i s b t k q)

ask_by : (v : Bool) (n : ℕ) (pace : Pace) (order : Order) (c : Course) (i : ℕ) (s : State) (b t k d : List ℕ) → ltb i c.room ≡ v → Seated c i (suc n) s →
    located_in s ≡ pick v (good_on c i) (past_room c) →
    rest (machine (ask_tested (tested_of (pick v (good_on c i) (past_room c))) (suc n) pace order s) b t k) d ≡ write_sectors c i (suc n) (plain_in s b t k) d
unfolding rest_at done_out
ask_by true n pace order c i s b t k d e q w =
    let h = ltb-true i c.room e in
    rw (w, q.2, stored_status (unwritable (get_or k i 0)) (suc n) i c (plain_in s b t k) (take 512 d) (drop 512 d) data_status, write_sound n c i (plain_in s b t k) d h)
ask_by false n pace order c i s b t k d e q w = unfold write_sectors sweep_from tests in rw e (past_rest c.lba n pace order c i s b t k d q)

-- a sector is asked for
pub ask_rest : (n : ℕ) (pace : Pace) (order : Order) (c : Course) (i : ℕ) (s : State) (b t k d : List ℕ) → Seated c i (suc n) s → Where c i s →
    rest (machine (ask_sector (suc n) pace order s) b t k) d ≡ write_sectors c i (suc n) (plain_in s b t k) d
unfolding ask_sector address_test
ask_rest n pace order c i s b t k d q w =
    subst (λ (l : Located). rest (machine (ask_tested (tested_of l) (suc n) pace order s) b t k) d ≡ write_sectors c i (suc n) (plain_in s b t k) d) (sym w)
    (ask_by _ n pace order c i s b t k d refl q w)

-- sector i is stored
asked_rest : (n : ℕ) (pace : Pace) (c : Course) (i : ℕ) (s : State) (b t k d : List ℕ) → Shaped s.made s.current → Seated c i (suc n) s → located_in s ≡ good_on c i →
    rest (machine (next_asked n pace s) b t k) d ≡ write_sectors c (i + 1) n (plain_in s b t k) d
unfolding next_asked
asked_rest zero pace c i s b t k d h q e = unfold sector_done rest_at write_sectors sweep_from first_sectors last_sectors replaced cleared in rw (seated_last c i 1 s q, bad-none s.bad (i + 1) k)
asked_rest (suc n) pace c i s b t k d h q e =
    let z = seat_next c (suc n) i s h e q.2 in
    rw (done_on n s, ne_eqb (suc n) 0 (omega arith)) (ask_rest n pace Later c (i + 1) (onward (suc n) s) b t k d z.0 z.1 ∙ (unfold write_sectors in refl))

-- its mark first
pub marked_rest : (u v : Bool) (n : ℕ) (pace : Pace) (c : Course) (i : ℕ) (m : Machine) (d : List ℕ) → v ≡ not u → i < total_of m.state.made.default → Shaped m.state.made m.state.current →
    LentFor (total_of m.state.made.default) m.store m.marks → Seated c i (suc n) m.state → located_in m.state ≡ good_on c i →
    rest (written_by (stored_by (pick u (Ok (spot_on c i)) (Err End.WriteFault)) m.buffer (store_marks_in m)) n pace m) d
    ≡ stored_then v (suc n) i c (plain_of m) m.buffer d
unfolding stored_then
marked_rest true true n pace c i m d e h g l q w = absurd (true≢false e)
marked_rest true false n pace c i m d e h g l q w =
    let b = m.state.bad - bad_at i m.marks in
    rw (stored_is (total_of m.state.made.default) i m.state.bad m.store m.marks m.buffer h l, sub-one (suc n))
    (asked_rest n pace c i (with_bad b m.state) m.buffer (put_sector i m.buffer m.store) (set m.marks i 0) d g q w)
marked_rest false true n pace c i m d e h g l q w = unfold rest_at in rw (stops_ends End.WriteFault refl c (suc n) i m.state m.buffer m.store m.marks q)
marked_rest false false n pace c i m d e h g l q w = absurd (false≢true e)
