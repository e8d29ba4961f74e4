-- Verify: sector after sector in the machine, one sweep of indices in the account.
use Prim.Native.Nat.{ℕ, zero, suc, ◌+◌, ◌-◌, ◌<◌}
use mathlib.Core.Path.{◌≡◌, ◌∙◌}
use mathlib.Core.List.{List}
use native.Mathlib.Omega.{arith}
use borrow.Author.Tests.{lt-ltb}
use Rattle.registers.specs.declared.State.{State}
use Rattle.registers.specs.State.{located_in}
use Rattle.transfers.specs.Steps.{sector_done}
use Rattle.commands.specs.Sweeps.{unless_failed, verify_from}
use Rattle.account.specs.Plain.{Finish, Well, Unreadable}
use Rattle.account.specs.Course.{Course, named}
use Rattle.account.specs.Sweeps.{tried, stopped, sweep_from, tests, unreadable, sweep_ends, verify_sectors}
use Rattle.account.specs.Host.{plain_in}
use Rattle.account.proofs.Seats.{Shaped, Seated, Where, onward, done_on, seat_next, good_on}
use Rattle.account.proofs.Tried.{stops_sweep, stops_ends, read_tested_lem}
use Rattle.transfers.specs.Before.{Tested}

-- where the registers point at sector i
pub where_good : (c : Course) (i : ℕ) (s : State) → Where c i s → i < c.room → located_in s ≡ good_on c i
where_good c i s w h = w ∙ (rw (lt-ltb i c.room h))

-- a good end: Count is 0 and the address is the last sector's
pub seated_last : (c : Course) (i : ℕ) (n : ℕ) (s : State) → Seated c i n s → s.registers.address ≡ named c (i + 1 - 1)
seated_last c i n s q =
    let e : i + 1 - 1 ≡ i = omega arith in
    rw e q.1

pub verify_is : (n : ℕ) (c : Course) (i : ℕ) (s : State) (b t k : List ℕ) → Shaped s.made s.current → Seated c i (suc n) s → Where c i s →
    plain_in (verify_from (suc n) s k).state b t k ≡ verify_sectors c i (suc n) (plain_in s b t k)
unfolding verify_from verify_sectors sweep_from
verify_is zero c i s b t k h q w =
    read_tested_lem c i s k
    (λ (x : Tested) (e : Finish). plain_in (unless_failed x (λ y. y) s (verify_from 0 (sector_done 0 s) k)).state b t k ≡ sweep_ends c (tried e 1 i (stopped Well 0 (i + 1))) (plain_in s b t k))
    w
    (λ r. unfold sector_done in rw (seated_last c i 1 s q))
    (λ f z. rw (stops_sweep f z c 1 i (stopped Well 0 (i + 1)) (plain_in s b t k)) (stops_ends f z c 1 i s b t k q))
verify_is (suc n) c i s b t k h q w =
    read_tested_lem c i s k
    (λ (x : Tested) (e : Finish). plain_in (unless_failed x (λ y. y) s (verify_from (suc n) (sector_done (suc n) s) k)).state b t k
    ≡ sweep_ends c (tried e (suc (suc n)) i (sweep_from (tests unreadable Unreadable c k) (i + 1) (suc n))) (plain_in s b t k))
    w
    (λ r. let z = seat_next c (suc n) i s h (where_good c i s w r) q.2 in rw (done_on n s) (verify_is n c (i + 1) (onward (suc n) s) b t k h z.0 z.1))
    (λ f z. rw (stops_sweep f z c (suc (suc n)) i (sweep_from (tests unreadable Unreadable c k) (i + 1) (suc n)) (plain_in s b t k)) (stops_ends f z c (suc (suc n)) i s b t k q))
