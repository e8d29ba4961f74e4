-- Erase: sector after sector in the machine, one sweep of indices in the account.
use Prim.Native.Nat.{ℕ, zero, suc, ◌+◌, ◌-◌}
use mathlib.Core.Path.{◌≡◌, refl}
use mathlib.Core.List.{List}
use native.Mathlib.Omega.{arith}
use lib.ListN.{set, replicate}
use Rattle.ground.specs.Left.{Left}
use Rattle.sectors.specs.Sectors.{StoreMarks}
use Rattle.geometry.specs.Limits.{total_of}
use Rattle.registers.specs.declared.State.{State}
use Rattle.registers.specs.declared.Core.{Core}
use Rattle.registers.specs.State.{with_bad}
use Rattle.transfers.specs.Before.{sector_stored, Tested}
use Rattle.transfers.specs.Steps.{sector_done}
use Rattle.commands.specs.Sweeps.{erase_from, all_ff}
use Rattle.account.specs.Plain.{Plain, Finish, Well, WriteFault}
use Rattle.account.specs.Course.{Course}
use Rattle.account.specs.Sweeps.{tried, stopped, sweep_from, tests, unwritable, erase_sectors, erase_done}
use Rattle.account.specs.WholeSectors.{put_sector, bad_at, blanked, cleared}
use Rattle.account.specs.Host.{plain_in}
use Rattle.account.proofs.Seats.{Shaped, Seated, Where, onward, done_on, seat_next, room_total}
use Rattle.account.proofs.Tried.{stops_sweep, stops_ends, store_tested}
use Rattle.account.proofs.Stored.{LentFor, stored_is, stored-lent, sweep-later, bad_on, bad-none}
use Rattle.account.proofs.Verifying.{where_good, seated_last}
use Rattle.kept.proofs.Sweeps.{erases_on}

abbrev pub erased_plain : Left Core StoreMarks → List ℕ → Plain
erased_plain e b = plain_in e.outcome.state b e.next.store e.next.marks

pub erase_is : (n : ℕ) (c : Course) (i : ℕ) (s : State) (b t k : List ℕ) → Shaped s.made s.current → LentFor (total_of s.made.default) t k → Seated c i (suc n) s → Where c i s →
    erased_plain (erase_from (suc n) s t k) b ≡ erase_sectors c i (suc n) (plain_in s b t k)
unfolding erase_from erase_sectors sweep_from sector_stored blanked cleared all_ff
erase_is zero c i s b t k h l q w =
    store_tested c i s k
    (λ (x : Tested) (e : Finish). erased_plain (erases_on x 0 s t k) b ≡ erase_done c i (tried e 1 i (stopped Well 0 (i + 1))) (plain_in s b t k))
    w
    (λ r. let m = room_total c s h q.2 in unfold sector_done in rw (stored_is (total_of s.made.default) i s.bad t k (replicate 512 0xFF) (omega arith) l, seated_last c i 1 s q, bad_on s.bad i 0 k, bad-none (s.bad - bad_at i k) (i + 1) (set k i 0)))
    (λ f z. rw (stops_sweep f z c 1 i (stopped Well 0 (i + 1)) (plain_in s b t k), bad-none s.bad i k) (stops_ends f z c 1 i s b t k q))
erase_is (suc n) c i s b t k h l q w =
    store_tested c i s k
    (λ (x : Tested) (e : Finish). erased_plain (erases_on x (suc n) s t k) b ≡ erase_done c i (tried e (suc (suc n)) i (sweep_from (tests unwritable WriteFault c k) (i + 1) (suc n))) (plain_in s b t k))
    w
    (λ r.
    let m = room_total c s h q.2 in
    let y = with_bad (s.bad - bad_at i k) s in
    let z = seat_next c (suc n) i y h (where_good c i s w r) q.2 in
    let g = stored_is (total_of s.made.default) i s.bad t k (replicate 512 0xFF) (omega arith) l in
    let v = sweep_from (tests unwritable WriteFault c k) (i + 1) (suc n) in
    rw (g, done_on n y, bad_on s.bad i v.done k, ← sweep-later unwritable WriteFault c k i (i + 1) (suc n) (omega arith))
    (erase_is n c (i + 1) (onward (suc n) y) b (put_sector i (replicate 512 0xFF) t) (set k i 0) h
    (stored-lent (total_of s.made.default) i t k (replicate 512 0xFF) (omega arith) l refl) z.0 z.1))
    (λ f z. rw (stops_sweep f z c (suc (suc n)) i (sweep_from (tests unwritable WriteFault c k) (i + 1) (suc n)) (plain_in s b t k), bad-none s.bad i k) (stops_ends f z c (suc (suc n)) i s b t k q))
