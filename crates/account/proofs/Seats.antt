-- A sweep's registers: at index i with n sectors left; and how they go on to the next index.
use Rattle.std.proofs.Common.{Ok, Err}
use Prim.Native.Nat.{ℕ, suc, ◌+◌, ◌-◌, ◌%◌, ◌≤◌, ◌<◌}
use mathlib.Core.Bool.{Bool, true, false}
use mathlib.Core.Path.{◌≡◌, refl, sym, ap, subst, ◌∙◌}
use mathlib.Core.List.{List, []}
use native.Mathlib.Omega.{arith}
use lib.Dec.{ltb}
use borrow.Author.Tests.{ne_eqb, lt-ltb}
use Rattle.ground.specs.Choice.{pick}
use Rattle.geometry.specs.declared.Geometry.{Geometry}
use Rattle.geometry.specs.declared.Spot.{Spot}
use Rattle.geometry.specs.Limits.{total_of, current_for}
use Rattle.geometry.specs.Address.{by_lba, room_of, spot_at, good_at, Located}
use Rattle.geometry.specs.Next.{next_of}
use Rattle.geometry.proofs.LimitFacts.{current_room}
use Rattle.geometry.proofs.Inside.{remain_room, good_by_index}
use Rattle.geometry.proofs.Kept.{Bytes, next_kept}
use Rattle.geometry.proofs.NextLaw.{next_law}
use Rattle.registers.specs.declared.Made.{Made}
use Rattle.registers.specs.declared.State.{State}
use Rattle.registers.specs.State.{with_count, with_address, located_in}
use Rattle.transfers.specs.Steps.{sector_done}
use Rattle.account.specs.Plain.{sectors_of, with_place}
use Rattle.account.specs.Addressed.{selects_lba}
use Rattle.account.specs.Course.{Course, course_of, named}
use Rattle.account.specs.Host.{plain_in}
use Rattle.account.proofs.Addressed.{selects_is}
use Rattle.account.proofs.Names.{named_self, next-named}
use Rattle.geometry.specs.declared.BadAddress.{BadAddress}

abbrev pub course_in : State → Course
course_in s = course_of (plain_in s [] [] [])

-- what a well-made card's geometries are
abbrev pub Shaped : Made → Geometry → Type 0
Shaped d g = (current_for g (total_of d.default) ≡ true) × (total_of d.default ≡ sectors_of d.default) × (total_of d.default ≤ 65535)

-- Count and the address
abbrev pub Seated : Course → ℕ → ℕ → State → Type 0
Seated c i n s = (s.registers.count ≡ n % 256) × (s.registers.address ≡ named c i) × (course_in s ≡ c)

-- sector i of a course, with what remains of the room from there, and an address that points at it
abbrev pub spot_on : Course → ℕ → Spot
spot_on c i = spot_at c.room i

abbrev pub good_on : Course → ℕ → Located
good_on c i = good_at c.room i

-- where the address points: at sector i, or past the room
abbrev pub past_room : Course → Located
past_room c = pick c.lba (Err BadAddress.Lba) (Err BadAddress.Cylinder)

abbrev pub Where : Course → ℕ → State → Type 0
Where c i s = located_in s ≡ pick (ltb i c.room) (good_on c i) (past_room c)

room_is : (s : State) → Shaped s.made s.current → room_of s.registers.address s.current (total_of s.made.default) ≡ (course_in s).room
unfolding room_of
room_is s h = rw (selects_is s.registers.address) (ap (λ (n : ℕ). pick (by_lba s.registers.address) n (sectors_of s.current)) h.1)

-- the first sector of a sweep
pub seat_room : (s : State) (p : Spot) → Shaped s.made s.current → located_in s ≡ Ok p → (p.index < (course_in s).room) × (p.remain ≡ (course_in s).room - p.index)
seat_room s p h e = subst (λ (n : ℕ). (p.index < n) × (p.remain ≡ n - p.index)) (room_is s h) (remain_room s.registers.address s.current (total_of s.made.default) p e)

pub seat_address : (s : State) (p : Spot) → Bytes s.registers.address → located_in s ≡ Ok p → s.registers.address ≡ named (course_in s) p.index
unfolding named
seat_address s p b e = rw (selects_is s.registers.address) (sym (named_self s.registers.address s.current (total_of s.made.default) p b e))

pub seat_good : (s : State) (p : Spot) → Shaped s.made s.current → located_in s ≡ Ok p → located_in s ≡ good_on (course_in s) p.index
seat_good s p h e = subst (λ (n : ℕ). located_in s ≡ good_at n p.index) (room_is s h) (good_by_index s.registers.address s.current (total_of s.made.default) p e)

pub where_first : (s : State) (p : Spot) → Shaped s.made s.current → located_in s ≡ Ok p → Where (course_in s) p.index s
where_first s p h e = seat_good s p h e ∙ (rw (lt-ltb p.index (course_in s).room (seat_room s p h e).0))

-- the next one: `sector_done` moves the registers on
abbrev pub onward : ℕ → State → State
onward n s = with_count (n % 256) (with_address (next_of s.registers.address s.current) s)

pub done_on : (n : ℕ) (s : State) → sector_done (suc n) s ≡ onward (suc n) s
unfolding sector_done
done_on n s = rw (ne_eqb (suc n) 0 (omega arith))

course_kept : (n : ℕ) (s : State) → course_in (onward n s) ≡ course_in s
course_kept n s = let k = next_kept s.registers.address s.current in rw (selects_is (next_of s.registers.address s.current), selects_is s.registers.address, k.0, k.1)

address_next : (n : ℕ) (s : State) (p : Spot) → Shaped s.made s.current → located_in s ≡ Ok p → (onward n s).registers.address ≡ named (course_in s) (p.index + 1)
unfolding named
address_next n s p h e = rw (selects_is s.registers.address) (next-named s.registers.address s.current (total_of s.made.default) p h.0 h.2 e)

where_next : (n : ℕ) (s : State) (p : Spot) → Shaped s.made s.current → located_in s ≡ Ok p → Where (course_in s) (p.index + 1) (onward n s)
where_next n s p h e =
    subst (λ (r : ℕ). located_in (onward n s) ≡ pick (ltb (p.index + 1) r) (good_at r (p.index + 1)) (past_room (course_in s)))
    (room_is s h)
    (rw (selects_is s.registers.address) (next_law s.registers.address s.current (total_of s.made.default) p h.0 h.2 e))

pub seat_next : (c : Course) (n i : ℕ) (s : State) → Shaped s.made s.current → located_in s ≡ good_on c i → course_in s ≡ c →
    Seated c (i + 1) n (onward n s) × Where c (i + 1) (onward n s)
seat_next c n i s h e q =
    subst (λ (d : Course). Seated d (i + 1) n (onward n s) × Where d (i + 1) (onward n s)) q
    ((refl, address_next n s (spot_on c i) h e, course_kept n s), where_next n s (spot_on c i) h e)

-- registers that are seated are those of the account
pub place_seated : (c : Course) (i n : ℕ) (s : State) (b t k : List ℕ) → Seated c i n s → with_place (n % 256) (named c i) (plain_in s b t k) ≡ plain_in s b t k
place_seated c i n s b t k h = rw (← h.0, ← h.1)

-- the room of a sweep lies in the store
room_by_lem : (b : Bool) (m n : ℕ) → m ≤ n → pick b n m ≤ n
room_by_lem true m n h = omega arith
room_by_lem false m n h = h

pub room_total : (c : Course) (s : State) → Shaped s.made s.current → course_in s ≡ c → c.room ≤ total_of s.made.default
room_total c s h q =
    rw (← q, h.1) (room_by_lem (selects_lba s.registers.address) (sectors_of s.current) (sectors_of s.made.default) (rw (← h.1) (current_room s.current (total_of s.made.default) h.0)))
