-- Reading: what holds between two accesses is kept from sector to sector.
use Prim.Native.Nat.{ℕ, zero, suc, ◌+◌, ◌*◌, ◌/◌, ◌<◌}
use mathlib.Core.Bool.{Bool, true, false}
use mathlib.Core.Path.{◌≡◌, refl}
use mathlib.Core.List.{List, [], ◌∷◌}
use native.Mathlib.Numerals.{sub-one}
use native.Mathlib.Omega.{arith}
use lib.Dec.{ltb}
use lib.ListN.{length, take, drop}
use lib.Seq.{get_or-drop}
use borrow.Author.Tests.{ltb-true, ne_eqb}
use Rattle.ground.specs.Choice.{pick}
use Rattle.geometry.specs.Limits.{total_of}
use Rattle.registers.specs.declared.Pace.{Pace}
use Rattle.registers.specs.Blocks.{pace_after}
use Rattle.registers.specs.declared.Load.{Load}
use Rattle.registers.specs.declared.Load.TheVariants.{Sectors, Buffer}
use Rattle.registers.specs.declared.Transfer.{Transfer}
use Rattle.registers.specs.declared.Phase.TheVariants.{DataIn}
use Rattle.registers.specs.State.{located_in}
use Rattle.registers.specs.Machine.{Machine}
use Rattle.transfers.specs.Steps.{idle_with, sector_done, read_tested, read_sector, next_read, load_read, all_moved}
use Rattle.port.specs.Halves.{next_word}
use Rattle.port.specs.Data.{with_phase}
use Rattle.transfers.specs.declared.Way.TheVariants.{In}
use Rattle.sectors.specs.Sectors.{sector_of}
use Rattle.kept.proofs.Lent.{sector-length}
use Rattle.account.specs.Plain.{Finish}
use Rattle.account.specs.Course.{Course}
use Rattle.account.specs.WholeSectors.{sector_at}
use Rattle.account.specs.Host.{plain_of}
use Rattle.account.specs.Notes.{None, Waiting}
use Rattle.account.specs.Claim.{AllBytes}
use Rattle.account.proofs.Seats.{Seated, Where, course_in, onward, done_on, seat_next, room_total, good_on}
use Rattle.account.proofs.Tried.{read_tested_lem}
use Rattle.account.proofs.Verifying.{where_good}
use Rattle.account.proofs.Rest.{bare, here, Ground, Running, Between, Loaded, loaded_of}
use Rattle.account.proofs.Reading.{sector_read}
use Rattle.transfers.specs.Before.{Tested}

bytes_take : (n : ℕ) (l : List ℕ) → AllBytes l → AllBytes (take n l)
bytes_take zero l h i = omega arith
bytes_take (suc n) [] h i = omega arith
bytes_take (suc n) (x ∷ l) h zero = h zero
bytes_take (suc n) (x ∷ l) h (suc i) = bytes_take n l (λ j. h (suc j)) i

bytes_drop : (n : ℕ) (l : List ℕ) → AllBytes l → AllBytes (drop n l)
bytes_drop n l h i = rw get_or-drop (h (n + i))

sector_bytes_lem : (i : ℕ) (l : List ℕ) → AllBytes l → AllBytes (sector_at l i)
sector_bytes_lem i l h = bytes_take 512 (drop (512 * i) l) (bytes_drop (512 * i) l h)

pub read_between : (n : ℕ) (pace : Pace) (c : Course) (i : ℕ) (m : Machine) → Ground In m → Seated c i (suc n) m.state → Where c i m.state → Between In (read_sector (suc n) pace m) None
unfolding read_sector sector_of
read_between n pace c i m g q w =
    read_tested_lem c i m.state m.marks
    (λ (x : Tested) (e : Finish). Between In (read_tested x (suc n) pace m) None)
    w
    (λ r.
    let o = room_total c m.state g.0 q.2 in
    let z : i < total_of m.state.made.default = omega arith in
    let y : i < length m.store / 512 = rw g.1.0 (omega arith) in
    rw (sector_read (total_of m.state.made.default) i m.store m.buffer z g.1.0)
    (g, (omega arith, sector-length m.store i y, sector_bytes_lem i m.store g.2, tt, loaded_of c i n pace m.state q (where_good c i m.state w r))))
    (λ f z. (g, refl))

next_between : (n : ℕ) (pace : Pace) (c : Course) (i : ℕ) (m : Machine) → Ground In m → Seated c i (suc n) m.state → located_in m.state ≡ good_on c i → Between In (next_read n pace m) None
unfolding next_read
next_between zero pace c i m g q e = unfold sector_done in (g, refl)
next_between (suc n) pace c i m g q e =
    let z = seat_next c (suc n) i m.state g.0 e q.2 in
    rw (done_on n m.state, ne_eqb (suc n) 0 (omega arith)) (read_between n pace c (i + 1) (idle_with (onward (suc n) m.state) m) g z.0 z.1)

load_between : (l : Load) (m : Machine) → Ground In m → Loaded l (bare (plain_of m)) → Between In (load_read l m) None
load_between Buffer m g k = (g, refl)
load_between (Sectors zero pace) m g k = absurd (omega (arith, k.1))
load_between (Sectors (suc n) pace) m g k = rw (sub-one (suc n)) (next_between n (pace_after pace) (course_in m.state) (here m.state) m g (k.2, k.3, refl) k.0)

pub word_between : (b : Bool) (t : Transfer) (m : Machine) (q : Waiting) → ltb t.words 255 ≡ b → Ground In m → Running In t (plain_of m) q →
    Between In (pick b (with_phase (DataIn (next_word t)) m) (load_read t.load (all_moved m))) None
word_between true t m q e g r = let h : t.words < 255 = ltb-true _ _ e in (g, (omega arith, r.1, r.2, tt, r.4))
word_between false t m q e g r = load_between t.load (all_moved m) g r.4
