-- Reading: from sector to sector the account of the rest is kept.
use Prim.Native.Nat.{ℕ, zero, suc, ◌+◌, ◌*◌, ◌/◌, ◌<◌}
use mathlib.Core.Bool.{Bool, true, false}
use mathlib.Core.Path.{◌≡◌, refl, ap, ◌∙◌}
use mathlib.Core.List.{List, [], ◌∷◌, ◌++◌}
use native.Mathlib.Numerals.{sub-one}
use native.Mathlib.Omega.{arith}
use lib.Dec.{ltb}
use lib.ListN.{length, drop, get_or, drop_of_length-le}
use Rattle.ground.proofs.Lists.{drop_two}
use borrow.Author.Tests.{ltb-true, ltb-false, lt-ltb, ne_eqb}
use Rattle.ground.specs.Choice.{pick}
use Rattle.geometry.specs.Limits.{total_of}
use Rattle.sectors.specs.Sectors.{sector_of, buffer_read}
use Rattle.registers.specs.declared.Pace.{Pace}
use Rattle.registers.specs.declared.Load.{Load}
use Rattle.registers.specs.declared.Load.TheVariants.{Sectors, Buffer}
use Rattle.registers.specs.declared.Transfer.{Transfer}
use Rattle.registers.specs.declared.Phase.TheVariants.{DataIn}
use Rattle.registers.specs.Status.{data_status}
use Rattle.registers.specs.Blocks.{pace_after}
use Rattle.registers.specs.State.{located_in}
use Rattle.registers.specs.Machine.{Machine}
use Rattle.transfers.specs.Steps.{idle_with, sector_done, read_tested, read_sector, next_read, load_read, all_moved}
use Rattle.port.specs.Halves.{next_word}
use Rattle.port.specs.Data.{with_phase}
use Rattle.account.specs.Plain.{Plain, Finish, Unreadable, moving, with_buffer}
use Rattle.account.specs.Course.{Course}
use Rattle.account.specs.Sweeps.{tried, sweep_from, tests, unreadable, read_done, read_sectors}
use Rattle.account.specs.WholeSectors.{sectors_from, last_sector, sector_at}
use Rattle.account.specs.Host.{plain_of}
use Rattle.account.proofs.Seats.{Shaped, Seated, Where, course_in, onward, done_on, seat_next, room_total, good_on}
use Rattle.account.proofs.Tried.{stops_sweep, stops_ends, read_tested_lem}
use Rattle.account.proofs.Stored.{LentFor}
use Rattle.account.proofs.Verifying.{where_good, seated_last}
use Rattle.account.proofs.Rest.{bare, here, done_in, rest_at, rest, sweep_status, Loaded}
use Rattle.transfers.specs.Before.{Tested}

pub sector_read : (n i : ℕ) (store buffer : List ℕ) → i < n → length store ≡ 512 * n → buffer_read store i buffer ≡ sector_at store i
unfolding buffer_read sector_of
sector_read n i store buffer h e =
    let q : length store / 512 ≡ n = rw e (omega arith) in
    rw (q, lt-ltb i n h)

-- a sector to be read
pub read_rest : (n : ℕ) (pace : Pace) (c : Course) (i : ℕ) (m : Machine) (d : List ℕ) → Shaped m.state.made m.state.current → LentFor (total_of m.state.made.default) m.store m.marks →
    Seated c i (suc n) m.state → Where c i m.state → rest (read_sector (suc n) pace m) d ≡ read_sectors c i (suc n) (plain_of m)
unfolding read_sector read_sectors sweep_from rest_at done_in sectors_from last_sector
read_rest n pace c i m d h l q w =
    read_tested_lem c i m.state m.marks
    (λ (x : Tested) (e : Finish). rest (read_tested x (suc n) pace m) d ≡ read_done c i (tried e (suc n) i (sweep_from (tests unreadable Unreadable c m.marks) (i + 1) n)) (plain_of m))
    w
    (λ r.
    let o = room_total c m.state h q.2 in
    let v = sweep_from (tests unreadable Unreadable c m.marks) (i + 1) n in
    rw (sector_read (total_of m.state.made.default) i m.store m.buffer (omega arith) l.0, where_good c i m.state w r, q.2, sub-one (suc n))
    (ap (λ (x : Plain). record { moved = sector_at m.store i ++ sectors_from m.store (i + 1) v.done; left = x })
    (sweep_status c v data_status (with_buffer (last_sector m.store (i + 1) v.done (sector_at m.store i)) (plain_of m)))))
    (λ f z. rw (stops_sweep f z c (suc n) i (sweep_from (tests unreadable Unreadable c m.marks) (i + 1) n) (plain_of m), stops_ends f z c (suc n) i m.state m.buffer m.store m.marks q))

-- the last byte of sector i has gone
next_rest : (n : ℕ) (pace : Pace) (c : Course) (i : ℕ) (m : Machine) (d : List ℕ) → Shaped m.state.made m.state.current → LentFor (total_of m.state.made.default) m.store m.marks →
    Seated c i (suc n) m.state → located_in m.state ≡ good_on c i → rest (next_read n pace m) d ≡ read_sectors c (i + 1) n (plain_of m)
unfolding next_read
next_rest zero pace c i m d h l q e = unfold sector_done rest_at read_sectors sweep_from sectors_from last_sector in rw (seated_last c i 1 m.state q)
next_rest (suc n) pace c i m d h l q e =
    let z = seat_next c (suc n) i m.state h e q.2 in
    let y = read_rest n pace c (i + 1) (idle_with (onward (suc n) m.state) m) d h l z.0 z.1 in
    rw (done_on n m.state, ne_eqb (suc n) 0 (omega arith)) (y ∙ (unfold read_sectors in refl))

load_rest : (l : Load) (m : Machine) (d : List ℕ) → Shaped m.state.made m.state.current → LentFor (total_of m.state.made.default) m.store m.marks → Loaded l (bare (plain_of m)) →
    rest (load_read l m) d ≡ done_in l (plain_of m)
unfolding done_in
load_rest Buffer m d h l k = unfold rest_at in refl
load_rest (Sectors zero pace) m d h l k = absurd (omega (arith, k.1))
load_rest (Sectors (suc n) pace) m d h l k = rw (sub-one (suc n)) (next_rest n (pace_after pace) (course_in m.state) (here m.state) m d h l (k.2, k.3, refl) k.0)

-- the two bytes of a word
word_bytes : (b : List ℕ) (w : ℕ) → 2 * w + 1 < length b → drop (2 * w) b ≡ get_or b (2 * w) 0 ∷ get_or b (2 * w + 1) 0 ∷ drop (2 * (w + 1)) b
word_bytes b w h =
    let e : 2 * w + 2 ≡ 2 * (w + 1) = omega arith in
    drop_two b (2 * w) h ∙ ap (λ (k : ℕ). get_or b (2 * w) 0 ∷ (get_or b (2 * w + 1) 0 ∷ drop k b)) e

-- a word has gone
pub word_rest : (b : Bool) (t : Transfer) (m : Machine) (d e : List ℕ) → ltb t.words 255 ≡ b → t.words < 256 → length m.buffer ≡ 512 →
    Shaped m.state.made m.state.current → LentFor (total_of m.state.made.default) m.store m.marks → Loaded t.load (bare (plain_of m)) →
    rest_at (DataIn t) (plain_of m) e
    ≡ moving (get_or m.buffer (2 * t.words) 0 ∷ get_or m.buffer (2 * t.words + 1) 0 ∷ []) (rest (pick b (with_phase (DataIn (next_word t)) m) (load_read t.load (all_moved m))) d)
unfolding rest_at
word_rest true t m d e q w f h l k = rw (word_bytes m.buffer t.words (omega (arith, ltb-true)))
word_rest false t m d e q w f h l k =
    let z : drop (2 * (t.words + 1)) m.buffer ≡ [] = drop_of_length-le m.buffer {i = 2 * (t.words + 1)} (omega (arith, ltb-false)) in
    rw (word_bytes m.buffer t.words (omega (arith, ltb-false)), z, load_rest t.load (all_moved m) d h l k)
