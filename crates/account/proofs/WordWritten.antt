-- Writing: the last byte of a sector has come, and a word has come.
use Rattle.std.proofs.Common.{Ok, Err}
use Prim.Native.Nat.{ℕ, zero, suc, ◌+◌, ◌-◌, ◌*◌, ◌<◌}
use mathlib.Core.Bool.{Bool, true, false}
use mathlib.Core.Path.{◌≡◌, refl, sym, ◌∙◌}
use mathlib.Core.List.{List, [], ◌∷◌, ◌++◌, append_assoc}
use native.Mathlib.Numerals.{sub-one}
use native.Mathlib.Omega.{arith}
use lib.Dec.{ltb}
use lib.ListN.{length, take, set, get_or, length-set}
use lib.Seq.{take_all, take-suc-set, take-suc, take-set-le, get_or-set_same, get_or-set_other}
use borrow.Author.Tests.{ltb-true, ltb-false}
use Rattle.ground.specs.Choice.{pick}
use Rattle.geometry.specs.declared.Spot.{Spot}
use Rattle.geometry.specs.Limits.{total_of}
use Rattle.sectors.specs.Marks.{writable}
use Rattle.registers.specs.Blocks.{pace_after}
use Rattle.registers.specs.declared.Load.{Load}
use Rattle.registers.specs.declared.Load.TheVariants.{Sectors, Buffer}
use Rattle.registers.specs.declared.Transfer.{Transfer}
use Rattle.registers.specs.declared.Phase.TheVariants.{DataOut}
use Rattle.registers.specs.declared.State.{State}
use Rattle.registers.specs.State.{located_in}
use Rattle.registers.specs.Machine.{Machine, with_buffer}
use Rattle.transfers.specs.declared.End.{End}
use Rattle.transfers.specs.declared.Way.TheVariants.{Out}
use Rattle.transfers.specs.Before.{address_test, sector_test, sector_stored}
use Rattle.transfers.specs.Steps.{load_written, all_moved}
use Rattle.port.specs.Halves.{next_word}
use Rattle.port.specs.Data.{with_phase}
use Rattle.account.specs.Plain.{moving}
use Rattle.account.specs.Sweeps.{unwritable}
use Rattle.account.specs.Host.{plain_of}
use Rattle.account.proofs.Seats.{Shaped, course_in, spot_on, good_on, seat_room, room_total}
use Rattle.account.proofs.Tried.{unwrite_opposite}
use Rattle.account.proofs.Stored.{LentFor}
use Rattle.account.proofs.Rest.{bare, here, done_out, rest_at, rest, Loaded}
use Rattle.account.proofs.Writing.{done_over, marked_rest}

-- the tests at the last byte, of a valid address
pub sector_test_lem : (p : Spot) (s : State) (marks : List ℕ) → located_in s ≡ Ok p →
    sector_test Out s marks ≡ pick (writable (get_or marks p.index 0)) (Ok p) (Err End.WriteFault)
unfolding sector_test address_test
sector_test_lem p s marks e = rw e

-- a valid address lies in the store
pub here_inside : (s : State) → Shaped s.made s.current → located_in s ≡ good_on (course_in s) (here s) → here s < total_of s.made.default
here_inside s h e =
    let x = (seat_room s (spot_on (course_in s) (here s)) h e).0 in
    let y = room_total (course_in s) s h refl in
    omega arith

written_rest : (l : Load) (m : Machine) (d : List ℕ) → Shaped m.state.made m.state.current → LentFor (total_of m.state.made.default) m.store m.marks → Loaded l (bare (plain_of m)) →
    rest (load_written l m) d ≡ done_out l (plain_of m) m.buffer d
unfolding done_out sector_stored
written_rest Buffer m d h l k = unfold rest_at in refl
written_rest (Sectors zero pace) m d h l k = absurd (omega (arith, k.1))
written_rest (Sectors (suc n) pace) m d h l k =
    rw (sector_test_lem (spot_on (course_in m.state) (here m.state)) m.state m.marks k.0, sub-one (suc n))
    (marked_rest (writable (get_or m.marks (here m.state) 0)) (unwritable (get_or m.marks (here m.state) 0)) n (pace_after pace) (course_in m.state) (here m.state) m d
    (unwrite_opposite (get_or m.marks (here m.state) 0)) (here_inside m.state h k.0) h l (k.2, k.3, refl) k.0)

-- a word has come: l and h stand in the buffer b
pub word_written_rest : (g : Bool) (t : Transfer) (m : Machine) (b : List ℕ) (l h : ℕ) (d : List ℕ) → ltb t.words 255 ≡ g → t.words < 256 → length b ≡ 512 →
    take (2 * (t.words + 1)) b ≡ take (2 * t.words) m.buffer ++ (l ∷ h ∷ []) →
    Shaped m.state.made m.state.current → LentFor (total_of m.state.made.default) m.store m.marks → Loaded t.load (bare (plain_of m)) →
    rest_at (DataOut t) (plain_of m) (l ∷ h ∷ d)
    ≡ moving (l ∷ h ∷ []) (rest (pick g (with_phase (DataOut (next_word t)) (with_buffer b m)) (load_written t.load (all_moved (with_buffer b m)))) d)
unfolding rest_at
word_written_rest true t m b l h d e w n o x y z =
    let q : 512 - 2 * t.words ≡ suc (suc (512 - 2 * (t.words + 1))) = omega (arith, ltb-true) in
    rw (q, o, done_over t.load (plain_of m) b, append_assoc)
word_written_rest false t m b l h d e w n o x y z =
    let q : 512 - 2 * t.words ≡ 2 = omega (arith, ltb-false) in
    let v : 2 * (t.words + 1) ≡ 512 = omega (arith, ltb-false) in
    let u : b ≡ take (2 * t.words) m.buffer ++ (l ∷ h ∷ []) = sym (take_all 512 b (omega arith)) ∙ (rw v at o) in
    rw (q, written_rest t.load (all_moved (with_buffer b m)) d x y z, done_over t.load (plain_of m) b, u)

-- ---- the buffer with a word, or half of one, written

module _ (b : List ℕ) (w : ℕ) (v : 2 * w + 1 < length b) where
  even : 2 * (w + 1) ≡ suc (suc (2 * w))
  even = omega arith

  odd : 2 * w + 1 ≡ suc (2 * w)
  odd = omega arith

  pub set-whole : (l h : ℕ) → take (2 * (w + 1)) (set (set b (2 * w) l) (2 * w + 1) h) ≡ take (2 * w) b ++ (l ∷ h ∷ [])
  set-whole l h = rw (even, odd, take-suc-set (set b (2 * w) l) (suc (2 * w)) h (simp length-set (omega arith)), take-suc-set b (2 * w) l (omega arith), append_assoc)

  pub set-high : (h : ℕ) → take (2 * (w + 1)) (set b (2 * w + 1) h) ≡ take (2 * w) b ++ (get_or b (2 * w) 0 ∷ h ∷ [])
  set-high h = rw (even, odd, take-suc-set b (suc (2 * w)) h (omega arith), take-suc b (2 * w) 0 (omega arith), append_assoc)

  pub set-low : (l : ℕ) → take (2 * (w + 1)) (set b (2 * w) l) ≡ take (2 * w) b ++ (l ∷ get_or b (2 * w + 1) 0 ∷ [])
  set-low l =
      rw (
        even,
        odd,
        take-suc (set b (2 * w) l) (suc (2 * w)) 0 (simp length-set (omega arith)),
        take-suc-set b (2 * w) l (omega arith),
        get_or-set_other b (2 * w) (suc (2 * w)) l 0 (omega arith),
        append_assoc,
      )

  pub low_kept : (x : ℕ) → take (2 * w) (set b (2 * w) x) ≡ take (2 * w) b
  low_kept x = take-set-le (2 * w) b (2 * w) x (omega arith)

  pub high_kept : (x : ℕ) → take (2 * w) (set b (2 * w + 1) x) ≡ take (2 * w) b
  high_kept x = take-set-le (2 * w) b (2 * w + 1) x (omega arith)

  pub low_stands : (x : ℕ) → x ≡ get_or (set b (2 * w) x) (2 * w) 0
  low_stands x = sym (get_or-set_same b (2 * w) x 0 (omega arith))

  pub high_stands : (x : ℕ) → x ≡ get_or (set b (2 * w + 1) x) (2 * w + 1) 0
  high_stands x = sym (get_or-set_same b (2 * w + 1) x 0 v)
