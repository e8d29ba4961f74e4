-- A word that is written keeps this, the last one of a sector too.
use Rattle.std.proofs.Common.{Ok, Err}
use Prim.Native.Nat.{ℕ, zero, suc, ◌+◌, ◌-◌, ◌*◌, ◌<◌}
use mathlib.Core.Bool.{Bool, true, false}
use mathlib.Core.Path.{◌≡◌, refl, sym, subst}
use mathlib.Core.List.{List, [], ◌∷◌, ◌++◌}
use native.Mathlib.Numerals.{sub-one}
use native.Mathlib.Omega.{arith}
use lib.Dec.{ltb}
use lib.ListN.{length, take, set, get_or}
use borrow.Author.Tests.{ltb-false, ne_eqb}
use Rattle.ground.specs.Choice.{pick}
use Rattle.geometry.specs.Address.{index_of, Located}
use Rattle.geometry.specs.Limits.{total_of}
use Rattle.sectors.specs.Marks.{writable}
use Rattle.registers.specs.declared.Pace.{Pace}
use Rattle.registers.specs.Blocks.{pace_after}
use Rattle.registers.specs.declared.Load.{Load}
use Rattle.registers.specs.declared.Load.TheVariants.{Sectors, Buffer}
use Rattle.registers.specs.declared.Transfer.{Transfer}
use Rattle.registers.specs.declared.Phase.TheVariants.{DataOut}
use Rattle.registers.specs.declared.State.{State}
use Rattle.registers.specs.State.{with_bad, located_in}
use Rattle.registers.specs.Machine.{Machine, machine, with_buffer}
use Rattle.transfers.specs.declared.Order.{Order}
use Rattle.transfers.specs.declared.Order.TheVariants.{Later}
use Rattle.transfers.specs.declared.End.{End}
use Rattle.transfers.specs.Before.{address_test, tested_of, stored_by, sector_stored}
use Rattle.transfers.specs.Steps.{ask_tested, ask_sector, next_asked, written_by, load_written, all_moved}
use Rattle.transfers.specs.declared.Way.TheVariants.{Out}
use Rattle.port.specs.Halves.{next_word}
use Rattle.port.specs.Data.{with_phase}
use Rattle.account.specs.Plain.{Plain}
use Rattle.account.specs.Course.{Course}
use Rattle.sectors.specs.Sectors.{StoreMarks, store_marks}
use Rattle.kept.specs.Lent.{store_marks_in}
use Rattle.account.specs.WholeSectors.{put_sector, bad_at}
use Rattle.account.specs.Host.{plain_of}
use Rattle.account.proofs.Seats.{Shaped, Where, past_room, course_in, onward, done_on, seat_next, spot_on, good_on}
use Rattle.account.proofs.Stored.{stored_is}
use Rattle.account.proofs.Rest.{bare, here, Ground, Loaded}
use Rattle.account.proofs.WordWritten.{sector_test_lem, here_inside}
use Rattle.hosts.proofs.Written.{Written, Target, Nowhere, From, LoadLies, Lies, word_more, sector_more}
use Rattle.geometry.specs.declared.BadAddress.{BadAddress}

module _ (i : ℕ) (p : Plain) where
  past_lies : (l : Bool) (n : ℕ) (pace : Pace) (order : Order) (s : State) (b t k q : List ℕ) → Lies (From i) p (machine (ask_tested (tested_of (pick l (Err BadAddress.Lba) (Err BadAddress.Cylinder))) n pace order s) b t k) q
  past_lies true n pace order s b t k q = tt
  past_lies false n pace order s b t k q = tt

  ask_by : (v : Bool) (n : ℕ) (pace : Pace) (order : Order) (c : Course) (h : ℕ) (s : State) (b t k q : List ℕ) → Written i p h 0 b (store_marks t k s.bad) q →
      located_in s ≡ pick v (good_on c h) (past_room c) →
      Lies (From i) p (machine (ask_tested (tested_of (pick v (good_on c h) (past_room c))) (suc n) pace order s) b t k) q
  ask_by true n pace order c h s b t k q z e = subst (λ (x : Located). Written i p (index_of x) 0 b (store_marks t k s.bad) q) (sym e) z
  ask_by false n pace order c h s b t k q z e = past_lies c.lba (suc n) pace order s b t k q

  -- a sector is asked for
  pub ask_lies : (n : ℕ) (pace : Pace) (order : Order) (c : Course) (h : ℕ) (s : State) (b t k q : List ℕ) → Written i p h 0 b (store_marks t k s.bad) q → Where c h s →
      Lies (From i) p (machine (ask_sector (suc n) pace order s) b t k) q
  unfolding ask_sector address_test
  ask_lies n pace order c h s b t k q z w =
      subst (λ (l : Located). Lies (From i) p (machine (ask_tested (tested_of l) (suc n) pace order s) b t k) q) (sym w) (ask_by (ltb h c.room) n pace order c h s b t k q z w)

  asked_lies : (n : ℕ) (pace : Pace) (c : Course) (h : ℕ) (s : State) (b t k q : List ℕ) → Shaped s.made s.current → course_in s ≡ c → located_in s ≡ good_on c h →
      Written i p (h + 1) 0 b (store_marks t k s.bad) q → Lies (From i) p (machine (next_asked n pace s) b t k) q
  unfolding next_asked
  asked_lies zero pace c h s b t k q g x e z = tt
  asked_lies (suc n) pace c h s b t k q g x e z =
      let y = seat_next c (suc n) h s g e x in
      rw (done_on n s, ne_eqb (suc n) 0 (omega arith)) (ask_lies n pace Later c (h + 1) (onward (suc n) s) b t k q z y.1)

  marked_lies : (u : Bool) (n : ℕ) (pace : Pace) (h : ℕ) (m : Machine) (l : List ℕ) → h < total_of m.state.made.default → length m.buffer ≡ 512 → Ground Out m →
      located_in m.state ≡ good_on (course_in m.state) h → Written i p h 256 m.buffer (store_marks_in m) l →
      Lies (From i) p (written_by (stored_by (pick u (Ok (spot_on (course_in m.state) h)) (Err End.WriteFault)) m.buffer (store_marks_in m)) n pace m) l
  marked_lies true n pace h m l x f g e z =
      rw (stored_is (total_of m.state.made.default) h m.state.bad m.store m.marks m.buffer x g.1)
      (asked_lies n pace (course_in m.state) h (with_bad (m.state.bad - bad_at h m.marks) m.state) m.buffer (put_sector h m.buffer m.store) (set m.marks h 0) l g.0 refl e
      (sector_more i p h m.buffer (store_marks_in m) l f z))
  marked_lies false n pace h m l x f g e z = tt

-- the last byte of a sector or of the buffer has come
load_lies : (g : Target) (p : Plain) (a : Load) (m : Machine) (l : List ℕ) → length m.buffer ≡ 512 → Ground Out m → Loaded a (bare (plain_of m)) →
    LoadLies g a p (here m.state) 256 m.buffer (store_marks_in m) l → Lies g p (load_written a m) l
unfolding sector_stored
load_lies Nowhere p Buffer m l f g k z = tt
load_lies Nowhere p (Sectors n pace) m l f g k z = absurd z
load_lies (From i) p Buffer m l f g k z = absurd z
load_lies (From i) p (Sectors zero pace) m l f g k z = absurd (omega (arith, k.1))
load_lies (From i) p (Sectors (suc n) pace) m l f g k z =
    rw (sector_test_lem (spot_on (course_in m.state) (here m.state)) m.state m.marks k.0, sub-one (suc n))
    (marked_lies i p (writable (get_or m.marks (here m.state) 0)) n (pace_after pace) (here m.state) m l (here_inside m.state g.0 k.0) f g k.0 z)

load_more : (g : Target) (p : Plain) (a : Load) (h w : ℕ) (b o : List ℕ) (q : StoreMarks) (l : List ℕ) (x y : ℕ) → take (2 * (w + 1)) b ≡ take (2 * w) o ++ (x ∷ y ∷ []) →
    LoadLies g a p h w o q l → LoadLies g a p h (w + 1) b q (l ++ (x ∷ y ∷ []))
load_more Nowhere p Buffer h w b o q l x y e z = tt
load_more Nowhere p (Sectors n pace) h w b o q l x y e z = absurd z
load_more (From i) p Buffer h w b o q l x y e z = absurd z
load_more (From i) p (Sectors n pace) h w b o q l x y e z = word_more i p h w b o q l x y e z

-- a word has come
pub word_lies : (v : Bool) (g : Target) (p : Plain) (t : Transfer) (m : Machine) (b l : List ℕ) (x y : ℕ) → ltb t.words 255 ≡ v → t.words < 256 → length b ≡ 512 →
    take (2 * (t.words + 1)) b ≡ take (2 * t.words) m.buffer ++ (x ∷ y ∷ []) → Ground Out m → Loaded t.load (bare (plain_of m)) →
    LoadLies g t.load p (here m.state) t.words m.buffer (store_marks_in m) l →
    Lies g p (pick v (with_phase (DataOut (next_word t)) (with_buffer b m)) (load_written t.load (all_moved (with_buffer b m)))) (l ++ (x ∷ y ∷ []))
word_lies true g p t m b l x y e w f o u k z = load_more g p t.load (here m.state) t.words b m.buffer (store_marks_in m) l x y o z
word_lies false g p t m b l x y e w f o u k z =
    let q : t.words + 1 ≡ 256 = omega (arith, ltb-false) in
    load_lies g p t.load (all_moved (with_buffer b m)) (l ++ (x ∷ y ∷ [])) f u k
    (subst (λ (n : ℕ). LoadLies g t.load p (here m.state) n b (store_marks_in m) (l ++ (x ∷ y ∷ []))) q
    (load_more g p t.load (here m.state) t.words b m.buffer (store_marks_in m) l x y o z))
