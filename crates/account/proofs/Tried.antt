-- The machine's tests before a sector are the account's tests of its index, and its ends are the account's ends.
use Rattle.std.proofs.Common.{Ok, Err}
use Prim.Native.Nat.{ℕ, ◌%◌, ◌<◌}
use mathlib.Core.Bool.{Bool, true, false, not, ◌||◌, false≢true, true≢false}
use mathlib.Core.Path.{◌≡◌, refl, sym, ap, ◌∙◌, subst}
use mathlib.Core.List.{List}
use lib.Dec.{ltb, eqb}
use lib.ListN.{get_or}
use borrow.Author.Tests.{ltb-true}
use Rattle.ground.specs.Choice.{pick}
use Rattle.sectors.specs.Marks.{readable, writable}
use Rattle.registers.specs.declared.State.{State}
use Rattle.transfers.specs.declared.End.{End}
use Rattle.transfers.specs.Ends.{ended}
use Rattle.transfers.specs.declared.Way.TheVariants.{In, Out}
use Rattle.transfers.specs.Before.{address_test, tested_of, mark_tested, sector_test, Tested}
use Rattle.kept.proofs.Ends.{erring}
use Rattle.account.specs.Numbers.{code_head_or_sector, code_cylinder_or_lba, code_geometry, code_others}
use Rattle.account.specs.Plain.{Plain, Finish, Well, NotFound, Unreadable, WriteFault, Aborted, ends, with_place}
use Rattle.account.specs.Course.{Course, named}
use Rattle.account.specs.Sweeps.{Sweep, tried, stopped, tests, unreadable, unwritable, sweep_ends}
use Rattle.account.specs.Host.{plain_in}
use Rattle.account.proofs.Seats.{Seated, Where, past_room, place_seated, spot_on, good_on}
use Rattle.geometry.specs.Address.{Located}
use Rattle.geometry.specs.declared.BadAddress.{BadAddress}

-- an end of the machine in the account's words
abbrev pub finish_of : End → Finish
finish_of End.Good = Well
finish_of End.BadHeadOrSector = NotFound code_head_or_sector
finish_of End.BadCylinder = NotFound code_cylinder_or_lba
finish_of End.BadLba = NotFound code_cylinder_or_lba
finish_of End.PastEnd = NotFound code_cylinder_or_lba
finish_of End.Unreadable = Unreadable
finish_of End.WriteFault = WriteFault
finish_of End.BadGeometry = Aborted code_geometry
finish_of End.NoSuchCommand = Aborted code_others

pub ended-ends : (e : End) (s : State) (b t k : List ℕ) → plain_in (ended e s).state b t k ≡ ends (finish_of e) (plain_in s b t k)
ended-ends End.Good s b t k = refl
ended-ends End.BadHeadOrSector s b t k = refl
ended-ends End.BadCylinder s b t k = refl
ended-ends End.BadLba s b t k = refl
ended-ends End.PastEnd s b t k = refl
ended-ends End.Unreadable s b t k = refl
ended-ends End.WriteFault s b t k = refl
ended-ends End.BadGeometry s b t k = refl
ended-ends End.NoSuchCommand s b t k = refl

-- a failed test stops a sweep there
stops : (e : End) → erring e ≡ true → (c : Course) (n i : ℕ) (rest : Sweep) (p : Plain) →
    (tried (finish_of e) n i rest ≡ stopped (finish_of e) n i) × (sweep_ends c (stopped (finish_of e) n i) p ≡ ends (finish_of e) (with_place (n % 256) (named c i) p))
stops End.Good h c n i rest p = absurd (false≢true h)
stops End.BadHeadOrSector h c n i rest p = (refl, refl)
stops End.BadCylinder h c n i rest p = (refl, refl)
stops End.BadLba h c n i rest p = (refl, refl)
stops End.PastEnd h c n i rest p = (refl, refl)
stops End.Unreadable h c n i rest p = (refl, refl)
stops End.WriteFault h c n i rest p = (refl, refl)
stops End.BadGeometry h c n i rest p = (refl, refl)
stops End.NoSuchCommand h c n i rest p = (refl, refl)

pub stops_sweep : (e : End) → erring e ≡ true → (c : Course) (n i : ℕ) (rest : Sweep) (p : Plain) → tried (finish_of e) n i rest ≡ stopped (finish_of e) n i
stops_sweep e h c n i rest p = (stops e h c n i rest p).0

-- and leaves what the machine's end leaves
pub stops_ends : (e : End) → erring e ≡ true → (c : Course) (n i : ℕ) (s : State) (b t k : List ℕ) → Seated c i n s →
    plain_in (ended e s).state b t k ≡ sweep_ends c (stopped (finish_of e) n i) (plain_in s b t k)
stops_ends e h c n i s b t k q =
    ended-ends e s b t k
    ∙ ap (ends (finish_of e)) (sym (place_seated c i n s b t k q))
    ∙ sym (stops e h c n i (stopped Well 0 0) (plain_in s b t k)).1

-- ---- the tests

past_end_lem : (l : Bool) → (P : Tested → Finish → Type 0) → ((e : End) → erring e ≡ true → P (Err e) (finish_of e)) → P (tested_of (pick l (Err BadAddress.Lba) (Err BadAddress.Cylinder))) (NotFound code_cylinder_or_lba)
past_end_lem true P f = f End.BadLba refl
past_end_lem false P f = f End.BadCylinder refl

-- past the end a mark is not looked at
past_marked : (l : Bool) (allows : ℕ → Bool) (e : End) (marks : List ℕ) →
    mark_tested allows e (tested_of (pick l (Err BadAddress.Lba) (Err BadAddress.Cylinder))) marks ≡ tested_of (pick l (Err BadAddress.Lba) (Err BadAddress.Cylinder))
past_marked true allows e marks = refl
past_marked false allows e marks = refl

marked : (u v : Bool) (c : Course) (i : ℕ) (e : End) (P : Tested → Finish → Type 0) → erring e ≡ true → v ≡ not u → P (Ok (spot_on c i)) Well → ((f : End) → erring f ≡ true → P (Err f) (finish_of f)) →
    P (pick u (Ok (spot_on c i)) (Err e)) (pick v (finish_of e) Well)
marked true true c i e P h q x f = absurd (true≢false q)
marked true false c i e P h q x f = x
marked false true c i e P h q x f = f e h
marked false false c i e P h q x f = absurd (false≢true q)

module _ (allows forbids : ℕ → Bool) (e : End) (h : erring e ≡ true) (opposite : (m : ℕ) → forbids m ≡ not (allows m)) where
  placed : (b : Bool) (c : Course) (i : ℕ) (marks : List ℕ) (P : Tested → Finish → Type 0) → ltb i c.room ≡ b →
      (i < c.room → P (Ok (spot_on c i)) Well) → ((f : End) → erring f ≡ true → P (Err f) (finish_of f)) →
      P (mark_tested allows e (tested_of (pick b (good_on c i) (past_room c))) marks) (pick b (pick (forbids (get_or marks i 0)) (finish_of e) Well) (NotFound code_cylinder_or_lba))
  placed true c i marks P q x f = marked (allows (get_or marks i 0)) (forbids (get_or marks i 0)) c i e P h (opposite (get_or marks i 0)) (x (ltb-true i c.room q)) f
  placed false c i marks P q x f = rw (past_marked c.lba allows e marks) (past_end_lem c.lba P f)

  tested : (c : Course) (i : ℕ) (s : State) (marks : List ℕ) (P : Tested → Finish → Type 0) → Where c i s →
      (i < c.room → P (Ok (spot_on c i)) Well) → ((f : End) → erring f ≡ true → P (Err f) (finish_of f)) →
      P (mark_tested allows e (address_test s) marks) (tests forbids (finish_of e) c marks i)
  unfolding address_test tests
  tested c i s marks P w x f =
      subst (λ (l : Located). P (mark_tested allows e (tested_of l) marks) (tests forbids (finish_of e) c marks i)) (sym w) (placed (ltb i c.room) c i marks P refl x f)

unread_opposite : (m : ℕ) → unreadable m ≡ not (readable m)
unfolding unreadable readable
unread_opposite m = go (eqb m 0) (eqb m 2)
  where
    go : (a b : Bool) → not (a || b) ≡ not (pick a true b)
    go true b = refl
    go false b = refl

pub unwrite_opposite : (m : ℕ) → unwritable m ≡ not (writable m)
unfolding unwritable writable
unwrite_opposite m = go (eqb m 2)
  where
    go : (a : Bool) → a ≡ not (pick a false true)
    go true = refl
    go false = refl

-- what holds of a sound sector and of each failed test, holds of a sector to be read
pub read_tested_lem : (c : Course) (i : ℕ) (s : State) (marks : List ℕ) (P : Tested → Finish → Type 0) → Where c i s →
    (i < c.room → P (Ok (spot_on c i)) Well) → ((f : End) → erring f ≡ true → P (Err f) (finish_of f)) →
    P (sector_test In s marks) (tests unreadable Unreadable c marks i)
unfolding sector_test
read_tested_lem c i s marks P w x f = tested readable unreadable End.Unreadable refl unread_opposite c i s marks P w x f

-- and of a sector to be stored
pub store_tested : (c : Course) (i : ℕ) (s : State) (marks : List ℕ) (P : Tested → Finish → Type 0) → Where c i s →
    (i < c.room → P (Ok (spot_on c i)) Well) → ((f : End) → erring f ≡ true → P (Err f) (finish_of f)) →
    P (sector_test Out s marks) (tests unwritable WriteFault c marks i)
unfolding sector_test
store_tested c i s marks P w x f = tested writable unwritable End.WriteFault refl unwrite_opposite c i s marks P w x f
