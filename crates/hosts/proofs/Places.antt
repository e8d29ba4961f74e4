-- A choice at a data place of the map that is set means data.
use Rattle.std.proofs.Common.{Some}
use Prim.Native.Nat.{ℕ, zero, suc, ◌+◌, ◌%◌, ◌≤◌}
use mathlib.Core.Bool.{Bool, true, false, ◌&&◌, ◌||◌, false≢true}
use mathlib.Core.Path.{◌≡◌, refl, sym, ap, ◌∙◌, subst}
use native.Mathlib.Omega.{arith}
use lib.Dec.{eqb, leb}
use borrow.Author.Tests.{leb-true, eqb-true, le-ltb}
use Rattle.ground.specs.Choice.{pick}
use Rattle.ground.specs.Rows.{first_of}
use Rattle.ground.proofs.Every.{each, and_left, and_right}
use Rattle.maps.specs.declared.Mode.{Mode}
use Rattle.maps.specs.declared.Mode.TheVariants.{PcCard, TrueIde}
use Rattle.maps.specs.declared.Port.{Port}
use Rattle.maps.specs.declared.Place.{Place}
use Rattle.maps.specs.declared.Place.TheVariants.{Bytes, EvenData}
use Rattle.maps.specs.declared.Target.TheVariants.{Data}
use Rattle.maps.specs.Spaces.{card_answers, answers_at}
use Rattle.maps.specs.Offsets.{memory_at, contiguous_at, window_at, io_at, offset_at}
use Rattle.maps.specs.Places.{register_place, map_place, place_at}
use Rattle.maps.specs.Rows.{misfits, place_table, moved}
use Rattle.registers.specs.declared.State.{State}
use Rattle.registers.specs.State.{sreset_in, index_in}
use Rattle.registers.specs.Machine.{Machine}
use Rattle.registers.specs.WellMade.{index_fits, well_made}
use Rattle.transfers.specs.declared.Way.{Way}
use Rattle.transfers.specs.declared.Way.TheVariants.{In, Out}
use Rattle.card.specs.declared.Meaning.{Meaning}
use Rattle.card.specs.Access.{Asked, standing, held_away, decided, meaning}
use Rattle.kept.specs.Sound.{Sound}
use Rattle.kept.proofs.Decided.{meaning-decided}
use Rattle.account.specs.Host.{Hosted}
use Rattle.hosts.specs.Live.{width, Small, data_meaning}
use Rattle.hosts.specs.Choices.{offsets, data_at, writes, Choice, access_of, Fitting}

-- what the test of a place tells: the space answers, and the address has such an offset
pub record Found (is : ℕ → Bool) (mode : Mode) (index space address : ℕ) : Type 0 where
  pub answers : answers_at space mode index ≡ true
  pub apart : eqb space 0 ≡ false
  pub offset : ℕ
  pub stands : offset_at space index address ≡ Some offset
  pub good : is offset ≡ true

module _ (is : ℕ → Bool) where
  by_memory : (b c : Bool) (address : ℕ) → leb address 0x3FF ≡ b → leb address 0x7FF ≡ c → pick b (is (address % 16)) (c && is (8 + address % 2)) ≡ true → Found is PcCard 0 1 address
  unfolding answers_at card_answers offset_at memory_at
  by_memory true c address p q e = record { answers = refl; apart = refl; offset = address % 16; stands = rw p; good = e }
  by_memory false true address p q e = record { answers = refl; apart = refl; offset = 8 + address % 2; stands = rw (p, q); good = e }
  by_memory false false address p q e = absurd (false≢true e)

  by_io : (address : ℕ) → (leb address 0x7FF && is (address % 16)) ≡ true → Found is PcCard 1 2 address
  unfolding answers_at card_answers offset_at io_at contiguous_at
  by_io address e =
      let p : leb address 0x7FF ≡ true = and_left (leb address 0x7FF) (is (address % 16)) e in
      record { answers = refl; apart = refl; offset = address % 16; stands = rw p; good = and_right (leb address 0x7FF) (is (address % 16)) e }

  -- the first address of a window is offset 0
  by_window : (mode : Mode) (index space first address : ℕ) → answers_at space mode index ≡ true → eqb space 0 ≡ false → offset_at space index first ≡ Some 0 →
      (eqb address first && is 0) ≡ true → Found is mode index space address
  by_window mode index space first address p q r e =
      let z : address ≡ first = eqb-true address first (and_left (eqb address first) (is 0) e) in
      record { answers = p; apart = q; offset = 0; stands = ap (offset_at space index) z ∙ r; good = and_right (eqb address first) (is 0) e }

  -- one space for each map
  in_space : (mode : Mode) (index space own address : ℕ) (b : Bool) → (eqb space own && b) ≡ true → (b ≡ true → Found is mode index own address) → Found is mode index space address
  in_space mode index space own address b e f =
      subst (λ (x : ℕ). Found is mode index x address) (sym (eqb-true space own (and_left (eqb space own) b e))) (f (and_right (eqb space own) b e))

  found : (mode : Mode) (index space address : ℕ) → index ≤ 3 → data_at is mode index space address ≡ true → Found is mode index space address
  unfolding data_at answers_at card_answers offset_at io_at window_at
  found TrueIde index space address h e = in_space TrueIde index space 3 address _ e (by_window TrueIde index 3 0x00 address refl refl refl)
  found PcCard zero space address h e = in_space PcCard 0 space 1 address _ e (by_memory (leb address 0x3FF) (leb address 0x7FF) address refl refl)
  found PcCard (suc zero) space address h e = in_space PcCard 1 space 2 address _ e (by_io address)
  found PcCard (suc (suc zero)) space address h e = in_space PcCard 2 space 2 address _ e (by_window PcCard 2 2 0x1F0 address refl refl refl)
  found PcCard (suc (suc (suc zero))) space address h e = in_space PcCard 3 space 2 address _ e (by_window PcCard 3 2 0x170 address refl refl refl)
  found PcCard (suc (suc (suc (suc n)))) space address h e = absurd (omega arith)

-- at such an offset stands the port
abbrev place_of : Port → Place
place_of Port.Even = EvenData
place_of Port.Odd = Bytes (Data Port.Odd)
place_of Port.Word = EvenData

either : (b c : Bool) (x y : Place) → (b || c) ≡ true → pick b x (pick c x y) ≡ x
either true c x y e = refl
either false true x y e = refl
either false false x y e = absurd (false≢true e)

port_stands : (port : Port) (o : ℕ) → offsets port o ≡ true → register_place o ≡ place_of port
unfolding register_place
port_stands Port.Even o e = either (eqb o 0) (eqb o 8) EvenData _ e
port_stands Port.Odd o e = ap register_place (eqb-true o 9 e)
port_stands Port.Word o e = either (eqb o 0) (eqb o 8) EvenData _ e

-- and no row applies there to a byte that is read or one of at most 255
port_means : (way : Way) (port : Port) (a : Asked) → a.access.width ≡ width port → a.access.write ≡ writes way → Small way port a.access.value →
    first_of (place_table (place_of port) a.access) Meaning.Refused (standing (moved (place_of port) a.access.width) a) ≡ data_meaning way port a.access.value
unfolding misfits
port_means In Port.Even a x y h = rw (x, y)
port_means In Port.Odd a x y h = rw (x, y)
port_means In Port.Word a x y h = rw (x, y)
port_means Out Port.Even a x y h = rw (x, y, le-ltb 0xFF a.access.value h)
port_means Out Port.Odd a x y h = rw (x, y, le-ltb 0xFF a.access.value h)
port_means Out Port.Word a x y h = rw (x, y)

decided_data : (s : State) (way : Way) (c : Choice) → sreset_in s.option ≡ false → Found (offsets c.port) s.made.mode (index_in s.option) c.space c.address →
    Small way c.port c.value → decided s (access_of way c) ≡ data_meaning way c.port c.value
unfolding decided held_away place_at map_place
decided_data s way c h f v =
    rw (h, f.answers, f.apart, f.stands, port_stands c.port f.offset f.good) (port_means way c.port (access_of way c) refl refl v)

index_small : (m : Machine) → well_made m.phase m.state ≡ true → index_in m.state.option ≤ 3
unfolding well_made index_fits
index_small m e = leb-true _ _ (each _ e 2)

pub choice_means : (way : Way) (h : Hosted) (c : Choice) → Sound h.machine → sreset_in h.machine.state.option ≡ false → Fitting way h c →
    meaning h.machine (access_of way c) ≡ data_meaning way c.port c.value
choice_means way h c s e f =
    meaning-decided h.machine (access_of way c) s.made s.store s.marks f.tuples
    ∙ decided_data h.machine.state way c e
    (found (offsets c.port) h.machine.state.made.mode (index_in h.machine.state.option) c.space c.address (index_small h.machine s.made) f.place) f.value
