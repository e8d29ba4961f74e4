-- Where a host can move data: the places of the map that is set.
use Rattle.std.specs.Prelude.{ℕ, ◌+◌, ◌%◌, Bool, true, false, ◌&&◌, ◌||◌, List, ◌≡◌, eqb, leb, length}
use Rattle.ground.specs.Choice.{pick}
use Rattle.ground.specs.Sizes.{tuple_buffer_bytes}
use Rattle.maps.specs.declared.Mode.{Mode}
use Rattle.maps.specs.declared.Mode.TheVariants.{PcCard, TrueIde}
use Rattle.maps.specs.declared.Port.{Port}
use Rattle.registers.specs.State.{index_in}
use Rattle.transfers.specs.declared.Way.{Way}
use Rattle.transfers.specs.declared.Way.TheVariants.{In, Out}
use Rattle.card.specs.Access.{Asked, asked_with, meaning}
use Rattle.account.specs.Host.{Hosted}
use Rattle.hosts.specs.Live.{fits, width, Small, Taken}

-- ---- where data stands

-- "Offsets: 0, 8, 9 data": a byte or a word at an even one, a byte at the odd one
abbrev pub offsets : Port → ℕ → Bool
offsets Port.Even o = eqb o 0 || eqb o 8
offsets Port.Odd o = eqb o 9
offsets Port.Word o = eqb o 0 || eqb o 8

-- 01, "Maps": does an address of a space stand for such an offset, in this mode and at this index?
unfoldable pub data_at : (ℕ → Bool) → Mode → ℕ → ℕ → ℕ → Bool
data_at is TrueIde index space address = eqb space 3 && (eqb address 0x00 && is 0)
data_at is PcCard index space address =
    pick (eqb index 0) (eqb space 1 && pick (leb address 0x3FF) (is (address % 16)) (leb address 0x7FF && is (8 + address % 2)))
    (pick (eqb index 1) (eqb space 2 && (leb address 0x7FF && is (address % 16)))
    (pick (eqb index 2) (eqb space 2 && (eqb address 0x1F0 && is 0))
    (eqb space 2 && (eqb address 0x170 && is 0))))

-- ---- an access to it

abbrev pub writes : Way → Bool
writes In = false
writes Out = true

-- a byte or a word at an address of a space; its value counts in a write only
pub record Choice : Type 0 where
  pub port : Port
  pub space : ℕ
  pub address : ℕ
  pub value : ℕ
  pub tuples : List ℕ

-- the access, the command's way
abbrev pub access_of : Way → Choice → Asked
access_of way c = asked_with (record { space = c.space; width = width c.port; address = c.address; value = c.value; write = writes way }) c.tuples

-- a choice that the host has: by its notes, by the map that is set, by its value and by what is lent
pub record Fitting (way : Way) (h : Hosted) (c : Choice) : Type 0 where
  pub half : fits h.notes.waiting c.port ≡ true
  pub place : data_at (offsets c.port) h.machine.state.made.mode (index_in h.machine.state.option) c.space c.address ≡ true
  pub value : Small way c.port c.value
  pub tuples : length c.tuples ≡ tuple_buffer_bytes

-- step answers so: `step m a` is `perform (meaning m a) m`
abbrev pub TakenChoice : Way → Hosted → Choice → Type 0
TakenChoice way h c = Taken way h c.port c.value (meaning h.machine (access_of way c))
