-- Two hosts that meet all of the theorem's hypotheses, by computing: bytes high half first through two maps, and a write that ends at mark 2.
use Prim.Native.Nat.{ℕ, zero, suc}
use mathlib.Core.Bool.{true, false}
use mathlib.Core.Path.{◌≡◌, refl}
use mathlib.Core.List.{List, [], ◌∷◌, ◌++◌}
use lib.ListN.{get_or, replicate}
use Rattle.geometry.specs.declared.Geometry.{Geometry}
use Rattle.registers.specs.Blocks.{block_size, place_after}
use Rattle.registers.specs.Machine.{Machine}
use Rattle.card.specs.Doors.{machine_of}
use Rattle.ground.specs.Choice.{every}
use Rattle.geometry.specs.Limits.{fits, total_of, current_for}
use Rattle.geometry.specs.Address.{by_lba, room_of, locate_lba, locate_chs, locate}
use Rattle.geometry.specs.Next.{next_chs, next_of}
use Rattle.maps.specs.Spaces.{card_answers, answers_at}
use Rattle.maps.specs.Offsets.{memory_at, contiguous_at, window_at, io_at, offset_at}
use Rattle.maps.specs.Places.{register_place, attribute_place, map_place, place_at}
use Rattle.maps.specs.Rows.{misfits, above_three}
use Rattle.sectors.specs.Marks.{readable, writable, marks_fit, bad_in, lowered}
use Rattle.sectors.specs.Sectors.{sector_of, with_sector, buffer_read, stored}
use Rattle.registers.specs.WellMade.{index_fits, sreset_fits, at_rest, status_fits, in_reset, hold_fits, words_fit, sectors_fit, load_fits, run_fits, bad_fits, well_made, block_fits, stride_fits, pace_fits, load_pace_fits, run_pace_fits}
use Rattle.registers.specs.Resets.{turn_of, option_turned, buffer_turned, control_turned}
use Rattle.registers.specs.Values.{value_read, after_read, register_set}
use Rattle.transfers.specs.Before.{address_test, sector_test, sector_stored}
use Rattle.transfers.specs.Steps.{sector_done, read_sector, next_read, ask_sector, next_asked}
use Rattle.port.specs.Halves.{take_of}
use Rattle.port.specs.Data.{word_read, data_read, word_written, data_written}
use Rattle.commands.specs.Table.{command_of, count_of, command_given}
use Rattle.card.specs.Access.{Asked, asked_with, held_away, meaning}
use Rattle.card.specs.Perform.{option_written, plain_core, register_written, perform}
use Rattle.card.specs.Step.{step, play}
use Rattle.card.specs.Opening.{opened}
use Rattle.registers.specs.PowerOn.{zeros}
use Rattle.maps.specs.declared.Register.TheVariants.{StatusCommand}
use Rattle.card.specs.declared.Meaning.TheVariants.{WriteRegister}
use Rattle.account.specs.CommandRows.{row_of}
use Rattle.account.specs.Table.{account}
use Rattle.account.specs.Host.{plain_of, hosted}
use Rattle.account.specs.Notes.{way_of, no_notes}
use Rattle.account.specs.Claim.{Agrees}
use Rattle.account.proofs.Theorem.{as_the_account}
use Rattle.hosts.proofs.Hypotheses.{moves, moves_true, bytes, typed, typed_true}

-- ---- a card of two sectors, the second of which can't be written

unfoldable pub two_sectors : Geometry
two_sectors = record { cylinders = 1; heads = 1; sectors = 2 }

unfoldable pub card : Machine
card = machine_of (opened two_sectors 0 (replicate 1024 0) (0 ∷ 2 ∷ []) (replicate 256 0xFF)).card (replicate 1024 0) (0 ∷ 2 ∷ [])

unfoldable pub write_access : ℕ → ℕ → ℕ → ℕ → Asked
write_access space width address value = asked_with (record { space = space; width = width; address = address; value = value; write = true }) (replicate 256 0xFF)

unfoldable pub times : ℕ → List Asked → List Asked
times zero l = []
times (suc n) l = l ++ times n l

-- all that both hosts compute with, crate by crate, under one name
unfoldable computing : Unit {0}
unfolding every fits total_of current_for locate locate_chs locate_lba by_lba room_of next_of next_chs
    answers_at card_answers place_at map_place attribute_place register_place misfits above_three offset_at memory_at io_at contiguous_at window_at
    stored with_sector sector_of buffer_read readable writable marks_fit bad_in lowered
    well_made run_fits load_fits sectors_fit words_fit hold_fits in_reset status_fits at_rest sreset_fits index_fits bad_fits block_fits block_size stride_fits pace_fits load_pace_fits run_pace_fits place_after
    value_read after_read register_set turn_of option_turned buffer_turned control_turned zeros
    read_sector next_read ask_sector next_asked sector_done sector_test address_test sector_stored
    count_of command_of command_given
    data_read data_written word_read word_written take_of
    opened play step meaning held_away perform option_written register_written plain_core
    moves typed bytes two_sectors card write_access times
computing = tt

-- E8H by memory at index 0; 128 words by bytes, the high one first, at 401H and 400H; index 1; 128 words by bytes, the high one first, at I/O 9 and 8
unfoldable pub command_e8 : Asked
command_e8 = write_access 1 1 0x007 0xE8

unfoldable pub two_maps : List Asked
two_maps =
    times 128 (write_access 1 1 0x401 0x22 ∷ write_access 1 1 0x400 0x11 ∷ [])
    ++ (write_access 0 1 0x200 0x01 ∷ times 128 (write_access 2 1 0x009 0x44 ∷ write_access 2 1 0x008 0x33 ∷ []))

unfoldable buffer_after : List ℕ
buffer_after = (play (step card command_e8).next two_maps).last.buffer

computed :
    (meaning card command_e8 ≡ WriteRegister StatusCommand 0xE8)
    × (in_reset card.state ≡ false)
    × (typed card ≡ true)
    × (moves (step card command_e8).next two_maps ≡ true)
    × (get_or buffer_after 0 0 ≡ 0x11)
    × (get_or buffer_after 1 0 ≡ 0x22)
    × (get_or buffer_after 510 0 ≡ 0x33)
    × (get_or buffer_after 511 0 ≡ 0x44)
unfolding computing command_e8 two_maps buffer_after
computed = (refl, refl, refl, refl, refl, refl, refl, refl)

pub two_maps_agree : Agrees (account (row_of 0xE8) (plain_of card)) (hosted (way_of (row_of 0xE8)) (step card command_e8).next no_notes two_maps)
two_maps_agree = as_the_account card command_e8 0xE8 two_maps computed.0 computed.1 (typed_true card computed.2) (moves_true two_maps (step card command_e8).next computed.3)

-- 30H for two sectors from LBA 0, word by word: the first is stored, the second is a write fault
unfoldable pub card_at_lba0 : Machine
card_at_lba0 = (play card (write_access 1 1 0x002 0x02 ∷ write_access 1 1 0x003 0x00 ∷ write_access 1 1 0x006 0x40 ∷ [])).last

unfoldable pub command30 : Asked
command30 = write_access 1 1 0x007 0x30

unfoldable pub all_words : List Asked
all_words = times 512 (write_access 1 2 0x000 0x4433 ∷ [])

unfoldable card_after : Machine
card_after = (play (step card_at_lba0 command30).next all_words).last

faulted :
    (meaning card_at_lba0 command30 ≡ WriteRegister StatusCommand 0x30)
    × (in_reset card_at_lba0.state ≡ false)
    × (typed card_at_lba0 ≡ true)
    × (moves (step card_at_lba0 command30).next all_words ≡ true)
    × (card_after.state.registers.status ≡ 0x71)
    × (card_after.state.registers.count ≡ 1)
    × (get_or card_after.store 511 0 ≡ 0x44)
    × (get_or card_after.store 512 0 ≡ 0)
unfolding computing card_at_lba0 command30 all_words card_after
faulted = (refl, refl, refl, refl, refl, refl, refl, refl)

pub fault_agrees : Agrees (account (row_of 0x30) (plain_of card_at_lba0)) (hosted (way_of (row_of 0x30)) (step card_at_lba0 command30).next no_notes all_words)
fault_agrees = as_the_account card_at_lba0 command30 0x30 all_words faulted.0 faulted.1 (typed_true card_at_lba0 faulted.2) (moves_true all_words (step card_at_lba0 command30).next faulted.3)
