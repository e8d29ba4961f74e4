-- All that a sample computes with, crate by crate, under one name: to unfold `computing` is to unfold all that it names.
use Rattle.ground.specs.Choice.{every}
use Rattle.geometry.specs.Limits.{fits, total_of, current_for}
use Rattle.geometry.specs.Address.{by_lba, room_of, locate_lba, locate_chs, locate, seek}
use Rattle.geometry.specs.Next.{next_chs, next_of}
use Rattle.geometry.specs.Shape.{reshaped}
use Rattle.maps.specs.Spaces.{card_answers, answers_at}
use Rattle.maps.specs.Offsets.{memory_at, window_at, io_at, offset_at}
use Rattle.maps.specs.Places.{register_place, attribute_place, map_place, place_at}
use Rattle.maps.specs.Rows.{misfits, above_three}
use Rattle.sectors.specs.Marks.{readable, writable, marks_fit, bad_in, lowered}
use Rattle.sectors.specs.Sectors.{sector_of, with_sector, buffer_read, stored}
use Rattle.identify.specs.Integrity.{sum_of, integrity_high, giving_zero, with_integrity}
use Rattle.identify.specs.Words.{identify_word, identify_byte, told_bytes, identify_bytes}
use Rattle.registers.specs.Blocks.{block_size, place_after}
use Rattle.registers.specs.WellMade.{index_fits, sreset_fits, at_rest, status_fits, in_reset, hold_fits, words_fit, sectors_fit, load_fits, run_fits, bad_fits, well_made, block_fits, stride_fits, pace_fits, load_pace_fits, run_pace_fits}
use Rattle.registers.specs.Resets.{turn_of, option_turned, buffer_turned, control_turned}
use Rattle.registers.specs.Values.{value_read, after_read, register_set}
use Rattle.transfers.specs.Before.{address_test, past_end, sector_test, sector_stored}
use Rattle.transfers.specs.Steps.{sector_done, read_sector, next_read, ask_sector, next_asked}
use Rattle.commands.specs.Blocks.{block_set, blocks_read, blocks_asked}
use Rattle.commands.specs.Sweeps.{verify_from, verify_run, erase_from, erase_run, all_ff}
use Rattle.port.specs.Halves.{take_of}
use Rattle.port.specs.Data.{word_read, data_read, word_written, data_written}
use Rattle.commands.specs.Table.{command_of, count_of, command_given}
use Rattle.card.specs.Access.{held_away, meaning}
use Rattle.card.specs.Perform.{option_written, plain_core, register_written, perform}
use Rattle.card.specs.Step.{step}
use Rattle.card.specs.Opening.{opened}
use Rattle.registers.specs.PowerOn.{zeros}
use Rattle.tuples.specs.Chain.{chain_from}
use Rattle.tuples.specs.Read.{read_outcome}
use Rattle.ground.specs.Lists.{listed}
use Rattle.samples.specs.Lines.{store, marks, tuples, opening, agrees}
use Rattle.samples.specs.Parts.{sector}
use Rattle.samples.specs.List.{sample1, sample2, sample3, sample4, sample5, sample6, sample7, sample8, sample9, sample10, sample11, sample12, sample13, samples, identified, word_lines}
use Rattle.samples.specs.Passes.{reader, same_entries, reads_as, holds_of, all_of, passes}

unfoldable pub computing : Unit {0}
unfolding every fits total_of current_for locate locate_chs locate_lba by_lba room_of seek reshaped next_of next_chs
    answers_at card_answers place_at map_place attribute_place register_place misfits above_three offset_at memory_at io_at window_at
    well_made run_fits load_fits sectors_fit words_fit hold_fits in_reset status_fits at_rest sreset_fits index_fits bad_fits block_fits block_size stride_fits pace_fits load_pace_fits run_pace_fits place_after
    block_set blocks_read blocks_asked
    value_read after_read register_set turn_of option_turned buffer_turned control_turned zeros
    stored with_sector sector_of buffer_read readable writable marks_fit bad_in lowered
    read_sector next_read ask_sector next_asked sector_done sector_test past_end address_test sector_stored
    count_of command_of command_given verify_run verify_from erase_run erase_from all_ff
    identify_bytes told_bytes identify_byte identify_word with_integrity giving_zero integrity_high sum_of
    data_read data_written word_read word_written take_of
    opened step meaning held_away perform option_written register_written plain_core
    reader read_outcome chain_from
    samples sample1 sample2 sample3 sample4 sample5 sample6 sample7 sample8 sample9 sample10 sample11 sample12 sample13 identified word_lines
    passes all_of holds_of agrees reads_as same_entries opening store marks tuples sector listed
computing = tt
