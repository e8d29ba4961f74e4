-- 02, "One": Set Multiple (C6H), Read Multiple (C4H) and Write Multiple (C5H).
use Rattle.std.specs.Prelude.{ℕ, eqb}
use Rattle.ground.specs.Choice.{pick}
use Rattle.registers.specs.declared.State.{State}
use Rattle.registers.specs.declared.Core.{Core}
use Rattle.registers.specs.Blocks.{block_size, no_block, pace_from}
use Rattle.registers.specs.State.{with_block}
use Rattle.registers.specs.Machine.{Machine, with_core}
use Rattle.transfers.specs.declared.End.TheVariants.{Good, NoSuchCommand}
use Rattle.transfers.specs.declared.Order.TheVariants.{First}
use Rattle.transfers.specs.Ends.{ended}
use Rattle.transfers.specs.Steps.{read_sector, ask_sector}

-- C6H: "takes a block of 1, 2, 4, 8 or 16 sectors; other counts, 0 included, give ABRT with 20H and keep the old block": they end as 01's "others" do
unfoldable pub block_set : State → Core
block_set s = pick (block_size s.registers.count) (ended Good (with_block s.registers.count s)) (ended NoSuchCommand s)

-- "and C4H and C5H before the first good C6H give the same"; after it n sectors "are those of 20H and 30H", a block of them from mark to mark
unfoldable pub blocks_read : ℕ → Machine → Machine
blocks_read n m = pick (eqb m.state.block no_block) (with_core (ended NoSuchCommand m.state) m) (read_sector n (pace_from m.state.block) m)

unfoldable pub blocks_asked : ℕ → State → Core
blocks_asked n s = pick (eqb s.block no_block) (ended NoSuchCommand s) (ask_sector n (pace_from s.block) First s)
