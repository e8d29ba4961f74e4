-- 01, "What is lent": "A card value is well made if: …". Each condition is a test of its own, in 01's order.
use Rattle.std.specs.Prelude.{ℕ, ◌%◌, Bool, true, false, not, [], ◌∷◌, leb, ltb, eqb}
use Rattle.ground.specs.Choice.{pick, every}
use Rattle.ground.specs.Rows.{When, first_or}
use Rattle.ground.specs.Sizes.{last_word, most_count}
use Rattle.geometry.specs.Limits.{fits, current_for}
use Rattle.geometry.specs.Address.{valid_address}
use Rattle.maps.specs.declared.Mode.{Mode}
use Rattle.maps.specs.declared.Mode.TheVariants.{PcCard, TrueIde}
use Rattle.registers.specs.declared.Pace.{Pace}
use Rattle.registers.specs.declared.Load.{Load}
use Rattle.registers.specs.declared.Load.TheVariants.{Sectors, Buffer}
use Rattle.registers.specs.declared.Phase.{Phase}
use Rattle.registers.specs.declared.Phase.TheVariants.{Idle, DataIn, DataOut}
use Rattle.registers.specs.declared.State.{State}
use Rattle.registers.specs.Status.{idle_status, data_status, error_status, fault_status}
use Rattle.registers.specs.Blocks.{no_block, single_stride, block_size}
use Rattle.registers.specs.State.{sreset_in, index_in, total_in, located_in}

-- the map index is 0..3
unfoldable pub index_fits : ℕ → Bool
index_fits option = leb (index_in option) 3

-- SRESET is not set in mode 1
unfoldable pub sreset_fits : Mode → ℕ → Bool
sreset_fits PcCard option = true
sreset_fits TrueIde option = not (sreset_in option)

-- Status is 58H exactly while a transfer runs, else 50H, 51H or 71H
unfoldable pub at_rest : ℕ → Bool
at_rest status = first_or (When (eqb status idle_status) true ∷ When (eqb status error_status) true ∷ []) (eqb status fault_status)

unfoldable pub status_fits : Phase → ℕ → Bool
status_fits Idle status = at_rest status
status_fits (DataIn t) status = eqb status data_status
status_fits (DataOut t) status = eqb status data_status

-- no transfer runs in a held reset
unfoldable pub in_reset : State → Bool
in_reset s = pick (sreset_in s.option) true s.control.held

unfoldable pub hold_fits : Phase → Bool → Bool
hold_fits Idle reset = true
hold_fits (DataIn t) reset = not reset
hold_fits (DataOut t) reset = not reset

-- words already moved are 0..255: fewer than a sector's, so no more than the number of its last word
unfoldable pub words_fit : Phase → Bool
words_fit Idle = true
words_fit (DataIn t) = leb t.words last_word
words_fit (DataOut t) = leb t.words last_word

-- a running sector transfer has a valid address in its registers and 1..256 sectors left, agreeing with Sector Count modulo 256
unfoldable pub sectors_fit : ℕ → State → Bool
sectors_fit left s =
    every
    (valid_address (located_in s)
    ∷ leb 1 left
    ∷ leb left most_count
    ∷ eqb (left % 256) s.registers.count
    ∷ [])

unfoldable pub load_fits : Load → State → Bool
load_fits Buffer s = true
load_fits (Sectors left pace) s = sectors_fit left s

unfoldable pub run_fits : Phase → State → Bool
run_fits Idle s = true
run_fits (DataIn t) s = load_fits t.load s
run_fits (DataOut t) s = load_fits t.load s

-- 02, "Eight": "Well-made cards now need it to be at most N"
unfoldable pub bad_fits : ℕ → ℕ → Bool
bad_fits bad total = leb bad total

-- 02, "One": "Well-made cards have none or one of these …"
unfoldable pub block_fits : ℕ → Bool
block_fits block = pick (eqb block no_block) true (block_size block)

-- "… and one while C4H or C5H runs": the stride is the block then, and 1 while 20H or 30H runs
unfoldable pub stride_fits : ℕ → ℕ → Bool
stride_fits stride block = pick (eqb stride single_stride) true (eqb stride block)

-- "with fewer sectors of the running block moved than that"
unfoldable pub pace_fits : Pace → ℕ → Bool
pace_fits pace block = pick (stride_fits pace.stride block) (ltb pace.place pace.stride) false

unfoldable pub load_pace_fits : Load → ℕ → Bool
load_pace_fits Buffer block = true
load_pace_fits (Sectors left pace) block = pace_fits pace block

unfoldable pub run_pace_fits : Phase → ℕ → Bool
run_pace_fits Idle block = true
run_pace_fits (DataIn t) block = load_pace_fits t.load block
run_pace_fits (DataOut t) block = load_pace_fits t.load block

-- "its geometry fits the limits; the current H is 1..16 and S 1..255 with current C = N div (H·S), at least 1"; then the conditions above
unfoldable pub well_made : Phase → State → Bool
well_made p s =
    every
    (fits s.made.default
    ∷ current_for s.current (total_in s)
    ∷ index_fits s.option
    ∷ sreset_fits s.made.mode s.option
    ∷ status_fits p s.registers.status
    ∷ hold_fits p (in_reset s)
    ∷ words_fit p
    ∷ run_fits p s
    ∷ bad_fits s.bad (total_in s)
    ∷ block_fits s.block
    ∷ run_pace_fits p s.block
    ∷ [])
