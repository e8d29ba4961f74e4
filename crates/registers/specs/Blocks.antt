-- 02, "One": blocks of several sectors.
use Rattle.std.specs.Prelude.{ℕ, ◌+◌, Bool, true, [], ◌∷◌, eqb, ltb}
use Rattle.ground.specs.Choice.{pick}
use Rattle.ground.specs.Rows.{When, first_or}
use Rattle.registers.specs.declared.Pace.{Pace}

-- "a block of 1, 2, 4, 8 or 16 sectors"
unfoldable pub block_size : ℕ → Bool
block_size n = first_or (When (eqb n 1) true ∷ When (eqb n 2) true ∷ When (eqb n 4) true ∷ When (eqb n 8) true ∷ []) (eqb n 16)

-- what a card has before the first good C6H
abbrev pub no_block : ℕ
no_block = 0

-- 01's commands set the interrupt mark at each sector
abbrev pub single_stride : ℕ
single_stride = 1

-- the pace of a command's first sector
abbrev pub pace_from : ℕ → Pace
pace_from stride = record { stride = stride; place = 0 }

abbrev pub single : Pace
single = pace_from single_stride

-- of its next sector: the block goes on, or it was its last one
unfoldable pub place_after : ℕ → ℕ → ℕ
place_after stride place = pick (ltb (place + 1) stride) (place + 1) 0

abbrev pub pace_after : Pace → Pace
pace_after k = record { stride = k.stride; place = place_after k.stride k.place }
