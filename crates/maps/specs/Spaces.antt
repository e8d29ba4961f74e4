-- 01, "Answers", row 7: does a space answer? Spaces: 0 attribute, 1 memory, 2 I/O, 3 True IDE.
use Rattle.std.specs.Prelude.{ℕ, eqb, Bool, true, false, [], ◌∷◌}
use Rattle.ground.specs.Choice.{within}
use Rattle.ground.specs.Tables.{Numbered, lookup}
use Rattle.maps.specs.declared.Mode.{Mode}
use Rattle.maps.specs.declared.Mode.TheVariants.{PcCard, TrueIde}

-- I/O only at 1..3
abbrev pub io_answers : ℕ → Bool
io_answers index = within 1 3 index

-- attribute, memory and I/O only in mode 0, memory only at index 0
unfoldable pub card_answers : ℕ → ℕ → Bool
card_answers space index =
    lookup
    (Numbered.At 0 true
    ∷ Numbered.At 1 (eqb index 0)
    ∷ Numbered.At 2 (io_answers index)
    ∷ [])
    space false

-- True IDE space only in mode 1, no other space ever
unfoldable pub answers_at : ℕ → Mode → ℕ → Bool
answers_at space PcCard index = card_answers space index
answers_at space TrueIde index = eqb space 3
