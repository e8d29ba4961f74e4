-- 01, "Answers": the rows of an access and of the two resets' methods, each with its test in 01's words.
-- They share with the card's own definitions what is well made, N, the bits of the option, the offset that a map gives to an address, and `ground`'s
-- tables and ranges; the numbers stand here anew.
use Rattle.std.specs.Prelude.{ℕ, ◌*◌, ◌%◌, Bool, true, false, not, ◌&&◌, ◌||◌, List, [], ◌∷◌, eqb, leb, ltb, length, Some, None}
use Rattle.ground.specs.Choice.{pick, within}
use Rattle.ground.specs.Tables.{Numbered, lookup}
use Rattle.answers.specs.declared.Refusal.TheVariants.{NotWellMade, StoreLength, MarksLength, TupleBufferLength, HeldBySreset, SpaceSilent, NoRegister, WidthOrValue, IndexAboveThree, HalfMoved}
use Rattle.ground.specs.Rows.{Row, When, Unless}
use Rattle.answers.specs.declared.Refusal.{Refusal}
use Rattle.maps.specs.declared.Mode.{Mode}
use Rattle.maps.specs.declared.Mode.TheVariants.{PcCard, TrueIde}
use Rattle.maps.specs.Offsets.{Offset, offset_at}
use Rattle.registers.specs.declared.Half.{Half}
use Rattle.registers.specs.declared.Phase.{Phase}
use Rattle.registers.specs.declared.Phase.TheVariants.{Idle, DataIn, DataOut}
use Rattle.registers.specs.State.{sreset_in, index_in, total_in}
use Rattle.registers.specs.Machine.{Machine}
use Rattle.registers.specs.WellMade.{well_made}
use Rattle.card.specs.declared.Card.{Card}
use Rattle.card.specs.Access.{Asked}

-- ---- where an access goes

-- "Attribute: even 000H..1FEH are tuple bytes 0..255 (read only); 200H the Configuration Option Register."
abbrev pub at_tuples : ℕ → ℕ → Bool
at_tuples space address = eqb space 0 && leb address 0x1FE && eqb (address % 2) 0

abbrev pub at_option : ℕ → ℕ → Bool
at_option space address = eqb space 0 && eqb address 0x200

-- the address has one of these offsets
abbrev pub among : ℕ → List ℕ → Bool
among n [] = false
among n (x ∷ l) = pick (eqb n x) true (among n l)

abbrev pub offset_in : List ℕ → Offset → Bool
offset_in l (Some offset) = among offset l
offset_in l None = false

-- "Offsets: 0, 8, 9 data; 1 and D Error/Feature; 2 Sector Count; 3 Sector Number; 4, 5 Cylinder; 6 Drive/Head; 7 Status/Command; E …; F …"
abbrev pub register_offsets : List ℕ
register_offsets = 0 ∷ 8 ∷ 9 ∷ 1 ∷ 0xD ∷ 2 ∷ 3 ∷ 4 ∷ 5 ∷ 6 ∷ 7 ∷ 0xE ∷ 0xF ∷ []

abbrev pub at_even_data : Offset → Bool
at_even_data o = offset_in (0 ∷ 8 ∷ []) o

abbrev pub at_odd_data : Offset → Bool
at_odd_data o = offset_in (9 ∷ []) o

-- ---- the tests

-- 7: "attribute, memory and I/O only in mode 0, memory only at index 0, I/O only at 1..3, True IDE space only in mode 1, no other space ever"
abbrev pub mode0 : Mode → Bool
mode0 PcCard = true
mode0 TrueIde = false

abbrev pub answering : ℕ → Mode → ℕ → Bool
answering space mode index =
    lookup
    (Numbered.At 0 (mode0 mode)
    ∷ Numbered.At 1 (mode0 mode && eqb index 0)
    ∷ Numbered.At 2 (mode0 mode && within 1 3 index)
    ∷ Numbered.At 3 (not (mode0 mode))
    ∷ [])
    space false

-- 6: "no register there, or a write to the tuples"
abbrev pub no_register : ℕ → ℕ → Offset → Bool → Bool
no_register space address o write =
    not (at_tuples space address || at_option space address || offset_in register_offsets o)
    || (at_tuples space address && write)

-- 9: "width not 1 or 2; a word anywhere but an even data address; a byte write above 255"
abbrev pub unfit : Bool → ℕ → Bool → ℕ → Bool
unfit even width write value =
    not (eqb width 1 || eqb width 2)
    || (eqb width 2 && not even)
    || (eqb width 1 && write && ltb 255 value)

-- 10: "Configuration Option write with index above 3"
abbrev pub index_above : Bool → ℕ → Bool
index_above write value = write && ltb 3 (index_in value)

-- 11: "given only for an access in the running transfer's direction"; Device Control's reset ends a transfer
abbrev pub half_in : Phase → Bool → Half
half_in Idle write = Half.Nothing
half_in (DataIn t) write = pick write Half.Nothing t.half
half_in (DataOut t) write = pick write t.half Half.Nothing

abbrev pub moved_so_far : Machine → Bool → Half
moved_so_far m write = pick m.state.control.held Half.Nothing (half_in m.phase write)

abbrev pub high_moved : Half → Bool
high_moved Half.Nothing = false
high_moved Half.Low = false
high_moved Half.High = true

abbrev pub one_moved : Half → Bool
one_moved Half.Nothing = false
one_moved Half.Low = true
one_moved Half.High = true

-- "the half word asked for is already moved, or a word is asked for with one half moved"; a byte at 0 or 8 asks for the half that is left
abbrev pub half_gone : Offset → ℕ → Half → Bool
half_gone o width half = (at_odd_data o && high_moved half) || (at_even_data o && eqb width 2 && one_moved half)

-- ---- the tables; the opening's is in OpeningRows.antt

abbrev pub access_rows : Machine → Asked → List (Row Refusal)
access_rows m a =
    let x = a.access in
    let index = index_in m.state.option in
    let o = offset_at x.space index x.address in
    Unless (well_made m.phase m.state) NotWellMade
    ∷ Unless (eqb (length m.store) (512 * total_in m.state)) StoreLength
    ∷ Unless (eqb (length m.marks) (total_in m.state)) MarksLength
    ∷ Unless (eqb (length a.tuples) 256) TupleBufferLength
    ∷ When (sreset_in m.state.option && not (at_option x.space x.address)) HeldBySreset
    ∷ Unless (answering x.space m.state.made.mode index) SpaceSilent
    ∷ When (no_register x.space x.address o x.write) NoRegister
    ∷ When (unfit (at_even_data o) x.width x.write x.value) WidthOrValue
    ∷ When (at_option x.space x.address && index_above x.write x.value) IndexAboveThree
    ∷ When (half_gone o x.width (moved_so_far m x.write)) HalfMoved
    ∷ []

-- the option as a method: a byte write to attribute 200H
abbrev pub option_rows : ℕ → Card → List (Row Refusal)
option_rows v c =
    Unless (well_made c.phase c.state) NotWellMade
    ∷ Unless (mode0 c.state.made.mode) SpaceSilent
    ∷ Unless (leb (index_in v) 3) IndexAboveThree
    ∷ []

-- Device Control as a method
abbrev pub control_rows : Card → List (Row Refusal)
control_rows c =
    Unless (well_made c.phase c.state) NotWellMade
    ∷ When (sreset_in c.state.option) HeldBySreset
    ∷ []
