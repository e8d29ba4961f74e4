-- The opening: refusals 1, 2, 3, 5, 4 in this order; else power-on, with the marks counted.
use Rattle.std.specs.Prelude.{ℕ, ◌*◌, false, ◌&&◌, List, [], ◌∷◌, eqb, leb, length, Ok}
use Rattle.ground.specs.Choice.{pick}
use Rattle.ground.specs.Sizes.{sector_bytes, tuple_buffer_bytes}
use Rattle.answers.specs.declared.Refusal.{Refusal}
use Rattle.answers.specs.declared.Refusal.TheVariants.{GeometryOrMode, StoreLength, MarksLength, TupleBufferLength, MarkAboveTwo}
use Rattle.ground.specs.Rows.{Row, Unless, first_of}
use Rattle.geometry.specs.declared.Geometry.{Geometry}
use Rattle.geometry.specs.Limits.{fits, total_of}
use Rattle.maps.specs.declared.Mode.{Mode}
use Rattle.maps.specs.declared.Mode.TheVariants.{PcCard, TrueIde}
use Rattle.sectors.specs.Marks.{marks_fit, bad_in}
use Rattle.registers.specs.declared.Phase.TheVariants.{Idle}
use Rattle.registers.specs.declared.State.{State}
use Rattle.registers.specs.PowerOn.{power_on, zeros}
use Rattle.card.specs.declared.Card.{Card}
use Rattle.card.specs.declared.Answer.{Answer}
use Rattle.card.specs.Doors.{answer, refused_by}

-- "Mode: 0 PC Card, 1 True IDE."
abbrev pub mode_of : ℕ → Mode
mode_of mode = pick (eqb mode 0) PcCard TrueIde

-- "a refused opening gives the all-zero card"
abbrev pub no_geometry : Geometry
no_geometry = record { cylinders = 0; heads = 0; sectors = 0 }

abbrev pub zero_state : State
zero_state = record {
  made = record { mode = PcCard; default = no_geometry };
  current = no_geometry;
  registers = record { status = 0; error = 0; count = 0; address = record { sector = 0; low = 0; high = 0; head = 0 } };
  option = 0;
  control = record { held = false; masked = false };
  interrupt = false;
  code = 0;
  bad = 0;
  block = 0;
}

abbrev pub zero_card : Card
zero_card = record { phase = Idle; state = zero_state; buffer = zeros }

abbrev pub open_refused : Refusal → Answer
open_refused r = refused_by zero_card r

-- power-on: index 0, buffer zeros; 02, "Eight": with the number of marks that are not 0
abbrev pub powered : Geometry → Mode → ℕ → Card
powered g mode bad = record { phase = Idle; state = power_on (record { mode = mode; default = g }) bad 0; buffer = zeros }

-- rows 1, 2, 3, 5, 4
abbrev pub opening_table : Geometry → ℕ → List ℕ → List ℕ → List ℕ → List (Row Refusal)
opening_table g mode store marks tuples =
    Unless (fits g && leb mode 1) GeometryOrMode
    ∷ Unless (eqb (length store) (sector_bytes * total_of g)) StoreLength
    ∷ Unless (eqb (length marks) (total_of g)) MarksLength
    ∷ Unless (eqb (length tuples) tuple_buffer_bytes) TupleBufferLength
    ∷ Unless (marks_fit marks) MarkAboveTwo
    ∷ []

unfoldable pub opened : Geometry → ℕ → List ℕ → List ℕ → List ℕ → Answer
opened g mode store marks tuples =
    first_of (opening_table g mode store marks tuples) open_refused
    (answer (Ok 0) (powered g (mode_of mode) (bad_in marks)))
