-- How a sample is written: the accesses of a host, each with its answer's number and its value, and where it matters the interrupt line.
use Rattle.std.specs.Prelude.{ℕ, ◌+◌, ◌*◌, ◌/◌, ◌%◌, Bool, true, false, not, ◌&&◌, List, [], ◌∷◌, replicate, eqb}
use Rattle.answers.specs.Answers.{outcome_number, outcome_value}
use Rattle.geometry.specs.declared.Geometry.{Geometry}
use Rattle.registers.specs.State.{line_of}
use Rattle.registers.specs.Machine.{Machine}
use Rattle.port.specs.Data.{Effect}
use Rattle.card.specs.Access.{Asked, asked_with}
use Rattle.card.specs.Opening.{opened}
use Rattle.card.specs.Doors.{machine_of}
use Rattle.ground.specs.Lists.{listed}
use Rattle.ground.specs.Sizes.{sector_bytes, tuple_buffer_bytes}

-- "Each answer says if the line is up": what it must say, or that a sample asks nothing of it
pub data Level : Type 0 where
  Either : Level
  Up : Level
  Down : Level

abbrev pub level_fits : Level → Bool → Bool
level_fits Either up = true
level_fits Up up = up
level_fits Down up = not up

-- an access, and what it must answer
pub record Line : Type 0 where
  pub access : Asked
  pub number : ℕ
  pub value : ℕ
  pub level : Level

-- "C 4, H 2, S 4, N 32"
abbrev pub geometry : Geometry
geometry = record { cylinders = 4; heads = 2; sectors = 4 }

abbrev pub total : ℕ
total = 32

-- a store whose sectors differ: byte j of sector i is i + j, in eight bits
abbrev pub byte_in : ℕ → ℕ → ℕ
byte_in i j = (i + j) % 256

unfoldable pub store : List ℕ
store = listed (λ n. byte_in (n / sector_bytes) (n % sector_bytes)) 0 (sector_bytes * total)

-- the words of sector i, low byte first
abbrev pub word_in : ℕ → ℕ → ℕ
word_in i k = byte_in i (2 * k) + 256 * byte_in i (2 * k + 1)

unfoldable pub marks : List ℕ
marks = replicate total 0

unfoldable pub tuples : List ℕ
tuples = replicate tuple_buffer_bytes 0xFF

-- "Mode: 0 PC Card, 1 True IDE."
unfoldable pub opening : ℕ → Machine
opening mode = machine_of (opened geometry mode store marks tuples).card store marks

abbrev pub reads : ℕ → ℕ → ℕ → ℕ → Line
reads space width address value = record {
  access = asked_with (record { space = space; width = width; address = address; value = 0; write = false }) tuples;
  number = 0;
  value = value;
  level = Either;
}

abbrev pub writes : ℕ → ℕ → ℕ → ℕ → Line
writes space width address value = record {
  access = asked_with (record { space = space; width = width; address = address; value = value; write = true }) tuples;
  number = 0;
  value = 0;
  level = Either;
}

-- the same, and the interrupt line is up then, or down
abbrev pub leaves_up : Line → Line
leaves_up l = record { access = l.access; number = l.number; value = l.value; level = Up }

abbrev pub leaves_down : Line → Line
leaves_down l = record { access = l.access; number = l.number; value = l.value; level = Down }

-- do the answers of a machine agree with the lines?
unfoldable pub agrees : (Machine → Asked → Effect) → Machine → List Line → Bool
agrees turn m [] = true
agrees turn m (l ∷ more) =
    let s = turn m l.access in
    let rest = agrees turn s.next more in
    eqb (outcome_number s.outcome) l.number && (eqb (outcome_value s.outcome) l.value && (level_fits l.level (line_of s.next.state) && rest))
