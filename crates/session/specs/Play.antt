-- 01, "Session file": a whole file, and everything that is printed of it.
use Rattle.std.specs.Prelude.{ℕ, ◌*◌, List, [], ◌∷◌, ◌++◌, length, replicate, ◌==◌, nat_lt, Result, Ok, Err}
use Rattle.ground.specs.Rows.{Row, When, first_of, first_or}
use Rattle.ground.specs.Sizes.{sector_bytes, tuple_buffer_bytes}
use Rattle.answers.specs.declared.Refusal.TheVariants.{GeometryOrMode, SessionBroken}
use Rattle.answers.specs.Answers.{number_of, Outcome}
use Rattle.geometry.specs.declared.Geometry.{Geometry}
use Rattle.geometry.specs.Limits.{capacity_of}
use Rattle.card.specs.declared.Card.{Card}
use Rattle.card.specs.Doors.{machine_of}
use Rattle.card.specs.Opening.{opened}
use Rattle.records.specs.declared.Break.{Break}
use Rattle.records.specs.declared.Break.TheVariants.{Empty, TooLong}
use Rattle.records.specs.declared.Sizes.{Sizes}
use Rattle.session.specs.declared.Failure.TheVariants.{Broken, Unopened}
use Rattle.records.specs.Record.{opening_length, first_record}
use Rattle.text.specs.Lines.{header}
use Rattle.text.specs.Output.{Output, put_at_start}
use Rattle.session.specs.Run.{Ending, script_from, end_text, Session, result_of, printed_in}

-- "`cardrun` reads at most 32,768 bytes …, N at most 32"
abbrev pub longest_file : ℕ
longest_file = 32768

abbrev pub most_sectors : ℕ
most_sectors = 32

-- "store and marks zero, tuples FFH"
unfoldable pub zero_bytes : ℕ → List ℕ
zero_bytes n = replicate n 0

unfoldable pub no_tuples : List ℕ
no_tuples = replicate tuple_buffer_bytes 0xFF

-- a file's first byte has the place 0; "its number from 1"
abbrev pub file_start : ℕ
file_start = 0

abbrev pub first_number : ℕ
first_number = 1

abbrev pub stopped : ℕ → Ending → Session (List ℕ)
stopped place end = record { place = place; done = 0; end = end; text = end_text end place }

-- "Broken: empty (place 0)"; "A longer file runs nothing and is broken at 32768"
abbrev pub file_breaks : ℕ → List (Row (Session (List ℕ)))
file_breaks size = When (size == 0) (stopped file_start (Err (Broken Empty))) ∷ When (nat_lt longest_file size) (stopped longest_file (Err (Broken TooLong))) ∷ []

-- "A refused opening prints `open` and the number, and stops"; else the accesses after it, from 1
abbrev pub opens_as : Outcome → Card → List ℕ → List ℕ → List ℕ → List ℕ → Session (List ℕ)
opens_as (Ok value) c file store marks tuples =
    (result_of file_start first_number (machine_of c store marks) (script_from (length file) file tuples opening_length)).session
opens_as (Err r) c file store marks tuples = stopped file_start (Err (Unopened r))

abbrev pub geometry_of : Sizes → Geometry
geometry_of s = record { cylinders = s.cylinders; heads = s.heads; sectors = s.sectors }

unfoldable pub opened_on : Sizes → List ℕ → List ℕ → List ℕ → List ℕ → Session (List ℕ)
opened_on s file store marks tuples =
    opens_as (opened (geometry_of s) s.mode store marks tuples).outcome (opened (geometry_of s) s.mode store marks tuples).card file store marks tuples

-- "N above 32 counts as refusal 1"
unfoldable pub opening : Sizes → List ℕ → Session (List ℕ)
opening s file =
    let total = capacity_of (geometry_of s) in
    first_of (When (nat_lt most_sectors total) GeometryOrMode ∷ []) (λ r. stopped file_start (Err (Unopened r)))
    (opened_on s file (zero_bytes (sector_bytes * total)) (zero_bytes total) no_tuples)

abbrev pub by_first : Result Sizes Break → List ℕ → Session (List ℕ)
by_first (Ok s) file = opening s file
by_first (Err why) file = stopped file_start (Err (Broken why))

-- the whole: broken as a file, or by its first record
unfoldable pub session_of : List ℕ → Session (List ℕ)
session_of file = first_or (file_breaks (length file)) (by_first (first_record file) file)

-- "It prints a header always"
abbrev pub print_of : List ℕ → List ℕ
print_of file = header ++ (session_of file).text

-- of an output from its start, with the header
abbrev pub printed : List ℕ → List ℕ → Session Output
printed bytes file = printed_in (put_at_start bytes (print_of file)) (session_of file)

-- each ending has the number of 01's table: 17 is a broken file's
abbrev pub end_number : Ending → ℕ
end_number (Ok u) = 0
end_number (Err (Broken why)) = number_of SessionBroken
end_number (Err (Unopened r)) = number_of r
