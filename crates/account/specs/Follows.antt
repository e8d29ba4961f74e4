-- What the theorem over meanings and the statements after it speak of.
use Rattle.std.specs.Prelude.{ℕ, ◌+◌, ◌*◌, ◌≤◌, ◌<◌, Bool, true, false, ◌≡◌, ◌⊎◌, List, length, get_or}
use Rattle.maps.specs.declared.Register.TheVariants.{StatusCommand}
use Rattle.registers.specs.Machine.{Machine}
use Rattle.registers.specs.WellMade.{in_reset}
use Rattle.card.specs.declared.Meaning.{Meaning}
use Rattle.card.specs.declared.Meaning.TheVariants.{WriteRegister}
use Rattle.card.specs.Access.{Asked, meaning}
use Rattle.card.specs.Perform.{perform}
use Rattle.card.specs.Step.{step}
use Rattle.kept.specs.Sound.{Sound}
use Rattle.account.specs.Numbers.{status_idle}
use Rattle.account.specs.Plain.{Plain, bytes_per_sector}
use Rattle.account.specs.Addressed.{Addressed, At, Bad}
use Rattle.account.specs.CommandRows.{CommandRow, Reads, Writes, Verifies, Erases, Identifies, ReadsBuffer, WritesBuffer, SetsGeometry, Diagnoses, Recalibrates, Seeks, Senses, SetsMultiple, ReadsMultiple, WritesMultiple, Others, row_of}
use Rattle.account.specs.Host.{Hosted, hosted_by, hosted}
use Rattle.account.specs.Notes.{no_notes, way_of}
use Rattle.account.specs.Claim.{Typed}

-- a card to which a command can be given: well made, all that is lent of its size, and in neither reset
pub record Able (m : Machine) : Type 0 where
  pub sound : Sound m
  pub free : in_reset m.state ≡ false
  pub typed : Typed m

-- the command given, and the host after it, by what its accesses mean
abbrev pub commanded : ℕ → Machine → Machine
commanded v m = (perform (WriteRegister StatusCommand v) m).next

abbrev pub after_by : Machine → ℕ → List Meaning → Hosted
after_by m v l = hosted_by (way_of (row_of v)) (commanded v m) no_notes l

-- a Command write that the theorem speaks of
pub record AcceptedCommand (m : Machine) (a : Asked) (v : ℕ) : Type 0 where
  pub accepted : meaning m a ≡ WriteRegister StatusCommand v
  pub free : in_reset m.state ≡ false
  pub typed : Typed m

-- the host after it
abbrev pub after : Machine → Asked → ℕ → List Asked → Hosted
after m a v l = hosted (way_of (row_of v)) (step m a).next no_notes l

-- a row without data needs no host
abbrev pub dataless : CommandRow → Bool
dataless Reads = false
dataless Writes = false
dataless Verifies = true
dataless Erases = true
dataless Identifies = false
dataless ReadsBuffer = false
dataless WritesBuffer = false
dataless SetsGeometry = true
dataless Diagnoses = true
dataless Recalibrates = true
dataless Seeks = true
dataless Senses = true
dataless SetsMultiple = true
dataless ReadsMultiple = false
dataless WritesMultiple = false
dataless Others = true

-- as long, and the same below one place and from another one on
abbrev pub SameOutside : ℕ → ℕ → List ℕ → List ℕ → Type 0
SameOutside low high s t = ((k : ℕ) → k < low → get_or t k 0 ≡ get_or s k 0) × ((k : ℕ) → high ≤ k → get_or t k 0 ≡ get_or s k 0) × (length t ≡ length s)

-- the store and the marks are as long as before, and the same outside n sectors from the first one; with no first sector, all the same
abbrev pub OnlyNamed : Addressed → ℕ → Plain → Plain → Type 0
OnlyNamed (At i) n p q = SameOutside (bytes_per_sector * i) (bytes_per_sector * (i + n)) p.store q.store × SameOutside i (i + n) p.marks q.marks
OnlyNamed (Bad code) n p q = (q.store ≡ p.store) × (q.marks ≡ p.marks)

-- a command has ended with this Status, Error and code; and a run of Verify or Erase well, with no sector left, or so, at a mark
abbrev pub EndedWith : ℕ → ℕ → ℕ → Plain → Type 0
EndedWith status error code p = (p.registers.status ≡ status) × (p.registers.error ≡ error) × (p.code ≡ code)

abbrev pub RunEnded : ℕ → ℕ → ℕ → Plain → Type 0
RunEnded status error code p = (EndedWith status_idle 0 0 p × (p.registers.count ≡ 0)) ⊎ EndedWith status error code p
