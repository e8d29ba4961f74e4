-- How much every host has moved at the end; and a read gives the account's data.
use Prim.Native.Nat.{ℕ, ◌<◌}
use mathlib.Core.Bool.{true≢false}
use mathlib.Core.Path.{◌≡◌, refl, sym, ap, ◌∙◌}
use mathlib.Core.List.{List, [], ◌++◌}
use native.Mathlib.Omega.{arith}
use lib.ListN.{length, length-append}
use Rattle.registers.specs.Machine.{Machine}
use Rattle.transfers.specs.declared.Way.TheVariants.{In}
use Rattle.card.specs.Access.{Asked}
use Rattle.card.specs.Step.{step}
use Rattle.account.specs.Plain.{Plain, Account}
use Rattle.account.specs.CommandRows.{CommandRow, Reads, Writes, Verifies, Erases, Identifies, ReadsBuffer, WritesBuffer, SetsGeometry, Diagnoses, Recalibrates, Seeks, Senses, SetsMultiple, ReadsMultiple, WritesMultiple, Others, row_of}
use Rattle.account.specs.Table.{account, behind_block}
use Rattle.account.specs.Host.{plain_of, Hosted, Moves}
use Rattle.account.specs.Notes.{way_of}
use Rattle.account.specs.Claim.{Agrees}
use Rattle.account.specs.Follows.{AcceptedCommand, after}
use Rattle.hosts.specs.Live.{plenty, due}
use Rattle.hosts.specs.Choices.{writes}
use Rattle.hosts.proofs.Due.{due_any, plenty-length}
use Rattle.account.proofs.Theorem.{agreed}

-- Of what is claimed alone, whoever the host: it has moved as much as the account says.
pub due-agrees : (row : CommandRow) (p : Plain) (h : Hosted) → p.registers.count < 256 → Agrees (account row p) h → length h.notes.done ≡ due row p
due-agrees row p h c x =
    let d = h.notes.done in
    let e = length-append d plenty in
    let g = plenty-length in
    sym (ap (λ (y : Account). length y.moved) (x.enough plenty)) ∙ due_any row p (d ++ plenty) c (omega arith)

pub moves-due : (m : Machine) (a : Asked) (v : ℕ) (l : List Asked) → AcceptedCommand m a v → Moves (step m a).next l → length (after m a v l).notes.done ≡ due (row_of v) (plain_of m)
moves-due m a v l w x = due-agrees (row_of v) (plain_of m) (after m a v l) w.typed.count (agreed m a v l w x)

-- reading takes no data
reads_alone : (row : CommandRow) (p : Plain) (d : List ℕ) → way_of row ≡ In → (account row p d).moved ≡ (account row p []).moved
unfolding account behind_block
reads_alone Reads p d e = refl
reads_alone Writes p d e = absurd (true≢false (ap writes e))
reads_alone Verifies p d e = refl
reads_alone Erases p d e = refl
reads_alone Identifies p d e = refl
reads_alone ReadsBuffer p d e = refl
reads_alone WritesBuffer p d e = absurd (true≢false (ap writes e))
reads_alone SetsGeometry p d e = refl
reads_alone Diagnoses p d e = refl
reads_alone Recalibrates p d e = refl
reads_alone Seeks p d e = refl
reads_alone Senses p d e = refl
reads_alone SetsMultiple p d e = refl
reads_alone ReadsMultiple p d e = refl
reads_alone WritesMultiple p d e = absurd (true≢false (ap writes e))
reads_alone Others p d e = refl

-- A host that reads has been given the account's data.
pub read_agrees : (row : CommandRow) (p : Plain) (h : Hosted) → way_of row ≡ In → Agrees (account row p) h → h.notes.done ≡ (account row p []).moved
read_agrees row p h e x = sym (ap (λ (y : Account). y.moved) x.account) ∙ reads_alone row p h.notes.done e

pub read_as_due : (m : Machine) (a : Asked) (v : ℕ) (l : List Asked) → AcceptedCommand m a v → way_of (row_of v) ≡ In → Moves (step m a).next l →
    (after m a v l).notes.done ≡ (account (row_of v) (plain_of m) []).moved
read_as_due m a v l w e x = read_agrees (row_of v) (plain_of m) (after m a v l) e (agreed m a v l w x)
