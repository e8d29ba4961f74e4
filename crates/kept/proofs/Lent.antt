-- What is lent keeps its length: a sector read, a sector stored, a part of a word written; and the number of marks that are not 0 does not rise.
use Prim.Native.Nat.{ℕ, ◌+◌, ◌*◌, ◌/◌, ◌%◌, ◌<◌, ◌≤◌}
use mathlib.Core.Path.{◌≡◌, refl, ◌∙◌}
use mathlib.Core.List.{List, ◌++◌}
use native.Mathlib.Omega.{arith}
use native.Mathlib.Nat.{le_refl}
use lib.Dec.{ltb}
use lib.ListN.{length, set, take, drop, length-set, length-append, length-drop}
use lib.Seq.{length-take-le}
use borrow.Author.Tests.{ltb-true}
use Rattle.ground.proofs.Picks.{pick-elim}
use Rattle.sectors.specs.Marks.{lowered}
use Rattle.sectors.specs.Sectors.{sector_of, with_sector, buffer_read, StoreMarks, stored}
use Rattle.registers.specs.Machine.{Machine}
use Rattle.port.specs.declared.Part.{Part}
use Rattle.port.specs.declared.Part.TheVariants.{Low, High, Both}
use Rattle.port.specs.Halves.{with_part, low_at, high_at}

-- what a change leaves of a machine whose buffer has 512 bytes
abbrev pub LengthsKept : Machine → Machine → Type 0
LengthsKept m n = length m.buffer ≡ 512 → (length n.store ≡ length m.store) × (length n.marks ≡ length m.marks) × (length n.buffer ≡ 512)

-- nothing of what is lent has changed
pub lent_same : (m : Machine) → LengthsKept m m
lent_same m b = (refl, refl, b)

-- a sector inside the store ends inside it
inside : (i n : ℕ) → i < n / 512 → 512 * i + 512 ≤ n
inside i n h = omega arith

pub sector-length : (store : List ℕ) (i : ℕ) → i < length store / 512 → length (sector_of store i) ≡ 512
unfolding sector_of
sector-length store i h =
    let w = inside i (length store) h in
    let d = length-drop (512 * i) store in
    length-take-le 512 (drop (512 * i) store) (omega arith)

replaced-length : (store : List ℕ) (i : ℕ) (bytes : List ℕ) → length bytes ≡ 512 → i < length store / 512 → length (with_sector store i bytes) ≡ length store
unfolding with_sector
replaced-length store i bytes e h =
    let w = inside i (length store) h in
    let d = length-drop (512 * i + 512) store in
    let t = length-take-le (512 * i) store (omega arith) in
    let a = length-append (take (512 * i) store) (bytes ++ drop (512 * i + 512) store) in
    let b = length-append bytes (drop (512 * i + 512) store) in
    omega arith

pub buffer_read_lem : (store : List ℕ) (i : ℕ) (b : List ℕ) → length b ≡ 512 → length (buffer_read store i b) ≡ 512
unfolding buffer_read
buffer_read_lem store i b e =
    pick-elim (λ (x : List ℕ). length x ≡ 512) (ltb i (length store / 512)) _ _
    (λ h. sector-length store i (ltb-true _ _ h))
    (λ h. e)

pub stored_lengths : (k : StoreMarks) (i : ℕ) (bytes : List ℕ) → length bytes ≡ 512 →
    (length (stored k i bytes).store ≡ length k.store) × (length (stored k i bytes).marks ≡ length k.marks)
unfolding stored
stored_lengths k i bytes e =
    pick-elim (λ (n : StoreMarks). (length n.store ≡ length k.store) × (length n.marks ≡ length k.marks)) (ltb i (length k.store / 512)) _ _
    (λ h. pick-elim (λ (n : StoreMarks). (length n.store ≡ length k.store) × (length n.marks ≡ length k.marks)) (ltb i (length k.marks)) _ _
    (λ g. (replaced-length k.store i bytes e (ltb-true _ _ h), length-set k.marks i 0))
    (λ g. (refl, refl)))
    (λ h. (refl, refl))

-- the number of marks that are not 0 does not rise
pub stored_less : (k : StoreMarks) (i : ℕ) (bytes : List ℕ) → (stored k i bytes).bad ≤ k.bad
unfolding stored lowered
stored_less k i bytes =
    pick-elim (λ (n : StoreMarks). n.bad ≤ k.bad) (ltb i (length k.store / 512)) _ _
    (λ h. pick-elim (λ (n : StoreMarks). n.bad ≤ k.bad) (ltb i (length k.marks)) _ _ (λ g. omega arith) (λ g. le_refl k.bad))
    (λ h. le_refl k.bad)

pub part_length : (part : Part) (words value : ℕ) (b : List ℕ) → length (with_part part words value b) ≡ length b
part_length Low words value b = length-set b (low_at words) (value % 256)
part_length High words value b = length-set b (high_at words) (value % 256)
part_length Both words value b = length-set (set b (low_at words) (value % 256)) (high_at words) (value / 256) ∙ length-set b (low_at words) (value % 256)
