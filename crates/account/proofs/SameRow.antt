-- The machine's table of codes is the account's.
use Prim.Native.Nat.{ℕ, ◌+◌, ◌*◌, ◌/◌, ◌≤◌}
use mathlib.Core.Bool.{Bool, true, false, ◌&&◌, ◌||◌}
use mathlib.Core.Path.{◌≡◌, refl, sym}
use native.Mathlib.Omega.{arith}
use lib.Dec.{leb, eqb}
use borrow.Author.Tests.{leb-true, le-leb, eqb-true, eqb-false, eq-eqb}
use Rattle.ground.specs.Choice.{pick}
use Rattle.ground.proofs.Every.{and_left, and_right}
use Rattle.commands.specs.declared.Command.{Command}
use Rattle.commands.specs.declared.Command.TheVariants.{Read, Write, Verify, Erase, Identify, ReadBuffer, WriteBuffer, SetGeometry, Diagnose, Recalibrate, Seek, Sense, SetMultiple, ReadMultiple, WriteMultiple, Other}
use Rattle.commands.specs.Table.{command_of}
use Rattle.account.specs.CommandRows.{CommandRow, Reads, Writes, Verifies, Erases, Identifies, ReadsBuffer, WritesBuffer, SetsGeometry, Diagnoses, Recalibrates, Seeks, Senses, SetsMultiple, ReadsMultiple, WritesMultiple, Others, rows, row_in, row_of}

-- a command of the machine in the account's words
abbrev pub row_for : Command → CommandRow
row_for Read = Reads
row_for Write = Writes
row_for Verify = Verifies
row_for Erase = Erases
row_for Identify = Identifies
row_for ReadBuffer = ReadsBuffer
row_for WriteBuffer = WritesBuffer
row_for SetGeometry = SetsGeometry
row_for Diagnose = Diagnoses
row_for Recalibrate = Recalibrates
row_for Seek = Seeks
row_for Sense = Senses
row_for SetMultiple = SetsMultiple
row_for ReadMultiple = ReadsMultiple
row_for WriteMultiple = WritesMultiple
row_for Other = Others

same_test : (a b : Bool) → (a ≡ true → b ≡ true) → (b ≡ true → a ≡ true) → a ≡ b
same_test true b f g = sym (f refl)
same_test false true f g = g refl
same_test false false f g = refl

-- the codes from n to m by another test: one code, two, sixteen with the same upper digit
has_by : (n m v : ℕ) (b : Bool) → (n ≤ v → v ≤ m → b ≡ true) → (b ≡ true → (n ≤ v) × (v ≤ m)) → (leb n v && leb v m) ≡ b
has_by n m v b f g =
    same_test (leb n v && leb v m) b
    (λ e. f (leb-true n v (and_left (leb n v) (leb v m) e)) (leb-true v m (and_right (leb n v) (leb v m) e)))
    (λ e. let z = g e in rw (le-leb n v z.0, le-leb v m z.1) refl)

has_one : (n v : ℕ) → (leb n v && leb v n) ≡ eqb v n
has_one n v = has_by n n v (eqb v n) (λ p q. eq-eqb v n (omega arith)) (λ e. let z = eqb-true v n e in (omega arith, omega arith))

or_true : (a b : Bool) → (a ≡ false → b ≡ true) → (a || b) ≡ true
or_true true b f = refl
or_true false b f = f refl

of_or : (a b : Bool) (P : Type 0) → (a ≡ true → P) → (b ≡ true → P) → (a || b) ≡ true → P
of_or true b P f g e = f refl
of_or false b P f g e = g e

has_two : (n v : ℕ) → (leb n v && leb v (n + 1)) ≡ (eqb v n || eqb v (n + 1))
has_two n v =
    has_by n (n + 1) v (eqb v n || eqb v (n + 1))
    (λ p q. or_true (eqb v n) (eqb v (n + 1)) (λ e. let z = eqb-false v n e in eq-eqb v (n + 1) (omega arith)))
    (of_or (eqb v n) (eqb v (n + 1)) _ (λ e. let z = eqb-true v n e in (omega arith, omega arith)) (λ e. let z = eqb-true v (n + 1) e in (omega arith, omega arith)))

has_sixteen : (n v : ℕ) → (leb (16 * n) v && leb v (16 * n + 15)) ≡ eqb (v / 16) n
has_sixteen n v = has_by (16 * n) (16 * n + 15) v (eqb (v / 16) n) (λ p q. eq-eqb (v / 16) n (omega arith)) (λ e. let z = eqb-true (v / 16) n e in (omega arith, omega arith))

-- a row of such codes is the same in both tables, if the rest of them is
chosen : (b : Bool) (k l : Command) (r : CommandRow) → r ≡ row_for l → pick b (row_for k) r ≡ row_for (pick b k l)
chosen true k l r e = refl
chosen false k l r e = e

one : (n v : ℕ) (k l : Command) (r : CommandRow) → r ≡ row_for l → pick (leb n v && leb v n) (row_for k) r ≡ row_for (pick (eqb v n) k l)
one n v k l r e = rw (has_one n v) (chosen (eqb v n) k l r e)

two : (n v : ℕ) (k l : Command) (r : CommandRow) → r ≡ row_for l → pick (leb n v && leb v (n + 1)) (row_for k) r ≡ row_for (pick (eqb v n) k (pick (eqb v (n + 1)) k l))
two n v k l r e = rw (has_two n v) (go (eqb v n) (eqb v (n + 1)))
  where
    go : (a b : Bool) → pick (a || b) (row_for k) r ≡ row_for (pick a k (pick b k l))
    go true b = refl
    go false b = chosen b k l r e

sixteen : (n v : ℕ) (k l : Command) (r : CommandRow) → r ≡ row_for l → pick (leb (16 * n) v && leb v (16 * n + 15)) (row_for k) r ≡ row_for (pick (eqb (v / 16) n) k l)
sixteen n v k l r e = rw (has_sixteen n v) (chosen (eqb (v / 16) n) k l r e)

-- whatever the code, it is in the same row
pub same_row : (v : ℕ) → row_of v ≡ row_for (command_of v)
unfolding rows row_in command_of
same_row v =
    two 0x20 v Read _ _
    (two 0x30 v Write _ _
    (two 0x40 v Verify _ _
    (one 0xC0 v Erase _ _
    (one 0xEC v Identify _ _
    (one 0xE4 v ReadBuffer _ _
    (one 0xE8 v WriteBuffer _ _
    (one 0x91 v SetGeometry _ _
    (one 0x90 v Diagnose _ _
    (sixteen 1 v Recalibrate _ _
    (sixteen 7 v Seek _ _
    (one 0x03 v Sense _ _
    (one 0xC6 v SetMultiple _ _
    (one 0xC4 v ReadMultiple _ _
    (one 0xC5 v WriteMultiple Other Others refl))))))))))))))
