-- An access that means no refusal: the card is well made, and the store and the marks are of its size.
use Prim.Native.Nat.{◌*◌}
use mathlib.Core.Bool.{Bool, true, false, true≢false}
use mathlib.Core.Path.{◌≡◌, ap, ◌∙◌}
use lib.ListN.{length}
use Rattle.answers.specs.declared.Refusal.{Refusal}
use Rattle.registers.specs.State.{total_in}
use Rattle.registers.specs.Machine.{Machine}
use Rattle.registers.specs.WellMade.{well_made}
use Rattle.card.specs.declared.Meaning.{Meaning}
use Rattle.card.specs.declared.Meaning.TheVariants.{TupleByte, ReadOption, WriteOption, ReadRegister, WriteRegister, ReadData, WriteData}
use Rattle.card.specs.Access.{Asked, meaning}
use Rattle.kept.proofs.Decided.{meaning-elim}

abbrev pub means_refusal : Meaning → Bool
means_refusal (Meaning.Refused r) = true
means_refusal (TupleByte b) = false
means_refusal ReadOption = false
means_refusal (WriteOption v) = false
means_refusal (ReadRegister r) = false
means_refusal (WriteRegister r v) = false
means_refusal (ReadData p) = false
means_refusal (WriteData p v) = false

no : {A : Type 0} {r : Refusal} (y : Meaning) → means_refusal y ≡ false → Meaning.Refused r ≡ y → A
no y n e = absurd (true≢false (ap means_refusal e ∙ n))

-- rows 12, 2 and 3
pub lent_facts : (m : Machine) (a : Asked) (y : Meaning) → means_refusal y ≡ false → meaning m a ≡ y →
    (well_made m.phase m.state ≡ true) × (length m.store ≡ 512 * total_in m.state) × (length m.marks ≡ total_in m.state)
lent_facts m a y n =
    meaning-elim
    (λ (k : Meaning). k ≡ y → (well_made m.phase m.state ≡ true) × (length m.store ≡ 512 * total_in m.state) × (length m.marks ≡ total_in m.state)) m a
    (no y n) (no y n) (no y n) (no y n) (λ w s k t e. (w, s, k))
