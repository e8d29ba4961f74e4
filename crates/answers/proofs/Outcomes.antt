-- The numbers of the refusals; that no outcome is accepted and refused; what equal outcomes say.
use Rattle.std.proofs.Common.{Ok, Err}
use Prim.Native.Nat.{ℕ, ◌-◌, ◌≤◌}
use mathlib.Core.Bool.{false, false≢true}
use mathlib.Core.Path.{◌≡◌, refl, sym, ap, ◌∙◌}
use mathlib.Core.List.{List, [], ◌∷◌}
use native.Mathlib.Omega.{arith}
use lib.ListN.{get_or}
use Rattle.answers.specs.declared.Refusal.{Refusal}
use Rattle.answers.specs.declared.Refusal.TheVariants.{GeometryOrMode, StoreLength, MarksLength, MarkAboveTwo, TupleBufferLength, NoRegister, SpaceSilent, HeldBySreset, WidthOrValue, IndexAboveThree, HalfMoved, NotWellMade, ChainBroken, TuplesTooLong, TupleBad, ListTooShort, SessionBroken}
use Rattle.answers.specs.Answers.{number_of, outcome_number, outcome_value, refused, Says, Outcome}

pub number_range : (r : Refusal) → (1 ≤ number_of r) × (number_of r ≤ 17)
number_range GeometryOrMode = (omega arith, omega arith)
number_range StoreLength = (omega arith, omega arith)
number_range MarksLength = (omega arith, omega arith)
number_range MarkAboveTwo = (omega arith, omega arith)
number_range TupleBufferLength = (omega arith, omega arith)
number_range NoRegister = (omega arith, omega arith)
number_range SpaceSilent = (omega arith, omega arith)
number_range HeldBySreset = (omega arith, omega arith)
number_range WidthOrValue = (omega arith, omega arith)
number_range IndexAboveThree = (omega arith, omega arith)
number_range HalfMoved = (omega arith, omega arith)
number_range NotWellMade = (omega arith, omega arith)
number_range ChainBroken = (omega arith, omega arith)
number_range TuplesTooLong = (omega arith, omega arith)
number_range TupleBad = (omega arith, omega arith)
number_range ListTooShort = (omega arith, omega arith)
number_range SessionBroken = (omega arith, omega arith)

-- no two refusals have one number: the refusal is found by it
abbrev refusals : List Refusal
refusals =
    GeometryOrMode ∷ StoreLength ∷ MarksLength ∷ MarkAboveTwo ∷ TupleBufferLength ∷ NoRegister
    ∷ SpaceSilent ∷ HeldBySreset ∷ WidthOrValue ∷ IndexAboveThree ∷ HalfMoved ∷ NotWellMade
    ∷ ChainBroken ∷ TuplesTooLong ∷ TupleBad ∷ ListTooShort ∷ SessionBroken ∷ []

abbrev refusal_at : ℕ → Refusal
refusal_at n = get_or refusals (n - 1) SessionBroken

found : (r : Refusal) → refusal_at (number_of r) ≡ r
found GeometryOrMode = refl
found StoreLength = refl
found MarksLength = refl
found MarkAboveTwo = refl
found TupleBufferLength = refl
found NoRegister = refl
found SpaceSilent = refl
found HeldBySreset = refl
found WidthOrValue = refl
found IndexAboveThree = refl
found HalfMoved = refl
found NotWellMade = refl
found ChainBroken = refl
found TuplesTooLong = refl
found TupleBad = refl
found ListTooShort = refl
found SessionBroken = refl

pub same_number : (r s : Refusal) → number_of r ≡ number_of s → r ≡ s
same_number r s e = sym (found r) ∙ ap refusal_at e ∙ found s

pub accepts_not : {P : Type 0} (value : ℕ) (r : Refusal) → Ok value ≡ Err r → P
accepts_not value r e = absurd (false≢true (ap refused e))

pub accepted : (o : Outcome) → refused o ≡ false → o ≡ Ok (outcome_value o)
accepted (Ok value) e = refl
accepted (Err r) e = absurd (false≢true (sym e))

pub says : (a b : Outcome) → a ≡ b → Says a b
says a b e = (ap outcome_number e, ap outcome_value e)
