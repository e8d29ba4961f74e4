-- "While DRQ is set, writes to 1..6 and D have no effect.", by the offset that an access reaches in whatever map.
use Rattle.std.proofs.Common.{Some}
use Prim.Native.Nat.{ℕ, zero, suc, ◌%◌, ◌≤◌}
use mathlib.Core.Path.{◌≡◌, refl, sym, ap, subst}
use mathlib.Core.Bool.{Bool, true}
use native.Mathlib.Omega.{arith}
use lib.Dec.{eqb, leb}
use borrow.Author.Tests.{eqb-true, leb-true}
use Rattle.ground.proofs.Picks.{pick-elim, both_of}
use Rattle.maps.specs.declared.Register.{Register}
use Rattle.maps.specs.declared.Register.TheVariants.{ErrorFeature, SectorCount, SectorNumber, CylinderLow, CylinderHigh, DriveHead}
use Rattle.maps.specs.declared.Target.TheVariants.{Named}
use Rattle.maps.specs.declared.Place.{Place}
use Rattle.maps.specs.declared.Place.TheVariants.{Bytes}
use Rattle.maps.specs.Places.{register_place}
use Rattle.maps.specs.Rows.{moved}
use Rattle.registers.specs.Machine.{Machine}
use Rattle.port.specs.Data.{Effect}
use Rattle.card.specs.declared.Meaning.{Meaning}
use Rattle.card.specs.Access.{Asked, standing}
use Rattle.card.specs.Perform.{perform}
use Rattle.card.specs.Step.{step}
use Rattle.laws.specs.Bits.{drq}
use Rattle.laws.specs.Holds.{blocked, offset_of, blocked_at}
use Rattle.laws.proofs.Blocked.{meant_blocked}
use Rattle.laws.proofs.Reached.{reached_elim}

one_to_six : (P : ℕ → Type 0) → P 1 → P 2 → P 3 → P 4 → P 5 → P 6 → (o : ℕ) → 1 ≤ o → o ≤ 6 → P o
one_to_six P a b c d e f zero l h = absurd (omega arith)
one_to_six P a b c d e f (suc zero) l h = a
one_to_six P a b c d e f (suc (suc zero)) l h = b
one_to_six P a b c d e f (suc (suc (suc zero))) l h = c
one_to_six P a b c d e f (suc (suc (suc (suc zero)))) l h = d
one_to_six P a b c d e f (suc (suc (suc (suc (suc zero))))) l h = e
one_to_six P a b c d e f (suc (suc (suc (suc (suc (suc zero)))))) l h = f
one_to_six P a b c d e f (suc (suc (suc (suc (suc (suc (suc n))))))) l h = absurd (omega arith)

-- a register stands there that is blocked
blocked-elim : (P : Place → Type 0) (o : ℕ) → ((r : Register) → blocked r ≡ true → P (Bytes (Named r))) → blocked_at o ≡ true → P (register_place o)
unfolding register_place
blocked-elim P o f =
    let Q : ℕ → Type 0 = λ n. P (register_place n) in
    let one = f ErrorFeature refl in
    pick-elim (λ (t : Bool). t ≡ true → Q o) (eqb o 0xD) _ _
    (λ e h. subst Q (sym (eqb-true o 0xD e)) one)
    (λ e h. let l = both_of (leb 1 o) (leb o 6) h in
    one_to_six Q one (f SectorCount refl) (f SectorNumber refl) (f CylinderLow refl) (f CylinderHigh refl) (f DriveHead refl) o (leb-true _ _ l.0) (leb-true _ _ l.1))

-- accepted or refused
pub blocked-offset : (m : Machine) (a : Asked) (o : ℕ) → offset_of m a ≡ Some o → a.access.write ≡ true → blocked_at o ≡ true → drq m.state.registers.status ≡ true → (step m a).next ≡ m
unfolding step perform
blocked-offset m a o p w b d =
    reached_elim (λ (x : Meaning). (perform x m).next ≡ m) m a o p (λ q. refl)
    (λ k. blocked-elim (λ (q : Place). (perform (standing (moved q a.access.width) a) m).next ≡ m) o
    (λ r l. rw w (ap (λ (y : Effect). y.next) (meant_blocked r (a.access.value % 256) m k d l))) b)
