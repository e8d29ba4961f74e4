-- An accepted opening gives a well-made card, a refused one the all-zero card, which is not well made and refuses every access.
use Rattle.std.proofs.Common.{Ok, Err}
use Prim.Native.Nat.{ℕ, ◌*◌}
use mathlib.Core.Bool.{true, false}
use mathlib.Core.Path.{◌≡◌, refl, sym, ap}
use mathlib.Core.List.{List}
use native.Mathlib.Omega.{arith}
use lib.ListN.{length}
use borrow.Author.Tests.{le-leb}
use Rattle.answers.specs.declared.Refusal.{Refusal}
use Rattle.answers.specs.declared.Refusal.TheVariants.{NotWellMade}
use Rattle.answers.specs.Answers.{outcome_number, Outcome}
use Rattle.geometry.specs.declared.Geometry.{Geometry}
use Rattle.ground.specs.Choice.{every}
use Rattle.geometry.specs.Limits.{fits, total_of}
use Rattle.maps.specs.declared.Mode.{Mode}
use Rattle.maps.specs.declared.Mode.TheVariants.{PcCard, TrueIde}
use Rattle.sectors.specs.Marks.{bad_in}
use Rattle.sectors.proofs.Counting.{bad_at_most}
use Rattle.registers.specs.declared.Phase.TheVariants.{Idle}
use Rattle.registers.specs.WellMade.{well_made, index_fits, sreset_fits, bad_fits}
use Rattle.registers.specs.declared.Made.{Made}
use Rattle.registers.specs.PowerOn.{power_on}
use Rattle.port.specs.Data.{Effect}
use Rattle.card.specs.declared.Answer.{Answer}
use Rattle.card.specs.Access.{Asked}
use Rattle.card.specs.Step.{step}
use Rattle.card.specs.Opening.{mode_of, zero_card, open_refused, powered, opened}
use Rattle.card.specs.Doors.{machine_of, refused_by, option_answered, control_answered}
use Rattle.kept.specs.Sound.{Sound}
use Rattle.kept.proofs.Registers.{together}
use Rattle.kept.proofs.Resets.{power_stands, power_status, at_rest_lem, zeros-length}
use Rattle.kept.proofs.DoorElim.{opened-elim}
use Rattle.kept.proofs.Step.{not_well_refused}
use Rattle.answers.proofs.Outcomes.{accepts_not}

mode_fits : (mode : Mode) → sreset_fits mode 0 ≡ true
unfolding sreset_fits
mode_fits PcCard = refl
mode_fits TrueIde = refl

index_0 : index_fits 0 ≡ true
unfolding index_fits
index_0 = refl

-- no more marks are not 0 than there are
bad-fits : (marks : List ℕ) (n : ℕ) → length marks ≡ n → bad_fits (bad_in marks) n ≡ true
unfolding bad_fits
bad-fits marks n e = let l = bad_at_most marks in le-leb (bad_in marks) n (omega arith)

-- the card that the opening makes
pub powered-sound : (g : Geometry) (mode : Mode) (store marks : List ℕ) → fits g ≡ true → length store ≡ 512 * total_of g → length marks ≡ total_of g → Sound (machine_of (powered g mode (bad_in marks)) store marks)
powered-sound g mode store marks f s k =
    let d : Made = record { mode = mode; default = g } in
    record {
      made = together d Idle (power_on d (bad_in marks) 0) (power_stands d (bad_in marks) 0 f index_0 (mode_fits mode) (bad-fits marks (total_of g) k))
          (at_rest_lem (power_on d (bad_in marks) 0) power_status);
      store = s;
      marks = k;
      buffer = zeros-length;
      count = omega arith;
    }

abbrev refusal_in : Outcome → Refusal → Refusal
refusal_in (Ok v) r = r
refusal_in (Err q) r = q

-- what is known of the answer of an opening
abbrev Opens : List ℕ → List ℕ → Answer → Type 0
Opens store marks x =
    (x.outcome ≡ Ok 0 → Sound (machine_of x.card store marks))
    × ((r : Refusal) → x.outcome ≡ Err r → x ≡ open_refused r)

refused_opens : (q : Refusal) (store marks : List ℕ) → Opens store marks (open_refused q)
refused_opens q store marks =
    (λ e. accepts_not 0 q (sym e), λ r e. ap (λ (o : Outcome). open_refused (refusal_in o q)) e)

opening : (g : Geometry) (mode : ℕ) (store marks tuples : List ℕ) → Opens store marks (opened g mode store marks tuples)
opening g mode store marks tuples =
    opened-elim (Opens store marks) g mode store marks tuples
    (refused_opens _ store marks) (refused_opens _ store marks) (refused_opens _ store marks) (refused_opens _ store marks) (refused_opens _ store marks)
    (λ f s k. (λ e. powered-sound g (mode_of mode) store marks f s k, λ r e. accepts_not 0 r e))

pub opening-sound : (g : Geometry) (mode : ℕ) (store marks tuples : List ℕ) → (opened g mode store marks tuples).outcome ≡ Ok 0 →
    Sound (machine_of (opened g mode store marks tuples).card store marks)
opening-sound g mode store marks tuples e = (opening g mode store marks tuples).0 e

pub opening_well : (g : Geometry) (mode : ℕ) (store marks tuples : List ℕ) → (opened g mode store marks tuples).outcome ≡ Ok 0 →
    well_made (opened g mode store marks tuples).card.phase (opened g mode store marks tuples).card.state ≡ true
opening_well g mode store marks tuples e = (opening-sound g mode store marks tuples e).made

-- "a refused opening gives the all-zero card"
pub opening-refused : (g : Geometry) (mode : ℕ) (store marks tuples : List ℕ) (r : Refusal) → (opened g mode store marks tuples).outcome ≡ Err r →
    opened g mode store marks tuples ≡ open_refused r
opening-refused g mode store marks tuples r e = (opening g mode store marks tuples).1 r e

-- "… which is not well made"
pub zero_not_well : well_made zero_card.phase zero_card.state ≡ false
unfolding well_made every fits
zero_not_well = refl

-- every access to it is refused, whatever is lent, and changes nothing
pub zero-refused : (a : Asked) (store marks : List ℕ) →
    step (machine_of zero_card store marks) a ≡ record { outcome = Err NotWellMade; next = machine_of zero_card store marks }
zero-refused a store marks = not_well_refused (machine_of zero_card store marks) a zero_not_well

pub zero_twelve : (a : Asked) (store marks : List ℕ) → outcome_number (step (machine_of zero_card store marks) a).outcome ≡ 12
zero_twelve a store marks = ap (λ (s : Effect). outcome_number s.outcome) (zero-refused a store marks)

pub zero-option : (v : ℕ) → option_answered v zero_card ≡ refused_by zero_card NotWellMade
unfolding option_answered
zero-option v = rw zero_not_well

pub zero_control : (v : ℕ) → control_answered v zero_card ≡ refused_by zero_card NotWellMade
unfolding control_answered
zero_control v = rw zero_not_well
