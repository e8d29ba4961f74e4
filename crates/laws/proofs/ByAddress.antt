-- 01, "Maps": what an access means by its address, if it is not refused: "even 000H..1FEH are tuple bytes 0..255", "200H the Configuration Option Register",
-- and the registers by their offset. When it is refused: `first-row` (crates/card/proofs/FirstRow.antt).
use Rattle.std.proofs.Common.{Ok, Some}
use Prim.Native.Nat.{ℕ, ◌*◌, ◌/◌, ◌%◌, ◌<◌, ◌≤◌}
use mathlib.Core.Path.{◌≡◌, refl, sym, ap, subst, ◌∙◌}
use mathlib.Core.Bool.{true, false, true≢false}
use native.Mathlib.Omega.{arith}
use lib.ListN.{get_or}
use borrow.Author.Tests.{eq-eqb, le-leb}
use Rattle.answers.specs.Answers.{refused}
use Rattle.answers.specs.declared.Refusal.{Refusal}
use Rattle.maps.specs.declared.Register.{Register}
use Rattle.maps.specs.declared.Target.{Target}
use Rattle.maps.specs.declared.Target.TheVariants.{Tuple, Option, Named}
use Rattle.maps.specs.declared.Place.{Place}
use Rattle.maps.specs.declared.Place.TheVariants.{Bytes}
use Rattle.maps.specs.Spaces.{answers_at}
use Rattle.maps.specs.Places.{register_place, attribute_place, map_place, place_at}
use Rattle.maps.specs.Rows.{moved, stands_at, Standing}
use Rattle.maps.proofs.Standings.{Known, stands_known, stands_elim}
use Rattle.registers.specs.State.{index_in}
use Rattle.registers.specs.Machine.{Machine}
use Rattle.port.specs.Data.{accepted}
use Rattle.card.specs.declared.Meaning.{Meaning}
use Rattle.card.specs.declared.Meaning.TheVariants.{TupleByte, ReadOption, WriteOption, ReadRegister, WriteRegister}
use Rattle.card.specs.Access.{Asked, targeted, standing, place_in, meaning}
use Rattle.card.specs.Perform.{perform}
use Rattle.card.specs.Step.{step}
use Rattle.kept.proofs.Decided.{decided-elim, meaning-elim}
use Rattle.laws.specs.Holds.{offset_of}
use Rattle.laws.proofs.Meant.{step_as}
use Rattle.laws.proofs.Reached.{place_reached}

-- the access means what stands there, and fits it
abbrev pub Means : Target → Asked → Meaning → Type 0
Means t a x = (x ≡ targeted t a) × Known a.access (Ok t)

abbrev Answers : Machine → Asked → Type 0
Answers m a = answers_at a.access.space m.state.made.mode (index_in m.state.option) ≡ true

pub place_means : (m : Machine) (a : Asked) (t : Target) → (Answers m a → moved (place_in m.state a) a.access.width ≡ Ok t) → refused (step m a).outcome ≡ false →
    Means t a (meaning m a)
unfolding step perform stands_at
place_means m a t h =
    let P : Meaning → Type 0 = λ x. refused (perform x m).outcome ≡ false → Means t a x in
    let Q : Standing → Type 0 = λ s. Known a.access s → P (standing s a) in
    let no : (r : Refusal) → P (Meaning.Refused r) = λ r n. absurd (true≢false n) in
    meaning-elim P m a (no _) (no _) (no _) (no _)
    (λ w s k u. decided-elim P m.state a (no _) (no _)
    (λ i e. stands_elim Q (place_in m.state a) a.access (λ k. no _) (λ k. no _) (λ k. no _) (λ k. no _) (λ s u n o. subst Q (sym (h e)) (λ k n. (refl, k)))
    (stands_known m.state.made.mode (index_in m.state.option) a.access _ refl)))

-- ---- attribute memory

option_means : (m : Machine) (a : Asked) → a.access.space ≡ 0 → a.access.address ≡ 0x200 → refused (step m a).outcome ≡ false → Means Option a (meaning m a)
unfolding place_at map_place attribute_place
option_means m a s d = place_means m a Option (λ e. rw (e, s, d))

pub means_option_read : (m : Machine) (a : Asked) → a.access.space ≡ 0 → a.access.address ≡ 0x200 → a.access.write ≡ false → refused (step m a).outcome ≡ false → meaning m a ≡ ReadOption
means_option_read m a s d w n = (option_means m a s d n).0 ∙ rw w

pub means_option_written : (m : Machine) (a : Asked) → a.access.space ≡ 0 → a.access.address ≡ 0x200 → a.access.write ≡ true → refused (step m a).outcome ≡ false →
    meaning m a ≡ WriteOption a.access.value
means_option_written m a s d w n =
    let k = option_means m a s d n in
    let l : a.access.value ≤ 255 = k.1.2.small w in
    let v : a.access.value % 256 ≡ a.access.value = omega arith in
    k.0 ∙ rw (w, v)

-- "Attribute: even 000H..1FEH are tuple bytes 0..255": a read of one gives it, and leaves the machine
pub tuple_at : (m : Machine) (a : Asked) (n : ℕ) → a.access.space ≡ 0 → a.access.address ≡ 2 * n → n < 256 → a.access.write ≡ false → refused (step m a).outcome ≡ false →
    step m a ≡ accepted (get_or a.tuples n 0) m
unfolding perform place_at map_place attribute_place
tuple_at m a n s d l w f =
    let half : 2 * n / 2 ≡ n = omega arith in
    step_as m a (TupleByte (get_or a.tuples n 0))
    (place_means m a (Tuple n) (λ e. rw (e, s, d, le-leb (2 * n) 0x1FE (omega arith), eq-eqb (2 * n % 2) 0 (omega arith), half)) f).0

-- ---- the registers

pub offset_means : (m : Machine) (a : Asked) (o : ℕ) (t : Target) → moved (register_place o) a.access.width ≡ Ok t → offset_of m a ≡ Some o → refused (step m a).outcome ≡ false →
    Means t a (meaning m a)
offset_means m a o t n p = place_means m a t (λ e. ap (λ (q : Place). moved q a.access.width) (place_reached m a o p e) ∙ n)

named_means : (m : Machine) (a : Asked) (o : ℕ) (r : Register) → register_place o ≡ Bytes (Named r) → offset_of m a ≡ Some o → refused (step m a).outcome ≡ false →
    Means (Named r) a (meaning m a)
named_means m a o r n = offset_means m a o (Named r) (ap (λ (q : Place). moved q a.access.width) n)

pub means_register_read : (m : Machine) (a : Asked) (o : ℕ) (r : Register) → register_place o ≡ Bytes (Named r) → offset_of m a ≡ Some o → a.access.write ≡ false →
    refused (step m a).outcome ≡ false → meaning m a ≡ ReadRegister r
means_register_read m a o r n p w f = (named_means m a o r n p f).0 ∙ rw w

pub means_register_written : (m : Machine) (a : Asked) (o : ℕ) (r : Register) → register_place o ≡ Bytes (Named r) → offset_of m a ≡ Some o → a.access.write ≡ true →
    refused (step m a).outcome ≡ false → meaning m a ≡ WriteRegister r a.access.value
means_register_written m a o r n p w f =
    let k = named_means m a o r n p f in
    let l : a.access.value ≤ 255 = k.1.1.small w in
    let v : a.access.value % 256 ≡ a.access.value = omega arith in
    k.0 ∙ rw (w, v)
