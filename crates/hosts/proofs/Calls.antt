-- Calls of `Card::access`, each as the code promises: what they are to the machine, those with the wrong store or marks lent among them.
use Rattle.std.proofs.Common.{Err}
use Prim.Native.Nat.{ℕ}
use mathlib.Core.Bool.{Bool, true, false, ◌&&◌, true≢false}
use mathlib.Core.Path.{◌≡◌, refl, sym, ap, ◌∙◌, subst}
use mathlib.Core.List.{List, [], ◌∷◌}
use Rattle.ground.specs.Choice.{pick}
use Rattle.ground.specs.Rows.{first_of}
use Rattle.answers.specs.declared.Refusal.TheVariants.{NotWellMade, StoreLength, MarksLength}
use Rattle.registers.specs.Machine.{Machine, core_of}
use Rattle.registers.specs.WellMade.{well_made}
use Rattle.transfers.specs.declared.Way.{Way}
use Rattle.port.specs.Data.{Effect}
use Rattle.card.specs.declared.Card.{Card}
use Rattle.card.specs.declared.Answer.{Answer}
use Rattle.card.specs.declared.Meaning.{Meaning}
use Rattle.card.specs.Access.{Asked, store_sized, marks_sized, tuples_sized, fit_table, decided, meaning}
use Rattle.card.specs.Perform.{perform}
use Rattle.card.specs.Step.{step}
use Rattle.card.specs.Doors.{machine_of, answered, card_of}
use Rattle.card.proofs.Verdicts.{meaning_as}
use Rattle.kept.specs.Sound.{Sound}
use Rattle.kept.specs.Allowed.{Allowed}
use Rattle.kept.proofs.Decided.{meaning-allowed}
use Rattle.kept.proofs.Perform.{perform-sound}
use Rattle.account.specs.Host.{Hosted, hosted_by}
use Rattle.account.specs.Notes.{Notes, note}
use Rattle.hosts.specs.Running.{Promised, Call, Own, Wrong, WrongLength, wrong_row, lent, call_meaning, call_meanings, Called}

-- ---- the wrong store or marks lent

wrong_by : (w s k t : Bool) (d : Meaning) → (s && k) ≡ false → first_of (fit_table w s k t) Meaning.Refused d ≡ Meaning.Refused (pick w (pick s MarksLength StoreLength) NotWellMade)
wrong_by false s k t d e = refl
wrong_by true false k t d e = refl
wrong_by true true false t d e = refl
wrong_by true true true t d e = absurd (true≢false e)

wrong_means : (m : Machine) (store marks : List ℕ) (a : Asked) → WrongLength m.state store marks → meaning (lent store marks m) a ≡ Meaning.Refused (wrong_row m store)
wrong_means m store marks a e =
    meaning_as (lent store marks m) a ∙ wrong_by (well_made m.phase m.state) (store_sized m.state store) (marks_sized m.state marks) (tuples_sized a.tuples) (decided m.state a) e

module _ (c : Card) (store marks : List ℕ) (a : Asked) (r : Answer) (store' marks' : List ℕ) (e : WrongLength c.state store marks) (p : Promised c store marks a r store' marks') where
  wrong_answered : answered r store' marks' ≡ perform (Meaning.Refused (wrong_row (machine_of c store marks) store)) (machine_of c store marks)
  unfolding step
  wrong_answered = p ∙ ap (λ (x : Meaning). perform x (machine_of c store marks)) (wrong_means (machine_of c store marks) store marks a e)

  -- such a call is refused, with 2 or 3 if the card is well made, and nothing changes: neither the card nor what was lent
  pub wrong_refused : (r.outcome ≡ Err (wrong_row (machine_of c store marks) store)) × (r.card ≡ c) × (store' ≡ store) × (marks' ≡ marks)
  unfolding perform
  wrong_refused =
      let n = ap (λ (s : Effect). s.next) wrong_answered in
      (ap (λ (s : Effect). s.outcome) wrong_answered, ap (λ (m : Machine). card_of (core_of m) m.buffer) n, ap (λ (m : Machine). m.store) n, ap (λ (m : Machine). m.marks) n)

-- ---- calls

-- they are the steps of the machine, and the answers noted are theirs
pub called_is : (l : List Call) (c : Card) (store marks : List ℕ) (way : Way) (q : Notes) (h : Hosted) → Called way c store marks q l h →
    hosted_by way (machine_of c store marks) q (call_meanings (machine_of c store marks) l) ≡ h
unfolding hosted_by step perform note
called_is [] c store marks way q h e = e
called_is (Own a ∷ l) c store marks way q h e =
    ap (λ (s : Effect). hosted_by way s.next (note way (meaning (machine_of c store marks) a) s.outcome q) (call_meanings s.next l)) (sym e.3)
    ∙ called_is l e.0.card e.1 e.2 way _ h e.4
called_is (Wrong store₁ marks₁ a ∷ l) c store marks way q h e =
    let m = machine_of c store marks in
    let x = wrong_means m store₁ marks₁ a e.4 in
    let k = (wrong_refused c store₁ marks₁ a e.0 e.1 e.2 e.4 e.3).1 in
    ap (λ (y : Meaning). hosted_by way (perform y m).next (note way y (perform y m).outcome q) (call_meanings (perform y m).next l)) x
    ∙ called_is l c store marks way q h
    (subst (λ (d : Card). Called way d store marks q l h) k (subst (λ (y : Meaning). Called way e.0.card store marks (note way y e.0.outcome q) l h) x e.5))

call-allowed : (m : Machine) (c : Call) → Allowed (call_meaning m c) m.state
call-allowed m (Own a) = meaning-allowed m a
call-allowed m (Wrong store marks a) = meaning-allowed (lent store marks m) a

-- and the card stays sound
pub sound-called : (l : List Call) (way : Way) (m : Machine) (q : Notes) → Sound m → Sound (hosted_by way m q (call_meanings m l)).machine
unfolding hosted_by
sound-called [] way m q s = s
sound-called (c ∷ l) way m q s =
    let x = call_meaning m c in
    sound-called l way (perform x m).next (note way x (perform x m).outcome q) (perform-sound x m (call-allowed m c) s)
