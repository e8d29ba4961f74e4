-- A host that keeps choosing comes to the end, whatever its rounds are made of.
use Prim.Native.Nat.{ℕ, suc, ◌+◌, ◌≤◌, ◌<◌}
use mathlib.Core.Bool.{Bool, true, false}
use mathlib.Core.Path.{◌≡◌, refl, sym, ◌∙◌, subst}
use mathlib.Core.List.{List, [], ◌∷◌, ◌++◌}
use native.Mathlib.Omega.{arith}
use lib.ListN.{length}
use borrow.Author.Tests.{le-ltb, ltb-false}
use Rattle.ground.specs.Choice.{pick}
use Rattle.maps.specs.declared.Port.{Port}
use Rattle.registers.specs.Machine.{Machine}
use Rattle.transfers.specs.declared.Way.{Way}
use Rattle.card.specs.declared.Meaning.{Meaning}
use Rattle.account.specs.Plain.{Plain}
use Rattle.account.specs.CommandRows.{CommandRow}
use Rattle.account.specs.Table.{account}
use Rattle.account.specs.Host.{asks, MovesBy, Hosted, hosted_by, meanings_by}
use Rattle.hosts.specs.Live.{width, noted, Taken, due}
use Rattle.hosts.specs.Hosts.{Round, onward, Going, round, rounds, Willing, Chosen}
use Rattle.account.proofs.Rest.{Rel}
use Rattle.hosts.proofs.Asks.{asks-due}
use Rattle.hosts.proofs.Taken.{taken}
use Rattle.hosts.proofs.Reached.{grows, onward-append, going-append, moves-append}

some : (port : Port) → 1 ≤ width port
some Port.Even = omega arith
some Port.Odd = omega arith
some Port.Word = omega arith

-- what a choice means is taken
pub chosen-taken : (row : CommandRow) (p : Plain) (way : Way) (h : Hosted) (x : Meaning) → Rel way (account row p) h.machine h.notes → asks h.machine ≡ true → (c : Chosen way h x) →
    Taken way h c.port c.value x
chosen-taken row p way h x z e c =
    subst (λ (y : Meaning). Taken way h c.port c.value y) (sym c.part) (taken (account row p) way c.port c.value h z e c.half c.small)

-- `Stands` is what holds wherever the host has got to; a ready round is one that goes aside and then chooses
module _ {A : Type 0} (means : Machine → A → Meaning) (way : Way) (row : CommandRow) (p : Plain) (few : p.registers.count < 256) (Stands : Hosted → Type 0)
    (rel : (h : Hosted) → Stands h → Rel way (account row p) h.machine h.notes)
    (stays : (h : Hosted) (l : List A) → Stands h → Going means way h l → Stands (onward means way h l)) where
  abbrev pub Chooses : Hosted → Round A → Type 0
  Chooses h t = let k = onward means way h t.aside in Going means way h t.aside × (asks k.machine ≡ true → Chosen way k (means k.machine t.choice))

  abbrev Nearer : Hosted → List A → Type 0
  Nearer h l = Going means way h l × ((n : ℕ) → due row p ≤ noted h.notes + suc n → due row p ≤ noted (onward means way h l).notes + n)

  -- a round brings the end nearer by a byte or two, or has come to it
  round_nearer : (h : Hosted) (t : Round A) (b : Bool) → asks (onward means way h t.aside).machine ≡ b → Stands h → Chooses h t → Nearer h (t.aside ++ pick b (t.choice ∷ []) [])
  unfolding hosted_by
  round_nearer h t true e s u =
      let k = onward means way h t.aside in
      let l = t.choice ∷ [] in
      let x = chosen-taken row p way k (means k.machine t.choice) (rel k (stays h t.aside s u.0)) e (u.1 e) in
      let y = some (u.1 e).port in
      let z = x.bytes in
      let g = grows way (meanings_by means h.machine t.aside) h.machine h.notes in (
        going-append means way h t.aside l u.0 (e, x.quiet, tt),
        λ n d. subst (λ (j : Hosted). due row p ≤ noted j.notes + n) (sym (onward-append means way h t.aside l)) (omega arith),
      )
  round_nearer h t false e s u =
      let k = onward means way h t.aside in
      let x : due row p ≤ noted k.notes = ltb-false _ _ (sym (asks-due row p few k.machine k.notes way (rel k (stays h t.aside s u.0))) ∙ e) in (
        going-append means way h t.aside [] u.0 tt,
        λ n d. subst (λ (j : Hosted). due row p ≤ noted j.notes + n) (sym (onward-append means way h t.aside [])) (omega arith),
      )

  module _ (ready : Hosted → Round A → Type 0) (by : (h : Hosted) (t : Round A) → Stands h → ready h t → Chooses h t) where
    abbrev Ends : List (Round A) → Type 0
    Ends l = (h : Hosted) → Stands h → Willing means way ready h l → due row p ≤ noted h.notes + length l → MovesBy h.machine (meanings_by means h.machine (rounds means way h l))

    round-ends : (t : Round A) (l : List (Round A)) → Ends l → (h : Hosted) (b : Bool) → asks h.machine ≡ b → Stands h → Willing means way ready h (t ∷ l) →
        due row p ≤ noted h.notes + suc (length l) →
        MovesBy h.machine (meanings_by means h.machine (pick b (round means way h t ++ rounds means way (onward means way h (round means way h t)) l) []))
    round-ends t l on h false e s w d = e
    round-ends t l on h true e s w d =
        let r = w e in
        let u = round_nearer h t _ refl s (by h t s r.0) in
        let k = onward means way h (round means way h t) in
        moves-append means way h (round means way h t) (rounds means way k l) u.0 (on k (stays h (round means way h t) s u.0) r.1 (u.1 (length l) d))

    pub comes_to_end : (l : List (Round A)) → Ends l
    unfolding rounds
    comes_to_end [] h s w d = asks-due row p few h.machine h.notes way (rel h s) ∙ le-ltb (noted h.notes) (due row p) (omega arith)
    comes_to_end (t ∷ l) h s w d = round-ends t l (comes_to_end l) h (asks h.machine) refl s w d
