-- Wherever a host has got to: its notes have not shrunk, the card is sound, and the account of the rest holds.
use Rattle.std.proofs.Common.{Ok, Err}
use Prim.Native.Nat.{ℕ, ◌/◌, ◌%◌, ◌≤◌}
use mathlib.Core.Path.{◌≡◌, refl, sym, ap, ◌∙◌, subst}
use mathlib.Core.List.{List, [], ◌∷◌, ◌++◌}
use native.Mathlib.Omega.{arith}
use native.Mathlib.Nat.{le_refl, le_trans}
use lib.ListN.{length-append}
use Rattle.maps.specs.declared.Port.{Port}
use Rattle.registers.specs.Machine.{Machine}
use Rattle.transfers.specs.declared.Way.{Way}
use Rattle.transfers.specs.declared.Way.TheVariants.{In, Out}
use Rattle.card.specs.declared.Meaning.{Meaning}
use Rattle.card.specs.declared.Meaning.TheVariants.{TupleByte, ReadOption, WriteOption, ReadRegister, WriteRegister, ReadData, WriteData}
use Rattle.card.specs.Access.{Asked, meaning}
use Rattle.card.specs.Perform.{perform}
use Rattle.kept.specs.Sound.{Sound}
use Rattle.kept.proofs.Step.{sound-played}
use Rattle.account.specs.Plain.{Plain}
use Rattle.account.specs.CommandRows.{CommandRow}
use Rattle.account.specs.Table.{account}
use Rattle.account.specs.Host.{GoesBy, MovesBy, Hosted, hosted_by, meanings_by, meanings}
use Rattle.account.specs.Notes.{Waiting, None, LowByte, HighByte, Notes, note, note_data, note_read, note_written}
use Rattle.hosts.specs.Live.{noted}
use Rattle.hosts.specs.Hosts.{onward, Going}
use Rattle.account.proofs.Rest.{Rel, notes}
use Rattle.account.proofs.Theorem.{goes_on, hosted_plays}
use Rattle.answers.specs.Answers.{Outcome}

-- ---- notes never shrink

data_grows : (port : Port) (w : Waiting) (x : ℕ) (l : List ℕ) → noted (notes l w) ≤ noted (note_data port w x (notes l w))
data_grows Port.Even None x l = omega arith
data_grows Port.Even (LowByte b) x l = let k = length-append l (b ∷ x ∷ []) in omega arith
data_grows Port.Even (HighByte b) x l = let k = length-append l (x ∷ b ∷ []) in omega arith
data_grows Port.Odd None x l = omega arith
data_grows Port.Odd (LowByte b) x l = let k = length-append l (b ∷ x ∷ []) in omega arith
data_grows Port.Odd (HighByte b) x l = omega arith
data_grows Port.Word None x l = let k = length-append l (x % 256 ∷ x / 256 ∷ []) in omega arith
data_grows Port.Word (LowByte b) x l = omega arith
data_grows Port.Word (HighByte b) x l = omega arith

read_grows : (o : Outcome) (port : Port) (q : Notes) → noted q ≤ noted (note_read o port q)
read_grows (Ok v) port q = data_grows port q.waiting v q.done
read_grows (Err r) port q = le_refl _

written_grows : (o : Outcome) (port : Port) (v : ℕ) (q : Notes) → noted q ≤ noted (note_written o port v q)
written_grows (Ok n) port v q = data_grows port q.waiting _ q.done
written_grows (Err r) port v q = le_refl _

note_grows : (way : Way) (x : Meaning) (o : Outcome) (q : Notes) → noted q ≤ noted (note way x o q)
unfolding note
note_grows way (Meaning.Refused r) o q = le_refl _
note_grows way (TupleByte b) o q = le_refl _
note_grows way ReadOption o q = le_refl _
note_grows way (WriteOption v) o q = le_refl _
note_grows way (ReadRegister r) o q = le_refl _
note_grows way (WriteRegister r v) o q = le_refl _
note_grows In (ReadData port) o q = read_grows o port q
note_grows In (WriteData port v) o q = le_refl _
note_grows Out (ReadData port) o q = le_refl _
note_grows Out (WriteData port v) o q = written_grows o port v q

pub grows : (way : Way) (l : List Meaning) (m : Machine) (q : Notes) → noted q ≤ noted (hosted_by way m q l).notes
unfolding hosted_by
grows way [] m q = le_refl _
grows way (x ∷ l) m q =
    let n = note way x (perform x m).outcome q in
    le_trans (note_grows way x (perform x m).outcome q) (grows way l (perform x m).next n)

-- ---- one list after the other

pub hosted_more : (way : Way) (l k : List Meaning) (m : Machine) (q : Notes) → hosted_by way m q (l ++ k) ≡ hosted_by way (hosted_by way m q l).machine (hosted_by way m q l).notes k
unfolding hosted_by
hosted_more way [] k m q = refl
hosted_more way (x ∷ l) k m q = hosted_more way l k (perform x m).next (note way x (perform x m).outcome q)

goes_more : (way : Way) (l k : List Meaning) (m : Machine) (q : Notes) → GoesBy m l → GoesBy (hosted_by way m q l).machine k → GoesBy m (l ++ k)
unfolding hosted_by
goes_more way [] k m q g x = x
goes_more way (y ∷ l) k m q g x = (g.0, g.1, goes_more way l k (perform y m).next (note way y (perform y m).outcome q) g.2 x)

moves_more : (way : Way) (l k : List Meaning) (m : Machine) (q : Notes) → GoesBy m l → MovesBy (hosted_by way m q l).machine k → MovesBy m (l ++ k)
unfolding hosted_by
moves_more way [] k m q g x = x
moves_more way (y ∷ l) k m q g x = (g.0, g.1, moves_more way l k (perform y m).next (note way y (perform y m).outcome q) g.2 x)

module _ {A : Type 0} (means : Machine → A → Meaning) (way : Way) where
  meanings_at : (l k : List A) (m : Machine) (q : Notes) → meanings_by means m (l ++ k) ≡ meanings_by means m l ++ meanings_by means (hosted_by way m q (meanings_by means m l)).machine k
  unfolding hosted_by
  meanings_at [] k m q = refl
  meanings_at (a ∷ l) k m q =
      ap (λ (r : List Meaning). means m a ∷ r) (meanings_at l k (perform (means m a) m).next (note way (means m a) (perform (means m a) m).outcome q))

  pub meanings-append : (h : Hosted) (l k : List A) → meanings_by means h.machine (l ++ k) ≡ meanings_by means h.machine l ++ meanings_by means (onward means way h l).machine k
  meanings-append h l k = meanings_at l k h.machine h.notes

  pub onward-append : (h : Hosted) (l k : List A) → onward means way h (l ++ k) ≡ onward means way (onward means way h l) k
  onward-append h l k =
      ap (hosted_by way h.machine h.notes) (meanings-append h l k)
      ∙ hosted_more way (meanings_by means h.machine l) (meanings_by means (onward means way h l).machine k) h.machine h.notes

  pub going-append : (h : Hosted) (l k : List A) → Going means way h l → Going means way (onward means way h l) k → Going means way h (l ++ k)
  going-append h l k g x =
      subst (GoesBy h.machine) (sym (meanings-append h l k)) (goes_more way (meanings_by means h.machine l) (meanings_by means (onward means way h l).machine k) h.machine h.notes g x)

  pub moves-append : (h : Hosted) (l k : List A) → Going means way h l → MovesBy (onward means way h l).machine (meanings_by means (onward means way h l).machine k) →
      MovesBy h.machine (meanings_by means h.machine (l ++ k))
  moves-append h l k g x =
      subst (MovesBy h.machine) (sym (meanings-append h l k)) (moves_more way (meanings_by means h.machine l) (meanings_by means (onward means way h l).machine k) h.machine h.notes g x)

-- ---- wherever a host has got to by its accesses

abbrev pub Stands : CommandRow → Plain → Way → Hosted → Type 0
Stands row p way h = Sound h.machine × Rel way (account row p) h.machine h.notes

pub reached : (row : CommandRow) (p : Plain) (way : Way) (h : Hosted) (l : List Asked) → Stands row p way h → Going meaning way h l → Stands row p way (onward meaning way h l)
reached row p way h l s g = (
  subst Sound (sym (hosted_plays way h.machine h.notes l)) (sound-played l h.machine s.0),
  goes_on (account row p) way (meanings h.machine l) h.machine h.notes s.1 g,
)
