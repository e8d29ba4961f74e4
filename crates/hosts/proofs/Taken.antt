-- Wherever the card asks, every part of the data that fits is taken.
use Rattle.std.proofs.Common.{Ok, Some}
use Prim.Native.Nat.{ℕ, ◌+◌, ◌/◌, ◌%◌, ◌≤◌}
use mathlib.Core.Bool.{true, false≢true}
use mathlib.Core.Path.{◌≡◌, refl, ap, ◌∙◌}
use mathlib.Core.List.{List, [], ◌∷◌}
use native.Mathlib.Omega.{arith}
use lib.ListN.{length-append}
use Rattle.maps.specs.declared.Port.{Port}
use Rattle.registers.specs.declared.Half.{Half}
use Rattle.registers.specs.declared.Phase.{Phase}
use Rattle.registers.specs.declared.Phase.TheVariants.{Idle, DataIn, DataOut}
use Rattle.registers.specs.State.{runs}
use Rattle.registers.specs.Machine.{Machine}
use Rattle.port.specs.declared.Part.{Part}
use Rattle.port.specs.declared.Fill.{Fill}
use Rattle.port.specs.declared.Fill.TheVariants.{Begun, Full}
use Rattle.port.specs.Halves.{take_of, Take}
use Rattle.port.specs.Data.{taken_read, taken_written, phase_read, phase_written}
use Rattle.transfers.specs.declared.Way.{Way}
use Rattle.transfers.specs.declared.Way.TheVariants.{In, Out}
use Rattle.card.specs.Perform.{perform}
use Rattle.account.specs.Plain.{Account}
use Rattle.account.specs.Host.{plain_of, calm, asks, Hosted}
use Rattle.account.specs.Notes.{Waiting, None, LowByte, HighByte, Notes, note, note_data, sent}
use Rattle.hosts.specs.Live.{fits, width, most, Small, noted, moved, data_meaning, Taken}
use Rattle.account.proofs.Rest.{Pending, Waits, Rel, notes}
use Rattle.account.proofs.Keeps.{free_read, free_written}
use Rattle.answers.specs.Answers.{Outcome}

take-moves : (h : Half) (w : Waiting) (port : Port) (n : ℕ) (b : List ℕ) → Pending h w n b → fits w port ≡ true → (x : Part) × (y : Fill) × (take_of h port ≡ Some (x, y))
unfolding take_of
take-moves Half.Nothing None Port.Even n b p e = (Part.Low, Begun, refl)
take-moves Half.Nothing None Port.Odd n b p e = (Part.High, Begun, refl)
take-moves Half.Nothing None Port.Word n b p e = (Part.Both, Full, refl)
take-moves Half.Nothing (LowByte v) port n b p e = absurd p
take-moves Half.Nothing (HighByte v) port n b p e = absurd p
take-moves Half.Low None port n b p e = absurd p
take-moves Half.Low (LowByte v) Port.Even n b p e = (Part.High, Full, refl)
take-moves Half.Low (LowByte v) Port.Odd n b p e = (Part.High, Full, refl)
take-moves Half.Low (LowByte v) Port.Word n b p e = absurd (false≢true e)
take-moves Half.Low (HighByte v) port n b p e = absurd p
take-moves Half.High None port n b p e = absurd p
take-moves Half.High (LowByte v) port n b p e = absurd p
take-moves Half.High (HighByte v) Port.Even n b p e = (Part.Low, Full, refl)
take-moves Half.High (HighByte v) Port.Odd n b p e = absurd (false≢true e)
take-moves Half.High (HighByte v) Port.Word n b p e = absurd (false≢true e)

module _ (port : Port) (m : Machine) (w : Waiting) (e : fits w port ≡ true) where
  read_taken : (f : Phase) → runs f ≡ true → Waits In f (plain_of m) w → (b : ℕ) × ((phase_read f port m).outcome ≡ Ok b)
  read_taken Idle k h = absurd (false≢true k)
  read_taken (DataIn t) k h = let x = take-moves t.half w port t.words m.buffer h.3 e in (_, ap (λ (y : Take). (taken_read y t m).outcome) x.2)
  read_taken (DataOut t) k h = absurd h

  write_taken : (v : ℕ) (f : Phase) → runs f ≡ true → Waits Out f (plain_of m) w → (b : ℕ) × ((phase_written f port v m).outcome ≡ Ok b)
  write_taken v Idle k h = absurd (false≢true k)
  write_taken v (DataIn t) k h = absurd h
  write_taken v (DataOut t) k h = let x = take-moves t.half w port t.words m.buffer h.3 e in (0, ap (λ (y : Take). (taken_written y v t m).outcome) x.2)

  data_taken : (plain : List ℕ → Account) (way : Way) (v : ℕ) (l : List ℕ) → asks m ≡ true → Rel way plain m (notes l w) → (b : ℕ) × ((perform (data_meaning way port v) m).outcome ≡ Ok b)
  unfolding perform
  data_taken plain In v l k z = let x = read_taken m.phase k z.waits in (x.0, rw (free_read plain port m z.ground.3) x.1)
  data_taken plain Out v l k z = let x = write_taken v m.phase k z.waits in (x.0, rw (free_written plain port v m z.ground.3) x.1)

sent_is : (port : Port) (v : ℕ) → v ≤ most port → sent port v ≡ v
sent_is Port.Even v h = omega arith
sent_is Port.Odd v h = omega arith
sent_is Port.Word v h = refl

-- the part is noted
part_noted : (way : Way) (port : Port) (v b : ℕ) (q : Notes) → Small way port v → note way (data_meaning way port v) (Ok b) q ≡ note_data port q.waiting (moved way b v) q
unfolding note
part_noted In port v b q h = refl
part_noted Out port v b q h = ap (λ (k : ℕ). note_data port q.waiting k q) (sent_is port v h)

-- and counts
part_counts : (port : Port) (w : Waiting) (x : ℕ) (l : List ℕ) → fits w port ≡ true → noted (note_data port w x (notes l w)) ≡ noted (notes l w) + width port
part_counts Port.Even None x l e = omega arith
part_counts Port.Even (LowByte b) x l e = let k = length-append l (b ∷ x ∷ []) in omega arith
part_counts Port.Even (HighByte b) x l e = let k = length-append l (x ∷ b ∷ []) in omega arith
part_counts Port.Odd None x l e = omega arith
part_counts Port.Odd (LowByte b) x l e = let k = length-append l (b ∷ x ∷ []) in omega arith
part_counts Port.Odd (HighByte b) x l e = absurd (false≢true e)
part_counts Port.Word None x l e = let k = length-append l (x % 256 ∷ x / 256 ∷ []) in omega arith
part_counts Port.Word (LowByte b) x l e = absurd (false≢true e)
part_counts Port.Word (HighByte b) x l e = absurd (false≢true e)

data_calm : (way : Way) (port : Port) (v : ℕ) → calm (data_meaning way port v) ≡ true
data_calm In port v = refl
data_calm Out port v = refl

pub taken : (plain : List ℕ → Account) (way : Way) (port : Port) (value : ℕ) (h : Hosted) → Rel way plain h.machine h.notes → asks h.machine ≡ true →
    fits h.notes.waiting port ≡ true → Small way port value → Taken way h port value (data_meaning way port value)
taken plain way port value h z k f v =
    let m = h.machine in
    let q = h.notes in
    let x = data_taken port m q.waiting f plain way value q.done k z in
    let n : note way (data_meaning way port value) (perform (data_meaning way port value) m).outcome q ≡ note_data port q.waiting (moved way x.0 value) q =
    ap (λ (t : Outcome). note way (data_meaning way port value) t q) x.1 ∙ part_noted way port value x.0 q v in
    record {
      quiet = data_calm way port value;
      answer = x.0;
      accepted = x.1;
      part = n;
      bytes = ap noted n ∙ part_counts port q.waiting (moved way x.0 value) q.done f;
    }
