-- When the card asks no more, no access but a command or a reset changes anything of it, and the notes only grow.
use Rattle.std.proofs.Common.{Ok, Err}
use Prim.Native.Nat.{ℕ}
use mathlib.Core.Bool.{Bool, true, false, true≢false}
use mathlib.Core.Path.{◌≡◌, refl, sym, ap}
use mathlib.Core.List.{List, [], ◌++◌, append-nil}
use Rattle.ground.specs.Choice.{pick}
use Rattle.maps.specs.declared.Port.{Port}
use Rattle.registers.specs.declared.Phase.{Phase}
use Rattle.registers.specs.declared.Phase.TheVariants.{Idle, DataIn, DataOut}
use Rattle.registers.specs.declared.State.{State}
use Rattle.registers.specs.State.{runs, sreset_in}
use Rattle.registers.specs.Machine.{Machine}
use Rattle.transfers.specs.declared.Way.{Way}
use Rattle.transfers.specs.declared.Way.TheVariants.{In, Out}
use Rattle.port.specs.Data.{Effect, accepted, held_value, data_read, data_written, phase_read, phase_written}
use Rattle.card.specs.declared.Meaning.{Meaning}
use Rattle.card.specs.declared.Meaning.TheVariants.{TupleByte, ReadOption, WriteOption, ReadRegister, WriteRegister, ReadData, WriteData}
use Rattle.card.specs.Perform.{option_written, perform}
use Rattle.kept.specs.Lent.{store_marks_in}
use Rattle.kept.proofs.RegisterElim.{read_elim, set-elim}
use Rattle.account.specs.Host.{calm}
use Rattle.account.specs.Notes.{Waiting, None, LowByte, HighByte, Notes, note, note_data, note_read, note_written, sent}
use Rattle.sectors.specs.Sectors.{StoreMarks}
use Rattle.account.proofs.Aside.{state_in, option_aside, register_aside}
use Rattle.account.proofs.Rest.{notes}
use Rattle.answers.specs.Answers.{Outcome}

abbrev pub Rests : StoreMarks → Machine → Type 0
Rests k m = (m.phase ≡ Idle) × (m.state.control.held ≡ false) × (sreset_in m.state.option ≡ false) × (store_marks_in m ≡ k)

module _ (k : StoreMarks) where
  idle_read : (f : Phase) (port : Port) (m : Machine) → f ≡ Idle → Rests k m → Rests k (phase_read f port m).next
  idle_read Idle port m e z = z
  idle_read (DataIn t) port m e z = absurd (true≢false (ap runs e))
  idle_read (DataOut t) port m e z = z

  idle-written : (f : Phase) (port : Port) (v : ℕ) (m : Machine) → f ≡ Idle → Rests k m → Rests k (phase_written f port v m).next
  idle-written Idle port v m e z = z
  idle-written (DataIn t) port v m e z = z
  idle-written (DataOut t) port v m e z = absurd (true≢false (ap runs e))

  held_or : (b : Bool) (v : ℕ) (x : Effect) (m : Machine) → Rests k m → Rests k x.next → Rests k (pick b (accepted v m) x).next
  held_or true v x m z y = z
  held_or false v x m z y = y

  pub rests : (x : Meaning) (m : Machine) → calm x ≡ true → Rests k m → Rests k (perform x m).next
  unfolding perform option_written data_read data_written
  rests (Meaning.Refused r) m c z = z
  rests (TupleByte b) m c z = z
  rests ReadOption m c z = z
  rests (WriteOption v) m c z = option_aside (Rests k) m v z.2 c (λ h. (z.0, z.1, h, z.3))
  rests (ReadRegister r) m c z = read_elim (λ (s : State). Rests k (state_in s m)) r m.state z z
  rests (WriteRegister r v) m c z =
      register_aside (Rests k) m r v z.1 c z (λ i. set-elim (λ (s : State). Rests k (state_in s m)) r v m.state z z (λ a. z)) (λ b. z)
  rests (ReadData port) m c z = held_or m.state.control.held (held_value port) (phase_read m.phase port m) m z (idle_read m.phase port m z.0 z)
  rests (WriteData port v) m c z = held_or m.state.control.held 0 (phase_written m.phase port v m) m z (idle-written m.phase port v m z.0 z)

-- the notes only grow
abbrev pub More : List ℕ → List ℕ → Type 0
More l k = (d : List ℕ) × (k ≡ l ++ d)

same : (l : List ℕ) → More l l
same l = ([], sym (append-nil l))

data_more : (port : Port) (w : Waiting) (v : ℕ) (l : List ℕ) → More l (note_data port w v (notes l w)).done
data_more Port.Word None v l = (_, refl)
data_more Port.Word (LowByte b) v l = same l
data_more Port.Word (HighByte b) v l = same l
data_more Port.Even None v l = same l
data_more Port.Even (LowByte b) v l = (_, refl)
data_more Port.Even (HighByte b) v l = (_, refl)
data_more Port.Odd None v l = same l
data_more Port.Odd (LowByte b) v l = (_, refl)
data_more Port.Odd (HighByte b) v l = same l

read_more : (o : Outcome) (port : Port) (q : Notes) → More q.done (note_read o port q).done
read_more (Ok v) port q = data_more port q.waiting v q.done
read_more (Err r) port q = same q.done

written_more : (o : Outcome) (port : Port) (v : ℕ) (q : Notes) → More q.done (note_written o port v q).done
written_more (Ok n) port v q = data_more port q.waiting (sent port v) q.done
written_more (Err r) port v q = same q.done

pub note_more : (way : Way) (x : Meaning) (o : Outcome) (q : Notes) → More q.done (note way x o q).done
unfolding note
note_more way (Meaning.Refused r) o q = same q.done
note_more way (TupleByte b) o q = same q.done
note_more way ReadOption o q = same q.done
note_more way (WriteOption v) o q = same q.done
note_more way (ReadRegister r) o q = same q.done
note_more way (WriteRegister r v) o q = same q.done
note_more In (ReadData port) o q = read_more o port q
note_more In (WriteData port v) o q = same q.done
note_more Out (ReadData port) o q = same q.done
note_more Out (WriteData port v) o q = written_more o port v q

pub is_idle : (f : Phase) → runs f ≡ false → f ≡ Idle
is_idle Idle e = refl
is_idle (DataIn t) e = absurd (true≢false e)
is_idle (DataOut t) e = absurd (true≢false e)
