-- Every access that is no reset and no command keeps the account, whatever it means.
use Prim.Native.Nat.{ℕ}
use mathlib.Core.Bool.{true, false, false≢true, true≢false}
use mathlib.Core.Path.{◌≡◌, sym, ◌∙◌}
use mathlib.Core.List.{List, ◌++◌, append-nil}
use Rattle.maps.specs.declared.Port.{Port}
use Rattle.registers.specs.declared.Phase.{Phase}
use Rattle.registers.specs.declared.Phase.TheVariants.{Idle, DataIn, DataOut}
use Rattle.registers.specs.declared.State.{State}
use Rattle.registers.specs.State.{runs}
use Rattle.registers.specs.Machine.{Machine}
use Rattle.port.specs.Data.{data_read, data_written, phase_read, phase_written}
use Rattle.transfers.specs.declared.Way.{Way}
use Rattle.transfers.specs.declared.Way.TheVariants.{In, Out}
use Rattle.card.specs.declared.Meaning.{Meaning}
use Rattle.card.specs.declared.Meaning.TheVariants.{TupleByte, ReadOption, WriteOption, ReadRegister, WriteRegister, ReadData, WriteData}
use Rattle.card.specs.Perform.{perform}
use Rattle.kept.proofs.RegisterElim.{read_elim}
use Rattle.account.specs.Plain.{Account, moving}
use Rattle.account.specs.Host.{plain_of, calm, asks}
use Rattle.account.specs.Notes.{Waiting, None, Notes, note, note_read, note_written}
use Rattle.account.proofs.Aside.{state_in, option_aside, register_aside}
use Rattle.account.proofs.Rest.{rest_at, outcome, Waits, Rel}
use Rattle.account.proofs.ReadKeeps.{read_keeps}
use Rattle.account.proofs.WriteKeeps.{write_keeps}

module _ (plain : List ℕ → Account) where
  -- data, the command's way and the other
  read_in_lem : (f : Phase) (port : Port) (m : Machine) (q : Notes) → runs f ≡ true → Waits In f (plain_of m) q.waiting →
      ((d : List ℕ) → plain (q.done ++ d) ≡ moving q.done (rest_at f (plain_of m) d)) → Rel In plain m q →
      Rel In plain (phase_read f port m).next (note_read (phase_read f port m).outcome port q)
  read_in_lem Idle port m q e h a z = absurd (false≢true e)
  read_in_lem (DataIn t) port m q e h a z = read_keeps plain t port m q z.ground h a z
  read_in_lem (DataOut t) port m q e h a z = absurd h

  write_out : (f : Phase) (port : Port) (v : ℕ) (m : Machine) (q : Notes) → runs f ≡ true → Waits Out f (plain_of m) q.waiting →
      ((d : List ℕ) → plain (q.done ++ d) ≡ moving q.done (rest_at f (plain_of m) d)) → Rel Out plain m q →
      Rel Out plain (phase_written f port v m).next (note_written (phase_written f port v m).outcome port v q)
  write_out Idle port v m q e h a z = absurd (false≢true e)
  write_out (DataIn t) port v m q e h a z = absurd h
  write_out (DataOut t) port v m q e h a z = write_keeps plain t port v m q z.ground h a z

  read_out : (f : Phase) (port : Port) (m : Machine) (q : Notes) → Waits Out f (plain_of m) q.waiting → Rel Out plain m q → Rel Out plain (phase_read f port m).next q
  read_out Idle port m q h z = z
  read_out (DataIn t) port m q h z = absurd h
  read_out (DataOut t) port m q h z = z

  write_in : (f : Phase) (port : Port) (v : ℕ) (m : Machine) (q : Notes) → Waits In f (plain_of m) q.waiting → Rel In plain m q → Rel In plain (phase_written f port v m).next q
  write_in Idle port v m q h z = z
  write_in (DataIn t) port v m q h z = z
  write_in (DataOut t) port v m q h z = absurd h

  pub free_read : (port : Port) (m : Machine) → m.state.control.held ≡ false → data_read port m ≡ phase_read m.phase port m
  unfolding data_read
  free_read port m h = rw h

  pub free_written : (port : Port) (v : ℕ) (m : Machine) → m.state.control.held ≡ false → data_written port v m ≡ phase_written m.phase port v m
  unfolding data_written
  free_written port v m h = rw h

  -- an access
  pub keeps : (way : Way) (x : Meaning) (m : Machine) (q : Notes) → calm x ≡ true → asks m ≡ true → Rel way plain m q → Rel way plain (perform x m).next (note way x (perform x m).outcome q)
  unfolding perform note
  keeps way (Meaning.Refused r) m q c e z = z
  keeps way (TupleByte b) m q c e z = z
  keeps way ReadOption m q c e z = z
  keeps way (WriteOption v) m q c e z =
      let g = z.ground in
      option_aside (λ (n : Machine). Rel way plain n q) m v g.4 c (λ h. record { account = z.account; ground = (g.0, g.1, g.2, g.3, h); waits = z.waits })
  keeps way (ReadRegister r) m q c e z = read_elim (λ (s : State). Rel way plain (state_in s m) q) r m.state z (record { account = z.account; ground = z.ground; waits = z.waits })
  -- "While DRQ is set, writes to 1..6 and D have no effect"
  keeps way (WriteRegister r v) m q c e z =
      register_aside (λ (n : Machine). Rel way plain n q) m r v z.ground.3 c z (λ i. absurd (true≢false (sym e ∙ i))) (λ k. record { account = z.account; ground = z.ground; waits = z.waits })
  keeps In (ReadData port) m q c e z = rw (free_read port m z.ground.3) (read_in_lem m.phase port m q e z.waits z.account z)
  keeps In (WriteData port v) m q c e z = rw (free_written port v m z.ground.3) (write_in m.phase port v m q z.waits z)
  keeps Out (ReadData port) m q c e z = rw (free_read port m z.ground.3) (read_out m.phase port m q z.waits z)
  keeps Out (WriteData port v) m q c e z = rw (free_written port v m z.ground.3) (write_out m.phase port v m q e z.waits z.account z)

  -- the end
  pub closes : (f : Phase) (m : Machine) (l : List ℕ) → runs f ≡ false → ((d : List ℕ) → plain (l ++ d) ≡ moving l (rest_at f (plain_of m) d)) → (d : List ℕ) → plain (l ++ d) ≡ outcome (plain_of m) l
  unfolding rest_at
  closes Idle m l e a d = simp append-nil at (a d)
  closes (DataIn t) m l e a d = absurd (true≢false e)
  closes (DataOut t) m l e a d = absurd (true≢false e)

-- and nothing waits
pub none-waits : (way : Way) (f : Phase) (m : Machine) (q : Waiting) → runs f ≡ false → Waits way f (plain_of m) q → q ≡ None
none-waits In Idle m q e h = h
none-waits In (DataIn t) m q e h = absurd (true≢false e)
none-waits In (DataOut t) m q e h = absurd h
none-waits Out Idle m q e h = h
none-waits Out (DataIn t) m q e h = absurd h
none-waits Out (DataOut t) m q e h = absurd (true≢false e)
