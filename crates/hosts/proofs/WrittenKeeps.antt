-- Each access keeps what a write has stored.
use Prim.Native.Nat.{ℕ, ◌+◌, ◌*◌, ◌/◌, ◌%◌, ◌<◌}
use mathlib.Core.Bool.{true, false≢true, true≢false}
use mathlib.Core.Path.{◌≡◌, refl, sym, ◌∙◌}
use mathlib.Core.List.{List, [], ◌∷◌, ◌++◌}
use native.Mathlib.Omega.{arith}
use lib.ListN.{length, take, set, get_or, length-set}
use Rattle.maps.specs.declared.Port.{Port}
use Rattle.registers.specs.declared.Half.{Half}
use Rattle.registers.specs.declared.Load.{Load}
use Rattle.registers.specs.declared.Load.TheVariants.{Sectors, Buffer}
use Rattle.registers.specs.declared.Transfer.{Transfer}
use Rattle.registers.specs.declared.Phase.{Phase}
use Rattle.registers.specs.declared.Phase.TheVariants.{Idle, DataIn, DataOut}
use Rattle.registers.specs.declared.State.{State}
use Rattle.sectors.specs.Sectors.{StoreMarks}
use Rattle.registers.specs.State.{runs}
use Rattle.kept.specs.Lent.{store_marks_in}
use Rattle.registers.specs.Machine.{Machine, with_buffer}
use Rattle.port.specs.declared.Part.{Part}
use Rattle.port.specs.Halves.{take_of, halved}
use Rattle.port.specs.Data.{with_phase, word_written, taken_written, phase_read, phase_written}
use Rattle.transfers.specs.declared.Way.{Way}
use Rattle.transfers.specs.declared.Way.TheVariants.{In, Out}
use Rattle.card.specs.declared.Meaning.{Meaning}
use Rattle.card.specs.declared.Meaning.TheVariants.{TupleByte, ReadOption, WriteOption, ReadRegister, WriteRegister, ReadData, WriteData}
use Rattle.card.specs.Perform.{option_written, perform}
use Rattle.kept.proofs.RegisterElim.{read_elim}
use Rattle.account.specs.Plain.{Plain, Account}
use Rattle.account.specs.Host.{plain_of, calm, asks}
use Rattle.account.specs.Notes.{Waiting, None, LowByte, HighByte, Notes, note, note_written}
use Rattle.account.proofs.Aside.{state_in, option_aside, register_aside}
use Rattle.account.proofs.Rest.{here, Ground, Running, Pending, Waits, Rel, notes}
use Rattle.account.proofs.WordWritten.{set-whole, set-high, set-low, low_kept, high_kept}
use Rattle.account.proofs.Keeps.{free_read, free_written, keeps}
use Rattle.hosts.proofs.Written.{Target, Nowhere, From, LoadLies, LiesAt, Lies}
use Rattle.hosts.proofs.WrittenWord.{word_lies}

-- reading moves nothing to the store
pub in_lies : (g : Target) (f : Phase) (p : Plain) (m : Machine) (q : Waiting) (l : List ℕ) → Waits In f (plain_of m) q → LiesAt g f p (here m.state) m.buffer (store_marks_in m) l
in_lies g Idle p m q l h = tt
in_lies g (DataIn t) p m q l h = tt
in_lies g (DataOut t) p m q l h = absurd h

module _ (g : Target) (p : Plain) where
  -- a half word that stands in the buffer changes nothing
  same_front : (a : Load) (h w : ℕ) (b o : List ℕ) (q : StoreMarks) (l : List ℕ) → take (2 * w) b ≡ take (2 * w) o → LoadLies g a p h w o q l → LoadLies g a p h w b q l
  same_front a h w b o q l e z = go g a z
    where
      go : (x : Target) (y : Load) → LoadLies x y p h w o q l → LoadLies x y p h w b q l
      go Nowhere Buffer u = tt
      go Nowhere (Sectors n pace) u = absurd u
      go (From i) Buffer u = absurd u
      go (From i) (Sectors n pace) u = record { k = u.k; size = u.size; stored = λ j d. rw e (u.stored j d); marked = u.marked; counted = u.counted }

  module _ (t : Transfer) (m : Machine) (l : List ℕ) (w : Waiting) (o : Ground Out m) (r : Running Out t (plain_of m) w)
      (z : LoadLies g t.load p (here m.state) t.words m.buffer (store_marks_in m) l) where
    inside : 2 * t.words + 1 < length m.buffer
    inside = let x = r.0 in let y = r.1 in omega arith

    whole-written : (b : List ℕ) (x y : ℕ) → length b ≡ 512 → take (2 * (t.words + 1)) b ≡ take (2 * t.words) m.buffer ++ (x ∷ y ∷ []) →
        Lies g p (word_written t (with_buffer b m)) (l ++ (x ∷ y ∷ []))
    unfolding word_written
    whole-written b x y e q = word_lies _ g p t m b l x y refl r.0 e q o r.4 z

    low-written : (v : ℕ) → Lies g p (with_phase (DataOut (halved Part.Low t)) (with_buffer (set m.buffer (2 * t.words) v) m)) l
    low-written v = same_front t.load (here m.state) t.words _ m.buffer (store_marks_in m) l (low_kept m.buffer t.words inside v) z

    high-written : (v : ℕ) → Lies g p (with_phase (DataOut (halved Part.High t)) (with_buffer (set m.buffer (2 * t.words + 1) v) m)) l
    high-written v = same_front t.load (here m.state) t.words _ m.buffer (store_marks_in m) l (high_kept m.buffer t.words inside v) z

    high_last : (x v : ℕ) → x ≡ get_or m.buffer (2 * t.words) 0 → Lies g p (word_written t (with_buffer (set m.buffer (2 * t.words + 1) v) m)) (l ++ (x ∷ v ∷ []))
    high_last x v e = whole-written (set m.buffer (2 * t.words + 1) v) x v (length-set m.buffer (2 * t.words + 1) v ∙ r.1) (rw e (set-high m.buffer t.words inside v))

    low_last : (x v : ℕ) → x ≡ get_or m.buffer (2 * t.words + 1) 0 → Lies g p (word_written t (with_buffer (set m.buffer (2 * t.words) v) m)) (l ++ (v ∷ x ∷ []))
    low_last x v e = whole-written (set m.buffer (2 * t.words) v) v x (length-set m.buffer (2 * t.words) v ∙ r.1) (rw e (set-low m.buffer t.words inside v))

    both : (x y : ℕ) → Lies g p (word_written t (with_buffer (set (set m.buffer (2 * t.words) x) (2 * t.words + 1) y) m)) (l ++ (x ∷ y ∷ []))
    both x y =
        whole-written (set (set m.buffer (2 * t.words) x) (2 * t.words + 1) y) x y
        (length-set (set m.buffer (2 * t.words) x) (2 * t.words + 1) y ∙ length-set m.buffer (2 * t.words) x ∙ r.1)
        (set-whole m.buffer t.words inside x y)

  taken_lies : (h : Half) (w : Waiting) (port : Port) (v : ℕ) (t : Transfer) (m : Machine) (l : List ℕ) → Pending h w t.words m.buffer → Ground Out m → Running Out t (plain_of m) w →
      LoadLies g t.load p (here m.state) t.words m.buffer (store_marks_in m) l → Lies g p m l →
      Lies g p (taken_written (take_of h port) v t m).next (note_written (taken_written (take_of h port) v t m).outcome port v (notes l w)).done
  unfolding take_of
  taken_lies Half.Nothing None Port.Even v t m l e o r z y = low-written t m l None o r z (v % 256)
  taken_lies Half.Nothing None Port.Odd v t m l e o r z y = high-written t m l None o r z (v % 256)
  taken_lies Half.Nothing None Port.Word v t m l e o r z y = both t m l None o r z (v % 256) (v / 256)
  taken_lies Half.Nothing (LowByte b) port v t m l e o r z y = absurd e
  taken_lies Half.Nothing (HighByte b) port v t m l e o r z y = absurd e
  taken_lies Half.Low None port v t m l e o r z y = absurd e
  taken_lies Half.Low (LowByte b) Port.Even v t m l e o r z y = high_last t m l (LowByte b) o r z b (v % 256) e
  taken_lies Half.Low (LowByte b) Port.Odd v t m l e o r z y = high_last t m l (LowByte b) o r z b (v % 256) e
  taken_lies Half.Low (LowByte b) Port.Word v t m l e o r z y = y
  taken_lies Half.Low (HighByte b) port v t m l e o r z y = absurd e
  taken_lies Half.High None port v t m l e o r z y = absurd e
  taken_lies Half.High (LowByte b) port v t m l e o r z y = absurd e
  taken_lies Half.High (HighByte b) Port.Even v t m l e o r z y = low_last t m l (HighByte b) o r z b (v % 256) e
  taken_lies Half.High (HighByte b) Port.Odd v t m l e o r z y = y
  taken_lies Half.High (HighByte b) Port.Word v t m l e o r z y = y

  write_out : (f : Phase) (port : Port) (v : ℕ) (m : Machine) (q : Notes) → runs f ≡ true → Waits Out f (plain_of m) q.waiting → Ground Out m →
      LiesAt g f p (here m.state) m.buffer (store_marks_in m) q.done → Lies g p m q.done →
      Lies g p (phase_written f port v m).next (note_written (phase_written f port v m).outcome port v q).done
  write_out Idle port v m q e h o z y = absurd (false≢true e)
  write_out (DataIn t) port v m q e h o z y = absurd h
  write_out (DataOut t) port v m q e h o z y = taken_lies t.half q.waiting port v t m q.done h.3 o h z y

  read_out : (f : Phase) (port : Port) (m : Machine) (q : Notes) → Waits Out f (plain_of m) q.waiting → Lies g p m q.done → Lies g p (phase_read f port m).next q.done
  read_out Idle port m q h z = z
  read_out (DataIn t) port m q h z = absurd h
  read_out (DataOut t) port m q h z = z

  out_lies : (plain : List ℕ → Account) (x : Meaning) (m : Machine) (q : Notes) → calm x ≡ true → asks m ≡ true → Rel Out plain m q → Lies g p m q.done →
      Lies g p (perform x m).next (note Out x (perform x m).outcome q).done
  unfolding perform note option_written
  out_lies plain (Meaning.Refused r) m q c e y z = z
  out_lies plain (TupleByte b) m q c e y z = z
  out_lies plain ReadOption m q c e y z = z
  out_lies plain (WriteOption v) m q c e y z = option_aside (λ (n : Machine). Lies g p n q.done) m v y.ground.4 c (λ h. z)
  out_lies plain (ReadRegister r) m q c e y z = read_elim (λ (s : State). Lies g p (state_in s m) q.done) r m.state z z
  out_lies plain (WriteRegister r v) m q c e y z =
      register_aside (λ (n : Machine). Lies g p n q.done) m r v y.ground.3 c z (λ i. absurd (true≢false (sym e ∙ i))) (λ k. z)
  out_lies plain (ReadData port) m q c e y z = rw (free_read plain port m y.ground.3) (read_out m.phase port m q y.waits z)
  out_lies plain (WriteData port v) m q c e y z = rw (free_written plain port v m y.ground.3) (write_out m.phase port v m q e y.waits y.ground z z)

  -- an access while the card asks
  pub lies_step : (plain : List ℕ → Account) (way : Way) (x : Meaning) (m : Machine) (q : Notes) → calm x ≡ true → asks m ≡ true → Rel way plain m q → Lies g p m q.done →
      Lies g p (perform x m).next (note way x (perform x m).outcome q).done
  lies_step plain In x m q c e y z = let k = keeps plain In x m q c e y in in_lies g (perform x m).next.phase p (perform x m).next _ _ k.waits
  lies_step plain Out x m q c e y z = out_lies plain x m q c e y z
