-- Writing: each write of the data port keeps the account.
use Prim.Native.Nat.{ℕ, ◌+◌, ◌*◌, ◌/◌, ◌%◌, ◌<◌}
use mathlib.Core.Path.{◌≡◌, refl, ◌∙◌}
use mathlib.Core.List.{List, [], ◌∷◌, ◌++◌}
use native.Mathlib.Omega.{arith}
use lib.ListN.{length, take, set, get_or, length-set}
use Rattle.maps.specs.declared.Port.{Port}
use Rattle.registers.specs.declared.Half.{Half}
use Rattle.registers.specs.declared.Transfer.{Transfer}
use Rattle.registers.specs.declared.Phase.TheVariants.{DataOut}
use Rattle.registers.specs.Machine.{Machine, with_buffer}
use Rattle.port.specs.declared.Part.{Part}
use Rattle.port.specs.Halves.{take_of, halved}
use Rattle.port.specs.Data.{with_phase, word_written, taken_written, phase_written}
use Rattle.transfers.specs.declared.Way.TheVariants.{Out}
use Rattle.account.specs.Plain.{Account, moving}
use Rattle.account.specs.Host.{plain_of}
use Rattle.account.specs.Notes.{Waiting, None, LowByte, HighByte, Notes, note_written}
use Rattle.account.proofs.Rest.{rest_at, rest, Ground, Running, Pending, Rel, notes, account-word}
use Rattle.account.proofs.Writing.{done_over}
use Rattle.account.proofs.WordWritten.{word_written_rest, set-whole, set-high, set-low, low_kept, high_kept, low_stands, high_stands}
use Rattle.account.proofs.WriteBetween.{word_written_between}

module _ (plain : List ℕ → Account) (t : Transfer) (m : Machine) (l : List ℕ) (w : Waiting) (g : Ground Out m) (r : Running Out t (plain_of m) w)
    (a : (d : List ℕ) → plain (l ++ d) ≡ moving l (rest_at (DataOut t) (plain_of m) d)) where
  inside : 2 * t.words + 1 < length m.buffer
  inside = let x = r.0 in let y = r.1 in omega arith

  whole-written : (b : List ℕ) (x y : ℕ) → length b ≡ 512 → take (2 * (t.words + 1)) b ≡ take (2 * t.words) m.buffer ++ (x ∷ y ∷ []) →
      Rel Out plain (word_written t (with_buffer b m)) (notes (l ++ (x ∷ y ∷ [])) None)
  unfolding word_written
  whole-written b x y e o =
      let z = word_written_between _ t m b w refl e g r in
      record {
        account = account-word plain (rest_at (DataOut t) (plain_of m)) (rest (word_written t (with_buffer b m))) l x y
            (λ d. word_written_rest _ t m b x y d refl r.0 e o g.0 g.1 r.4) a;
        ground = z.0;
        waits = z.1;
      }

  low-written : (v : ℕ) → Rel Out plain (with_phase (DataOut (halved Part.Low t)) (with_buffer (set m.buffer (2 * t.words) v) m)) (notes l (LowByte v))
  unfolding rest_at
  low-written v = record {
    account = λ d. rw (low_kept m.buffer t.words inside v, done_over t.load (plain_of m) (set m.buffer (2 * t.words) v)) (a d);
    ground = g;
    waits = (r.0, length-set m.buffer (2 * t.words) v ∙ r.1, tt, low_stands m.buffer t.words inside v, r.4);
  }

  high-written : (v : ℕ) → Rel Out plain (with_phase (DataOut (halved Part.High t)) (with_buffer (set m.buffer (2 * t.words + 1) v) m)) (notes l (HighByte v))
  unfolding rest_at
  high-written v = record {
    account = λ d. rw (high_kept m.buffer t.words inside v, done_over t.load (plain_of m) (set m.buffer (2 * t.words + 1) v)) (a d);
    ground = g;
    waits = (r.0, length-set m.buffer (2 * t.words + 1) v ∙ r.1, tt, high_stands m.buffer t.words inside v, r.4);
  }

  -- the second half of a word: the first one, x, stands in the buffer
  high_last : (x v : ℕ) → x ≡ get_or m.buffer (2 * t.words) 0 → Rel Out plain (word_written t (with_buffer (set m.buffer (2 * t.words + 1) v) m)) (notes (l ++ (x ∷ v ∷ [])) None)
  high_last x v e = whole-written (set m.buffer (2 * t.words + 1) v) x v (length-set m.buffer (2 * t.words + 1) v ∙ r.1) (rw e (set-high m.buffer t.words inside v))

  low_last : (x v : ℕ) → x ≡ get_or m.buffer (2 * t.words + 1) 0 → Rel Out plain (word_written t (with_buffer (set m.buffer (2 * t.words) v) m)) (notes (l ++ (v ∷ x ∷ [])) None)
  low_last x v e = whole-written (set m.buffer (2 * t.words) v) v x (length-set m.buffer (2 * t.words) v ∙ r.1) (rw e (set-low m.buffer t.words inside v))

  both : (x y : ℕ) → Rel Out plain (word_written t (with_buffer (set (set m.buffer (2 * t.words) x) (2 * t.words + 1) y) m)) (notes (l ++ (x ∷ y ∷ [])) None)
  both x y =
      whole-written (set (set m.buffer (2 * t.words) x) (2 * t.words + 1) y) x y
      (length-set (set m.buffer (2 * t.words) x) (2 * t.words + 1) y ∙ length-set m.buffer (2 * t.words) x ∙ r.1)
      (set-whole m.buffer t.words inside x y)

taken_keeps : (plain : List ℕ → Account) (h : Half) (w : Waiting) (port : Port) (v : ℕ) (t : Transfer) (m : Machine) (l : List ℕ) →
    Pending h w t.words m.buffer → Ground Out m → Running Out t (plain_of m) w →
    ((d : List ℕ) → plain (l ++ d) ≡ moving l (rest_at (DataOut t) (plain_of m) d)) → Rel Out plain m (notes l w) →
    Rel Out plain (taken_written (take_of h port) v t m).next (note_written (taken_written (take_of h port) v t m).outcome port v (notes l w))
unfolding take_of
taken_keeps plain Half.Nothing None Port.Even v t m l p g r a z = low-written plain t m l None g r a (v % 256)
taken_keeps plain Half.Nothing None Port.Odd v t m l p g r a z = high-written plain t m l None g r a (v % 256)
taken_keeps plain Half.Nothing None Port.Word v t m l p g r a z = both plain t m l None g r a (v % 256) (v / 256)
taken_keeps plain Half.Nothing (LowByte b) port v t m l p g r a z = absurd p
taken_keeps plain Half.Nothing (HighByte b) port v t m l p g r a z = absurd p
taken_keeps plain Half.Low None port v t m l p g r a z = absurd p
taken_keeps plain Half.Low (LowByte b) Port.Even v t m l p g r a z = high_last plain t m l (LowByte b) g r a b (v % 256) p
taken_keeps plain Half.Low (LowByte b) Port.Odd v t m l p g r a z = high_last plain t m l (LowByte b) g r a b (v % 256) p
taken_keeps plain Half.Low (LowByte b) Port.Word v t m l p g r a z = z
taken_keeps plain Half.Low (HighByte b) port v t m l p g r a z = absurd p
taken_keeps plain Half.High None port v t m l p g r a z = absurd p
taken_keeps plain Half.High (LowByte b) port v t m l p g r a z = absurd p
taken_keeps plain Half.High (HighByte b) Port.Even v t m l p g r a z = low_last plain t m l (HighByte b) g r a b (v % 256) p
taken_keeps plain Half.High (HighByte b) Port.Odd v t m l p g r a z = z
taken_keeps plain Half.High (HighByte b) Port.Word v t m l p g r a z = z

pub write_keeps : (plain : List ℕ → Account) (t : Transfer) (port : Port) (v : ℕ) (m : Machine) (q : Notes) → Ground Out m → Running Out t (plain_of m) q.waiting →
    ((d : List ℕ) → plain (q.done ++ d) ≡ moving q.done (rest_at (DataOut t) (plain_of m) d)) → Rel Out plain m q →
    Rel Out plain (phase_written (DataOut t) port v m).next (note_written (phase_written (DataOut t) port v m).outcome port v q)
write_keeps plain t port v m q g r a z = taken_keeps plain t.half q.waiting port v t m q.done r.3 g r a z
