-- Reading: each read of the data port keeps the account.
use Prim.Native.Nat.{ℕ, ◌+◌, ◌*◌, ◌/◌, ◌%◌, ◌<◌}
use mathlib.Core.Path.{◌≡◌, refl}
use mathlib.Core.List.{List, [], ◌∷◌, ◌++◌}
use native.Mathlib.Omega.{arith}
use lib.ListN.{get_or}
use Rattle.maps.specs.declared.Port.{Port}
use Rattle.registers.specs.declared.Half.{Half}
use Rattle.registers.specs.declared.Transfer.{Transfer}
use Rattle.registers.specs.declared.Phase.TheVariants.{DataIn}
use Rattle.registers.specs.Machine.{Machine}
use Rattle.port.specs.Halves.{take_of, halved}
use Rattle.port.specs.declared.Part.{Part}
use Rattle.port.specs.Data.{with_phase, word_read, taken_read, phase_read}
use Rattle.transfers.specs.declared.Way.TheVariants.{In}
use Rattle.account.specs.Plain.{Account, moving}
use Rattle.account.specs.Host.{plain_of}
use Rattle.account.specs.Notes.{Waiting, None, LowByte, HighByte, Notes, note_read}
use Rattle.account.proofs.Rest.{rest_at, rest, Ground, Running, Pending, Rel, notes, account-word}
use Rattle.account.proofs.Reading.{word_rest}
use Rattle.account.proofs.ReadBetween.{word_between}

word_low : (l h : ℕ) → l < 256 → (l + 256 * h) % 256 ≡ l
word_low l h p = omega arith

word-high : (l h : ℕ) → l < 256 → (l + 256 * h) / 256 ≡ h
word-high l h p = omega arith

module _ (plain : List ℕ → Account) (t : Transfer) (m : Machine) (l : List ℕ) (w : Waiting) (g : Ground In m) (r : Running In t (plain_of m) w)
    (a : (d : List ℕ) → plain (l ++ d) ≡ moving l (rest_at (DataIn t) (plain_of m) d)) where
  whole_read : Rel In plain (word_read t m) (notes (l ++ (get_or m.buffer (2 * t.words) 0 ∷ get_or m.buffer (2 * t.words + 1) 0 ∷ [])) None)
  unfolding word_read
  whole_read =
      let z = word_between _ t m w refl g r in
      record {
        account = account-word plain (rest_at (DataIn t) (plain_of m)) (rest (word_read t m)) l (get_or m.buffer (2 * t.words) 0) (get_or m.buffer (2 * t.words + 1) 0)
            (λ d. word_rest _ t m d (get_or m.buffer (2 * t.words) 0 ∷ get_or m.buffer (2 * t.words + 1) 0 ∷ d) refl r.0 r.1 g.0 g.1 r.4) a;
        ground = z.0;
        waits = z.1;
      }

  low_read : Rel In plain (with_phase (DataIn (halved Part.Low t)) m) (notes l (LowByte (get_or m.buffer (2 * t.words) 0)))
  unfolding rest_at
  low_read = record { account = a; ground = g; waits = (r.0, r.1, r.2, refl, r.4) }

  high_read : Rel In plain (with_phase (DataIn (halved Part.High t)) m) (notes l (HighByte (get_or m.buffer (2 * t.words + 1) 0)))
  unfolding rest_at
  high_read = record { account = a; ground = g; waits = (r.0, r.1, r.2, refl, r.4) }

taken_keeps : (plain : List ℕ → Account) (h : Half) (w : Waiting) (port : Port) (t : Transfer) (m : Machine) (l : List ℕ) → Pending h w t.words m.buffer →
    Ground In m → Running In t (plain_of m) w →
    ((d : List ℕ) → plain (l ++ d) ≡ moving l (rest_at (DataIn t) (plain_of m) d)) → Rel In plain m (notes l w) →
    Rel In plain (taken_read (take_of h port) t m).next (note_read (taken_read (take_of h port) t m).outcome port (notes l w))
unfolding take_of
taken_keeps plain Half.Nothing None Port.Even t m l p g r a z = low_read plain t m l None g r a
taken_keeps plain Half.Nothing None Port.Odd t m l p g r a z = high_read plain t m l None g r a
taken_keeps plain Half.Nothing None Port.Word t m l p g r a z =
    rw (word_low (get_or m.buffer (2 * t.words) 0) (get_or m.buffer (2 * t.words + 1) 0) (r.2 _), word-high (get_or m.buffer (2 * t.words) 0) (get_or m.buffer (2 * t.words + 1) 0) (r.2 _))
    (whole_read plain t m l None g r a)
taken_keeps plain Half.Nothing (LowByte b) port t m l p g r a z = absurd p
taken_keeps plain Half.Nothing (HighByte b) port t m l p g r a z = absurd p
taken_keeps plain Half.Low None port t m l p g r a z = absurd p
taken_keeps plain Half.Low (LowByte b) Port.Even t m l p g r a z = rw p (whole_read plain t m l (LowByte b) g r a)
taken_keeps plain Half.Low (LowByte b) Port.Odd t m l p g r a z = rw p (whole_read plain t m l (LowByte b) g r a)
taken_keeps plain Half.Low (LowByte b) Port.Word t m l p g r a z = z
taken_keeps plain Half.Low (HighByte b) port t m l p g r a z = absurd p
taken_keeps plain Half.High None port t m l p g r a z = absurd p
taken_keeps plain Half.High (LowByte b) port t m l p g r a z = absurd p
taken_keeps plain Half.High (HighByte b) Port.Even t m l p g r a z = rw p (whole_read plain t m l (HighByte b) g r a)
taken_keeps plain Half.High (HighByte b) Port.Odd t m l p g r a z = z
taken_keeps plain Half.High (HighByte b) Port.Word t m l p g r a z = z

pub read_keeps : (plain : List ℕ → Account) (t : Transfer) (port : Port) (m : Machine) (q : Notes) → Ground In m → Running In t (plain_of m) q.waiting →
    ((d : List ℕ) → plain (q.done ++ d) ≡ moving q.done (rest_at (DataIn t) (plain_of m) d)) → Rel In plain m q →
    Rel In plain (phase_read (DataIn t) port m).next (note_read (phase_read (DataIn t) port m).outcome port q)
read_keeps plain t port m q g r a z = taken_keeps plain t.half q.waiting port t m q.done r.3 g r a z
