-- The theorem's hypotheses as tests that can be computed.
use Prim.Native.Nat.{ℕ, zero, suc}
use mathlib.Core.Bool.{Bool, true, ◌&&◌, not}
use mathlib.Core.Path.{◌≡◌}
use mathlib.Core.List.{List, [], ◌∷◌}
use native.Mathlib.Omega.{arith}
use lib.Dec.{eqb, ltb}
use lib.ListN.{length}
use borrow.Author.Tests.{not-true, ltb-true, eqb-true}
use Rattle.ground.specs.Choice.{every}
use Rattle.ground.proofs.Every.{each, and_left, and_right}
use Rattle.registers.specs.Machine.{Machine}
use Rattle.card.specs.Access.{Asked, meaning}
use Rattle.card.specs.Perform.{perform}
use Rattle.account.specs.Host.{calm, asks, Moves}
use Rattle.account.specs.Claim.{AllBytes, Typed}

-- the host's conduct as a test
unfoldable pub moves : Machine → List Asked → Bool
moves m [] = not (asks m)
moves m (a ∷ l) = let rest = moves (perform (meaning m a) m).next l in asks m && (calm (meaning m a) && rest)

pub moves_true : (l : List Asked) (m : Machine) → moves m l ≡ true → Moves m l
unfolding moves
moves_true [] m e = not-true _ e
moves_true (a ∷ l) m e =
    let p : calm (meaning m a) && moves (perform (meaning m a) m).next l ≡ true = and_right (asks m) _ e in
    (and_left (asks m) _ e, and_left (calm (meaning m a)) _ p, moves_true l (perform (meaning m a) m).next (and_right (calm (meaning m a)) _ p))

-- what the types say
unfoldable pub bytes : List ℕ → Bool
bytes [] = true
bytes (x ∷ l) = let rest = bytes l in ltb x 256 && rest

bytes_true : (l : List ℕ) → bytes l ≡ true → AllBytes l
unfolding bytes
bytes_true [] e i = omega arith
bytes_true (x ∷ l) e zero = ltb-true x 256 (and_left (ltb x 256) (bytes l) e)
bytes_true (x ∷ l) e (suc i) = bytes_true l (and_right (ltb x 256) (bytes l) e) i

unfoldable pub typed : Machine → Bool
typed m =
    every
    (ltb m.state.registers.count 256
    ∷ ltb m.state.registers.address.sector 256
    ∷ ltb m.state.registers.address.low 256
    ∷ ltb m.state.registers.address.high 256
    ∷ ltb m.state.registers.address.head 256
    ∷ eqb (length m.buffer) 512
    ∷ bytes m.buffer
    ∷ bytes m.store
    ∷ [])

pub typed_true : (m : Machine) → typed m ≡ true → Typed m
unfolding typed
typed_true m e =
    let w = each _ e in
    record {
      count = ltb-true _ _ (w 0);
      sector = ltb-true _ _ (w 1);
      low = ltb-true _ _ (w 2);
      high = ltb-true _ _ (w 3);
      head = ltb-true _ _ (w 4);
      buffer = eqb-true _ _ (w 5);
      buffer_bytes = bytes_true m.buffer (w 6);
      store_bytes = bytes_true m.store (w 7);
    }
