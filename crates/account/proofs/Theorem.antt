-- Demand 3: whatever the host, its data, the store, the marks and the card end as the plain account of the command says.
use Prim.Native.Nat.{ℕ}
use mathlib.Core.Bool.{false}
use mathlib.Core.Path.{◌≡◌, refl, sym, subst}
use mathlib.Core.List.{List, [], ◌∷◌, append-nil}
use Rattle.ground.proofs.Picks.{neither}
use Rattle.maps.specs.declared.Register.TheVariants.{StatusCommand}
use Rattle.registers.specs.State.{sreset_in}
use Rattle.registers.specs.Machine.{Machine}
use Rattle.registers.specs.WellMade.{in_reset}
use Rattle.transfers.specs.declared.Way.{Way}
use Rattle.commands.specs.Table.{dropped, command_given}
use Rattle.card.specs.declared.Meaning.{Meaning}
use Rattle.card.specs.declared.Meaning.TheVariants.{WriteRegister}
use Rattle.card.specs.Access.{Asked, meaning}
use Rattle.card.specs.Perform.{register_written, perform}
use Rattle.card.specs.Step.{step, play}
use Rattle.kept.proofs.Perform.{not_held}
use Rattle.account.specs.Plain.{Account}
use Rattle.account.specs.CommandRows.{row_of}
use Rattle.account.specs.Table.{account}
use Rattle.account.specs.Host.{plain_of, asks, GoesBy, MovesBy, Hosted, hosted_by, meanings, Moves, hosted}
use Rattle.account.specs.Notes.{Notes, no_notes, note, way_of}
use Rattle.account.specs.Claim.{Typed, Agrees}
use Rattle.account.specs.Follows.{Able, commanded, after_by, AcceptedCommand, after}
use Rattle.account.proofs.Rest.{Rel}
use Rattle.account.proofs.Keeps.{keeps, closes, none-waits}
use Rattle.account.proofs.Given.{begins_row}
use Rattle.account.proofs.Accepted.{given, able}

-- ---- over what accesses mean

pub command_given_lem : (v : ℕ) (m : Machine) → in_reset m.state ≡ false → commanded v m ≡ command_given v m
unfolding perform register_written in_reset
command_given_lem v m h = rw (neither (sreset_in m.state.option) m.state.control.held h).1

-- a command starts with the account of all of it
pub begun : (m : Machine) (v : ℕ) → Able m → Rel (way_of (row_of v)) (account (row_of v) (plain_of m)) (commanded v m) no_notes
unfolding command_given
begun m v k =
    subst (λ (x : Machine). Rel (way_of (row_of v)) (account (row_of v) (plain_of m)) x no_notes) (sym (command_given_lem v m k.free))
    (begins_row v (dropped m) (given m k))

module _ (plain : List ℕ → Account) (way : Way) where
  -- and each access keeps what was moved and the account of the rest
  pub goes_on : (l : List Meaning) (m : Machine) (q : Notes) → Rel way plain m q → GoesBy m l → let h = hosted_by way m q l in Rel way plain h.machine h.notes
  unfolding hosted_by
  goes_on [] m q z g = z
  goes_on (x ∷ l) m q z g = goes_on l (perform x m).next (note way x (perform x m).outcome q) (keeps plain way x m q g.1 g.0 z) g.2

  -- where the card asks no more, the rest is the card as it stands
  ended : (h : Hosted) → Rel way plain h.machine h.notes → asks h.machine ≡ false → Agrees plain h
  ended h z e =
      let m = h.machine in
      let q = h.notes in
      let x = closes plain m.phase m q.done e z.account in
      record {
        account = subst (λ (l : List ℕ). plain l ≡ record { moved = q.done; left = plain_of m }) (append-nil q.done) (x []);
        enough = x;
        no_half = none-waits way m.phase m q.waiting e z.waits;
        over = e;
        free = not_held m.state z.ground.4 z.ground.3;
      }

-- all but the end
pub moves-goes : (way : Way) (l : List Meaning) (m : Machine) (q : Notes) → MovesBy m l → GoesBy m l × (asks (hosted_by way m q l).machine ≡ false)
unfolding hosted_by
moves-goes way [] m q e = (tt, e)
moves-goes way (x ∷ l) m q e = let r = moves-goes way l (perform x m).next (note way x (perform x m).outcome q) e.2 in ((e.0, e.1, r.0), r.1)

-- For every command that is given to a sound card in neither reset, and everything that is done up to where the card stops asking, with no reset and no
-- command in it, the host's data, the store, the marks and the card are those of the account.
pub means_as_the_account : (m : Machine) (v : ℕ) (l : List Meaning) → Able m → MovesBy (commanded v m) l → Agrees (account (row_of v) (plain_of m)) (after_by m v l)
means_as_the_account m v l k x =
    let way = way_of (row_of v) in
    let r = moves-goes way l (commanded v m) no_notes x in
    ended (account (row_of v) (plain_of m)) way (after_by m v l) (goes_on (account (row_of v) (plain_of m)) way l (commanded v m) no_notes (begun m v k) r.0) r.1

-- ---- over accesses

-- the machine of `hosted` is that of the card's own `play`: the notes change nothing
pub hosted_plays : (way : Way) (m : Machine) (q : Notes) (l : List Asked) → (hosted way m q l).machine ≡ (play m l).last
unfolding hosted_by step play
hosted_plays way m q [] = refl
hosted_plays way m q (a ∷ l) = hosted_plays way (step m a).next (note way (meaning m a) (step m a).outcome q) l

-- an accepted Command write gives the command: what holds after it by its meaning holds after the access
pub by_meaning : (P : Machine → Type 0) (m : Machine) (a : Asked) (v : ℕ) → meaning m a ≡ WriteRegister StatusCommand v → P (commanded v m) → P (step m a).next
unfolding step
by_meaning P m a v e = subst (λ (x : Meaning). P (perform x m).next) (sym e)

pub agreed : (m : Machine) (a : Asked) (v : ℕ) (l : List Asked) → AcceptedCommand m a v → Moves (step m a).next l → Agrees (account (row_of v) (plain_of m)) (after m a v l)
agreed m a v l w =
    by_meaning (λ x. Moves x l → Agrees (account (row_of v) (plain_of m)) (hosted (way_of (row_of v)) x no_notes l)) m a v w.accepted
    (means_as_the_account m v (meanings (commanded v m) l) (able m a v w))

-- For every Command write that a card in neither reset accepts, and every list of accesses up to where the card stops asking that has no reset and no
-- command in it, the host's data, the store, the marks and the card are those of the account.
pub as_the_account : (m : Machine) (a : Asked) (v : ℕ) (l : List Asked) →
    meaning m a ≡ WriteRegister StatusCommand v →
    in_reset m.state ≡ false →
    Typed m →
    Moves (step m a).next l →
    Agrees (account (row_of v) (plain_of m)) (hosted (way_of (row_of v)) (step m a).next no_notes l)
as_the_account m a v l e h t = agreed m a v l (record { accepted = e; free = h; typed = t })
