-- A sound card in neither reset has all that a command needs; and a card that accepts a Command write is one.
use Prim.Native.Nat.{ℕ, ◌*◌}
use mathlib.Core.Path.{refl}
use native.Mathlib.Nat.{div-le_self}
use native.Mathlib.Omega.{arith}
use borrow.Author.Tests.{leb-true}
use Rattle.ground.proofs.Picks.{neither}
use Rattle.ground.proofs.Every.{each}
use Rattle.geometry.proofs.LimitFacts.{fits_facts, total-fits, current_facts}
use Rattle.maps.specs.declared.Register.TheVariants.{StatusCommand}
use Rattle.registers.specs.State.{sreset_in, total_in}
use Rattle.registers.specs.Machine.{Machine}
use Rattle.registers.specs.WellMade.{in_reset, bad_fits, well_made}
use Rattle.card.specs.declared.Meaning.TheVariants.{WriteRegister}
use Rattle.card.specs.Access.{Asked}
use Rattle.kept.proofs.Fit.{lent_facts}
use Rattle.account.specs.Follows.{Able, AcceptedCommand}
use Rattle.account.proofs.Commands.{Given}

pub able : (m : Machine) (a : Asked) (v : ℕ) → AcceptedCommand m a v → Able m
able m a v w =
    let t = w.typed in
    let l = lent_facts m a (WriteRegister StatusCommand v) refl w.accepted in
    record { sound = record { made = l.0; store = l.1; marks = l.2; buffer = t.buffer; count = t.count }; free = w.free; typed = t }

pub given : (m : Machine) → Able m → Given m
unfolding well_made in_reset bad_fits
given m b =
    let s = b.sound in
    let t = b.typed in
    let w = each _ s.made in
    let f = fits_facts m.state.made.default (w 0) in
    let n = total-fits m.state.made.default (w 0) in
    let c = current_facts m.state.current (total_in m.state) (w 1) in
    let v = leb-true m.state.bad (total_in m.state) (w 8) in
    let x = neither (sreset_in m.state.option) m.state.control.held b.free in
    let d = div-le_self (total_in m.state) (m.state.current.heads * m.state.current.sectors) in
    let k = c.5 in
    let u = n.2 in (
      ((w 1, n.0, n.2), (s.store, s.marks), t.store_bytes, x.1, x.0),
      (t.count, (t.sector, t.low, t.high, t.head)),
      t.buffer,
      t.buffer_bytes,
      f.1,
      omega arith,
      omega arith,
      omega arith,
      omega arith,
      omega arith,
      omega arith,
    )
