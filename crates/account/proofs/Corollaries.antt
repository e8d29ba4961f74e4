-- What follows from the theorem.
use Prim.Native.Nat.{ℕ}
use mathlib.Core.Bool.{true, false, false≢true}
use mathlib.Core.Path.{◌≡◌, refl, sym, ap, ◌∙◌}
use mathlib.Core.List.{List, []}
use Rattle.geometry.specs.Shape.{reshaped}
use Rattle.registers.specs.State.{total_in}
use Rattle.registers.specs.Machine.{Machine}
use Rattle.registers.specs.declared.State.{State}
use Rattle.registers.specs.declared.Phase.TheVariants.{Idle}
use Rattle.commands.specs.declared.Command.{Command}
use Rattle.commands.specs.declared.Command.TheVariants.{Read, Write, Verify, Erase, Identify, ReadBuffer, WriteBuffer, SetGeometry, Diagnose, Recalibrate, Seek, Sense, SetMultiple, ReadMultiple, WriteMultiple, Other}
use Rattle.commands.specs.Table.{command_of, obeyed, started, count_of, dropped, command_given}
use Rattle.card.specs.Access.{Asked}
use Rattle.card.specs.Step.{step}
use Rattle.account.specs.Plain.{Plain, Finish, Well, NotFound, Unreadable, WriteFault, Aborted, ends, starts, Account, silent}
use Rattle.account.specs.Addressed.{Addressed, At, Bad}
use Rattle.account.specs.CommandRows.{CommandRow, Reads, row_of}
use Rattle.account.specs.Course.{course_of}
use Rattle.account.specs.Sweeps.{read_sweep, read_sectors}
use Rattle.account.specs.Table.{asked, first, from_first, account}
use Rattle.account.specs.Host.{plain_of, asks, Hosted, Moves}
use Rattle.account.specs.Claim.{Agrees}
use Rattle.account.specs.Follows.{Able, commanded, AcceptedCommand, after, dataless}
use Rattle.account.proofs.SameRow.{row_for, same_row}
use Rattle.account.proofs.Settled.{verify_settled, erase_idle}
use Rattle.account.proofs.Blocks.{block_idle}
use Rattle.account.proofs.Commands.{set-idle}
use Rattle.account.proofs.Accepted.{able}
use Rattle.account.proofs.Theorem.{command_given_lem, by_meaning, agreed}

-- Of what is claimed alone, whoever the host: the same data end the same.
pub same_data_agrees : (plain : List ℕ → Account) (h k : Hosted) → Agrees plain h → Agrees plain k → h.notes.done ≡ k.notes.done → plain_of h.machine ≡ plain_of k.machine
same_data_agrees plain h k p q e = ap (λ (z : Account). z.left) (sym p.account ∙ ap plain e ∙ q.account)

-- Two hosts that move the same data end the same, whatever the order and the map.
pub same_data_same_end : (m : Machine) (a : Asked) (v : ℕ) (l k : List Asked) → AcceptedCommand m a v → Moves (step m a).next l → Moves (step m a).next k →
    (after m a v l).notes.done ≡ (after m a v k).notes.done → plain_of (after m a v l).machine ≡ plain_of (after m a v k).machine
same_data_same_end m a v l k w x y e = same_data_agrees (account (row_of v) (plain_of m)) (after m a v l) (after m a v k) (agreed m a v l w x) (agreed m a v k w y) e

over_at_once : (k : Command) (s : State) (m : Machine) → dataless (row_for k) ≡ true → (obeyed k s m).phase ≡ Idle
over_at_once Read s m e = absurd (false≢true e)
over_at_once Write s m e = absurd (false≢true e)
over_at_once Verify s m e = (verify_settled (count_of s) s m.marks).0
over_at_once Erase s m e = erase_idle (count_of s) s m.store m.marks
over_at_once Identify s m e = absurd (false≢true e)
over_at_once ReadBuffer s m e = absurd (false≢true e)
over_at_once WriteBuffer s m e = absurd (false≢true e)
over_at_once SetGeometry s m e = set-idle (reshaped s.registers.count s.registers.address.head (total_in s)) s
over_at_once Diagnose s m e = refl
over_at_once Recalibrate s m e = refl
over_at_once Seek s m e = refl
over_at_once Sense s m e = refl
over_at_once SetMultiple s m e = block_idle s
over_at_once ReadMultiple s m e = absurd (false≢true e)
over_at_once WriteMultiple s m e = absurd (false≢true e)
over_at_once Other s m e = refl

asks-not : (v : ℕ) (m : Machine) → dataless (row_of v) ≡ true → asks (command_given v m) ≡ false
unfolding command_given
asks-not v m e = rw (over_at_once (command_of v) (started (dropped m).state) (dropped m) (ap dataless (sym (same_row v)) ∙ e))

pub means_no_host_needed : (m : Machine) (v : ℕ) → Able m → dataless (row_of v) ≡ true → asks (commanded v m) ≡ false
means_no_host_needed m v k e = rw (command_given_lem v m k.free) (asks-not v m e)

pub no_host_needed : (m : Machine) (a : Asked) (v : ℕ) → AcceptedCommand m a v → dataless (row_of v) ≡ true → Moves (step m a).next []
no_host_needed m a v w e = by_meaning (λ x. asks x ≡ false) m a v w.accepted (means_no_host_needed m v (able m a v w) e)

-- A read never changes the store, the marks or the number of bad sectors.
pub ends-store : (e : Finish) (p : Plain) → ((ends e p).store ≡ p.store) × ((ends e p).marks ≡ p.marks) × ((ends e p).bad ≡ p.bad)
ends-store Well p = (refl, refl, refl)
ends-store (NotFound code) p = (refl, refl, refl)
ends-store Unreadable p = (refl, refl, refl)
ends-store WriteFault p = (refl, refl, refl)
ends-store (Aborted code) p = (refl, refl, refl)

abbrev pub Untouched : Plain → Plain → Type 0
Untouched p q = (q.store ≡ p.store) × (q.marks ≡ p.marks) × (q.bad ≡ p.bad)

read_untouched : (l : Addressed) (n : ℕ) (p : Plain) → Untouched p (from_first l silent (λ i. read_sectors (course_of p) i n p) p).left
unfolding read_sectors
read_untouched (At i) n p = ends-store (read_sweep (course_of p) p.marks i n).finish _
read_untouched (Bad code) n p = (refl, refl, refl)

reads_untouched : (p : Plain) (d : List ℕ) → Untouched p (account Reads p d).left
unfolding account
reads_untouched p d = read_untouched (first (starts p)) (asked p.registers.count) (starts p)

pub reads_agree : (p : Plain) (v : ℕ) (h : Hosted) → row_of v ≡ Reads → Agrees (account (row_of v) p) h → Untouched p (plain_of h.machine)
reads_agree p v h e g =
    let u = ap (λ (r : CommandRow). account r p h.notes.done) e in
    let z = reads_untouched p h.notes.done in
    let q = sym g.account ∙ u in
    (ap (λ (y : Account). y.left.store) q ∙ z.0, ap (λ (y : Account). y.left.marks) q ∙ z.1, ap (λ (y : Account). y.left.bad) q ∙ z.2)

pub read_changes_no_sector : (m : Machine) (a : Asked) (v : ℕ) (l : List Asked) → AcceptedCommand m a v → row_of v ≡ Reads → Moves (step m a).next l →
    let n = (after m a v l).machine in (n.store ≡ m.store) × (n.marks ≡ m.marks) × (n.state.bad ≡ m.state.bad)
read_changes_no_sector m a v l w e x = reads_agree (plain_of m) v (after m a v l) e (agreed m a v l w x)
