-- 02, "Six": an Erase or Verify whose run fits never fails an address test after its first: it ends well, or with the
-- Status, Error and code of a mark.
use Prim.Native.Nat.{ℕ, zero, suc, ◌+◌, ◌≤◌}
use mathlib.Core.Bool.{Bool, true}
use mathlib.Core.Path.{◌≡◌, refl, sym, ap, subst, ◌∙◌}
use mathlib.Core.List.{List, []}
use mathlib.Core.Logic.{◌⊎◌, inl, inr}
use native.Mathlib.Omega.{arith}
use lib.ListN.{get_or}
use borrow.Author.Tests.{lt-ltb, le-leb}
use Rattle.ground.proofs.Picks.{pick-elim}
use Rattle.registers.specs.Machine.{Machine}
use Rattle.card.specs.Access.{Asked}
use Rattle.card.specs.Step.{step}
use Rattle.account.specs.Numbers.{status_error, status_write_fault, error_unc, error_abrt, code_unreadable, code_write_fault}
use Rattle.account.specs.Plain.{Plain, with_store, starts, Finish, Well, NotFound, Unreadable, WriteFault, Aborted, ends, Account}
use Rattle.account.specs.Addressed.{At}
use Rattle.account.specs.CommandRows.{CommandRow, Verifies, Erases, row_of}
use Rattle.account.specs.Course.{Course, course_of}
use Rattle.account.specs.Sweeps.{Sweep, tried, sweep_from, tests, unreadable, unwritable, sweep_ends, read_sweep, write_sweep, whole_run, verify_sectors, erase_sectors}
use Rattle.account.specs.WholeSectors.{blanked, cleared, bad_left}
use Rattle.account.specs.Table.{asked, first, from_first, account}
use Rattle.account.specs.Host.{plain_of, hosted_by}
use Rattle.account.specs.Follows.{AcceptedCommand, dataless, EndedWith, RunEnded}
use Rattle.account.proofs.Theorem.{agreed}
use Rattle.account.proofs.Corollaries.{no_host_needed}

-- a sweep has ended well, with no sector left, or at a mark
abbrev ByMark : Finish → Sweep → Type 0
ByMark e r = ((r.finish ≡ Well) × (r.left ≡ 0)) ⊎ (r.finish ≡ e)

tried_mark : (e : Finish) (n i : ℕ) (rest : Sweep) → ByMark e rest → ByMark e (tried e n i rest)
tried_mark Well n i rest h = h
tried_mark (NotFound code) n i rest h = inr refl
tried_mark Unreadable n i rest h = inr refl
tried_mark WriteFault n i rest h = inr refl
tried_mark (Aborted code) n i rest h = inr refl

-- … where all its sectors are in the room
sweep_mark : (forbids : ℕ → Bool) (e : Finish) (c : Course) (marks : List ℕ) (n i : ℕ) → i + n ≤ c.room → ByMark e (sweep_from (tests forbids e c marks) i n)
unfolding sweep_from tests
sweep_mark forbids e c marks zero i l = inl (refl, refl)
sweep_mark forbids e c marks (suc n) i l =
    let rest = sweep_from (tests forbids e c marks) (i + 1) n in
    let r = sweep_mark forbids e c marks n (i + 1) (omega arith) in
    rw (lt-ltb i c.room (omega arith))
    (pick-elim (λ (f : Finish). ByMark e (tried f (suc n) i rest)) (forbids (get_or marks i 0)) e Well (λ z. tried_mark e (suc n) i rest r) (λ z. r))

-- what it leaves, of a command that started with Error and code 0
ended_mark : (status error code : ℕ) (e : Finish) (c : Course) (r : Sweep) (p : Plain) → ((q : Plain) → EndedWith status error code (ends e q)) →
    p.registers.error ≡ 0 → p.code ≡ 0 → ByMark e r → RunEnded status error code (sweep_ends c r p)
ended_mark status error code e c r p f x y (inl h) = inl (rw (h.0, h.1) ((refl, x, y), refl))
ended_mark status error code e c r p f x y (inr h) = inr (rw h (f _))

module _ (m : Machine) (a : Asked) (v i : ℕ) (w : AcceptedCommand m a v) (at : first (plain_of m) ≡ At i) (fits : i + asked m.state.registers.count ≤ (course_of (plain_of m)).room) where
  abbrev p : Plain
  p = starts (plain_of m)

  abbrev n : ℕ
  n = asked m.state.registers.count

  -- the whole run is what the row says
  whole : (run : ℕ → Plain) → from_first (first p) (λ q. q) (λ k. whole_run (course_of p) k n p (run k)) p ≡ run i
  whole run = rw (at, le-leb (i + n) (course_of p).room fits)

  left_by : (r : CommandRow) → row_of v ≡ r → dataless r ≡ true → plain_of (step m a).next ≡ (account r (plain_of m) []).left
  unfolding hosted_by
  left_by r e d =
      let x = (agreed m a v [] w (no_host_needed m a v w (ap dataless e ∙ d))).account in
      sym (ap (λ (q : Account). q.left) x) ∙ ap (λ (r : CommandRow). (account r (plain_of m) []).left) e

  pub verify_fits : row_of v ≡ Verifies → RunEnded status_error error_unc code_unreadable (plain_of (step m a).next)
  unfolding account verify_sectors
  verify_fits e =
      subst (RunEnded status_error error_unc code_unreadable) (sym (left_by Verifies e refl ∙ whole (λ k. verify_sectors (course_of p) k n p)))
      (ended_mark status_error error_unc code_unreadable Unreadable (course_of p) (read_sweep (course_of p) p.marks i n) p (λ q. (refl, refl, refl)) refl refl
      (sweep_mark unreadable Unreadable (course_of p) p.marks n i fits))

  pub erase_fits : row_of v ≡ Erases → RunEnded status_write_fault error_abrt code_write_fault (plain_of (step m a).next)
  unfolding account erase_sectors
  erase_fits e =
      let r = write_sweep (course_of p) p.marks i n in
      let q = with_store (blanked i r.done p.store) (cleared i r.done p.marks) (bad_left i r.done p) p in
      subst (RunEnded status_write_fault error_abrt code_write_fault) (sym (left_by Erases e refl ∙ whole (λ k. erase_sectors (course_of p) k n p)))
      (ended_mark status_write_fault error_abrt code_write_fault WriteFault (course_of p) r q (λ x. (refl, refl, refl)) refl refl
      (sweep_mark unwritable WriteFault (course_of p) p.marks n i fits))
