-- At every moment of a command the store, the marks and the number of bad sectors are those of the data that has moved.
use Prim.Native.Nat.{ℕ}
use mathlib.Core.Bool.{Bool, true, false, true≢false}
use mathlib.Core.Path.{◌≡◌, refl, sym, ap, ◌∙◌, subst}
use mathlib.Core.List.{List, [], ◌∷◌, ◌++◌, append-nil, append_assoc}
use Rattle.registers.specs.Machine.{Machine}
use Rattle.commands.specs.Table.{command_of, dropped, command_given}
use Rattle.card.specs.declared.Meaning.{Meaning}
use Rattle.card.specs.Access.{Asked}
use Rattle.card.specs.Perform.{perform}
use Rattle.card.specs.Step.{step}
use Rattle.kept.specs.Lent.{store_marks_in}
use Rattle.account.specs.Plain.{Plain, starts}
use Rattle.account.specs.CommandRows.{CommandRow, row_of}
use Rattle.account.specs.Table.{account}
use Rattle.account.specs.Host.{plain_of, asks, GoesBy, hosted_by, meanings, hosted}
use Rattle.account.specs.Notes.{Notes, no_notes, note, way_of}
use Rattle.account.specs.Follows.{Able, commanded, after_by, AcceptedCommand, after}
use Rattle.sectors.specs.Sectors.{StoreMarks}
use Rattle.hosts.specs.Moment.{CalmBy, Calm, so_far}
use Rattle.account.proofs.SameRow.{same_row}
use Rattle.account.proofs.Rest.{Rel}
use Rattle.account.proofs.Accepted.{given, able}
use Rattle.account.proofs.Keeps.{keeps}
use Rattle.account.proofs.Theorem.{command_given_lem, begun, by_meaning}
use Rattle.hosts.proofs.Written.{Lies}
use Rattle.hosts.proofs.WrittenKeeps.{lies_step}
use Rattle.hosts.proofs.WrittenBegins.{target_of, begins_lies}
use Rattle.hosts.proofs.WrittenSoFar.{moment}
use Rattle.hosts.proofs.Afterwards.{Rests, rests, note_more, is_idle}

module _ (row : CommandRow) (p : Plain) where
  over_on : (k : StoreMarks) (l : List Meaning) (m : Machine) (q : Notes) → Rests k m → ((d : List ℕ) → k ≡ so_far row p (q.done ++ d)) → CalmBy m l →
      let h = hosted_by (way_of row) m q l in store_marks_in h.machine ≡ so_far row p h.notes.done
  unfolding hosted_by
  over_on k [] m q z s c = z.3 ∙ s [] ∙ ap (so_far row p) (append-nil q.done)
  over_on k (y ∷ l) m q z s c =
      let x = note_more (way_of row) y (perform y m).outcome q in
      over_on k l (perform y m).next (note (way_of row) y (perform y m).outcome q) (rests k y m c.0 z)
      (λ d. s (x.0 ++ d) ∙ ap (so_far row p) (sym (append_assoc q.done x.0 d) ∙ ap (λ (t : List ℕ). t ++ d) (sym x.1))) c.1

  calm_on : (l : List Meaning) (m : Machine) (q : Notes) (b : Bool) → asks m ≡ b → Rel (way_of row) (account row p) m q → Lies (target_of row p) (starts p) m q.done → CalmBy m l →
      let h = hosted_by (way_of row) m q l in store_marks_in h.machine ≡ so_far row p h.notes.done
  unfolding hosted_by
  calm_on [] m q b e y z c = moment row p m q y z [] (λ x. refl) ∙ ap (so_far row p) (append-nil q.done)
  calm_on (x ∷ l) m q true e y z c =
      calm_on l (perform x m).next (note (way_of row) x (perform x m).outcome q) _ refl (keeps (account row p) (way_of row) x m q c.0 e y)
      (lies_step (target_of row p) (starts p) (account row p) (way_of row) x m q c.0 e y z) c.1
  calm_on (x ∷ l) m q false e y z c =
      over_on (store_marks_in m) (x ∷ l) m q (is_idle m.phase e, y.ground.3, y.ground.4, refl) (λ d. moment row p m q y z d (λ t. absurd (true≢false (sym t ∙ e)))) c

-- After a command that is given to a sound card in neither reset, and anything that is no command and no reset: the store, the marks and the number of bad sectors are those of the
-- sectors whose last byte has moved, and of no other.
pub means_at_every_moment : (m : Machine) (v : ℕ) (l : List Meaning) → Able m → CalmBy (commanded v m) l →
    store_marks_in (after_by m v l).machine ≡ so_far (row_of v) (plain_of m) (after_by m v l).notes.done
unfolding command_given
means_at_every_moment m v l k =
    calm_on (row_of v) (plain_of m) l (commanded v m) no_notes _ refl (begun m v k)
    (subst (λ (x : Machine). Lies (target_of (row_of v) (plain_of m)) (starts (plain_of m)) x []) (sym (command_given_lem v m k.free))
    (subst (λ (r : CommandRow). Lies (target_of r (plain_of m)) (starts (plain_of m)) (command_given v m) []) (sym (same_row v)) (begins_lies (command_of v) (dropped m) (given m k))))

-- The same of a Command write that is accepted, and accesses.
pub at_every_moment : (m : Machine) (a : Asked) (v : ℕ) (l : List Asked) → AcceptedCommand m a v → Calm (step m a).next l →
    store_marks_in (after m a v l).machine ≡ so_far (row_of v) (plain_of m) (after m a v l).notes.done
at_every_moment m a v l w =
    by_meaning (λ x. Calm x l → let h = hosted (way_of (row_of v)) x no_notes l in store_marks_in h.machine ≡ so_far (row_of v) (plain_of m) h.notes.done) m a v w.accepted
    (means_at_every_moment m v (meanings (commanded v m) l) (able m a v w))

-- what is done while the card asks is such
pub goes-calm : (m : Machine) (l : List Meaning) → GoesBy m l → CalmBy m l
goes-calm m [] g = tt
goes-calm m (x ∷ l) g = (g.1, goes-calm (perform x m).next l g.2)
