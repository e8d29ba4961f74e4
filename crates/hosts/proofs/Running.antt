-- The theorems are about what runs: a list of calls of `Card::access`, each as the code promises, some of them with the wrong store or marks lent.
use Rattle.std.proofs.Common.{Ok}
use Prim.Native.Nat.{ℕ, ◌≤◌}
use mathlib.Core.Bool.{true}
use mathlib.Core.Path.{◌≡◌, refl, sym, ap, ◌∙◌, subst}
use mathlib.Core.List.{List, [], ◌∷◌}
use native.Mathlib.Omega.{arith}
use lib.ListN.{length}
use lib.Dec.{ltb}
use Rattle.registers.specs.Machine.{Machine}
use Rattle.port.specs.Data.{Effect}
use Rattle.card.specs.declared.Card.{Card}
use Rattle.card.specs.declared.Answer.{Answer}
use Rattle.card.specs.declared.Meaning.{Meaning}
use Rattle.card.specs.Access.{Asked, meaning}
use Rattle.card.specs.Perform.{perform}
use Rattle.card.specs.Step.{step}
use Rattle.card.specs.Doors.{machine_of}
use Rattle.kept.specs.Lent.{store_marks_in}
use Rattle.kept.specs.Sound.{Sound}
use Rattle.kept.proofs.Step.{sound_kept}
use Rattle.account.specs.CommandRows.{row_of}
use Rattle.account.specs.Table.{account}
use Rattle.account.specs.Host.{plain_of, asks, GoesBy, MovesBy, Hosted, hosted_by}
use Rattle.account.specs.Notes.{Notes, no_notes, note, note_data, way_of}
use Rattle.account.specs.Claim.{Agrees}
use Rattle.account.specs.Follows.{commanded, after_by, AcceptedCommand, after}
use Rattle.sectors.specs.Sectors.{store_marks}
use Rattle.hosts.specs.Hosts.{Round, onward, Going, rounds, Willing, Chosen}
use Rattle.hosts.specs.Running.{Promised, Call, Own, call_meaning, call_meanings, ReadyCall, Called}
use Rattle.hosts.specs.Live.{noted, moved, due}
use Rattle.hosts.specs.Choices.{Choice, access_of, Fitting}
use Rattle.hosts.specs.Moment.{CalmBy, so_far}
use Rattle.account.proofs.Rest.{Rel}
use Rattle.account.proofs.Accepted.{able}
use Rattle.account.proofs.Theorem.{begun, goes_on, means_as_the_account}
use Rattle.hosts.proofs.Reached.{Stands}
use Rattle.hosts.proofs.Rounds.{comes_to_end}
use Rattle.hosts.proofs.Live.{choice-taken, means_asks_while_due, fitting-chosen, stands_at_start}
use Rattle.hosts.proofs.Moment.{means_at_every_moment}
use Rattle.hosts.proofs.Calls.{called_is, sound-called}
use Rattle.answers.specs.Answers.{Outcome}

-- A card in neither reset, a call that writes a command, and calls after it; d, store' and marks' are what the last one left, q what the host has noted of the answers.
module _ (c : Card) (store marks : List ℕ) (a : Asked) (v : ℕ) (l : List Call) (d : Card) (store' marks' : List ℕ) (q : Notes) (w : AcceptedCommand (machine_of c store marks) a v)
    (z : Called (way_of (row_of v)) c store marks no_notes (Own a ∷ l) (record { machine = machine_of d store' marks'; notes = q })) where
  -- the machine before, what the calls mean after the command, and the host there
  abbrev before : Machine
  before = machine_of c store marks

  abbrev meant : List Meaning
  meant = call_meanings (commanded v before) l

  abbrev now : Hosted
  now = record { machine = machine_of d store' marks'; notes = q }

  there : after_by before v meant ≡ now
  unfolding hosted_by note
  there =
      let way = way_of (row_of v) in
      subst (λ (x : Meaning). hosted_by way (perform x before).next (note way x (perform x before).outcome no_notes) (call_meanings (perform x before).next l) ≡ now) w.accepted
      (called_is (Own a ∷ l) c store marks (way_of (row_of v)) no_notes now z)

  -- Calls that move the command's data: data, store, marks and card are those of the account, no transfer runs, and no reset holds. The data is what the calls answered.
  pub code_as_the_account : MovesBy (commanded v before) meant → Agrees (account (row_of v) (plain_of before)) now
  code_as_the_account x = subst (λ (h : Hosted). Agrees (account (row_of v) (plain_of before)) h) there (means_as_the_account before v meant (able before a v w) x)

  -- Wherever they have come to, the card asks exactly as long as data is due,
  pub code_asks_while_due : GoesBy (commanded v before) meant → asks now.machine ≡ ltb (noted q) (due (row_of v) (plain_of before))
  code_asks_while_due g =
      subst (λ (h : Hosted). asks h.machine ≡ ltb (noted h.notes) (due (row_of v) (plain_of before))) there (means_asks_while_due before v meant (able before a v w) g)

  -- where it asks, the call for a fitting choice is accepted, and its answer tells the part chosen,
  pub code_every_choice : GoesBy (commanded v before) meant → asks now.machine ≡ true → (x : Choice) →
      let way = way_of (row_of v) in
      Fitting way now x →
      (r : Answer) (store'' marks'' : List ℕ) → Promised d store' marks' (access_of way x) r store'' marks'' →
      (n : ℕ) × (r.outcome ≡ Ok n) × (note way (meaning now.machine (access_of way x)) r.outcome q ≡ note_data x.port q.waiting (moved way n x.value) q)
  unfolding step
  code_every_choice g e x f r store'' marks'' p =
      let way = way_of (row_of v) in
      let k = able before a v w in
      let b : Sound (commanded v before) = subst (λ (y : Meaning). Sound (perform y before).next) w.accepted (sound_kept before a k.sound) in
      let s = subst (λ (h : Hosted). Sound h.machine) there (sound-called l way (commanded v before) no_notes b) in
      let y = goes_on (account (row_of v) (plain_of before)) way meant (commanded v before) no_notes (begun before v k) g in
      let t = choice-taken (account (row_of v) (plain_of before)) way now x s (subst (λ (h : Hosted). Rel way (account (row_of v) (plain_of before)) h.machine h.notes) there y) e f in
      let o : r.outcome ≡ (step now.machine (access_of way x)).outcome = ap (λ (u : Effect). u.outcome) p in
      (t.answer, o ∙ t.accepted, ap (λ (u : Outcome). note way (meaning now.machine (access_of way x)) u q) o ∙ t.part)

  -- and the caller's own arrays hold the sectors whose last byte has moved, and no other; the card's number of bad sectors is down by theirs.
  pub code_at_every_moment : CalmBy (commanded v before) meant → store_marks store' marks' d.state.bad ≡ so_far (row_of v) (plain_of before) q.done
  code_at_every_moment g =
      subst (λ (h : Hosted). store_marks_in h.machine ≡ so_far (row_of v) (plain_of before) h.notes.done) there (means_at_every_moment before v meant (able before a v w) g)

-- So every host of calls that keeps choosing, with calls between that lend the wrong store or marks too, comes to the end.
pub code_every_host_ends : (m : Machine) (a : Asked) (v : ℕ) (l : List (Round Call)) → AcceptedCommand m a v → let way = way_of (row_of v) in
    due (row_of v) (plain_of m) ≤ length l → Willing call_meaning way (ReadyCall way) (after m a v []) l → MovesBy (step m a).next (call_meanings (step m a).next (rounds call_meaning way (after m a v []) l))
unfolding hosted_by
code_every_host_ends m a v l w d x =
    let way = way_of (row_of v) in
    let stays : (h : Hosted) (t : List Call) → Stands (row_of v) (plain_of m) way h → Going call_meaning way h t → Stands (row_of v) (plain_of m) way (onward call_meaning way h t) =
    λ h t s g. (sound-called t way h.machine h.notes s.0, goes_on (account (row_of v) (plain_of m)) way (call_meanings h.machine t) h.machine h.notes s.1 g) in
    comes_to_end call_meaning way (row_of v) (plain_of m) w.typed.count (Stands (row_of v) (plain_of m) way) (λ h s. s.1) stays (ReadyCall way)
    (λ h t s r. (
      r.0,
      λ e.
          let f = r.1 e in
          let k = onward call_meaning way h t.aside in
          let c = (fitting-chosen (row_of v) (plain_of m) way k (access_of way f.0) f.0 (stays h t.aside s r.0) refl f.2).0 in
          subst (λ (y : Call). Chosen way k (call_meaning k.machine y)) (sym f.1) c,
    )) l (after m a v []) (stands_at_start m a v w) x (omega arith)
