-- Every host that goes on comes to the end: whatever it chooses, in words or bytes, in either order, through any map, and whatever it does aside.
use Prim.Native.Nat.{ℕ, ◌≤◌}
use mathlib.Core.Bool.{true}
use mathlib.Core.Path.{◌≡◌, refl, sym, ap, ◌∙◌, subst}
use mathlib.Core.List.{List, [], ◌∷◌, ◌++◌}
use native.Mathlib.Omega.{arith}
use lib.Dec.{ltb}
use lib.ListN.{length, take}
use lib.Seq.{take-append_seam}
use Rattle.maps.specs.declared.Port.{Port}
use Rattle.registers.specs.Machine.{Machine}
use Rattle.transfers.specs.declared.Way.{Way}
use Rattle.card.specs.declared.Meaning.{Meaning}
use Rattle.card.specs.Access.{Asked, meaning}
use Rattle.card.specs.Perform.{perform}
use Rattle.card.specs.Step.{step}
use Rattle.kept.specs.Sound.{Sound}
use Rattle.kept.proofs.Step.{sound_kept}
use Rattle.account.specs.Plain.{Plain, Account}
use Rattle.account.specs.CommandRows.{CommandRow, row_of}
use Rattle.account.specs.Table.{account}
use Rattle.account.specs.Host.{plain_of, asks, GoesBy, MovesBy, Hosted, hosted_by, meanings_by, meanings, Goes, Moves, hosted}
use Rattle.account.specs.Notes.{no_notes, way_of}
use Rattle.account.specs.Follows.{Able, commanded, after_by, AcceptedCommand, after}
use Rattle.hosts.specs.Live.{fits, Small, noted, data_meaning, Taken, due}
use Rattle.hosts.specs.Choices.{Choice, access_of, Fitting, TakenChoice}
use Rattle.hosts.specs.Hosts.{Round, onward, Going, rounds, Willing, Chosen, itself, ReadyBy, Ready}
use Rattle.account.proofs.Rest.{Rel}
use Rattle.account.proofs.Accepted.{able}
use Rattle.account.proofs.Theorem.{begun, goes_on, by_meaning}
use Rattle.hosts.proofs.Places.{choice_means}
use Rattle.hosts.proofs.Asks.{asks-due}
use Rattle.hosts.proofs.Taken.{taken}
use Rattle.hosts.proofs.Reached.{Stands, reached}
use Rattle.hosts.proofs.Rounds.{comes_to_end}

-- ---- after a command, over what accesses mean

module _ (m : Machine) (v : ℕ) (l : List Meaning) (k : Able m) (g : GoesBy (commanded v m) l) where
  goes : Rel (way_of (row_of v)) (account (row_of v) (plain_of m)) (after_by m v l).machine (after_by m v l).notes
  goes = goes_on (account (row_of v) (plain_of m)) (way_of (row_of v)) l (commanded v m) no_notes (begun m v k) g

  -- where the card asks, it takes every part that fits
  pub means_every_choice : (port : Port) (value : ℕ) → asks (after_by m v l).machine ≡ true → fits (after_by m v l).notes.waiting port ≡ true → Small (way_of (row_of v)) port value →
      Taken (way_of (row_of v)) (after_by m v l) port value (data_meaning (way_of (row_of v)) port value)
  means_every_choice port value e f h = taken (account (row_of v) (plain_of m)) (way_of (row_of v)) port value (after_by m v l) goes e f h

  -- and it asks exactly as long as the host has noted less than the account moves
  pub means_asks_while_due : asks (after_by m v l).machine ≡ ltb (noted (after_by m v l).notes) (due (row_of v) (plain_of m))
  means_asks_while_due = asks-due (row_of v) (plain_of m) k.typed.count (after_by m v l).machine (after_by m v l).notes (way_of (row_of v)) goes

  pub means_noted_so_far : (more : List ℕ) → let done = (after_by m v l).notes.done in take (length done) (account (row_of v) (plain_of m) (done ++ more)).moved ≡ done
  means_noted_so_far more =
      let done = (after_by m v l).notes.done in
      ap (λ (x : Account). take (length done) x.moved) (goes.account more) ∙ take-append_seam done _

-- a host that keeps choosing comes to the end: its rounds are as many as there are bytes, or more
pub itself_same : (l : List Meaning) (m : Machine) → meanings_by itself m l ≡ l
itself_same [] m = refl
itself_same (x ∷ l) m = ap (λ (r : List Meaning). x ∷ r) (itself_same l (perform x m).next)

pub means_every_host_ends : (m : Machine) (v : ℕ) (l : List (Round Meaning)) → Able m → let way = way_of (row_of v) in
    due (row_of v) (plain_of m) ≤ length l → Willing itself way (ReadyBy way) (after_by m v []) l → MovesBy (commanded v m) (rounds itself way (after_by m v []) l)
unfolding hosted_by
means_every_host_ends m v l k d w =
    let way = way_of (row_of v) in
    let plain = account (row_of v) (plain_of m) in
    subst (MovesBy (commanded v m)) (itself_same (rounds itself way (after_by m v []) l) (commanded v m))
    (comes_to_end itself way (row_of v) (plain_of m) k.typed.count (λ h. Rel way plain h.machine h.notes) (λ h z. z)
    (λ h t z g. goes_on plain way (meanings_by itself h.machine t) h.machine h.notes z g) (ReadyBy way) (λ h t z r. r) l (after_by m v []) (begun m v k) w (omega arith))

-- ---- over accesses

pub choice-taken : (plain : List ℕ → Account) (way : Way) (h : Hosted) (c : Choice) → Sound h.machine → Rel way plain h.machine h.notes → asks h.machine ≡ true → Fitting way h c →
    TakenChoice way h c
choice-taken plain way h c s z k f =
    subst (λ (x : Meaning). Taken way h c.port c.value x) (sym (choice_means way h c s z.ground.4 f)) (taken plain way c.port c.value h z k f.half f.value)

-- a fitting choice of an access is one by its meaning
pub fitting-chosen : (row : CommandRow) (p : Plain) (way : Way) (h : Hosted) (a : Asked) (c : Choice) → Stands row p way h → a ≡ access_of way c → Fitting way h c →
    (x : Chosen way h (meaning h.machine a)) × (x.port ≡ c.port) × (x.value ≡ c.value)
fitting-chosen row p way h a c s e f = (
  record {
    port = c.port;
    value = c.value;
    part = ap (meaning h.machine) e ∙ choice_means way h c s.0 s.1.ground.4 f;
    half = f.half;
    small = f.value;
  },
  refl,
  refl,
)

ready_chooses : (row : CommandRow) (p : Plain) (way : Way) (h : Hosted) (t : Round Asked) → Stands row p way h → Ready way h t →
    let k = onward meaning way h t.aside in Going meaning way h t.aside × (asks k.machine ≡ true → Chosen way k (meaning k.machine t.choice))
ready_chooses row p way h t s r =
    let k = onward meaning way h t.aside in
    (r.0, λ e. let f = r.1 e in (fitting-chosen row p way k t.choice f.0 (reached row p way h t.aside s r.0) f.1 f.2).0)

-- after a Command write
pub stands_at_start : (m : Machine) (a : Asked) (v : ℕ) → AcceptedCommand m a v → Stands (row_of v) (plain_of m) (way_of (row_of v)) (after m a v [])
unfolding hosted_by
stands_at_start m a v w =
    let k = able m a v w in
    (sound_kept m a k.sound, by_meaning (λ x. Rel (way_of (row_of v)) (account (row_of v) (plain_of m)) x no_notes) m a v w.accepted (begun m v k))

stands : (m : Machine) (a : Asked) (v : ℕ) (l : List Asked) → AcceptedCommand m a v → Goes (step m a).next l → Stands (row_of v) (plain_of m) (way_of (row_of v)) (after m a v l)
unfolding hosted_by
stands m a v l w g = reached (row_of v) (plain_of m) (way_of (row_of v)) (after m a v []) l (stands_at_start m a v w) g

-- After a Command write that a card in neither reset accepts, and any accesses that are no command and no reset: where the card asks, it takes every fitting choice.
pub every-choice : (m : Machine) (a : Asked) (v : ℕ) (l : List Asked) (c : Choice) → AcceptedCommand m a v → Goes (step m a).next l →
    asks (after m a v l).machine ≡ true → Fitting (way_of (row_of v)) (after m a v l) c → TakenChoice (way_of (row_of v)) (after m a v l) c
every-choice m a v l c w g k f = let s = stands m a v l w g in choice-taken (account (row_of v) (plain_of m)) (way_of (row_of v)) (after m a v l) c s.0 s.1 k f

-- And it asks exactly as long as the host has noted less than the account moves.
pub asks_while_due : (m : Machine) (a : Asked) (v : ℕ) (l : List Asked) → AcceptedCommand m a v → Goes (step m a).next l →
    asks (after m a v l).machine ≡ ltb (noted (after m a v l).notes) (due (row_of v) (plain_of m))
asks_while_due m a v l w =
    by_meaning (λ x. Goes x l → let h = hosted (way_of (row_of v)) x no_notes l in asks h.machine ≡ ltb (noted h.notes) (due (row_of v) (plain_of m))) m a v w.accepted
    (means_asks_while_due m v (meanings (commanded v m) l) (able m a v w))

-- What it has noted is the beginning of the account's data, whatever more it will have.
pub noted_so_far : (m : Machine) (a : Asked) (v : ℕ) (l : List Asked) (more : List ℕ) → AcceptedCommand m a v → Goes (step m a).next l →
    let done = (after m a v l).notes.done in
    take (length done) (account (row_of v) (plain_of m) (done ++ more)).moved ≡ done
noted_so_far m a v l more w =
    by_meaning
    (λ x. Goes x l → let done = (hosted (way_of (row_of v)) x no_notes l).notes.done in take (length done) (account (row_of v) (plain_of m) (done ++ more)).moved ≡ done) m a v w.accepted
    (λ g. means_noted_so_far m v (meanings (commanded v m) l) (able m a v w) g more)

-- So every host that keeps choosing comes to the end, if it has as many rounds as there are bytes.
pub every_host_ends : (m : Machine) (a : Asked) (v : ℕ) (l : List (Round Asked)) → AcceptedCommand m a v → let way = way_of (row_of v) in
    due (row_of v) (plain_of m) ≤ length l → Willing meaning way (Ready way) (after m a v []) l → Moves (step m a).next (rounds meaning way (after m a v []) l)
unfolding hosted_by
every_host_ends m a v l w d x =
    let way = way_of (row_of v) in
    comes_to_end meaning way (row_of v) (plain_of m) w.typed.count (Stands (row_of v) (plain_of m) way) (λ h s. s.1) (reached (row_of v) (plain_of m) way) (Ready way)
    (ready_chooses (row_of v) (plain_of m) way) l (after m a v []) (stands_at_start m a v w) x (omega arith)
