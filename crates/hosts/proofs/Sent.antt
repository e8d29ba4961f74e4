-- A host that has its data sends it, however it sends it.
use Prim.Native.Nat.{ℕ, ◌≤◌, ◌<◌}
use mathlib.Core.Path.{◌≡◌, refl, sym, ap, ◌∙◌, subst}
use mathlib.Core.List.{List, [], ◌∷◌}
use lib.ListN.{length}
use Rattle.ground.specs.Lists.{listed}
use Rattle.registers.specs.Machine.{Machine}
use Rattle.transfers.specs.declared.Way.{Way}
use Rattle.transfers.specs.declared.Way.TheVariants.{Out}
use Rattle.card.specs.declared.Meaning.{Meaning}
use Rattle.card.specs.Access.{Asked, meaning}
use Rattle.account.specs.Plain.{Account}
use Rattle.account.specs.CommandRows.{row_of}
use Rattle.account.specs.Table.{account}
use Rattle.account.specs.Host.{plain_of, Hosted, hosted_by, meanings_by}
use Rattle.account.specs.Notes.{way_of}
use Rattle.account.specs.Follows.{Able, commanded, after_by, AcceptedCommand, after}
use Rattle.hosts.specs.Live.{due}
use Rattle.hosts.specs.Hosts.{Round, onward, round, rounds, Willing, itself, ReadyBy, Ready}
use Rattle.hosts.specs.Sends.{next_of, SendsBy, Sends}
use Rattle.account.proofs.Rest.{Rel}
use Rattle.account.proofs.Theorem.{agreed}
use Rattle.hosts.proofs.Reached.{Stands, reached}
use Rattle.hosts.proofs.Live.{itself_same, means_every_host_ends, fitting-chosen, stands_at_start, every_host_ends}
use Rattle.hosts.proofs.Ended.{due-agrees}
use Rattle.account.specs.Claim.{Agrees}
use Rattle.account.proofs.Theorem.{begun, goes_on, means_as_the_account}
use Rattle.hosts.proofs.Ordered.{InOrder, all_ordered}

-- A host that keeps sending its own data, in whatever parts it likes, with whatever it likes between, has sent just this data, and the card, the store and the marks
-- are as its account says.
abbrev AsSent : Machine → ℕ → (ℕ → ℕ) → Hosted → Type 0
AsSent m v b h = let n = due (row_of v) (plain_of m) in (h.notes.done ≡ listed b 0 n) × (plain_of h.machine ≡ (account (row_of v) (plain_of m) (listed b 0 n)).left)

as_sent : (m : Machine) (v : ℕ) (b : ℕ → ℕ) (h : Hosted) → m.state.registers.count < 256 → Agrees (account (row_of v) (plain_of m)) h → InOrder b h.notes → AsSent m v b h
as_sent m v b h c x f =
    let e : h.notes.done ≡ listed b 0 (due (row_of v) (plain_of m)) = f.0 ∙ ap (listed b 0) (due-agrees (row_of v) (plain_of m) h c x) in
    (e, sym (ap (λ (z : Account). z.left) x.account) ∙ ap (λ (k : List ℕ). (account (row_of v) (plain_of m) k).left) e)

-- over what accesses mean
sends-ready : (b : ℕ → ℕ) (way : Way) (l : List (Round Meaning)) (h : Hosted) → Willing itself way (SendsBy b way) h l → Willing itself way (ReadyBy way) h l
sends-ready b way [] h w = tt
sends-ready b way (t ∷ l) h w = λ e. let r = w e in ((r.0.0, λ k. (r.0.2 k).0), sends-ready b way l (onward itself way h (round itself way h t)) r.1)

pub means_written_as_sent : (m : Machine) (v : ℕ) (b : ℕ → ℕ) (l : List (Round Meaning)) → Able m → let way = way_of (row_of v) in way ≡ Out → ((i : ℕ) → b i < 256) →
    due (row_of v) (plain_of m) ≤ length l → Willing itself way (SendsBy b way) (after_by m v []) l → AsSent m v b (after_by m v (rounds itself way (after_by m v []) l))
unfolding hosted_by
means_written_as_sent m v b l k o small d w =
    let way = way_of (row_of v) in
    let plain = account (row_of v) (plain_of m) in
    let h = after_by m v [] in
    let x = means_as_the_account m v (rounds itself way h l) k (means_every_host_ends m v l k d (sends-ready b way l h w)) in
    let f = all_ordered itself way o (row_of v) (plain_of m) (λ j. Rel way plain j.machine j.notes) (λ j z. z)
    (λ j t z g. goes_on plain way (meanings_by itself j.machine t) j.machine j.notes z g) b small (SendsBy b way) (λ j t z r. r) l h (begun m v k) w (unfold listed in refl, tt) in
    as_sent m v b (after_by m v (rounds itself way h l)) k.typed.count x
    (subst (λ (y : List Meaning). InOrder b (after_by m v y).notes) (itself_same (rounds itself way h l) (commanded v m)) f)

-- over accesses
pub sends_ready_too : (b : ℕ → ℕ) (way : Way) (l : List (Round Asked)) (h : Hosted) → Willing meaning way (Sends b way) h l → Willing meaning way (Ready way) h l
sends_ready_too b way [] h w = tt
sends_ready_too b way (t ∷ l) h w = λ e. let r = w e in ((r.0.0, λ k. let c = r.0.2 k in (c.0, c.1, c.2)), sends_ready_too b way l (onward meaning way h (round meaning way h t)) r.1)

pub written_as_sent : (m : Machine) (a : Asked) (v : ℕ) (b : ℕ → ℕ) (l : List (Round Asked)) → AcceptedCommand m a v → let way = way_of (row_of v) in way ≡ Out → ((i : ℕ) → b i < 256) →
    due (row_of v) (plain_of m) ≤ length l → Willing meaning way (Sends b way) (after m a v []) l → AsSent m v b (after m a v (rounds meaning way (after m a v []) l))
unfolding hosted_by
written_as_sent m a v b l w o small d z =
    let way = way_of (row_of v) in
    let h = after m a v [] in
    let x = agreed m a v (rounds meaning way h l) w (every_host_ends m a v l w d (sends_ready_too b way l h z)) in
    let f = all_ordered meaning way o (row_of v) (plain_of m) (Stands (row_of v) (plain_of m) way) (λ j s. s.1) (reached (row_of v) (plain_of m) way) b small (Sends b way)
    (λ j t s r. (
      r.0,
      r.1,
      λ e. let c = r.2 e in
          let k = onward meaning way j t.aside in
          let y = fitting-chosen (row_of v) (plain_of m) way k t.choice c.0 (reached (row_of v) (plain_of m) way j t.aside s r.0) c.1 c.2 in
          (y.0, y.2 ∙ c.3 ∙ ap (next_of b k.notes) (sym y.1)),
    )) l h (stands_at_start m a v w) z (unfold listed in refl, tt) in
    as_sent m v b (after m a v (rounds meaning way h l)) w.typed.count x f
