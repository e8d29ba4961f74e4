-- Hosts that always have a choice, whatever they would like.
use Prim.Native.Nat.{ℕ, zero, suc, ◌+◌, ◌≤◌, ◌<◌}
use mathlib.Core.Bool.{Bool, true, false, ◌&&◌, false≢true}
use mathlib.Core.Path.{◌≡◌, refl, ap, ◌∙◌}
use mathlib.Core.List.{List, [], ◌∷◌}
use native.Mathlib.Omega.{arith}
use lib.ListN.{length, replicate, length-replicate}
use borrow.Author.Tests.{leb-true, ne_eqb, lt-leb}
use Rattle.ground.specs.Choice.{pick}
use Rattle.ground.proofs.Every.{and_left, and_right}
use Rattle.maps.specs.declared.Mode.{Mode}
use Rattle.maps.specs.declared.Mode.TheVariants.{PcCard, TrueIde}
use Rattle.maps.specs.declared.Port.{Port}
use Rattle.registers.specs.State.{index_in}
use Rattle.registers.specs.Machine.{Machine}
use Rattle.transfers.specs.declared.Way.{Way}
use Rattle.transfers.specs.declared.Way.TheVariants.{In, Out}
use Rattle.card.specs.declared.Meaning.{Meaning}
use Rattle.card.specs.declared.Meaning.TheVariants.{TupleByte, ReadOption, WriteOption, ReadRegister, WriteRegister, ReadData, WriteData}
use Rattle.card.specs.Access.{Asked, meaning}
use Rattle.card.specs.Perform.{perform}
use Rattle.card.specs.Step.{step}
use Rattle.account.specs.CommandRows.{row_of}
use Rattle.account.specs.Host.{plain_of, calm, asks, Hosted, hosted_by, Moves}
use Rattle.account.specs.Notes.{Waiting, None, LowByte, HighByte, Notes, note, way_of}
use Rattle.account.specs.Follows.{AcceptedCommand, after}
use Rattle.hosts.specs.Live.{fits, most, Small, due}
use Rattle.hosts.specs.Choices.{access_of, offsets, data_at, Fitting}
use Rattle.hosts.specs.Hosts.{round, Round, onward, Going, rounds, Willing}
use Rattle.hosts.specs.Sends.{next, Sends, still}
use Rattle.hosts.specs.Likes.{odd_there, liked, space_of, even_place, address_of, choice_in, liked_rounds}
use Rattle.hosts.proofs.Live.{every_host_ends}
use Rattle.hosts.proofs.Sent.{sends_ready_too}
use Rattle.answers.specs.Answers.{Outcome}

-- ---- a place for every choice

even_there : (mode : Mode) (index : ℕ) → data_at (offsets Port.Even) mode index (space_of mode index) (even_place mode index) ≡ true
unfolding data_at space_of even_place
even_there TrueIde index = refl
even_there PcCard zero = refl
even_there PcCard (suc zero) = refl
even_there PcCard (suc (suc zero)) = refl
even_there PcCard (suc (suc (suc n))) =
    let i = suc (suc (suc n)) in
    rw (ne_eqb i 0 (λ (e : i ≡ 0). omega arith), ne_eqb i 1 (λ (e : i ≡ 1). omega arith), ne_eqb i 2 (λ (e : i ≡ 2). omega arith), lt-leb i 1 (omega arith))

odd_there_lem : (mode : Mode) (index : ℕ) → odd_there mode index ≡ true → data_at (offsets Port.Odd) mode index (space_of mode index) 0x009 ≡ true
unfolding data_at space_of odd_there
odd_there_lem TrueIde index e = absurd (false≢true e)
odd_there_lem PcCard zero e = refl
odd_there_lem PcCard (suc zero) e = refl
odd_there_lem PcCard (suc (suc n)) e = let z : suc (suc n) ≤ 1 = leb-true _ _ e in absurd (omega arith)

abbrev There : Waiting → Mode → ℕ → Port → Type 0
There w mode index port = (fits w port ≡ true) × (data_at (offsets port) mode index (space_of mode index) (address_of port mode index) ≡ true)

even_here : (w : Waiting) (mode : Mode) (index : ℕ) → There w mode index Port.Even
even_here None mode index = (refl, even_there mode index)
even_here (LowByte b) mode index = (refl, even_there mode index)
even_here (HighByte b) mode index = (refl, even_there mode index)

liked_there : (like : Port) (w : Waiting) (mode : Mode) (index : ℕ) → There w mode index (liked like w (odd_there mode index))
unfolding liked
liked_there Port.Even w mode index = even_here w mode index
liked_there Port.Odd w mode index = go (odd_there mode index && fits w Port.Odd) refl
  where
    go : (b : Bool) → (odd_there mode index && fits w Port.Odd) ≡ b → There w mode index (pick b Port.Odd Port.Even)
    go true e = (and_right (odd_there mode index) (fits w Port.Odd) e, odd_there_lem mode index (and_left (odd_there mode index) (fits w Port.Odd) e))
    go false e = even_here w mode index
liked_there Port.Word w mode index = go (fits w Port.Word) refl
  where
    go : (b : Bool) → fits w Port.Word ≡ b → There w mode index (pick b Port.Word Port.Even)
    go true e = (e, even_there mode index)
    go false e = even_here w mode index

next-most : (b : ℕ → ℕ) → ((i : ℕ) → b i < 256) → (n : ℕ) (w : Waiting) (port : Port) → fits w port ≡ true → next b n w port ≤ most port
next-most b h n None Port.Even e = let x = h n in omega arith
next-most b h n None Port.Odd e = let x = h (n + 1) in omega arith
next-most b h n None Port.Word e = let x = h n in let y = h (n + 1) in omega arith
next-most b h n (LowByte v) Port.Even e = let x = h (n + 1) in omega arith
next-most b h n (LowByte v) Port.Odd e = let x = h (n + 1) in omega arith
next-most b h n (LowByte v) Port.Word e = absurd (false≢true e)
next-most b h n (HighByte v) Port.Even e = let x = h n in omega arith
next-most b h n (HighByte v) Port.Odd e = absurd (false≢true e)
next-most b h n (HighByte v) Port.Word e = absurd (false≢true e)

next_small : (way : Way) (b : ℕ → ℕ) → ((i : ℕ) → b i < 256) → (n : ℕ) (w : Waiting) (port : Port) → fits w port ≡ true → Small way port (next b n w port)
next_small In b h n w port e = tt
next_small Out b h n w port e = next-most b h n w port e

-- whatever parts it would like, and whatever it does aside that is allowed and moves no data: every round sends its own
pub liked-sends : (way : Way) (b : ℕ → ℕ) (besides : Hosted → List Asked) → ((i : ℕ) → b i < 256) →
    ((h : Hosted) → asks h.machine ≡ true → Going meaning way h (besides h) × ((onward meaning way h (besides h)).notes ≡ h.notes)) →
    (likes : List Port) (h : Hosted) → Willing meaning way (Sends b way) h (liked_rounds way b besides h likes)
unfolding liked_rounds
liked-sends way b besides small g [] h = tt
liked-sends way b besides small g (like ∷ l) h = λ e.
    let k = onward meaning way h (besides h) in
    let r = liked_there like k.notes.waiting k.machine.state.made.mode (index_in k.machine.state.option) in
    let f : Fitting way k (choice_in b like k) =
    record { half = r.0; place = r.1; value = next_small way b small (length k.notes.done) k.notes.waiting _ r.0; tuples = refl } in
    (((g h e).0, (g h e).1, λ x. (choice_in b like k, refl, f, refl)), liked-sends way b besides small g l _)

-- ---- one access aside, at each round, that moves no data

still-notes : (way : Way) (x : Meaning) (o : Outcome) (q : Notes) → still way x ≡ true → note way x o q ≡ q
unfolding note
still-notes way (Meaning.Refused r) o q e = refl
still-notes way (TupleByte b) o q e = refl
still-notes way ReadOption o q e = refl
still-notes way (WriteOption v) o q e = refl
still-notes way (ReadRegister r) o q e = refl
still-notes way (WriteRegister r v) o q e = refl
still-notes In (ReadData port) o q e = absurd (false≢true e)
still-notes In (WriteData port v) o q e = refl
still-notes Out (ReadData port) o q e = refl
still-notes Out (WriteData port v) o q e = absurd (false≢true e)

-- a status read, a refused access, a change of map, data the other way
pub one_aside : (way : Way) (b : ℕ → ℕ) (x : Hosted → Asked) → ((i : ℕ) → b i < 256) →
    ((h : Hosted) → asks h.machine ≡ true → (calm (meaning h.machine (x h)) ≡ true) × (still way (meaning h.machine (x h)) ≡ true)) →
    (likes : List Port) (h : Hosted) → Willing meaning way (Sends b way) h (liked_rounds way b (λ k. x k ∷ []) h likes)
unfolding hosted_by
one_aside way b x small f =
    liked-sends way b (λ k. x k ∷ []) small
    (λ h e. ((e, (f h e).0, tt), still-notes way (meaning h.machine (x h)) (perform (meaning h.machine (x h)) h.machine).outcome h.notes (f h e).1))

liked-length : (way : Way) (b : ℕ → ℕ) (besides : Hosted → List Asked) (h : Hosted) (likes : List Port) → length (liked_rounds way b besides h likes) ≡ length likes
unfolding liked_rounds
liked-length way b besides h [] = refl
liked-length way b besides h (like ∷ l) =
    let t : Round Asked = record { aside = besides h; choice = access_of way (choice_in b like (onward meaning way h (besides h))) } in
    ap suc (liked-length way b besides (onward meaning way h (round meaning way h t)) l)

-- So after every command there is a host that comes to its end: of words only, say.
pub not_empty : (m : Machine) (a : Asked) (v : ℕ) → AcceptedCommand m a v → (l : List Asked) × Moves (step m a).next l
unfolding hosted_by
not_empty m a v w =
    let way = way_of (row_of v) in
    let h = after m a v [] in
    let n = due (row_of v) (plain_of m) in
    let likes = replicate n Port.Word in
    let t = liked_rounds way (λ i. 0) (λ k. []) h likes in
    let e : length t ≡ n = liked-length way (λ i. 0) (λ k. []) h likes ∙ length-replicate n Port.Word in
    (rounds meaning way h t, every_host_ends m a v t w (omega arith) (sends_ready_too (λ i. 0) way t h (liked-sends way (λ i. 0) (λ k. []) (λ i. omega arith) (λ k x. (tt, refl)) likes h)))
