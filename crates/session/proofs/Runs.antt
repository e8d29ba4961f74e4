-- A run, a record a turn: what is still to be done from here is what was to be done at the start.
use Rattle.std.proofs.Common.{◌≡◌, ℕ, zero, suc, ◌+◌, ◌-◌, ◌<◌, ◌≤◌, List, ◌++◌, length, sym, refl, ap, ◌∙◌, append_assoc, Ok, Err, arith, le-leb}
use borrow.Author.Tests.{lt-leb}
use Rattle.registers.specs.Machine.{Machine}
use Rattle.port.specs.Data.{Effect}
use Rattle.card.specs.Access.{Asked, asked_with}
use Rattle.card.specs.Step.{play, step}
use Rattle.maps.specs.declared.Access.{Access}
use Rattle.records.specs.declared.Break.{Break}
use Rattle.session.specs.declared.Failure.TheVariants.{Broken}
use Rattle.records.specs.Record.{next_record, access_length}
use Rattle.text.specs.Lines.{bad}
use Rattle.text.specs.Output.{Output, put}
use Rattle.session.specs.Run.{Ending, Script, ends, goes_on, script_from, wrapped, line_text, end_text, RunResult, result_of, shown_at}
use Rattle.text.proofs.Outputs.{put_then}

-- the part's end, a broken record, an access
script_end : (n : ℕ) (part tuples : List ℕ) (at : ℕ) → length part ≤ at → script_from n part tuples at ≡ ends at (Ok tt)
unfolding script_from
script_end zero part tuples at h = refl
script_end (suc n) part tuples at h = simp (le-leb _ _ h)

script-stop : (n k : ℕ) (part tuples : List ℕ) (at : ℕ) (why : Break) → n ≡ suc k → at < length part → next_record part at ≡ Err why →
    script_from n part tuples at ≡ ends at (Err (Broken why))
unfolding script_from
script-stop n k part tuples at why h g e = rw h (simp (lt-leb _ _ g, e))

script_access : (n k : ℕ) (part tuples : List ℕ) (at : ℕ) (q : Access) → n ≡ suc k → at < length part → next_record part at ≡ Ok q →
    script_from n part tuples at ≡ goes_on (asked_with q tuples) (script_from k part tuples (at + access_length q.write))
unfolding script_from
script_access n k part tuples at q h g e = rw h (simp (lt-leb _ _ g, e))

-- what a run leaves, with so many accesses done before it; and with more text before it
abbrev after : ℕ → RunResult (List ℕ) → RunResult (List ℕ)
after done r =
    record {
      machine = r.machine;
      session = record { place = r.session.place; done = done + r.session.done; end = r.session.end; text = r.session.text };
    }

abbrev ahead : List ℕ → RunResult (List ℕ) → RunResult (List ℕ)
ahead text r =
    record {
      machine = r.machine;
      session = record { place = r.session.place; done = r.session.done; end = r.session.end; text = text ++ r.session.text };
    }

result-ends : (first number done : ℕ) (m : Machine) (at : ℕ) (e : Ending) →
    after done (result_of first number m (ends at e)) ≡ record { machine = m; session = record { place = wrapped (first + at); done = done; end = e; text = end_text e (wrapped (first + at)) } }
unfolding result_of play
result-ends first number done m at e = let z : done + 0 ≡ done = omega arith in rw z

result_goes_on : (first number done : ℕ) (m : Machine) (a : Asked) (s : Script) →
    after done (result_of first number m (goes_on a s)) ≡ ahead (line_text number a (step m a).outcome) (after (done + 1) (result_of first (wrapped (number + 1)) (step m a).next s))
unfolding result_of play
result_goes_on first number done m a s =
    let z : done + suc (length s.accesses) ≡ done + 1 + length s.accesses = omega arith in
    simp (z, append_assoc)

shown_ahead : (o : Output) (text : List ℕ) (r : RunResult (List ℕ)) → shown_at o (ahead text r) ≡ shown_at (put o text) r
shown_ahead o text r = simp put_then

-- what is still to be done at a place of the part: no access begins before the place of its number, so fewer than its bytes are left
abbrev pub to_come : Output → ℕ → ℕ → ℕ → Machine → List ℕ → List ℕ → ℕ → RunResult Output
to_come o first number done m part tuples at = shown_at o (after done (result_of first number m (script_from (length part - done) part tuples at)))

-- at the start none is done
pub from_start : (o : Output) (r : RunResult (List ℕ)) → shown_at o (after 0 r) ≡ shown_at o r
from_start o r = let z : 0 + r.session.done ≡ r.session.done = omega arith in rw z refl

-- a run that comes to its end here
abbrev pub stops_at : Machine → ℕ → ℕ → Ending → Output → RunResult Output
stops_at m place done e o = record { machine = m; session = record { place = place; done = done; end = e; text = o } }

lines_ended : (o : Output) (first number done at : ℕ) (part tuples : List ℕ) (m : Machine) (e : Ending) → script_from (length part - done) part tuples at ≡ ends at e →
    to_come o first number done m part tuples at ≡ stops_at m (wrapped (first + at)) done e (put o (end_text e (wrapped (first + at))))
lines_ended o first number done at part tuples m e f =
    ap (λ (s : Script). shown_at o (after done (result_of first number m s))) f ∙ ap (shown_at o) (result-ends first number done m at e)

pub lines_end : (o : Output) (first number done at : ℕ) (part tuples : List ℕ) (m : Machine) → length part ≤ at →
    to_come o first number done m part tuples at ≡ stops_at m (wrapped (first + at)) done (Ok tt) o
unfolding put
lines_end o first number done at part tuples m h = lines_ended o first number done at part tuples m (Ok tt) (script_end (length part - done) part tuples at h)

pub lines_stop : (o : Output) (first number done at : ℕ) (part tuples : List ℕ) (m : Machine) (why : Break) → done ≤ at → at < length part → next_record part at ≡ Err why →
    to_come o first number done m part tuples at ≡ stops_at m (wrapped (first + at)) done (Err (Broken why)) (put o (bad (wrapped (first + at))))
lines_stop o first number done at part tuples m why h g e =
    lines_ended o first number done at part tuples m (Err (Broken why)) (script-stop (length part - done) (length part - (done + 1)) part tuples at why (omega arith) g e)

pub lines_turn : (o o' : Output) (first number done at : ℕ) (part tuples : List ℕ) (m : Machine) (q : Access) (s : Effect) →
    done ≤ at → at < length part → next_record part at ≡ Ok q → s ≡ step m (asked_with q tuples) →
    o' ≡ put o (line_text number (asked_with q tuples) s.outcome) →
    to_come o' first (wrapped (number + 1)) (done + 1) s.next part tuples (at + access_length q.write) ≡ to_come o first number done m part tuples at
lines_turn o o' first number done at part tuples m q s h g e f p =
    let a = asked_with q tuples in
    let rest = script_from (length part - (done + 1)) part tuples (at + access_length q.write) in
    let then : Effect → RunResult (List ℕ) = λ (s : Effect). after (done + 1) (result_of first (wrapped (number + 1)) s.next rest) in
    ap (λ (x : Output). shown_at x (then s)) p
    ∙ ap (λ (s : Effect). shown_at (put o (line_text number a s.outcome)) (then s)) f
    ∙ sym (shown_ahead o (line_text number a (step m a).outcome) (then (step m a)))
    ∙ ap (shown_at o) (sym (result_goes_on first number done m a rest))
    ∙ ap (λ (s : Script). shown_at o (after done (result_of first number m s))) (sym (script_access (length part - done) (length part - (done + 1)) part tuples at q (omega arith) g e))
