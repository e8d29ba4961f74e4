-- The text of any file has at most 61,438 bytes: the header's 18, 15 for each of at most 4,094 accesses, and 10 for `bad`.
use Rattle.std.proofs.Common.{◌≡◌, ℕ, zero, suc, ◌+◌, ◌*◌, ◌<◌, ◌≤◌, Bool, true, false, eqb, ltb, leb, List, [], ◌∷◌, length, Result, Ok, Err, sym, refl, subst, mod-eq_of_lt, arith, length-append, ltb-false, leb-false}
use Rattle.ground.proofs.Picks.{pick-elim}
use Rattle.answers.specs.declared.Refusal.TheVariants.{GeometryOrMode}
use Rattle.geometry.specs.Limits.{capacity_of}
use Rattle.registers.specs.Machine.{Machine}
use Rattle.card.specs.declared.Card.{Card}
use Rattle.card.specs.Access.{Asked}
use Rattle.card.specs.Step.{play, step}
use Rattle.card.specs.Doors.{machine_of}
use Rattle.card.specs.Opening.{opened}
use Rattle.text.specs.Lines.{header, shown_value}
use Rattle.text.proofs.Length.{line-length, bad-length, unopened-length}
use Rattle.records.specs.declared.Sizes.{Sizes}
use Rattle.maps.specs.declared.Access.{Access}
use Rattle.records.specs.declared.Break.{Break}
use Rattle.session.specs.declared.Failure.TheVariants.{Broken, Unopened}
use Rattle.records.specs.Record.{next_record, first_record, access_length, opening_length}
use Rattle.session.specs.Run.{Ending, Script, by_after, script_from, wrapped, line_text, lines_of, end_text, Session, result_of}
use Rattle.session.specs.Play.{longest_file, most_sectors, opens_as, opened_on, opening, by_first, session_of, print_of, geometry_of, zero_bytes, no_tuples}
use Rattle.records.proofs.Fits.{access_fits}
use Rattle.answers.specs.Answers.{Outcome}

-- a record has 8 bytes or more: the accesses of a part, and where it ends
abbrev Short : ℕ → ℕ → Script → Type 0
Short bound at s = (at + 8 * length s.accesses ≤ bound) × (s.place ≤ bound)

size_least : (write : Bool) → 8 ≤ access_length write
size_least true = omega arith
size_least false = omega arith

turn_short : (t : Result Access Break) (bound : ℕ) (part tuples : List ℕ) (rest : ℕ → Script) (at : ℕ) → length part ≤ bound → at < length part → next_record part at ≡ t →
    ((next : ℕ) → next ≤ bound → Short bound next (rest next)) → Short bound at (by_after t rest tuples at)
turn_short (Ok q) bound part tuples rest at h g e ih =
    let f = access_fits q part at g e in
    let w = size_least q.write in
    let i = ih (at + access_length q.write) (omega arith) in
    (omega (arith, i.0), i.1)
turn_short (Err why) bound part tuples rest at h g e ih = (omega arith, omega arith)

script_short : (n bound : ℕ) (part tuples : List ℕ) (at : ℕ) → length part ≤ bound → at ≤ bound → Short bound at (script_from n part tuples at)
unfolding script_from
script_short zero bound part tuples at h g = (omega arith, g)
script_short (suc n) bound part tuples at h g =
    pick-elim (Short bound at) (leb (length part) at) _ _
    (λ _. (omega arith, g))
    (λ e. turn_short (next_record part at) bound part tuples (script_from n part tuples) at h (leb-false _ _ e) refl (λ next k. script_short n bound part tuples next h k))

-- no more text than a line of 15 bytes for each access
lines_length : (l : List Asked) (m : Machine) (number : ℕ) → number + length l ≤ 10000 → length (lines_of number l (play m l).steps) ≤ 15 * length l
unfolding play
lines_length [] m number h = omega arith
lines_length (a ∷ l) m number h =
    let o = (step m a).outcome in
    let w : wrapped (number + 1) ≡ number + 1 = mod-eq_of_lt (omega arith) in
    let f = line-length number a.access.write o (shown_value o a.access.write a.access.value) (omega arith) in
    let g = subst (λ (n : ℕ). length (lines_of n l (play (step m a).next l).steps) ≤ 15 * length l) (sym w) (lines_length l (step m a).next (number + 1) (omega arith)) in
    let e = length-append (line_text number a o) (lines_of (wrapped (number + 1)) l (play (step m a).next l).steps) in
    omega arith

end_length : (e : Ending) (place : ℕ) → place < 100000 → length (end_text e place) ≤ 10
end_length (Ok u) place h = omega arith
end_length (Err (Broken why)) place h = bad-length place h
end_length (Err (Unopened r)) place h = let f = unopened-length r in omega arith

-- a run of a whole file's accesses
run_length : (file tuples : List ℕ) (m : Machine) → length file ≤ longest_file → length (result_of 0 1 m (script_from (length file) file tuples opening_length)).session.text ≤ 61420
unfolding result_of
run_length file tuples m h =
    let s = script_from (length file) file tuples opening_length in
    let b = script_short (length file) longest_file file tuples opening_length h (omega arith) in
    let c = b.0 in
    let d = b.1 in
    let w : wrapped (0 + s.place) ≡ 0 + s.place = mod-eq_of_lt (omega arith) in
    let l = lines_length s.accesses m 1 (omega arith) in
    let t = subst (λ (n : ℕ). length (end_text s.end n) ≤ 10) (sym w) (end_length s.end (0 + s.place) (omega arith)) in
    let e = length-append (lines_of 1 s.accesses (play m s.accesses).steps) (end_text s.end (wrapped (0 + s.place))) in
    omega arith

opens_length : (o : Outcome) (c : Card) (file store marks tuples : List ℕ) → length file ≤ longest_file → length (opens_as o c file store marks tuples).text ≤ 61420
opens_length (Ok v) c file store marks tuples h = run_length file tuples (machine_of c store marks) h
opens_length (Err r) c file store marks tuples h = let f = unopened-length r in omega arith

opening-length : (s : Sizes) (file : List ℕ) → length file ≤ longest_file → length (opening s file).text ≤ 61420
unfolding opening opened_on
opening-length s file h =
    let n = capacity_of (geometry_of s) in
    let answer = opened (geometry_of s) s.mode (zero_bytes (512 * n)) (zero_bytes n) no_tuples in
    pick-elim (λ (x : Session (List ℕ)). length x.text ≤ 61420) (ltb most_sectors (capacity_of (geometry_of s))) _ _
    (λ _. let f = unopened-length GeometryOrMode in omega arith)
    (λ _. opens_length answer.outcome answer.card file (zero_bytes (512 * n)) (zero_bytes n) no_tuples h)

first-length : (f : Result Sizes Break) (file : List ℕ) → length file ≤ longest_file → length (by_first f file).text ≤ 61420
first-length (Ok s) file h = opening-length s file h
first-length (Err why) file h = let f = bad-length 0 (omega arith) in omega arith

session-length : (file : List ℕ) → length (session_of file).text ≤ 61420
unfolding session_of
session-length file =
    pick-elim (λ (x : Session (List ℕ)). length x.text ≤ 61420) (eqb (length file) 0) _ _
    (λ _. let f = bad-length 0 (omega arith) in omega arith)
    (λ _. pick-elim (λ (x : Session (List ℕ)). length x.text ≤ 61420) (ltb longest_file (length file)) _ _
    (λ _. let f = bad-length longest_file (omega arith) in omega arith)
    (λ e. first-length (first_record file) file (ltb-false longest_file (length file) e)))

-- everything that is printed of any file
pub print_length : (file : List ℕ) → length (print_of file) ≤ 61438
unfolding header
print_length file =
    let s = session-length file in
    let e = length-append header (session_of file).text in
    omega arith
