-- Tuple readers with one fault: sample 12 shows them.
use Rattle.std.specs.Prelude.{ℕ, ◌-◌, List, [], ◌∷◌, ◌++◌, map, length, Ok}
use Rattle.tuples.specs.declared.Entry.{Entry}
use Rattle.tuples.specs.Chain.{chain_at, entry}
use Rattle.tuples.specs.Read.{unless_refused, filled}
use Rattle.samples.specs.Passes.{Reading, reader}

-- the reader with other entries, where it refuses nothing
abbrev pub listing : (List Entry → List Entry) → List ℕ → List Entry → Reading
listing f buffer list =
    let r = reader buffer list in
    let entries = f (chain_at buffer 0).entries in
    unless_refused r.outcome (record { outcome = Ok (length entries); list = filled entries list }) r

-- "entries: code, start, length": here a tuple starts at its code, and not at its body
abbrev pub at_code : Entry → Entry
at_code e = entry e.code (e.start - 2) e.length

unfoldable pub starts_at_code : List ℕ → List Entry → Reading
starts_at_code buffer list = listing (map at_code) buffer list

-- "FFH ends the chain": here it is listed too
unfoldable pub lists_end : List ℕ → List Entry → Reading
lists_end buffer list = listing (λ es. es ++ (entry 0xFF 0 0 ∷ [])) buffer list
