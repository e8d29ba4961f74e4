-- 01, "Tuples": the chain of tuples that a buffer holds.
use Rattle.std.specs.Prelude.{ℕ, zero, suc, ◌+◌, Bool, true, false, List, ◌∷◌, [], Option, Some, None, Result, Ok, Err, length, get_or, drop, ltb, leb, eqb}
use Rattle.ground.specs.Choice.{pick}
use Rattle.ground.specs.Rows.{When, Unless, first_or}
use Rattle.answers.specs.declared.Refusal.{Refusal}
use Rattle.answers.specs.declared.Refusal.TheVariants.{ChainBroken}
use Rattle.tuples.specs.declared.Entry.{Entry}
use Rattle.tuples.specs.declared.chain.Step.{Step}
use Rattle.tuples.specs.declared.chain.Step.TheVariants.{Tuple, Null, End}

-- "00H is one byte, skipped; FFH ends the chain"
abbrev pub null_code : ℕ
null_code = 0x00

abbrev pub end_mark : ℕ
end_mark = 0xFF

-- "entries: code, start, length"
abbrev pub entry : ℕ → ℕ → ℕ → Entry
entry c s n = record { code = c; start = s; length = n }

-- 00H is no tuple's code, so this is no tuple
abbrev pub no_entry : Entry
no_entry = entry null_code 0 0

-- the place after a tuple's body
abbrev pub end_of : Entry → ℕ
end_of e = e.start + e.length

-- the tuples up to the end mark or to where the chain breaks, and whether the end mark is there
pub record Chain : Type 0 where
  pub entries : List Entry
  pub ended : Bool

abbrev pub stop : Bool → Chain
stop b = record { entries = []; ended = b }

abbrev pub grow : Entry → Chain → Chain
grow e c = record { entries = e ∷ c.entries; ended = c.ended }

-- the chain of the bytes that start at the place `at`, of which the first k are a body:
-- "Code, link, then link bytes of body. 00H is one byte, skipped; FFH ends the chain."
unfoldable pub chain_from : ℕ → List ℕ → ℕ → Chain
chain_from k [] at = stop false
chain_from (suc k) (b ∷ r) at = chain_from k r (at + 1)
chain_from zero (b ∷ []) at = stop (eqb b end_mark)
chain_from zero (b ∷ (n ∷ r)) at =
    first_or
    (When (eqb b end_mark) (stop true)
    ∷ When (eqb b null_code) (chain_from zero (n ∷ r) (at + 1))
    ∷ Unless (leb n (length r)) (stop false)
    ∷ [])
    (grow (entry b (at + 2) n) (chain_from n r (at + 2)))

-- the chain from a place of a buffer on
abbrev pub chain_at : List ℕ → ℕ → Chain
chain_at s at = chain_from 0 (drop at s) at

-- one step: what stands at a place, or that the chain is broken there
unfoldable pub step_at : List ℕ → ℕ → Result Step Refusal
step_at s at =
    first_or
    (Unless (ltb at (length s)) (Err ChainBroken)
    ∷ When (eqb (get_or s at 0) end_mark) (Ok End)
    ∷ When (eqb (get_or s at 0) null_code) (Ok Null)
    ∷ Unless (leb (at + 2 + get_or s (at + 1) 0) (length s)) (Err ChainBroken)
    ∷ [])
    (Ok (Tuple (entry (get_or s at 0) (at + 2) (get_or s (at + 1) 0))))

-- the next tuple is the first of the chain from a place on; none where no tuple is left
abbrev pub first_found : List Entry → Option Entry
first_found [] = None
first_found (e ∷ es) = Some e

unfoldable pub next_at : List ℕ → ℕ → Option Entry
next_at s from = first_found (chain_at s from).entries

-- the place moves behind the body of a tuple that was found; where none is left, it stays
abbrev pub place_behind : Option Entry → ℕ → ℕ
place_behind None from = from
place_behind (Some e) from = end_of e

-- whether a link of the chain is FFH; the first k bytes are a body
unfoldable pub link_ff : ℕ → List ℕ → Bool
link_ff k [] = false
link_ff (suc k) (b ∷ r) = link_ff k r
link_ff zero (b ∷ []) = false
link_ff zero (b ∷ (n ∷ r)) = pick (eqb b end_mark) false (pick (eqb b null_code) (link_ff zero (n ∷ r)) (pick (eqb n 0xFF) true (link_ff n r)))
