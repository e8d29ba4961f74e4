-- 01, "What is lent": "A sector store, one mark byte per sector". A mark is 0 sound, 1 unreadable, 2 can't be written; "A mark above 2 that appears later
-- counts as 1."
use Rattle.std.specs.Prelude.{ℕ, ◌+◌, ◌-◌, Bool, true, false, List, [], ◌∷◌, eqb, leb}
use Rattle.ground.specs.Choice.{pick}

-- a sector of this mark can be read and verified
unfoldable pub readable : ℕ → Bool
readable mark = pick (eqb mark 0) true (eqb mark 2)

-- a sector of this mark can be written and erased
unfoldable pub writable : ℕ → Bool
writable mark = pick (eqb mark 2) false true

-- no mark is above 2
unfoldable pub marks_fit : List ℕ → Bool
marks_fit [] = true
marks_fit (mark ∷ marks) = pick (leb mark 2) (marks_fit marks) false

-- 02, "Eight": "the number of marks that are not 0"
abbrev pub one_if_bad : ℕ → ℕ
one_if_bad mark = pick (eqb mark 0) 0 1

unfoldable pub bad_in : List ℕ → ℕ
bad_in [] = 0
bad_in (mark ∷ marks) = one_if_bad mark + bad_in marks

-- once such a mark is set to 0, it is one less, "never below 0"
unfoldable pub lowered : ℕ → ℕ → ℕ
lowered mark bad = bad - one_if_bad mark
