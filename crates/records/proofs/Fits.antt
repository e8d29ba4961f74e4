-- A record that is an access lies inside its file.
use Prim.Native.Nat.{ℕ, ◌+◌, ◌-◌, ◌≤◌, ◌<◌}
use mathlib.Core.Bool.{Bool, true, false, ◌||◌, true≢false}
use mathlib.Core.Path.{◌≡◌, refl, ap}
use mathlib.Core.List.{List, [], ◌∷◌, ◌++◌}
use native.Mathlib.Omega.{arith}
use Rattle.std.specs.Prelude.{Ok, Err}
use lib.Dec.{eqb, ltb}
use lib.ListN.{length}
use borrow.Author.Tests.{ltb-false, eqb-true}
use Rattle.ground.specs.Rows.{Row, When, Unless, applies, first_of}
use Rattle.ground.proofs.Picks.{un_not}
use Rattle.maps.specs.declared.Access.{Access}
use Rattle.records.specs.declared.Break.{Break}
use Rattle.records.specs.Record.{head_length, word_at, kind_at, access_length, access_in, fit_breaks, after_breaks, access_breaks, next_record}

-- no row applies
abbrev Silent : List (Row Break) → Type 0
Silent [] = Unit {0}
Silent (x ∷ l) = (applies x ≡ false) × Silent l

passed : (l : List (Row Break)) (a b : Access) → first_of l Err (Ok a) ≡ Ok b → (a ≡ b) × Silent l
passed [] a b e = (cc, tt)
passed (When true r ∷ l) a b e = cc
passed (When false r ∷ l) a b e = let p = passed l a b e in (p.0, (refl, p.1))
passed (Unless true r ∷ l) a b e = let p = passed l a b e in (p.0, (refl, p.1))
passed (Unless false r ∷ l) a b e = cc

second : (t u : Bool) → t || u ≡ false → u ≡ false
second true u e = absurd (true≢false e)
second false u e = e

pub access_fits : (b : Access) (file : List ℕ) (at : ℕ) → at < length file → next_record file at ≡ Ok b → at + access_length b.write ≤ length file
unfolding next_record
access_fits b file at h e =
    let left = length file - at in
    let size = word_at file at in
    let a = access_in file at (eqb (kind_at file at) 2) in
    let p = passed (fit_breaks left size ++ after_breaks (kind_at file at) ++ access_breaks size a) a b e in
    let f = ltb-false left size (second (ltb left head_length) _ p.1.0) in
    let g = eqb-true size (access_length a.write) (un_not _ _ p.1.1.1.1.1.0) in
    let k = ap (λ (x : Access). access_length x.write) p.0 in
    omega (arith, f, g, k)
