-- The tests that every record has come first: where one of them breaks, nothing else is asked; where none does, the others say all.
use Rattle.std.proofs.Common.{◌≡◌, ℕ, ◌-◌, true, false, eqb, List, [], ◌∷◌, ◌++◌, length, Result, Ok, Err, sym, refl}
use Rattle.std.proofs.Math.Nat.{sub-zero}
use Rattle.ground.specs.Rows.{Row, When, Unless, first_of}
use Rattle.maps.specs.declared.Access.{Access}
use Rattle.records.specs.declared.Break.{Break}
use Rattle.records.specs.declared.Head.{Head}
use Rattle.records.specs.declared.Sizes.{Sizes}
use Rattle.records.specs.Record.{word_at, kind_at, access_in, sizes_in, fit_breaks, opening_breaks, after_breaks, access_breaks, next_record, first_record}

broke : {A B : Type 0} (l m : List (Row Break)) (a : A) (b : B) (why : Break) → Err why ≡ first_of l Err (Ok a) → Err why ≡ first_of (l ++ m) Err (Ok b)
broke [] m a b why e = cc
broke (When true r ∷ l) m a b why e = cc
broke (When false r ∷ l) m a b why e = broke l m a b why e
broke (Unless true r ∷ l) m a b why e = broke l m a b why e
broke (Unless false r ∷ l) m a b why e = cc

held : {A B : Type 0} (l m : List (Row Break)) (a h : A) (b : B) → Ok h ≡ first_of l Err (Ok a) → (h ≡ a) × (first_of (l ++ m) Err (Ok b) ≡ first_of m Err (Ok b))
held [] m a h b e = (cc, refl)
held (When true r ∷ l) m a h b e = cc
held (When false r ∷ l) m a h b e = held l m a h b e
held (Unless true r ∷ l) m a h b e = held l m a h b e
held (Unless false r ∷ l) m a h b e = cc

abbrev pub head_in : List ℕ → ℕ → Head
head_in file at = record { size = word_at file at; kind = kind_at file at }

abbrev pub fits_at : List ℕ → ℕ → Result Head Break
fits_at file at = first_of (fit_breaks (length file - at) (word_at file at)) Err (Ok (head_in file at))

-- what stands there by the head that was read, where that held
abbrev pub next_by : Head → List ℕ → ℕ → Result Access Break
next_by h file at = let a = access_in file at (eqb h.kind 2) in first_of (after_breaks h.kind ++ access_breaks h.size a) Err (Ok a)

abbrev pub first_by : Head → List ℕ → Result Sizes Break
first_by h file = first_of (opening_breaks h.kind h.size) Err (Ok (sizes_in file))

pub next_broke : (file : List ℕ) (at : ℕ) (why : Break) → Err why ≡ fits_at file at → Err why ≡ next_record file at
unfolding next_record
next_broke file at why e =
    let a = access_in file at (eqb (kind_at file at) 2) in
    broke (fit_breaks (length file - at) (word_at file at)) (after_breaks (kind_at file at) ++ access_breaks (word_at file at) a) (head_in file at) a why e

pub next_held : (file : List ℕ) (at : ℕ) (h : Head) → Ok h ≡ fits_at file at → next_by h file at ≡ next_record file at
unfolding next_record
next_held file at h e =
    let a = access_in file at (eqb (kind_at file at) 2) in
    let p = held (fit_breaks (length file - at) (word_at file at)) (after_breaks (kind_at file at) ++ access_breaks (word_at file at) a) (head_in file at) h a e in
    rw p.0 (sym p.1)

pub first_broke : (file : List ℕ) (why : Break) → Err why ≡ fits_at file 0 → Err why ≡ first_record file
unfolding first_record
first_broke file why e =
    let z = sub-zero (length file) in
    broke (fit_breaks (length file) (word_at file 0)) (opening_breaks (kind_at file 0) (word_at file 0)) (head_in file 0) (sizes_in file) why (rw z at e)

pub first_held : (file : List ℕ) (h : Head) → Ok h ≡ fits_at file 0 → first_by h file ≡ first_record file
unfolding first_record
first_held file h e =
    let z = sub-zero (length file) in
    let p = held (fit_breaks (length file) (word_at file 0)) (opening_breaks (kind_at file 0) (word_at file 0)) (head_in file 0) h (sizes_in file) (rw z at e) in
    rw p.0 (sym p.1)
