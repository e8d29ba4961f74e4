-- Laws of zero bytes and of a text after the header.
use Rattle.std.proofs.Common.{◌≡◌, ℕ, ◌+◌, ◌-◌, ◌≤◌, min, Bool, true, false, leb, List, length, take, drop, sym, refl, ap, ◌∙◌, le_of_lt, arith, length-append, length-drop, length-take, length-take-le, leb-false, leb-true}
use native.Mathlib.Nat.{min-le_right, min-eq_left, min-eq_right}
use lib.ListN.{length-replicate}
use Rattle.text.specs.Lines.{header}
use Rattle.session.specs.declared.Told.{Told}
use Rattle.text.specs.Output.{Output, output, put, holding, LiesIn}
use Rattle.session.specs.Run.{Session, printed_in, printed_at, told_as}
use Rattle.session.specs.Play.{zero_bytes, session_of, printed, print_of}
use Rattle.text.proofs.Outputs.{put_then, put_holds}
use Rattle.std.proofs.lemmas.List.{take-replicate}

-- a part of zero bytes
pub zero_part : (k n : ℕ) → k ≤ n → take k (zero_bytes n) ≡ zero_bytes k
unfolding zero_bytes
zero_part k n h = take-replicate k n 0 h

pub zero-length : (n : ℕ) → length (zero_bytes n) ≡ n
unfolding zero_bytes
zero-length n = length-replicate n 0

-- the header and what follows it
pub after-header : (bytes file : List ℕ) → printed_at (put (output bytes 0) header) (session_of file) ≡ printed bytes file
after-header bytes file =
    ap (λ (o : Output). printed_in o (session_of file)) (sym (put_then header (session_of file).text (output bytes 0)) ∙ put_holds (print_of file) bytes)

min_sub_by : (a b : ℕ) (below : Bool) → leb a b ≡ below → min a b + (a - b) ≡ a
min_sub_by a b true e = let h = leb-true a b e in rw (min-eq_left h) (omega arith)
min_sub_by a b false e = let h = le_of_lt (leb-false a b e) in rw (min-eq_right h) (omega arith)

min-sub : (a b : ℕ) → min a b + (a - b) ≡ a
min-sub a b = min_sub_by a b (leb a b) refl

holding-length : (bytes text : List ℕ) → length (holding bytes text) ≡ length bytes
holding-length bytes text =
    let e = length-append (take (length bytes) text) (drop (length text) bytes) in
    let t = length-take (length bytes) text in
    let d = length-drop (length text) bytes in
    rw (e, t, d) (min-sub (length bytes) (length text))

-- the bytes that are told lie in the output
pub text_lies : (bytes file : List ℕ) (t : Told) (out : List ℕ) → told_as t out ≡ printed bytes file → LiesIn t.text out
text_lies bytes file t out e =
    let n : t.text ≡ min (length (print_of file)) (length bytes) = ap (λ (p : Session Output). p.text.at) e in
    let l : length out ≡ length bytes = ap (λ (p : Session Output). length p.text.bytes) e ∙ holding-length bytes (print_of file) in
    let h : t.text ≤ length out = rw (n, l) (min-le_right (length (print_of file)) (length bytes)) in
    (h, sym (length-take-le t.text out h))
