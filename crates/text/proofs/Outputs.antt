-- Laws of text that is written into bytes.
use Rattle.std.proofs.Common.{◌≡◌, ℕ, suc, ◌+◌, ◌<◌, ◌≤◌, min, Bool, true, false, leb, List, [], ◌∷◌, ◌++◌, length, get_or, take, drop, set, sym, refl, ap, ◌∙◌, append-nil, le_refl, le_of_lt, add-one, arith, length-append, length-drop, length-set, take-append-drop, drop_of_length-le, length-take-le, take_all, drop-cons, take-suc-set, drop-set-lt, le-ltb, lt-ltb, leb-false, leb-true}
use native.Mathlib.Nat.{min-eq_left, min-eq_right}
use lib.Seq.{set_comm, append_snoc}
use Rattle.text.specs.Output.{Output, output, put_byte, put, written, Wrote, holding}

-- one text after another
written_then : (s t b : List ℕ) (at : ℕ) → written b at (s ++ t) ≡ written (written b at s) (at + length s) t
unfolding written
written_then [] t b at = let e : at + 0 ≡ at = omega arith in rw e
written_then (x ∷ s) t b at = let e : at + suc (length s) ≡ at + 1 + length s = omega arith in rw e (written_then s t (set b at x) (at + 1))

pub wrote_then : {b : List ℕ} {at : ℕ} {s : List ℕ} {b' : List ℕ} {next : ℕ} {t : List ℕ} {b'' : List ℕ} {last : ℕ} → Wrote b at s b' next → Wrote b' next t b'' last → Wrote b at (s ++ t) b'' last
wrote_then {b} {at} {s} {b'} {next} {t} {b''} {last} p q =
    record {
      bytes = q.bytes ∙ rw (p.bytes, p.place) (sym (written_then s t b at));
      place = let e = length-append s t in let f = p.place in let g = q.place in omega arith;
    }

-- a byte that is written before the text in front of it
written-set : (s b : List ℕ) (at k x : ℕ) → at + length s ≤ k → written (set b k x) at s ≡ set (written b at s) k x
unfolding written
written-set [] b at k x h = refl
written-set (y ∷ s) b at k x h =
    ap (λ (c : List ℕ). written c (at + 1) s) (set_comm b k at x y (λ e. omega arith))
    ∙ written-set s (set b at y) (at + 1) k x (omega arith)

pub written_last : (s b : List ℕ) (at x : ℕ) → written b at (s ++ (x ∷ [])) ≡ written (set b (at + length s) x) at s
unfolding written
written_last s b at x = written_then s (x ∷ []) b at ∙ sym (written-set s b at (at + length s) x (omega arith))

-- the first bytes, once a text was written at their end
written_front : (t b : List ℕ) (at : ℕ) → at + length t ≤ length b → take (at + length t) (written b at t) ≡ take at b ++ t
unfolding written
written_front [] b at h = let e : at + 0 ≡ at = omega arith in rw e (sym (append-nil (take at b)))
written_front (x ∷ t) b at h =
    let e : at + suc (length t) ≡ at + 1 + length t = omega arith in
    let l = length-set b at x in
    rw e (written_front t (set b at x) (at + 1) (omega arith) ∙ rw (add-one at, take-suc-set b at x (omega arith)) (append_snoc (take at b) x t))

written-whole : (t b : List ℕ) → length t ≤ length b → take (length t) (written b 0 t) ≡ t
written-whole t b h =
    let e : 0 + length t ≡ length t = omega arith in
    rw e at (written_front t b 0 (rw e h))

pub written_text : {b : List ℕ} {t : List ℕ} {b' : List ℕ} {next : ℕ} → Wrote b 0 t b' next → next ≤ length b → take next b' ≡ t
written_text {b} {t} {b'} {next} w h =
    let p = w.place in
    let e : next ≡ length t = omega arith in
    rw (e, w.bytes) (written-whole t b (omega arith))

-- text that is put, one part after another, and where there is room for it
pub put_then : (s t : List ℕ) (o : Output) → put o (s ++ t) ≡ put (put o s) t
unfolding put
put_then [] t o = refl
put_then (x ∷ s) t o = put_then s t (put_byte o x)

pub put_both : (s t : List ℕ) (o p q : Output) → p ≡ put o s → q ≡ put p t → q ≡ put o (s ++ t)
put_both s t o p q e f = f ∙ ap (λ (x : Output). put x t) e ∙ sym (put_then s t o)

put_room : (t b : List ℕ) (at : ℕ) → at + length t ≤ length b → put (output b at) t ≡ output (written b at t) (at + length t)
unfolding put written put_byte
put_room [] b at h = let e : at + 0 ≡ at = omega arith in rw e
put_room (x ∷ t) b at h =
    let e : at + suc (length t) ≡ at + 1 + length t = omega arith in
    let l = length-set b at x in
    rw (lt-ltb at (length b) (omega arith), e) (put_room t (set b at x) (at + 1) (omega arith))

pub put-wrote : {b : List ℕ} {at : ℕ} {t : List ℕ} {b' : List ℕ} {next : ℕ} → Wrote b at t b' next → next ≤ length b → output b' next ≡ put (output b at) t
put-wrote {b} {at} {t} {b'} {next} w h =
    let p = w.place in
    rw (w.bytes, w.place) (sym (put_room t b at (omega arith)))

-- a byte a turn
pub put_turn : (i : ℕ) (t : List ℕ) (o : Output) → i < length t → put o (drop i t) ≡ put (put_byte o (get_or t i 0)) (drop (i + 1) t)
unfolding put
put_turn i t o h = rw (drop-cons t i 0 h, add-one i)

pub put_end : (i : ℕ) (t : List ℕ) (o : Output) → length t ≤ i → put o (drop i t) ≡ o
unfolding put
put_end i t o h = rw (drop_of_length-le t h)

-- what lies past a text stays
written_back : (t b : List ℕ) (at : ℕ) → drop (at + length t) (written b at t) ≡ drop (at + length t) b
unfolding written
written_back [] b at = refl
written_back (x ∷ t) b at =
    let e : at + suc (length t) ≡ at + 1 + length t = omega arith in
    rw e (written_back t (set b at x) (at + 1) ∙ drop-set-lt (at + 1 + length t) b at x (omega arith))

written_start : (t b : List ℕ) → length t ≤ length b → written b 0 t ≡ t ++ drop (length t) b
written_start t b h =
    let e : 0 + length t ≡ length t = omega arith in
    sym (take-append-drop (length t) (written b 0 t)) ∙ rw (written-whole t b h, rw e at (written_back t b 0))

put_full : (t b : List ℕ) (at : ℕ) → length b ≤ at → put (output b at) t ≡ output b at
unfolding put put_byte
put_full [] b at h = refl
put_full (x ∷ t) b at h = rw (le-ltb at (length b) h) (put_full t b at h)

put_start : (t b : List ℕ) → length t ≤ length b → put (output b 0) t ≡ output (t ++ drop (length t) b) (length t)
put_start t b h =
    let e : 0 + length t ≡ length t = omega arith in
    put_room t b 0 (rw e h) ∙ rw (e, written_start t b h)

-- an output holds the text's first bytes
put_holds_by : (t b : List ℕ) (fits : Bool) → leb (length t) (length b) ≡ fits → put (output b 0) t ≡ output (holding b t) (min (length t) (length b))
put_holds_by t b true e =
    let h = leb-true _ _ e in
    put_start t b h ∙ rw (take_all (length b) t h, min-eq_left h)
put_holds_by t b false e =
    let h = leb-false _ _ e in
    let n = length b in
    let l : length (take n t) ≡ n = length-take-le n t (le_of_lt h) in
    let f = put_start (take n t) b (rw l (le_refl n)) in
    ap (put (output b 0)) (sym (take-append-drop n t))
    ∙ put_then (take n t) (drop n t) (output b 0)
    ∙ ap (λ (o : Output). put o (drop n t)) f
    ∙ put_full (drop n t) (take n t ++ drop (length (take n t)) b) (length (take n t)) (rw (length-append (take n t) (drop (length (take n t)) b), l, length-drop n b) (omega arith))
    ∙ rw (l, drop_of_length-le b (le_refl n), drop_of_length-le b (le_of_lt h), min-eq_right (le_of_lt h))

pub put_holds : (t b : List ℕ) → put (output b 0) t ≡ output (holding b t) (min (length t) (length b))
put_holds t b = put_holds_by t b (leb (length t) (length b)) refl
