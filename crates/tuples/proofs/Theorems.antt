-- Theorems about the reader and the writer, stated over their promises `Reads` and `Writes`.
--     written_reads_back      "Reading back gives the same codes and bodies, starts apart"
--     read_then_written_back  "writing back equals the chain up to its end mark, null (00H) tuples dropped"
--     most_read               at most 127 entries in 256 bytes
use Rattle.std.proofs.Common.{Ok}
use mathlib.Core.Path.{◌≡◌, refl, sym, ◌∙◌, ap, subst}
use mathlib.Core.Bool.{true}
use mathlib.Core.List.{List, ◌++◌, map, []}
use Prim.Native.Nat.{ℕ, suc, ◌≤◌, ◌-◌}
use native.Mathlib.Omega.{arith}
use lib.ListN.{length, take, replicate, length-append, length-replicate}
use borrow.Author.Tests.{le-leb, eq-eqb}
use Rattle.tuples.specs.Chain.{Chain, chain_from, chain_at}
use Rattle.tuples.specs.Read.{read_outcome, counted, unless_refused, Reads}
use Rattle.tuples.specs.Write.{body_of, tuple_bytes, all_good, filled_up, write_outcome, Writes, codes, SameTuples, WrittenBack}
use Rattle.tuples.specs.declared.Entry.{Entry}
use Rattle.tuples.proofs.Filling.{all}
use Rattle.tuples.proofs.Goods.{written_well}
use Rattle.tuples.proofs.Bounds.{most_entries, read_well, entries_first}
use Rattle.tuples.proofs.RoundTrip.{laid, whole, reads-back, same_codes, same_count, same_bodies, back}
use Rattle.answers.specs.Answers.{Outcome}

-- ---- what was written reads back
written-chain : (bs : List ℕ) (es : List Entry) → all_good bs es ≡ true → length (tuple_bytes bs es) ≤ 255 → chain_at (filled_up (tuple_bytes bs es)) 0 ≡ whole (laid 0 es)
written-chain bs es g h =
    let m : ℕ = 255 - length (tuple_bytes bs es) in
    let e : 256 - length (tuple_bytes bs es) ≡ suc m = omega arith in
    ap (λ (j : ℕ). chain_from 0 (tuple_bytes bs es ++ replicate j 255) 0) e ∙ reads-back bs es m 0 g

written-length : (ts : List ℕ) → length ts ≤ 255 → length (filled_up ts) ≡ 256
written-length ts h =
    let R : List ℕ = replicate (256 - length ts) 255 in
    let l : length R ≡ 256 - length ts = length-replicate (256 - length ts) 255 in
    omega (arith, length-append ts R, l)

of_page : (bs : List ℕ) (es ls : List Entry) (r : Outcome) (zs : List Entry) → all_good bs es ≡ true → length (tuple_bytes bs es) ≤ 255 → 127 ≤ length ls
    → Reads (filled_up (tuple_bytes bs es)) ls r zs → SameTuples bs es (filled_up (tuple_bytes bs es)) r zs
unfolding read_outcome counted
of_page bs es ls r zs g h l e =
    let z = filled_up (tuple_bytes bs es) in
    let c = written-chain bs es g h in
    let many : length (all z) ≡ length es = ap (λ (k : Chain). length k.entries) c ∙ same_count es 0 in
    let ok : r ≡ Ok (length es) = e.0 ∙ simp (eq-eqb _ _ (written-length (tuple_bytes bs es) h), le-leb _ _ l, ap (λ (k : Chain). k.ended) c, many) in
    let those : take (length es) zs ≡ laid 0 es = entries_first z ls r zs e (length es) ok ∙ ap (λ (k : Chain). k.entries) c in
    (ok, (ap codes those ∙ same_codes es 0, ap (map (body_of z)) those ∙ same_bodies bs es [] (replicate (256 - length (tuple_bytes bs es)) 255) 0 refl g))

pub written_reads_back : (bs : List ℕ) (es : List Entry) (out : List ℕ) (r : Outcome) (z : List ℕ) → Writes bs es out r z → (v : ℕ) → r ≡ Ok v
    → (ls : List Entry) (r' : Outcome) (zs : List Entry) → 127 ≤ length ls → Reads z ls r' zs → SameTuples bs es z r' zs
written_reads_back bs es out r z w v p ls r' zs l e =
    let q = sym w.0 ∙ p in
    let ok = written_well bs es (length out) v q in
    let is : z ≡ filled_up (tuple_bytes bs es) = w.1 ∙ ap (λ (o : Outcome). unless_refused o (filled_up (tuple_bytes bs es)) out) q in
    subst (λ (y : List ℕ). Reads y ls r' zs → SameTuples bs es y r' zs) (sym is) (of_page bs es ls r' zs ok.are_good ok.short l) e

-- ---- what was read is written back
pub chain-written : (s out : List ℕ) (r : Outcome) (z : List ℕ) → length s ≡ 256 → (chain_at s 0).ended ≡ true → length out ≡ 256 → Writes s (all s) out r z → WrittenBack s r z
unfolding write_outcome
chain-written s out r z ls c lo w =
    let b = back s 0 s 0 refl c in
    let short : length (tuple_bytes s (all s)) ≤ 255 = omega (arith, b.short) in
    let o : write_outcome s (all s) (length out) ≡ Ok 0 = simp (eq-eqb _ _ lo, b.are_good, le-leb _ _ short) in
    (w.0 ∙ o, w.1 ∙ ap (λ (o : Outcome). unless_refused o (filled_up (tuple_bytes s (all s))) out) o ∙ ap filled_up (sym b.same))

pub read_then_written_back : (s : List ℕ) (ls : List Entry) (r : Outcome) (zs : List Entry) → Reads s ls r zs → (n : ℕ) → r ≡ Ok n
    → (out : List ℕ) (r' : Outcome) (z : List ℕ) → length out ≡ 256 → Writes s (take n zs) out r' z → WrittenBack s r' z
read_then_written_back s ls r zs e n p out r' z lo w =
    let ok = read_well s (length ls) n (sym e.0 ∙ p) in
    chain-written s out r' z ok.sized ok.ended lo (subst (λ (es : List Entry). Writes s es out r' z) (entries_first s ls r zs e n p) w)

-- ---- how many there are
pub most_read : (s : List ℕ) (ls : List Entry) (r : Outcome) (zs : List Entry) → Reads s ls r zs → (n : ℕ) → r ≡ Ok n → n ≤ 127
most_read s ls r zs e n p = let ok = read_well s (length ls) n (sym e.0 ∙ p) in omega (arith, ok.count, most_entries s ok.sized ok.ended)
