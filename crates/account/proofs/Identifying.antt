-- Identify: the account's list of words is the machine's table of bytes.
use Prim.Native.Nat.{ℕ, zero, suc, ◌+◌, ◌*◌, ◌/◌, ◌%◌, ◌≤◌, ◌<◌}
use mathlib.Core.Path.{◌≡◌, sym, ap, ◌∙◌}
use mathlib.Core.List.{List, [], ◌∷◌, ◌++◌}
use native.Mathlib.Omega.{arith}
use lib.ListN.{get_or, replicate}
use Rattle.geometry.specs.Limits.{total_of}
use Rattle.identify.specs.Integrity.{with_integrity}
use Rattle.identify.specs.Words.{identify_word, identify_byte, told_bytes, identify_bytes}
use Rattle.registers.specs.declared.State.{State}
use Rattle.commands.specs.Table.{facts_of}
use Rattle.account.specs.Plain.{Plain, sectors_of}
use Rattle.account.specs.Words.{bytes_of, told_words, low_byte, high_byte, identify_words, identify_data}
use Rattle.account.specs.Host.{plain_in}
use Rattle.account.specs.Claim.{AllBytes}
use Rattle.ground.specs.Lists.{listed}
use Rattle.account.proofs.LastWord.{ended_is, high_byte_lem}

told_is : (s : State) (b t k : List ℕ) → total_of s.made.default ≡ sectors_of s.made.default → told_bytes (facts_of s) ≡ bytes_of (told_words (plain_in s b t k))
unfolding listed identify_word identify_byte told_bytes bytes_of told_words
told_is s b t k e = rw e

pub identify_is : (s : State) (b t k : List ℕ) → total_of s.made.default ≡ sectors_of s.made.default → identify_bytes (facts_of s) ≡ identify_data (plain_in s b t k)
unfolding identify_bytes identify_words
identify_is s b t k e = ap with_integrity (told_is s b t k e) ∙ sym (ended_is (told_words (plain_in s b t k)))

-- words of 16 bits give bytes
abbrev Narrow : List ℕ → Type 0
Narrow l = (i : ℕ) → get_or l i 0 < 65536

bytes_of_lem : (l : List ℕ) → Narrow l → AllBytes (bytes_of l)
unfolding bytes_of
bytes_of_lem [] h i = omega arith
bytes_of_lem (w ∷ l) h zero = omega arith
bytes_of_lem (w ∷ l) h (suc zero) = let x = h zero in omega arith
bytes_of_lem (w ∷ l) h (suc (suc i)) = bytes_of_lem l (λ j. h (suc j)) i

more : (w : ℕ) (l : List ℕ) → w < 65536 → Narrow l → Narrow (w ∷ l)
more w l h k zero = h
more w l h k (suc i) = k i

abbrev Each : List ℕ → Type 0
Each [] = Unit {0}
Each (w ∷ l) = (w < 65536) × Each l

none : Narrow []
none i = omega arith

each_narrow : (l : List ℕ) → Each l → Narrow l
each_narrow [] h = none
each_narrow (w ∷ l) h = more w l h.0 (each_narrow l h.1)

joined : (a b : List ℕ) → Narrow a → Narrow b → Narrow (a ++ b)
joined [] b h k = k
joined (w ∷ a) b h k = more w (a ++ b) (h zero) (joined a b (λ j. h (suc j)) k)

same : (n w : ℕ) → w < 65536 → Narrow (replicate n w)
same zero w h = none
same (suc n) w h = more w (replicate n w) h (same n w h)

-- a list of words, each below 65536
pub identify_bytes_lem : (p : Plain) → p.made.default.cylinders ≤ 65535 → p.made.default.heads ≤ 65535 → p.made.default.sectors ≤ 65535 →
    p.current.cylinders ≤ 65535 → p.current.heads ≤ 65535 → p.current.sectors ≤ 65535 → p.bad ≤ 65535 → AllBytes (identify_data p)
unfolding identify_words told_words
identify_bytes_lem p a b c d e f g =
    let n = sectors_of p.made.default in
    let k = sectors_of p.current in
    let w0 : List ℕ = 0x848A ∷ p.made.default.cylinders ∷ 0 ∷ p.made.default.heads ∷ 0 ∷ 0 ∷ p.made.default.sectors ∷ n / 65536 % 65536 ∷ n % 65536 ∷ 0 ∷ [] in
    let w47 : List ℕ = 0x0010 ∷ 0 ∷ 0x0200 ∷ 0 ∷ 0 ∷ 0 ∷ 1 ∷ [] in
    let w54 : List ℕ = p.current.cylinders ∷ p.current.heads ∷ p.current.sectors ∷ k % 65536 ∷ k / 65536 % 65536 ∷ 0 ∷ n % 65536 ∷ n / 65536 % 65536 ∷ [] in
    let w129 : List ℕ = p.bad ∷ [] in
    let t7 : List ℕ = w129 ++ replicate 125 0 in
    let t6 : List ℕ = replicate 67 0 ++ t7 in
    let t5 : List ℕ = w54 ++ t6 in
    let t4 : List ℕ = w47 ++ t5 in
    let t3 : List ℕ = replicate 24 0x2020 ++ t4 in
    let t2 : List ℕ = replicate 3 0 ++ t3 in
    let t1 : List ℕ = replicate 10 0x2020 ++ t2 in
    let narrow0 = each_narrow w0 (omega arith, (omega arith, (omega arith, (omega arith, (omega arith, (omega arith, (omega arith, (omega arith, (omega arith, (omega arith, tt)))))))))) in
    let narrow47 = each_narrow w47 (omega arith, (omega arith, (omega arith, (omega arith, (omega arith, (omega arith, (omega arith, tt))))))) in
    let narrow54 = each_narrow w54 (omega arith, (omega arith, (omega arith, (omega arith, (omega arith, (omega arith, (omega arith, (omega arith, tt)))))))) in
    let narrow129 = each_narrow w129 (omega arith, tt) in
    let last : List ℕ = (low_byte + 256 * high_byte (told_words p)) ∷ [] in
    let narrow255 = let h = high_byte_lem (told_words p) in each_narrow last (omega arith, tt) in
    bytes_of_lem (identify_words p)
    (joined (told_words p) last
    (joined w0 t1 narrow0
    (joined (replicate 10 0x2020) t2 (same 10 0x2020 (omega arith))
    (joined (replicate 3 0) t3 (same 3 0 (omega arith))
    (joined (replicate 24 0x2020) t4 (same 24 0x2020 (omega arith))
    (joined w47 t5 narrow47
    (joined w54 t6 narrow54
    (joined (replicate 67 0) t7 (same 67 0 (omega arith))
    (joined w129 (replicate 125 0) narrow129 (same 125 0 (omega arith))))))))))
    narrow255)
