-- Identify's words, in order: 01, the last paragraph of "Commands"; word 255: 02, "Fourteen".
use Rattle.std.specs.Prelude.{ℕ, zero, suc, ◌+◌, ◌*◌, ◌/◌, ◌%◌, Bool, List, [], ◌∷◌, ◌++◌, eqb, replicate}
use Rattle.ground.specs.Choice.{pick}
use Rattle.account.specs.Plain.{Plain, sectors_of}

abbrev pub low : ℕ → ℕ
low n = n % 65536

abbrev pub high : ℕ → ℕ
high n = n / 65536 % 65536

-- "A sector moves as 256 words, low byte first."
unfoldable pub bytes_of : List ℕ → List ℕ
bytes_of [] = []
bytes_of (w ∷ l) = w % 256 ∷ w / 256 ∷ bytes_of l

-- words 0..9, 10..19, 20..22, 23..46, 47..53 (02, "One": "word 47 becomes 0010H"), 54..61, 62..128, 129 (02, "Eight"), 130..254
unfoldable pub told_words : Plain → List ℕ
told_words p =
    (0x848A ∷ p.made.default.cylinders ∷ 0 ∷ p.made.default.heads ∷ 0 ∷ 0 ∷ p.made.default.sectors ∷ high (sectors_of p.made.default) ∷ low (sectors_of p.made.default) ∷ 0 ∷ [])
    ++ (replicate 10 0x2020
    ++ (replicate 3 0
    ++ (replicate 24 0x2020
    ++ ((0x0010 ∷ 0 ∷ 0x0200 ∷ 0 ∷ 0 ∷ 0 ∷ 1 ∷ [])
    ++ ((p.current.cylinders ∷ p.current.heads ∷ p.current.sectors ∷ low (sectors_of p.current) ∷ high (sectors_of p.current) ∷ 0
    ∷ low (sectors_of p.made.default) ∷ high (sectors_of p.made.default) ∷ [])
    ++ (replicate 67 0
    ++ ((p.bad ∷ [])
    ++ replicate 125 0)))))))

-- "summed with wrap-around in eight bits"
unfoldable pub summed : List ℕ → ℕ
summed [] = 0
summed (b ∷ l) = (b + summed l) % 256

-- the first number that passes, of those from b on, n of them; b + n where none does
unfoldable pub first_from : (ℕ → Bool) → ℕ → ℕ → ℕ
first_from passes b zero = b
first_from passes b (suc n) = pick (passes b) b (first_from passes (b + 1) n)

-- "low byte A5H"
abbrev pub low_byte : ℕ
low_byte = 0xA5

-- words, and word 255 after them, with a high byte
abbrev pub ending : ℕ → List ℕ → List ℕ
ending b words = words ++ ((low_byte + 256 * b) ∷ [])

-- "the high byte such that all 512 bytes, summed with wrap-around in eight bits, give 0": that of the 256 bytes which does so
unfoldable pub high_byte : List ℕ → ℕ
high_byte words = first_from (λ b. eqb (summed (bytes_of (ending b words))) 0) 0 256

unfoldable pub identify_words : Plain → List ℕ
identify_words p = ending (high_byte (told_words p)) (told_words p)

abbrev pub identify_data : Plain → List ℕ
identify_data p = bytes_of (identify_words p)
