-- No second answer meets the promise of a function that puts text into an output: the place and every byte are determined.
use Rattle.std.proofs.Common.{◌≡◌, ℕ, List, sym, ap, ◌∙◌}
use Rattle.text.specs.Output.{Output, output}

pub only_output : (d : Output) (r s : ℕ) (bytes bytes' : List ℕ) → output bytes r ≡ d → output bytes' s ≡ d → (r ≡ s) × (bytes ≡ bytes')
only_output d r s bytes bytes' p q =
    let e = p ∙ sym q in
    (ap (λ (x : Output). x.at) e, ap (λ (x : Output). x.bytes) e)
