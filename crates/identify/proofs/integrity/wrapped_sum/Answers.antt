use Rattle.std.proofs.Common.{◌≡◌, ◌+◌, ◌%◌, ◌∙◌, rules}
use Rattle.std.specs.List.{fold}
use Rattle.std.proofs.iter.runs.Made.{chains}
use Rattle.identify.proofs.Sums.{summed}
use Rattle.identify.proofs.integrity.wrapped_sum.Goals as goal

pub returns : goal.returns
returns c =
    let e : c.fold.result ≡ fold (λ s b. (s + b) % 256) 0 c.args.bytes.now = search (rules, chains) in
    e ∙ summed c.args.bytes.now
