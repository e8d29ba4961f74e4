use Rattle.std.proofs.Common.{◌≡◌, ◌+◌, ◌-◌, ◌^◌, ℕ, min, rules, ◌∙◌}
use Rattle.std.specs.List.{fold}
use Rattle.tuples.specs.declared.Entry.{Entry}
use Rattle.tuples.proofs.Writing.{taken_all}
use Rattle.tuples.proofs.write.bytes_taken.Goals as goal

pub returns : goal.returns
returns c =
    let sum : c.fold.result ≡ fold (λ (n : ℕ) (e : Entry). min (n + (2 + e.length)) (2 ^ 64 - 1)) 0 c.args.list.now = search rules in
    sum ∙ taken_all c.args.list.now
