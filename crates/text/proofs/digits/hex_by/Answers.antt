use Rattle.std.proofs.Common.{◌≡◌, ◌/◌, ◌%◌, arith}
use Rattle.text.proofs.Outputs.{wrote_then}
use Rattle.text.proofs.digits.hex_by.Goals as goal

pub returns : goal.returns
returns c =
    let e : c.args.value / 256 % 256 ≡ c.args.value / 256 = omega arith in
    rw (c.to_be_bytes.ensures, e) at (wrote_then c.hex_pair-next.ensures c.hex_pair.ensures)
