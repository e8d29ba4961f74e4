use Rattle.std.proofs.Common.{◌≡◌, ℕ, ◌<◌, take, sym, ap, ◌∙◌, arith, rules}
use Rattle.ground.proofs.Lists.{copy_more}
use Rattle.identify.specs.Integrity.{with_integrity}
use Rattle.identify.specs.Words.{told_bytes, identify_bytes}
use Rattle.identify.proofs.Bytes.{told_length, told_at, table_byte, copied_in_129}
use Rattle.identify.proofs.Facts.identify.Goals as goal

pub loop-i-preserved : goal.loop-i-preserved
loop-i-preserved c =
    let l = c.loop-i in
    let f = c.args.self in
    let n = told_length f in
    let h : l.i < 124 = c.loop-i-test.true in
    let t : l.i < 510 = omega arith in
    rw (c.byte.ensures, table_byte f l.i h, ← told_at f l.i t) (copy_more l.i (told_bytes f) l.byte-items (omega arith) (omega arith) l.invariant)

pub returns : goal.returns
unfolding identify_bytes
returns c =
    let l = c.loop-i in
    let f = c.args.self in
    let e : l.i ≡ 124 = omega arith in
    let told : take 124 l.byte-items ≡ take 124 (told_bytes f) = ap (λ (k : ℕ). take k l.byte-items) (sym e) ∙ l.invariant ∙ ap (λ (k : ℕ). take k (told_bytes f)) e in
    c.put_integrity.ensures ∙ ap with_integrity (copied_in_129 f l.byte-items c.copy_from_slice.new.self l.auto.byte-items told (c.copy_from_slice.ensures.after ∙ c.to_le_bytes.ensures) (search rules))
