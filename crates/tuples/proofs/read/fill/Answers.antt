use Rattle.std.proofs.Common.{◌≡◌, ◌+◌, Option, get_or, refl, ap, ◌∙◌, arith}
use Rattle.tuples.specs.Chain.{chain_at, next_at, place_behind, no_entry}
use Rattle.tuples.specs.declared.Entry.{Entry}
use Rattle.tuples.proofs.Filling.{all, turn, fill_one}
use Rattle.tuples.proofs.read.fill.Goals as goal

pub unwrap-requires : goal.unwrap-requires
unwrap-requires c =
    let l = c.loop-place in
    let t = turn c.args.buffer.now l.reader.place l.place-index l.invariant.left (omega arith) in
    rw (rw l.invariant.same at c.advance.ensures.next ∙ t.0) refl

pub loop-place-preserved : goal.loop-place-preserved
loop-place-preserved c =
    let l = c.loop-place in
    let s = c.args.buffer.now in
    let i = l.place-index in
    let e = c.unwrap.result in
    let t = turn s l.reader.place i l.invariant.left (omega arith) in
    let next : c.advance.result ≡ next_at s l.reader.place = rw l.invariant.same at c.advance.ensures.next in
    let first : e ≡ get_or (all s) i no_entry = let p = c.unwrap.ensures in cc in
    let place : c.advance.new.self.place ≡ e.start + e.length = c.advance.ensures.place ∙ ap (λ (x : Option Entry). place_behind x l.reader.place) c.unwrap.ensures in
    record {
      same = ap (λ b. b.now) c.advance.ensures.same ∙ l.invariant.same;
      fits = omega arith;
      left = ap (λ n. (chain_at s n).entries) (c.advance.ensures.place ∙ ap (λ (x : Option Entry). place_behind x l.reader.place) next) ∙ t.1;
      so_far = fill_one (all s) c.args.list.now l.list i no_entry e (omega arith) (omega arith) first l.invariant.so_far;
    }
