-- The reader still has the buffer, the chain's other entries are those from its place on, and those before are in the list.
use Rattle.std.proofs.Common.{◌≡◌, ◌<◌, ◌^◌, ◌++◌, take, drop}
use Rattle.tuples.specs.Chain.{chain_at}
use Rattle.tuples.proofs.Filling.{all}
use Rattle.tuples.proofs.read.fill.Given as goal

abbrev pub invariant-loop-place : goal.invariant-loop-place
invariant-loop-place l = record {
  same : l.reader.buffer.now ≡ l.buffer;
  fits : l.reader.place < 2 ^ 64;
  left : (chain_at l.buffer l.reader.place).entries ≡ drop l.place-index (all l.buffer);
  so_far : l.list ≡ take l.place-index (all l.buffer) ++ drop l.place-index l.initial.list;
}
