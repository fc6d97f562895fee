use Rattle.std.proofs.Common.{◌≡◌, ◌+◌, ◌≤◌, ◌++◌, replicate, vec_len, vec_capacity}
use Rattle.cacao_site_memory.proofs.room.add_zeros.Given as goal

abbrev pub invariant-loop-k : goal.invariant-loop-k
invariant-loop-k l = record {
  items : l.bytes.items ≡ l.fn.bytes.items ++ replicate l._k 0;
  len : vec_len l.bytes ≡ vec_len l.fn.bytes + l._k;
  capacity : vec_capacity l.fn.bytes ≤ vec_capacity l.bytes;
}
