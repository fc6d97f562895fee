use Rattle.std.proofs.Common.{◌≡◌, ◌+◌, ◌++◌, length, take, map}
use Rattle.std.specs.List.{filter}
use Rattle.std.specs.VecDeque.{deque_len, deque_capacity}
use Rattle.cacao_site_memory.specs.Parcels.{is_due}
use Rattle.cacao_site_memory.proofs.link.add_due.Given as goal

abbrev pub invariant-loop-k : goal.invariant-loop-k
invariant-loop-k l = record {
  items : l.pending.items ≡ l.initial.pending.items ++ map (λ mark. mark.1) (filter (is_due l.now) (take l.k l.held));
  len : deque_len l.pending ≡ deque_len l.initial.pending + length (filter (is_due l.now) (take l.k l.held));
  slots : deque_capacity l.pending ≡ deque_capacity l.initial.pending;
}
