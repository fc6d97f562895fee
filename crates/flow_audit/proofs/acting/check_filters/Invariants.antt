use Rattle.std.proofs.Common.{◌≡◌, length, take}
use Rattle.flow_audit.specs.Parts.{AllActsFit, AreIndexes}
use Rattle.flow_audit.proofs.acting.check_filters.Given as goal

abbrev pub invariant-loop-k : goal.invariant-loop-k
invariant-loop-k l = record {
  fit : AllActsFit l.run.file.records.items (take l.k l.filters);
  indexes : AreIndexes (take l.k l.filters) l.indexes.items;
  many : length l.indexes.items ≡ l.k;
}
