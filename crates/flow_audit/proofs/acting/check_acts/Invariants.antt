use Rattle.std.proofs.Common.{◌≡◌, take}
use Rattle.slpf_rules_acts.specs.Acts.{table_of}
use Rattle.flow_audit.specs.Breaks.{ActsFit}
use Rattle.flow_audit.specs.Index.{ArePlacesOf}
use Rattle.flow_audit.proofs.acting.check_acts.Given as goal

abbrev pub invariant-loop-n : goal.invariant-loop-n
invariant-loop-n l = record {
  fit : ActsFit l.run.file.records.items l.agent (take l.n l.acts);
  index : ArePlacesOf (take l.n l.acts) l.index;
  table : l.table ≡ table_of (take l.n l.acts);
}
