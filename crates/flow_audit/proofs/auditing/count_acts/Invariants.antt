use Rattle.std.proofs.Common.{◌≡◌, ◌≤◌, ◌*◌, List, length, take}
use Rattle.std.specs.Prelude.{sum_by}
use Rattle.run_records.specs.declared.act.Act.{Act}
use Rattle.flow_audit.specs.Parts.{lists_of}
use Rattle.flow_audit.proofs.auditing.count_acts.Given as goal

abbrev pub invariant-loop-file : goal.invariant-loop-file
invariant-loop-file l = record {
  counted : l.count ≡ sum_by (λ (acts : List Act). length acts) (lists_of (take l.file-index l.filters));
  few : l.count ≤ 67_108_864 * l.file-index;
}
