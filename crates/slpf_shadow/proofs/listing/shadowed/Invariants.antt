use Rattle.std.proofs.Common.{◌≡◌, ◌++◌}
use Rattle.slpf_rules.proofs.Smallest.{EachRule}
use Rattle.slpf_shadow.specs.Ranges.{IsRule}
use Rattle.slpf_shadow.specs.Searches.{listing}
use Rattle.slpf_shadow.proofs.listing.shadowed.Given as goal

abbrev pub invariant-loop-later : goal.invariant-loop-later
invariant-loop-later l = record {
  listed : l.list ++ listing l.table l.later-iterator ≡ listing l.table l.table;
  ranges : EachRule IsRule l.later-iterator → EachRule IsRule l.table;
}
