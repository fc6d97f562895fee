use Rattle.std.proofs.Common.{◌≡◌, ◌≤◌, true, take}
use Rattle.std.specs.List.{list_all}
use Rattle.cacao_vars.specs.Names.{is_name_character}
use Rattle.cacao_vars.proofs.references.run_len.Given as goal

-- the bytes so far are name characters, and are counted
abbrev pub invariant-loop-byte : goal.invariant-loop-byte
invariant-loop-byte l = record {
  counted : l.len ≡ l.byte-index;
  within : l.len ≤ 65;
  each : list_all is_name_character (take l.len l.text) ≡ true;
}
