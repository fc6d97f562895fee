-- Promise: What a table keeps.
use Rattle.std.specs.Prelude.{◌≤◌, List, length}
use Rattle.slpf_rules.specs.declared.filing.Filing.{Filing}
use Rattle.slpf_rules.specs.declared.rules.Rule.{Rule}
use Rattle.slpf_rules.specs.Order.{IsRising}
use Rattle.slpf_rules.specs.Filing.{IsFiling}

-- the index is that of the rules; their numbers rise, and there are at most 65,536
pub record IsTable (rules : List Rule) (filing : Filing) : Type 0 where
  pub indexed : IsFiling rules filing
  pub rising : IsRising rules
  pub few : length rules ≤ 65_536
