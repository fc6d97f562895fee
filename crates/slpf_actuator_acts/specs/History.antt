-- Promise: What a filter keeps of its acts: their table, and where each stands.
use Rattle.std.specs.Prelude.{◌≡◌, ℕ, suc, Bool, ◌==◌, ◌&&◌, List, [], ◌∷◌, Option, Some, None, option_map, if◌then◌else◌}
use Rattle.run_records.specs.declared.act.Act.{Act}
use Rattle.slpf_rules.specs.declared.rules.Rule.{Rule}
use Rattle.slpf_rules_acts.specs.Acts.{table_of}
use Rattle.slpf_rules_acts.specs.Index.{Places, place_in}
use Rattle.slpf_actuator_acts.specs.ActLists.{IsHistory}

-- whether an act has this run and issue
abbrev pub is_of : ℕ → ℕ → Act → Bool
is_of run issue act = act.run == run && act.issue == issue

-- the place, counted from 0, of the first act that has them
abbrev pub place_of : ℕ → ℕ → List Act → Option ℕ
place_of run issue [] = None
place_of run issue (act ∷ acts) = if is_of run issue act then Some 0 else option_map suc (place_of run issue acts)

-- for each run and issue the place of the act that has them
abbrev pub ArePlacesOf : List Act → Places → Type 0
ArePlacesOf acts places = (run issue : ℕ) → place_in places run issue ≡ place_of run issue acts

-- the table and the places are those of the acts
pub record KeepsHistory (acts : List Act) (places : Places) (rules : List Rule) : Type 0 where
  pub history : IsHistory acts
  pub indexed : ArePlacesOf acts places
  pub tabled : rules ≡ table_of acts
