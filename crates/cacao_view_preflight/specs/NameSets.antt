-- Scaffold: Sets of names, by whether a name is among them.
use Rattle.std.specs.Prelude.{◌≡◌, Bool, List}
use Rattle.std.specs.BTreeSet.{contains_text}
use Rattle.cacao_view_preflight.specs.Warnings.{Text, is_named}
use Rattle.cacao_view_preflight.specs.declared.name_set.NameSet.{NameSet}

abbrev pub holds : NameSet → Text → Bool
holds set = contains_text set.names

-- the set has these names and no others
abbrev pub HasJust : NameSet → List Text → Type 0
HasJust set names = (name : Text) → holds set name ≡ is_named names name
