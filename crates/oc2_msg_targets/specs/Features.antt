-- Promise: Features that a query asks for: a list of names, none twice.
use Rattle.std.specs.Prelude.{List, [], ◌∷◌, Bool, true, false, not, ◌&&◌, Option, Some, None, option_and_then, if◌then◌else◌}
use Rattle.std.specs.List.{list_any}
use Rattle.serde_json.specs.Data.{Data, Items, no_items, item}
use Rattle.serde_json.specs.Find.{as_str}
use Rattle.oc2_msg_targets.specs.declared.features.Feature.{Feature}
use Rattle.oc2_msg_targets.specs.declared.features.Feature.TheVariants as feature
use Rattle.oc2_msg_targets.specs.Parts.{◌>>=◌}
use Rattle.oc2_msg_targets.specs.Words.{feature_named}

abbrev pub is_same : Feature → Feature → Bool
is_same feature.Versions feature.Versions = true
is_same feature.Profiles feature.Profiles = true
is_same feature.Pairs feature.Pairs = true
is_same feature.RateLimit feature.RateLimit = true
is_same f g = false

abbrev pub has : List Feature → Feature → Bool
has features f = list_any (is_same f) features

abbrev pub is_distinct : List Feature → Bool
is_distinct [] = true
is_distinct (f ∷ fs) = not (has fs f) && is_distinct fs

abbrev pub feature_in : Data → Option Feature
feature_in d = option_and_then feature_named (as_str d)

abbrev pub features_in : Items → Option (List Feature)
features_in no_items = Some []
features_in (item d ds) = do
  first ← feature_in d
  rest ← features_in ds
  Some (first ∷ rest)

abbrev pub distinct : List Feature → Option (List Feature)
distinct features = if is_distinct features then Some features else None
