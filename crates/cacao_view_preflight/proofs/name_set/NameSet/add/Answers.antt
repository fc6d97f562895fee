-- The set has the name and what it had.
use Rattle.std.proofs.Common.{◌∙◌, ◌||◌, ap, true}
use Rattle.std.specs.Str.{bytes_eq}
use Rattle.std.proofs.lemmas.Map.Text.{btree_set_updates_text}
use Rattle.std.specs.Prelude.{string_bytes}
use Rattle.cacao_view_preflight.specs.NameSets.{holds}
use Rattle.cacao_view_preflight.proofs.SetLemmas.{or_is}
use Rattle.cacao_view_preflight.proofs.name_set.NameSet.add.Goals as goal

pub returns : goal.returns
returns c = λ other.
    btree_set_updates_text (string_bytes c.in_ok-name.name) c.args.self.now.names c.insert.new.self true c.in_ok-insert.ensures.updates other
    ∙ or_is (bytes_eq (string_bytes c.in_ok-name.name) other) (holds c.args.self.now other)
    ∙ ap (λ n. bytes_eq n other || holds c.args.self.now other) c.in_ok-name.ensures.ok
