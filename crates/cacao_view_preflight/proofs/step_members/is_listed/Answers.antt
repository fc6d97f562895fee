use Rattle.std.proofs.Common.{◌∙◌, sym, Bor, List, ℕ}
use Rattle.std.specs.Str.{bytes_eq}
use Rattle.cacao_view_preflight.proofs.EachLemmas.{list_any-map}
use Rattle.cacao_view_preflight.proofs.step_members.is_listed.Goals as goal

pub returns : goal.returns
returns c = c.is_among.ensures ∙ sym (list_any-map (bytes_eq c.args.name.now) (λ (word : Bor (List ℕ)). word.now) c.args.words.now)
