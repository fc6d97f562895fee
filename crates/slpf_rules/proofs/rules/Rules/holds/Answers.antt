use Rattle.std.proofs.Common.{ap, ◌∙◌}
use Rattle.slpf_rules.specs.Rules.{is_held}
use Rattle.slpf_rules.proofs.Entries.{is_keyed, is_some-lookup-keyed}
use Rattle.slpf_rules.proofs.rules.Rules.holds.Goals as goal

pub returns : goal.returns
returns c =
    c.contains_key.ensures
    ∙ is_some-lookup-keyed c.args.number c.self.inside.by_number.entries (is_keyed _ c.self.invariant.numbered.keyed)
    ∙ ap (is_held c.args.number) c.self.view_is
