use Rattle.std.proofs.Common.{ap, ◌∙◌}
use Rattle.slpf_rules.specs.Rules.{rule_at}
use Rattle.slpf_rules.proofs.Entries.{is_keyed, lookup-keyed}
use Rattle.slpf_rules.proofs.rules.Rules.find.Goals as goal

pub returns : goal.returns
returns c =
    c.get.ensures.value ∙ c.self.invariant.finds c.args.number ∙ lookup-keyed c.args.number c.self.inside.by_number.entries (is_keyed _ c.self.invariant.numbered.keyed)
    ∙ ap (rule_at c.args.number) c.self.view_is
