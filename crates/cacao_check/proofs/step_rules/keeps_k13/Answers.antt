use Rattle.std.proofs.Common.{◌∙◌, sym, ap, map, option_map, subst, refl}
use Rattle.std.specs.Prelude.{All}
use Rattle.cacao_json.specs.Tree.{data_of}
use Rattle.cacao_check_steps.specs.Uses.{content_tree}
use Rattle.cacao_check.specs.Rules.{CanBeSent}
use Rattle.cacao_check_steps.proofs.PairLemmas.{mapped_at}
use Rattle.cacao_check.proofs.RuleLemmas.{all_more, all_done}
use Rattle.cacao_check.proofs.step_rules.keeps_k13.Goals as goal

pub can_be_sent-requires : goal.can_be_sent-requires
can_be_sent-requires c =
    mapped_at (option_map data_of) content_tree c.args.parts.now.contents.items c.commands_of-commands.result.now c.loop-at.at c.index.result.now c.index-commands-at.result (c.requires ∙ ap (map content_tree) (sym c.commands_of-commands.ensures)) c.loop-at-test.true c.index.ensures c.index-commands-at.is

pub loop-at-preserved : goal.loop-at-preserved
loop-at-preserved c =
    all_more CanBeSent c.commands_of-commands.result.now c.loop-at.at c.index-commands-at.result c.loop-at-test.true c.index-commands-at.is (c.can_be_sent.ensures.0 c.if-not-can_be_sent.false) c.loop-at.invariant

pub returns : goal.returns
returns c =
    let sent = all_done CanBeSent c.commands_of-commands.result.now c.loop-at.at c.loop-at-test.false c.loop-at.invariant in
    (λ e run. subst (All CanBeSent) c.commands_of-commands.ensures (sent.0 refl), λ kept. refl)
