-- The names of the members before this one, and then its own.
use Rattle.std.proofs.Common.{◌∙◌, ◌||◌, ap}
use Rattle.std.specs.Str.{bytes_eq}
use Rattle.cacao_json.specs.Tree.{pair_data}
use Rattle.cacao_view_preflight.specs.NameSets.{holds}
use Rattle.cacao_view_preflight.proofs.SetLemmas.{members_all, members_more}
use Rattle.cacao_view_preflight.proofs.name_set.NameSet.of_members.Goals as goal

pub loop-pair-init : goal.loop-pair-init
loop-pair-init c = c.new-set.ensures

pub loop-pair-preserved : goal.loop-pair-preserved
loop-pair-preserved c =
    members_more pair_data c.args.members.now c.loop-pair.pair-index c.pair-item.result c.loop-pair.set c.add.new.self c.loop-pair-test.true c.pair-item.is c.loop-pair.invariant
    (λ other. c.in_ok-add.ensures other ∙ ap (λ n. bytes_eq n other || holds c.loop-pair.set other) c.text.ensures)

pub returns : goal.returns
returns c = members_all pair_data c.args.members.now c.loop-pair.pair-index c.loop-pair.set c.loop-pair-test.false c.loop-pair.invariant
