use Rattle.std.proofs.Common.{◌++◌, map}
use Rattle.cacao_json.specs.Tree.{data_of}
use Rattle.cacao_view_preflight.specs.Warnings.{each, of_members}
use Rattle.cacao_view_preflight.proofs.EachLemmas.{mapped_all, mapped_next}
use Rattle.cacao_view_preflight.proofs.members.warn_of_members.Goals as goal

pub loop-n-preserved : goal.loop-n-preserved
loop-n-preserved c =
    mapped_next data_of of_members c.args.trees.now c.loop-n.n c.index-trees-n.result c.loop-n.lines c.add_tree.new.lines (c.args.lines.now ++ each of_members 0 (map data_of c.args.trees.now))
    c.loop-n-test.true c.index-trees-n.is c.in_ok-add_tree.ensures c.loop-n.invariant

pub returns : goal.returns
returns c =
    mapped_all data_of of_members c.args.trees.now c.loop-n.n c.loop-n.lines (c.args.lines.now ++ each of_members 0 (map data_of c.args.trees.now)) c.loop-n-test.false c.loop-n.invariant
