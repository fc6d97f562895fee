use Rattle.std.proofs.Common.{sym, map, string_bytes}
use Rattle.cacao_json.specs.Tree.{data_of}
use Rattle.cacao_cli_looks.specs.Command.{text_of}
use Rattle.cacao_view_explain.proofs.BreakLemmas.{mapped_at, tells_broken}
use Rattle.cacao_view_explain.proofs.break_lines.break_lines.Goals as goal

pub returns : goal.returns
returns c =
    tells_broken (map text_of c.args.texts.now) (map data_of c.args.trees.now) c.args.broken.now (text_of c.in-Some.text.now) (data_of c.in-Some-tree_at.tree.now) (string_bytes c.in_ok-finding.finding.what) c.in_ok-lines.lines c.add_rule.new.lines
    (mapped_at text_of c.args.texts.now c.args.broken.now.book c.in-Some.text.now (sym c.in-Some.ensures))
    (mapped_at data_of c.args.trees.now c.args.broken.now.book c.in-Some-tree_at.tree.now (sym c.in-Some-tree_at.ensures)) c.in_ok-finding.ensures c.in_ok-lines.ensures c.in_ok-add_rule.ensures
