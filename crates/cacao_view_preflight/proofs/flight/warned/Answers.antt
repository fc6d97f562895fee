use Rattle.std.proofs.Common.{subst, List, map}
use Rattle.cacao_json.specs.Tree.{data_of}
use Rattle.cacao_json.specs.declared.tree.Tree.{Tree}
use Rattle.cacao_view_preflight.specs.Warnings.{AreWarnings}
use Rattle.cacao_view_preflight.proofs.FlightLemmas.{warns}
use Rattle.cacao_view_preflight.proofs.flight.warned.Goals as goal

pub returns : goal.returns
returns c =
    warns c.args.bound c.args.trees.items c.last_if-last.new.items.items c.last_if-last.result (data_of c.tree_or_none-bindings.result) c.args.setup.now c.in_ok-lines.lines c.add_count.new.lines
    c.last_if-last.ensures.items c.last_if-last.ensures.none (λ e. c.last_if-last.ensures.some e (c.requires e)) c.tree_or_none-bindings.ensures
    (subst (λ (l : List Tree). AreWarnings c.args.setup.now.books (map data_of l) (data_of c.tree_or_none-bindings.result) c.in_ok-lines.lines) c.as_slice.ensures.value c.in_ok-lines.ensures)
    c.in_ok-add_count.ensures
