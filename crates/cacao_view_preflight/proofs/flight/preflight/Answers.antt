use Rattle.std.proofs.Common.{◌≡◌, subst, List, Ok, Err, map}
use Rattle.cacao_json.specs.Tree.{data_of}
use Rattle.cacao_cli_ends.specs.Told.{end_of}
use Rattle.cacao_cli_ends.specs.Work.{trees_of}
use Rattle.cacao_cli_looks.specs.Command.{AreTreesOrMemory, text_of}
use Rattle.cacao_cli_looks.specs.declared.file_text.FileText.{FileText}
use Rattle.cacao_view_preflight.proofs.FlightLemmas.{all_read, trees_read, unread}
use Rattle.cacao_view_preflight.proofs.flight.preflight.Goals as goal

pub judged_or_memory-requires-clause-trees : goal.judged_or_memory-requires-clause-trees
judged_or_memory-requires-clause-trees c =
    trees_read c.args.texts.items c.in-Ok.trees.items (subst (λ (l : List FileText). trees_of (map text_of l) ≡ Ok (map data_of c.in-Ok.trees.items)) c.as_slice.ensures.value c.in-Ok.ensures)

pub returns-in-Ok : goal.returns-in-Ok
returns-in-Ok c =
    all_read c.args.bound (map text_of c.args.texts.items) (map data_of c.in-Ok.trees.items) c.judged_or_memory.result.lines (end_of c.judged_or_memory.result.end)
    (subst (λ (l : List FileText). trees_of (map text_of l) ≡ Ok (map data_of c.in-Ok.trees.items)) c.as_slice.ensures.value c.in-Ok.ensures) c.judged_or_memory.ensures

pub returns : goal.returns
returns c =
    unread c.args.bound (map text_of c.args.texts.items) c.ending.result.lines (end_of c.ending.result.end) (end_of c.in-Err.end)
    (subst (λ (l : List FileText). AreTreesOrMemory (map text_of l) (Err c.in-Err.end)) c.as_slice.ensures.value c.in-Err.ensures) c.ending.ensures.lines c.ending.ensures.end
