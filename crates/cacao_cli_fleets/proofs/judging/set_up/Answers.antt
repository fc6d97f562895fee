-- The texts have trees, and are judged one by one.
use Rattle.std.proofs.Common.{◌≡◌, subst, List, length, map, Ok}
use Rattle.std.proofs.lemmas.Result.{IfErr-weaker, IfOk-weaker}
use Rattle.serde_json.specs.Data.{Data}
use Rattle.cacao_json.specs.Tree.{data_of}
use Rattle.cacao_cli_ends.specs.Told.{end_of}
use Rattle.cacao_cli_ends.specs.Work.{trees_of}
use Rattle.cacao_cli_looks.specs.Command.{text_of}
use Rattle.cacao_cli_looks.specs.declared.file_text.FileText.{FileText}
use Rattle.cacao_cli_fleets.proofs.GoesLemmas.{gives-none, readable, set-up}
use Rattle.cacao_cli_fleets.proofs.judging.set_up.Goals as goal

pub ready_runs-requires-clause-readable : goal.ready_runs-requires-clause-readable
ready_runs-requires-clause-readable c =
    let roots : List Data = map data_of c.in-Ok.field-0.items in
    readable c.args.texts.items roots (subst (λ (l : List FileText). trees_of (map text_of l) ≡ Ok roots) c.as_slice.ensures.value c.in-Ok.ensures)

pub returns-in-Ok-clause-ok : goal.returns-in-Ok-clause-ok
returns-in-Ok-clause-ok c =
    let roots : List Data = map data_of c.in-Ok.field-0.items in
    let trees : trees_of (map text_of c.args.texts.items) ≡ Ok roots = subst (λ (l : List FileText). trees_of (map text_of l) ≡ Ok roots) c.as_slice.ensures.value c.in-Ok.ensures in
    IfOk-weaker c.ready_runs.result _ _ (λ runs h. set-up c.args.wanted.now c.as_slice-in-Ok.result.now (map text_of c.args.texts.items) roots runs c.as_slice-in-Ok.ensures.value trees h) c.ready_runs.ensures.ok

pub returns-in-Ok-clause-err : goal.returns-in-Ok-clause-err
returns-in-Ok-clause-err c =
    let roots : List Data = map data_of c.in-Ok.field-0.items in
    let trees : trees_of (map text_of c.args.texts.items) ≡ Ok roots = subst (λ (l : List FileText). trees_of (map text_of l) ≡ Ok roots) c.as_slice.ensures.value c.in-Ok.ensures in
    IfErr-weaker c.ready_runs.result _ _ (λ end h. gives-none (map text_of c.args.texts.items) roots (end_of end) trees h) c.ready_runs.ensures.err
