use Rattle.std.proofs.Common.{◌≡◌, ◌∙◌, ◌∷◌, ◌++◌, [], ap, subst, Bor, Option, string_bytes}
use Rattle.std.specs.Prelude.{option_map}
use Rattle.serde_json.specs.Data.{Data}
use Rattle.cacao_json.specs.Tree.{data_of}
use Rattle.cacao_cli_ends.specs.Files.{NamedText}
use Rattle.cacao_cli_looks.specs.Command.{text_of}
use Rattle.cacao_view_words.specs.Texts.{Text}
use Rattle.cacao_view_faults.specs.Stands.{LeadsOn}
use Rattle.cacao_view_explain.specs.Lines.{TellsPart, pointer_line, step_lines, step_pointer}
use Rattle.cacao_view_explain.proofs.BreakLemmas.{tells_fault}
use Rattle.cacao_view_explain.proofs.break_lines.fault_lines.Goals as goal

pub returns : goal.returns
returns c =
    let text : NamedText = text_of c.args.text.now in
    let root : Data = data_of c.args.tree.now in
    let key : Option Text = option_map (λ (k : Bor Text). k.now) c.key_of-key.result in
    let same : key ≡ c.args.broken.now.step = c.key_of-key.ensures in
    let path : Text = string_bytes c.in_ok-path.path in
    let there : c.as_str-path.result.now ≡ path = c.as_str-path.ensures.value in
    let part : Text = c.in_ok-part.part.items in
    let what : Text = string_bytes c.args.finding.now.what in
    tells_fault text root c.args.broken.now.step what path part c.in_ok-lines.lines c.add_two.new.lines
    (c.in_ok-lines.ensures ∙ ap (λ (k : Option Text). step_lines k root) same)
    (subst (λ (k : Option Text). LeadsOn text.bytes (step_pointer k) path) same c.in_ok-path.ensures)
    (subst (λ (p : Text). TellsPart text p what part) there c.in_ok-part.ensures)
    (c.in_ok-add_two.ensures ∙ ap (λ (l : Text). (c.in_ok-lines.lines ++ l ∷ []) ++ part ∷ []) (c.in_ok-pointer.ensures ∙ ap pointer_line there))
