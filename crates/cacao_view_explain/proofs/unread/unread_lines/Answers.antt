-- The texts before the one that is read have trees.
use Rattle.std.proofs.Common.{◌≡◌, ◌∙◌, sym, ap, subst, ℕ, List, [], drop, map, Option, None, Err}
use Rattle.std.proofs.lemmas.List.{drop_all}
use Rattle.std.proofs.lemmas.Result.{IfOk-weaker}
use Rattle.cacao_json.specs.Refusals.{IsAnswerOrMemory, answer}
use Rattle.cacao_json.specs.Tree.{data_of}
use Rattle.cacao_cli_looks.specs.Command.{text_of}
use Rattle.cacao_cli_looks.specs.declared.file_text.FileText.{FileText}
use Rattle.cacao_view_explain.specs.Reasons.{TellsReason}
use Rattle.cacao_view_explain.specs.Tells.{TellsUnread, Unread, first_unread}
use Rattle.cacao_view_explain.proofs.UnreadLemmas.{read_at, unread_at}
use Rattle.cacao_view_explain.proofs.unread.unread_lines.Goals as goal

pub returns-in-Err : goal.returns-in-Err
returns-in-Err c =
    let texts : List FileText = c.args.texts.now in
    let i : ℕ = c.loop-text.text-index in
    let t : FileText = c.text-item.result in
    let answers : IsAnswerOrMemory (Err c.in-Err.error) (answer (text_of t).bytes) =
    subst (λ (bytes : List ℕ). IsAnswerOrMemory (Err c.in-Err.error) (answer bytes)) c.as_slice.ensures c.in-Err.ensures.exact in
    IfOk-weaker c.reason_lines.result (TellsReason (text_of t) c.in-Err.error) (TellsUnread (first_unread (map text_of texts)))
    (λ lines tells. unread_at text_of texts i t c.in-Err.error lines c.loop-text-test.true c.text-item.is answers c.loop-text.invariant tells) c.reason_lines.ensures

pub loop-text-preserved : goal.loop-text-preserved
loop-text-preserved c =
    read_at text_of c.args.texts.now c.loop-text.text-index c.text-item.result (data_of c.in-Ok.field-0) c.loop-text-test.true c.text-item.is
    (ap answer (sym c.as_slice.ensures) ∙ c.in-Ok.ensures.exact) c.loop-text.invariant

pub returns : goal.returns
returns c =
    let texts : List FileText = c.args.texts.now in
    let past : drop c.loop-text.text-index texts ≡ [] = drop_all c.loop-text.text-index texts c.loop-text-test.false in
    let none : first_unread (map text_of texts) ≡ None = sym c.loop-text.invariant ∙ ap (λ (l : List FileText). first_unread (map text_of l)) past in
    subst (λ (o : Option Unread). TellsUnread o c.new.result) (sym none) c.new.ensures
