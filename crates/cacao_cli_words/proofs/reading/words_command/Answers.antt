-- The command, option by option.
use Rattle.std.proofs.Common.{rules, ◌≡◌, ◌∙◌, sym, ap, ap₂, map, take, take_all, get_or, Bor, List, []}
use Rattle.std.proofs.lemmas.Result.{IfOk-weaker}
use Rattle.clap.specs.Words.{app_of, rule_of, with_rule}
use Rattle.cacao_cli_words.specs.ClapCommand.{options_of, raw_names, raw_option}
use Rattle.cacao_cli_words.specs.Words.{Text}
use Rattle.cacao_cli_words.proofs.ClapLemmas.{one_more}
use Rattle.cacao_cli_words.proofs.reading.words_command.Goals as goal

pub loop-option-preserved : goal.loop-option-preserved
loop-option-preserved c =
    let xs : List (Bor Text) = c.args.options.now in
    let none : Bor Text = record { ref_ptr = (0, 0); now = [] } in
    let rule_is : rule_of c.action-taken.result ≡ raw_option (get_or xs c.loop-option.option-index none).now = search rules in
    c.in_ok-command.ensures.shape (search rules) ∙ ap₂ with_rule c.loop-option.invariant rule_is ∙ sym (one_more (λ (x : Bor Text). x.now) xs c.loop-option.option-index none c.loop-option-test.true)

pub returns : goal.returns
returns c =
    let all : take c.loop-option.option-index c.args.options.now ≡ c.args.options.now = take_all c.loop-option.option-index c.args.options.now c.loop-option-test.false in
    let options : app_of c.loop-option.command ≡ options_of (map (λ (x : Bor Text). x.now) c.args.options.now) = c.loop-option.invariant ∙ ap (λ (l : List (Bor Text)). options_of (map (λ (x : Bor Text). x.now) l)) all in
    let names_is : rule_of c.action-names.result ≡ raw_names = search rules in
    IfOk-weaker c.arg-2.result _ _ (λ r h. h.shape (search rules) ∙ ap₂ with_rule options names_is) c.arg-2.ensures
