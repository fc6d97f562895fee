-- The number of a text that has no tree, and bindings that break a rule.
use Rattle.std.proofs.Common.{subst, ℕ, List}
use Rattle.cacao_check.specs.Fits.{FitsKind}
use Rattle.flow_core.specs.SetupReading.{BreaksBindRule, IsFirstUnreadable, texts_read}
use Rattle.flow_core.specs.Setups.{AreAccepted}
use Rattle.flow_core_rules.specs.Accepted.{Accepted}
use Rattle.cacao_cli_words.specs.Commands.{run_request}
use Rattle.cacao_cli_starts.proofs.BeginLemmas.{accepted-lacking, begins-bind, bind-lacking, is-numbered}
use Rattle.cacao_cli_starts.proofs.judging.judge_texts.Goals as goal

pub unreadable_end-requires : goal.unreadable_end-requires
unreadable_end-requires c =
    is-numbered (run_request c.args.wanted.now) c.args.texts.now c.in-Err-Unreadable.file c.in-Err-Unreadable.error c.requires.named
    (subst (λ (books : List (List ℕ)). IsFirstUnreadable (texts_read books c.args.texts.now.bind) c.in-Err-Unreadable.file c.in-Err-Unreadable.error) c.as_slice.ensures.value (rw c.in-Err-Unreadable.field-0-is at c.in-Err-Unreadable.ensures.err))

pub returns-in-Ok-clause-refused : goal.returns-in-Ok-clause-refused
returns-in-Ok-clause-refused c =
    accepted-lacking (run_request c.args.wanted.now) c.args.texts.now c.in-Ok.setup c.in-Err.end
    (subst (λ (books : List (List ℕ)). Accepted AreAccepted FitsKind books c.args.texts.now.bind c.in-Ok.setup) c.as_slice.ensures.value c.in-Ok.ensures.ok)
    c.in-Err.ensures.err

pub returns-in-Ok-others_of-3-clause-refused : goal.returns-in-Ok-others_of-3-clause-refused
returns-in-Ok-others_of-3-clause-refused c =
    begins-bind (run_request c.args.wanted.now) c.args.texts.now c.in-Err-Bind.rule c.in-Ok-others_of-3.field-0
    (subst (λ (books : List (List ℕ)). BreaksBindRule books c.args.texts.now.bind c.in-Err-Bind.rule) c.as_slice.ensures.value (rw c.in-Err-Bind.field-0-is at c.in-Err-Bind.ensures.err))
    c.in-Ok-others_of-3.ensures.bind c.in-Ok-others_of-3.ensures.ok
