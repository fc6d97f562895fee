-- The words so far pass.
use Rattle.std.proofs.Common.{◌≡◌, ◌∙◌, ◌||◌, sym, ap, true, string_bytes}
use Rattle.std.specs.Str.{bytes_eq}
use Rattle.cacao_cli_words.specs.Words.{dashes}
use Rattle.cacao_cli_words.specs.Hyphens.{word_passes}
use Rattle.cacao_cli_words.proofs.ClapLemmas.{passes-next, passes-fails, passes-end}
use Rattle.cacao_cli_words.proofs.reading.pass.Goals as goal
use Rattle.cacao_cli_words.proofs.reading.pass.Goals.{then-ended, else-ended}

pub returns-then-not-word_passes : goal.returns-then-not-word_passes
returns-then-not-word_passes c = passes-fails (λ s. string_bytes s) c.args.words.now c.loop-word.word-index c.word-item.result c.loop-word.ended _ c.loop-word-test.true c.word-item.is c.loop-word.invariant
    (ap (word_passes c.loop-word.ended) (sym c.as_bytes.ensures.value) ∙ sym c.word_passes.ensures ∙ c.if-not-word_passes.true)

pub loop-word-preserved : goal.loop-word-preserved
loop-word-preserved c =
    let ok : word_passes c.loop-word.ended (string_bytes c.word-item.result) ≡ true = ap (word_passes c.loop-word.ended) (sym c.as_bytes.ensures.value) ∙ sym c.word_passes.ensures ∙ c.if-not-word_passes.false in
    let ends : c.if-ended.ended ≡ (c.loop-word.ended || bytes_eq (string_bytes c.word-item.result) dashes) = elim c.if-ended.branch [
      | then-ended w ↦ rw w.if-ended.true (w.ended-is ∙ w.if-ended.true)
      | else-ended w ↦ rw w.if-ended.false (w.ended-is ∙ w.is_dashes-ended.ensures ∙ ap (λ b. bytes_eq b dashes) w.as_str.ensures.value)
    ] in
    passes-next (λ s. string_bytes s) c.args.words.now c.loop-word.word-index c.word-item.result c.loop-word.ended c.if-ended.ended _ c.loop-word-test.true c.word-item.is c.loop-word.invariant ok ends

pub returns : goal.returns
returns c = sym (c.loop-word.invariant ∙ passes-end (λ s. string_bytes s) c.args.words.now c.loop-word.word-index c.loop-word.ended c.loop-word-test.false)
