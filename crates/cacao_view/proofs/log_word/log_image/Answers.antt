-- The image tells a run, or none.
use Rattle.std.proofs.Common.{◌∙◌, inl, refl, sym, ap, subst, Err}
use Rattle.run_journal.specs.Image.{bytes_of}
use Rattle.cacao_cli_ends.specs.Ends.{End}
use Rattle.cacao_view_log.specs.Logs.{Logs}
use Rattle.cacao_view_log.proofs.FrontLemmas.{front_fits}
use Rattle.cacao_view.specs.Logging.{LogsImage}
use Rattle.cacao_view.proofs.FileLemmas.{image-unread, image-untold}
use Rattle.cacao_view.proofs.log_word.log_image.Goals as goal

pub log-requires : goal.log-requires
log-requires c = (c.in-Ok.ensures.placed, front_fits c.args.image.now (bytes_of c.in-Ok.entries) c.in-Ok.ensures.stands)

pub returns-in-Err : goal.returns-in-Err
returns-in-Err c =
    subst (λ (e : End). LogsImage c.args.form c.args.image.now c.ending.result.lines e) (sym c.image_end.ensures ∙ sym c.ending.ensures.end)
    (image-unread c.args.form c.args.image.now c.ending.result.lines c.in-Err.error c.ending.ensures.lines (λ place e. c.in-Err.ensures.damaged place (ap Err e)))

pub returns-in-Ok-log : goal.returns-in-Ok-log
returns-in-Ok-log c = inl ((bytes_of c.in-Ok.entries, c.in-Ok.ensures.stands, subst (Logs c.args.form (bytes_of c.in-Ok.entries)) (sym c.from_vec.ensures) c.in-Ok-log.ensures.ok), refl)

pub returns : goal.returns
returns c =
    subst (λ (e : End). LogsImage c.args.form c.args.image.now c.ending-in-Err-log.result.lines e) (sym c.report_end.ensures ∙ sym c.ending-in-Err-log.ensures.end)
    (image-untold c.args.form c.args.image.now c.ending-in-Err-log.result.lines (bytes_of c.in-Ok.entries) c.in-Err-log.error c.ending-in-Err-log.ensures.lines c.in-Ok.ensures.stands (λ place e. c.in-Err-log.ensures.damaged place (ap Err e)) (λ e. c.in-Err-log.ensures.tasks (ap Err e)))
