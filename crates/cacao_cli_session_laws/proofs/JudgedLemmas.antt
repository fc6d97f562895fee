-- What settles the status of a start.
use Rattle.std.proofs.Common.{◌≡◌, inl, inr, ap, subst}
use Rattle.cacao_site.specs.View.{SiteView}
use Rattle.flow_core_setup.specs.declared.setup_errors.SetupError.TheVariants as setup_error
use Rattle.flow_engine_answers.specs.Answers as told
use Rattle.flow_engine_answers.proofs.AnswerLawLemmas.{bad_lines_tell_nothing}
use Rattle.flow_world_laws.proofs.AcceptLemmas.{not-accepted}
use Rattle.cacao_cli_words.specs.Words.{Text}
use Rattle.cacao_cli_ends.specs.Ends.{End, status_of, ended_ok}
use Rattle.cacao_cli_session.specs.Holding.{CameTo, HasAnswers, HasBadAnswer, IsAcceptedStart, IsRefusedStart}
use Rattle.cacao_cli_ends.specs.Work.{Start, bytes_of}
use Rattle.cacao_cli_session_laws.proofs.HoldLemmas.{holds-done}

-- ---- no two of the causes hold

pub bad-answers : (start : Start) → HasBadAnswer start → HasAnswers start → ⊥
bad-answers start (text, is, number, bad) (answers, are) =
    bad_lines_tell_nothing text.bytes start.run number answers bad (subst (λ (b : Text). told.Answers b start.run answers) (ap bytes_of is) are)

pub refused-accepted : (start : Start) → IsRefusedStart start → IsAcceptedStart start → ⊥
refused-accepted start (answers, inl (broken, h)) (others, (given, a)) = not-accepted start.books start.bind (setup_error.Broken broken) h (λ e. no-broken e) given a
  where
    no-broken : setup_error.Broken broken ≡ setup_error.Memory → ⊥
    no-broken e = cc
refused-accepted start (answers, inr (rule, h)) (others, (given, a)) = not-accepted start.books start.bind (setup_error.Bind rule) h (λ e. no-bind e) given a
  where
    no-bind : setup_error.Bind rule ≡ setup_error.Memory → ⊥
    no-bind e = cc

-- ---- the status settles the cause

pub came-accepted : (start : Start) (old new : SiteView) (last : End) → CameTo start last old new → IsAcceptedStart start
came-accepted start old new last h = ((h.session.answers, h.session.are), (h.session.given, h.session.accepted))

pub came-done : (start : Start) (old new : SiteView) (last : End) → CameTo start last old new → status_of last ≡ 0 → last ≡ ended_ok
came-done start old new last h is = holds-done h.session.given start.run start.most h.session.answers old h.between last is h.session.holds
