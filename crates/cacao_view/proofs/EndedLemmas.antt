-- What holds of a call that went as `Ended` says, request by request.
use Rattle.std.proofs.Common.{◌≡◌, ◌⊎◌, ◌∙◌, inl, inr, refl, sym, ap, subst, arith, ℕ, true, List, [], ◌∷◌, Some, None}
use Rattle.cacao_site.specs.Counts.{Rose, next_count}
use Rattle.cacao_site.specs.View.{SiteView}
use Rattle.cacao_cli_ends.specs.Comes.{ComesExactly, IsOneOf}
use Rattle.cacao_cli_ends.specs.Ends as cacao
use Rattle.cacao_cli_ends.specs.Files.{ShelfCall}
use Rattle.cacao_cli_ends.proofs.EndLemmas.{end-failed}
use Rattle.cacao_cli_ends.proofs.LineLemmas.{IsCutOff}
use Rattle.cacao_cli_ends.proofs.StatusLists.{are_among, not-among, widen}
use Rattle.cacao_view_graph.specs.RunPictures.{DrawsEntries}
use Rattle.cacao_view_log.specs.Logs.{Logs}
use Rattle.cacao_view_words.specs.Requests.{Request, helps, helps_with, tells_version, logs, graphs, graphs_run, explains, explains_books, preflights, lacks}
use Rattle.cacao_view_words.specs.Rules.{rule_lines}
use Rattle.cacao_view_words.specs.Texts.{Text}
use Rattle.cacao_view_words.specs.Topics.{all_words, topic_lines, version_lines}
use Rattle.cacao_view.specs.Comes.{DiskTells, IsNotUnderstood, OpensDisk, StatusesTell, statuses_of}
use Rattle.cacao_view.specs.Drawing.{Draws}
use Rattle.cacao_view.specs.Ends.{End, done, not_understood, status_of}
use Rattle.cacao_view.specs.Lines.{SaysWork, Tells, unsaid_count}
use Rattle.cacao_view.specs.Explaining.{ExplainsBooks}
use Rattle.cacao_view.specs.Flying.{FliesBooks}
use Rattle.cacao_view.specs.Logging.{LogsFile, form_of}
use Rattle.cacao_view.specs.Looks.{Ended, Looks, OnlyLooks}
use Rattle.cacao_view.specs.OpeningRuns.{OpensTo}
use Rattle.cacao_view.specs.Reports.{Reports, ReportsOpened}
use Rattle.cacao_view.specs.Work.{Work, files_of, draws, draws_run, logs_disk, logs_file, says, tells_break, tells_flight, work}
use Rattle.cacao_view.proofs.BreakLemmas.{breaks-failed, breaks-listed, breaks-status, breaks-steady}
use Rattle.cacao_view.proofs.FlightLemmas.{flies-failed, flies-listed, flies-status, flies-steady}
use Rattle.cacao_view.proofs.DrawLemmas.{draws-failed, draws-listed, draws-status, draws-steady}
use Rattle.cacao_view.proofs.BookLemmas.{books_list}
use Rattle.cacao_view.proofs.FileLemmas.{file-failed, file-listed, file-statuses, file-steady, logged}
use Rattle.cacao_view.proofs.OpenedLemmas.{disk-statuses, disk_list, draws-reports, logs-reports, opens-failed, opens-has, opens-listed, opens-of, opens-steady}
use Rattle.cacao_view.proofs.ReportLemmas.{disk-failure, opened-looks, report-disk, report-said, report-some, report-status, report-unsaid, shelf-failure, some-looks}
use Rattle.cacao_view.proofs.SayLemmas.{Answers, IsPlain, work-answers, work-looks, work-steady}

-- ---- the work of each request

-- words that read nothing end plainly
abbrev IsPlainWork : Work → Type 0
IsPlainWork (says lines end) = IsPlain end × ((status_of end ≡ 0) ⊎ (status_of end ≡ 2))
IsPlainWork (logs_disk form) = Unit {0}
IsPlainWork (logs_file form name) = Unit {0}
IsPlainWork (draws books) = Unit {0}
IsPlainWork draws_run = Unit {0}
IsPlainWork (tells_break books) = Unit {0}
IsPlainWork (tells_flight bind books) = Unit {0}

work-plain : (r : Request) → IsPlainWork (work r)
work-plain helps = (tt, inl refl)
work-plain (helps_with topic) = (tt, inl refl)
work-plain tells_version = (tt, inl refl)
work-plain (logs as_json None) = tt
work-plain (logs as_json (Some name)) = tt
work-plain (graphs books) = tt
work-plain graphs_run = tt
work-plain (explains rule) = (tt, inl refl)
work-plain (explains_books books) = tt
work-plain (preflights bind books) = tt
work-plain (lacks wanted) = (tt, inr refl)

zero-or-two : (n : ℕ) → (n ≡ 0) ⊎ (n ≡ 2) → n ≡ 9 → ⊥
zero-or-two n (inl f) e = omega (arith, e, f)
zero-or-two n (inr f) e = omega (arith, e, f)

-- a status that is not in the list
other : (n m : ℕ) (ns : List ℕ) → IsOneOf n ns → (IsOneOf m ns → ⊥) → n ≡ m → ⊥
other n m ns h none e = none (subst (λ (k : ℕ). IsOneOf k ns) e h)

no-nine : (Told : List Text → cacao.End → Type 0) (old mid : SiteView) (last : End) (ns : List ℕ) → (IsOneOf 9 ns → ⊥) → (h : Reports Told old mid last) → IsOneOf (cacao.status_of h.end) ns → cacao.status_of h.end ≡ 9 → ⊥
no-nine Told old mid last ns none h one e = other (cacao.status_of h.end) 9 ns one none e

module _ (shelf : ShelfCall) (old mid new : SiteView) (last : End) (answer : ℕ) (tells : Tells last mid new answer) where
  -- ---- what stays

  work-only : (w : Work) → IsPlainWork w → Looks w shelf old mid last → OnlyLooks old new
  work-only (says lines end) plain h = work-looks lines end old mid new last answer plain.0 h tells
  work-only (logs_disk form) plain h = opened-looks old h.between new (opens-of (Logs form) old h.between h.reports.lines h.reports.end h.reports.told)
      (report-some (OpensTo (Logs form) old h.between) h.between mid new last answer h.reports tells)
  work-only (logs_file form name) plain h = some-looks old new (report-some (LogsFile form name shelf) old mid new last answer h tells)
  work-only (draws books) plain h = some-looks old new (report-some (Draws books shelf) old mid new last answer h tells)
  work-only draws_run plain h = opened-looks old h.between new (opens-of DrawsEntries old h.between h.reports.lines h.reports.end h.reports.told)
      (report-some (OpensTo DrawsEntries old h.between) h.between mid new last answer h.reports tells)
  work-only (tells_break books) plain h = some-looks old new (report-some (ExplainsBooks books shelf) old mid new last answer h tells)
  work-only (tells_flight bind books) plain h = some-looks old new (report-some (FliesBooks bind books shelf) old mid new last answer h tells)

  -- ---- lines that could not be said

  opened-unsaid : (Of : List Text → List Text → Type 0) (h : ReportsOpened (OpensTo Of) old mid last) → h.between.counts.unsaid ≡ old.counts.unsaid
  opened-unsaid Of h = ap (λ c. c.unsaid) (opens-of Of old h.between h.reports.lines h.reports.end h.reports.told).only.rest.counts

  opened-nine : (Of : List Text → List Text → Type 0) (h : ReportsOpened (OpensTo Of) old mid last) → answer ≡ 9 → unsaid_count new ≡ next_count (unsaid_count old)
  opened-nine Of h e =
      report-unsaid (OpensTo Of old h.between) h.between mid new last answer h.reports tells
      (no-nine (OpensTo Of old h.between) h.between mid last disk_list (not-among 9 disk_list refl) h.reports (opens-listed Of old h.between h.reports.lines h.reports.end h.reports.told)) e
      ∙ ap next_count (opened-unsaid Of h)

  plain-said : (status : ℕ) → Answers status old new answer → (answer ≡ 9 → ⊥) → unsaid_count new ≡ unsaid_count old
  plain-said status (inl h) unlike = h.1
  plain-said status (inr h) unlike = absurd (unlike h.0)

  plain-unsaid : (status : ℕ) → (status ≡ 9 → ⊥) → Answers status old new answer → answer ≡ 9 → unsaid_count new ≡ next_count (unsaid_count old)
  plain-unsaid status unlike (inl h) e = absurd (unlike (sym h.0 ∙ e))
  plain-unsaid status unlike (inr h) e = h.1

  work-said : (w : Work) → IsPlainWork w → Looks w shelf old mid last → (answer ≡ 9 → ⊥) → unsaid_count new ≡ unsaid_count old
  work-said (says lines end) plain h unlike = plain-said (status_of end) (work-answers lines end old mid new last answer plain.0 h tells) unlike
  work-said (logs_disk form) plain h unlike = report-said (OpensTo (Logs form) old h.between) h.between mid new last answer h.reports tells unlike ∙ opened-unsaid (Logs form) h
  work-said (logs_file form name) plain h unlike = report-said (LogsFile form name shelf) old mid new last answer h tells unlike
  work-said (draws books) plain h unlike = report-said (Draws books shelf) old mid new last answer h tells unlike
  work-said draws_run plain h unlike = report-said (OpensTo DrawsEntries old h.between) h.between mid new last answer h.reports tells unlike ∙ opened-unsaid DrawsEntries h
  work-said (tells_break books) plain h unlike = report-said (ExplainsBooks books shelf) old mid new last answer h tells unlike
  work-said (tells_flight bind books) plain h unlike = report-said (FliesBooks bind books shelf) old mid new last answer h tells unlike

  work-unsaid : (w : Work) → IsPlainWork w → Looks w shelf old mid last → answer ≡ 9 → unsaid_count new ≡ next_count (unsaid_count old)
  work-unsaid (says lines end) plain h e = plain-unsaid (status_of end) (zero-or-two (status_of end) plain.1) (work-answers lines end old mid new last answer plain.0 h tells) e
  work-unsaid (logs_disk form) plain h e = opened-nine (Logs form) h e
  work-unsaid draws_run plain h e = opened-nine DrawsEntries h e
  work-unsaid (logs_file form name) plain h e =
      report-unsaid (LogsFile form name shelf) old mid new last answer h tells
      (no-nine (LogsFile form name shelf) old mid last logged (not-among 9 logged refl) h (file-listed form name shelf h.lines h.end h.told)) e
  work-unsaid (draws books) plain h e =
      report-unsaid (Draws books shelf) old mid new last answer h tells
      (no-nine (Draws books shelf) old mid last books_list (not-among 9 books_list refl) h (draws-listed books shelf h.lines h.end h.told)) e
  work-unsaid (tells_break books) plain h e =
      report-unsaid (ExplainsBooks books shelf) old mid new last answer h tells
      (no-nine (ExplainsBooks books shelf) old mid last books_list (not-among 9 books_list refl) h (breaks-listed books shelf h.lines h.end h.told)) e
  work-unsaid (tells_flight bind books) plain h e =
      report-unsaid (FliesBooks bind books shelf) old mid new last answer h tells
      (no-nine (FliesBooks bind books shelf) old mid last books_list (not-among 9 books_list refl) h (flies-listed bind books shelf h.lines h.end h.told)) e

  -- ---- which statuses come

  listed : (ns ms : List ℕ) (n : ℕ) → are_among ns ms ≡ true → are_among (9 ∷ 10 ∷ []) ms ≡ true → IsOneOf n ns → (answer ≡ n) ⊎ IsCutOff answer → IsOneOf answer ms
  listed ns ms n all cut one (inl e) = widen answer ns ms all (subst (λ (k : ℕ). IsOneOf k ns) (sym e) one)
  listed ns ms n all cut one (inr c) = widen answer (9 ∷ 10 ∷ []) ms cut c

  plain-one : (status : ℕ) → Answers status old new answer → IsOneOf answer (status ∷ 9 ∷ [])
  plain-one status (inl h) = inl h.0
  plain-one status (inr h) = inr (inl h.0)

  pub answers-one : (r : Request) → Looks (work r) shelf old mid last → IsOneOf answer (statuses_of r)
  answers-one helps h = plain-one 0 (work-answers all_words done old mid new last answer tt h tells)
  answers-one (helps_with topic) h = plain-one 0 (work-answers (topic_lines topic) done old mid new last answer tt h tells)
  answers-one tells_version h = plain-one 0 (work-answers version_lines done old mid new last answer tt h tells)
  answers-one (logs as_json None) h =
      listed disk_list (statuses_of (logs as_json None)) (cacao.status_of h.reports.end) refl refl (opens-listed (Logs (form_of as_json)) old h.between h.reports.lines h.reports.end h.reports.told)
      (report-status (OpensTo (Logs (form_of as_json)) old h.between) h.between mid new last answer h.reports tells)
  answers-one graphs_run h =
      listed disk_list (statuses_of graphs_run) (cacao.status_of h.reports.end) refl refl (opens-listed DrawsEntries old h.between h.reports.lines h.reports.end h.reports.told)
      (report-status (OpensTo DrawsEntries old h.between) h.between mid new last answer h.reports tells)
  answers-one (logs as_json (Some name)) h =
      listed logged (statuses_of (logs as_json (Some name))) (cacao.status_of h.end) refl refl (file-listed (form_of as_json) name shelf h.lines h.end h.told)
      (report-status (LogsFile (form_of as_json) name shelf) old mid new last answer h tells)
  answers-one (graphs books) h =
      listed books_list (statuses_of (graphs books)) (cacao.status_of h.end) refl refl (draws-listed books shelf h.lines h.end h.told) (report-status (Draws books shelf) old mid new last answer h tells)
  answers-one (explains rule) h = plain-one 0 (work-answers (rule_lines rule) done old mid new last answer tt h tells)
  answers-one (explains_books books) h =
      listed books_list (statuses_of (explains_books books)) (cacao.status_of h.end) refl refl (breaks-listed books shelf h.lines h.end h.told) (report-status (ExplainsBooks books shelf) old mid new last answer h tells)
  answers-one (preflights bind books) h =
      listed books_list (statuses_of (preflights bind books)) (cacao.status_of h.end) refl refl (flies-listed bind books shelf h.lines h.end h.told) (report-status (FliesBooks bind books shelf) old mid new last answer h tells)
  answers-one (lacks wanted) h = plain-one 2 (work-answers [] (not_understood wanted) old mid new last answer tt h tells)

  -- always, but for a line that could not be said
  always : (status : ℕ) → Answers status old new answer → ComesExactly status (9 ∷ []) (Unit {0}) answer
  always status h = record { only = λ e. tt; always = λ c. plain-one status h }

  pub statuses-told : (r : Request) → Looks (work r) shelf old mid last → StatusesTell r shelf.told old new answer
  statuses-told helps h = always 0 (work-answers all_words done old mid new last answer tt h tells)
  statuses-told (helps_with topic) h = always 0 (work-answers (topic_lines topic) done old mid new last answer tt h tells)
  statuses-told tells_version h = always 0 (work-answers version_lines done old mid new last answer tt h tells)
  statuses-told (logs as_json None) h = disk-statuses old new answer (λ told.
      opens-has (Logs (form_of as_json)) old h.between h.reports.lines h.reports.end (λ entries k. logs-reports (form_of as_json) entries h.reports.lines k) new answer
      ((report-some (OpensTo (Logs (form_of as_json)) old h.between) h.between mid new last answer h.reports tells).disk.stays 0).reads told h.reports.told
      (report-status (OpensTo (Logs (form_of as_json)) old h.between) h.between mid new last answer h.reports tells))
  statuses-told graphs_run h = disk-statuses old new answer (λ told.
      opens-has DrawsEntries old h.between h.reports.lines h.reports.end (λ entries k. draws-reports entries h.reports.lines k) new answer
      ((report-some (OpensTo DrawsEntries old h.between) h.between mid new last answer h.reports tells).disk.stays 0).reads told h.reports.told
      (report-status (OpensTo DrawsEntries old h.between) h.between mid new last answer h.reports tells))
  statuses-told (logs as_json (Some name)) h =
      file-statuses (form_of as_json) name shelf h.lines h.end answer h.told (report-status (LogsFile (form_of as_json) name shelf) old mid new last answer h tells)
  statuses-told (graphs books) h = draws-status books shelf h.lines h.end h.told answer (report-status (Draws books shelf) old mid new last answer h tells)
  statuses-told (explains rule) h = always 0 (work-answers (rule_lines rule) done old mid new last answer tt h tells)
  statuses-told (explains_books books) h = breaks-status books shelf h.lines h.end h.told answer (report-status (ExplainsBooks books shelf) old mid new last answer h tells)
  statuses-told (preflights bind books) h = flies-status bind books shelf h.lines h.end h.told answer (report-status (FliesBooks bind books shelf) old mid new last answer h tells)
  statuses-told (lacks wanted) h = always 2 (work-answers [] (not_understood wanted) old mid new last answer tt h tells)

  never-two : (ns : List ℕ) → (IsOneOf 2 ns → ⊥) → IsOneOf answer ns → ComesExactly 2 (9 ∷ []) ⊥ answer
  never-two ns none one = record { only = λ e. other answer 2 ns one none e; always = λ c. absurd c }

  pub lacking : (r : Request) → IsOneOf answer (statuses_of r) → ComesExactly 2 (9 ∷ []) (IsNotUnderstood r) answer
  lacking helps one = never-two (0 ∷ 9 ∷ []) (not-among 2 (0 ∷ 9 ∷ []) refl) one
  lacking (helps_with topic) one = never-two (0 ∷ 9 ∷ []) (not-among 2 (0 ∷ 9 ∷ []) refl) one
  lacking tells_version one = never-two (0 ∷ 9 ∷ []) (not-among 2 (0 ∷ 9 ∷ []) refl) one
  lacking (logs as_json None) one = never-two (statuses_of (logs as_json None)) (not-among 2 (statuses_of (logs as_json None)) refl) one
  lacking (logs as_json (Some name)) one = never-two (statuses_of (logs as_json (Some name))) (not-among 2 (statuses_of (logs as_json (Some name))) refl) one
  lacking graphs_run one = never-two (statuses_of graphs_run) (not-among 2 (statuses_of graphs_run) refl) one
  lacking (graphs books) one = never-two (statuses_of (graphs books)) (not-among 2 (statuses_of (graphs books)) refl) one
  lacking (explains rule) one = never-two (0 ∷ 9 ∷ []) (not-among 2 (0 ∷ 9 ∷ []) refl) one
  lacking (explains_books books) one = never-two (statuses_of (explains_books books)) (not-among 2 (statuses_of (explains_books books)) refl) one
  lacking (preflights bind books) one = never-two (statuses_of (preflights bind books)) (not-among 2 (statuses_of (preflights bind books)) refl) one
  lacking (lacks wanted) one = record { only = λ e. tt; always = λ c. one }

  -- ---- faults of the disk

  neither : (n : ℕ) → (answer ≡ n) ⊎ (answer ≡ 9) → (answer ≡ n → ⊥) → (answer ≡ 9 → ⊥) → ⊥
  neither n (inl e) a b = a e
  neither n (inr e) a b = b e

  eight-or-not : (n : ℕ) → (answer ≡ n) ⊎ IsCutOff answer → answer ≡ 8 → n ≡ 8
  eight-or-not n (inl e) f = sym e ∙ f
  eight-or-not n (inr (inl e)) f = absurd (omega (arith, e, f))
  eight-or-not n (inr (inr (inl e))) f = absurd (omega (arith, e, f))
  eight-or-not n (inr (inr (inr none))) f = absurd none

  opened-disk : (Of : List Text → List Text → Type 0) (h : ReportsOpened (OpensTo Of) old mid last) → OpensDisk old new answer
  opened-disk Of h = record {
    failed = λ e. subst (λ (n : ℕ). Rose old.disk.faults n) (sym same) (opens-failed Of old h.between h.reports.lines h.reports.end h.reports.told
        (eight-or-not (cacao.status_of h.reports.end) (report-status Told h.between mid new last answer h.reports tells) e));
    steady = λ a b. same ∙ opens-steady Of old h.between h.reports.lines h.reports.end h.reports.told (λ e. neither 8 (disk-failure Told h.between mid new last answer h.reports tells e) a b);
  }
    where
      Told : List Text → cacao.End → Type 0
      Told = OpensTo Of old h.between

      same : new.disk.faults ≡ h.between.disk.faults
      same = report-disk Told h.between mid new last answer h.reports tells

  plain-disk : (lines : List Text) (end : End) → IsPlain end → SaysWork lines end old mid last → new.disk.faults ≡ old.disk.faults
  plain-disk lines end plain h = work-steady lines end old mid new last answer plain h tells

  pub disk-told : (r : Request) → Looks (work r) shelf old mid last → DiskTells r old new answer
  disk-told helps h = plain-disk all_words done tt h
  disk-told (helps_with topic) h = plain-disk (topic_lines topic) done tt h
  disk-told tells_version h = plain-disk version_lines done tt h
  disk-told (logs as_json None) h = opened-disk (Logs (form_of as_json)) h
  disk-told graphs_run h = opened-disk DrawsEntries h
  disk-told (logs as_json (Some name)) h = report-disk (LogsFile (form_of as_json) name shelf) old mid new last answer h tells
  disk-told (graphs books) h = report-disk (Draws books shelf) old mid new last answer h tells
  disk-told (explains rule) h = plain-disk (rule_lines rule) done tt h
  disk-told (explains_books books) h = report-disk (ExplainsBooks books shelf) old mid new last answer h tells
  disk-told (preflights bind books) h = report-disk (FliesBooks bind books shelf) old mid new last answer h tells
  disk-told (lacks wanted) h = plain-disk [] (not_understood wanted) tt h

  -- ---- failures of the shelf

  three-or-not : (n : ℕ) → (answer ≡ n) ⊎ IsCutOff answer → answer ≡ 3 → n ≡ 3
  three-or-not n (inl e) f = sym e ∙ f
  three-or-not n (inr (inl e)) f = absurd (omega (arith, e, f))
  three-or-not n (inr (inr (inl e))) f = absurd (omega (arith, e, f))
  three-or-not n (inr (inr (inr none))) f = absurd none

  never-three : (ns : List ℕ) → (IsOneOf 3 ns → ⊥) → IsOneOf answer ns → answer ≡ 3 → ⊥
  never-three ns none one e = other answer 3 ns one none e

  pub shelf-failed : (r : Request) → Looks (work r) shelf old mid last → answer ≡ 3 → shelf.after ≡ next_count shelf.before
  shelf-failed helps h e = absurd (never-three (0 ∷ 9 ∷ []) (not-among 3 (0 ∷ 9 ∷ []) refl) (answers-one helps h) e)
  shelf-failed (helps_with topic) h e = absurd (never-three (0 ∷ 9 ∷ []) (not-among 3 (0 ∷ 9 ∷ []) refl) (answers-one (helps_with topic) h) e)
  shelf-failed tells_version h e = absurd (never-three (0 ∷ 9 ∷ []) (not-among 3 (0 ∷ 9 ∷ []) refl) (answers-one tells_version h) e)
  shelf-failed (logs as_json None) h e = absurd (never-three (statuses_of (logs as_json None)) (not-among 3 (statuses_of (logs as_json None)) refl) (answers-one (logs as_json None) h) e)
  shelf-failed (logs as_json (Some name)) h e =
      file-failed (form_of as_json) name shelf h.lines h.end h.told (three-or-not (cacao.status_of h.end) (report-status (LogsFile (form_of as_json) name shelf) old mid new last answer h tells) e)
  shelf-failed graphs_run h e = absurd (never-three (statuses_of graphs_run) (not-among 3 (statuses_of graphs_run) refl) (answers-one graphs_run h) e)
  shelf-failed (graphs books) h e =
      draws-failed books shelf h.lines h.end h.told (three-or-not (cacao.status_of h.end) (report-status (Draws books shelf) old mid new last answer h tells) e)
  shelf-failed (explains rule) h e = absurd (never-three (0 ∷ 9 ∷ []) (not-among 3 (0 ∷ 9 ∷ []) refl) (answers-one (explains rule) h) e)
  shelf-failed (explains_books books) h e =
      breaks-failed books shelf h.lines h.end h.told (three-or-not (cacao.status_of h.end) (report-status (ExplainsBooks books shelf) old mid new last answer h tells) e)
  shelf-failed (preflights bind books) h e =
      flies-failed bind books shelf h.lines h.end h.told (three-or-not (cacao.status_of h.end) (report-status (FliesBooks bind books shelf) old mid new last answer h tells) e)
  shelf-failed (lacks wanted) h e = absurd (never-three (2 ∷ 9 ∷ []) (not-among 3 (2 ∷ 9 ∷ []) refl) (answers-one (lacks wanted) h) e)

  not-three : (Told : List Text → cacao.End → Type 0) (h : Reports Told old mid last) → (answer ≡ 3 → ⊥) → (answer ≡ 9 → ⊥) → cacao.status_of h.end ≡ 3 → ⊥
  not-three Told h a b e = let f = end-failed h.end e in neither 3 (shelf-failure Told old mid new last answer h tells f.0 f.1) a b

  -- where the words read files
  pub shelf-steady : (r : Request) → Looks (work r) shelf old mid last → (files_of r ≡ [] → shelf.after ≡ shelf.before) → (answer ≡ 3 → ⊥) → (answer ≡ 9 → ⊥) → shelf.after ≡ shelf.before
  shelf-steady helps h none a b = none refl
  shelf-steady (helps_with topic) h none a b = none refl
  shelf-steady tells_version h none a b = none refl
  shelf-steady (logs as_json None) h none a b = none refl
  shelf-steady (logs as_json (Some name)) h none a b = file-steady (form_of as_json) name shelf h.lines h.end h.told (not-three (LogsFile (form_of as_json) name shelf) h a b)
  shelf-steady graphs_run h none a b = none refl
  shelf-steady (graphs books) h none a b = draws-steady books shelf h.lines h.end h.told (not-three (Draws books shelf) h a b)
  shelf-steady (explains rule) h none a b = none refl
  shelf-steady (explains_books books) h none a b = breaks-steady books shelf h.lines h.end h.told (not-three (ExplainsBooks books shelf) h a b)
  shelf-steady (preflights bind books) h none a b = flies-steady bind books shelf h.lines h.end h.told (not-three (FliesBooks bind books shelf) h a b)
  shelf-steady (lacks wanted) h none a b = none refl

module _ (r : Request) (shelf : ShelfCall) (old new : SiteView) (answer : ℕ) (h : Ended r shelf old new answer) where
  pub looks-ended : OnlyLooks old new
  looks-ended = work-only shelf old h.between new h.last answer h.tells (work r) (work-plain r) h.looks

  pub answers-ended : IsOneOf answer (statuses_of r)
  answers-ended = answers-one shelf old h.between new h.last answer h.tells r h.looks

  pub statuses-ended : StatusesTell r shelf.told old new answer
  statuses-ended = statuses-told shelf old h.between new h.last answer h.tells r h.looks

  pub lacking-ended : ComesExactly 2 (9 ∷ []) (IsNotUnderstood r) answer
  lacking-ended = lacking shelf old h.between new h.last answer h.tells r answers-ended

  pub unsaid-ended : answer ≡ 9 → unsaid_count new ≡ next_count (unsaid_count old)
  unsaid-ended e = work-unsaid shelf old h.between new h.last answer h.tells (work r) (work-plain r) h.looks e

  pub said-ended : (answer ≡ 9 → ⊥) → unsaid_count new ≡ unsaid_count old
  said-ended unlike = work-said shelf old h.between new h.last answer h.tells (work r) (work-plain r) h.looks unlike

  pub disk-ended : DiskTells r old new answer
  disk-ended = disk-told shelf old h.between new h.last answer h.tells r h.looks

  pub shelf-failed-ended : answer ≡ 3 → shelf.after ≡ next_count shelf.before
  shelf-failed-ended e = shelf-failed shelf old h.between new h.last answer h.tells r h.looks e

  pub shelf-steady-ended : (files_of r ≡ [] → shelf.after ≡ shelf.before) → (answer ≡ 3 → ⊥) → (answer ≡ 9 → ⊥) → shelf.after ≡ shelf.before
  shelf-steady-ended none a b = shelf-steady shelf old h.between new h.last answer h.tells r h.looks none a b
