-- What becomes of a call that opens the engine's file of the disk.
use Rattle.std.proofs.Common.{◌≡◌, ◌⊎◌, ◌∙◌, inl, inr, refl, sym, ap, subst, arith, ℕ, List, [], ◌∷◌, length}
use Rattle.std.specs.Prelude.{IsTrue}
use Rattle.cacao_site.specs.Counts.{Rose}
use Rattle.cacao_site.specs.DiskCalls.{IsDurable}
use Rattle.cacao_site.specs.View.{SiteView}
use Rattle.run_journal.specs.Layout.{Stands}
use Rattle.run_journal.specs.declared.error.JournalError.{JournalError}
use Rattle.run_journal.specs.declared.error.JournalError.TheVariants as journal_error
use Rattle.flow_core_rules.specs.Lines.{report}
use Rattle.flow_engine_reports.specs.RunFiles as run
use Rattle.flow_engine_reports.specs.RunLines.{Reports, no_run}
use Rattle.flow_engine_reports.specs.declared.error.ReportError.{ReportError}
use Rattle.flow_engine_reports.specs.declared.error.ReportError.TheVariants as report_error
use Rattle.cacao_cli_ends.specs.Comes.{IsOneOf}
use Rattle.cacao_cli_ends.specs.Ends.{End, disk_failed, status_of}
use Rattle.cacao_cli_ends.proofs.LineLemmas.{IsCutOff}
use Rattle.cacao_cli_ends.proofs.StatusLists.{not-among}
use Rattle.cacao_cli_looks.specs.Command.{journal_end, report_end}
use Rattle.cacao_cli_looks.specs.Openings.{HoldsRun, IsDamagedRun, IsTooLargeRun, Opens}
use Rattle.cacao_cli_looks.proofs.RunLemmas.{ShownStatus, damaged-run, done-run, large-run, run-damaged, run-done, run-large}
use Rattle.cacao_view_graph.specs.RunPictures.{DrawsEntries}
use Rattle.cacao_view_log.specs.Logs.{Logs}
use Rattle.cacao_view_log.specs.declared.form.Form.{Form}
use Rattle.cacao_view_words.specs.Texts.{Text}
use Rattle.cacao_view.specs.LogStatuses.{LogDiskStatuses}
use Rattle.cacao_view.specs.OpeningRuns.{OpensTo, TellsEntries}
use Rattle.cacao_view.proofs.CauseLemmas.{comes}

-- the statuses of what came of the file
abbrev pub disk_list : List ℕ
disk_list = 0 ∷ 8 ∷ 10 ∷ 11 ∷ 13 ∷ []

abbrev Entries : Type 0
Entries = List (List ℕ)

-- ---- the file was not opened, or its entries are no run

pub not-opened : (Of : Entries → List Text → Type 0) (old new : SiteView) (lines : List Text) (error : JournalError) → lines ≡ [] → Opens 0 old new
    → ((place : ℕ) → error ≡ journal_error.Damaged place → IsTrue old.disk.told → run.IsDamaged (new.disk.reads 0) place)
    → ((place : ℕ) → error ≡ journal_error.Damaged place → IsDurable 0 new.disk)
    → (error ≡ journal_error.Disk → Rose old.disk.faults new.disk.faults)
    → ((error ≡ journal_error.Disk → ⊥) → new.disk.faults ≡ old.disk.faults)
    → (error ≡ journal_error.Broken → ⊥) → ((needed : ℕ) → error ≡ journal_error.Full needed → ⊥)
    → OpensTo Of old new lines (journal_end error)
not-opened Of old new lines journal_error.Disk none opens bad durable failed steady broken full = inr (none, inr (inr (inl (record { opens = opens; cause = failed refl; ends = refl }))))
not-opened Of old new lines (journal_error.Damaged place) none opens bad durable failed steady broken full =
    inr (none, inl (record { opens = opens; durable = durable place refl; steady = steady (λ e. cc); place = place; is_damaged = bad place refl; ends = refl }))
not-opened Of old new lines (journal_error.Full needed) none opens bad durable failed steady broken full = absurd (full needed refl)
not-opened Of old new lines journal_error.Broken none opens bad durable failed steady broken full = absurd (broken refl)
not-opened Of old new lines journal_error.Memory none opens bad durable failed steady broken full = inr (none, inr (inr (inr (record { opens = opens; steady = steady (λ e. cc); ends = refl }))))

pub not-told : (Of : Entries → List Text → Type 0) (old new : SiteView) (lines : List Text) (entries : Entries) (error : ReportError) → lines ≡ [] → Opens 0 old new → IsDurable 0 new.disk → new.disk.faults ≡ old.disk.faults
    → (IsTrue old.disk.told → Stands (new.disk.reads 0) entries)
    → ((place : ℕ) → error ≡ report_error.Damaged place → run.BreaksOff entries place) → (error ≡ report_error.TooManyTasks → run.Overgrows entries)
    → OpensTo Of old new lines (report_end error)
not-told Of old new lines entries (report_error.Damaged place) none opens durable steady stands breaks grows =
    inr (none, inl (record { opens = opens; durable = durable; steady = steady; place = place; is_damaged = λ told. inr (entries, stands told, breaks place refl); ends = refl }))
not-told Of old new lines entries report_error.TooManyTasks none opens durable steady stands breaks grows =
    inr (none, inr (inl (record { opens = opens; durable = durable; steady = steady; is_large = λ told. (entries, stands told, grows refl); ends = refl })))
not-told Of old new lines entries report_error.Memory none opens durable steady stands breaks grows = inr (none, inr (inr (inr (record { opens = opens; steady = steady; ends = refl }))))

-- ---- a log is of a run, and so is a picture

pub logs-reports : (form : Form) (entries texts : Entries) → Logs form entries texts → (text : Text) × Reports entries text
logs-reports form entries texts (inl h) = (no_run, inl (h.0, refl))
logs-reports form entries texts (inr h) = (report h.seen (length h.records), inr (record { records = h.records; seen = h.seen; tells = h.tells; is = refl }))

pub draws-reports : (entries lines : Entries) → DrawsEntries entries lines → (text : Text) × Reports entries text
draws-reports entries lines (inl h) = (no_run, inl (h.0, refl))
draws-reports entries lines (inr h) = (report h.seen (length h.records), inr (record { records = h.records; seen = h.seen; tells = h.tells; is = refl }))

-- ---- what was opened, and what was told

module _ (Of : Entries → List Text → Type 0) (old between : SiteView) (lines : List Text) (end : End) where
  pub opens-of : OpensTo Of old between lines end → Opens 0 old between
  opens-of (inl h) = h.opens
  opens-of (inr (none, inl h)) = h.opens
  opens-of (inr (none, inr (inl h))) = h.opens
  opens-of (inr (none, inr (inr (inl h)))) = h.opens
  opens-of (inr (none, inr (inr (inr h)))) = h.opens

  pub opens-listed : OpensTo Of old between lines end → IsOneOf (status_of end) disk_list
  opens-listed (inl h) = inl (ap status_of h.ends)
  opens-listed (inr (none, inl h)) = inr (inr (inr (inr (inl (ap status_of h.ends)))))
  opens-listed (inr (none, inr (inl h))) = inr (inr (inr (inl (ap status_of h.ends))))
  opens-listed (inr (none, inr (inr (inl h)))) = inr (inl (ap status_of h.ends))
  opens-listed (inr (none, inr (inr (inr h)))) = inr (inr (inl (ap status_of h.ends)))

  -- the disk failed exactly where the end says so
  pub opens-failed : OpensTo Of old between lines end → status_of end ≡ 8 → Rose old.disk.faults between.disk.faults
  opens-failed (inl h) e = absurd (let k : status_of end ≡ 0 = ap status_of h.ends in omega (arith, e, k))
  opens-failed (inr (none, inl h)) e = absurd (let k : status_of end ≡ 13 = ap status_of h.ends in omega (arith, e, k))
  opens-failed (inr (none, inr (inl h))) e = absurd (let k : status_of end ≡ 11 = ap status_of h.ends in omega (arith, e, k))
  opens-failed (inr (none, inr (inr (inl h)))) e = h.cause
  opens-failed (inr (none, inr (inr (inr h)))) e = absurd (let k : status_of end ≡ 10 = ap status_of h.ends in omega (arith, e, k))

  pub opens-steady : OpensTo Of old between lines end → (end ≡ disk_failed → ⊥) → between.disk.faults ≡ old.disk.faults
  opens-steady (inl h) other = h.steady
  opens-steady (inr (none, inl h)) other = h.steady
  opens-steady (inr (none, inr (inl h))) other = h.steady
  opens-steady (inr (none, inr (inr (inl h)))) other = absurd (other h.ends)
  opens-steady (inr (none, inr (inr (inr h)))) other = h.steady

  -- ---- each status with its cause

  module _ (of-report : (entries : Entries) → Of entries lines → (text : Text) × Reports entries text) (new : SiteView) (n : ℕ) (same : new.disk.reads 0 ≡ between.disk.reads 0) (told : IsTrue old.disk.told) where
    abbrev pub Has : Type 0
    Has = ShownStatus new n ⊎ IsOneOf n (8 ∷ 9 ∷ 10 ∷ [])

    holds : (h : TellsEntries Of old between lines end) → HoldsRun new
    holds h = let r = of-report h.entries h.are in (r.0, (h.entries, subst (λ (image : List ℕ). Stands image h.entries) (sym same) (h.holds told), r.1))

    pub opens-has : OpensTo Of old between lines end → (n ≡ status_of end) ⊎ IsCutOff n → Has
    opens-has h (inr c) = inr (inr c)
    opens-has (inl h) (inl e) = inl (inl (holds h, e ∙ ap status_of h.ends))
    opens-has (inr (none, inl h)) (inl e) = inl (inr (inl ((h.place, subst (λ (image : List ℕ). run.IsDamaged image h.place) (sym same) (h.is_damaged told)), e ∙ ap status_of h.ends)))
    opens-has (inr (none, inr (inl h))) (inl e) = inl (inr (inr (subst run.IsTooLarge (sym same) (h.is_large told), e ∙ ap status_of h.ends)))
    opens-has (inr (none, inr (inr (inl h)))) (inl e) = inr (inl (e ∙ ap status_of h.ends))
    opens-has (inr (none, inr (inr (inr h)))) (inl e) = inr (inr (inr (inl (e ∙ ap status_of h.ends))))

pub disk-statuses : (old new : SiteView) (n : ℕ) → (IsTrue old.disk.told → ShownStatus new n ⊎ IsOneOf n (8 ∷ 9 ∷ 10 ∷ [])) → LogDiskStatuses old new n
disk-statuses old new n has = record {
  done = λ told. comes 0 (8 ∷ 9 ∷ 10 ∷ []) (ShownStatus new n) (HoldsRun new) n (λ h e. run-done new n h e) (λ h c. done-run new n h c)
      (not-among 0 (8 ∷ 9 ∷ 10 ∷ []) refl) (has told);
  past_limit = λ told. comes 11 (8 ∷ 9 ∷ 10 ∷ []) (ShownStatus new n) (IsTooLargeRun new) n (λ h e. run-large new n h e) (λ h c. large-run new n h c)
      (not-among 11 (8 ∷ 9 ∷ 10 ∷ []) refl) (has told);
  damaged = λ told. comes 13 (8 ∷ 9 ∷ 10 ∷ []) (ShownStatus new n) (IsDamagedRun new) n (λ h e. run-damaged new n h e) (λ h c. damaged-run new n h c)
      (not-among 13 (8 ∷ 9 ∷ 10 ∷ []) refl) (has told);
}
