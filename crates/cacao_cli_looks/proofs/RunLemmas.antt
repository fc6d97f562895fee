-- The engine's file is opened, and something is said of it.
use Rattle.std.proofs.Common.{◌≡◌, ◌⊎◌, ◌∙◌, inl, inr, refl, sym, ap, subst, arith, ℕ, List, []}
use Rattle.std.specs.Prelude.{IsTrue}
use Rattle.cacao_site.specs.Counts.{Rose, next_count}
use Rattle.cacao_site.specs.DiskCalls.{IsDurable}
use Rattle.cacao_site.specs.View.{SiteView}
use Rattle.run_journal.specs.Layout.{Stands}
use Rattle.run_journal.specs.declared.error.JournalError.{JournalError}
use Rattle.run_journal.specs.declared.error.JournalError.TheVariants as journal_error
use Rattle.flow_engine_reports.specs.RunFiles as run
use Rattle.flow_engine_reports.specs.RunLines.{HoldsReport, lines_of}
use Rattle.flow_engine_reports.specs.declared.error.ReportError.{ReportError}
use Rattle.flow_engine_reports.specs.declared.error.ReportError.TheVariants as report_error
use Rattle.flow_engine_reports.proofs.OneAnswer.{damaged-or-large, report-or-damaged, report-or-large}
use Rattle.cacao_cli_words.specs.Words.{Text}
use Rattle.cacao_cli_looks.specs.Command.{journal_end, report_end}
use Rattle.cacao_cli_ends.specs.Ends.{End, status_of, damaged, disk_failed, done, no_memory, past}
use Rattle.cacao_cli_looks.specs.Looking.{Looks}
use Rattle.cacao_cli_ends.specs.Stays.{WritesNothing}
use Rattle.cacao_cli_ends.specs.Lines.{SaysWork, Tells}
use Rattle.cacao_cli_looks.specs.Openings.{FailsToOpen, FindsNoRun, FindsTooMany, HoldsRun, IsDamagedRun, IsTooLargeRun, Opens, SaysRun, WantsToOpen}
use Rattle.cacao_cli_ends.specs.Work.{opens_run}
use Rattle.cacao_cli_ends.specs.declared.limit.Limit.TheVariants.{TaskCount}
use Rattle.cacao_cli_ends.proofs.LineLemmas.{IsCutOff, says-status}
use Rattle.cacao_cli_looks.proofs.OpenLemmas.{nothing-written, work-some}
use Rattle.cacao_cli_ends.proofs.UnsaidLemmas.{works-said, works-unsaid}

-- ---- the file was not opened, or has no report

pub not-opened : (old new : SiteView) (error : JournalError) → Opens 0 old new
    → ((place : ℕ) → error ≡ journal_error.Damaged place → IsTrue old.disk.told → run.IsDamaged (new.disk.reads 0) place)
    → ((place : ℕ) → error ≡ journal_error.Damaged place → IsDurable 0 new.disk)
    → (error ≡ journal_error.Disk → Rose old.disk.faults new.disk.faults)
    → ((error ≡ journal_error.Disk → ⊥) → new.disk.faults ≡ old.disk.faults)
    → (error ≡ journal_error.Broken → ⊥) → ((needed : ℕ) → error ≡ journal_error.Full needed → ⊥)
    → Looks opens_run old new (journal_end error)
not-opened old new journal_error.Disk opens bad durable failed steady broken full = inr (inr (inr (inl (record { opens = opens; cause = failed refl; ends = refl }))))
not-opened old new (journal_error.Damaged place) opens bad durable failed steady broken full = inr (inl (record { opens = opens; durable = durable place refl; steady = steady (λ e. cc); place = place; is_damaged = bad place refl; ends = refl }))
not-opened old new (journal_error.Full needed) opens bad durable failed steady broken full = absurd (full needed refl)
not-opened old new journal_error.Broken opens bad durable failed steady broken full = absurd (broken refl)
not-opened old new journal_error.Memory opens bad durable failed steady broken full = inr (inr (inr (inr (record { opens = opens; steady = steady (λ e. cc); ends = refl }))))

pub no-report : (old new : SiteView) (entries : List (List ℕ)) (error : ReportError) → Opens 0 old new → IsDurable 0 new.disk → new.disk.faults ≡ old.disk.faults
    → (IsTrue old.disk.told → Stands (new.disk.reads 0) entries)
    → ((place : ℕ) → error ≡ report_error.Damaged place → run.BreaksOff entries place) → (error ≡ report_error.TooManyTasks → run.Overgrows entries)
    → Looks opens_run old new (report_end error)
no-report old new entries (report_error.Damaged place) opens durable steady stands breaks grows =
    inr (inl (record { opens = opens; durable = durable; steady = steady; place = place; is_damaged = λ told. inr (entries, stands told, breaks place refl); ends = refl }))
no-report old new entries report_error.TooManyTasks opens durable steady stands breaks grows =
    inr (inr (inl (record { opens = opens; durable = durable; steady = steady; is_large = λ told. (entries, stands told, grows refl); ends = refl })))
no-report old new entries report_error.Memory opens durable steady stands breaks grows = inr (inr (inr (inr (record { opens = opens; steady = steady; ends = refl }))))

-- ---- what came of the opening, however it went

pub record Went (lines : List Text) (end : End) (Holds : List ℕ → Type 0) (old mid : SiteView) (last : End) : Type 0 where
  pub between : SiteView
  pub opens : Opens 0 old between
  pub holds : IsTrue old.disk.told → Holds (between.disk.reads 0)
  pub says : SaysWork lines end between mid last

abbrev pub IsReport : List ℕ → Type 0
IsReport image = (text : Text) × HoldsReport image text

abbrev pub IsBad : List ℕ → Type 0
IsBad image = (place : ℕ) × run.IsDamaged image place

pub of-said : (old mid : SiteView) (last : End) → (h : SaysRun old mid last) → Went (lines_of h.text) done IsReport old mid last
of-said old mid last h = record {
  between = h.between;
  opens = h.opens;
  holds = λ told. (h.text, (h.entries, h.holds told, h.reports));
  says = h.says;
}

pub of-none : (old mid : SiteView) (last : End) → (h : FindsNoRun old mid last) → Went [] (damaged 0 h.place) IsBad old mid last
of-none old mid last h = record { between = mid; opens = h.opens; holds = λ told. (h.place, h.is_damaged told); says = inl (record { says = refl; ends = h.ends }) }

pub of-many : (old mid : SiteView) (last : End) → FindsTooMany old mid last → Went [] (past TaskCount) run.IsTooLarge old mid last
of-many old mid last h = record { between = mid; opens = h.opens; holds = h.is_large; says = inl (record { says = refl; ends = h.ends }) }

pub of-failed : (old mid : SiteView) (last : End) → FailsToOpen 0 old mid last → Went [] disk_failed (λ image. Unit {0}) old mid last
of-failed old mid last h = record { between = mid; opens = h.opens; holds = λ told. tt; says = inl (record { says = refl; ends = h.ends }) }

pub of-wanted : (old mid : SiteView) (last : End) → WantsToOpen 0 old mid last → Went [] no_memory (λ image. Unit {0}) old mid last
of-wanted old mid last h = record { between = mid; opens = h.opens; holds = λ told. tt; says = inl (record { says = refl; ends = h.ends }) }

module _ (lines : List Text) (end : End) (Holds : List ℕ → Type 0) (old mid new : SiteView) (last : End) (answer : ℕ) where
  pub went-leaves : Went lines end Holds old mid last → Tells last mid new answer → WritesNothing 0 old new
  went-leaves h tells = nothing-written 0 old h.between new h.opens (work-some lines end h.between mid new last answer h.says tells)

  pub went-comes : Went lines end Holds old mid last → Tells last mid new answer → ((IsTrue old.disk.told → Holds (new.disk.reads 0)) × (answer ≡ status_of end)) ⊎ IsCutOff answer
  went-comes h tells = go (says-status lines end h.between mid new last answer h.says tells)
    where
      same : new.disk.reads 0 ≡ h.between.disk.reads 0
      same = ((work-some lines end h.between mid new last answer h.says tells).disk.stays 0).reads

      go : (answer ≡ status_of end) ⊎ IsCutOff answer → ((IsTrue old.disk.told → Holds (new.disk.reads 0)) × (answer ≡ status_of end)) ⊎ IsCutOff answer
      go (inr c) = inr c
      go (inl e) = inl ((λ told. subst Holds (sym same) (h.holds told)), e)

  pub went-steady : Went lines end Holds old mid last → (status_of end ≡ 8 → ⊥) → Tells last mid new answer → answer ≡ 8 → ⊥
  went-steady h other tells e = go (says-status lines end h.between mid new last answer h.says tells)
    where
      go : (answer ≡ status_of end) ⊎ IsCutOff answer → ⊥
      go (inl f) = other (sym f ∙ e)
      go (inr (inl f)) = omega (arith, e, f)
      go (inr (inr (inl f))) = omega (arith, e, f)
      go (inr (inr (inr f))) = f

  pub went-said : Went lines end Holds old mid last → Tells last mid new answer → (answer ≡ 9 → ⊥) → new.counts.unsaid ≡ old.counts.unsaid
  went-said h tells unlike = works-said lines end h.between mid new last answer h.says tells unlike ∙ ap (λ c. c.unsaid) h.opens.only.rest.counts

  pub went-unsaid : Went lines end Holds old mid last → (status_of end ≡ 9 → ⊥) → Tells last mid new answer → answer ≡ 9 → new.counts.unsaid ≡ next_count old.counts.unsaid
  went-unsaid h other tells e = works-unsaid lines end h.between mid new last answer other h.says tells e ∙ ap next_count (ap (λ c. c.unsaid) h.opens.only.rest.counts)

-- ---- the cases

-- what may come of the opening of the engine's file
abbrev pub ComesShown : SiteView → SiteView → ℕ → Type 0
ComesShown old new n =
    ((IsTrue old.disk.told → HoldsRun new) × (n ≡ 0))
    ⊎ (((IsTrue old.disk.told → IsDamagedRun new) × (n ≡ 13)) ⊎ (((IsTrue old.disk.told → IsTooLargeRun new) × (n ≡ 11)) ⊎ (n ≡ 8)))

-- ---- the status settles the cause

abbrev pub ShownStatus : SiteView → ℕ → Type 0
ShownStatus new n = (HoldsRun new × (n ≡ 0)) ⊎ ((IsDamagedRun new × (n ≡ 13)) ⊎ (IsTooLargeRun new × (n ≡ 11)))

pub run-done : (new : SiteView) (n : ℕ) → ShownStatus new n → n ≡ 0 → HoldsRun new
run-done new n (inl h) e = h.0
run-done new n (inr (inl h)) e = absurd (omega (arith, e, h.1))
run-done new n (inr (inr h)) e = absurd (omega (arith, e, h.1))

pub done-run : (new : SiteView) (n : ℕ) → ShownStatus new n → HoldsRun new → n ≡ 0
done-run new n (inl h) holds = h.1
done-run new n (inr (inl h)) holds = absurd (report-or-damaged (new.disk.reads 0) holds.0 h.0.0 holds.1 h.0.1)
done-run new n (inr (inr h)) holds = absurd (report-or-large (new.disk.reads 0) holds.0 holds.1 h.0)

pub run-damaged : (new : SiteView) (n : ℕ) → ShownStatus new n → n ≡ 13 → IsDamagedRun new
run-damaged new n (inl h) e = absurd (omega (arith, e, h.1))
run-damaged new n (inr (inl h)) e = h.0
run-damaged new n (inr (inr h)) e = absurd (omega (arith, e, h.1))

pub damaged-run : (new : SiteView) (n : ℕ) → ShownStatus new n → IsDamagedRun new → n ≡ 13
damaged-run new n (inl h) is = absurd (report-or-damaged (new.disk.reads 0) h.0.0 is.0 h.0.1 is.1)
damaged-run new n (inr (inl h)) is = h.1
damaged-run new n (inr (inr h)) is = absurd (damaged-or-large (new.disk.reads 0) is.0 is.1 h.0)

pub run-large : (new : SiteView) (n : ℕ) → ShownStatus new n → n ≡ 11 → IsTooLargeRun new
run-large new n (inl h) e = absurd (omega (arith, e, h.1))
run-large new n (inr (inl h)) e = absurd (omega (arith, e, h.1))
run-large new n (inr (inr h)) e = h.0

pub large-run : (new : SiteView) (n : ℕ) → ShownStatus new n → IsTooLargeRun new → n ≡ 11
large-run new n (inl h) is = absurd (report-or-large (new.disk.reads 0) h.0.0 h.0.1 is)
large-run new n (inr (inl h)) is = absurd (damaged-or-large (new.disk.reads 0) h.0.0 h.0.1 is)
large-run new n (inr (inr h)) is = h.1

-- and others do not come
pub shown-other : (old new : SiteView) (n m : ℕ) → ComesShown old new n → n ≡ m → (0 ≡ m → ⊥) → (13 ≡ m → ⊥) → (11 ≡ m → ⊥) → (8 ≡ m → ⊥) → ⊥
shown-other old new n m (inl h) e a b c d = a (sym h.1 ∙ e)
shown-other old new n m (inr (inl h)) e a b c d = b (sym h.1 ∙ e)
shown-other old new n m (inr (inr (inl h))) e a b c d = c (sym h.1 ∙ e)
shown-other old new n m (inr (inr (inr h))) e a b c d = d (sym h ∙ e)
