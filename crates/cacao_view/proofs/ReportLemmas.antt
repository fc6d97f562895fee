-- What becomes of a call that says lines and an end.
use Rattle.std.proofs.Common.{◌≡◌, ◌⊎◌, ◌∙◌, inl, inr, refl, sym, ap, subst, arith, ℕ, true, List}
use Rattle.std.proofs.lemmas.Bool.{true≢false}
use Rattle.cacao_site.specs.Counts.{next_count}
use Rattle.cacao_site.specs.View.{SiteView}
use Rattle.cacao_site.proofs.Beats.{each-keeps, since-start}
use Rattle.cacao_cli_ends.specs.Ends.{End, disk_failed, is_fault, shelf_failed, status_of, text_of, unsaid}
use Rattle.cacao_cli_ends.specs.Lines.{SaysWork, Tells}
use Rattle.cacao_cli_ends.specs.Stays.{WritesNothing}
use Rattle.cacao_cli_ends.proofs.EndLemmas.{no-more}
use Rattle.cacao_cli_ends.proofs.LineLemmas.{IsCutOff, says-status}
use Rattle.cacao_cli_ends.proofs.SayingLemmas.{SaysSome}
use Rattle.cacao_cli_ends.proofs.UnsaidLemmas.{last-disk, works-disk, works-said, works-unsaid}
use Rattle.cacao_cli_looks.specs.Openings.{Opens}
use Rattle.cacao_cli_looks.proofs.OpenLemmas.{nothing-written, work-some}
use Rattle.cacao_view_words.specs.Texts.{Text}
use Rattle.cacao_view.specs.Ends as as_said
use Rattle.cacao_view.specs.Lines as as_told
use Rattle.cacao_view.specs.Looks.{OnlyLooks}
use Rattle.cacao_view.specs.Reports.{Reports}

-- ---- the end that was last_told

module _ (Told : List Text → End → Type 0) (old mid new : SiteView) (last : as_said.End) (answer : ℕ) (h : Reports Told old mid last) (tells : as_told.Tells last mid new answer) where
  last_told : Tells h.left mid new answer
  last_told = subst (λ (e : as_said.End). as_told.Tells e mid new answer) h.ends tells

  pub report-some : SaysSome 1 old new
  report-some = work-some h.lines h.end old mid new h.left answer h.says last_told

  pub report-status : (answer ≡ status_of h.end) ⊎ IsCutOff answer
  report-status = says-status h.lines h.end old mid new h.left answer h.says last_told

  pub report-said : (answer ≡ 9 → ⊥) → new.counts.unsaid ≡ old.counts.unsaid
  report-said unlike = works-said h.lines h.end old mid new h.left answer h.says last_told unlike

  pub report-unsaid : (status_of h.end ≡ 9 → ⊥) → answer ≡ 9 → new.counts.unsaid ≡ next_count old.counts.unsaid
  report-unsaid other e = works-unsaid h.lines h.end old mid new h.left answer other h.says last_told e

  pub report-disk : new.disk.faults ≡ old.disk.faults
  report-disk = last-disk h.left (text_of h.left) mid new answer last_told ∙ works-disk h.lines h.end old mid h.left h.says

  -- a failure is last_told, unless its line could not be said
  failure : (fault : End) → is_fault fault ≡ true → h.end ≡ fault → (Tells fault mid new answer → (answer ≡ status_of fault) ⊎ (answer ≡ 9)) → (answer ≡ status_of fault) ⊎ (answer ≡ 9)
  failure fault is e by = go h.says
    where
      go : SaysWork h.lines h.end old mid h.left → (answer ≡ status_of fault) ⊎ (answer ≡ 9)
      go (inl s) = by (subst (λ (x : End). Tells x mid new answer) (s.ends ∙ e) last_told)
      go (inr (inl s)) = inr (no-more h.left unsaid mid new answer s.ends refl last_told).1
      go (inr (inr s)) = absurd (true≢false (sym is ∙ sym (ap is_fault e) ∙ s.no_fault))

  pub shelf-failure : (name : Text) → h.end ≡ shelf_failed name → (answer ≡ 3) ⊎ (answer ≡ 9)
  shelf-failure name e = failure (shelf_failed name) refl e by
    where
      by : Tells (shelf_failed name) mid new answer → (answer ≡ 3) ⊎ (answer ≡ 9)
      by (inl (inl t)) = inl t.answers
      by (inl (inr t)) = inr t.answers
      by (inr t) = absurd (true≢false t.no_fault)

  pub disk-failure : h.end ≡ disk_failed → (answer ≡ 8) ⊎ (answer ≡ 9)
  disk-failure e = failure disk_failed refl e by
    where
      by : Tells disk_failed mid new answer → (answer ≡ 8) ⊎ (answer ≡ 9)
      by (inl (inl t)) = inl t.answers
      by (inl (inr t)) = inr t.answers
      by (inr t) = absurd (true≢false t.no_fault)

-- ---- nothing was written

pub some-looks : (old new : SiteView) → SaysSome 1 old new → OnlyLooks old new
some-looks old new h = record {
  images = λ file. each-keeps (since-start old.disk file) h.disk;
  written = omega (arith, h.disk.written);
  puts = h.link.puts;
  taken = h.link.taken;
  empty_takes = h.link.empty_takes;
  pending = h.link.pending;
  time = h.time;
  mishaps = h.mishaps;
}

writes-looks : (old new : SiteView) → WritesNothing 0 old new → OnlyLooks old new
writes-looks old new h = record {
  images = h.reads_only;
  written = h.written;
  puts = h.link.puts;
  taken = h.link.taken;
  empty_takes = h.link.empty_takes;
  pending = h.link.pending;
  time = h.time;
  mishaps = h.mishaps;
}

pub opened-looks : (old between new : SiteView) → Opens 0 old between → SaysSome 1 between new → OnlyLooks old new
opened-looks old between new opens says = writes-looks old new (nothing-written 0 old between new opens says)
