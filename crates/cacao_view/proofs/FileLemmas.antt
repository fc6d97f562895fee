-- What becomes of a call that says the records of a file that is named.
use Rattle.std.proofs.Common.{◌≡◌, ◌⊎◌, ◌∙◌, inl, inr, refl, sym, ap, subst, arith, ℕ, ◌<◌, ◌≤◌, ◌==◌, nat_le, Bool, true, false, List, [], ◌∷◌, length, Option, Some, None, Ok, Err}
use Rattle.std.specs.Prelude.{IfSome, IsSomeAnd, if◌then◌else◌}
use Rattle.cacao_site.specs.Counts.{next_count}
use Rattle.run_journal.specs.Layout.{IsDamagedAt, Stands}
use Rattle.run_journal.specs.declared.error.ImageError.{ImageError}
use Rattle.run_journal.specs.declared.error.ImageError.TheVariants as image_error
use Rattle.flow_engine_reports.specs.RunFiles.{BreaksOff, IsTooLarge, Overgrows}
use Rattle.flow_engine_reports.specs.declared.error.ReportError.{ReportError}
use Rattle.flow_engine_reports.specs.declared.error.ReportError.TheVariants as report_error
use Rattle.flow_engine_reports.proofs.OneAnswer.{damaged-or-large, report-or-damaged, report-or-large}
use Rattle.cacao_cli_ends.specs.Comes.{IsOneOf}
use Rattle.cacao_cli_ends.specs.Ends.{End, status_of}
use Rattle.cacao_cli_ends.specs.Files.{File, Files, Reads, ShelfCall, content_in, faults_behind, item_then, journal_file, reading, text_in, too_long, whole}
use Rattle.cacao_cli_ends.specs.declared.limit.Limit.TheVariants.{JournalBytes}
use Rattle.cacao_cli_ends.proofs.LineLemmas.{IsCutOff}
use Rattle.cacao_cli_ends.proofs.ReadLemmas.{Fails, Read, by_memory, by_shelf, reads-told}
use Rattle.cacao_cli_ends.proofs.StatusLists.{not-among, widen}
use Rattle.cacao_cli_looks.specs.Command.{report_end}
use Rattle.cacao_view_log.specs.Logs.{HoldsLog}
use Rattle.cacao_view_log.specs.declared.form.Form.{Form}
use Rattle.cacao_view_words.specs.Texts.{Text}
use Rattle.cacao_view.specs.LogStatuses.{HasDamage, IsLong, IsOfFile, IsRunFile, LogFileStatuses}
use Rattle.cacao_view.specs.Logging.{LogsFile, LogsImage, LogsRead}
use Rattle.cacao_view.specs.Told.{image_end}
use Rattle.cacao_view.proofs.BookLemmas.{file-end, file_list}
use Rattle.cacao_view.proofs.CauseLemmas.{comes, some-both, some-none}
use Rattle.cacao_view.proofs.OpenedLemmas.{logs-reports}

-- ---- an image

pub image-unread : (form : Form) (image : List ℕ) (lines : List Text) (error : ImageError) → lines ≡ [] → ((place : ℕ) → error ≡ image_error.Damaged place → IsDamagedAt image place) → LogsImage form image lines (image_end error)
image-unread form image lines (image_error.Damaged place) none bad = inr (none, inl (place, inl (bad place refl), refl))
image-unread form image lines image_error.Memory none bad = inr (none, inr (inr refl))

pub image-untold : (form : Form) (image : List ℕ) (lines : List Text) (items : List (List ℕ)) (error : ReportError) → lines ≡ [] → Stands image items
    → ((place : ℕ) → error ≡ report_error.Damaged place → BreaksOff items place) → (error ≡ report_error.TooManyTasks → Overgrows items) → LogsImage form image lines (report_end error)
image-untold form image lines items (report_error.Damaged place) none stands breaks grows = inr (none, inl (place, inr (items, stands, breaks place refl), refl))
image-untold form image lines items report_error.TooManyTasks none stands breaks grows = inr (none, inr (inl ((items, stands, grows refl), refl)))
image-untold form image lines items report_error.Memory none stands breaks grows = inr (none, inr (inr refl))

pub log-run : (form : Form) (image : List ℕ) (lines : List Text) → HoldsLog form image lines → IsRunFile image
log-run form image lines h = let r = logs-reports form h.0 lines h.2 in (r.0, (h.0, h.1, r.1))

-- ---- the status of the end

abbrev pub logged : List ℕ
logged = 0 ∷ 3 ∷ 4 ∷ 10 ∷ 11 ∷ 13 ∷ []

abbrev image_list : List ℕ
image_list = 0 ∷ 10 ∷ 11 ∷ 13 ∷ []

image-listed : (form : Form) (image : List ℕ) (lines : List Text) (end : End) → LogsImage form image lines end → IsOneOf (status_of end) image_list
image-listed form image lines end (inl h) = inl (ap status_of h.1)
image-listed form image lines end (inr (none, inl h)) = inr (inr (inr (inl (ap status_of h.2))))
image-listed form image lines end (inr (none, inr (inl h))) = inr (inr (inl (ap status_of h.1)))
image-listed form image lines end (inr (none, inr (inr e))) = inr (inl (ap status_of e))

module _ (form : Form) (name : Text) (shelf : ShelfCall) (lines : List Text) (end : End) (d : LogsFile form name shelf lines end) where
  abbrev list : List File
  list = journal_file name ∷ []

  read-listed : (r : Read) → ((why : End) → r ≡ Err why → IsOneOf (status_of why) file_list) → LogsRead form r lines end → IsOneOf (status_of end) logged
  read-listed (Err why) file h = subst (λ (k : ℕ). IsOneOf k logged) (sym (ap status_of h.1)) (widen (status_of why) file_list logged refl (file why refl))
  read-listed (Ok []) file h = absurd h
  read-listed (Ok (text ∷ more)) file h = widen (status_of end) image_list logged refl (image-listed form text.bytes lines end h)

  pub file-listed : IsOneOf (status_of end) logged
  file-listed = read-listed d.read (λ why e. file-end shelf.told list d.reads.count d.read why d.reads.reads e) d.logs

  -- ---- the faults of the shelf

  is-three : (n : ℕ) → true ≡ (n == 3) → n ≡ 3
  is-three n e = grind arith

  three-is : (n : ℕ) → n ≡ 3 → (n == 3) ≡ true
  three-is n e = grind arith

  read-three : (r : Read) → LogsRead form r lines end → status_of end ≡ 3 → faults_behind shelf.before r ≡ next_count shelf.before
  read-three (Err why) h e = ap (λ (b : Bool). if b then next_count shelf.before else shelf.before) (three-is (status_of why) (sym (ap status_of h.1) ∙ e))
  read-three (Ok []) h e = absurd h
  read-three (Ok (text ∷ more)) h e = absurd (not-among 3 image_list refl (subst (λ (k : ℕ). IsOneOf k image_list) e (image-listed form text.bytes lines end h)))

  pub file-failed : status_of end ≡ 3 → shelf.after ≡ next_count shelf.before
  file-failed e = d.reads.faults ∙ read-three d.read d.logs e

  read-steady : (r : Read) → LogsRead form r lines end → (status_of end ≡ 3 → ⊥) → faults_behind shelf.before r ≡ shelf.before
  read-steady (Ok texts) h other = refl
  read-steady (Err why) h other = go (status_of why == 3) refl
    where
      go : (t : Bool) → t ≡ (status_of why == 3) → (if status_of why == 3 then next_count shelf.before else shelf.before) ≡ shelf.before
      go true e = absurd (other (ap status_of h.1 ∙ is-three (status_of why) e))
      go false e = ap (λ (b : Bool). if b then next_count shelf.before else shelf.before) (sym e)

  pub file-steady : (status_of end ≡ 3 → ⊥) → shelf.after ≡ shelf.before
  file-steady other = d.reads.faults ∙ read-steady d.read d.logs other

-- ---- each status with its cause, where the shelf tells its files

-- what a file that is named comes to
abbrev FileStatus : Files → Text → ℕ → Type 0
FileStatus files name n =
    (IsOfFile files name IsRunFile × (n ≡ 0))
    ⊎ ((IsOfFile files name HasDamage × (n ≡ 13))
    ⊎ ((IsOfFile files name IsTooLarge × (n ≡ 11)) ⊎ ((IsLong files name × (n ≡ 11)) ⊎ ((files name ≡ None) × (n ≡ 4)))))

of-image : (P : List ℕ → Type 0) (files : Files) (name image : Text) → files name ≡ Some image → length image ≤ 67_108_864 → P image → IsOfFile files name P
of-image P files name image is within h = subst (λ (o : Option (List ℕ)). IsSomeAnd o (λ bytes. (length bytes ≤ 67_108_864) × P bytes)) (sym is) (within, h)

le-true : (n m : ℕ) → nat_le n m ≡ true → n ≤ m
le-true n m e = grind arith

le-false : (n m : ℕ) → nat_le n m ≡ false → m < n
le-false n m e = grind arith

abbrev log_faults : List ℕ
log_faults = 3 ∷ 9 ∷ 10 ∷ []

module _ (form : Form) (name : Text) (lines : List Text) (end : End) (files : Files) (n : ℕ) where
  abbrev Has : Type 0
  Has = FileStatus files name n ⊎ IsOneOf n log_faults

  image-has : (image : Text) → files name ≡ Some image → length image ≤ 67_108_864 → LogsImage form image lines end → n ≡ status_of end → Has
  image-has image is within (inl h) e = inl (inl (of-image IsRunFile files name image is within (log-run form image lines h.0), e ∙ ap status_of h.1))
  image-has image is within (inr (none, inl h)) e = inl (inr (inl (of-image HasDamage files name image is within (h.0, h.1), e ∙ ap status_of h.2)))
  image-has image is within (inr (none, inr (inl h))) e = inl (inr (inr (inl (of-image IsTooLarge files name image is within h.0, e ∙ ap status_of h.1))))
  image-has image is within (inr (none, inr (inr m))) e = inr (inr (inr (inl (e ∙ ap status_of m))))

  -- the read of the only file
  read-has : (r : Read) → r ≡ reading files (journal_file name ∷ []) → LogsRead form r lines end → n ≡ status_of end → Has
  read-has r is h e = go (files name) refl
    where
      at : (o : Option Text) → files name ≡ o → LogsRead form (item_then (text_in (journal_file name) (content_in JournalBytes o)) (Ok [])) lines end
      at o f = subst (λ (x : Option Text). LogsRead form (item_then (text_in (journal_file name) (content_in JournalBytes x)) (Ok [])) lines end) f (subst (λ (x : Read). LogsRead form x lines end) is h)

      by : (image : Text) → files name ≡ Some image → (b : Bool) → nat_le (length image) 67_108_864 ≡ b
          → LogsRead form (item_then (text_in (journal_file name) (if b then whole image else too_long)) (Ok [])) lines end → Has
      by image f true le k = image-has image f (le-true (length image) 67_108_864 le) k e
      by image f false le k =
          inl (inr (inr (inr (inl (subst (λ (o : Option (List ℕ)). IsSomeAnd o (λ bytes. 67_108_864 < length bytes)) (sym f) (le-false (length image) 67_108_864 le), e ∙ ap status_of k.1)))))

      go : (o : Option Text) → files name ≡ o → Has
      go None f = inl (inr (inr (inr (inr (f, e ∙ ap status_of (at None f).1)))))
      go (Some image) f = by image f (nat_le (length image) 67_108_864) refl (at (Some image) f)

  fails-has : (r : Read) → Fails (journal_file name ∷ []) r → LogsRead form r lines end → n ≡ status_of end → Has
  fails-has r (by_shelf who f faults) h e = inr (inl (e ∙ ap status_of (subst (λ (x : Read). LogsRead form x lines end) f h).1))
  fails-has r (by_memory f faults) h e = inr (inr (inr (inl (e ∙ ap status_of (subst (λ (x : Read). LogsRead form x lines end) f h).1))))

file-has : (form : Form) (name : Text) (shelf : ShelfCall) (lines : List Text) (end : End) (files : Files) (n : ℕ) → LogsFile form name shelf lines end → shelf.told ≡ Some files → (n ≡ status_of end) ⊎ IsCutOff n
    → FileStatus files name n ⊎ IsOneOf n log_faults
file-has form name shelf lines end files n d told (inr c) = inr (inr c)
file-has form name shelf lines end files n d told (inl e) =
    go (reads-told files (journal_file name ∷ []) d.reads.count d.read (subst (λ (t : Option Files). Reads t (journal_file name ∷ []) d.reads.count d.read) told d.reads.reads))
  where
    go : (d.read ≡ reading files (journal_file name ∷ [])) ⊎ Fails (journal_file name ∷ []) d.read → FileStatus files name n ⊎ IsOneOf n log_faults
    go (inl is) = read-has form name lines end files n d.read is d.logs e
    go (inr fails) = fails-has form name lines end files n d.read fails d.logs e

-- ---- the causes exclude one another

module _ (files : Files) (name : Text) where
  two : (P Q : List ℕ → Type 0) → ((image : List ℕ) → P image → Q image → ⊥) → IsOfFile files name P → IsOfFile files name Q → ⊥
  two P Q h p q = some-both (files name) (λ image. (length image ≤ 67_108_864) × P image) (λ image. (length image ≤ 67_108_864) × Q image) (λ image a b. h image a.1 b.1) p q

  not-long : (P : List ℕ → Type 0) → IsOfFile files name P → IsLong files name → ⊥
  not-long P p l = some-both (files name) (λ image. (length image ≤ 67_108_864) × P image) (λ image. 67_108_864 < length image) (λ image a b. omega (arith, a.0, b)) p l

  not-missing : (P : List ℕ → Type 0) → files name ≡ None → IsOfFile files name P → ⊥
  not-missing P e p = some-none (files name) (λ image. (length image ≤ 67_108_864) × P image) e p

  long-there : files name ≡ None → IsLong files name → ⊥
  long-there e l = some-none (files name) (λ image. 67_108_864 < length image) e l

  sound-damaged : (image : List ℕ) → IsRunFile image → HasDamage image → ⊥
  sound-damaged image r d = report-or-damaged image r.0 d.0 r.1 d.1

  sound-large : (image : List ℕ) → IsRunFile image → IsTooLarge image → ⊥
  sound-large image r l = report-or-large image r.0 r.1 l

  bad-large : (image : List ℕ) → HasDamage image → IsTooLarge image → ⊥
  bad-large image d l = damaged-or-large image d.0 d.1 l

  module _ (n : ℕ) where
    done-only : FileStatus files name n → n ≡ 0 → IsOfFile files name IsRunFile
    done-only (inl h) e = h.0
    done-only (inr (inl h)) e = absurd (omega (arith, e, h.1))
    done-only (inr (inr (inl h))) e = absurd (omega (arith, e, h.1))
    done-only (inr (inr (inr (inl h)))) e = absurd (omega (arith, e, h.1))
    done-only (inr (inr (inr (inr h)))) e = absurd (omega (arith, e, h.1))

    done-always : FileStatus files name n → IsOfFile files name IsRunFile → n ≡ 0
    done-always (inl h) c = h.1
    done-always (inr (inl h)) c = absurd (two IsRunFile HasDamage sound-damaged c h.0)
    done-always (inr (inr (inl h))) c = absurd (two IsRunFile IsTooLarge sound-large c h.0)
    done-always (inr (inr (inr (inl h)))) c = absurd (not-long IsRunFile c h.0)
    done-always (inr (inr (inr (inr h)))) c = absurd (not-missing IsRunFile h.0 c)

    bad-only : FileStatus files name n → n ≡ 13 → IsOfFile files name HasDamage
    bad-only (inl h) e = absurd (omega (arith, e, h.1))
    bad-only (inr (inl h)) e = h.0
    bad-only (inr (inr (inl h))) e = absurd (omega (arith, e, h.1))
    bad-only (inr (inr (inr (inl h)))) e = absurd (omega (arith, e, h.1))
    bad-only (inr (inr (inr (inr h)))) e = absurd (omega (arith, e, h.1))

    bad-always : FileStatus files name n → IsOfFile files name HasDamage → n ≡ 13
    bad-always (inl h) c = absurd (two IsRunFile HasDamage sound-damaged h.0 c)
    bad-always (inr (inl h)) c = h.1
    bad-always (inr (inr (inl h))) c = absurd (two HasDamage IsTooLarge bad-large c h.0)
    bad-always (inr (inr (inr (inl h)))) c = absurd (not-long HasDamage c h.0)
    bad-always (inr (inr (inr (inr h)))) c = absurd (not-missing HasDamage h.0 c)

    large-only : FileStatus files name n → n ≡ 11 → IsLong files name ⊎ IsOfFile files name IsTooLarge
    large-only (inl h) e = absurd (omega (arith, e, h.1))
    large-only (inr (inl h)) e = absurd (omega (arith, e, h.1))
    large-only (inr (inr (inl h))) e = inr h.0
    large-only (inr (inr (inr (inl h)))) e = inl h.0
    large-only (inr (inr (inr (inr h)))) e = absurd (omega (arith, e, h.1))

    large-always : FileStatus files name n → IsLong files name ⊎ IsOfFile files name IsTooLarge → n ≡ 11
    large-always (inl h) (inl l) = absurd (not-long IsRunFile h.0 l)
    large-always (inl h) (inr c) = absurd (two IsRunFile IsTooLarge sound-large h.0 c)
    large-always (inr (inl h)) (inl l) = absurd (not-long HasDamage h.0 l)
    large-always (inr (inl h)) (inr c) = absurd (two HasDamage IsTooLarge bad-large h.0 c)
    large-always (inr (inr (inl h))) c = h.1
    large-always (inr (inr (inr (inl h)))) c = h.1
    large-always (inr (inr (inr (inr h)))) (inl l) = absurd (long-there h.0 l)
    large-always (inr (inr (inr (inr h)))) (inr c) = absurd (not-missing IsTooLarge h.0 c)

    missing-only : FileStatus files name n → n ≡ 4 → files name ≡ None
    missing-only (inl h) e = absurd (omega (arith, e, h.1))
    missing-only (inr (inl h)) e = absurd (omega (arith, e, h.1))
    missing-only (inr (inr (inl h))) e = absurd (omega (arith, e, h.1))
    missing-only (inr (inr (inr (inl h)))) e = absurd (omega (arith, e, h.1))
    missing-only (inr (inr (inr (inr h)))) e = h.0

    missing-always : FileStatus files name n → files name ≡ None → n ≡ 4
    missing-always (inl h) c = absurd (not-missing IsRunFile c h.0)
    missing-always (inr (inl h)) c = absurd (not-missing HasDamage c h.0)
    missing-always (inr (inr (inl h))) c = absurd (not-missing IsTooLarge c h.0)
    missing-always (inr (inr (inr (inl h)))) c = absurd (long-there c h.0)
    missing-always (inr (inr (inr (inr h)))) c = h.1

if-files : (told : Option Files) (P : Files → Type 0) → ((files : Files) → told ≡ Some files → P files) → IfSome told P
if-files None P h = tt
if-files (Some files) P h = h files refl

pub file-statuses : (form : Form) (name : Text) (shelf : ShelfCall) (lines : List Text) (end : End) (n : ℕ) → LogsFile form name shelf lines end → (n ≡ status_of end) ⊎ IsCutOff n → LogFileStatuses name shelf.told n
file-statuses form name shelf lines end n d is = record {
  done = if-files shelf.told _ (λ files told. comes 0 log_faults (FileStatus files name n) (IsOfFile files name IsRunFile) n (done-only files name n) (done-always files name n)
      (not-among 0 log_faults refl) (file-has form name shelf lines end files n d told is));
  missing = if-files shelf.told _ (λ files told. comes 4 log_faults (FileStatus files name n) (files name ≡ None) n (missing-only files name n) (missing-always files name n)
      (not-among 4 log_faults refl) (file-has form name shelf lines end files n d told is));
  past_limit = if-files shelf.told _ (λ files told. comes 11 log_faults (FileStatus files name n) (IsLong files name ⊎ IsOfFile files name IsTooLarge) n (large-only files name n) (large-always files name n)
      (not-among 11 log_faults refl) (file-has form name shelf lines end files n d told is));
  damaged = if-files shelf.told _ (λ files told. comes 13 log_faults (FileStatus files name n) (IsOfFile files name HasDamage) n (bad-only files name n) (bad-always files name n)
      (not-among 13 log_faults refl) (file-has form name shelf lines end files n d told is));
}
