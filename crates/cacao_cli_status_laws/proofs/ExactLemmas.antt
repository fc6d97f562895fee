-- The status is that of the work that the files call for, but for faults.
use Rattle.std.proofs.Common.{◌≡◌, ◌⊎◌, inl, inr, ◌∙◌, refl, sym, ap, subst, ℕ, Bool, true, false, List, [], ◌∷◌, Option, Some, None, Result, Ok, Err}
use Rattle.std.specs.Prelude.{IsTrue, if◌then◌else◌, map}
use Rattle.serde_json.specs.Data.{Data}
use Rattle.cacao_check.specs.FirstBreak.{IsAccepted}
use Rattle.cacao_check.specs.declared.breaks.Mode.TheVariants.{Read as Reading}
use Rattle.cacao_site.specs.View.{SiteView}
use Rattle.cacao_cli_words.specs.Requests.{RunRequest}
use Rattle.cacao_cli_words.specs.Words.{Text}
use Rattle.cacao_cli_ends.specs.Asked.{Asked, canonises, checks, shows, lists_rules, decides, shadows, rehearses, audits, runs}
use Rattle.cacao_cli_ends.specs.Ends.{End, status_of, accepted, done, past, shelf_failed, no_memory}
use Rattle.cacao_cli_ends.specs.Files.{File, Files, NamedText, ShelfCall, Reads, files_of, named_by, has_too_many, reading}
use Rattle.cacao_cli_ends.specs.Lines.{Tells}
use Rattle.cacao_cli_ends.specs.Work.{Work, ends, judges, opens_filter, opens_run, compares, rehearsals, or_end, canon_line, trees_of, work, work_on, starts, start_of, trees_wanted}
use Rattle.cacao_cli_status_laws.specs.Ended.{Performs, Performed, Ended}
use Rattle.cacao_cli_status_laws.specs.Exact.{IsBroken, HasStatus, HasRehearsed, AnswersExactly}
use Rattle.cacao_cli_ends.specs.Comes.{IsOneOf, IfFilesTold, IfTold, file_faults, faults_of}
use Rattle.cacao_cli_looks.specs.Audited.{HasVerdict}
use Rattle.cacao_cli_ends.specs.declared.limit.Limit.TheVariants.{BookCount}
use Rattle.cacao_cli_looks.proofs.AuditLemmas.{compares-comes}
use Rattle.cacao_cli_status_laws.proofs.RehearseLemmas.{rehearses-comes}
use Rattle.cacao_cli_ends.proofs.LineLemmas.{IsCutOff, cut-among, says-status, tells-status}
use Rattle.cacao_cli_looks.proofs.OpenLemmas.{ComesOpened}
use Rattle.cacao_cli_status_laws.proofs.OpenLemmas.{opens-comes}
use Rattle.cacao_cli_looks.proofs.RunLemmas.{ComesShown}
use Rattle.cacao_cli_status_laws.proofs.RunLemmas.{run-comes}
use Rattle.cacao_cli_status_laws.proofs.StartLemmas.{start-comes}
use Rattle.cacao_cli_ends.proofs.ReadLemmas.{Read, Fails, by_shelf, by_memory, empty-read, reads-told}

-- what may come of the work, whatever the disk tells
abbrev pub Comes : Work → SiteView → SiteView → ℕ → Type 0
Comes (ends lines end) old new n = n ≡ status_of end
Comes (judges trees mode kept) old new n = (IsAccepted trees mode × Comes kept old new n) ⊎ (IsBroken trees mode × (n ≡ 1))
Comes (opens_filter agent look) old new n = ComesOpened agent old new n
Comes opens_run old new n = ComesShown old new n
Comes (compares files) old new n = HasVerdict files n
Comes (rehearsals positions) old new n = HasRehearsed positions n
Comes (starts start) old new n = HasStatus (starts start) old new n

-- the work was done, so the status is that of the work, or a line could not be said or memory was wanted
pub performs-comes : (w : Work) (old mid new : SiteView) (last : End) (answer : ℕ) → Performs w old mid last → Tells last mid new answer → Comes w old new answer ⊎ IsCutOff answer
performs-comes (ends lines end) old mid new last answer p tells = says-status lines end old mid new last answer p tells
performs-comes (opens_filter agent look) old mid new last answer p tells = opens-comes agent look old mid new last answer p tells
performs-comes opens_run old mid new last answer p tells = run-comes old mid new last answer p tells
performs-comes (compares files) old mid new last answer p tells = compares-comes files old mid new last answer p tells
performs-comes (rehearsals positions) old mid new last answer p tells = rehearses-comes positions old mid new last answer p tells
performs-comes (starts start) old mid new last answer p tells = start-comes start old mid new last answer p tells
performs-comes (judges trees mode kept) old mid new last answer (inl (is_kept, p)) tells = go (performs-comes kept old mid new last answer p tells)
  where
    go : Comes kept old new answer ⊎ IsCutOff answer → Comes (judges trees mode kept) old new answer ⊎ IsCutOff answer
    go (inl h) = inl (inl (is_kept, h))
    go (inr c) = inr c
performs-comes (judges trees mode kept) old mid new last answer (inr (inl p)) tells = go (tells-status last mid new answer tells)
  where
    go : (answer ≡ status_of last) ⊎ IsCutOff answer → Comes (judges trees mode kept) old new answer ⊎ IsCutOff answer
    go (inl e) = inl (inr ((p.first.demand, p.first.least.is_broken), e ∙ ap status_of p.ends))
    go (inr c) = inr c
performs-comes (judges trees mode kept) old mid new last answer (inr (inr p)) tells = inr (go (tells-status last mid new answer tells))
  where
    go : (answer ≡ status_of last) ⊎ IsCutOff answer → IsCutOff answer
    go (inl e) = inr (inl (e ∙ ap status_of p.ends))
    go (inr c) = c

-- the shelf tells these files, or none is read
pub data IsSeen (told : Option Files) (list : List File) (files : Files) : Type 0 where
  by_told : told ≡ Some files → IsSeen told list files
  by_none : list ≡ [] → IsSeen told list files

pub seen-read : (told : Option Files) (list : List File) (files : Files) (count : ℕ) (read : Read) → IsSeen told list files → Reads told list count read → (read ≡ reading files list) ⊎ Fails list read
seen-read told list files count read (by_told is) reads = reads-told files list count read (subst (λ (t : Option Files). Reads t list count read) is reads)
seen-read told list files count read (by_none is) reads = inl ((empty-read told count read (subst (λ (l : List File). Reads told l count read) is reads)).1 ∙ ap (reading files) (sym is))

three-or-cut : (answer : ℕ) (list : List File) → file_faults list ≡ 3 ∷ 9 ∷ 10 ∷ [] → (answer ≡ 3) ⊎ IsCutOff answer → IsOneOf answer (file_faults list)
three-or-cut answer list is (inl e) = subst (IsOneOf answer) (sym is) (inl e)
three-or-cut answer list is (inr h) = cut-among answer list h

memory-or-cut : (answer : ℕ) (list : List File) → (answer ≡ 10) ⊎ IsCutOff answer → IsOneOf answer (file_faults list)
memory-or-cut answer list (inl e) = cut-among answer list (inr (inl e))
memory-or-cut answer list (inr h) = cut-among answer list h

-- a call whose reading failed
pub failed-status : (asked : Asked) (read : Read) (b : Bool) (old mid new : SiteView) (last : End) (answer : ℕ) → Fails (if b then [] else named_by asked) read
    → Performs (if b then ends [] (past BookCount) else or_end read (work_on asked)) old mid last → Tells last mid new answer → IsOneOf answer (file_faults (if b then [] else named_by asked))
failed-status asked read true old mid new last answer (by_shelf name is none) performs tells = absurd (cc)
failed-status asked read true old mid new last answer (by_memory is none) performs tells = absurd (cc)
failed-status asked read false old mid new last answer (by_shelf name is faults) performs tells = three-or-cut answer (named_by asked) faults
    (says-status [] (shelf_failed name) old mid new last answer (subst (λ (r : Read). Performs (or_end r (work_on asked)) old mid last) is performs) tells)
failed-status asked read false old mid new last answer (by_memory is faults) performs tells = memory-or-cut answer (named_by asked)
    (says-status [] no_memory old mid new last answer (subst (λ (r : Read). Performs (or_end r (work_on asked)) old mid last) is performs) tells)

-- the status of the work that these files call for, or a fault
abbrev pub Came : Option Asked → Files → SiteView → SiteView → ℕ → Type 0
Came asked files old new answer = Comes (work asked (reading files (files_of asked))) old new answer ⊎ IsOneOf answer (file_faults (files_of asked))

-- the status of a call that was performed
pub status-seen : (asked : Option Asked) (files : Files) (shelf : ShelfCall) (old new : SiteView) (answer : ℕ) → IsSeen shelf.told (files_of asked) files → Ended asked shelf old new answer → Came asked files old new answer
status-seen asked files shelf old new answer seen ended = by asked ended.performed seen
  where
    by : (a : Option Asked) → Performed a shelf old ended.between ended.last → IsSeen shelf.told (files_of a) files → Came a files old new answer
    by a p seen = go a p (seen-read shelf.told (files_of a) files p.reads.count p.read seen p.reads.reads)
      where
        go : (a : Option Asked) (p : Performed a shelf old ended.between ended.last) → (p.read ≡ reading files (files_of a)) ⊎ Fails (files_of a) p.read → Came a files old new answer
        go a p (inl is) = subst (λ (r : Read). Comes (work a r) old new answer ⊎ IsOneOf answer (file_faults (files_of a))) is
            (at (performs-comes (work a p.read) old ended.between new ended.last answer p.performs ended.tells))
          where
            at : Comes (work a p.read) old new answer ⊎ IsCutOff answer → Comes (work a p.read) old new answer ⊎ IsOneOf answer (file_faults (files_of a))
            at (inl h) = inl h
            at (inr c) = inr (cut-among answer (files_of a) c)
        go None p (inr fails) = absurd (no_fails fails)
          where
            no_fails : Fails [] p.read → ⊥
            no_fails (by_shelf name is none) = cc
            no_fails (by_memory is none) = cc
        go (Some asked) p (inr fails) = inr (failed-status asked p.read (has_too_many asked) old ended.between new ended.last answer fails p.performs ended.tells)

-- what holds of all files that are seen
pub if-told : (list : List File) (told : Option Files) (P : Files → Type 0) → ((files : Files) → IsSeen told list files → P files) → IfFilesTold list told P
if-told [] told P h = λ files. h files (by_none refl)
if-told (file ∷ more) None P h = tt
if-told (file ∷ more) (Some files) P h = h files (by_told refl)

-- the disk is told, where the command opens a file of it
abbrev pub IsDiskTold : Option Asked → SiteView → Type 0
IsDiskTold None old = Unit {0}
IsDiskTold (Some (canonises book)) old = Unit {0}
IsDiskTold (Some (checks books)) old = Unit {0}
IsDiskTold (Some (runs wanted)) old = Unit {0}
IsDiskTold (Some shows) old = IsTrue old.disk.told
IsDiskTold (Some (lists_rules agent)) old = IsTrue old.disk.told
IsDiskTold (Some (decides agent packets)) old = IsTrue old.disk.told
IsDiskTold (Some (shadows agent)) old = IsTrue old.disk.told
IsDiskTold (Some (rehearses positions)) old = Unit {0}
IsDiskTold (Some (audits engine filters)) old = Unit {0}

-- the work opens no file of the disk
abbrev pub IsPlain : Work → Type 0
IsPlain (ends lines end) = Unit {0}
IsPlain (judges trees mode kept) = IsPlain kept
IsPlain (opens_filter agent look) = ⊥
IsPlain opens_run = ⊥
IsPlain (compares files) = Unit {0}
IsPlain (rehearsals positions) = Unit {0}
IsPlain (starts start) = ⊥

trees-plain : (r : Result (List Data) End) (does : List Data → Work) → ((roots : List Data) → IsPlain (does roots)) → IsPlain (or_end r does)
trees-plain (Err end) does so = tt
trees-plain (Ok roots) does so = so roots

reads-plain : (r : Read) (does : List Data → Work) → ((roots : List Data) → IsPlain (does roots)) → IsPlain (or_end r (λ texts. or_end (trees_of texts) does))
reads-plain (Err end) does so = tt
reads-plain (Ok texts) does so = trees-plain (trees_of texts) does so

canon-plain : (book : Text) (files : Files) → IsPlain (work (Some (canonises book)) (reading files (files_of (Some (canonises book)))))
canon-plain book files = reads-plain (reading files (files_of (Some (canonises book)))) (λ roots. ends (map canon_line roots) done) (λ roots. tt)

check-plain : (books : List Text) (files : Files) → IsPlain (work (Some (checks books)) (reading files (files_of (Some (checks books)))))
check-plain books files = go (has_too_many (checks books)) (reading files (files_of (Some (checks books))))
  where
    go : (b : Bool) (r : Read) → IsPlain (if b then ends [] (past BookCount) else or_end r (work_on (checks books)))
    go true r = tt
    go false r = reads-plain r (λ roots. judges roots Reading (ends [] accepted)) (λ roots. tt)

audit-plain : (engine : Text) (filters : List (ℕ × Text)) (files : Files) → IsPlain (work (Some (audits engine filters)) (reading files (files_of (Some (audits engine filters)))))
audit-plain engine filters files = go (reading files (files_of (Some (audits engine filters))))
  where
    go : (r : Read) → IsPlain (or_end r (work_on (audits engine filters)))
    go (Err end) = tt
    go (Ok texts) = tt

rehearse-plain : (positions : ℕ) (files : Files) → IsPlain (work (Some (rehearses positions)) (reading files (files_of (Some (rehearses positions)))))
rehearse-plain positions files = tt

pub if-asked : (asked : Option Asked) (told : Option Files) (old : SiteView) (P : Files → Type 0) → (IsDiskTold asked old → (files : Files) → IsSeen told (files_of asked) files → P files) → IfTold asked told old P
if-asked None told old P h = if-told [] told P (h tt)
if-asked (Some (canonises book)) told old P h = if-told (files_of (Some (canonises book))) told P (h tt)
if-asked (Some (checks books)) told old P h = if-told (files_of (Some (checks books))) told P (h tt)
if-asked (Some (runs wanted)) told old P h = if-told (files_of (Some (runs wanted))) told P (h tt)
if-asked (Some shows) told old P h = λ disk files. h disk files (by_none refl)
if-asked (Some (lists_rules agent)) told old P h = λ disk files. h disk files (by_none refl)
if-asked (Some (shadows agent)) told old P h = λ disk files. h disk files (by_none refl)
if-asked (Some (rehearses positions)) told old P h = if-told [] told P (h tt)
if-asked (Some (audits engine filters)) told old P h = if-told (files_of (Some (audits engine filters))) told P (h tt)
if-asked (Some (decides agent packets)) told old P h = λ disk. if-told (files_of (Some (decides agent packets))) told P (h disk)

-- 8 is among the faults of a command that opens a file of the disk
pub faults-with : (asked : Option Asked) (answer : ℕ) → IsOneOf answer (file_faults (files_of asked)) → IsOneOf answer (faults_of asked)
faults-with None answer h = h
faults-with (Some (canonises book)) answer h = h
faults-with (Some (checks books)) answer h = h
faults-with (Some (runs wanted)) answer h = h
faults-with (Some shows) answer h = inr h
faults-with (Some (lists_rules agent)) answer h = inr h
faults-with (Some (shadows agent)) answer h = inr h
faults-with (Some (rehearses positions)) answer h = h
faults-with (Some (audits engine filters)) answer h = h
faults-with (Some (decides agent packets)) answer (inl e) = inl e
faults-with (Some (decides agent packets)) answer (inr h) = inr (inr h)

-- what comes of work by which no file of the disk is opened is its status
pub plain-status : (w : Work) (old new : SiteView) (n : ℕ) → IsPlain w → Comes w old new n → HasStatus w old new n
plain-status (ends lines end) old new n plain h = h
plain-status (judges trees mode kept) old new n plain (inl h) = inl (h.0, plain-status kept old new n plain h.1)
plain-status (judges trees mode kept) old new n plain (inr h) = inr h
plain-status (opens_filter agent look) old new n plain h = absurd plain
plain-status opens_run old new n plain h = absurd plain
plain-status (compares files) old new n plain h = h
plain-status (rehearsals positions) old new n plain h = h
plain-status (starts start) old new n plain h = absurd plain

-- so it is of `run`, whose session settles its status
pub run-settled : (wanted : RunRequest) (r : Read) (old new : SiteView) (n : ℕ) → Comes (work (Some (runs wanted)) r) old new n → HasStatus (work (Some (runs wanted)) r) old new n
run-settled wanted r old new n = go (has_too_many (runs wanted)) r
  where
    by : (t : Result (List Data) End) (texts : List NamedText) → Comes (or_end t (λ roots. starts (start_of wanted texts))) old new n → HasStatus (or_end t (λ roots. starts (start_of wanted texts))) old new n
    by (Err end) texts h = h
    by (Ok roots) texts h = h

    go : (b : Bool) (r : Read) → Comes (if b then ends [] (past BookCount) else or_end r (work_on (runs wanted))) old new n → HasStatus (if b then ends [] (past BookCount) else or_end r (work_on (runs wanted))) old new n
    go true r h = h
    go false (Err end) h = h
    go false (Ok texts) h = by (trees_of (trees_wanted wanted texts)) texts h

-- over a disk that is told, what comes is the status, or 8
pub told-status : (w : Work) (old new : SiteView) (n : ℕ) → IsTrue old.disk.told → Comes w old new n → HasStatus w old new n ⊎ (n ≡ 8)
told-status (ends lines end) old new n told h = inl h
told-status (judges trees mode kept) old new n told (inl h) = go (told-status kept old new n told h.1)
  where
    go : HasStatus kept old new n ⊎ (n ≡ 8) → HasStatus (judges trees mode kept) old new n ⊎ (n ≡ 8)
    go (inl s) = inl (inl (h.0, s))
    go (inr e) = inr e
told-status (judges trees mode kept) old new n told (inr h) = inl (inr h)
told-status (opens_filter agent look) old new n told (inl (inl h)) = inl (inl (h.0 told, h.1))
told-status (opens_filter agent look) old new n told (inl (inr h)) = inl (inr (h.0 told, h.1))
told-status (opens_filter agent look) old new n told (inr e) = inr e
told-status (starts start) old new n told h = inl h
told-status opens_run old new n told (inl h) = inl (inl (h.0 told, h.1))
told-status opens_run old new n told (inr (inl h)) = inl (inr (inl (h.0 told, h.1)))
told-status opens_run old new n told (inr (inr (inl h))) = inl (inr (inr (h.0 told, h.1)))
told-status opens_run old new n told (inr (inr (inr e))) = inr e
told-status (compares files) old new n told h = inl h
told-status (rehearsals positions) old new n told h = inl h

-- the status of a call over files and a disk that are told
abbrev pub Answered : Option Asked → Files → SiteView → SiteView → ℕ → Type 0
Answered asked files old new answer = HasStatus (work asked (reading files (files_of asked))) old new answer ⊎ IsOneOf answer (faults_of asked)

pub status-told : (asked : Option Asked) (files : Files) (shelf : ShelfCall) (old new : SiteView) (answer : ℕ) → IsDiskTold asked old → IsSeen shelf.told (files_of asked) files → Ended asked shelf old new answer → Answered asked files old new answer
status-told asked files shelf old new answer disk seen ended = go asked disk (status-seen asked files shelf old new answer seen ended)
  where
    plain : (a : Option Asked) → IsPlain (work a (reading files (files_of a))) → Came a files old new answer → Answered a files old new answer
    plain a is (inl h) = inl (plain-status (work a (reading files (files_of a))) old new answer is h)
    plain a is (inr f) = inr (faults-with a answer f)

    opened : (a : Option Asked) → IsTrue old.disk.told → (answer ≡ 8 → IsOneOf answer (faults_of a)) → Came a files old new answer → Answered a files old new answer
    opened a told eight (inl h) = by (told-status (work a (reading files (files_of a))) old new answer told h)
      where
        by : HasStatus (work a (reading files (files_of a))) old new answer ⊎ (answer ≡ 8) → Answered a files old new answer
        by (inl s) = inl s
        by (inr e) = inr (eight e)
    opened a told eight (inr f) = inr (faults-with a answer f)

    go : (a : Option Asked) → IsDiskTold a old → Came a files old new answer → Answered a files old new answer
    go None told h = plain None tt h
    go (Some (canonises book)) told h = plain (Some (canonises book)) (canon-plain book files) h
    go (Some (checks books)) told h = plain (Some (checks books)) (check-plain books files) h
    go (Some (runs wanted)) told (inl h) = inl (run-settled wanted (reading files (files_of (Some (runs wanted)))) old new answer h)
    go (Some (runs wanted)) told (inr f) = inr f
    go (Some shows) told h = opened (Some shows) told (λ e. inl e) h
    go (Some (lists_rules agent)) told h = opened (Some (lists_rules agent)) told (λ e. inl e) h
    go (Some (shadows agent)) told h = opened (Some (shadows agent)) told (λ e. inl e) h
    go (Some (rehearses positions)) told h = plain (Some (rehearses positions)) (rehearse-plain positions files) h
    go (Some (audits engine filters)) told h = plain (Some (audits engine filters)) (audit-plain engine filters files) h
    go (Some (decides agent packets)) told h = opened (Some (decides agent packets)) told (λ e. inr (inl e)) h

pub exact-ended : (asked : Option Asked) (shelf : ShelfCall) (old new : SiteView) (answer : ℕ) → Ended asked shelf old new answer → AnswersExactly asked shelf.told old new answer
exact-ended asked shelf old new answer ended = if-asked asked shelf.told old _ (λ disk files seen. status-told asked files shelf old new answer disk seen ended)
