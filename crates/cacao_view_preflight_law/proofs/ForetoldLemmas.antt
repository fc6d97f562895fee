-- A run of the same files ends as `preflight` says, or holds its session.
use Rattle.std.proofs.Common.{◌≡◌, ◌≢◌, ◌⊎◌, ◌∙◌, inl, inr, refl, sym, ap, subst, arith, ℕ, Bool, true, false, List, [], ◌++◌, append-nil, length, map, Option, Some, None, Result, Ok, Err}
use Rattle.std.specs.Prelude.{IfSome, IsSomeAnd, is_some, if◌then◌else◌}
use Rattle.serde_json.specs.Data.{Data}
use Rattle.cacao_check.specs.Fits.{FitsKind}
use Rattle.cacao_check.specs.declared.breaks.Break.{Break}
use Rattle.cacao_site.specs.View.{SiteView}
use Rattle.flow_core_rules.specs.Accepted.{Accepted}
use Rattle.flow_core_rules.specs.Givens.{Given}
use Rattle.flow_core_setup.specs.Setups.{AreAccepted}
use Rattle.flow_core_setup.specs.SetupReading.{BreaksBindRule, BreaksRule}
use Rattle.cacao_cli_words.specs.Requests.{RunRequest}
use Rattle.cacao_cli_words.specs.Words.{Text}
use Rattle.cacao_cli_ends.specs.Asked.{runs}
use Rattle.cacao_cli_ends.specs.Comes.{IsOneOf}
use Rattle.cacao_cli_ends.specs.Ends.{End, bind_refused, done, no_memory, past, refused, shelf_failed, status_of}
use Rattle.cacao_cli_ends.specs.FileCauses.{HasTexts}
use Rattle.cacao_cli_ends.specs.Files.{File, Files, NamedText, Reads, ShelfCall, book_file, files_of, has_too_many, listed, reading, run_names}
use Rattle.cacao_cli_ends.specs.Lines.{SaysWork}
use Rattle.cacao_cli_ends.specs.Work.{Start, ends, or_end, start_of, starts, trees_of, trees_wanted, work_on}
use Rattle.cacao_cli_ends.specs.declared.limit.Limit.TheVariants.{BookCount}
use Rattle.cacao_cli_ends.proofs.EndLemmas.{no_cons}
use Rattle.cacao_cli_ends.proofs.ReadLemmas.{Fails, Read, by_memory, by_shelf, reads-length, reads-told}
use Rattle.cacao_cli_ends.proofs.StatusLists.{not-among}
use Rattle.cacao_cli_session.specs.Holding.{HoldsSession, TellsBadLine, TellsBindBreak, TellsBookBreak, WantsToStart}
use Rattle.cacao_cli_status_laws.specs.Ended.{Performed, Performs}
use Rattle.cacao_view_preflight.specs.Preflights.{Judges, Preflights, Reads as ReadsTexts}
use Rattle.cacao_view.specs.BookReading.{ReadsOf, are_too_many, book_files}
use Rattle.cacao_view.specs.Flying.{FliesBooks, bound_names}
use Rattle.cacao_view.proofs.BookLemmas.{file-end, file_list}
use Rattle.cacao_view.proofs.DrawLemmas.{treeless-five}
use Rattle.cacao_view_preflight_law.specs.Foretold.{ForetellsRuns, HasRead, IsCutOff, IsFault, IsForetold, ReadAlike}
use Rattle.cacao_view_preflight_law.proofs.BreakLemmas.{binds_one, breaks_one, no_bind, no_both, no_break}
use Rattle.cacao_view_preflight_law.proofs.TextLemmas.{all-wanted, no-answers, start-texts}

-- ---- an end that is none of a run that may begin

not-done : (end : End) → (status_of end ≡ 0 → ⊥) → end ≢ done
not-done end h e = h (ap status_of e)

by-memory : (end : End) → end ≡ no_memory → IsFault end
by-memory end e = inr (ap status_of e)

module _ (wanted : RunRequest) (told : Option Files) (read : Read) (end last : End) (old new : SiteView) where
  abbrev Told : Type 0
  Told = IsForetold wanted told read end old new last

  cut-off : IsCutOff old new last → Told
  cut-off cut = inr (inr cut)

  wants-to-start : WantsToStart old new last → Told
  wants-to-start wants = cut-off (record { fault = by-memory last wants.ends; same = wants.same })

  refused-so : end ≢ done → last ≡ end → new ≡ old → Told
  refused-so refusal is same = inl (inl (record { refusal = refusal; ends = is; same = same }))

  -- nothing is said but the end
  said : (why : End) → end ≡ why → (status_of why ≡ 0 → ⊥) → SaysWork [] why old new last → Told
  said why is other (inl whole) = refused-so (not-done end (λ e. other (sym (ap status_of is) ∙ e))) (whole.ends ∙ sym is) whole.says
  said why is other (inr (inl stops)) = absurd (no_cons stops.front stops.behind stops.line stops.line stops.is)
  said why is other (inr (inr wants)) = cut-off (record { fault = by-memory last wants.ends; same = wants.same })

  -- ---- the texts are judged

  module _ (texts : List NamedText) (start : Start) (none : start.answers ≡ None) (has : HasRead wanted told read texts) (of : start ≡ start_of wanted texts) where
    no-bad-line : TellsBadLine start old new last → ⊥
    no-bad-line h = absurd (let no : None ≡ Some h.text = sym none ∙ h.is in cc)

    abbrev Runs : Type 0
    Runs = TellsBadLine start old new last ⊎ (TellsBookBreak start old new last ⊎ (TellsBindBreak start old new last ⊎ (HoldsSession start old new last ⊎ WantsToStart old new last)))

    on-break : (broken : Break) → BreaksRule start.books start.bind broken → end ≡ refused broken → Runs → Told
    on-break broken h is (inl bad) = absurd (no-bad-line bad)
    on-break broken h is (inr (inl other)) =
        let same : broken ≡ other.broken = breaks_one start.books start.bind broken other.broken h other.breaks in
        refused-so (not-done end (λ e. absurd (let one : status_of end ≡ 1 = ap status_of is in omega (arith, e, one)))) (other.ends ∙ ap refused (sym same) ∙ sym is) other.same
    on-break broken h is (inr (inr (inl other))) = absurd (no_both start.books start.bind broken other.rule h other.breaks)
    on-break broken h is (inr (inr (inr (inl held)))) = absurd (no_break start.books start.bind broken held.given h held.accepted)
    on-break broken h is (inr (inr (inr (inr wants)))) = wants-to-start wants

    on-bind : (rule : ℕ) → BreaksBindRule start.books start.bind rule → end ≡ bind_refused rule → Runs → Told
    on-bind rule h is (inl bad) = absurd (no-bad-line bad)
    on-bind rule h is (inr (inl other)) = absurd (no_both start.books start.bind other.broken rule other.breaks h)
    on-bind rule h is (inr (inr (inl other))) =
        let same : rule ≡ other.rule = binds_one start.books start.bind rule other.rule h other.breaks in
        refused-so (not-done end (λ e. absurd (let one : status_of end ≡ 1 = ap status_of is in omega (arith, e, one)))) (other.ends ∙ ap bind_refused (sym same) ∙ sym is) other.same
    on-bind rule h is (inr (inr (inr (inl held)))) = absurd (no_bind start.books start.bind rule held.given h held.accepted)
    on-bind rule h is (inr (inr (inr (inr wants)))) = wants-to-start wants

    on-ready : (given : Given) → Accepted AreAccepted FitsKind start.books start.bind given → end ≡ done → Runs → Told
    on-ready given a is (inl bad) = absurd (no-bad-line bad)
    on-ready given a is (inr (inl other)) = absurd (no_break start.books start.bind other.broken given other.breaks a)
    on-ready given a is (inr (inr (inl other))) = absurd (no_bind start.books start.bind other.rule given other.breaks a)
    on-ready given a is (inr (inr (inr (inl held)))) =
        inl (inr (record { ready = is; texts = texts; texts_are = has; holds = subst (λ (s : Start). HoldsSession s old new last) of held }))
    on-ready given a is (inr (inr (inr (inr wants)))) = wants-to-start wants

  -- ---- the files were read

  module _ (lines : List Text) (none : wanted.answers ≡ None) where
    abbrev bound : Bool
    bound = is_some wanted.bind

    abbrev files_wanted : List File
    files_wanted = map book_file (run_names wanted)

    module _ (texts : List NamedText) (has : HasRead wanted told read texts) (many : length texts ≡ length files_wanted) where
      abbrev start : Start
      start = start_of wanted texts

      breaks-start : (books : List Text) (bind : Text) (broken : Break) → (books ≡ start.books) × (bind ≡ start.bind) → BreaksRule books bind broken → BreaksRule start.books start.bind broken
      breaks-start books bind broken same h = subst (λ (b : Text). BreaksRule start.books b broken) same.1 (subst (λ (l : List Text). BreaksRule l bind broken) same.0 h)

      binds-start : (books : List Text) (bind : Text) (rule : ℕ) → (books ≡ start.books) × (bind ≡ start.bind) → BreaksBindRule books bind rule → BreaksBindRule start.books start.bind rule
      binds-start books bind rule same h = subst (λ (b : Text). BreaksBindRule start.books b rule) same.1 (subst (λ (l : List Text). BreaksBindRule l bind rule) same.0 h)

      accepts-start : (books : List Text) (bind : Text) (given : Given) → (books ≡ start.books) × (bind ≡ start.bind) → Accepted AreAccepted FitsKind books bind given
          → Accepted AreAccepted FitsKind start.books start.bind given
      accepts-start books bind given same h =
          subst (λ (b : Text). Accepted AreAccepted FitsKind start.books b given) same.1 (subst (λ (l : List Text). Accepted AreAccepted FitsKind l bind given) same.0 h)

      judged : (roots : List Data) → Judges bound texts roots lines end → Performs (starts start) old new last → Told
      judged roots (inl h) run =
          on-break texts start (no-answers wanted texts none many) has refl h.broken (breaks-start h.books h.bind h.broken (start-texts wanted texts none many h.books h.bind h.are) h.breaks) h.ends run
      judged roots (inr (inl h)) run =
          on-bind texts start (no-answers wanted texts none many) has refl h.rule (binds-start h.books h.bind h.rule (start-texts wanted texts none many h.books h.bind h.are) h.breaks) h.ends run
      judged roots (inr (inr h)) run =
          on-ready texts start (no-answers wanted texts none many) has refl h.given (accepts-start h.books h.bind h.given (start-texts wanted texts none many h.books h.bind h.are) h.accepted) h.ends run

      by-trees : (r : Result (List Data) End) → trees_of texts ≡ r → ReadsTexts bound texts r lines end → Performs (or_end r (λ roots. starts start)) old new last → Told
      by-trees (Err why) is h run = said why h.1 (λ k. absurd (let five : status_of why ≡ 5 = treeless-five texts why is in omega (arith, k, five))) run
      by-trees (Ok roots) is h run = judged roots h run

      told-texts : Preflights bound texts lines end → Performs (or_end (trees_of (trees_wanted wanted texts)) (λ roots. starts start)) old new last → Told
      told-texts (inl h) run =
          by-trees (trees_of texts) refl h (subst (λ (l : List NamedText). Performs (or_end (trees_of l) (λ roots. starts start)) old new last) (all-wanted wanted texts none many) run)
      told-texts (inr h) run = inr (inl (by-memory end h.1))

    -- of a shelf that tells its files, the texts that were read are those of the files
    has-texts : (o : Option Files) (count : ℕ) (texts : List NamedText) → has_too_many (runs wanted) ≡ false → Reads o files_wanted count (Ok texts) → IfSome o (λ files. HasTexts files wanted texts)
    has-texts None count texts few reads = tt
    has-texts (Some files) count texts few reads = go (reads-told files files_wanted count (Ok texts) reads)
      where
        go : (Ok texts ≡ reading files files_wanted) ⊎ Fails files_wanted (Ok texts) → HasTexts files wanted texts
        go (inl is) = record { few = few; are = sym is }
        go (inr (by_shelf name e faults)) = absurd (cc)
        go (inr (by_memory e faults)) = absurd (cc)

    -- what reading came to, with the words that name too many playbooks or not
    told-read : (b : Bool) (r : Read) (count : ℕ) → has_too_many (runs wanted) ≡ b → read ≡ r → Reads told (if b then [] else files_wanted) count r
        → ReadsOf (Preflights bound) b r lines end → Performs (if b then ends [] (past BookCount) else or_end r (work_on (runs wanted))) old new last → Told
    told-read true r count few is reads h run = said (past BookCount) h.1 (λ k. absurd (omega (arith, k))) run
    told-read false (Err why) count few is reads h run =
        said why h.1 (λ k. not-among 0 file_list refl (subst (λ (n : ℕ). IsOneOf n file_list) k (file-end told files_wanted count (Err why) why reads refl))) run
    told-read false (Ok texts) count few is reads h run =
        told-texts texts (record { few = few; are = is; has = has-texts told count texts few reads }) (reads-length told files_wanted count (Ok texts) texts reads refl) h run

    -- ---- faults

    seen-fails : (b : Bool) (r : Read) (names : List Text) → Fails (if b then [] else map book_file names) r → ReadsOf (Preflights bound) b r lines end → IsFault end
    seen-fails true r names (by_shelf name e faults) h = absurd (cc)
    seen-fails true r names (by_memory e faults) h = absurd (cc)
    seen-fails false r names (by_shelf name e faults) h = let told = subst (λ (x : Read). ReadsOf (Preflights bound) false x lines end) e h in inl (ap status_of told.1)
    seen-fails false r names (by_memory e faults) h = let told = subst (λ (x : Read). ReadsOf (Preflights bound) false x lines end) e h in inr (ap status_of told.1)

    says-fault : (why : End) → IsFault why → SaysWork [] why old new last → IsCutOff old new last
    says-fault why fault (inl whole) = record { fault = subst IsFault (sym whole.ends) fault; same = whole.says }
    says-fault why fault (inr (inl stops)) = absurd (no_cons stops.front stops.behind stops.line stops.line stops.is)
    says-fault why fault (inr (inr wants)) = record { fault = by-memory last wants.ends; same = wants.same }

    run-fails : (b : Bool) (r : Read) → Fails (if b then [] else files_wanted) r → Performs (if b then ends [] (past BookCount) else or_end r (work_on (runs wanted))) old new last → IsCutOff old new last
    run-fails true r (by_shelf name e faults) run = absurd (cc)
    run-fails true r (by_memory e faults) run = absurd (cc)
    run-fails false r (by_shelf name e faults) run =
        says-fault (shelf_failed name) (inl refl) (subst (λ (x : Read). Performs (or_end x (work_on (runs wanted))) old new last) e run)
    run-fails false r (by_memory e faults) run =
        says-fault no_memory (inr refl) (subst (λ (x : Read). Performs (or_end x (work_on (runs wanted))) old new last) e run)

-- ---- both calls

module _ (wanted : RunRequest) (none : wanted.answers ≡ None) where
  names-same : bound_names wanted.bind wanted.books ≡ run_names wanted
  names-same =
      ap (λ (l : List Text). wanted.books ++ l) (sym (append-nil (listed wanted.bind)) ∙ ap (λ (o : Option Text). listed wanted.bind ++ listed o) (sym none))

  lists-same : book_files wanted.books (bound_names wanted.bind wanted.books) ≡ files_of (Some (runs wanted))
  lists-same = ap (λ (l : List Text). if are_too_many wanted.books then [] else map book_file l) names-same

module _ (wanted : RunRequest) (seen shelf : ShelfCall) (lines : List Text) (end : End) (old new : SiteView) (last : End) (none : wanted.answers ≡ None)
    (flight : FliesBooks wanted.bind wanted.books seen lines end) (run : Performed (Some (runs wanted)) shelf old new last) where
  abbrev Foretold : Type 0
  Foretold = IsForetold wanted shelf.told run.read end old new last

  both-read : flight.read ≡ run.read → Foretold
  both-read same =
      told-read wanted shelf.told run.read end last old new lines none (has_too_many (runs wanted)) run.read run.reads.count refl refl run.reads.reads
      (subst (λ (r : Read). ReadsOf (Preflights (is_some wanted.bind)) (are_too_many wanted.books) r lines end) same flight.comes) run.performs

  told-so : (files : Files) → seen.told ≡ Some files → shelf.told ≡ Some files → Foretold
  told-so files s t =
      elim (reads-told files (book_files wanted.books (bound_names wanted.bind wanted.books)) flight.reads.count flight.read
      (subst (λ (o : Option Files). Reads o (book_files wanted.books (bound_names wanted.bind wanted.books)) flight.reads.count flight.read) s flight.reads.reads)) [
        | inr fails ↦ inr (inl (seen-fails wanted shelf.told run.read end last old new lines none (are_too_many wanted.books) flight.read (bound_names wanted.bind wanted.books) fails flight.comes))
        | inl e ↦ elim (reads-told files (files_of (Some (runs wanted))) run.reads.count run.read (subst (λ (o : Option Files). Reads o (files_of (Some (runs wanted))) run.reads.count run.read) t run.reads.reads)) [
          | inr fails ↦ inr (inr (run-fails wanted shelf.told run.read end last old new lines none (has_too_many (runs wanted)) run.read fails run.performs))
          | inl f ↦ both-read (e ∙ ap (reading files) (lists-same wanted none) ∙ sym f)
        ]
      ]

  foretold : ReadAlike seen shelf flight.read run.read → Foretold
  foretold (inr same) = both-read same
  foretold (inl tells) = go seen.told refl tells
    where
      go : (o : Option Files) → seen.told ≡ o → IsSomeAnd o (λ files. shelf.told ≡ Some files) → Foretold
      go None is h = absurd h
      go (Some files) is h = told-so files is h

pub foretells_runs : ForetellsRuns
foretells_runs wanted seen shelf lines end old new last none flight run alike = foretold wanted seen shelf lines end old new last none flight run alike
