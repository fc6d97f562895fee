-- What comes of a start where all agrees.
use Rattle.std.proofs.Common.{◌≡◌, ◌⊎◌, inl, inr, ◌∙◌, refl, sym, ap, subst, arith, ℕ, Bool, true, false, List, [], ◌∷◌, Option, Some, None, Result, Err}
use Rattle.std.specs.Prelude.{if◌then◌else◌}
use Rattle.cacao_check.specs.Fits.{FitsKind}
use Rattle.cacao_site.specs.Counts.{DidNotRise, Rose}
use Rattle.cacao_site.specs.Sound.{IsSound}
use Rattle.cacao_site.specs.View.{SiteView}
use Rattle.flow_engine_reports.proofs.AcceptLemmas.{accepted-one}
use Rattle.flow_core.specs.Setups.{AreAccepted}
use Rattle.flow_core_rules.specs.Accepted.{Accepted}
use Rattle.flow_core_rules.specs.Givens.{Given}
use Rattle.flow_world.specs.Sessions.{HasClosed, HasRefused, IsStart, KeepsAgreement}
use Rattle.flow_world.specs.Close.{Close}
use Rattle.flow_world.specs.Close.TheVariants as close
use Rattle.flow_world.specs.WorldError.{WorldError}
use Rattle.cacao_cli_session_laws.specs.Complete.{EndsSo, IsForThisRun, IsUndisturbed, NoneFindsAnother, StopsSo, UndisturbedCompletes}
use Rattle.cacao_cli_session_laws.specs.Undamaged.{ComesOfTexts}
use Rattle.cacao_cli_words.specs.Requests.{RunRequest}
use Rattle.cacao_cli_ends.specs.Asked.{Asked, canonises, checks, runs, shows, lists_rules, decides, shadows, rehearses, audits}
use Rattle.cacao_cli_ends.specs.FileCauses.{HasTexts, HasTrees, LacksTree}
use Rattle.cacao_cli_session_laws.specs.Completing.{AddsNoExpire, Completes, CompletesSo, EachSendIsDone, FileHasNoRecord, HasOwnFile}
use Rattle.cacao_cli_status_laws.specs.Ended.{Performed, Performs}
use Rattle.cacao_cli_ends.specs.Ends.{End, status_of, text_of, no_memory, past}
use Rattle.cacao_cli_ends.specs.Comes.{IsOneOf, file_faults}
use Rattle.cacao_cli_ends.specs.Files.{File, Files, NamedText, ShelfCall, files_of, has_too_many, reading}
use Rattle.cacao_cli_session_laws.specs.Holding.{ClosesSo, IsRefusedStart, RefusesSo, close_end, error_end}
use Rattle.cacao_cli_ends.specs.Lines.{SaysAtMostALine, Tells}
use Rattle.cacao_cli_ends.specs.Work.{Start, Work, ends, starts, start_of, trees_wanted, work}
use Rattle.cacao_cli_ends.specs.declared.limit.Limit.TheVariants.{BookCount}
use Rattle.cacao_cli_status_laws.proofs.CountLemmas.{unsaid-ended}
use Rattle.cacao_cli_session_laws.proofs.DoneLemmas.{done-there, ended-done}
use Rattle.cacao_cli_session_laws.proofs.ExpireLemmas.{opened-same, refused-adds, same-opens, went-none}
use Rattle.cacao_cli_status_laws.proofs.ExactLemmas.{failed-status, if-told, seen-read}
use Rattle.cacao_cli_session_laws.proofs.JudgedLemmas.{bad-answers, refused-accepted}
use Rattle.cacao_cli_status_laws.proofs.JudgedLemmas.{lacks-tree}
use Rattle.cacao_cli_ends.proofs.LineLemmas.{IsCutOff, tells-status}
use Rattle.cacao_cli_ends.proofs.ReadLemmas.{Fails, Read}
use Rattle.cacao_cli_status_laws.proofs.StartLemmas.{tells-line}
use Rattle.cacao_cli_status_laws.proofs.StatusRuns.{RunCase, long-texts, missing-texts, no-texts, run_case, run_long, run_many, run_missing, run_starts, run_treeless, same-texts}
use Rattle.cacao_cli_ends.proofs.UnsaidLemmas.{last-said}
use Rattle.cacao_cli_session_laws.proofs.CompleteLemmas.{close-listed, close-other, end_statuses, fails-end, not-unsaid, refusal-listed, refusal-not, refusal-other, says-none, undisturbed-before}

module _ (no_other : NoneFindsAnother) (completes : UndisturbedCompletes) (start : Start) (old mid new : SiteView) (last : End) (answer : ℕ) (sound_old : IsSound old) (sound : IsSound mid) (is : IsStart old start.run)
    (unsaid : answer ≡ 9 → Rose old.counts.unsaid new.counts.unsaid) (tells : Tells last mid new answer) where
  said-all : IsUndisturbed old new → new.counts.unsaid ≡ mid.counts.unsaid
  said-all u = last-said last (text_of last) mid new answer tells (λ e. not-unsaid old.counts.unsaid new.counts.unsaid (unsaid e) u.unsaid)

  before : IsUndisturbed old new → IsUndisturbed old mid
  before u = undisturbed-before old mid new (tells-line last mid new answer tells) (said-all u) u

  -- the status is that of the end, or memory was wanted for the last line
  listed : (end : End) → last ≡ end → IsOneOf (status_of end) end_statuses → IsUndisturbed old new → IsOneOf answer end_statuses
  listed end e one u = go (tells-status last mid new answer tells)
    where
      go : (answer ≡ status_of last) ⊎ IsCutOff answer → IsOneOf answer end_statuses
      go (inl f) = subst (λ (n : ℕ). IsOneOf n end_statuses) (sym (f ∙ ap status_of e)) one
      go (inr (inl f)) = absurd (not-unsaid old.counts.unsaid new.counts.unsaid (unsaid f) u.unsaid)
      go (inr (inr (inl f))) = inr (inr (inr (inr (inr (inr (inl f))))))
      go (inr (inr (inr h))) = absurd h

  other-end : (end : End) → last ≡ end → (status_of end ≡ 12 → ⊥) → answer ≡ 12 → ⊥
  other-end end e other twelve = go (tells-status last mid new answer tells)
    where
      go : (answer ≡ status_of last) ⊎ IsCutOff answer → ⊥
      go (inl f) = other (ap status_of (sym e) ∙ sym f ∙ twelve)
      go (inr (inl f)) = omega (arith, f, twelve)
      go (inr (inr (inl f))) = omega (arith, f, twelve)
      go (inr (inr (inr h))) = h

  -- a status that comes neither of that end nor of the last line
  undone : (end : End) → last ≡ end → (status_of end ≡ 0 → ⊥) → (status_of end ≡ 6 → ⊥) → (answer ≡ 0) ⊎ (answer ≡ 6) → ⊥
  undone end e zero six done_ = go (tells-status last mid new answer tells) done_
    where
      go : (answer ≡ status_of last) ⊎ IsCutOff answer → (answer ≡ 0) ⊎ (answer ≡ 6) → ⊥
      go (inl f) (inl g) = zero (ap status_of (sym e) ∙ sym f ∙ g)
      go (inl f) (inr g) = six (ap status_of (sym e) ∙ sym f ∙ g)
      go (inr (inl f)) (inl g) = omega (arith, f, g)
      go (inr (inl f)) (inr g) = omega (arith, f, g)
      go (inr (inr (inl f))) (inl g) = omega (arith, f, g)
      go (inr (inr (inl f))) (inr g) = omega (arith, f, g)
      go (inr (inr (inr h))) g = h

  -- the last line leaves the files, and the count of parcels that were lost
  bytes-there : (file : ℕ) → new.disk.reads file ≡ mid.disk.reads file
  bytes-there file = go (tells-line last mid new answer tells)
    where
      go : SaysAtMostALine mid new → new.disk.reads file ≡ mid.disk.reads file
      go (inl same) = ap (λ (s : SiteView). s.disk.reads file) same
      go (inr says) = (says.disk.stays file).reads

  still-before : DidNotRise old.counts.mishaps new.counts.mishaps → DidNotRise old.counts.mishaps mid.counts.mishaps
  still-before still_ = subst (λ (n : ℕ). DidNotRise old.counts.mishaps n) (go (tells-line last mid new answer tells)) still_
    where
      go : SaysAtMostALine mid new → new.counts.mishaps ≡ mid.counts.mishaps
      go (inl same) = ap (λ (s : SiteView). s.counts.mishaps) same
      go (inr says) = says.mishaps

  faults-there : new.disk.faults ≡ mid.disk.faults
  faults-there = go (tells-line last mid new answer tells)
    where
      go : SaysAtMostALine mid new → new.disk.faults ≡ mid.disk.faults
      go (inl same) = ap (λ (s : SiteView). s.disk.faults) same
      go (inr says) = says.disk.faults

  -- nothing was done
  nothing-added : mid ≡ old → AddsNoExpire old new
  nothing-added same = opened-same old mid new start.run sound_old sound is (bytes-there 0) faults-there (same-opens old mid same) (ap (λ (s : SiteView). s.disk.reads 0) same)

  own-file : (given : Given) (o : HasOwnFile start old) → Accepted AreAccepted FitsKind start.books start.bind given → IsForThisRun given start.run old
  own-file given o a = subst (λ (g : Given). IsForThisRun g start.run old) (accepted-one start.books start.bind o.given given o.accepted a) o.for_this

  refused-none : HasOwnFile start old → IsRefusedStart start → ⊥
  refused-none o r = refused-accepted start r (o.answers, (o.given, o.accepted))

  started-completes : Performs (starts start) old mid last → CompletesSo start old new answer
  started-completes (inl h) = record {
    no_other = λ o. absurd (bad-answers start (h.text, h.is, h.number, h.bad) o.answers);
    to_end = λ o u. absurd (bad-answers start (h.text, h.is, h.number, h.bad) o.answers);
    none_expires = λ m. nothing-added h.same;
    sends_done = λ m none e. absurd (undone _ h.ends (λ f. omega (arith, f)) (λ f. omega (arith, f)) e);
  }
  started-completes (inr (inl h)) = record {
    no_other = λ o. absurd (refused-none o ((h.answers, h.are), inl (h.broken, h.breaks)));
    to_end = λ o u. absurd (refused-none o ((h.answers, h.are), inl (h.broken, h.breaks)));
    none_expires = λ m. nothing-added h.same;
    sends_done = λ m none e. absurd (undone _ h.ends (λ f. omega (arith, f)) (λ f. omega (arith, f)) e);
  }
  started-completes (inr (inr (inl h))) = record {
    no_other = λ o. absurd (refused-none o ((h.answers, h.are), inr (h.rule, h.breaks)));
    to_end = λ o u. absurd (refused-none o ((h.answers, h.are), inr (h.rule, h.breaks)));
    none_expires = λ m. nothing-added h.same;
    sends_done = λ m none e. absurd (undone _ h.ends (λ f. omega (arith, f)) (λ f. omega (arith, f)) e);
  }
  started-completes (inr (inr (inr (inl h)))) = go h.holds.held
    where
      accepted_is : ComesOfTexts h.given
      accepted_is = record { texts = start.books; bind = start.bind; accepted = h.accepted }

      agreed : KeepsAgreement old mid
      agreed = h.holds.agreement is

      comes : (o : HasOwnFile start old) (u : IsUndisturbed old new) → ((how : Close) → HasClosed how h.given start.run start.most h.answers old mid → EndsSo how) × ((why : WorldError) → HasRefused why h.given start.run start.most h.answers old mid → StopsSo why)
      comes o u = completes h.given start.run start.most h.answers old mid accepted_is is (own-file h.given o h.accepted) sound (before u)

      done-by : (how : Close) → last ≡ close_end how → HasClosed how h.given start.run start.most h.answers old mid → DidNotRise old.counts.mishaps new.counts.mishaps → FileHasNoRecord old
          → (answer ≡ 0) ⊎ (answer ≡ 6) → EachSendIsDone start.run new
      done-by (close.Ended well) e c still_ none either =
          done-there old mid new bytes-there start.run (ended-done old mid start.run sound is h.given start.most h.answers agreed.told well c (still-before still_) none agreed)
      done-by close.Paused e c still_ none either = absurd (undone (close_end close.Paused) e (λ f. omega (arith, f)) (λ f. omega (arith, f)) either)
      done-by (close.Waiting moment) e c still_ none either = absurd (undone (close_end (close.Waiting moment)) e (λ f. omega (arith, f)) (λ f. omega (arith, f)) either)
      done-by close.Flooded e c still_ none either = absurd (undone (close_end close.Flooded) e (λ f. omega (arith, f)) (λ f. omega (arith, f)) either)
      done-by (close.Asked issue) e c still_ none either = absurd (undone (close_end (close.Asked issue)) e (λ f. omega (arith, f)) (λ f. omega (arith, f)) either)

      go : ClosesSo h.given start.run start.most h.answers old mid last ⊎ RefusesSo h.given start.run start.most h.answers old mid last → CompletesSo start old new answer
      go (inl c) = record {
        no_other = λ o. other-end (close_end c.close) c.ends (close-other c.close);
        to_end = λ o u. listed (close_end c.close) c.ends (close-listed c.close ((comes o u).0 c.close c.closed)) u;
        none_expires = λ m. went-none old mid new start.run sound_old sound is (bytes-there 0) faults-there h.given start.most h.answers agreed.told c.closed.went (still-before m);
        sends_done = λ m none e. done-by c.close c.ends c.closed m none e;
      }
      go (inr r) = record {
        no_other = λ o. other-end (error_end r.error) r.ends (refusal-other r.error
            (λ t. no_other r.error h.given start.run start.most h.answers old mid t is.told is.fresh (own-file h.given o h.accepted) sound r.why));
        to_end = λ o u. listed (error_end r.error) r.ends (refusal-listed r.error ((comes o u).1 r.error r.why)) u;
        none_expires = λ m. refused-adds old mid new start.run sound_old sound is (bytes-there 0) faults-there r.error h.given start.most h.answers agreed.told (still-before m) r.why;
        sends_done = λ m none e. absurd (undone (error_end r.error) r.ends (refusal-not r.error).0 (refusal-not r.error).1 e);
      }
  started-completes (inr (inr (inr (inr h)))) = record {
    no_other = λ o. other-end no_memory h.ends (λ e. omega (arith, e));
    to_end = λ o u. listed no_memory h.ends (inr (inr (inr (inr (inr (inr (inl refl))))))) u;
    none_expires = λ m. nothing-added h.same;
    sends_done = λ m none e. absurd (undone no_memory h.ends (λ f. omega (arith, f)) (λ f. omega (arith, f)) e);
  }

module _ (no_other : NoneFindsAnother) (completes : UndisturbedCompletes) (wanted : RunRequest) (files : Files) (old mid new : SiteView) (last : End) (answer : ℕ) (sound_old : IsSound old) (sound : IsSound mid) (is : IsStart old wanted.run)
    (unsaid : answer ≡ 9 → Rose old.counts.unsaid new.counts.unsaid) (tells : Tells last mid new answer) where
  run-completes : Performs (work (Some (runs wanted)) (reading files (files_of (Some (runs wanted))))) old mid last → (texts : List NamedText) → HasTexts files wanted texts → HasTrees wanted texts
      → CompletesSo (start_of wanted texts) old new answer
  run-completes performs texts has trees = go (run_case wanted files)
    where
      at : (w : Work) → work (Some (runs wanted)) (reading files (files_of (Some (runs wanted)))) ≡ w → Performs w old mid last
      at w e = subst (λ (w : Work). Performs w old mid last) e performs

      go : RunCase wanted files → CompletesSo (start_of wanted texts) old new answer
      go (run_many many e) = absurd (no-texts files wanted texts has many)
      go (run_missing name m e) = absurd (missing-texts wanted files old new answer texts has m)
      go (run_long limit l e) = absurd (long-texts wanted files old new answer texts has l)
      go (run_treeless others name reason there within t e) =
          absurd (trees (subst (λ (l : List NamedText). LacksTree (trees_wanted wanted l)) (same-texts files wanted others texts there has) (lacks-tree (trees_wanted wanted others) t)))
      go (run_starts others roots there within r e) = subst (λ (l : List NamedText). CompletesSo (start_of wanted l) old new answer) (same-texts files wanted others texts there has)
          (started-completes no_other completes (start_of wanted others) old mid new last answer sound_old sound is unsaid tells (at (starts (start_of wanted others)) e))

  -- the last line was not said, or memory was wanted
  cut-completes : (start : Start) → AddsNoExpire old new → IsCutOff answer → CompletesSo start old new answer
  cut-completes start nothing h = record { no_other = λ o. cut-other h; to_end = λ o u. cut-listed u h; none_expires = λ m. nothing; sends_done = λ m none e. absurd (cut-undone h e) }
    where
      cut-other : IsCutOff answer → answer ≡ 12 → ⊥
      cut-other (inl f) e = omega (arith, f, e)
      cut-other (inr (inl f)) e = omega (arith, f, e)
      cut-other (inr (inr h)) e = h

      cut-undone : IsCutOff answer → (answer ≡ 0) ⊎ (answer ≡ 6) → ⊥
      cut-undone (inl f) (inl e) = omega (arith, f, e)
      cut-undone (inl f) (inr e) = omega (arith, f, e)
      cut-undone (inr (inl f)) (inl e) = omega (arith, f, e)
      cut-undone (inr (inl f)) (inr e) = omega (arith, f, e)
      cut-undone (inr (inr h)) e = h

      cut-listed : IsUndisturbed old new → IsCutOff answer → IsOneOf answer end_statuses
      cut-listed u (inl f) = absurd (not-unsaid old.counts.unsaid new.counts.unsaid (unsaid f) u.unsaid)
      cut-listed u (inr (inl f)) = inr (inr (inr (inr (inr (inr (inl f))))))
      cut-listed u (inr (inr h)) = absurd h

  -- the files were not read
  unread-completes : (list : List File) (start : Start) → AddsNoExpire old new → IsOneOf answer (file_faults list) → CompletesSo start old new answer
  unread-completes [] start nothing h = cut-completes start nothing h
  unread-completes (file ∷ more) start nothing (inl f) = record {
    no_other = λ o e. omega (arith, f, e);
    to_end = λ o u. inr (inr (inr (inr (inr (inr (inr (inl f)))))));
    none_expires = λ m. nothing;
    sends_done = λ m none e. absurd (elim e [ inl g ↦ omega (arith, f, g) | inr g ↦ omega (arith, f, g) ]);
  }
  unread-completes (file ∷ more) start nothing (inr h) = cut-completes start nothing h

unread-same : (asked : Asked) (read : Read) (end : End) (old mid : SiteView) (last : End) → read ≡ Err end → Performs (work (Some asked) read) old mid last → mid ≡ old
unread-same asked read end old mid last is p = go (has_too_many asked) (subst (λ (r : Read). Performs (work (Some asked) r) old mid last) is p)
  where
    go : (b : Bool) → Performs (if b then ends [] (past BookCount) else ends [] end) old mid last → mid ≡ old
    go true p = says-none (past BookCount) old mid last p
    go false p = says-none end old mid last p

pub completes-ended : NoneFindsAnother → UndisturbedCompletes → (asked : Option Asked) (shelf : ShelfCall) (old mid new : SiteView) (last : End) (answer : ℕ) → IsSound old → IsSound mid → Performed asked shelf old mid last
    → Tells last mid new answer → Completes asked shelf.told old new answer
completes-ended no_other completes None shelf old mid new last answer sound_old sound p tells = tt
completes-ended no_other completes (Some (canonises book)) shelf old mid new last answer sound_old sound p tells = tt
completes-ended no_other completes (Some (checks books)) shelf old mid new last answer sound_old sound p tells = tt
completes-ended no_other completes (Some (runs wanted)) shelf old mid new last answer sound_old sound p tells = λ is. if-told (files_of (Some (runs wanted))) shelf.told _ (λ files seen. λ texts has trees.
    go is files texts has trees (seen-read shelf.told (files_of (Some (runs wanted))) files p.reads.count p.read seen p.reads.reads))
  where
    unsaid : answer ≡ 9 → Rose old.counts.unsaid new.counts.unsaid
    unsaid e = unsaid-ended (Some (runs wanted)) shelf old new answer (record { last = last; between = mid; performed = p; tells = tells }) e

    go : IsStart old wanted.run → (files : Files) (texts : List NamedText) → HasTexts files wanted texts → HasTrees wanted texts
        → (p.read ≡ reading files (files_of (Some (runs wanted)))) ⊎ Fails (files_of (Some (runs wanted))) p.read → CompletesSo (start_of wanted texts) old new answer
    go is files texts has trees (inl e) = run-completes no_other completes wanted files old mid new last answer sound_old sound is unsaid tells
        (subst (λ (r : Result (List NamedText) End). Performs (work (Some (runs wanted)) r) old mid last) e p.performs) texts has trees
    go is files texts has trees (inr fails) =
        let end = fails-end (files_of (Some (runs wanted))) p.read fails in
        unread-completes no_other completes wanted files old mid new last answer sound_old sound is unsaid tells (files_of (Some (runs wanted))) (start_of wanted texts)
        (nothing-added no_other completes (start_of wanted texts) old mid new last answer sound_old sound is unsaid tells (unread-same (runs wanted) p.read end.0 old mid last end.1 p.performs))
        (failed-status (runs wanted) p.read (has_too_many (runs wanted)) old mid new last answer fails p.performs tells)
completes-ended no_other completes (Some shows) shelf old mid new last answer sound_old sound p tells = tt
completes-ended no_other completes (Some (lists_rules agent)) shelf old mid new last answer sound_old sound p tells = tt
completes-ended no_other completes (Some (decides agent packets)) shelf old mid new last answer sound_old sound p tells = tt
completes-ended no_other completes (Some (shadows agent)) shelf old mid new last answer sound_old sound p tells = tt
completes-ended no_other completes (Some (rehearses positions)) shelf old mid new last answer sound_old sound p tells = tt
completes-ended no_other completes (Some (audits engine filters)) shelf old mid new last answer sound_old sound p tells = tt
