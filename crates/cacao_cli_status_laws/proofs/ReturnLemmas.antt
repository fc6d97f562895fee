-- What the status of `run` and the engine's file tell of each other on return.
use Rattle.std.proofs.Common.{◌≡◌, ◌⊎◌, inl, inr, ◌∙◌, refl, ap, subst, ℕ, ◌≤◌, List, [], Option, Some, None, Result}
use Rattle.std.specs.Prelude.{IfSome, IsTrue}
use Rattle.cacao_site.specs.Sound.{IsSound}
use Rattle.cacao_site.specs.View.{SiteView}
use Rattle.cacao_cli_words.specs.Requests.{RunRequest}
use Rattle.cacao_cli_ends.specs.Asked.{Asked, canonises, checks, runs, shows, lists_rules, decides, shadows, rehearses, audits}
use Rattle.cacao_cli_ends.specs.FileCauses.{HasTexts}
use Rattle.cacao_cli_status_laws.specs.Ended.{Performed, Performs}
use Rattle.cacao_cli_ends.specs.Ends.{End, status_of, not_readable}
use Rattle.cacao_cli_ends.specs.Files.{Files, NamedText, ShelfCall, files_of, has_too_many, reading}
use Rattle.cacao_cli_ends.specs.Lines.{SaysAtMostALine, Tells}
use Rattle.cacao_cli_session_laws.specs.Returning.{ReturnsSo, TellsOnReturn}
use Rattle.cacao_cli_ends.specs.Work.{Start, Work, ends, starts, start_of, work}
use Rattle.cacao_cli_looks.proofs.BudgetLemmas.{HasBudget}
use Rattle.cacao_cli_status_laws.proofs.CameLemmas.{run-acted}
use Rattle.cacao_cli_status_laws.proofs.ExactLemmas.{failed-status, if-told, performs-comes, seen-read}
use Rattle.cacao_cli_session_laws.proofs.JudgedLemmas.{refused-accepted}
use Rattle.cacao_cli_ends.proofs.LineLemmas.{IsCutOff, tells-status}
use Rattle.cacao_cli_ends.proofs.ReadLemmas.{Fails}
use Rattle.cacao_cli_session_laws.proofs.ReturnedRuns.{ReadsImages, sound-reads}
use Rattle.cacao_cli_session_laws.proofs.ReturnTells.{cut, fault-returns, faulty, none-accepted}
use Rattle.cacao_cli_status_laws.proofs.StartLemmas.{tells-line}
use Rattle.cacao_cli_status_laws.proofs.WithinLemmas.{Keeps, keeps-behind, run-keeps}
use Rattle.cacao_cli_status_laws.proofs.StatusRuns.{RunCase, long-texts, missing-texts, no-texts, run_case, run_long, run_many, run_missing, run_starts, run_treeless, same-texts}
use Rattle.cacao_cli_session_laws.proofs.SessionReturns.{session-returns, told-before}

module _ (start : Start) (old mid new : SiteView) (sound : ReadsImages mid) (behind : SaysAtMostALine mid new) (told : IsTrue new.disk.told) (some : 1 ≤ start.most) where
  started : (last : End) (answer : ℕ) → Performs (starts start) old mid last → answer ≡ status_of last → ReturnsSo start old new answer
  started last answer (inl h) is = fault-returns start old new answer (inr (inl (is ∙ ap status_of h.ends)))
  started last answer (inr (inl h)) is = none-accepted start old new answer 1 refl (is ∙ ap status_of h.ends)
      (λ given a. refused-accepted start ((h.answers, h.are), inl (h.broken, h.breaks)) ((h.answers, h.are), (given, a)))
  started last answer (inr (inr (inl h))) is = none-accepted start old new answer 1 refl (is ∙ ap status_of h.ends)
      (λ given a. refused-accepted start ((h.answers, h.are), inr (h.rule, h.breaks)) ((h.answers, h.are), (given, a)))
  started last answer (inr (inr (inr (inl h)))) is = session-returns start old mid new sound behind told some last answer h is
  started last answer (inr (inr (inr (inr h)))) is = fault-returns start old new answer (inr (inr (inr (inr (inl (is ∙ ap status_of h.ends))))))

module _ (wanted : RunRequest) (files : Files) (old mid new : SiteView) (last : End) (answer : ℕ) (sound : IsSound mid) (told : IsTrue new.disk.told) (some : 1 ≤ wanted.most) (tells : Tells last mid new answer) where
  run-returns : Performs (work (Some (runs wanted)) (reading files (files_of (Some (runs wanted))))) old mid last → (texts : List NamedText) → HasTexts files wanted texts → ReturnsSo (start_of wanted texts) old new answer
  run-returns performs texts has = go (run_case wanted files)
    where
      at : (w : Work) → work (Some (runs wanted)) (reading files (files_of (Some (runs wanted)))) ≡ w → Performs w old mid last
      at w is = subst (λ (w : Work). Performs w old mid last) is performs

      go : RunCase wanted files → ReturnsSo (start_of wanted texts) old new answer
      go (run_many many is) = absurd (no-texts files wanted texts has many)
      go (run_missing name m is) = absurd (missing-texts wanted files old new answer texts has m)
      go (run_long limit l is) = absurd (long-texts wanted files old new answer texts has l)
      go (run_treeless others name reason there within t is) = unread (performs-comes (ends [] (not_readable name reason)) old mid new last answer (at (ends [] (not_readable name reason)) is) tells)
        where
          unread : (answer ≡ 5) ⊎ IsCutOff answer → ReturnsSo (start_of wanted texts) old new answer
          unread (inl e) = fault-returns (start_of wanted texts) old new answer (inr (inl e))
          unread (inr c) = cut (start_of wanted texts) old new answer c
      go (run_starts others roots there within r is) = subst (λ (l : List NamedText). ReturnsSo (start_of wanted l) old new answer) (same-texts files wanted others texts there has) (by (tells-status last mid new answer tells))
        where
          by : (answer ≡ status_of last) ⊎ IsCutOff answer → ReturnsSo (start_of wanted others) old new answer
          by (inl e) = started (start_of wanted others) old mid new (sound-reads mid sound) (tells-line last mid new answer tells) told some last answer (at (starts (start_of wanted others)) is) e
          by (inr c) = cut (start_of wanted others) old new answer c

pub returns-ended : (asked : Option Asked) (shelf : ShelfCall) (old mid new : SiteView) (last : End) (answer : ℕ) → IfSome asked HasBudget → IsSound mid → Performed asked shelf old mid last → Tells last mid new answer
    → TellsOnReturn asked shelf.told old new answer
returns-ended None shelf old mid new last answer some sound p tells = tt
returns-ended (Some (canonises book)) shelf old mid new last answer some sound p tells = tt
returns-ended (Some (checks books)) shelf old mid new last answer some sound p tells = tt
returns-ended (Some (runs wanted)) shelf old mid new last answer some sound p tells = λ told. (
  (keeps told).0,
  (keeps told).1,
  λ one. run-acted wanted p.read last old mid new answer sound (told-before mid new (tells-line last mid new answer tells) told) p.performs tells one,
  if-told (files_of (Some (runs wanted))) shelf.told _ (λ files seen. λ texts has.
      go told files texts has (seen-read shelf.told (files_of (Some (runs wanted))) files p.reads.count p.read seen p.reads.reads)),
)
  where
    keeps : IsTrue new.disk.told → Keeps wanted.most old new
    keeps told = keeps-behind wanted.most old mid new (tells-line last mid new answer tells)
        (run-keeps old mid sound (told-before mid new (tells-line last mid new answer tells) told) wanted p.read last p.performs)

    go : IsTrue new.disk.told → (files : Files) (texts : List NamedText) → HasTexts files wanted texts
        → (p.read ≡ reading files (files_of (Some (runs wanted)))) ⊎ Fails (files_of (Some (runs wanted))) p.read → ReturnsSo (start_of wanted texts) old new answer
    go told files texts has (inl is) = run-returns wanted files old mid new last answer sound told some tells
        (subst (λ (r : Result (List NamedText) End). Performs (work (Some (runs wanted)) r) old mid last) is p.performs) texts has
    go told files texts has (inr fails) = faulty (start_of wanted texts) old new answer (files_of (Some (runs wanted)))
        (failed-status (runs wanted) p.read (has_too_many (runs wanted)) old mid new last answer fails p.performs tells)
returns-ended (Some shows) shelf old mid new last answer some sound p tells = tt
returns-ended (Some (lists_rules agent)) shelf old mid new last answer some sound p tells = tt
returns-ended (Some (decides agent packets)) shelf old mid new last answer some sound p tells = tt
returns-ended (Some (shadows agent)) shelf old mid new last answer some sound p tells = tt
returns-ended (Some (rehearses positions)) shelf old mid new last answer some sound p tells = tt
returns-ended (Some (audits engine filters)) shelf old mid new last answer some sound p tells = tt
