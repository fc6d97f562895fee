-- Where a call says that its run waits, the clock stands before what it was asked for.
use Rattle.std.proofs.Common.{◌≡◌, ◌⊎◌, inl, inr, ◌∙◌, refl, sym, ap, subst, arith, ℕ, ◌<◌, Bool, true, false, List, [], ◌∷◌, Option, Some, None, Result, Ok, Err}
use Rattle.std.specs.Prelude.{if◌then◌else◌}
use Rattle.serde_json.specs.Data.{Data}
use Rattle.cacao_site.specs.View.{SiteView}
use Rattle.flow_core_rules.specs.Givens.{Given}
use Rattle.flow_engine_answers.specs.declared.answers.OperatorAnswer.{OperatorAnswer}
use Rattle.flow_world_steps.specs.Causes.{IsShort, Shows}
use Rattle.flow_world_steps.specs.Worlds.{Phase}
use Rattle.flow_world.specs.Sessions.{HasClosed}
use Rattle.flow_world.specs.Close.{Close}
use Rattle.flow_world.specs.Close.TheVariants as close
use Rattle.flow_world.specs.WorldError.{WorldError}
use Rattle.flow_world.specs.WorldError.TheVariants as error
use Rattle.cacao_cli_words.specs.Requests.{RunRequest}
use Rattle.cacao_cli_ends.specs.Asked.{Asked, canonises, checks, runs, shows, lists_rules, decides, shadows, rehearses, audits}
use Rattle.cacao_cli_status_laws.specs.Ended.{Ended}
use Rattle.cacao_cli_ends.specs.Ends.{End, status_of, past}
use Rattle.cacao_cli_status_laws.specs.Exact.{HasStatus, IsSettled}
use Rattle.cacao_cli_ends.specs.Comes.{IsOneOf}
use Rattle.cacao_cli_ends.specs.Files.{Files, NamedText, Reads, ShelfCall, files_of, has_too_many}
use Rattle.cacao_cli_session_laws.specs.Holding.{ClosesSo, RefusesSo, close_end, error_end}
use Rattle.cacao_cli_ends.specs.Lines.{SaysAtMostALine}
use Rattle.cacao_cli_status_laws.specs.Clocks.{StandsShort}
use Rattle.cacao_cli_ends.specs.Work.{Start, ends, starts, or_end, start_of, trees_wanted, work, work_on}
use Rattle.cacao_cli_ends.specs.declared.limit.Limit.TheVariants.{BookCount}
use Rattle.cacao_cli_status_laws.proofs.AnswerLemmas.{never}
use Rattle.cacao_cli_ends.proofs.TreeCases.{TreesCase, all_trees, one_treeless, trees_case}
use Rattle.cacao_cli_status_laws.proofs.CountLemmas.{read-status}
use Rattle.cacao_cli_status_laws.proofs.ExactLemmas.{Comes, performs-comes}
use Rattle.cacao_cli_status_laws.proofs.JudgedLemmas.{start-settled}
use Rattle.cacao_cli_ends.proofs.LineLemmas.{IsCutOff}
use Rattle.cacao_cli_ends.proofs.ReadLemmas.{Read}
use Rattle.cacao_cli_ends.proofs.StatusLists.{not-among, widen}

-- ---- a session

closed-short : (moment : ℕ) (given : Given) (run most : ℕ) (answers : List OperatorAnswer) (old new : SiteView) → HasClosed (close.Waiting moment) given run most answers old new → new.clock.now < new.clock.asked
closed-short moment given run most answers old new h =
    let short : IsShort h.went.start h.went.to moment = subst (λ (p : Phase). Shows p h.went.start h.went.to) h.closes h.went.cause.shows in
    let there : h.went.to.site.clock.now < h.went.to.site.clock.asked = subst (λ (n : ℕ). h.went.to.site.clock.now < n) (sym short.asked) short.short in
    subst (λ (s : SiteView). s.clock.now < s.clock.asked) h.went.to_is there

how-short : (how : Close) (given : Given) (run most : ℕ) (answers : List OperatorAnswer) (old new : SiteView) → status_of (close_end how) ≡ 14 → HasClosed how given run most answers old new → new.clock.now < new.clock.asked
how-short (close.Waiting moment) given run most answers old new e h = closed-short moment given run most answers old new h
how-short (close.Ended true) given run most answers old new e h = absurd (omega (arith, e))
how-short (close.Ended false) given run most answers old new e h = absurd (omega (arith, e))
how-short close.Paused given run most answers old new e h = absurd (omega (arith, e))
how-short close.Flooded given run most answers old new e h = absurd (omega (arith, e))
how-short (close.Asked issue) given run most answers old new e h = absurd (omega (arith, e))

no-refusal : (why : WorldError) → status_of (error_end why) ≡ 14 → ⊥
no-refusal error.Disk e = omega (arith, e)
no-refusal (error.Damaged file place) e = omega (arith, e)
no-refusal (error.OtherRun held asked) e = omega (arith, e)
no-refusal (error.OtherBook index) e = omega (arith, e)
no-refusal (error.RunUsed agent) e = omega (arith, e)
no-refusal (error.Limit what) e = omega (arith, e)
no-refusal error.Say e = omega (arith, e)
no-refusal error.Memory e = omega (arith, e)

said-short : (mid new : SiteView) → SaysAtMostALine mid new → mid.clock.now < mid.clock.asked → new.clock.now < new.clock.asked
said-short mid new (inl is) short = subst (λ (s : SiteView). s.clock.now < s.clock.asked) (sym is) short
said-short mid new (inr says) short =
    subst (λ (n : ℕ). n < new.clock.asked) (sym says.time.now) (subst (λ (n : ℕ). mid.clock.now < n) (sym says.time.asked) short)

pub settled-short : (start : Start) (old new : SiteView) (n : ℕ) → IsSettled start old new n → n ≡ 14 → new.clock.now < new.clock.asked
settled-short start old new n t e = said-short t.came.between new t.came.behind (go t.came.session.holds.held)
  where
    go : ClosesSo t.came.session.given start.run start.most t.came.session.answers old t.came.between t.last
        ⊎ RefusesSo t.came.session.given start.run start.most t.came.session.answers old t.came.between t.last → t.came.between.clock.now < t.came.between.clock.asked
    go (inl c) = how-short c.close t.came.session.given start.run start.most t.came.session.answers old t.came.between (sym (t.is ∙ ap status_of c.ends) ∙ e) c.closed
    go (inr r) = absurd (no-refusal r.error (sym (t.is ∙ ap status_of r.ends) ∙ e))

-- ---- run

-- the statuses of a run that came to no session, or was cut off
abbrev pub unsettled : List ℕ
unsettled = 1 ∷ 3 ∷ 4 ∷ 5 ∷ 9 ∷ 10 ∷ 11 ∷ []

-- what holds of each session with this status holds of the call
module _ (wanted : RunRequest) (old new : SiteView) (n : ℕ) (P : Type 0) (apart : IsOneOf n unsettled → ⊥) (by : (start : Start) → IsSettled start old new n → P) where
  texts-settled : (texts : List NamedText) → Comes (work_on (runs wanted) texts) old new n → P
  texts-settled texts h = go (trees_case (trees_wanted wanted texts))
    where
      go : TreesCase (trees_wanted wanted texts) → P
      go (one_treeless name reason t f) = absurd (apart (inr (inr (inr (inl (subst (λ (r : Result (List Data) End). Comes (or_end r (λ roots. starts (start_of wanted texts))) old new n) f h))))))
      go (all_trees roots t f) =
          let has : HasStatus (starts (start_of wanted texts)) old new n = subst (λ (r : Result (List Data) End). Comes (or_end r (λ roots. starts (start_of wanted texts))) old new n) f h in
          by (start_of wanted texts) (start-settled (start_of wanted texts) has (λ five. apart (inr (inr (inr (inl five))))) (λ one. apart (inl one)))

  run-settled : (told : Option Files) (count : ℕ) (read : Read) → Reads told (files_of (Some (runs wanted))) count read → Comes (work (Some (runs wanted)) read) old new n → P
  run-settled told count read reads = go (has_too_many (runs wanted)) read (λ end f. read-status told (files_of (Some (runs wanted))) count read end reads f)
    where
      go : (b : Bool) (r : Read) → ((end : End) → r ≡ Err end → IsOneOf (status_of end) (3 ∷ 4 ∷ 10 ∷ 11 ∷ [])) → Comes (if b then ends [] (past BookCount) else or_end r (work_on (runs wanted))) old new n → P
      go true r each h = absurd (apart (inr (inr (inr (inr (inr (inr (inl h))))))))
      go false (Err end) each h = absurd (apart (subst (λ (k : ℕ). IsOneOf k unsettled) (sym h) (widen (status_of end) (3 ∷ 4 ∷ 10 ∷ 11 ∷ []) unsettled refl (each end refl))))
      go false (Ok texts) each h = texts-settled texts h

  pub ended-settled : (shelf : ShelfCall) → Ended (Some (runs wanted)) shelf old new n → P
  ended-settled shelf h = go (performs-comes (work (Some (runs wanted)) h.performed.read) old h.between new h.last n h.performed.performs h.tells)
    where
      go : Comes (work (Some (runs wanted)) h.performed.read) old new n ⊎ IsCutOff n → P
      go (inl c) = run-settled shelf.told h.performed.reads.count h.performed.read h.performed.reads.reads c
      go (inr (inl f)) = absurd (apart (inr (inr (inr (inr (inl f))))))
      go (inr (inr (inl f))) = absurd (apart (inr (inr (inr (inr (inr (inl f)))))))
      go (inr (inr (inr x))) = absurd x

pub short-ended : (asked : Option Asked) (shelf : ShelfCall) (old new : SiteView) (answer : ℕ) → Ended asked shelf old new answer → answer ≡ 14 → StandsShort asked new
short-ended None shelf old new answer h e = never None shelf old new answer 14 refl h e
short-ended (Some (canonises book)) shelf old new answer h e = never (Some (canonises book)) shelf old new answer 14 refl h e
short-ended (Some (checks books)) shelf old new answer h e = never (Some (checks books)) shelf old new answer 14 refl h e
short-ended (Some shows) shelf old new answer h e = never (Some shows) shelf old new answer 14 refl h e
short-ended (Some (lists_rules agent)) shelf old new answer h e = never (Some (lists_rules agent)) shelf old new answer 14 refl h e
short-ended (Some (decides agent packets)) shelf old new answer h e = never (Some (decides agent packets)) shelf old new answer 14 refl h e
short-ended (Some (shadows agent)) shelf old new answer h e = never (Some (shadows agent)) shelf old new answer 14 refl h e
short-ended (Some (audits engine filters)) shelf old new answer h e = never (Some (audits engine filters)) shelf old new answer 14 refl h e
short-ended (Some (runs wanted)) shelf old new answer h e = ended-settled wanted old new answer (new.clock.now < new.clock.asked)
    (λ one. not-among 14 unsettled refl (subst (λ (k : ℕ). IsOneOf k unsettled) e one)) (λ start t. settled-short start old new answer t e) shelf h
short-ended (Some (rehearses positions)) shelf old new answer h e = never (Some (rehearses positions)) shelf old new answer 14 refl h e
