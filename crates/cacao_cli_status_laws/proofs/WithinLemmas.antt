-- Where the disk did not fail, the engine's file keeps its records, and has at most as many more as one session may append; and
-- each agent's file keeps its acts.
use Rattle.std.proofs.Common.{◌≡◌, ◌⊎◌, inl, inr, ◌∙◌, refl, sym, ap, subst, arith, ℕ, Bool, true, false, List, [], ◌++◌, append-nil, Some, Result, Ok, Err}
use Rattle.std.specs.Prelude.{IsTrue, if◌then◌else◌}
use Rattle.serde_json.specs.Data.{Data}
use Rattle.cacao_site.specs.Counts.{DidNotRise, Rose}
use Rattle.cacao_site.specs.Sound.{IsSound}
use Rattle.cacao_site.specs.View.{SiteView}
use Rattle.run_records.specs.declared.record.Record.{Record}
use Rattle.flow_core_rules.specs.Givens.{Given}
use Rattle.flow_engine_answers.specs.declared.answers.OperatorAnswer.{OperatorAnswer}
use Rattle.flow_laws.specs.Images.{IsRecords}
use Rattle.flow_laws.proofs.OneList.{same_records}
use Rattle.flow_world_steps.specs.Causes.{Shows}
use Rattle.flow_world_steps.specs.Unbroken.{IsJournalSure}
use Rattle.flow_world_steps.specs.Unsure.{UnsureByStep}
use Rattle.flow_world_steps.specs.Worlds.{Phase}
use Rattle.flow_world.specs.Openings.{RefusesOpening}
use Rattle.flow_world.specs.Sessions.{HasRefused, Went}
use Rattle.flow_world.specs.WorldError.{WorldError}
use Rattle.cacao_cli_words.specs.Requests.{RunRequest}
use Rattle.cacao_cli_ends.specs.Asked.{runs}
use Rattle.cacao_cli_status_laws.specs.Ended.{Performs}
use Rattle.cacao_cli_ends.specs.Ends.{End, past}
use Rattle.cacao_cli_ends.specs.Files.{NamedText, has_too_many}
use Rattle.cacao_cli_session_laws.specs.Holding.{ClosesSo, RefusesSo}
use Rattle.cacao_cli_ends.specs.Lines.{SaysAtMostALine}
use Rattle.cacao_cli_session_laws.specs.Returning.{HasMore, KeepsActs, KeepsRecords}
use Rattle.cacao_cli_ends.specs.Work.{Start, Work, ends, judges, opens_filter, opens_run, compares, rehearsals, starts, or_end, start_of, trees_of, trees_wanted, work, work_on}
use Rattle.cacao_cli_ends.specs.declared.limit.Limit.TheVariants.{BookCount}
use Rattle.cacao_cli_ends.proofs.TreeCases.{TreesCase, all_trees, one_treeless, trees_case}
use Rattle.cacao_cli_session_laws.proofs.ExpireLemmas.{disk-or-not, journal-rose}
use Rattle.cacao_cli_session_laws.proofs.KeptActs.{acts-behind, refused-acts, same-acts-kept, went-acts}
use Rattle.cacao_cli_status_laws.proofs.LeaveLemmas.{silent-same}
use Rattle.cacao_cli_ends.proofs.ReadLemmas.{Read}
use Rattle.cacao_cli_session_laws.proofs.ReturnedRuns.{gains-added, had-records, sound-reads}

rose-not : (old mid : ℕ) → Rose old mid → DidNotRise old mid → ⊥
rose-not old mid rose still_ = omega (arith, rose, still_.0, still_.1)

-- ---- the work of `run`

-- it says nothing, or starts a session with this budget
abbrev pub IsOfRun : ℕ → Work → Type 0
IsOfRun most (ends lines end) = lines ≡ []
IsOfRun most (judges trees mode accepted) = ⊥
IsOfRun most (opens_filter agent look) = ⊥
IsOfRun most opens_run = ⊥
IsOfRun most (compares files) = ⊥
IsOfRun most (rehearsals positions) = ⊥
IsOfRun most (starts start) = start.most ≡ most

texts-of-run : (wanted : RunRequest) (texts : List NamedText) → IsOfRun wanted.most (work_on (runs wanted) texts)
texts-of-run wanted texts = by (trees_case (trees_wanted wanted texts))
  where
    by : TreesCase (trees_wanted wanted texts) → IsOfRun wanted.most (or_end (trees_of (trees_wanted wanted texts)) (λ roots. starts (start_of wanted texts)))
    by (all_trees roots r e) = subst (λ (r : Result (List Data) End). IsOfRun wanted.most (or_end r (λ roots. starts (start_of wanted texts)))) (sym e) refl
    by (one_treeless name reason r e) = subst (λ (r : Result (List Data) End). IsOfRun wanted.most (or_end r (λ roots. starts (start_of wanted texts)))) (sym e) refl

pub work-of-run : (wanted : RunRequest) (read : Read) → IsOfRun wanted.most (work (Some (runs wanted)) read)
work-of-run wanted read = by (has_too_many (runs wanted)) read
  where
    by : (b : Bool) (r : Read) → IsOfRun wanted.most (if b then ends [] (past BookCount) else or_end r (work_on (runs wanted)))
    by true r = refl
    by false (Err end) = refl
    by false (Ok texts) = texts-of-run wanted texts

-- the records of the engine's file and the acts of each agent's
abbrev pub Keeps : ℕ → SiteView → SiteView → Type 0
Keeps most old mid = KeepsRecords most old mid × KeepsActs old mid

-- ---- sessions

module _ (old mid : SiteView) (sound : IsSound mid) (told : IsTrue mid.disk.told) where
  -- the file reads as before
  same-keeps : (most : ℕ) → mid.disk.reads 0 ≡ old.disk.reads 0 → KeepsRecords most old mid
  same-keeps most same still_ records are = record {
    added = [];
    has = subst (IsRecords (mid.disk.reads 0)) (sym (append-nil records)) (subst (λ (image : List ℕ). IsRecords image records) (sym same) are);
    within = omega arith;
  }

  refused-keeps : (why : WorldError) (given : Given) (run most : ℕ) → RefusesOpening why given run old mid → KeepsRecords most old mid
  refused-keeps why given run most (inl first) = λ still_. elim (disk-or-not why) [
    | inl failed ↦ absurd (rose-not old.disk.faults mid.disk.faults (journal-rose why given run old mid first failed) still_)
    | inr other ↦ same-keeps most (first.reads other) still_
  ]
  refused-keeps why given run most (inr second) =
      let last = second.refuses in
      same-keeps most ((last.refuses.opens.only.others 0 (λ e. omega (arith, e))).reads ∙ (last.before.others 0 (inl refl)).reads ∙ second.journal.reads)

  went-keeps : (given : Given) (run most : ℕ) (answers : List OperatorAnswer) → Went given run most answers old mid → KeepsRecords most old mid
  went-keeps given run most answers went still_ records are = by went.sums.unbroken.journal
    where
      first : List Record
      first = went.start.engine.history.records

      same : first ≡ records
      same = same_records (old.disk.reads 0) first records (had-records given run most answers old mid (sound-reads mid sound) told went) are

      rose : (r : Record) → UnsureByStep went.start went.to r → ⊥
      rose r h =
          let shows : Rose went.start.site.disk.faults went.to.site.disk.faults = subst (λ (p : Phase). Shows p went.start went.to) h.phase went.cause.shows in
          let before : went.start.site.disk.faults ≡ old.disk.faults = went.files.others.steady ∙ went.files.journal.steady in
          let after : went.to.site.disk.faults ≡ mid.disk.faults = ap (λ (s : SiteView). s.disk.faults) went.to_is in
          rose-not old.disk.faults mid.disk.faults (subst (λ (n : ℕ). Rose n mid.disk.faults) before (subst (λ (n : ℕ). Rose went.start.site.disk.faults n) after shows)) still_

      by : IsJournalSure went.to ⊎ ((r : Record) × UnsureByStep went.start went.to r) → HasMore most records mid
      by (inl sure) =
          let budget = went.sums.budget in
          record {
            added = went.sums.adds.added;
            has = subst (λ (l : List Record). IsRecords (mid.disk.reads 0) (l ++ went.sums.adds.added)) same (gains-added given run most answers old mid (sound-reads mid sound) told went sure).has;
            within = omega (arith, budget);
          }
      by (inr h) = absurd (rose h.0 h.1)

  session-keeps : (given : Given) (run most : ℕ) (answers : List OperatorAnswer) → Went given run most answers old mid → Keeps most old mid
  session-keeps given run most answers went = (went-keeps given run most answers went, went-acts old mid sound told given run most answers went)

  refused-session : (why : WorldError) (given : Given) (run most : ℕ) (answers : List OperatorAnswer) → HasRefused why given run most answers old mid → Keeps most old mid
  refused-session why given run most answers (inl opening) = (refused-keeps why given run most opening, refused-acts why given run old mid opening)
  refused-session why given run most answers (inr later) = session-keeps given run most answers later.went

  done-nothing : (most : ℕ) → mid ≡ old → Keeps most old mid
  done-nothing most same = (
    same-keeps most (ap (λ (s : SiteView). s.disk.reads 0) same),
    λ still_ agent is before are. same-acts-kept old mid agent (ap (λ (s : SiteView). s.disk.reads agent) same) before are,
  )

  -- ---- and `run`

  started-keeps : (start : Start) (last : End) → Performs (starts start) old mid last → Keeps start.most old mid
  started-keeps start last (inl h) = done-nothing start.most h.same
  started-keeps start last (inr (inl h)) = done-nothing start.most h.same
  started-keeps start last (inr (inr (inl h))) = done-nothing start.most h.same
  started-keeps start last (inr (inr (inr (inl h)))) = by h.holds.held
    where
      by : ClosesSo h.given start.run start.most h.answers old mid last ⊎ RefusesSo h.given start.run start.most h.answers old mid last → Keeps start.most old mid
      by (inl c) = session-keeps h.given start.run start.most h.answers c.closed.went
      by (inr r) = refused-session r.error h.given start.run start.most h.answers r.why
  started-keeps start last (inr (inr (inr (inr h)))) = done-nothing start.most h.same

  work-keeps : (most : ℕ) (w : Work) (last : End) → IsOfRun most w → Performs w old mid last → Keeps most old mid
  work-keeps most (ends lines end) last is p = done-nothing most (silent-same end old mid last (subst (λ (l : List (List ℕ)). Performs (ends l end) old mid last) is p))
  work-keeps most (judges trees mode accepted) last is p = absurd is
  work-keeps most (opens_filter agent look) last is p = absurd is
  work-keeps most opens_run last is p = absurd is
  work-keeps most (compares files) last is p = absurd is
  work-keeps most (rehearsals positions) last is p = absurd is
  work-keeps most (starts start) last is p = subst (λ (n : ℕ). Keeps n old mid) is (started-keeps start last p)

  pub run-keeps : (wanted : RunRequest) (read : Read) (last : End) → Performs (work (Some (runs wanted)) read) old mid last → Keeps wanted.most old mid
  run-keeps wanted read last p = work-keeps wanted.most (work (Some (runs wanted)) read) last (work-of-run wanted read) p

-- the last line leaves it so
records-behind : (most : ℕ) (old mid new : SiteView) → SaysAtMostALine mid new → KeepsRecords most old mid → KeepsRecords most old new
records-behind most old mid new (inl is) keeps = subst (λ (s : SiteView). KeepsRecords most old s) (sym is) keeps
records-behind most old mid new (inr says) keeps = λ still_ records are.
    let k = keeps (subst (λ (n : ℕ). DidNotRise old.disk.faults n) says.disk.faults still_) records are in
    record {
      added = k.added;
      has = subst (λ (image : List ℕ). IsRecords image (records ++ k.added)) (sym (says.disk.stays 0).reads) k.has;
      within = k.within;
    }

pub keeps-behind : (most : ℕ) (old mid new : SiteView) → SaysAtMostALine mid new → Keeps most old mid → Keeps most old new
keeps-behind most old mid new behind keeps = (records-behind most old mid new behind keeps.0, acts-behind old mid new behind keeps.1)
