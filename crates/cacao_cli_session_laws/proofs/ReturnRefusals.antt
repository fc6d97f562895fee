-- What the status of a session that refused and the engine's file tell of each other.
use Rattle.std.proofs.Common.{◌≡◌, ◌≢◌, ◌⊎◌, inl, inr, ◌∙◌, refl, sym, ap, subst, ℕ, ◌+◌, ◌≤◌, List, [], ◌∷◌, Bool, true, false, Some, None, arith}
use Rattle.std.specs.Prelude.{IsTrue}
use Rattle.cacao_check.specs.Fits.{FitsKind}
use Rattle.cacao_site.specs.DiskCalls.{IsDurable, StaysAt}
use Rattle.cacao_site.specs.View.{DiskView, LinkView, SiteView}
use Rattle.run_records.specs.declared.record.Record.{Record}
use Rattle.flow_core.specs.Setups.{AreAccepted}
use Rattle.flow_core.specs.Views.{blank_shown}
use Rattle.flow_core.specs.declared.flow_errors.LimitKind.{LimitKind}
use Rattle.flow_core.specs.declared.flow_errors.LimitKind.TheVariants as limit
use Rattle.flow_core_rules.specs.Accepted.{Accepted}
use Rattle.flow_core_rules.specs.Changes.{outcome}
use Rattle.flow_core_rules.specs.Givens.{Given}
use Rattle.flow_core_rules.specs.State.{Shown}
use Rattle.flow_engine_history.specs.HistoryView.{HoldsRecords}
use Rattle.flow_engine_history.specs.Histories.{IsSoFar}
use Rattle.flow_engine_history.specs.Laws.{HoldsRun}
use Rattle.flow_engine_history.specs.Openings.{IsRefusedOpening, RefusesAsEntries, RefusesImage}
use Rattle.flow_engine_answers.specs.declared.answers.OperatorAnswer.{OperatorAnswer}
use Rattle.flow_engine_history.specs.declared.error.EngineError.{EngineError}
use Rattle.flow_engine_history.specs.declared.error.EngineError.TheVariants as refusal
use Rattle.flow_engine_history.proofs.RefusalLaws.{no_run_where_refused, one_refusal}
use Rattle.flow_laws.specs.Images.{IsRecords}
use Rattle.flow_laws.proofs.OneList.{stands_empty}
use Rattle.flow_world_steps.specs.Unbroken.{IsJournalSure}
use Rattle.flow_world_steps.specs.Worlds.{Cause, disk_failed, not_said, past, run_used, wants_memory}
use Rattle.flow_world.specs.Closes.{IsRefusal, refusal_of}
use Rattle.flow_world.specs.Errors.{opening_refusal}
use Rattle.flow_world.specs.Openings.{IsFileCause, RefusesJournal, RefusesSecond}
use Rattle.flow_world.specs.Sessions.{HasRefused, RefusesLater}
use Rattle.flow_world.specs.WorldError.{WorldError}
use Rattle.flow_world.specs.WorldError.TheVariants as error
use Rattle.cacao_cli_ends.specs.Ends.{status_of}
use Rattle.cacao_cli_session.specs.Holding.{AreAnswers, error_end}
use Rattle.cacao_cli_session_laws.specs.Returning.{BeginsAnother, FindsUsed, GainsRecords, HasDamagedFilter, LeavesRecords, ReadsTooLarge, ReturnsSo}
use Rattle.cacao_cli_ends.specs.Work.{Start}
use Rattle.cacao_cli_session_laws.proofs.ApartLemmas.{asked-past}
use Rattle.cacao_cli_session_laws.proofs.FloodLemmas.{same-not}
use Rattle.cacao_cli_session_laws.proofs.HandLemmas.{passes-in-hand}
use Rattle.cacao_cli_session_laws.proofs.LimitLemmas.{would-pass}
use Rattle.cacao_cli_session_laws.proofs.PastLemmas.{past-whole}
use Rattle.cacao_cli_session_laws.proofs.ReturnedRuns.{ReadsImages, empty-same, filter-whole, first-least, first-used, kept-within, not-another, not-spent, opened-none, past-more, past-unused, reads-run, refuses-sure, sure-holds, used, used-filters}
use Rattle.cacao_cli_session_laws.proofs.ReturnTurns.{empty-not, turns-another, turns-damaged, turns-past}
use Rattle.cacao_cli_session_laws.proofs.ReturnTells.{behind-faults, durable-leaves, fault-returns, not-closing, not-reaching, tells-past}
use Rattle.cacao_cli_session_laws.proofs.ReturnFiles.{FileRest, begins-as, damaged-as, going-file, large-as, reads-as, rest-of-run, returns-besides}

-- with all files open nothing refuses as another run
no-other-run : (held asked : ℕ) (cause : Cause) → error.OtherRun held asked ≡ refusal_of cause → ⊥
no-other-run held asked disk_failed e = cc
no-other-run held asked not_said e = cc
no-other-run held asked (run_used agent) e = cc
no-other-run held asked (past what) e = cc
no-other-run held asked wants_memory e = cc

no-damage : (file place : ℕ) (cause : Cause) → error.Damaged file place ≡ refusal_of cause → ⊥
no-damage file place disk_failed e = cc
no-damage file place not_said e = cc
no-damage file place (run_used agent) e = cc
no-damage file place (past what) e = cc
no-damage file place wants_memory e = cc

no-other-book : (index : ℕ) (cause : Cause) → error.OtherBook index ≡ refusal_of cause → ⊥
no-other-book index disk_failed e = cc
no-other-book index not_said e = cc
no-other-book index (run_used agent) e = cc
no-other-book index (past what) e = cc
no-other-book index wants_memory e = cc

-- only a failed disk refuses an opening as a failed disk
only-disk : (why : EngineError) → opening_refusal why ≡ error.Disk → why ≡ refusal.Disk
only-disk refusal.Disk e = refl
only-disk (refusal.Damaged place) e = absurd (cc)
only-disk (refusal.OtherRun held asked) e = absurd (cc)
only-disk (refusal.OtherBook index) e = absurd (cc)
only-disk (refusal.Limit what) e = absurd (cc)
only-disk refusal.Memory e = absurd (cc)
only-disk refusal.Broken e = absurd (cc)

module _ (start : Start) (old mid : SiteView) (sound : ReadsImages mid) (told : IsTrue mid.disk.told) (given : Given) (accepted : Accepted AreAccepted FitsKind start.books start.bind given) (some : 1 ≤ start.most) where
  -- ---- refusals behind the opening

  module _ (answers : List OperatorAnswer) (are : AreAnswers start answers) where
    later : (why : WorldError) (answer : ℕ) → answer ≡ status_of (error_end why) → RefusesLater why given start.run start.most answers old mid → ReturnsSo start old mid answer
    later why answer is h = go (refuses-sure given start.run start.most answers old mid sound told h.went why h.refuses)
      where
        sure-later : (why : WorldError) → answer ≡ status_of (error_end why) → IsRefusal why h.went.to → IsJournalSure h.went.to → ReturnsSo start old mid answer
        sure-later why is refuses sure = by why is refuses
          where
            holds : HoldsRun given start.run (mid.disk.reads 0)
            holds = sure-holds given start.run start.most answers old mid sound told h.went sure

            -- a crash leaves the records
            crash : LeavesRecords mid
            crash = (kept-within given start.run start.most answers old mid sound told h.went start refl sure).crash

            by : (why : WorldError) → answer ≡ status_of (error_end why) → IsRefusal why h.went.to → ReturnsSo start old mid answer
            by error.Disk is r = fault-returns start old mid answer (inr (inr (inl is)))
            by (error.Damaged file place) is r = absurd (no-damage file place r.cause r.is)
            by (error.OtherRun held asked) is r = absurd (no-other-run held asked r.cause r.is)
            by (error.OtherBook index) is r = absurd (no-other-book index r.cause r.is)
            by (error.RunUsed agent) is r =
                let first = first-used given start.run start.most answers old mid sound told h.went agent r in
                let acts = used given start.run start.most answers old mid sound told h.went agent r in
                let blank : holds.records ≡ [] = first.empty in
                let out : outcome holds.seen.lists ≡ None = ap (λ (s : Shown). outcome s.lists) (subst (λ (l : List Record). IsSoFar l holds.seen) blank holds.so_far) in
                let whole : HasDamagedFilter start mid → ⊥ = λ d.
                filter-whole given start.run start.most answers old mid sound told h.went (used-filters given start.run start.most answers old mid sound told h.went agent r)
                d.agent d.place d.of_agent d.damaged in
                record {
                  of_status = record {
                    well = λ e. absurd (omega (arith, e, is));
                    failed = λ e. absurd (omega (arith, e, is));
                    pauses = λ e. absurd (omega (arith, e, is));
                    floods = λ e. absurd (omega (arith, e, is));
                    asks = λ e. absurd (omega (arith, e, is));
                    waits = λ e. absurd (omega (arith, e, is));
                    another = λ e. inr (
                      record {
                        used = record {
                          given = given;
                          accepted = accepted;
                          blank = subst (IsRecords (mid.disk.reads 0)) blank (reads-run given start.run mid holds).reads;
                          agent = agent;
                          of_agent = (first.low, first.high);
                          acts = acts.acts;
                          are = acts.are;
                          has = acts.has;
                        };
                        least = first-least given start.run start.most answers old mid sound told h.went agent r;
                      },
                      whole,
                    );
                    damaged = λ e. absurd (omega (arith, e, is));
                    past = λ e. absurd (omega (arith, e, is));
                    kept = λ one. absurd (not-closing answer 12 refl is one);
                    reached = λ one. absurd (not-reaching answer 12 refl is one);
                    left = λ one. crash;
                  };
                  of_file = going-file start old mid given accepted some holds.seen answer (reads-run given start.run mid holds) out (inr (inl is))
                      (λ some g. absurd (not-spent given start.run start.most answers old mid sound told h.went some sure
                      (empty-same given start.run start.most answers old mid sound told h.went first.empty) g))
                      (rest-of-run start mid given accepted answer holds (λ d. absurd (whole d)) (λ u. inl is));
                  of_turn = turns-another start old mid answer is (empty-not start old mid sound told given (reads-as start mid given accepted) answers h.went sure first.empty);
                }
            by (error.Limit what) is r = returns-besides start old mid some answer (turns-past start old mid answer is
                (λ a. inr (asked-past start old mid a (would-pass start old mid sound told given accepted answers are h.went sure what r)))
                (passes-in-hand start old mid sound told given accepted answers are h.went sure what r)) (tells-past start old mid answer is crash
                (inr (would-pass start old mid sound told given accepted answers are h.went sure what r))) (inl is)
                (λ some g. not-spent given start.run start.most answers old mid sound told h.went some sure
                (past-more given start.run start.most answers old mid sound told h.went what r) g)
                (rest-of-run start mid given accepted answer holds (λ d. absurd (past-whole given start.run start.most answers old mid sound told h.went what r d.agent d.place d.of_agent d.damaged))
                (λ u. absurd (past-unused given start.run start.most answers old mid sound told h.went what r sure
                (record { blank = u.blank; agent = u.agent; of_agent = u.of_agent; acts = u.acts; are = u.are; has = u.has }))))
            by error.Say is r = fault-returns start old mid answer (inr (inr (inr (inl is))))
            by error.Memory is r = fault-returns start old mid answer (inr (inr (inr (inr (inl is)))))

        go : IsJournalSure h.went.to ⊎ (why ≡ error.Disk) → ReturnsSo start old mid answer
        go (inl sure) = sure-later why is h.refuses sure
        go (inr e) = fault-returns start old mid answer (inr (inr (inl (is ∙ ap (λ (w : WorldError). status_of (error_end w)) e))))

  -- ---- refusals of the opening

  abbrev refuses : EngineError → Type 0
  refuses why = RefusesImage given start.run (mid.disk.reads 0) why

  same-why : (a b : EngineError) → RefusesImage given start.run (mid.disk.reads 0) a → RefusesImage given start.run (mid.disk.reads 0) b → a ≡ b
  same-why a b p q = one_refusal given start.run (mid.disk.reads 0) a b p q

  -- a file without records holds a run that has not begun
  empty-run : FindsUsed start mid → HoldsRun given start.run (mid.disk.reads 0)
  empty-run u = record {
    records = [];
    seen = blank_shown given start.run;
    holds = stands_empty (mid.disk.reads 0) u.blank;
    ranges = tt;
    given_is = refl;
    run_is = refl;
    so_far = refl;
    tasks = omega arith;
  }

  told-journal : (why : WorldError) → RefusesJournal why given start.run old mid → IsTrue old.disk.told
  told-journal why h = subst (λ (b : Bool). IsTrue b) h.opens.only.each.goes_on.told told

  told-second : (why : WorldError) → RefusesSecond why given start.run old mid → IsTrue old.disk.told
  told-second why h = subst (λ (b : Bool). IsTrue b) (h.refuses.refuses.opens.only.each.goes_on.told ∙ h.refuses.before.goes_on.told ∙ h.journal.opens.only.each.goes_on.told) told

  -- the file gained nothing where it was only opened
  opened-more : mid.disk.reads 0 ≡ old.disk.reads 0 → 1 ≤ start.most → GainsRecords start.most old mid → ⊥
  opened-more same some g = let none = opened-none start.most old mid same g in omega (arith, some, none)

  -- the file is told as refused otherwise
  refused-other : (why : EngineError) → RefusesImage given start.run (mid.disk.reads 0) why → ((held : ℕ) → refusal.OtherRun held start.run ≡ why → ⊥) → ((index : ℕ) → refusal.OtherBook index ≡ why → ⊥)
      → BeginsAnother given start.run (mid.disk.reads 0) → ⊥
  refused-other why is run book (inl h) = run h.0 (one_refusal given start.run (mid.disk.reads 0) (refusal.OtherRun h.0 start.run) why (inr h.1) is)
  refused-other why is run book (inr h) = book h.0 (one_refusal given start.run (mid.disk.reads 0) (refusal.OtherBook h.0) why (inr h.1) is)

  -- it is damaged, its run is too large, or it is another run's
  rest-damaged : (answer place : ℕ) → answer ≡ 13 → refuses (refusal.Damaged place) → FileRest start mid answer
  rest-damaged answer place is why = record {
    another = λ a. absurd (refused-other (refusal.Damaged place) why (λ held e. cc) (λ index e. cc) (begins-as start mid given accepted a));
    damaged = λ d. inl is;
    too_large = λ l. absurd (let e = same-why (refusal.Limit limit.Tasks) (refusal.Damaged place) (large-as start mid given accepted l) why in cc);
    filter_damaged = λ d. inl (inl is);
    used = λ u. inr (behind-faults answer (13 ∷ []) (inl is));
  }

  rest-large : (answer : ℕ) (what : LimitKind) → answer ≡ 11 → what ≡ limit.Tasks → refuses (refusal.Limit what) → FileRest start mid answer
  rest-large answer what is tasks why = record {
    another = λ a. absurd (refused-other (refusal.Limit what) why (λ held e. cc) (λ index e. cc) (begins-as start mid given accepted a));
    damaged = λ d. absurd (let e = same-why (refusal.Damaged d.place) (refusal.Limit what) (damaged-as start mid given accepted d) why in cc);
    too_large = λ l. inl is;
    filter_damaged = λ d. inr (inl (
      is,
      record {
        given = given;
        accepted = accepted;
        large = subst (λ (k : LimitKind). RefusesImage given start.run (mid.disk.reads 0) (refusal.Limit k)) tasks why;
      },
    ));
    used = λ u. absurd (no_run_where_refused given start.run (mid.disk.reads 0) (refusal.Limit what) why (empty-run u));
  }

  -- it is another run's
  is-another : (answer : ℕ) → answer ≡ 12 → IsDurable 0 mid.disk → BeginsAnother given start.run (mid.disk.reads 0) → ReturnsSo start old mid answer
  is-another answer is durable begins = record {
    of_status = record {
      well = λ e. absurd (omega (arith, e, is));
      failed = λ e. absurd (omega (arith, e, is));
      pauses = λ e. absurd (omega (arith, e, is));
      floods = λ e. absurd (omega (arith, e, is));
      asks = λ e. absurd (omega (arith, e, is));
      waits = λ e. absurd (omega (arith, e, is));
      another = λ e. inl (record { given = given; accepted = accepted; begins = begins });
      damaged = λ e. absurd (omega (arith, e, is));
      past = λ e. absurd (omega (arith, e, is));
      kept = λ one. absurd (not-closing answer 12 refl is one);
      reached = λ one. absurd (not-reaching answer 12 refl is one);
      left = λ one. durable-leaves mid durable;
    };
    of_file = record {
      well = λ r. absurd (not-another given start.run mid r.seen (reads-as start mid given accepted (Some true) r) begins);
      failed = λ r. absurd (not-another given start.run mid r.seen (reads-as start mid given accepted (Some false) r) begins);
      goes_on = λ r. absurd (not-another given start.run mid r.seen (reads-as start mid given accepted None r) begins);
      pauses = λ p. absurd (not-another given start.run mid p.0.seen (reads-as start mid given accepted None p.0) begins);
      another = λ a. inl is;
      damaged = λ d. absurd (refused-other (refusal.Damaged d.place) (damaged-as start mid given accepted d) (λ held e. cc) (λ index e. cc) begins);
      too_large = λ l. absurd (refused-other (refusal.Limit limit.Tasks) (large-as start mid given accepted l) (λ held e. cc) (λ index e. cc) begins);
      filter_damaged = λ d. inr (inr (is, record { given = given; accepted = accepted; begins = begins }));
      used = λ u. inl is;
    };
    of_turn = turns-another start old mid answer is (λ m. not-another given start.run mid m.goes_on.seen (reads-as start mid given accepted None m.goes_on) begins);
  }

  run-entries : (held asked : ℕ) → asked ≡ start.run → RefusesImage given start.run (mid.disk.reads 0) (refusal.OtherRun held asked) → BeginsAnother given start.run (mid.disk.reads 0)
  run-entries held asked e (inl d) = absurd (no d.place d.is)
    where
      no : (place : ℕ) → refusal.OtherRun held asked ≡ refusal.Damaged place → ⊥
      no place e = cc
  run-entries held asked e (inr h) = inl (held, subst (λ (n : ℕ). RefusesAsEntries given start.run (mid.disk.reads 0) (refusal.OtherRun held n)) e h)

  book-entries : (index : ℕ) → RefusesImage given start.run (mid.disk.reads 0) (refusal.OtherBook index) → BeginsAnother given start.run (mid.disk.reads 0)
  book-entries index (inl d) = absurd (no d.place d.is)
    where
      no : (place : ℕ) → refusal.OtherBook index ≡ refusal.Damaged place → ⊥
      no place e = cc
  book-entries index (inr h) = inr (index, h)

  journal-refused : (why : EngineError) (answer : ℕ) → mid.link.taken ≡ old.link.taken → (why ≢ refusal.Disk → mid.disk.reads 0 ≡ old.disk.reads 0) → IsTrue old.disk.told → IsRefusedOpening given start.run why old mid → answer ≡ status_of (error_end (opening_refusal why)) → ReturnsSo start old mid answer
  journal-refused refusal.Disk answer taken same before h is = fault-returns start old mid answer (inr (inr (inl is)))
  journal-refused (refusal.Damaged place) answer taken same before h is =
      returns-besides start old mid some answer (turns-damaged start old mid answer is taken) (record {
        well = λ e. absurd (omega (arith, e, is));
        failed = λ e. absurd (omega (arith, e, is));
        pauses = λ e. absurd (omega (arith, e, is));
        floods = λ e. absurd (omega (arith, e, is));
        asks = λ e. absurd (omega (arith, e, is));
        waits = λ e. absurd (omega (arith, e, is));
        another = λ e. absurd (omega (arith, e, is));
        damaged = λ e. inl (record { given = given; accepted = accepted; place = place; damaged = h.1 before });
        past = λ e. absurd (omega (arith, e, is));
        kept = λ one. absurd (not-closing answer 13 refl is one);
        reached = λ one. absurd (not-reaching answer 13 refl is one);
        left = λ one. durable-leaves mid h.0;
      }) (inr (inl is)) (opened-more (same (λ e. cc))) (rest-damaged answer place is (h.1 before))
  journal-refused (refusal.OtherRun held asked) answer taken same before h is = is-another answer is h.2.0 (run-entries held asked h.1 (h.2.1 before))
  journal-refused (refusal.OtherBook index) answer taken same before h is = is-another answer is h.0 (book-entries index (h.1 before))
  journal-refused (refusal.Limit what) answer taken same before h is =
      let large : ReadsTooLarge start mid = record {
        given = given;
        accepted = accepted;
        large = subst (λ (k : LimitKind). RefusesImage given start.run (mid.disk.reads 0) (refusal.Limit k)) h.0 (h.1.1 before);
      } in
      returns-besides start old mid some answer (turns-past start old mid answer is (λ a. inl large) (λ f some. absurd (same-not start old mid taken f some)))
      (tells-past start old mid answer is (durable-leaves mid h.1.0) (inl large)) (inl is) (opened-more (same (λ e. cc))) (rest-large answer what is h.0 (h.1.1 before))
  journal-refused refusal.Memory answer taken same before h is = fault-returns start old mid answer (inr (inr (inr (inr (inl is)))))
  journal-refused refusal.Broken answer taken same before h is = absurd h

  told-middle : (why : WorldError) (h : RefusesSecond why given start.run old mid) → IsTrue h.refuses.middle.disk.told
  told-middle why h = subst (λ (b : Bool). IsTrue b) h.refuses.refuses.opens.only.each.goes_on.told told

  same-second : (why : WorldError) (h : RefusesSecond why given start.run old mid) → mid.disk.reads 0 ≡ h.middle.disk.reads 0
  same-second why h = (h.refuses.refuses.opens.only.others 0 (λ e. omega (arith, e))).reads ∙ (h.refuses.before.others 0 (inl refl)).reads

  -- what leaves a file as it was leaves what a crash leaves of it
  durable-stays : (a b : DiskView) → StaysAt a b 0 → a.beat ≤ b.beat → IsDurable 0 a → IsDurable 0 b
  durable-stays a b stays later durable image left =
      durable image (subst IsTrue (stays.images b.beat image later (omega arith)) left) ∙ sym stays.reads

  durable-second : (why : WorldError) → RefusesSecond why given start.run old mid → IsDurable 0 mid.disk
  durable-second why h =
      durable-stays h.refuses.middle.disk mid.disk (h.refuses.refuses.opens.only.others 0 (λ e. omega (arith, e))) h.refuses.refuses.opens.only.each.goes_on.later
      (durable-stays h.middle.disk h.refuses.middle.disk (h.refuses.before.others 0 (inl refl)) h.refuses.before.goes_on.later h.journal.durable)

  second-holds : (why : WorldError) → RefusesSecond why given start.run old mid → HoldsRun given start.run (mid.disk.reads 0)
  second-holds why h =
      let whole = h.journal.whole in
      record {
        records = h.v.history.records;
        seen = h.v.history.seen;
        holds = subst (λ (image : List ℕ). HoldsRecords h.v.history.records image) (sym (same-second why h)) (h.journal.stands (told-second why h));
        ranges = whole.engine.history.ranges;
        given_is = h.journal.given_is;
        run_is = h.journal.of_run;
        so_far = whole.engine.history.so_far;
        tasks = whole.engine.history.tasks;
      }

  second-refused : (why : WorldError) (answer : ℕ) → answer ≡ status_of (error_end why) → RefusesSecond why given start.run old mid → ReturnsSo start old mid answer
  second-refused why answer is h = by why is h.refuses.refuses.why
    where
      holds : HoldsRun given start.run (mid.disk.reads 0)
      holds = second-holds why h

      by : (w : WorldError) → answer ≡ status_of (error_end w) → IsFileCause w (h.refuses.agent + 1) h.refuses.middle mid → ReturnsSo start old mid answer
      by error.Disk is c = fault-returns start old mid answer (inr (inr (inl is)))
      by (error.Damaged file place) is c =
          let high = h.refuses.high in
          let taken : mid.link.taken ≡ old.link.taken = ap (λ (l : LinkView). l.taken)
          (h.refuses.refuses.opens.only.rest.link ∙ h.refuses.before.rest.link ∙ h.journal.opens.only.rest.link) in
          returns-besides start old mid some answer (turns-damaged start old mid answer is taken) (record {
            well = λ e. absurd (omega (arith, e, is));
            failed = λ e. absurd (omega (arith, e, is));
            pauses = λ e. absurd (omega (arith, e, is));
            floods = λ e. absurd (omega (arith, e, is));
            asks = λ e. absurd (omega (arith, e, is));
            waits = λ e. absurd (omega (arith, e, is));
            another = λ e. absurd (omega (arith, e, is));
            damaged = λ e. inr (record {
              given = given;
              accepted = accepted;
              agent = h.refuses.agent + 1;
              of_agent = (omega arith, omega (arith, high));
              place = place;
              damaged = c.2 (told-middle why h);
            });
            past = λ e. absurd (omega (arith, e, is));
            kept = λ one. absurd (not-closing answer 13 refl is one);
            reached = λ one. absurd (not-reaching answer 13 refl is one);
            left = λ one. durable-leaves mid (durable-second why h);
          }) (inr (inl is)) (opened-more (same-second why h ∙ h.journal.reads)) (rest-of-run start mid given accepted answer holds (λ d. inl is) (λ u. inr (behind-faults answer (13 ∷ []) (inl is))))
      by error.Memory is c = fault-returns start old mid answer (inr (inr (inr (inr (inl is)))))
      by (error.OtherRun held asked) is c = absurd c
      by (error.OtherBook index) is c = absurd c
      by (error.RunUsed agent) is c = absurd c
      by (error.Limit what) is c = absurd c
      by error.Say is c = absurd c

  pub refused-so : (answers : List OperatorAnswer) → AreAnswers start answers → (why : WorldError) (answer : ℕ) → answer ≡ status_of (error_end why) → HasRefused why given start.run start.most answers old mid → ReturnsSo start old mid answer
  refused-so answers are why answer is (inl (inl h)) =
      journal-refused h.why answer (ap (λ (l : LinkView). l.taken) h.opens.only.rest.link) (λ other. h.reads (λ e. other (only-disk h.why (sym h.is ∙ e)))) (told-journal why h) h.refused (is ∙ ap (λ (w : WorldError). status_of (error_end w)) h.is)
  refused-so answers are why answer is (inl (inr h)) = second-refused why answer is h
  refused-so answers are why answer is (inr h) = later answers are why answer is h
