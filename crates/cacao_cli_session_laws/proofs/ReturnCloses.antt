-- What the status of a session that closed and the engine's file tell of each other.
use Rattle.std.proofs.Common.{◌≡◌, ◌⊎◌, inl, inr, ◌∙◌, refl, sym, ap, subst, ℕ, ◌+◌, ◌<◌, ◌≤◌, List, length, true, false, Some, None, arith}
use Rattle.std.specs.Prelude.{IfSome, IsTrue}
use Rattle.cacao_check.specs.Fits.{FitsKind}
use Rattle.cacao_check.proofs.LawLemmas.{sound_gives}
use Rattle.cacao_site.specs.View.{SiteView}
use Rattle.flow_core.specs.Setups.{AreAccepted}
use Rattle.flow_core_setup.proofs.SetupRunnable.{accepted_is_runnable}
use Rattle.flow_core_rules.specs.Accepted.{Accepted}
use Rattle.flow_core_rules.specs.Changes.{outcome}
use Rattle.flow_core_rules.specs.Givens.{Given}
use Rattle.flow_core_rules.specs.Moves.{enabled_move}
use Rattle.flow_core_rules.specs.State.{Shown}
use Rattle.flow_engine_history.specs.Laws.{HoldsRun}
use Rattle.flow_engine_answers.specs.declared.answers.OperatorAnswer.{OperatorAnswer}
use Rattle.flow_engine.specs.EngineView.{EngineView}
use Rattle.flow_world_steps.specs.Causes.{AskedFirst, AskedLast, IsResendNear, IsShort, Shows}
use Rattle.flow_world_steps.specs.Handled.{one_reply}
use Rattle.flow_world_steps.specs.Sums.{total}
use Rattle.flow_world_steps.specs.Unbroken.{IsJournalSure}
use Rattle.flow_world_steps.specs.Worlds.{Notes, Phase, rests}
use Rattle.flow_world.specs.Sessions.{HasClosed, Went}
use Rattle.flow_world.specs.Close.{Close}
use Rattle.flow_world.specs.Close.TheVariants as close
use Rattle.flow_world_laws.specs.Ends.{EndsInTurn, IsInTurn}
use Rattle.flow_world_laws.specs.Ends as ends_in
use Rattle.flow_world_laws.specs.Returned.{ReadsAsRun}
use Rattle.flow_world_laws.proofs.Closing.{steps_end_in_turn}
use Rattle.flow_world_laws.proofs.Returning.{reads_as_one_run}
use Rattle.cacao_cli_ends.specs.Ends.{status_of}
use Rattle.cacao_cli_session.specs.Holding.{AreAnswers, close_end}
use Rattle.cacao_cli_session_laws.specs.Returning.{GainsRecords, IsRepliedLast, IsResend, KeepsWithin, CanGoOn, ReturnsSo, WaitsFirst, WaitsInTurn, WaitsSo}
use Rattle.cacao_cli_ends.specs.Work.{Start}
use Rattle.cacao_cli_session_laws.proofs.ActedLemmas.{flooded-no-reply}
use Rattle.cacao_cli_session_laws.proofs.FloodLemmas.{acted-agents, gained-acts, hand-empty, many-taken, taken-told}
use Rattle.cacao_cli_session_laws.proofs.ReachedLemmas.{closed-come}
use Rattle.cacao_cli_session_laws.proofs.ReturnedRuns.{ReadsImages, closes-filters, closes-sure, closes-unused, fewer-added, filter-whole, gains, gains-added, kept-within, none-added, not-spent, reads-run, sure-holds}
use Rattle.cacao_cli_session_laws.proofs.SpentLemmas.{CouldMore}
use Rattle.cacao_cli_session_laws.proofs.ReturnTurns.{turns-asked, turns-ended, turns-flooded, turns-paused, turns-waits}
use Rattle.cacao_cli_session_laws.proofs.WaitLemmas.{answers-given, none-answers, waits-idle, waits-unanswered}
use Rattle.cacao_cli_session_laws.proofs.ReturnTells.{not-leaving, not-reaching}
use Rattle.cacao_cli_session_laws.proofs.ReturnFiles.{FileRest, file-of, going-file, reads-as, rest-of-run, returns-besides, so-read}

module _ (start : Start) (old mid : SiteView) (sound : ReadsImages mid) (told : IsTrue mid.disk.told) (given : Given) (accepted : Accepted AreAccepted FitsKind start.books start.bind given) (some : 1 ≤ start.most) where
  module _ (answers : List OperatorAnswer) (are : AreAnswers start answers) where
    -- the run may go on
    abbrev may-of : (went : Went given start.run start.most answers old mid) → IsJournalSure went.to → ends_in.MayGoOn went.to → CanGoOn start old mid
    may-of went sure may = record {
      goes_on = so-read start mid given accepted went.to.engine.history.seen None (reads-run given start.run mid (sure-holds given start.run start.most answers old mid sound told went sure)) may.goes_on;
      begun = may.begun;
      many = length went.sums.adds.added;
      gains = gains-added given start.run start.most answers old mid sound told went sure;
      fewer = fewer-added given start.run start.most answers old mid sound told went may.budget;
    }

    -- the moment that is waited for
    waits-so : (moment : ℕ) (h : HasClosed (close.Waiting moment) given start.run start.most answers old mid) → IsJournalSure h.went.to → AskedFirst h.went.start h.went.to moment ⊎ IsInTurn h.went.to → WaitsSo start old mid
    waits-so moment h sure turn = (short, go turn is_short.why)
      where
        is_short : IsShort h.went.start h.went.to moment
        is_short = subst (λ (p : Phase). Shows p h.went.start h.went.to) h.closes h.went.cause.shows

        asked : mid.clock.asked ≡ moment
        asked = subst (λ (s : SiteView). s.clock.asked ≡ moment) h.went.to_is is_short.asked

        short : mid.clock.now < mid.clock.asked
        short = subst (λ (n : ℕ). mid.clock.now < n) (sym asked) (subst (λ (s : SiteView). s.clock.now < moment) h.went.to_is is_short.short)

        run : HoldsRun given start.run (mid.disk.reads 0)
        run = sure-holds given start.run start.most answers old mid sound told h.went sure

        first-of : AskedFirst h.went.start h.went.to moment → WaitsFirst start old mid
        first-of f = record {
          none = none-added given start.run start.most answers old mid sound told h.went sure (ap (λ (v : EngineView). v.history.records) f.opens.goes.sides.engine);
          how = outcome h.went.to.engine.history.seen.lists;
          reads = so-read start mid given accepted h.went.to.engine.history.seen (outcome h.went.to.engine.history.seen.lists) (reads-run given start.run mid run) refl;
          last = asked ∙ f.is ∙ sym (ap (λ (v : EngineView). v.history.seen.moment) f.opens.goes.sides.engine);
        }

        resend-of : IsResendNear h.went.to moment → IsResend h.went.to.engine.history.seen mid.clock
        resend-of r = record {
          issue = r.issue;
          it = r.it;
          waiting = r.waiting;
          near = subst (λ (n : ℕ). n ≤ mid.clock.now + 5_000) (sym asked) (subst (λ (s : SiteView). moment ≤ s.clock.now + 5_000) h.went.to_is r.near);
          at = r.at;
          due_is = r.due_is;
          early = subst (λ (n : ℕ). n < r.at) (sym asked) r.early;
        }

        go : AskedFirst h.went.start h.went.to moment ⊎ IsInTurn h.went.to → AskedFirst h.went.start h.went.to moment ⊎ AskedLast h.went.start h.went.to moment → WaitsFirst start old mid ⊎ WaitsInTurn start old mid
        go (inl f) why = inl (first-of f)
        go (inr t) (inl f) = inl (first-of f)
        go (inr t) (inr l) = inr (record {
          may = may-of h.went sure t.may;
          idle = record {
            no_move = waits-idle given start.run start.most answers old mid h.went moment l (accepted_is_runnable sound_gives) sure t
                (subst (λ (n : ℕ). mid.clock.now < n) asked short);
            answers = answers;
            are = are;
            unanswered = waits-unanswered given start.run start.most answers old mid h.went moment l;
          };
          what = elim (l.what h.went.begins.no_puts) [
            | inl is ↦ inl (is ∙ ap Some (sym asked))
            | inr r ↦ inr (resend-of r)
          ];
        })

    pub closed : (how : Close) (answer : ℕ) → answer ≡ status_of (close_end how) → HasClosed how given start.run start.most answers old mid → ReturnsSo start old mid answer
    closed how answer is h = by how is h
      where
        sure-of : (how : Close) (h : HasClosed how given start.run start.most answers old mid) → IsJournalSure h.went.to
        sure-of how h = closes-sure given start.run start.most answers old mid sound told h.went how h.closes

        run-of : (how : Close) (h : HasClosed how given start.run start.most answers old mid) → HoldsRun given start.run (mid.disk.reads 0)
        run-of how h = sure-holds given start.run start.most answers old mid sound told h.went (sure-of how h)

        reads-of : (how : Close) (h : HasClosed how given start.run start.most answers old mid) → ReadsAsRun given start.run mid (run-of how h).seen
        reads-of how h = reads-run given start.run mid (run-of how h)

        kept-of : (how : Close) (h : HasClosed how given start.run start.most answers old mid) → KeepsWithin start old mid
        kept-of how h = kept-within given start.run start.most answers old mid sound told h.went start refl (sure-of how h)

        reached-of : (how : Close) (h : HasClosed how given start.run start.most answers old mid) → ((moment : ℕ) → how ≡ close.Waiting moment → ⊥) → mid.clock.asked ≤ mid.clock.now
        reached-of how h not_ = closed-come how given start.run start.most answers old mid h not_

        -- the filters' files are whole, and the number is not used
        rest-of : (how : Close) (h : HasClosed how given start.run start.most answers old mid) → FileRest start mid answer
        rest-of how h = rest-of-run start mid given accepted answer (run-of how h)
            (λ d. absurd (filter-whole given start.run start.most answers old mid sound told h.went
            (closes-filters given start.run start.most answers old mid sound told h.went how h.closes) d.agent d.place d.of_agent d.damaged))
            (λ u. absurd (closes-unused given start.run start.most answers old mid sound told h.went how h.closes
            (record { blank = u.blank; agent = u.agent; of_agent = u.of_agent; acts = u.acts; are = u.are; has = u.has })))

        spends : (how : Close) (h : HasClosed how given start.run start.most answers old mid) → 1 ≤ h.went.to.notes.left → 1 ≤ start.most → GainsRecords start.most old mid → ⊥
        spends how h left some g = not-spent given start.run start.most answers old mid sound told h.went some (sure-of how h) (inl left) g

        turn-of : (how : Close) (h : HasClosed how given start.run start.most answers old mid) → EndsInTurn how h.went.start h.went.to
        turn-of how h = steps_end_in_turn h.went.start h.went.to h.went.begins.phase (ap (λ (n : Notes). n.ignored) h.went.begins.notes) h.went.steps how h.closes

        by : (how : Close) → answer ≡ status_of (close_end how) → HasClosed how given start.run start.most answers old mid → ReturnsSo start old mid answer
        by (close.Ended true) is h = record {
          of_status = record {
            well = λ e. so-read start mid given accepted (run-of (close.Ended true) h).seen (Some true) (reads-of (close.Ended true) h) h.closes.outcome_is;
            failed = λ e. absurd (omega (arith, e, is));
            pauses = λ e. absurd (omega (arith, e, is));
            floods = λ e. absurd (omega (arith, e, is));
            asks = λ e. absurd (omega (arith, e, is));
            waits = λ e. absurd (omega (arith, e, is));
            another = λ e. absurd (omega (arith, e, is));
            damaged = λ e. absurd (omega (arith, e, is));
            past = λ e. absurd (omega (arith, e, is));
            kept = λ one. kept-of (close.Ended true) h;
            reached = λ one. reached-of (close.Ended true) h (λ moment e. cc);
            left = λ one. absurd (not-leaving answer 0 refl is one);
          };
          of_file = file-of start old mid given accepted some (run-of (close.Ended true) h).seen (Some true) answer (reads-of (close.Ended true) h) h.closes.outcome_is (λ e. is) (λ e. absurd (cc)) (λ e. absurd (cc)) (λ e some g. absurd (cc)) (rest-of (close.Ended true) h);
          of_turn = turns-ended start old mid sound told given (reads-as start mid given accepted) answers h.went (sure-of (close.Ended true) h) answer true h.closes;
        }
        by (close.Ended false) is h = record {
          of_status = record {
            well = λ e. absurd (omega (arith, e, is));
            failed = λ e. so-read start mid given accepted (run-of (close.Ended false) h).seen (Some false) (reads-of (close.Ended false) h) h.closes.outcome_is;
            pauses = λ e. absurd (omega (arith, e, is));
            floods = λ e. absurd (omega (arith, e, is));
            asks = λ e. absurd (omega (arith, e, is));
            waits = λ e. absurd (omega (arith, e, is));
            another = λ e. absurd (omega (arith, e, is));
            damaged = λ e. absurd (omega (arith, e, is));
            past = λ e. absurd (omega (arith, e, is));
            kept = λ one. kept-of (close.Ended false) h;
            reached = λ one. reached-of (close.Ended false) h (λ moment e. cc);
            left = λ one. absurd (not-leaving answer 6 refl is one);
          };
          of_file = file-of start old mid given accepted some (run-of (close.Ended false) h).seen (Some false) answer (reads-of (close.Ended false) h) h.closes.outcome_is (λ e. absurd (cc)) (λ e. is) (λ e. absurd (cc)) (λ e some g. absurd (cc)) (rest-of (close.Ended false) h);
          of_turn = turns-ended start old mid sound told given (reads-as start mid given accepted) answers h.went (sure-of (close.Ended false) h) answer false h.closes;
        }
        by close.Paused is h = record {
          of_status = record {
            well = λ e. absurd (omega (arith, e, is));
            failed = λ e. absurd (omega (arith, e, is));
            pauses = λ e. (
              so-read start mid given accepted (run-of close.Paused h).seen None (reads-of close.Paused h) h.closes.goes_on,
              gains given start.run start.most answers old mid sound told h.went (closes-sure given start.run start.most answers old mid sound told h.went close.Paused h.closes) h.closes.none_left,
            );
            floods = λ e. absurd (omega (arith, e, is));
            asks = λ e. absurd (omega (arith, e, is));
            waits = λ e. absurd (omega (arith, e, is));
            another = λ e. absurd (omega (arith, e, is));
            damaged = λ e. absurd (omega (arith, e, is));
            past = λ e. absurd (omega (arith, e, is));
            kept = λ one. kept-of close.Paused h;
            reached = λ one. reached-of close.Paused h (λ moment e. cc);
            left = λ one. absurd (not-leaving answer 7 refl is one);
          };
          of_file = going-file start old mid given accepted some (run-of close.Paused h).seen answer (reads-of close.Paused h) h.closes.goes_on (inl is) (λ some g. inl is) (rest-of close.Paused h);
          of_turn = turns-paused start old mid sound told given (reads-as start mid given accepted) answers h.went (sure-of close.Paused h) answer h.closes;
        }
        by (close.Waiting moment) is h =
            let sure = sure-of (close.Waiting moment) h in
            let turn = turn-of (close.Waiting moment) h in
            returns-besides start old mid some answer (turns-waits start old mid sound told given (reads-as start mid given accepted) answers h.went sure moment h.closes (accepted_is_runnable sound_gives) answer is
            (closes-filters given start.run start.most answers old mid sound told h.went (close.Waiting moment) h.closes) turn) (record {
              well = λ e. absurd (omega (arith, e, is));
              failed = λ e. absurd (omega (arith, e, is));
              pauses = λ e. absurd (omega (arith, e, is));
              floods = λ e. absurd (omega (arith, e, is));
              asks = λ e. absurd (omega (arith, e, is));
              waits = λ e. waits-so moment h sure turn;
              another = λ e. absurd (omega (arith, e, is));
              damaged = λ e. absurd (omega (arith, e, is));
              past = λ e. absurd (omega (arith, e, is));
              kept = λ one. kept-of (close.Waiting moment) h;
              reached = λ one. absurd (not-reaching answer 14 refl is one);
              left = λ one. absurd (not-leaving answer 14 refl is one);
            }) (inr (inr (inl is)))
            (λ some g. not-spent given start.run start.most answers old mid sound told h.went some sure (waits-could h turn) g) (rest-of (close.Waiting moment) h)
          where
            waits-could : (h : HasClosed (close.Waiting moment) given start.run start.most answers old mid) → AskedFirst h.went.start h.went.to moment ⊎ IsInTurn h.went.to → CouldMore h.went.start h.went.to
            waits-could h (inl first) = inr (ap (λ (v : EngineView). v.history.records) first.opens.goes.sides.engine)
            waits-could h (inr turn) = inl turn.may.budget
        by close.Flooded is h =
            let turn = turn-of close.Flooded h in
            record {
              of_status = record {
                well = λ e. absurd (omega (arith, e, is));
                failed = λ e. absurd (omega (arith, e, is));
                pauses = λ e. absurd (omega (arith, e, is));
                floods = λ e. (
                  record {
                    may = may-of h.went (sure-of close.Flooded h) turn;
                    acted = h.went.sums.grow.acted;
                    of_agents = acted-agents given start.run start.most answers old mid sound told h.went;
                    gained = gained-acts given start.run start.most answers old mid sound told h.went
                        (closes-filters given start.run start.most answers old mid sound told h.went close.Flooded h.closes);
                    taken = subst (λ (n : ℕ). IfSome old.link.taken (λ before. IfSome mid.link.taken (λ after.
                        length after ≡ length before + (n + total one_reply h.went.sums.adds.added + length h.went.sums.grow.acted)))) h.closes.many
                        (many-taken given start.run start.most answers old mid sound told h.went
                        (hand-empty given start.run start.most answers old mid sound told h.went rests h.closes.phase (λ e. e)));
                  },
                  λ some r issue read replied. flooded-no-reply start given answers old mid h.went h.closes some
                      (taken-told given start.run start.most answers old mid sound told h.went some) issue read
                      (subst (λ (s : Shown). IsRepliedLast start s issue read old.link.taken mid.link.taken)
                      (reads_as_one_run given start.run mid r.seen (run-of close.Flooded h).seen (reads-as start mid given accepted None r) (reads-of close.Flooded h)) replied),
                );
                asks = λ e. absurd (omega (arith, e, is));
                waits = λ e. absurd (omega (arith, e, is));
                another = λ e. absurd (omega (arith, e, is));
                damaged = λ e. absurd (omega (arith, e, is));
                past = λ e. absurd (omega (arith, e, is));
                kept = λ one. kept-of close.Flooded h;
                reached = λ one. reached-of close.Flooded h (λ moment e. cc);
                left = λ one. absurd (not-leaving answer 15 refl is one);
              };
              of_file = going-file start old mid given accepted some (run-of close.Flooded h).seen answer (reads-of close.Flooded h) turn.goes_on (inr (inr (inl is)))
                  (λ some g. absurd (spends close.Flooded h turn.budget some g)) (rest-of close.Flooded h);
              of_turn = turns-flooded start old mid sound told given (reads-as start mid given accepted) answers h.went (sure-of close.Flooded h) answer is h.closes;
            }
        by (close.Asked issue) is h =
            let turn = turn-of (close.Asked issue) h in
            let seen = h.went.to.engine.history.seen in
            record {
              of_status = record {
                well = λ e. absurd (omega (arith, e, is));
                failed = λ e. absurd (omega (arith, e, is));
                pauses = λ e. absurd (omega (arith, e, is));
                floods = λ e. absurd (omega (arith, e, is));
                asks = λ e. record {
                  may = may-of h.went (sure-of (close.Asked issue) h) turn.may;
                  idle = record {
                    no_move = subst (λ (s : SiteView). enabled_move seen s.clock.now ≡ None) h.went.to_is h.closes.untold.idle.no_move;
                    answers = answers;
                    are = are;
                    unanswered = none-answers given start.run start.most answers old mid h.went h.went.to
                        (answers-given given start.run start.most answers old mid h.went) h.closes.untold;
                  };
                  nothing_due = h.closes.nothing_due;
                  issue = issue;
                  least = h.closes.least;
                };
                waits = λ e. absurd (omega (arith, e, is));
                another = λ e. absurd (omega (arith, e, is));
                damaged = λ e. absurd (omega (arith, e, is));
                past = λ e. absurd (omega (arith, e, is));
                kept = λ one. kept-of (close.Asked issue) h;
                reached = λ one. reached-of (close.Asked issue) h (λ moment e. cc);
                left = λ one. absurd (not-leaving answer 16 refl is one);
              };
              of_file = going-file start old mid given accepted some (run-of (close.Asked issue) h).seen answer (reads-of (close.Asked issue) h) turn.may.goes_on (inr (inr (inr (inl is))))
                  (λ some g. absurd (spends (close.Asked issue) h turn.may.budget some g)) (rest-of (close.Asked issue) h);
              of_turn = turns-asked start old mid sound told given (reads-as start mid given accepted) answers h.went (sure-of (close.Asked issue) h) answer issue is h.closes
                  (closes-filters given start.run start.most answers old mid sound told h.went (close.Asked issue) h.closes) turn;
            }
