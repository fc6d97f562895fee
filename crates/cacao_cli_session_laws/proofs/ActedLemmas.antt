-- Where a session closed, each command that was taken has its act in its agent's file; and where it was flooded, the parcel taken
-- last is no reply that an issue waits for.
use Rattle.std.proofs.Common.{◌≡◌, inl, inr, ◌∙◌, sym, ap, subst, ℕ, List, [], ◌∷◌, ◌++◌, append-nil, Option, Some, None}
use Rattle.std.specs.Prelude.{All, IfSome, IsSome, IsTrue}
use Rattle.std.proofs.lemmas.Bool.{false≢true, true≢false}
use Rattle.std.proofs.lemmas.List.Elements.{All-weaker}
use Rattle.cacao_site.specs.LinkCalls.{GainsAll}
use Rattle.cacao_site.specs.View.{LinkView, SiteView}
use Rattle.cacao_site.specs.declared.parcel.Parcel.{Parcel}
use Rattle.oc2_msg.specs.declared.answers.Answer.{Answer}
use Rattle.flow_core_rules.specs.Givens.{Given}
use Rattle.flow_engine_history.specs.HistoryView.{HistoryView}
use Rattle.flow_engine_answers.specs.declared.answers.OperatorAnswer.{OperatorAnswer}
use Rattle.flow_engine.specs.EngineCalls.{IsReplyTo, IsWaiting}
use Rattle.flow_laws.proofs.OneList.{acts_of_layout}
use Rattle.flow_world_steps.specs.Handled.{HasItsAct, IsCommand}
use Rattle.flow_world_steps.specs.Steps.{IsAddressed}
use Rattle.flow_world_steps.specs.Unbroken.{AreFiltersSure}
use Rattle.flow_world_steps.specs.Worlds.{Notes, looked, rests, waits}
use Rattle.flow_world_steps.proofs.Came.{same_last}
use Rattle.flow_world.specs.Closes.{IsClose}
use Rattle.flow_world.specs.Sessions.{Went}
use Rattle.flow_world.specs.Close.{Close}
use Rattle.flow_world.specs.Close.TheVariants as close
use Rattle.cacao_cli_session_laws.specs.Returning.{ActsOnAll, HasActFor, IsRepliedLast, IsTakenLast}
use Rattle.cacao_cli_ends.specs.Work.{Start}
use Rattle.cacao_cli_session_laws.proofs.FloodLemmas.{hand-empty, takes-all}
use Rattle.cacao_cli_session_laws.proofs.LimitLemmas.{hand-last}
use Rattle.cacao_cli_session_laws.proofs.ReturnedRuns.{ReadsImages, closes-filters, holds-there}
use Rattle.cacao_cli_session_laws.proofs.TakenLemmas.{FloodedBy, IgnoresIt, flooded-by}

-- ---- lists of parcels

pub same-since : (xs ys zs : List (ℕ × Parcel)) → xs ++ ys ≡ xs ++ zs → ys ≡ zs
same-since [] ys zs e = e
same-since (x ∷ xs) ys zs e = same-since xs ys zs (tails e)
  where
    tails : x ∷ (xs ++ ys) ≡ x ∷ (xs ++ zs) → xs ++ ys ≡ xs ++ zs
    tails e = cc

-- what holds of each parcel that was taken, where they are told
abbrev pub AllSince : (ℕ × Parcel → Type 0) → Option (List (ℕ × Parcel)) → Option (List (ℕ × Parcel)) → Type 0
AllSince P old new = IfSome old (λ before. IfSome new (λ after. (since : List (ℕ × Parcel)) → after ≡ before ++ since → All P since))

pub all-since : (P : ℕ × Parcel → Type 0) (old new : Option (List (ℕ × Parcel))) (taken : List (ℕ × Parcel)) → GainsAll old taken new → All P taken → AllSince P old new
all-since P None new taken g all = tt
all-since P (Some xs) None taken g all = tt
all-since P (Some xs) (Some ys) taken g all = λ since e. subst (All P) (same-since xs taken since (sym g ∙ e)) all

-- one parcel was taken last
pub one-last : (p q : Parcel) (old new : Option (List (ℕ × Parcel))) → IsSome old → IsSome new → IsTakenLast p old new → IsTakenLast q old new → p ≡ q
one-last p q None new some more a b = absurd (false≢true some)
one-last p q (Some xs) None some more a b = absurd (false≢true more)
one-last p q (Some xs) (Some ys) some more a b =
    let same = same_last a.0 b.0 (a.1, p) (b.1, q) (same-since xs (a.0 ++ (a.1, p) ∷ []) (b.0 ++ (b.1, q) ∷ []) (sym a.2 ∙ b.2)) in
    ap (λ (e : ℕ × Parcel). e.1) same.1

-- ---- sessions

module _ (given : Given) (run most : ℕ) (answers : List OperatorAnswer) (old mid : SiteView) (sound : ReadsImages mid) (told : IsTrue mid.disk.told) (went : Went given run most answers old mid) where
  act-there : AreFiltersSure went.to → (parcel : Parcel) → IsCommand parcel → HasItsAct went.to parcel → HasActFor parcel mid
  act-there sure parcel command has =
      let f = holds-there given run most answers old mid sound told went sure parcel.agent command.addressed.low has.filter has.there in
      record {
        acts = (has.filter).acts;
        are = acts_of_layout (mid.disk.reads parcel.agent) (has.filter).acts f.history.ranges f.holds;
        act = has.act;
        has = record { has = has.has; of_run = has.run; of_issue = has.issue };
      }

  acts-on-all : AreFiltersSure went.to → went.sums.handles.at_hand ≡ [] → ActsOnAll old mid
  acts-on-all sure empty =
      let handles = went.sums.handles in
      let all : handles.handled ++ handles.at_hand ≡ handles.handled = ap (λ (l : List (ℕ × Parcel)). handles.handled ++ l) empty ∙ append-nil handles.handled in
      all-since (λ e. IsCommand e.1 → HasActFor e.1 mid) old.link.taken mid.link.taken handles.handled
      (subst (λ (l : List (ℕ × Parcel)). GainsAll old.link.taken l mid.link.taken) all (takes-all given run most answers old mid sound told went))
      (All-weaker (λ e. IsCommand e.1 → HasItsAct went.to e.1) (λ e. IsCommand e.1 → HasActFor e.1 mid) (λ e to command. act-there sure e.1 command (to command)) handles.handled (went.sums.acts went.files.others.many))

  -- no parcel is in hand where it closed
  closes-empty : (how : Close) → IsClose how went.to → went.sums.handles.at_hand ≡ []
  closes-empty (close.Ended well) c = hand-empty given run most answers old mid sound told went rests c.turn.phase (λ e. e)
  closes-empty close.Paused c = hand-empty given run most answers old mid sound told went rests c.turn.phase (λ e. e)
  closes-empty (close.Waiting moment) c = hand-empty given run most answers old mid sound told went (waits moment) c (λ e. e)
  closes-empty close.Flooded c = hand-empty given run most answers old mid sound told went rests c.phase (λ e. e)
  closes-empty (close.Asked issue) c = hand-empty given run most answers old mid sound told went looked c.untold.idle.has_looked.phase (λ e. e)

  pub closes-acted : (how : Close) → IsClose how went.to → ActsOnAll old mid
  closes-acted how c = acts-on-all (closes-filters given run most answers old mid sound told went how c) (closes-empty how c)

module _ (start : Start) (given : Given) (answers : List OperatorAnswer) (old mid : SiteView) (went : Went given start.run start.most answers old mid) (c : IsClose close.Flooded went.to) where
  by : FloodedBy went.start went.to
  by = flooded-by went.start went.to went.begins.phase (ap (λ (n : Notes). n.ignored) went.begins.notes) went.steps c.phase c.many

  last-taken : IsTakenLast by.parcel old.link.taken mid.link.taken
  last-taken =
      let link : went.start.site.link ≡ old.link = went.files.others.rest.link ∙ went.files.journal.opens.only.rest.link in
      subst (λ (s : SiteView). IsTakenLast by.parcel old.link.taken s.link.taken) went.to_is
      (subst (λ (t : Option (List (ℕ × Parcel))). IsTakenLast by.parcel old.link.taken t) (sym by.taken)
      (subst (λ (l : LinkView). IsTakenLast by.parcel l.taken by.old.site.link.taken) link (hand-last went.start by.old by.beat by.parcel went.begins.phase by.before by.in_hand)))

  module _ (some : IsSome old.link.taken) (more : IsSome mid.link.taken) (issue : ℕ) (read : Answer) (r : IsRepliedLast start went.to.engine.history.seen issue read old.link.taken mid.link.taken) where
    same : by.parcel ≡ r.parcel
    same = one-last by.parcel r.parcel old.link.taken mid.link.taken some more last-taken r.taken_last

    -- the last one would be a reply to that issue
    replies : IsReplyTo went.to.engine.history r.parcel read
    replies = record {
      sent_back = record {
        back = r.is_back.back;
        of_run = r.of_run ∙ sym (went.sums.given.run ∙ went.begins.of_run);
        it = r.it;
        waiting = subst (λ (n : ℕ). IsWaiting went.to.engine.history.seen n r.it) (sym r.of_issue) r.waiting;
        of_agent = r.of_agent;
      };
      read_is = record { reads = r.reads; final = r.final };
    }

    pub flooded-no-reply : ⊥
    flooded-no-reply = go by.ignores
      where
        go : IgnoresIt by.beat by.parcel by.old by.new → ⊥
        go (inl d) = elim d.why [
          | inl not ↦ not (subst IsAddressed (sym same) r.is_back.addressed)
          | inr lacks ↦ true≢false (sym r.is_back.back ∙ sym (ap (λ (p : Parcel). p.back) same) ∙ lacks.is_command)
        ]
        go (inr (inl i)) = i.no_reply read (subst (λ (p : Parcel). IsReplyTo by.old.engine.history p read) (sym same) (subst (λ (h : HistoryView). IsReplyTo h r.parcel read) by.history replies))
        go (inr (inr (v, w, repeats))) = true≢false (sym r.is_back.back ∙ sym (ap (λ (p : Parcel). p.back) same) ∙ repeats.holds_command.command)
