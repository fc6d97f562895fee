-- What a session that lost no parcel left unanswered: nothing.
use Rattle.std.proofs.Common.{◌≡◌, ◌∙◌, sym, ap, subst, ℕ, Bool, List, []}
use Rattle.std.specs.Prelude.{Contains, IsSome, IsTrue}
use Rattle.cacao_site.specs.Counts.{DidNotRise}
use Rattle.cacao_site.specs.Sound.{IsSound}
use Rattle.cacao_site.specs.View.{CountsView, LinkView, SiteView}
use Rattle.run_records.specs.declared.record.Record.{Record}
use Rattle.run_records.specs.declared.record.Record.TheVariants as entry
use Rattle.flow_core_rules.specs.Givens.{Given}
use Rattle.flow_engine_answers.specs.declared.answers.OperatorAnswer.{OperatorAnswer}
use Rattle.flow_laws.specs.Images.{IsActs, IsRecords}
use Rattle.flow_laws.proofs.OneList.{acts_of_layout, none_of_empty, same_records}
use Rattle.flow_world_steps.specs.Complete.{IsComplete}
use Rattle.flow_world.specs.Sessions.{HasClosed, IsStart, KeepsAgreement, Went}
use Rattle.flow_world.specs.Close.TheVariants as close
use Rattle.flow_world_laws.proofs.Answering.{send_is_acted_on}
use Rattle.cacao_cli_session_laws.specs.Completing.{EachSendIsDone, FileHasNoRecord, IsDone}
use Rattle.cacao_cli_session_laws.proofs.ReturnedRuns.{closes-filters, closes-sure, had-records, holds-there, sound-reads, sure-records}

module _ (old mid : SiteView) (run : ℕ) (sound : IsSound mid) (is : IsStart old run) where
  module _ (given : Given) (most : ℕ) (answers : List OperatorAnswer) (told : IsTrue mid.disk.told) where
    pub complete : (went : Went given run most answers old mid) → DidNotRise old.counts.mishaps mid.counts.mishaps → IsComplete went.start went.to
    complete went still_ =
        let first = went.files.journal.opens.only.rest in
        let second = went.files.others.rest in
        let link = ap (λ (l : LinkView). l.pending) (second.link ∙ first.link) in
        let counts = ap (λ (c : CountsView). c.mishaps) (second.counts ∙ first.counts) in
        let told_there : IsSome went.start.site.link.pending = subst (λ o. IsSome o) (sym link) is.pending in
        let at_end : DidNotRise old.counts.mishaps went.to.site.counts.mishaps = subst (λ (s : SiteView). DidNotRise old.counts.mishaps s.counts.mishaps) (sym went.to_is) still_ in
        went.sums.complete went.files.others.many told_there (subst (λ (k : ℕ). DidNotRise k went.to.site.counts.mishaps) (sym counts) at_end)

    -- each Send of a run that ended in one session is done
    pub ended-done : (well : Bool) → HasClosed (close.Ended well) given run most answers old mid → DidNotRise old.counts.mishaps mid.counts.mishaps → FileHasNoRecord old → KeepsAgreement old mid → EachSendIsDone run mid
    ended-done well closed still_ none agreed records are task issue agent moment bytes has =
        let went = closed.went in
        let sure = closes-sure given run most answers old mid (sound-reads mid sound) told went (close.Ended well) closed.closes in
        let filters = closes-filters given run most answers old mid (sound-reads mid sound) told went (close.Ended well) closed.closes in
        let all : records ≡ went.to.engine.history.records = same_records (mid.disk.reads 0) records went.to.engine.history.records are (sure-records given run most answers old mid (sound-reads mid sound) told went sure) in
        let empty : went.start.engine.history.records ≡ [] = none_of_empty (old.disk.reads 0) went.start.engine.history.records none (had-records given run most answers old mid (sound-reads mid sound) told went) in
        let d = send_is_acted_on well given run most answers old mid closed empty is.pending still_ agreed sound task issue agent moment bytes
        (subst (λ (l : List Record). Contains l (entry.Send task issue agent moment bytes)) all has) in
        let f = holds-there given run most answers old mid (sound-reads mid sound) told went filters agent d.low d.v d.there in
        record {
          moment = d.moment;
          status = d.status;
          rule = d.rule;
          text = d.text;
          replied = subst (λ (l : List Record). Contains l (entry.Reply issue d.moment d.status d.rule d.text)) (sym all) d.has;
          of_agent = (d.low, d.high);
          acts = d.v.acts;
          are = acts_of_layout (mid.disk.reads agent) d.v.acts f.history.ranges f.holds;
          reply = record {
            act = d.reply.act;
            has = d.reply.has;
            of_run = d.reply.of_run ∙ went.sums.given.run ∙ went.begins.of_run;
            of_issue = d.reply.of_issue;
            reply = d.reply.reply;
          };
          command = d.command;
        }

-- ---- behind the last line

module _ (old a b : SiteView) (same : (file : ℕ) → b.disk.reads file ≡ a.disk.reads file) where
  pub done-there : (run : ℕ) → EachSendIsDone run a → EachSendIsDone run b
  done-there run all records are task issue agent moment bytes has =
      let d : IsDone run records a issue agent bytes = all records (subst (λ (image : List ℕ). IsRecords image records) (same 0) are) task issue agent moment bytes has in
      record {
        moment = d.moment;
        status = d.status;
        rule = d.rule;
        text = d.text;
        replied = d.replied;
        of_agent = d.of_agent;
        acts = d.acts;
        are = subst (λ (image : List ℕ). IsActs image d.acts) (sym (same agent)) d.are;
        reply = d.reply;
        command = d.command;
      }
