-- What agreement tells of a parcel that was put.
use Rattle.std.proofs.Common.{◌≡◌, ℕ, true, false, List, sym, ◌∙◌, subst, ap, IsTrue, arith}
use Rattle.std.specs.Prelude.{Some}
use Rattle.cacao_site.specs.View.{SiteView}
use Rattle.cacao_site.specs.declared.parcel.Parcel.{Parcel}
use Rattle.cacao_site.specs.DiskCalls.{IsLeft}
use Rattle.cacao_site.specs.Sound.{IsSound}
use Rattle.oc2_msg.specs.Responses.{answer}
use Rattle.oc2_msg.specs.declared.answers.Answer.{Answer}
use Rattle.run_records.specs.declared.record.Record.{Record}
use Rattle.run_records.specs.declared.record.Record.TheVariants as entry
use Rattle.flow_laws.specs.Acts.{HasReply, IsBytes, ReadsAs}
use Rattle.flow_laws.specs.Beats.{IsBacked}
use Rattle.flow_laws.specs.Good.{IsChoice, IsGood}
use Rattle.flow_laws.specs.Images.{AnyJournal, EachFilter, IsActs, IsAgent, IsRecords}
use Rattle.flow_laws.specs.Journals.{IsSent, run_of}
use Rattle.flow_laws.proofs.Basics.{put_at, put_at-each, put_at-same, same_some}
use Rattle.flow_laws.proofs.OneList.{same_records}
use Rattle.flow_engine.specs.EngineCalls.{IsReply}
use Rattle.flow_engine.specs.EngineView.{EngineView}
use Rattle.flow_world_steps.specs.Agreement.{WasPut}
use Rattle.flow_world_steps.specs.Sides.{IsUp}
use Rattle.flow_world_steps.proofs.Records.{has_records, run_known}

abbrev answer_with : ℕ → ℕ → List ℕ → Answer
answer_with status rule text = record { status = status; rule = rule; text = text }

answer_same : (read : Answer) (status rule : ℕ) (text : List ℕ) → status ≡ read.status → rule ≡ read.rule → text ≡ read.text
    → ◌≡◌ {A = Answer} (record { status = status; rule = rule; text = text }) read
answer_same read status rule text p q r =
    ap (λ (n : ℕ). answer_with n rule text) p ∙ ap (λ (n : ℕ). answer_with read.status n text) q ∙ ap (λ (l : List ℕ). answer_with read.status read.rule l) r

module _ (site : SiteView) (sound : IsSound site) (told : IsTrue site.disk.told) (good : IsGood site site.disk.beat) where
  -- one image of each file
  some : ℕ → List ℕ
  some file = (sound.images file site.disk.beat told (omega arith)).0

  some_left : (file : ℕ) → IsLeft site.disk file site.disk.beat (some file)
  unfolding some
  some_left file = (sound.images file site.disk.beat told (omega arith)).1

  -- the same with this image of one file
  with_image : (file : ℕ) (image : List ℕ) → IsLeft site.disk file site.disk.beat image → IsChoice site site.disk.beat (put_at file image some)
  with_image file image left = λ other le. put_at-each (λ (n : ℕ) (l : List ℕ). IsLeft site.disk n site.disk.beat l) file image some other
      (λ e. subst (λ (n : ℕ). IsLeft site.disk n site.disk.beat image) (sym e) left)
      (λ ne. some_left other)

  -- a command that was put is a Send of each journal of its run
  pub sent_by_good : (parcel : Parcel) → WasPut site parcel → parcel.back ≡ false
      → AnyJournal site site.disk.beat (λ records. run_of records ≡ Some parcel.run → IsSent records parcel.issue parcel.agent parcel.bytes)
  sent_by_good parcel put command image records left stands of =
      let g = good.each (put_at 0 image some) (with_image 0 image left) in
      let here : IsRecords image g.records = subst (λ (l : List ℕ). IsRecords l g.records) (put_at-same 0 image some) g.are_records in
      let one : g.records ≡ records = same_records image g.records records here stands in
      subst (λ (l : List Record). IsSent l parcel.issue parcel.agent parcel.bytes) one
      (g.agree.commands put.at parcel put.has command (subst (λ (l : List Record). run_of l ≡ Some parcel.run) (sym one) of))

  -- a reply that was put is of an agent
  pub reply_agent : (parcel : Parcel) → WasPut site parcel → parcel.back ≡ true → IsAgent parcel.agent
  reply_agent parcel put back =
      let g = good.each some (λ file le. some_left file) in
      (g.agree.replies put.at parcel put.has back).is_agent

  -- and its act is in every image of its agent's file
  pub acted_by_good : (parcel : Parcel) → WasPut site parcel → parcel.back ≡ true
      → EachFilter site site.disk.beat parcel.agent (λ acts. HasReply acts parcel.run parcel.issue (IsBytes parcel.bytes))
  acted_by_good parcel put back image left =
      let g = good.each (put_at parcel.agent image some) (with_image parcel.agent image left) in
      let of = g.agree.replies put.at parcel put.has back in
      record {
        acts = g.acts parcel.agent;
        are = subst (λ (l : List ℕ). IsActs l (g.acts parcel.agent)) (put_at-same parcel.agent image some) (g.are_acts parcel.agent of.is_agent);
        so = of.reply;
      }

  -- the act of a reply that was put is on a Send of each journal of its run
  pub reply_sent : (parcel : Parcel) → WasPut site parcel → parcel.back ≡ true → (image : List ℕ) (records : List Record) → IsLeft site.disk 0 site.disk.beat image
      → IsRecords image records → run_of records ≡ Some parcel.run → (bytes : List ℕ) × IsSent records parcel.issue parcel.agent bytes
  reply_sent parcel put back image records left stands of =
      let g = good.each (put_at 0 image some) (with_image 0 image left) in
      let here : IsRecords image g.records = subst (λ (l : List ℕ). IsRecords l g.records) (put_at-same 0 image some) g.are_records in
      let one : g.records ≡ records = same_records image g.records records here stands in
      let is = g.agree.replies put.at parcel put.has back in
      let act = is.reply.act in
      let of_act : run_of g.records ≡ Some act.run = subst (λ (l : List Record). run_of l ≡ Some parcel.run) (sym one) of ∙ ap Some (sym is.reply.of_run) in
      let sent : IsSent g.records act.issue parcel.agent act.command = g.agree.acts_sent parcel.agent act is.is_agent is.reply.has of_act in
      (act.command, subst (λ (l : List Record). IsSent l parcel.issue parcel.agent act.command) one (subst (λ (n : ℕ). IsSent g.records n parcel.agent act.command) is.reply.of_issue sent))

  -- a Reply of a parcel that was put is what the reply of an act reads as
  pub reply_backed : (v : EngineView) (parcel : Parcel) (moment : ℕ) (next : Record) → IsUp v site → WasPut site parcel → IsReply v.history parcel moment next
      → (run issue at status rule : ℕ) (text : List ℕ) → run_of v.history.records ≡ Some run
      → next ≡ entry.Reply issue at status rule text → IsBacked site site.disk.beat v.history.records run issue (ReadsAs status rule text)
  reply_backed v parcel moment next up put reply run issue at status rule text of e =
      let back = reply.to.sent_back.back in
      let same : entry.Reply issue at status rule text ≡ entry.Reply parcel.issue moment reply.read.status reply.read.rule reply.read.text = sym e ∙ reply.is in
      let same_issue : issue ≡ parcel.issue = cc in
      let same_status : status ≡ reply.read.status = cc in
      let same_rule : rule ≡ reply.read.rule = cc in
      let same_text : text ≡ reply.read.text = cc in
      let here : run_of v.history.records ≡ Some v.history.seen.run = run_known v.history up.has_file.engine.history up.begun in
      let of_parcel : run_of v.history.records ≡ Some parcel.run = here ∙ ap Some (sym reply.to.sent_back.of_run) in
      let same_run : run ≡ parcel.run = same_some (sym of ∙ of_parcel) in
      let image = some 0 in
      let sent = reply_sent parcel put back image v.history.records (some_left 0) (has_records v site up.has_file told image (some_left 0)) of_parcel in
      let reads : answer parcel.bytes ≡ Some (record { status = status; rule = rule; text = text }) =
      reply.to.read_is.reads ∙ ap Some (sym (answer_same reply.read status rule text same_status same_rule same_text)) in
      record {
        agent = parcel.agent;
        bytes = sent.0;
        is_agent = reply_agent parcel put back;
        sent = subst (λ (n : ℕ). IsSent v.history.records n parcel.agent sent.0) (sym same_issue) sent.1;
        acts = λ file left.
            let there = acted_by_good parcel put back file left in
            record {
              acts = there.acts;
              are = there.are;
              so = record {
                act = there.so.act;
                has = there.so.has;
                of_run = there.so.of_run ∙ sym same_run;
                of_issue = there.so.of_issue ∙ sym same_issue;
                reply = ap answer there.so.reply ∙ reads;
              };
            };
      }
