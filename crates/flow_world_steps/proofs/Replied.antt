-- Each Reply of a journal has its act.
use Rattle.std.proofs.Common.{◌≡◌, ◌≢◌, ℕ, zero, suc, ◌-◌, ◌<◌, List, [], ◌∷◌, length, refl, sym, ◌∙◌, subst, ap, arith}
use Rattle.std.specs.Prelude.{Some, Contains, slice_get}
use Rattle.cacao_site.specs.DiskCalls.{IsLeft}
use Rattle.run_records.specs.declared.act.Act.{Act}
use Rattle.run_records.specs.declared.record.Record.{Record}
use Rattle.run_records.specs.declared.record.Record.TheVariants as entry
use Rattle.flow_laws.specs.Acts.{HasReply, ReadsAs}
use Rattle.flow_laws.specs.Good.{AgreeOn}
use Rattle.flow_laws.specs.Images.{IsActs, puts_to}
use Rattle.flow_laws.specs.Journals.{IsSent, run_of}
use Rattle.flow_laws.proofs.OneList.{same_acts, same_records}
use Rattle.flow_world_steps.specs.Complete.{EachReplyActed}
use Rattle.flow_world_steps.specs.Sides.{IsFilter}
use Rattle.flow_world_steps.proofs.FilterCalls.{has_acts}
use Rattle.flow_world_steps.proofs.Records.{has_records, run_known}

there_at : {T : Type 0} (xs : List T) (k : ℕ) → k < length xs → (x : T) × (slice_get xs k ≡ Some x)
there_at [] k lt = absurd (omega (arith, lt))
there_at (x ∷ xs) zero lt = (x, refl)
there_at (x ∷ xs) (suc k) lt = there_at xs k (omega (arith, lt))

not_empty : (records : List Record) (r : Record) → Contains records r → records ≢ []
not_empty records r has e = let long = ap (λ (l : List Record). length l) e in absurd (omega (arith, long, has.1))

pub each_reply_acted : EachReplyActed
each_reply_acted start w kept sound journal filters all issue moment status rule text has =
    let told = kept.agreed.told in
    let site = w.site in
    let h = w.engine.history in
    let good = (kept.agreed.each site.disk.beat kept.agreed.later (omega arith)).good in
    let images = λ (file : ℕ). (sound.images file site.disk.beat told (omega arith)).0 in
    let left : (file : ℕ) → IsLeft site.disk file site.disk.beat (images file) = λ file. (sound.images file site.disk.beat told (omega arith)).1 in
    let g : AgreeOn images (puts_to site site.disk.beat) = good.each images (λ file le. left file) in
    let one : g.records ≡ h.records = same_records (images 0) g.records h.records g.are_records (has_records w.engine site journal.whole told (images 0) (left 0)) in
    let run_is : run_of g.records ≡ Some h.seen.run = ap run_of one ∙ run_known h journal.whole.engine.history (not_empty h.records _ has) in
    let r : Record = entry.Reply issue moment status rule text in
    let acted = g.agree.answers h.seen.run issue moment status rule text run_is (subst (λ (l : List Record). Contains l r) (sym one) has) in
    let long : length w.filters ≡ 16 = all in
    let filter = there_at w.filters (acted.agent - 1) (omega (arith, acted.is_agent.0, acted.is_agent.1, long)) in
    let v = filter.0 in
    let number : suc (acted.agent - 1) ≡ acted.agent = omega (arith, acted.is_agent.0) in
    let is : IsFilter v acted.agent site = subst (λ (n : ℕ). IsFilter v n site) number (filters.filters.each (acted.agent - 1) v filter.1) in
    let own : IsActs (images acted.agent) v.acts = has_acts v acted.agent site is told (images acted.agent)
    (subst (λ (n : ℕ). IsLeft site.disk n site.disk.beat (images acted.agent)) (sym is.of_agent) (left acted.agent)) in
    let acts : g.acts acted.agent ≡ v.acts = same_acts (images acted.agent) (g.acts acted.agent) v.acts (g.are_acts acted.agent acted.is_agent) own in
    record {
      agent = acted.agent;
      low = acted.is_agent.0;
      high = acted.is_agent.1;
      bytes = acted.bytes;
      sent = subst (λ (l : List Record). IsSent l issue acted.agent acted.bytes) one acted.sent;
      v = v;
      there = filter.1;
      reply = subst (λ (l : List Act). HasReply l h.seen.run issue (ReadsAs status rule text)) acts acted.reply;
    }
