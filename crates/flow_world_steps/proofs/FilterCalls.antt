-- What the filters' calls do to agreement.
use Rattle.std.proofs.Common.{◌≡◌, ◌⊎◌, inl, inr, ℕ, true, false, List, [], ◌∷◌, ◌++◌, refl, sym, subst, ap, IsTrue, arith}
use Rattle.std.proofs.lemmas.List.Elements.{Contains-push}
use Rattle.std.specs.List.{AllByRecursion}
use Rattle.cacao_site.specs.View.{SiteView, LinkView}
use Rattle.cacao_site.specs.declared.parcel.Parcel.{Parcel}
use Rattle.cacao_site.specs.DiskCalls.{IsLeft, OnlyFile, StaysAt}
use Rattle.cacao_site.specs.SiteCalls.{Puts}
use Rattle.cacao_site.specs.Sound.{IsSound}
use Rattle.cacao_site.proofs.Beats.{each-weaken}
use Rattle.run_records.specs.Ranges.{ActInRange}
use Rattle.run_records.specs.declared.act.Act.{Act}
use Rattle.flow_laws.specs.Acts.{HasReply, IsBytes}
use Rattle.flow_laws.specs.Beats.{IsFurtherAct}
use Rattle.flow_laws.specs.Held.{plain}
use Rattle.flow_laws.specs.Images.{EachFilter, HasBegun, IsActs, IsAgent}
use Rattle.flow_laws.specs.Journals.{IsSent}
use Rattle.flow_laws.proofs.Calls.{since_act, since_reply}
use Rattle.flow_laws.proofs.OneList.{acts_of_layout}
use Rattle.slpf_actuator.specs.ActuatorCalls.{Acts, Offers, Repeats}
use Rattle.slpf_actuator.specs.ActuatorView.{ActuatorView, act_for, reply_parcel_of}
use Rattle.flow_world_steps.specs.Agreement.{WasPut}
use Rattle.flow_world_steps.specs.Sides.{IsFilter}
use Rattle.flow_world_steps.proofs.Backed.{sent_by_good}
use Rattle.flow_world_steps.proofs.EngineCalls.{put_keeps_link}
use Rattle.flow_world_steps.proofs.Sites.{HasKeptTo, some_same, sound_between}

all_more : {A : Type 0} (P : A → Type 0) (xs : List A) (x : A) → AllByRecursion P xs → P x → AllByRecursion P (xs ++ x ∷ [])
all_more P [] x all is = (is, tt)
all_more P (y ∷ xs) x all is = (all.0, all_more P xs x all.1 is)

pub has_acts : (v : ActuatorView) (agent : ℕ) (site : SiteView) → IsFilter v agent site → IsTrue site.disk.told → (image : List ℕ) → IsLeft site.disk v.agent site.disk.beat image → IsActs image v.acts
has_acts v agent site is told image left = acts_of_layout image v.acts is.ready.history.ranges (is.ready.images is.whole told image left).0

-- a reply was put whose act is in every image
reply_kept : (start old new : SiteView) (parcel : Parcel) → IsSound old → (IsTrue old.disk.told → EachFilter old old.disk.beat parcel.agent (λ acts. HasReply acts parcel.run parcel.issue (IsBytes parcel.bytes)))
    → parcel.back ≡ true → IsAgent parcel.agent → (IsTrue old.disk.told → HasBegun old old.disk.beat) → Puts parcel old new → HasKeptTo start old → HasKeptTo start new
reply_kept start old new parcel sound acted back is_agent begun puts kept =
    let link = put_keeps_link old new parcel puts kept.puts kept.pending in
    record {
      agreed = since_reply plain start old new kept.agreed sound parcel puts back is_agent (acted kept.agreed.told) (begun kept.agreed.told);
      puts = link.0;
      pending = link.1;
    }

module _ (start old : SiteView) (v : ActuatorView) (parcel : Parcel) (moment : ℕ) (sound : IsSound old) (filter : IsFilter v parcel.agent old)
    (put : WasPut old parcel) (command : parcel.back ≡ false) (begun : IsTrue old.disk.told → HasBegun old old.disk.beat) where
  is_agent : IsAgent v.agent
  is_agent = (filter.ready.low, filter.ready.high)

  act : Act
  act = act_for v.acts parcel moment

  further : HasKeptTo start old → (new : SiteView) → Offers v parcel moment old new → IsFurtherAct old old.disk.beat v.agent v.acts (act_for v.acts parcel moment)
  further kept new offers =
      let agreed = kept.agreed.each old.disk.beat kept.agreed.later (omega arith) in
      record {
        other = offers.is_new;
        replied = refl;
        sent = λ image records left stands of. subst (λ (n : ℕ). IsSent records parcel.issue n parcel.bytes) (sym filter.of_agent)
            (sent_by_good old sound kept.agreed.told agreed.good parcel put command image records left stands of);
      }

  -- the act may have been appended
  pub act_kept : (new : SiteView) → Offers v parcel moment old new → HasKeptTo start old → HasKeptTo start new
  act_kept new offers kept =
      let one = act_for v.acts parcel moment in
      let only : OnlyFile v.agent old new (λ image. IsActs image v.acts ⊎ IsActs image (v.acts ++ one ∷ [])) = record {
        each = each-weaken offers.adds.file.each (λ told image is. elim is [
          | inl before ↦ inl (acts_of_layout image v.acts filter.ready.history.ranges before)
          | inr after ↦ inr (acts_of_layout image (v.acts ++ one ∷ []) (all_more ActInRange v.acts one filter.ready.history.ranges offers.in_range) after)
        ]);
        others = offers.adds.file.others;
        rest = offers.adds.file.rest;
      } in
      let some = sound.images v.agent old.disk.beat kept.agreed.told (omega arith) in
      record {
        agreed = since_act plain start old new kept.agreed sound v.agent v.acts one (filter.ready.low, filter.ready.high) only (record { image = some.0; left = some.1 })
            (has_acts v parcel.agent old filter kept.agreed.told) (further kept new offers) (begun kept.agreed.told);
        puts = some_same old.link.puts new.link.puts (ap (λ (l : LinkView). l.puts) offers.adds.file.rest.link) kept.puts;
        pending = some_same old.link.pending new.link.pending (ap (λ (l : LinkView). l.pending) offers.adds.file.rest.link) kept.pending;
      }

  -- the act was appended, and its reply put
  pub acts_kept : (w : ActuatorView) (new : SiteView) → IsSound new → Acts v w parcel moment old new → HasKeptTo start old → HasKeptTo start new
  acts_kept w new after acts kept =
      let mid = acts.between in
      let one = act_for v.acts parcel moment in
      let file = acts.offers.adds.file in
      let mid_sound = sound_between old mid new v.agent _ sound after file acts.puts.disk.disk in
      let zero_stays : StaysAt old.disk mid.disk 0 = file.others 0 (λ e. absurd (omega (arith, e, filter.ready.low))) in
      let begun_mid : IsTrue mid.disk.told → HasBegun mid mid.disk.beat = λ told image left.
      begun (subst IsTrue file.each.goes_on.told told) image (subst IsTrue (zero_stays.images mid.disk.beat image file.each.goes_on.later (omega arith)) left) in
      let acted : IsTrue mid.disk.told → EachFilter mid mid.disk.beat v.agent (λ acts. HasReply acts parcel.run parcel.issue (IsBytes one.reply)) = λ told image left. record {
        acts = v.acts ++ one ∷ [];
        are = acts_of_layout image (v.acts ++ one ∷ []) (all_more ActInRange v.acts one filter.ready.history.ranges acts.offers.in_range) (acts.durable told image left);
        so = record { act = one; has = Contains-push v.acts one; of_run = refl; of_issue = refl; reply = refl };
      } in
      reply_kept start mid new (reply_parcel_of v.agent parcel one.reply) mid_sound acted refl (filter.ready.low, filter.ready.high) begun_mid acts.puts
      (act_kept mid acts.offers kept)

  -- the reply of an earlier act was put
  pub repeats_kept : (w : ActuatorView) (new : SiteView) → Repeats v w parcel old new → HasKeptTo start old → HasKeptTo start new
  repeats_kept w new repeats kept =
      reply_kept start old new (reply_parcel_of v.agent parcel repeats.act.reply) sound
      (λ told image left. record {
        acts = v.acts;
        are = has_acts v parcel.agent old filter told image left;
        so = record { act = repeats.act; has = repeats.acted.has; of_run = repeats.acted.of_run; of_issue = repeats.acted.of_issue; reply = refl };
      }) refl (filter.ready.low, filter.ready.high) begun repeats.puts kept
