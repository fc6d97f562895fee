-- What a session's filters and its link do, as calls in a row on a rack.
use Rattle.std.proofs.Common.{◌≡◌, ◌⊎◌, inl, inr, ℕ, false, List, [], ◌∷◌, ◌++◌, refl, sym, ap, IsTrue}
use Rattle.std.specs.Prelude.{IsSome}
use Rattle.std.proofs.lemmas.List.Elements.{Contains-push}
use Rattle.std.specs.List.{AllByRecursion}
use Rattle.cacao_site.specs.View.{LinkView, SiteView}
use Rattle.cacao_site.specs.declared.parcel.Parcel.{Parcel}
use Rattle.cacao_site.specs.DiskCalls.{KeepsDisk, OnlyFile}
use Rattle.cacao_site.specs.SiteCalls.{Puts}
use Rattle.cacao_site.specs.Sound.{IsSound}
use Rattle.cacao_site.proofs.Beats.{each-weaken, told-goes_on}
use Rattle.run_records.specs.Ranges.{ActInRange}
use Rattle.flow_laws.specs.Images.{IsActs}
use Rattle.flow_laws.proofs.OneList.{acts_of_layout}
use Rattle.slpf_actuator.specs.ActuatorCalls.{Acts, Offers, Repeats}
use Rattle.slpf_actuator.specs.ActuatorView.{ActuatorView, act_for, reply_parcel_of}
use Rattle.flow_world_steps.specs.Agreement.{WasPut}
use Rattle.flow_world_steps.specs.Sides.{IsFilter}
use Rattle.flow_world_steps.proofs.EngineCalls.{put_keeps_link}
use Rattle.flow_world_steps.proofs.FilterCalls.{has_acts}
use Rattle.flow_world_steps.proofs.Sites.{some_same, sound_between}
use Rattle.flow_fleet_laws.specs.Events.{Event, Events}
use Rattle.flow_fleet_laws.specs.Events.Event.{act_by, reply_by, shrinks}
use Rattle.flow_fleet_laws.specs.Events.Events.{and_then}
use Rattle.flow_fleet_laws.specs.Speeches.{Form}
use Rattle.flow_fleet_laws.proofs.Journals.{event_goes_on}
use Rattle.flow_fleet_laws.proofs.Shrinking.{kept_shrinks}

-- calls in a row came here, and the site tells its files and its parcels
pub record HasCome (form : Form) (runs : List ℕ) (start : SiteView) (site : SiteView) : Type 0 where
  pub events : Events form runs start site
  pub told : IsTrue site.disk.told
  pub puts : IsSome site.link.puts
  pub pending : IsSome site.link.pending

-- one more
pub one_more : (form : Form) (runs : List ℕ) (start : SiteView) (old new : SiteView) → HasCome form runs start old → IsSound old → Event form runs start old new
    → (IsSome old.link.puts → IsSome new.link.puts) → (IsSome old.link.pending → IsSome new.link.pending) → HasCome form runs start new
one_more form runs start old new come sound event puts pending = record {
  events = and_then come.events sound event;
  told = told-goes_on (event_goes_on form runs start old new event) come.told;
  puts = puts come.puts;
  pending = pending come.pending;
}

-- one that leaves the link as it was
pub link_stays : (form : Form) (runs : List ℕ) (start : SiteView) (old new : SiteView) → HasCome form runs start old → IsSound old → Event form runs start old new → new.link ≡ old.link
    → HasCome form runs start new
link_stays form runs start old new come sound event same = one_more form runs start old new come sound event
    (some_same old.link.puts new.link.puts (ap (λ (l : LinkView). l.puts) same)) (some_same old.link.pending new.link.pending (ap (λ (l : LinkView). l.pending) same))

-- one that leaves the disk, the puts and the lines as they were
pub quiet : (form : Form) (runs : List ℕ) (start : SiteView) (old new : SiteView) → IsSound old → KeepsDisk old.disk new.disk → new.link.puts ≡ old.link.puts → new.link.said ≡ old.link.said
    → (IsSome old.link.pending → IsSome new.link.pending) → HasCome form runs start old → HasCome form runs start new
quiet form runs start old new sound disk puts said pending come =
    one_more form runs start old new come sound (shrinks (kept_shrinks old new disk puts said)) (some_same old.link.puts new.link.puts puts) pending

-- one that puts a parcel
pub put_one : (form : Form) (runs : List ℕ) (start : SiteView) (old new : SiteView) (parcel : Parcel) → HasCome form runs start old → IsSound old → Puts parcel old new
    → Event form runs start old new → HasCome form runs start new
put_one form runs start old new parcel come sound puts event = one_more form runs start old new come sound event
    (λ some. (put_keeps_link old new parcel puts some come.pending).0) (λ some. (put_keeps_link old new parcel puts come.puts some).1)

all_more : {A : Type 0} (P : A → Type 0) (xs : List A) (x : A) → AllByRecursion P xs → P x → AllByRecursion P (xs ++ x ∷ [])
all_more P [] x all is = (is, tt)
all_more P (y ∷ xs) x all is = (all.0, all_more P xs x all.1 is)

module _ (form : Form) (runs : List ℕ) (start : SiteView) (old : SiteView) (v : ActuatorView) (parcel : Parcel) (moment : ℕ) (come : HasCome form runs start old) (sound : IsSound old)
    (filter : IsFilter v parcel.agent old) (put : WasPut old parcel) (command : parcel.back ≡ false) where
  -- the act may have been appended
  pub act_comes : (new : SiteView) → Offers v parcel moment old new → HasCome form runs start new
  act_comes new offers =
      let one = act_for v.acts parcel moment in
      let only : OnlyFile v.agent old new (λ image. IsActs image v.acts ⊎ IsActs image (v.acts ++ one ∷ [])) = record {
        each = each-weaken offers.adds.file.each (λ told image is. elim is [
          | inl before ↦ inl (acts_of_layout image v.acts filter.ready.history.ranges before)
          | inr after ↦ inr (acts_of_layout image (v.acts ++ one ∷ []) (all_more ActInRange v.acts one filter.ready.history.ranges offers.in_range) after)
        ]);
        others = offers.adds.file.others;
        rest = offers.adds.file.rest;
      } in
      link_stays form runs start old new come sound (act_by v.agent (record {
        is_agent = (filter.ready.low, filter.ready.high);
        acts = v.acts;
        act = one;
        parcel = parcel;
        at = put.at;
        put = put.has;
        command = command;
        agent_is = sym filter.of_agent;
        run_is = refl;
        issue_is = refl;
        bytes_is = refl;
        only = only;
        before = has_acts v parcel.agent old filter come.told;
        other = offers.is_new;
        replied = refl;
      })) offers.adds.file.rest.link

  -- the act was appended, and its reply put
  pub acts_come : (w : ActuatorView) (new : SiteView) → IsSound new → Acts v w parcel moment old new → HasCome form runs start new
  acts_come w new after acts =
      let mid = acts.between in
      let one = act_for v.acts parcel moment in
      let file = acts.offers.adds.file in
      let there = act_comes mid acts.offers in
      put_one form runs start mid new (reply_parcel_of v.agent parcel one.reply) there (sound_between old mid new v.agent _ sound after file acts.puts.disk.disk) acts.puts (reply_by (record {
        parcel = reply_parcel_of v.agent parcel one.reply;
        back = refl;
        is_agent = (filter.ready.low, filter.ready.high);
        acted = λ image left. record {
          acts = v.acts ++ one ∷ [];
          are = acts_of_layout image (v.acts ++ one ∷ []) (all_more ActInRange v.acts one filter.ready.history.ranges acts.offers.in_range) (acts.durable there.told image left);
          so = record { act = one; has = Contains-push v.acts one; of_run = refl; of_issue = refl; reply = refl };
        };
        puts = acts.puts;
      }))

  -- the reply of an earlier act was put
  pub repeats_come : (w : ActuatorView) (new : SiteView) → Repeats v w parcel old new → HasCome form runs start new
  repeats_come w new repeats =
      put_one form runs start old new (reply_parcel_of v.agent parcel repeats.act.reply) come sound repeats.puts (reply_by (record {
        parcel = reply_parcel_of v.agent parcel repeats.act.reply;
        back = refl;
        is_agent = (filter.ready.low, filter.ready.high);
        acted = λ image left. record {
          acts = v.acts;
          are = has_acts v parcel.agent old filter come.told image left;
          so = record { act = repeats.act; has = repeats.acted.has; of_run = repeats.acted.of_run; of_issue = repeats.acted.of_issue; reply = refl };
        };
        puts = repeats.puts;
      }))
