-- What becomes of a command.
use Rattle.std.proofs.Common.{◌≡◌, inr, ℕ, Bool, true, false, List, find, Some, Err, refl, sym, subst, ap, ap₂, ◌∙◌}
use Rattle.std.specs.Prelude.{IsErrOf}
use Rattle.cacao_site.specs.declared.parcel.Parcel.{Parcel}
use Rattle.cacao_site.specs.SiteCalls.{Puts}
use Rattle.cacao_site.specs.View.{SiteView}
use Rattle.run_journal.proofs.DurableLemmas.{images_stay}
use Rattle.run_journal.specs.JournalView.{JournalView}
use Rattle.run_records.specs.declared.act.Act.{Act}
use Rattle.run_records.specs.Ranges.{ActInRange}
use Rattle.slpf_rules.specs.Laws.{RepliesAreFinal}
use Rattle.slpf_actuator.specs.declared.error.ActError.{ActError}
use Rattle.slpf_actuator.specs.declared.error.ActError.TheVariants.{Disk, Damaged, Full, Broken, Memory}
use Rattle.slpf_actuator_acts.specs.ActLists.{IsHistory, IsNew, entries_of}
use Rattle.slpf_actuator.specs.ActuatorCalls.{MayHaveDone, Offers, Repeats}
use Rattle.run_journal.specs.Durable.{IsImage}
use Rattle.slpf_actuator_acts.specs.ActuatorView.{ActuatorView, IsReady, act_for, reply_parcel_of, view_over}
use Rattle.slpf_actuator_acts.specs.History.{is_of}
use Rattle.slpf_actuator_acts.proofs.ActLemmas.{acts_final}
use Rattle.slpf_actuator_acts.proofs.KeepLemmas.{adds_none}
use Rattle.slpf_actuator_acts.proofs.Places.{find_some}

-- the filter as it stands, where no call was refused
pub view_whole : (j : JournalView) (acts : List Act) (broken : Bool) → broken ≡ false
    → view_over j acts ≡ record { agent = j.file; acts = acts; prepared = j.prepared; broken = broken }
view_whole j acts broken whole = ap (λ (b : Bool). let v : ActuatorView = record { agent = j.file; acts = acts; prepared = j.prepared; broken = b } in v) (sym whole)

-- a site that stays may have got the act on a command
pub offers_none : (j : JournalView) (acts : List Act) (command : Parcel) (moment : ℕ) (site : SiteView) → IsReady (view_over j acts) site → IsNew acts command.run command.issue
    → ActInRange (act_for acts command moment) → Offers (view_over j acts) command moment site site
offers_none j acts command moment site ready is_new fits = record {
  is_new = is_new;
  in_range = fits;
  adds = adds_none j acts (act_for acts command moment) site ready;
}

-- a put leaves a filter ready
pub ready_after_put : (v : ActuatorView) (parcel : Parcel) (between new : SiteView) → IsReady v between → Puts parcel between new → IsReady v new
ready_after_put v parcel between new ready puts = record {
  low = ready.low;
  high = ready.high;
  history = ready.history;
  images = λ whole. images_stay v.agent between.disk new.disk (IsImage v.prepared (entries_of v.acts)) puts.disk.disk (ready.images whole);
}

pub repeats : RepliesAreFinal → (v : ActuatorView) (parcel : Parcel) (act : Act) (reply : Parcel) (old new : SiteView) → IsHistory v.acts
    → find (is_of parcel.run parcel.issue) v.acts ≡ Some act → parcel.agent ≡ v.agent → reply ≡ reply_parcel_of parcel.agent parcel act.reply → Puts reply old new
    → Repeats v v parcel old new
repeats law v parcel act reply old new history found own is puts =
    let acted = find_some parcel.run parcel.issue v.acts act found in
    record {
      act = act;
      acted = acted;
      puts = subst (λ (p : Parcel). Puts p old new) (is ∙ ap (λ (n : ℕ). reply_parcel_of n parcel act.reply) own) puts;
      final = acts_final law v.acts act history.are acted.has;
      view = refl;
    }

-- what a refusal of `act_on` may have done
pub may_have_done : (e : ActError) (v : ActuatorView) (parcel : Parcel) (moment : ℕ) (old new : SiteView) → Offers v parcel moment old new
    → ((needed : ℕ) → IsErrOf {T = Unit {0}} (Err e) (Full needed) → new ≡ old)
    → ((place : ℕ) → (IsErrOf {T = Unit {0}} (Err e) Broken → ⊥) × (IsErrOf {T = Unit {0}} (Err e) (Damaged place) → ⊥)) → MayHaveDone e v parcel moment old new
may_have_done Disk v parcel moment old new offers full other = offers
may_have_done (Damaged place) v parcel moment old new offers full other = absurd ((other place).1 refl)
may_have_done (Full needed) v parcel moment old new offers full other = full needed refl
may_have_done Broken v parcel moment old new offers full other = absurd ((other 0).0 refl)
may_have_done Memory v parcel moment old new offers full other = inr offers

-- a filter that a refusal broke
pub broken_view : (v : ActuatorView) (j k : JournalView) (acts more : List Act) (broken : Bool)
    → (let here : ActuatorView = record { agent = j.file; acts = acts; prepared = j.prepared; broken = broken } in here) ≡ v → k.file ≡ j.file → more ≡ acts
    → (let now : ActuatorView = record { agent = k.file; acts = more; prepared = k.prepared; broken = true } in now) ≡ record v { prepared = k.prepared; broken = true }
broken_view v j k acts more broken is file same =
    ap₂ (λ (n : ℕ) (l : List Act). let now : ActuatorView = record { agent = n; acts = l; prepared = k.prepared; broken = true } in now)
    (file ∙ ap (λ (x : ActuatorView). x.agent) is) (same ∙ ap (λ (x : ActuatorView). x.acts) is)

-- one refusal, of a call that gives nothing and of one that gives a truth value
pub same_refusal : (e f : ActError) → IsErrOf {T = Bool} (Err e) f → IsErrOf {T = Unit {0}} (Err e) f
same_refusal e f is = let same : e ≡ f = cc in ap (λ (x : ActError). Err x) same
