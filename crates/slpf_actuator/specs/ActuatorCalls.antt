-- Promise: What the calls of a filter do.
use Rattle.std.specs.Prelude.{◌≡◌, ◌≢◌, ◌⊎◌, ℕ, ◌<◌, ◌≤◌, true, [], ◌∷◌, ◌++◌}
use Rattle.cacao_site.specs.declared.parcel.Parcel.{Parcel}
use Rattle.cacao_site.specs.DiskCalls.{AllLeft}
use Rattle.cacao_site.specs.SiteCalls.{Puts}
use Rattle.cacao_site.specs.View.{SiteView}
use Rattle.run_records.specs.declared.act.Act.{Act}
use Rattle.run_records.specs.Ranges.{ActInRange}
use Rattle.slpf_actuator.specs.declared.error.ActError.{ActError}
use Rattle.slpf_actuator.specs.declared.error.ActError.TheVariants.{Disk, Memory}
use Rattle.slpf_actuator_acts.specs.ActLists.{HasActed, IsFinalReply, IsNew, length_with}
pub use Rattle.slpf_actuator_acts.specs.Adding.{HoldsWith, MayAdd}
use Rattle.slpf_actuator_acts.specs.ActuatorView.{ActuatorView, HoldsActs, act_for, reply_parcel_of}

-- the act on a command of a new run and issue may have been added, and nothing else changed
pub record Offers (v : ActuatorView) (parcel : Parcel) (moment : ℕ) (old new : SiteView) : Type 0 where
  pub is_new : IsNew v.acts parcel.run parcel.issue
  pub in_range : ActInRange (act_for v.acts parcel moment)
  pub adds : MayAdd v (act_for v.acts parcel moment) old new

-- The act was kept, so that it is in each image, and then its reply was put. No call of the disk failed.
pub record Acts (v w : ActuatorView) (parcel : Parcel) (moment : ℕ) (old new : SiteView) : Type 0 where
  pub between : SiteView  -- the site behind the act and before the put
  pub offers : Offers v parcel moment old between
  pub durable : AllLeft v.agent between.disk (HoldsActs (v.acts ++ act_for v.acts parcel moment ∷ []))
  pub steady : between.disk.faults ≡ old.disk.faults
  pub puts : Puts (reply_parcel_of v.agent parcel (act_for v.acts parcel moment).reply) between new
  pub final : IsFinalReply (act_for v.acts parcel moment).reply
  pub fits : length_with v.acts (act_for v.acts parcel moment) ≤ 67_108_864
  pub view : w ≡ record v { acts = v.acts ++ act_for v.acts parcel moment ∷ []; prepared = true }

-- a command that had acted: the reply of that act was put, and nothing else changed
pub record Repeats (v w : ActuatorView) (parcel : Parcel) (old new : SiteView) : Type 0 where
  pub act : Act
  pub acted : HasActed v.acts parcel.run parcel.issue act
  pub puts : Puts (reply_parcel_of v.agent parcel act.reply) old new
  pub final : IsFinalReply act.reply
  pub view : w ≡ v

-- what each refusal may have done: nothing, but that the act may have been added where the disk failed, or where memory was
-- wanted for a new run and issue
abbrev pub MayHaveDone : ActError → ActuatorView → Parcel → ℕ → SiteView → SiteView → Type 0
MayHaveDone Disk v parcel moment old new = Offers v parcel moment old new
MayHaveDone Memory v parcel moment old new = (new ≡ old) ⊎ Offers v parcel moment old new
MayHaveDone _ v parcel moment old new = new ≡ old

-- A refusal breaks the filter; nothing else of it changed but that the header may stand. A call of the disk failed only where the
-- refusal says so.
pub record Refuses (v w : ActuatorView) (parcel : Parcel) (moment : ℕ) (error : ActError) (old new : SiteView) : Type 0 where
  pub view : w ≡ record v { prepared = w.prepared; broken = true }
  pub site : MayHaveDone error v parcel moment old new
  pub steady : error ≢ Disk → new.disk.faults ≡ old.disk.faults

-- with the act on a command of a new run and issue the file would have so many bytes, which is past its limit
pub record Overflows (v : ActuatorView) (parcel : Parcel) (moment needed : ℕ) : Type 0 where
  pub is_new : IsNew v.acts parcel.run parcel.issue
  pub is : needed ≡ length_with v.acts (act_for v.acts parcel moment)
  pub past : 67_108_864 < needed
