-- Promise: Agreement at each beat of all that happened.
use Rattle.std.specs.Prelude.{◌≡◌, ℕ, IsSome, Contains}
use Rattle.cacao_site.specs.View.{SiteView}
use Rattle.cacao_site.specs.declared.parcel.Parcel.{Parcel}
use Rattle.flow_laws.specs.Fresh.{IsFresh}
use Rattle.flow_laws.specs.Held.{plain}
use Rattle.flow_laws.specs.Images.{puts_to}
use Rattle.flow_laws.specs.Since.{AgreedSince}
use Rattle.flow_world_steps.specs.Steps.{Steps}
use Rattle.flow_world_steps.specs.Worlds.{World, holds}

-- a copy of the parcel was put
pub record WasPut (site : SiteView) (parcel : Parcel) : Type 0 where
  pub at : ℕ
  pub has : Contains (puts_to site site.disk.beat) (at, parcel)

-- A session that began on `start` has kept agreement at each beat so far. Its site tells the parcels put and those pending, so
-- the parcel in hand is known to be a copy of one that was put.
pub record HasKept (start : SiteView) (w : World) : Type 0 where
  pub agreed : AgreedSince plain start w.site
  pub puts : IsSome w.site.link.puts
  pub pending : IsSome w.site.link.pending
  pub in_hand : (beat : ℕ) (parcel : Parcel) → w.phase ≡ holds beat parcel → WasPut w.site parcel

-- Whatever happens, and however it ends: what has kept agreement keeps it, where the number of the run was fresh at the start.
abbrev pub StepsKeepAgreement : Type 0
StepsKeepAgreement =
    (start : SiteView) (a b : World) → IsFresh start a.engine.history.seen.run start.disk.beat → HasKept start a → Steps a b
    → HasKept start b
