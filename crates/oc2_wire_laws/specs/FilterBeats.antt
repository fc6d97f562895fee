-- Promise: From beat to beat of a session of the filters alone: what keeps what it promises.
use Rattle.std.specs.Prelude.{◌≡◌, ◌≢◌, ◌⊎◌, ℕ, true, List, [], ◌∷◌, ◌++◌, Contains}
use Rattle.cacao_site.specs.DiskCalls.{IsLeft}
use Rattle.cacao_site.specs.View.{SiteView}
use Rattle.cacao_site.specs.declared.parcel.Parcel.{Parcel}
use Rattle.run_records.specs.declared.act.Act.{Act}
use Rattle.slpf_rules_acts.specs.Acts.{AreActs}
use Rattle.flow_laws.specs.Beats.{Among}
use Rattle.flow_laws.specs.Images.{HasImage, IsActs, IsAgent, puts_to}
use Rattle.oc2_wire_laws.specs.Ends.{FiltersKeep, HasGotCommand, IsActedEverywhere}

-- the files of filters have fewer images, and the puts are as they were
pub record FiltersShrink (earlier : SiteView) (early : ℕ) (later : SiteView) (late : ℕ) : Type 0 where
  pub images : (agent : ℕ) → IsAgent agent → Among agent earlier early later late
  pub puts : puts_to later late ≡ puts_to earlier early

-- Each image of one file stands for the acts, and later for them or for them and one more, on a command that was got. With it
-- they are acts again.
pub record FilterGains (got : List Parcel) (agent : ℕ) (acts : List Act) (act : Act) (earlier : SiteView) (early : ℕ)
    (later : SiteView) (late : ℕ) : Type 0 where
  pub images : (other : ℕ) → IsAgent other → other ≢ agent → Among other earlier early later late
  pub puts : puts_to later late ≡ puts_to earlier early
  pub is_agent : IsAgent agent
  pub some : HasImage earlier agent early
  pub before : (image : List ℕ) → IsLeft earlier.disk agent early image → IsActs image acts
  pub now : (image : List ℕ) → IsLeft later.disk agent late image → IsActs image acts ⊎ IsActs image (acts ++ act ∷ [])
  pub are_acts : AreActs (acts ++ act ∷ [])
  pub command : HasGotCommand agent got act

-- a reply was put whose act is in each image of its agent's file
pub record FilterReplies (parcel : Parcel) (earlier : SiteView) (early : ℕ) (later : SiteView) (late : ℕ) : Type 0 where
  pub images : (agent : ℕ) → IsAgent agent → Among agent earlier early later late
  pub puts : puts_to later late ≡ puts_to earlier early ++ (late, parcel) ∷ []
  pub back : parcel.back ≡ true
  pub acted : IsActedEverywhere earlier early parcel

-- from an earlier beat to a later one
abbrev pub AreKept : (List Parcel → SiteView → ℕ → SiteView → ℕ → Type 0) → Type 0
AreKept Changes =
    (start : SiteView) (got : List Parcel) (earlier : SiteView) (early : ℕ) (later : SiteView) (late : ℕ)
    → Changes got earlier early later late → FiltersKeep start got earlier early → FiltersKeep start got later late

abbrev pub ShrunkAreKept : Type 0
ShrunkAreKept = AreKept (λ got. FiltersShrink)

abbrev pub ActIsKept : Type 0
ActIsKept = (agent : ℕ) (acts : List Act) (act : Act) → AreKept (λ got. FilterGains got agent acts act)

abbrev pub ReplyIsKept : Type 0
ReplyIsKept = (parcel : Parcel) → AreKept (λ got. FilterReplies parcel)

-- where more was got
abbrev pub MoreForFilters : Type 0
MoreForFilters = (start : SiteView) (got more : List Parcel) (site : SiteView) (beat : ℕ)
    → ((parcel : Parcel) → Contains got parcel → Contains more parcel) → FiltersKeep start got site beat
    → FiltersKeep start more site beat
