-- What a run sees of a call on a rack tells what it did to the rack.
use Rattle.std.proofs.Common.{◌≡◌, ℕ, List, sym, ◌∙◌, subst, ap}
use Rattle.std.proofs.Math.Path.{fun_ext}
use Rattle.cacao_site.specs.DiskCalls.{OnlyFile}
use Rattle.cacao_site.specs.RunViews.{file_of}
use Rattle.cacao_site.specs.SiteCalls.{Puts}
use Rattle.cacao_site.specs.Sound.{IsSound}
use Rattle.cacao_site.specs.View.{SiteView}
use Rattle.cacao_site.specs.declared.parcel.Parcel.{Parcel}
use Rattle.flow_fleet_laws.specs.Views.{seen_from}
use Rattle.flow_fleet_laws.proofs.Seen.{back, only-seen, puts-seen, sound-seen}

-- seen twice from one place a rack is as it was
pub twice : (place : ℕ) (site : SiteView) → seen_from place (seen_from place site) ≡ site
twice place site =
    ap (λ (m : ℕ → ℕ). record site { disk = record site.disk { reads = λ file. site.disk.reads (m file); left = λ file beat image. site.disk.left (m file) beat image } })
    (fun_ext (back place))

-- so what holds of what is seen twice holds of the rack
from_twice : (P : SiteView → SiteView → Type 0) (place : ℕ) (a b : SiteView) → P (seen_from place (seen_from place a)) (seen_from place (seen_from place b)) → P a b
from_twice P place a b is =
    subst (λ (s : SiteView). P s b) (twice place a) (subst (λ (s : SiteView). P (seen_from place (seen_from place a)) s) (twice place b) is)

pub sound_back : (place : ℕ) (site : SiteView) → IsSound (seen_from place site) → IsSound site
sound_back place site sound = subst (λ (s : SiteView). IsSound s) (twice place site) (sound-seen place (seen_from place site) sound)

pub puts_back : (place : ℕ) (parcel : Parcel) (a b : SiteView) → Puts parcel (seen_from place a) (seen_from place b) → Puts parcel a b
puts_back place parcel a b puts = from_twice (λ (s t : SiteView). Puts parcel s t) place a b (puts-seen place parcel puts)

pub only_back : (place : ℕ) (P : List ℕ → Type 0) (a b : SiteView) → OnlyFile 0 (seen_from place a) (seen_from place b) P → OnlyFile (file_of place) a b P
only_back place P a b only =
    from_twice (λ (s t : SiteView). OnlyFile (file_of place) s t P) place a b
    (only-seen place (file_of place) P (subst (λ (n : ℕ). OnlyFile n (seen_from place a) (seen_from place b) P) (sym (back place 0)) only))

pub same_back : (place : ℕ) (a b : SiteView) → seen_from place b ≡ seen_from place a → b ≡ a
same_back place a b same = sym (twice place b) ∙ ap (seen_from place) same ∙ twice place a
