-- Two ends at the start of a session, whose sites tell no parcel put yet.
use Rattle.std.proofs.Common.{◌≡◌, ◌⊎◌, inl, inr, ℕ, List, [], refl, subst, ap}
use Rattle.std.specs.Prelude.{Contains}
use Rattle.cacao_site.specs.DiskCalls.{IsLeft}
use Rattle.cacao_site.specs.View.{SiteView}
use Rattle.cacao_site.specs.declared.parcel.Parcel.{Parcel}
use Rattle.flow_laws.specs.Images.{HasImage, IsAgent, up_to, told_list, puts_to}
use Rattle.oc2_wire_laws.specs.Deliveries.{HaveImages, IsNew, begins_behind, sent_by}
use Rattle.oc2_wire_laws.proofs.Lists.{agent_or_not, none_in, sent_new}

pub never_put : (site : SiteView) → told_list site.link.puts ≡ [] → (P : Type 0) (at : ℕ) (p : Parcel) → Contains (puts_to site site.disk.beat) (at, p) → P
never_put site none P at p has =
    none_in P (at, p) (subst (λ (l : List (ℕ × Parcel)). Contains l (at, p)) (ap (λ (l : List (ℕ × Parcel)). up_to site.disk.beat l) none) has)

pub is_new : (before : List Parcel) (site : SiteView) → told_list site.link.puts ≡ [] → IsNew (begins_behind before site)
is_new before site none = record { got = refl; site = refl; beat = refl; copies = λ at p has. never_put site none _ at p has }

pub only_before : (before : List Parcel) (site : SiteView) → told_list site.link.puts ≡ [] → sent_by (begins_behind before site) ≡ before
only_before before site none = sent_new (begins_behind before site) (is_new before site none)

module _ (before after : List Parcel) (engine filters : SiteView) (some_journal : HasImage engine 0 engine.disk.beat)
    (some_files : (agent : ℕ) → IsAgent agent → HasImage filters agent filters.disk.beat) where
  file_by : (agent : ℕ) → IsAgent agent ⊎ (IsAgent agent → ⊥) → List ℕ
  file_by agent (inl a) = (some_files agent a).image
  file_by agent (inr isnt) = []

  file_left : (agent : ℕ) → IsAgent agent → (d : IsAgent agent ⊎ (IsAgent agent → ⊥)) → IsLeft filters.disk agent filters.disk.beat (file_by agent d)
  unfolding file_by
  file_left agent a (inl b) = (some_files agent b).left
  file_left agent a (inr isnt) = absurd (isnt a)

  pub have_images : HaveImages (record { engine = begins_behind before engine; filters = begins_behind after filters })
  have_images = record {
    journal = some_journal.image;
    left = some_journal.left;
    files = λ agent. file_by agent (agent_or_not agent);
    files_left = λ agent a. file_left agent a (agent_or_not agent);
  }
