-- Promise: The site beneath a wire is lent to it without its link.
use Rattle.std.proofs.Common.{◌≡◌, ℕ, ◌++◌, Bool, true, false, List, [], ◌∷◌, length}
use Rattle.std.specs.Prelude.{option_map}
use Rattle.cacao_site.specs.LinkCalls.{Keeps}
use Rattle.cacao_site.specs.View.{LinkView, SiteView}
use Rattle.cacao_site.specs.declared.parcel.Parcel.{Parcel}
use Rattle.oc2_wire.specs.ReplyWires.{retell}
use Rattle.oc2_wire_site.specs.Marks.{coded}

-- ---- what its label tells

abbrev pub bit_of : Bool → ℕ
bit_of true = 1
bit_of false = 0

-- a parcel as numbers, in front of others
abbrev pub coded_parcel : Parcel → List ℕ → List ℕ
coded_parcel parcel behind =
    parcel.agent ∷ bit_of parcel.back ∷ parcel.run ∷ parcel.issue ∷ length parcel.bytes ∷ (parcel.bytes ++ behind)

abbrev pub coded_parcels : List Parcel → List ℕ
coded_parcels [] = []
coded_parcels (parcel ∷ parcels) = coded_parcel parcel (coded_parcels parcels)

abbrev pub coded_entries : List (ℕ × Parcel) → List ℕ
coded_entries [] = []
coded_entries (entry ∷ entries) = entry.0 ∷ coded_parcel entry.1 (coded_entries entries)

-- what was put, taken and pending, and how often a take found nothing, as numbers
abbrev pub coded_link : LinkView → List ℕ → List ℕ
coded_link link behind =
    coded (option_map coded_entries link.puts)
    (coded (option_map coded_entries link.taken) (coded link.empty_takes (coded (option_map coded_parcels link.pending) behind)))

-- the name of its loan, what its link was when it was lent, and the label of its disk
abbrev pub beneath_label : ℕ → SiteView → List ℕ → List ℕ
beneath_label name was label = name ∷ was.counts.mishaps ∷ coded_link was.link label

-- The site as it is now, which was lent as it was then; so many parcels were put since, and each is lost and counted.
abbrev pub beneath : ℕ → SiteView → ℕ → SiteView → SiteView
beneath name was lost now = retell (beneath_label name was now.disk.label) lost now

-- ---- what stays

-- Nothing was put over the link of the site or taken from it. What was pending still is, and what was held back may be.
pub record LeavesLink (was now : SiteView) : Type 0 where
  pub puts : now.link.puts ≡ was.link.puts
  pub taken : now.link.taken ≡ was.link.taken
  pub empty_takes : now.link.empty_takes ≡ was.link.empty_takes
  pub pending : ∥ Keeps was.link.pending now.link.pending ∥₁
  pub mishaps : now.counts.mishaps ≡ was.counts.mishaps
