-- What the laws on sessions ask is needed: sites of which all holds but one premise, and that are no start.
use Rattle.std.proofs.Common.{◌≡◌, ℕ, zero, suc, ◌≤◌, true, false, Bool, List, [], ◌∷◌, refl, arith}
use Rattle.std.specs.Prelude.{None}
use Rattle.cacao_site.specs.DiskCalls.{IsLeft}
use Rattle.cacao_site.specs.View.{SiteView}
use Rattle.cacao_site.specs.declared.parcel.Parcel.{Parcel}
use Rattle.run_journal.specs.Layout.{Stands}
use Rattle.flow_laws.specs.Images.{HasImage, WasSaid, puts_of}
use Rattle.flow_laws.specs.Good.{IsGood}
use Rattle.flow_laws.specs.Held.{IsHeldAs, IsRunLine, plain}
use Rattle.flow_laws.specs.Beats.{Among}
use Rattle.flow_laws.specs.Sessions.{AreCopies}
use Rattle.flow_laws.proofs.Needed.{site_of, site_with, any_image, is_short, is_empty, blank_left, is_start, zeros, no_list, reply, line, image_of_no_list, reply_without_act, line_without_record}
use Rattle.flow_laws.proofs.Quiet.{none_in}

abbrev blank : SiteView
blank = site_with [] []

unsaid : (left : ℕ → ℕ → List ℕ → Bool) (puts : List (ℕ × Parcel)) (bytes : List ℕ) → WasSaid (site_of left puts []) 0 bytes → ⊥
unsaid left puts bytes said = none_in (said.at, bytes) said.has

abbrev IsSilent : SiteView → Type 0
IsSilent site = (bytes : List ℕ) → WasSaid site 0 bytes → IsRunLine plain None bytes → ⊥

-- images of the agents' files are among those of the old site
abbrev AgentsKeep : SiteView → SiteView → Type 0
AgentsKeep old new = (file : ℕ) → 1 ≤ file → file ≤ 16 → Among file old 0 new 0

abbrev IsBlankJournal : SiteView → Type 0
IsBlankJournal site = (image : List ℕ) → IsLeft site.disk 0 0 image → Stands image []

-- ---- a new run

-- the old journal has no image
abbrev pub lacks_zero : ℕ → ℕ → List ℕ → Bool
lacks_zero zero beat image = false
lacks_zero (suc file) beat image = is_short image

abbrev pub no_journal : SiteView
no_journal = site_of lacks_zero ((0, reply) ∷ []) []

keeps_agents : (file : ℕ) (image : List ℕ) → 1 ≤ file → is_short image ≡ true → lacks_zero file 0 image ≡ true
keeps_agents zero image some left = absurd (omega (arith, some))
keeps_agents (suc file) image some left = left

never : false ≡ true → ⊥
never e = cc

pub new_run_without_an_image :
    IsBlankJournal (site_with ((0, reply) ∷ []) [])
    × AgentsKeep no_journal (site_with ((0, reply) ∷ []) [])
    × AreCopies no_journal 0 (site_with ((0, reply) ∷ []) [])
    × IsSilent (site_with ((0, reply) ∷ []) [])
    × IsGood no_journal 0
    × (IsGood (site_with ((0, reply) ∷ []) []) 0 → ⊥)
new_run_without_an_image = (
  λ image left. is_empty image left,
  λ file some few image left. keeps_agents file image some left,
  λ at parcel has. (at, has),
  λ bytes said looks. unsaid (λ file beat image. is_short image) ((0, reply) ∷ []) bytes said,
  record { each = λ choice each. absurd (never (each 0 (omega arith))) },
  reply_without_act,
)

-- the new journal has every image
abbrev pub any_zero : ℕ → ℕ → List ℕ → Bool
any_zero zero beat image = true
any_zero (suc file) beat image = is_short image

abbrev zeros_in_zero : ℕ → List ℕ
zeros_in_zero zero = zeros
zeros_in_zero (suc file) = []

zero_left : (file : ℕ) → any_zero file 0 (zeros_in_zero file) ≡ true
zero_left zero = refl
zero_left (suc file) = blank_left

zero_agents : (file : ℕ) (image : List ℕ) → 1 ≤ file → any_zero file 0 image ≡ true → is_short image ≡ true
zero_agents zero image some left = absurd (omega (arith, some))
zero_agents (suc file) image some left = left

pub new_run_on_any_journal :
    HasImage blank 0 0 × AgentsKeep blank (site_of any_zero [] []) × AreCopies blank 0 (site_of any_zero [] [])
    × IsSilent (site_of any_zero [] [])
    × IsGood blank 0
    × (IsGood (site_of any_zero [] []) 0 → ⊥)
new_run_on_any_journal = (
  record { image = []; left = blank_left },
  λ file some few image left. zero_agents file image some left,
  λ at parcel has. absurd (none_in (at, parcel) has),
  λ bytes said looks. unsaid any_zero [] bytes said,
  is_start.good,
  λ good. let on = good.each zeros_in_zero (λ file le. zero_left file) in no_list on.are_records.entries on.are_records.stands,
)

-- the file of agent 1 has every image
abbrev pub any_agent : ℕ → ℕ → List ℕ → Bool
any_agent zero beat image = is_short image
any_agent (suc zero) beat image = true
any_agent (suc (suc file)) beat image = is_short image

abbrev zeros_in_one : ℕ → List ℕ
zeros_in_one zero = []
zeros_in_one (suc zero) = zeros
zeros_in_one (suc (suc file)) = []

one_left : (file : ℕ) → any_agent file 0 (zeros_in_one file) ≡ true
one_left zero = blank_left
one_left (suc zero) = refl
one_left (suc (suc file)) = blank_left

pub new_run_with_any_acts :
    HasImage blank 0 0 × IsBlankJournal (site_of any_agent [] []) × AreCopies blank 0 (site_of any_agent [] [])
    × IsSilent (site_of any_agent [] [])
    × IsGood blank 0
    × (IsGood (site_of any_agent [] []) 0 → ⊥)
new_run_with_any_acts = (
  record { image = []; left = blank_left },
  λ image left. is_empty image left,
  λ at parcel has. absurd (none_in (at, parcel) has),
  λ bytes said looks. unsaid any_agent [] bytes said,
  is_start.good,
  λ good.
      let on = good.each zeros_in_one (λ file le. one_left file) in
      let acts = on.are_acts 1 (omega arith, omega arith) in
      no_list acts.entries acts.stands,
)

pub new_run_with_other_parcels :
    HasImage blank 0 0 × IsBlankJournal (site_with ((0, reply) ∷ []) []) × AgentsKeep blank (site_with ((0, reply) ∷ []) [])
    × IsSilent (site_with ((0, reply) ∷ []) [])
    × IsGood blank 0
    × (IsGood (site_with ((0, reply) ∷ []) []) 0 → ⊥)
new_run_with_other_parcels = (
  record { image = []; left = blank_left },
  λ image left. is_empty image left,
  λ file some few image left. left,
  λ bytes said looks. unsaid (λ file beat image. is_short image) ((0, reply) ∷ []) bytes said,
  is_start.good,
  reply_without_act,
)

pub new_run_with_old_lines :
    HasImage blank 0 0 × IsBlankJournal (site_with [] ((0, line) ∷ [])) × AgentsKeep blank (site_with [] ((0, line) ∷ []))
    × AreCopies blank 0 (site_with [] ((0, line) ∷ []))
    × IsGood blank 0
    × (IsHeldAs plain (site_with [] ((0, line) ∷ [])) 0 0 → ⊥)
new_run_with_old_lines = (
  record { image = []; left = blank_left },
  λ image left. is_empty image left,
  λ file some few image left. left,
  λ at parcel has. absurd (none_in (at, parcel) has),
  is_start.good,
  line_without_record,
)

-- ---- after a crash

abbrev AllKeep : SiteView → SiteView → Type 0
AllKeep old new = (file : ℕ) → file ≤ 16 → Among file old 0 new 0

abbrev AreOldLines : SiteView → SiteView → Type 0
AreOldLines old new = (bytes : List ℕ) → WasSaid new 0 bytes → WasSaid old 0 bytes

-- the old site is good and held, and the new one is no start
abbrev IsNoStart : SiteView → Type 0
IsNoStart new = IsGood blank 0 × IsHeldAs plain blank 0 0 × (IsGood new 0 → IsHeldAs plain new (puts_of new) 0 → ⊥)

pub crash_to_other_images : AreCopies blank 0 any_image × AreOldLines blank any_image × IsNoStart any_image
crash_to_other_images = (
  λ at parcel has. absurd (none_in (at, parcel) has),
  λ bytes said. absurd (unsaid (λ file beat image. true) [] bytes said),
  (is_start.good, is_start.held, λ good held. image_of_no_list good),
)

pub crash_to_other_parcels :
    AllKeep blank (site_with ((0, reply) ∷ []) []) × AreOldLines blank (site_with ((0, reply) ∷ []) [])
    × IsNoStart (site_with ((0, reply) ∷ []) [])
crash_to_other_parcels = (
  λ file le image left. left,
  λ bytes said. absurd (unsaid (λ file beat image. is_short image) ((0, reply) ∷ []) bytes said),
  (is_start.good, is_start.held, λ good held. reply_without_act good),
)

pub crash_to_other_lines :
    AllKeep blank (site_with [] ((0, line) ∷ [])) × AreCopies blank 0 (site_with [] ((0, line) ∷ []))
    × IsNoStart (site_with [] ((0, line) ∷ []))
crash_to_other_lines = (
  λ file le image left. left,
  λ at parcel has. absurd (none_in (at, parcel) has),
  (is_start.good, is_start.held, λ good held. line_without_record held),
)
