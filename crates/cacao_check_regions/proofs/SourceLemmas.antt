-- What a search over the sources of a flaw finds.
use Rattle.std.proofs.Common.{◌≡◌, ◌↔◌, ◌⊎◌, inl, inr, ℕ, ◌<◌, ◌≤◌, Bool, false, List, [], length, get_or, Contains, IsSome, sym, ◌∙◌, ap, arith, is_some}
use Rattle.std.specs.Prelude.{All}
use Rattle.std.proofs.lemmas.Bool.{false≢true}
use Rattle.base_graphs.specs.Closure.{Closure}
use Rattle.base_graphs.specs.Tables.{IsMarked, IsOpen}
use Rattle.cacao_vars.specs.Declarations.{declared}
use Rattle.cacao_book.specs.declared.books.Book.{Book}
use Rattle.cacao_check_regions.specs.declared.charts.Chart.{Chart}
use Rattle.cacao_check_regions.specs.declared.flaws.Flaw.{Flaw}
use Rattle.cacao_check_regions.specs.declared.searches.Sources.{Sources}
use Rattle.cacao_check_steps.specs.Links.{declares}
use Rattle.cacao_check_regions.specs.Charts.{IsChartOf, AreMarksOf, BeginsChosen, FlowsPast}
use Rattle.cacao_check_regions.specs.Flaws.{is_flawed, HasOwnFlaw, SeesFlaw}
use Rattle.cacao_check_regions.specs.Memories.{AreSourcesOf, AreSeenFrom}
use Rattle.cacao_check_regions.proofs.ChartLemmas.{flow_within, within_members}
use Rattle.cacao_check_regions.proofs.SeenLemmas.{seen_source}
use Rattle.cacao_check_regions.proofs.SightLists.{some_within}
use Rattle.cacao_check_regions.proofs.SightLemmas.{sees_found}

-- the places are those of steps
pub declaring_within : (book : Book) (name : List ℕ) (flaw : Flaw) (sources : Sources) → AreSourcesOf book name flaw sources → All (λ place. place < length book.steps) sources.declaring
declaring_within book name flaw sources are = within_members (length book.steps) sources.declaring (λ p c. some_within book name p ((are.declaring p).0 c))

pub flawed_within : (book : Book) (name : List ℕ) (flaw : Flaw) (sources : Sources) → AreSourcesOf book name flaw sources → All (λ place. place < length book.steps) sources.flawed
flawed_within book name flaw sources are = within_members (length book.steps) sources.flawed (λ p c. some_within book name p ((are.flawed p).0 c).0)

-- no step has the flaw, nor the book
nowhere : (book : Book) (name : List ℕ) (flaw : Flaw) → is_flawed flaw (declared book.variables name) ≡ false → ((p : ℕ) → HasOwnFlaw book name flaw p → ⊥) → (place : ℕ) → SeesFlaw book name flaw place → ⊥
nowhere book name flaw start none place s = elim (seen_source book name s.1) [
  | inl at ↦ none at.0 (ap is_some at.1 ∙ at.2, ap (is_flawed flaw) at.1 ∙ s.2)
  | inr e ↦ false≢true (sym start ∙ sym (ap (is_flawed flaw) e) ∙ s.2)
]

pub none_seen : (book : Book) (sources : Sources) (marks : List Bool) → marks ≡ [] → sources.at_start ≡ false → length sources.flawed ≡ 0 → AreSeenFrom book sources marks
none_seen book sources marks none start empty name flaw are place = (
  λ m. absurd (false≢true (sym (ap (λ v. get_or v place false) none) ∙ m)),
  λ s. absurd (nowhere book name flaw (sym are.at_start ∙ start) (λ p h. let c : Contains sources.flawed p = (are.flawed p).1 h in let lt : c.0 < length sources.flawed = c.1 in omega arith) place s),
)

-- the search that was made
pub found_seen : (book : Book) (chart : Chart) → IsChartOf book chart → (sources : Sources) (n : ℕ) (hiding own outside marks : List Bool) → length book.steps ≤ n → AreMarksOf (Contains sources.declaring) hiding → AreMarksOf (Contains sources.flawed) own → AreMarksOf (Closure (BeginsChosen book own sources.at_start) (FlowsPast book hiding)) outside → AreMarksOf (λ place. place < n × (IsMarked own place ⊎ (IsMarked outside place × IsOpen hiding place))) marks → AreSeenFrom book sources marks
found_seen book chart is sources n hiding own outside marks over hides owns flows shows name flaw are p = (
  λ m. found.1 ((shows p).0 m).1,
  λ s. (shows p).1 (within (found.0 s), found.0 s),
)
  where
    hidden : AreMarksOf (λ q. IsSome (declares book name q)) hiding
    hidden q = (λ m. (are.declaring q).0 ((hides q).0 m), λ s. (hides q).1 ((are.declaring q).1 s))

    owned : AreMarksOf (HasOwnFlaw book name flaw) own
    owned q = (λ m. (are.flawed q).0 ((owns q).0 m), λ s. (owns q).1 ((are.flawed q).1 s))

    found : SeesFlaw book name flaw p ↔ (IsMarked own p ⊎ (IsMarked outside p × IsOpen hiding p))
    found = sees_found book name (is_flawed flaw) hiding own sources.at_start hidden owned are.at_start outside flows p

    within : (IsMarked own p ⊎ (IsMarked outside p × IsOpen hiding p)) → p < n
    within h = elim h [
      | inl o ↦ let lt = some_within book name p ((owned p).0 o).0 in omega arith
      | inr o ↦ let lt = flow_within book chart is own hiding sources.at_start ((flows p).0 o.0) in omega arith
    ]
