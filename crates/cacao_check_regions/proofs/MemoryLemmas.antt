-- What the searches in a memory tell.
use Rattle.std.proofs.Common.{◌≡◌, ◌↔◌, ℕ, ◌<◌, Bool, false, List, [], ◌∷◌, ◌++◌, length, IsTrue, Option, Some, None, slice_get, refl, sym, ◌∙◌, subst}
use Rattle.std.specs.Prelude.{All, IsSomeAnd, slice_index_or}
use Rattle.std.proofs.lemmas.Option.{slice_get_within}
use Rattle.std.proofs.lemmas.List.Elements.{All-contains, All-push}
use Rattle.cacao_book.specs.declared.books.Book.{Book}
use Rattle.cacao_check_regions.specs.declared.flaws.Flaw.{Flaw}
use Rattle.cacao_check_regions.specs.declared.memory.Memory.{Memory}
use Rattle.cacao_check_regions.specs.declared.memory.Recall.{Recall}
use Rattle.cacao_check_regions.specs.declared.searches.Search.{Search}
use Rattle.cacao_check_regions.specs.declared.searches.Sources.{Sources}
use Rattle.cacao_check_regions.specs.Charts.{AreMarksOf}
use Rattle.cacao_check_regions.specs.Flaws.{SeesFlaw}
use Rattle.cacao_check_regions.specs.Memories.{AreSourcesOf, IsExact, Serves, Grows, Remembers, IsRecalled}
use Rattle.cacao_check_regions.proofs.SightLists.{get_front, get_last, contains_got}

-- a search with the same sources serves
pub served_found : (book : Book) (searches : List Search) (at : ℕ) (name : List ℕ) (flaw : Flaw) (sources : Sources) → All (IsExact book) searches → AreSourcesOf book name flaw sources → IsSomeAnd (slice_get searches at) (λ search. search.sources ≡ sources) → Serves book searches at name flaw
served_found book searches at name flaw sources exact are found = by (slice_get searches at) refl found
  where
    by : (o : Option Search) → slice_get searches at ≡ o → IsSomeAnd o (λ search. search.sources ≡ sources) → IsSomeAnd o (λ search. AreMarksOf (SeesFlaw book name flaw) search.marks)
    by None e same = absurd same
    by (Some search) e same = All-contains (IsExact book) searches search exact (contains_got searches search at e) name flaw (subst (AreSourcesOf book name flaw) (sym same) are)

-- so does one that was made for them, at the end of the list
pub served_kept : (book : Book) (old new : List Search) (search : Search) (at : ℕ) (name : List ℕ) (flaw : Flaw) → new ≡ old ++ search ∷ [] → at ≡ length old → IsExact book search → AreSourcesOf book name flaw search.sources → Serves book new at name flaw
served_kept book old new search at name flaw pushed last exact are =
    let P : Option Search → Type 0 = λ o. IsSomeAnd o (λ s. AreMarksOf (SeesFlaw book name flaw) s.marks) in
    let here : slice_get (old ++ search ∷ []) (length old) ≡ Some search = get_last old search in
    subst (λ v. P (slice_get v at)) (sym pushed) (subst (λ k. P (slice_get (old ++ search ∷ []) k)) (sym last) (subst P (sym here) (exact name flaw are)))

pub grows_pushed : (old new : List Search) (search : Search) → new ≡ old ++ search ∷ [] → Grows old new
grows_pushed old new search pushed at s e =
    subst (λ (v : List Search). slice_get v at ≡ Some s) (sym pushed) (get_front old search at (slice_get_within old at s e) ∙ e)

-- a search that serves still does
serves_grown : (book : Book) (old new : List Search) (at : ℕ) (name : List ℕ) (flaw : Flaw) → Grows old new → Serves book old at name flaw → Serves book new at name flaw
serves_grown book old new at name flaw grows serves = by (slice_get old at) refl serves
  where
    by : (o : Option Search) → slice_get old at ≡ o → IsSomeAnd o (λ search. AreMarksOf (SeesFlaw book name flaw) search.marks) → Serves book new at name flaw
    by None e s = absurd s
    by (Some search) e s = subst (λ o. IsSomeAnd o (λ search. AreMarksOf (SeesFlaw book name flaw) search.marks)) (sym (grows at search e)) s

pub recalls_grown : (book : Book) (old new : List Search) (recalls : List Recall) → Grows old new → All (λ recall. Serves book old recall.search recall.name recall.flaw) recalls → All (λ recall. Serves book new recall.search recall.name recall.flaw) recalls
recalls_grown book old new recalls grows all k d lt = serves_grown book old new _ _ _ grows (all k d lt)

pub serves_within : (book : Book) (searches : List Search) (at : ℕ) (name : List ℕ) (flaw : Flaw) → Serves book searches at name flaw → at < length searches
serves_within book searches at name flaw serves = by (slice_get searches at) refl serves
  where
    by : (o : Option Search) → slice_get searches at ≡ o → IsSomeAnd o (λ search. AreMarksOf (SeesFlaw book name flaw) search.marks) → at < length searches
    by None e s = absurd s
    by (Some search) e s = slice_get_within searches at search e

-- what a search that serves tells of a place
pub told_by : (book : Book) (searches : List Search) (at : ℕ) (name : List ℕ) (flaw : Flaw) (place : ℕ) (sees : Bool) → Serves book searches at name flaw → IsSomeAnd (slice_get searches at) (λ search. sees ≡ slice_index_or search.marks place false) → IsTrue sees ↔ SeesFlaw book name flaw place
told_by book searches at name flaw place sees serves told = by (slice_get searches at) serves told
  where
    by : (o : Option Search) → IsSomeAnd o (λ search. AreMarksOf (SeesFlaw book name flaw) search.marks) → IsSomeAnd o (λ search. sees ≡ slice_index_or search.marks place false) → IsTrue sees ↔ SeesFlaw book name flaw place
    by None s t = absurd s
    by (Some search) s t = (λ h. (s place).0 (sym t ∙ h), λ f. t ∙ (s place).1 f)

pub told_recalled : (book : Book) (memory : Memory) (name : List ℕ) (flaw : Flaw) (place : ℕ) (sees : Bool) → Remembers book memory → IsRecalled memory name flaw place sees → IsTrue sees ↔ SeesFlaw book name flaw place
told_recalled book memory name flaw place sees remembers r =
    let found : Serves book memory.searches.items.items r.0.search r.0.name r.0.flaw = All-contains (λ recall. Serves book memory.searches.items.items recall.search recall.name recall.flaw) memory.recalls.items r.0 remembers.recalls r.1 in
    let named : Serves book memory.searches.items.items r.0.search name r.0.flaw = subst (λ n. Serves book memory.searches.items.items r.0.search n r.0.flaw) r.2 found in
    let flawed : Serves book memory.searches.items.items r.0.search name flaw = subst (λ f. Serves book memory.searches.items.items r.0.search name f) r.3 named in
    told_by book memory.searches.items.items r.0.search name flaw place sees flawed r.4

-- a memory in which one more search is known to serve what was asked for
pub remembers_more : (book : Book) (old new : Memory) (searches : List Search) (recall : Recall) → Remembers book old → All (IsExact book) searches → Grows old.searches.items.items searches → Serves book searches recall.search recall.name recall.flaw → new.searches.items.items ≡ searches → new.recalls.items ≡ old.recalls.items ++ recall ∷ [] → Remembers book new
remembers_more book old new searches recall remembers exact grows serves same pushed = record {
  searches = subst (All (IsExact book)) (sym same) exact;
  recalls =
      subst (λ v. All (λ r. Serves book v r.search r.name r.flaw) new.recalls.items) (sym same)
      (subst (All (λ r. Serves book searches r.search r.name r.flaw)) (sym pushed)
      (All-push (λ r. Serves book searches r.search r.name r.flaw) old.recalls.items recall (recalls_grown book old.searches.items.items searches old.recalls.items grows remembers.recalls) serves));
}
