-- What the searches over a chart find.
use Rattle.std.proofs.Common.{◌≡◌, ◌↔◌, inl, inr, ℕ, ◌<◌, Bool, true, List, [], length, get_or, Contains, refl, sym, ◌∙◌, ap, subst, arith}
use Rattle.std.specs.Prelude.{All}
use Rattle.std.proofs.lemmas.Bool.{cases_lt}
use Rattle.std.proofs.lemmas.Option.{slice_get_past}
use Rattle.std.proofs.lemmas.List.{length-map}
use Rattle.cacao_book.specs.declared.books.Book.{Book}
use Rattle.base_graphs.specs.Closure.{Closure}
use Rattle.base_graphs.specs.Closure.Closure.{first, onward}
use Rattle.std.proofs.lemmas.List.Elements.{Contains-get_or, All-contains}
use Rattle.base_graphs.specs.Tables.{IsMarked, Leads, row}
use Rattle.base_graphs.proofs.ClosureLemmas.{closure_map, reaches_iff_back}
use Rattle.base_graphs.proofs.MarkLemmas.{Contains-nil}
use Rattle.base_graphs.proofs.RowLemmas.{row_is, row_within}
use Rattle.cacao_check_regions.specs.declared.charts.Chart.{Chart}
use Rattle.cacao_check_steps.specs.Links.{head_keys, places_of, head_places, start_places, GoesTo, Begins}
use Rattle.cacao_check_regions.specs.Regions.{InRegion, IsPlaced, Encloses}
use Rattle.cacao_check_regions.specs.Charts.{IsChartOf, AreMarksOf, LinksDown, BeginsChosen, FlowsPast}
use Rattle.cacao_check_regions.proofs.TableLemmas.{next_row_is, head_row_is, back_next_is, back_heads_is}
use Rattle.cacao_check_regions.proofs.SeenLemmas.{encloses_iff_down}

module _ (book : Book) (chart : Chart) (is : IsChartOf book chart) where
  pub goes : (from to : ℕ) → Contains (row chart.next.items from) to ↔ GoesTo book from to
  goes from to = (λ c. subst (λ v. Contains v to) (next_row_is book chart.next.items from is.next_are) c, λ g. subst (λ v. Contains v to) (sym (next_row_is book chart.next.items from is.next_are)) g)

  pub begins : (control place : ℕ) → Contains (row chart.heads.items control) place ↔ Begins book control place
  begins control place = (λ c. subst (λ v. Contains v place) (head_row_is book chart.heads.items control is.heads_are) c, λ b. subst (λ v. Contains v place) (sym (head_row_is book chart.heads.items control is.heads_are)) b)

  pub goes_back : (to from : ℕ) → Contains (row chart.back_next.items to) from ↔ GoesTo book from to
  goes_back = back_next_is book chart.next.items chart.back_next.items is.next_are is.back_next_are

  pub begins_back : (place control : ℕ) → Contains (row chart.back_heads.items place) control ↔ Begins book control place
  begins_back = back_heads_is book chart.heads.items chart.back_heads.items is.heads_are is.back_heads_are

  pub heads_all : length chart.heads.items ≡ length book.steps
  heads_all = ap length is.heads_are ∙ length-map book.steps (λ step. places_of book (head_keys step.kind))

  -- the heads that were read
  pub heads_read : (control : ℕ) (r s : List ℕ) → control < length book.steps → r ≡ get_or chart.heads.items control r → s ≡ r → s ≡ head_places book control
  heads_read control r s lt at e = row_is chart.heads.items control r s (let n = heads_all in omega arith) at e ∙ head_row_is book chart.heads.items control is.heads_are

  -- a search along the links that go on
  pub marks_onward : (F F' : ℕ → Type 0) (marks : List Bool) → ((p : ℕ) → F p ↔ F' p) → ((p : ℕ) → IsMarked marks p ↔ Closure F (λ from to. Contains (row chart.next.items from) to) p) → AreMarksOf (Closure F' (GoesTo book)) marks
  marks_onward F F' marks same exact p = (
    λ m. closure_map F F' (λ from to. Contains (row chart.next.items from) to) (GoesTo book) (λ q. (same q).0) (λ from to. (goes from to).0) p ((exact p).0 m),
    λ c. (exact p).1 (closure_map F' F (GoesTo book) (λ from to. Contains (row chart.next.items from) to) (λ q. (same q).1) (λ from to. (goes from to).1) p c),
  )

  -- and one backwards
  pub marks_backward : (F F' : ℕ → Type 0) (marks : List Bool) → ((p : ℕ) → F p ↔ F' p) → ((p : ℕ) → IsMarked marks p ↔ Closure F (λ from to. Contains (row chart.back_next.items from) to) p) → AreMarksOf (λ place. (last : ℕ) × Closure (λ p. p ≡ place) (GoesTo book) last × F' last) marks
  marks_backward F F' marks same exact p = (
    λ m. (reaches_iff_back F' (GoesTo book) p).1 (closure_map F F' (λ from to. Contains (row chart.back_next.items from) to) (λ from to. GoesTo book to from) (λ q. (same q).0) (λ from to. (goes_back from to).0) p ((exact p).0 m)),
    λ c. (exact p).1 (closure_map F' F (λ from to. GoesTo book to from) (λ from to. Contains (row chart.back_next.items from) to) (λ q. (same q).1) (λ from to. (goes_back from to).1) p ((reaches_iff_back F' (GoesTo book) p).0 c)),
  )

  -- and one along both kinds of links, past steps that are shut
  pub marks_past : (F F' : ℕ → Type 0) (shut marks : List Bool) → ((p : ℕ) → F p ↔ F' p) → ((p : ℕ) → IsMarked marks p ↔ Closure F (Leads chart.next.items chart.heads.items shut []) p) → AreMarksOf (Closure F' (FlowsPast book shut)) marks
  marks_past F F' shut marks same exact p = (
    λ m. closure_map F F' (Leads chart.next.items chart.heads.items shut []) (FlowsPast book shut) (λ q. (same q).0) there p ((exact p).0 m),
    λ c. (exact p).1 (closure_map F' F (FlowsPast book shut) (Leads chart.next.items chart.heads.items shut []) (λ q. (same q).1) back p c),
  )
    where
      there : (from to : ℕ) → Leads chart.next.items chart.heads.items shut [] from to → FlowsPast book shut from to
      there from to (inl g) = inl ((goes from to).0 g)
      there from to (inr b) = inr ((begins from to).0 b.1, b.0)

      back : (from to : ℕ) → FlowsPast book shut from to → Leads chart.next.items chart.heads.items shut [] from to
      back from to (inl g) = inl ((goes from to).1 g)
      back from to (inr b) = inr (b.1, (begins from to).1 b.0, refl)

  -- what is enclosed
  pub enclosed_marks : (control : ℕ) (marks : List Bool) → ((p : ℕ) → IsMarked marks p ↔ Closure (Contains (head_places book control)) (Leads chart.next.items chart.heads.items [] []) p) → (p : ℕ) → IsMarked marks p ↔ Encloses book control p
  enclosed_marks control marks exact p = (
    λ m. (encloses_iff_down book control p).1 (closure_map (Begins book control) (Begins book control) (FlowsPast book []) (LinksDown book) (λ q b. b) there p ((past p).0 m)),
    λ c. (past p).1 (closure_map (Begins book control) (Begins book control) (LinksDown book) (FlowsPast book []) (λ q b. b) back p ((encloses_iff_down book control p).0 c)),
  )
    where
      past : AreMarksOf (Closure (Begins book control) (FlowsPast book [])) marks
      past = marks_past (Contains (head_places book control)) (Begins book control) [] marks (λ q. (λ b. b, λ b. b)) exact

      there : (from to : ℕ) → FlowsPast book [] from to → LinksDown book from to
      there from to (inl g) = inl g
      there from to (inr b) = inr b.0

      back : (from to : ℕ) → LinksDown book from to → FlowsPast book [] from to
      back from to (inl g) = inl g
      back from to (inr b) = inr (b, refl)

  -- and what is reached so
  pub enclosed_reach : (control : ℕ) (a b : List (List ℕ)) → a ≡ chart.next.items → b ≡ chart.heads.items → (p : ℕ) → Encloses book control p → Closure (Contains (row b control)) (Leads a b [] []) p
  enclosed_reach control a b ea eb p e =
      subst (λ x. Closure (Contains (row x control)) (Leads a x [] []) p) (sym eb)
      (subst (λ x. Closure (Contains (row chart.heads.items control)) (Leads x chart.heads.items [] []) p) (sym ea)
      (closure_map (Begins book control) (Contains (row chart.heads.items control)) (LinksDown book) (Leads chart.next.items chart.heads.items [] []) (λ q. (begins control q).1) down p ((encloses_iff_down book control p).0 e)))
    where
      down : (from to : ℕ) → LinksDown book from to → Leads chart.next.items chart.heads.items [] [] from to
      down from to (inl g) = inl ((goes from to).1 g)
      down from to (inr h) = inr (refl, (begins from to).1 h, refl)

-- ---- a step without branches

pub without_region : (book : Book) (control : ℕ) → head_places book control ≡ [] → {place : ℕ} → InRegion book control place → ⊥
without_region book control none {place} (first b) = Contains-nil place (subst (λ v. Contains v place) none b)
without_region book control none (onward c g) = without_region book control none c

pub without_enclosed : (book : Book) (control : ℕ) → head_places book control ≡ [] → {place : ℕ} → Encloses book control place → ⊥
without_enclosed book control none (Encloses.within r) = without_region book control none r
without_enclosed book control none (Encloses.deeper r e) = without_region book control none r

-- ---- places in some region

pub placed_iff : (book : Book) (chosen : List Bool) → ((control place : ℕ) → Begins book control place → IsMarked chosen control) → (place : ℕ) → Closure (BeginsChosen book chosen true) (GoesTo book) place ↔ IsPlaced book place
placed_iff book chosen all place = (there, back)
  where
    there : {p : ℕ} → Closure (BeginsChosen book chosen true) (GoesTo book) p → IsPlaced book p
    there (first (inl s)) = inl (first s.1)
    there (first (inr b)) = inr (b.0, first b.1)
    there (onward c g) = elim (there c) [ inl m ↦ inl (onward m g) | inr r ↦ inr (r.0, onward r.1 g) ]

    back : {p : ℕ} → IsPlaced book p → Closure (BeginsChosen book chosen true) (GoesTo book) p
    back {p} (inl m) = closure_map (Contains (start_places book)) (BeginsChosen book chosen true) (GoesTo book) (GoesTo book) (λ q s. inl (refl, s)) (λ from to g. g) p m
    back {p} (inr r) = closure_map (Begins book r.0) (BeginsChosen book chosen true) (GoesTo book) (GoesTo book) (λ q b. inr (r.0, b, all r.0 q b)) (λ from to g. g) p r.1

-- only a step has heads
pub begins_within : (book : Book) (control place : ℕ) → Begins book control place → control < length book.steps
begins_within book control place b = elim (cases_lt control (length book.steps)) [ inl lt ↦ lt | inr ge ↦ absurd (Contains-nil place (rw (slice_get_past book.steps control ge) at b)) ]

-- ---- one more place

-- the marks of the places below n of which P holds
abbrev pub MarksBelow : (ℕ → Type 0) → ℕ → List Bool → Type 0
MarksBelow P n marks = (place : ℕ) → IsMarked marks place ↔ (place < n × P place)

pub MarksBelow-all : (P : ℕ → Type 0) (n : ℕ) (marks : List Bool) → ((p : ℕ) → P p → p < n) → MarksBelow P n marks → AreMarksOf P marks
MarksBelow-all P n marks inside done p = (λ m. ((done p).0 m).1, λ h. (done p).1 (inside p h, h))

pub same_members : (xs ys : List ℕ) → xs ≡ ys → (p : ℕ) → Contains xs p ↔ Contains ys p
same_members xs ys e p = (λ c. subst (λ v. Contains v p) e c, λ c. subst (λ v. Contains v p) (sym e) c)

pub within_members : (n : ℕ) (places : List ℕ) → ((p : ℕ) → Contains places p → p < n) → All (λ p. p < n) places
within_members n places each k d lt = each (get_or places k d) (Contains-get_or places k d lt)

-- where a search begins stands within the book
pub chosen_within : (book : Book) (chart : Chart) → IsChartOf book chart → (chosen : List Bool) (at_start : Bool) (p : ℕ) → BeginsChosen book chosen at_start p → p < length book.steps
chosen_within book chart is chosen at_start p (inl s) = All-contains (λ place. place < length book.steps) (start_places book) p (subst (All (λ place. place < length book.steps)) is.starts_are is.starts_within) s.1
chosen_within book chart is chosen at_start p (inr b) = row_within (length book.steps) chart.heads.items b.0 p is.heads_within ((begins book chart is b.0 p).1 b.1)

-- ---- a search by other names

pub same_onward : (f f' : List ℕ) (a a' : List (List ℕ)) (m : List Bool) → f ≡ f' → a ≡ a' → ((p : ℕ) → IsMarked m p ↔ Closure (Contains f) (λ from to. Contains (row a from) to) p) → (p : ℕ) → IsMarked m p ↔ Closure (Contains f') (λ from to. Contains (row a' from) to) p
same_onward f f' a a' m ef ea exact p =
    subst (λ x. IsMarked m p ↔ Closure (Contains f') (λ from to. Contains (row x from) to) p) ea
    (subst (λ x. IsMarked m p ↔ Closure (Contains x) (λ from to. Contains (row a from) to) p) ef (exact p))

-- ---- regions of steps that there are

region_head : (book : Book) (control : ℕ) {place : ℕ} → InRegion book control place → (head : ℕ) × Begins book control head
region_head book control {place} (first b) = (place, b)
region_head book control (onward c g) = region_head book control c

pub region_within : (book : Book) (control : ℕ) {place : ℕ} → InRegion book control place → control < length book.steps
region_within book control r = let h = region_head book control r in begins_within book control h.0 h.1

pub encloses_within : (book : Book) (control : ℕ) {place : ℕ} → Encloses book control place → control < length book.steps
encloses_within book control (Encloses.within r) = region_within book control r
encloses_within book control (Encloses.deeper r e) = region_within book control r

-- what a search finds stands within the book
pub flow_within : (book : Book) (chart : Chart) → IsChartOf book chart → (chosen hiding : List Bool) (at_start : Bool) {p : ℕ} → Closure (BeginsChosen book chosen at_start) (FlowsPast book hiding) p → p < length book.steps
flow_within book chart is chosen hiding at_start {p} (first b) = chosen_within book chart is chosen at_start p b
flow_within book chart is chosen hiding at_start {p} (onward {from} c (inl g)) = row_within (length book.steps) chart.next.items from p is.next_within ((goes book chart is from p).1 g)
flow_within book chart is chosen hiding at_start {p} (onward {from} c (inr b)) = row_within (length book.steps) chart.heads.items from p is.heads_within ((begins book chart is from p).1 b.0)
