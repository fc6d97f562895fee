-- Lists of sights, one more at a time.
use Rattle.std.proofs.Common.{◌≡◌, ◌↔◌, ◌⊎◌, inl, inr, ℕ, zero, suc, ◌+◌, ◌<◌, ◌≤◌, Bool, true, false, List, [], ◌∷◌, ◌++◌, length, get_or, slice_get, Contains, Option, Some, None, refl, sym, ◌∙◌, ap, subst, arith, rules, length-append}
use Rattle.std.specs.Prelude.{IsSome}
use Rattle.std.proofs.lemmas.Bool.{cases_lt, false≢true}
use Rattle.std.proofs.lemmas.Option.{slice_get_read, slice_get_past, slice_get_within, get_or_from_slice_get}
use Rattle.std.proofs.lemmas.List.Elements.{Contains-push, Contains-push_cases, Contains-append_left}
use Rattle.cacao_vars.specs.declared.declarations.Var.{Var}
use Rattle.cacao_vars.specs.Declarations.{declared}
use Rattle.cacao_book.specs.declared.books.Book.{Book}
use Rattle.cacao_book.specs.declared.steps.Step.{Step}
use Rattle.base_graphs.specs.Closure.{Closure}
use Rattle.base_graphs.specs.Tables.{IsMarked, IsOpen, Leads}
use Rattle.base_graphs.proofs.ClosureLemmas.{closure_map, reaches_iff_back}
use Rattle.base_graphs.proofs.MarkLemmas.{the_one}
use Rattle.cacao_check_regions.specs.declared.seen.Sight.{Sight}
use Rattle.cacao_check_regions.specs.declared.seen.Sight.TheVariants.{Declared, Missing}
use Rattle.cacao_check_regions.specs.declared.charts.Chart.{Chart}
use Rattle.cacao_check_steps.specs.Links.{head_places, declares}
use Rattle.cacao_check_regions.specs.Regions.{Sees, Outside}
use Rattle.cacao_check_regions.specs.Regions.Sees.{own}
use Rattle.cacao_check_regions.specs.Charts.{IsChartOf, AreMarksOf}
use Rattle.cacao_check_regions.specs.Seeing.{declaration_of, sight_of, IsOnce, HasMarked, HasSeen, IsSeenAt, IsSeenAtControl, IsSeenFrom, IsAround, FlowsBack}
use Rattle.cacao_check_regions.proofs.SeenLemmas.{ComesFrom, Flows, outside_iff_flows, sees_iff_outside, sees_own}
use Rattle.cacao_check_regions.proofs.SeenLemmas.ComesFrom.{at_control, at_start}
use Rattle.cacao_check_regions.proofs.ChartLemmas.{goes_back, begins_back}

pub sights_more : (items : List Sight) (new : Sight) (sight : Sight) → Contains (items ++ new ∷ []) sight ↔ (Contains items sight ⊎ (sight ≡ new))
sights_more items new sight = (
  λ c. elim (Contains-push_cases items new sight c) [ inl old ↦ inl old | inr e ↦ inr (sym e) ],
  λ h. elim h [ inl old ↦ Contains-append_left items (new ∷ []) sight old | inr e ↦ subst (Contains (items ++ new ∷ [])) (sym e) (Contains-push items new) ],
)

pub get_front : {X : Type 0} (items : List X) (new : X) (i : ℕ) → i < length items → slice_get (items ++ new ∷ []) i ≡ slice_get items i
get_front [] new i lt = absurd (omega arith)
get_front (x ∷ items) new zero lt = refl
get_front (x ∷ items) new (suc i) lt = get_front items new i (omega arith)

pub get_last : {X : Type 0} (items : List X) (new : X) → slice_get (items ++ new ∷ []) (length items) ≡ Some new
get_last [] new = refl
get_last (x ∷ items) new = get_last items new

pub contains_got : {X : Type 0} (items : List X) (x : X) (i : ℕ) → slice_get items i ≡ Some x → Contains items x
contains_got items x i e = (i, slice_get_within items i x e, get_or_from_slice_get items i x x e)

-- a list with one more item that it does not have
pub once_more : (items : List Sight) (new : Sight) → (Contains items new → ⊥) → IsOnce items → IsOnce (items ++ new ∷ [])
once_more items new fresh once i j below inside same = elim (cases_lt j (length items)) [
  | inl lt ↦ once i j below lt (sym (get_front items new i (omega arith)) ∙ same ∙ get_front items new j lt)
  | inr ge ↦
      let n : length (items ++ new ∷ []) ≡ length items + 1 = length-append items (new ∷ []) in
      let last : j ≡ length items = omega arith in
      let front : i < length items = omega arith in
      fresh (contains_got items new i (sym (get_front items new i front) ∙ same ∙ ap (slice_get (items ++ new ∷ [])) last ∙ get_last items new))
]

-- ---- what control steps declare, one step at a time

-- the list has what the control steps below n declare of which a head is marked
abbrev pub SeesBelow : Book → List ℕ → List Bool → ℕ → List Sight → Type 0
SeesBelow book name marks n items = (sight : Sight) → Contains items sight ↔ ((control : ℕ) × control < n × ((var : Var) × (declares book name control ≡ Some var) × HasMarked (head_places book control) marks × (sight ≡ Declared var)))

pub declares_here : (book : Book) (name : List ℕ) (i : ℕ) (s : Step) → slice_get book.steps i ≡ Some s → declares book name i ≡ declared s.variables name
declares_here book name i s at = rw at refl

pub SeesBelow-more : (book : Book) (name : List ℕ) (marks : List Bool) (n : ℕ) (s : Step) (heads : List ℕ) (old new : List Sight) → slice_get book.steps n ≡ Some s → heads ≡ head_places book n → SeesBelow book name marks n old → ((sight : Sight) → Contains new sight ↔ (Contains old sight ⊎ IsSeenAt s name heads marks sight)) → SeesBelow book name marks (n + 1) new
SeesBelow-more book name marks n s heads old new at same done adds sight = (there, back)
  where
    there : Contains new sight → (control : ℕ) × control < n + 1 × ((var : Var) × (declares book name control ≡ Some var) × HasMarked (head_places book control) marks × (sight ≡ Declared var))
    there c = elim ((adds sight).0 c) [
      | inl o ↦ let h : (control : ℕ) × control < n × ((var : Var) × (declares book name control ≡ Some var) × HasMarked (head_places book control) marks × (sight ≡ Declared var)) = (done sight).0 o in (h.0, (let lt : h.0 < n = h.1 in omega arith), h.2)
      | inr h ↦ (n, omega arith, (h.0, declares_here book name n s at ∙ h.1, subst (λ v. HasMarked v marks) same h.2, h.3))
    ]

    back : (control : ℕ) × control < n + 1 × ((var : Var) × (declares book name control ≡ Some var) × HasMarked (head_places book control) marks × (sight ≡ Declared var)) → Contains new sight
    back h = elim (cases_lt h.0 n) [
      | inl below ↦ (adds sight).1 (inl ((done sight).1 (h.0, below, h.2)))
      | inr over ↦ let lt : h.0 < n + 1 = h.1 in let e : h.0 ≡ n = omega arith in
          (adds sight).1 (inr (h.2.0, sym (declares_here book name n s at) ∙ ap (declares book name) (sym e) ∙ h.2.1, subst (λ v. HasMarked v marks) (sym same) (subst (λ k. HasMarked (head_places book k) marks) e h.2.2), h.2.3))
    ]

pub declares_within : (book : Book) (name : List ℕ) (p : ℕ) (var : Var) → declares book name p ≡ Some var → p < length book.steps
declares_within book name p var d = elim (cases_lt p (length book.steps)) [ inl lt ↦ lt | inr ge ↦ absurd (none (rw (slice_get_past book.steps p ge) at d)) ]
  where
    none : None ≡ Some var → ⊥
    none e = cc

pub some_within : (book : Book) (name : List ℕ) (p : ℕ) → IsSome (declares book name p) → p < length book.steps
some_within book name p some = elim (cases_lt p (length book.steps)) [ inl lt ↦ lt | inr ge ↦ absurd (false≢true (rw (slice_get_past book.steps p ge) at some)) ]

pub SeesBelow-all : (book : Book) (name : List ℕ) (marks : List Bool) (n : ℕ) (items : List Sight) → length book.steps ≤ n → SeesBelow book name marks n items → (sight : Sight) → Contains items sight ↔ IsSeenAtControl book name marks sight
SeesBelow-all book name marks n items over done sight = (
  λ c. let h : (control : ℕ) × control < n × ((var : Var) × (declares book name control ≡ Some var) × HasMarked (head_places book control) marks × (sight ≡ Declared var)) = (done sight).0 c in (h.0, h.2.0, h.2.1, h.2.2, h.2.3),
  λ h. (done sight).1 (h.0, (let lt = declares_within book name h.0 h.1 h.2 in omega arith), (h.1, h.2, h.3, h.4)),
)

-- ---- the places around one

not_some : {X : Type 0} (o : Option X) → o ≡ None → IsSome o → ⊥
not_some None e h = false≢true h
not_some (Some x) e h = absurd (cc)

none_is : {X : Type 0} (o : Option X) → (IsSome o → ⊥) → o ≡ None
none_is None h = refl
none_is (Some x) h = absurd (h (search rules))

open_is : (b : Bool) → (b ≡ true → ⊥) → b ≡ false
open_is true h = absurd (h refl)
open_is false h = refl

-- a step of which no mark stands declares nothing
pub hides_iff : (book : Book) (name : List ℕ) (hiding : List Bool) → AreMarksOf (λ place. IsSome (declares book name place)) hiding → (p : ℕ) → IsOpen hiding p ↔ (declares book name p ≡ None)
hides_iff book name hiding marks p = (
  λ o. none_is (declares book name p) (λ s. false≢true (sym o ∙ (marks p).1 s)),
  λ e. open_is (get_or hiding p false) (λ m. not_some (declares book name p) e ((marks p).0 m)),
)

pub around_iff : (book : Book) (chart : Chart) → IsChartOf book chart → (name : List ℕ) (place : ℕ) (hiding marks : List Bool) → AreMarksOf (λ p. IsSome (declares book name p)) hiding → ((p : ℕ) → IsMarked marks p ↔ Closure (Contains (place ∷ [])) (Leads chart.back_next.items chart.back_heads.items [] hiding) p) → AreMarksOf (IsAround book name place) marks
around_iff book chart is name place hiding marks hides exact p = (
  λ m. closure_map (Contains (place ∷ [])) (λ q. q ≡ place) (Leads chart.back_next.items chart.back_heads.items [] hiding) (FlowsBack book name) (λ q c. sym (the_one place q c)) there p ((exact p).0 m),
  λ a. (exact p).1 (closure_map (λ q. q ≡ place) (Contains (place ∷ [])) (FlowsBack book name) (Leads chart.back_next.items chart.back_heads.items [] hiding) (λ q e. (0, omega arith, sym e)) back p a),
)
  where
    there : (from to : ℕ) → Leads chart.back_next.items chart.back_heads.items [] hiding from to → FlowsBack book name from to
    there from to (inl g) = inl ((goes_back book chart is from to).0 g)
    there from to (inr h) = inr ((begins_back book chart is from to).0 h.1, (hides_iff book name hiding hides to).0 h.2)

    back : (from to : ℕ) → FlowsBack book name from to → Leads chart.back_next.items chart.back_heads.items [] hiding from to
    back from to (inl g) = inl ((goes_back book chart is from to).1 g)
    back from to (inr b) = inr (refl, (begins_back book chart is from to).1 b.0, (hides_iff book name hiding hides to).1 b.1)

-- ---- what is seen from the places around is what is seen

-- what stands outside a place comes from a place around it
outside_from : (book : Book) (name : List ℕ) (place : ℕ) (marks : List Bool) → AreMarksOf (IsAround book name place) marks → (seen : Option Var) → Outside book name place seen ↔ ((from : ℕ) × IsMarked marks from × ComesFrom book name from seen)
outside_from book name place marks around seen =
    let flows : Outside book name place seen ↔ Closure (λ p. ComesFrom book name p seen) (Flows book name) place = outside_iff_flows book name place seen in
    let back : ((last : ℕ) × Closure (λ p. p ≡ place) (FlowsBack book name) last × ComesFrom book name last seen) ↔ Closure (λ p. ComesFrom book name p seen) (λ from to. FlowsBack book name to from) place = reaches_iff_back (λ p. ComesFrom book name p seen) (FlowsBack book name) place in (
      λ o. let r : (last : ℕ) × Closure (λ p. p ≡ place) (FlowsBack book name) last × ComesFrom book name last seen = back.1 (flows.0 o) in (r.0, (around r.0).1 r.1, r.2),
      λ h. flows.1 (back.0 (h.0, (around h.0).0 h.1, h.2)),
    )

comes_seen : (book : Book) (name : List ℕ) (marks : List Bool) (from : ℕ) (seen : Option Var) → IsMarked marks from → ComesFrom book name from seen → IsSeenFrom book name marks (sight_of seen)
comes_seen book name marks from seen m (at_control control var b d) = inl (control, var, d, (from, b, m), refl)
comes_seen book name marks from seen m (at_start s) = inr ((from, s, m), refl)

seen_comes : (book : Book) (name : List ℕ) (marks : List Bool) (sight : Sight) → IsSeenFrom book name marks sight → (from : ℕ) × IsMarked marks from × ComesFrom book name from (declaration_of sight)
seen_comes book name marks sight (inl h) = (h.3.0, h.3.2, subst (λ s. ComesFrom book name h.3.0 (declaration_of s)) (sym h.4) (at_control h.0 h.1 h.3.1 h.2))
seen_comes book name marks sight (inr h) = (h.0.0, h.0.2, subst (λ s. ComesFrom book name h.0.0 (declaration_of s)) (sym h.1) (subst (ComesFrom book name h.0.0) (sym (there_and_back (declared book.variables name))) (at_start h.0.1)))
  where
    there_and_back : (o : Option Var) → declaration_of (sight_of o) ≡ o
    there_and_back None = refl
    there_and_back (Some var) = refl

back_and_there : (sight : Sight) → sight_of (declaration_of sight) ≡ sight
back_and_there Missing = refl
back_and_there (Declared var) = refl

pub seen_outside : (book : Book) (name : List ℕ) (place : ℕ) (marks : List Bool) (items : List Sight) → declares book name place ≡ None → AreMarksOf (IsAround book name place) marks → ((sight : Sight) → Contains items sight ↔ IsSeenFrom book name marks sight) → HasSeen book name place items
seen_outside book name place marks items e around told sight =
    let outside : Outside book name place (declaration_of sight) ↔ ((from : ℕ) × IsMarked marks from × ComesFrom book name from (declaration_of sight)) = outside_from book name place marks around (declaration_of sight) in (
      λ c. (sees_iff_outside book name place (declaration_of sight) e).1 (outside.1 (seen_comes book name marks sight ((told sight).0 c))),
      λ s. let h : (from : ℕ) × IsMarked marks from × ComesFrom book name from (declaration_of sight) = outside.0 ((sees_iff_outside book name place (declaration_of sight) e).0 s) in
          (told sight).1 (subst (IsSeenFrom book name marks) (back_and_there sight) (comes_seen book name marks h.0 (declaration_of sight) h.1 h.2)),
    )

declared_is : (sight : Sight) (var : Var) → declaration_of sight ≡ Some var → sight ≡ Declared var
declared_is Missing var e = absurd (cc)
declared_is (Declared v) var e = let same : v ≡ var = cc in ap Declared same

-- a step that declares the name
pub seen_own : (book : Book) (name : List ℕ) (place : ℕ) (var : Var) (items : List Sight) → declares book name place ≡ Some var → ((sight : Sight) → Contains items sight ↔ (sight ≡ Declared var)) → HasSeen book name place items
seen_own book name place var items d told sight = (
  λ c. subst (λ s. Sees book name place (declaration_of s)) (sym ((told sight).0 c)) (own d),
  λ s. (told sight).1 (declared_is sight var (sees_own book name place var (declaration_of sight) d s)),
)

pub declares_read : (book : Book) (steps : List Step) (name : List ℕ) (place : ℕ) (s : Step) → steps ≡ book.steps → place < length book.steps → s ≡ get_or steps place s → declares book name place ≡ declared s.variables name
declares_read book steps name place s same lt at = declares_here book name place s (subst (λ (v : List Step). slice_get v place ≡ Some s) same (slice_get_read steps (length steps) place s refl (let n : length steps ≡ length book.steps = ap length same in omega arith) at))
