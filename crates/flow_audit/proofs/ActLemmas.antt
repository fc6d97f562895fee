-- Acts of a filter, one after another.
use Rattle.std.proofs.Common.{◌≡◌, inl, inr, ℕ, zero, suc, ◌+◌, ◌≤◌, ◌==◌, ◌&&◌, Bool, true, false, cond, List, [], ◌∷◌, ◌++◌, length, map, take, fold, Option, Some, None, refl, sym, ap, ap₂, subst, ◌∙◌, arith}
use Rattle.std.specs.Prelude.{All, is_some, not, slice_get}
use Rattle.std.specs.Str.{bytes_eq}
use Rattle.std.proofs.lemmas.Slice.Eq.{bytes_eq-Decides}
use Rattle.std.proofs.Math.Seq.{take-append_seam}
use Rattle.std.proofs.lemmas.Bool.{eqb-true}
use Rattle.std.proofs.lemmas.Bool.Decides.{nat_tests}
use Rattle.std.proofs.lemmas.List.{map-append, take-append-le, take_all}
use Rattle.std.proofs.lemmas.List.Elements.{All-contains, All-nil, All-push}
use Rattle.std.proofs.lemmas.List.Sums.{fold-append}
use Rattle.run_records.specs.declared.record.Record.{Record}
use Rattle.run_records.specs.declared.act.Act.{Act}
use Rattle.slpf_rules.specs.declared.rules.Rule.{Rule}
use Rattle.slpf_rules.specs.Replies.{reply}
use Rattle.slpf_rules_acts.specs.Acts.{AreActs, IsOther, table_of}
use Rattle.slpf_rules_acts.specs.Index.{Places, place_in}
use Rattle.slpf_rules_acts.proofs.Acts.{acts_more, none_are_acts}
use Rattle.flow_audit.specs.Breaks.{ActsFit, FitsAct}
use Rattle.flow_audit.specs.Index.{ArePlacesOf, Tells}
use Rattle.flow_audit.proofs.ListLemmas.{get_front, get_last, get_none, get_push, get_there, got, take_next}

-- ---- places

pub no_places : ArePlacesOf [] []
no_places run issue = All-nil (λ (act : Act). act.run ≡ run → act.issue ≡ issue → ⊥)

tells_push : (acts : List Act) (act : Act) (run issue : ℕ) (o : Option ℕ) → Tells acts run issue o → (act.run ≡ run → act.issue ≡ issue → ⊥) → Tells (acts ++ act ∷ []) run issue o
tells_push acts act run issue None told other = All-push (λ (a : Act). a.run ≡ run → a.issue ≡ issue → ⊥) acts act told other
tells_push acts act run issue (Some k) told other = (told.0, get_front acts act k told.0 told.1, told.2, told.3)

apart : (a b : ℕ) → (a == b) ≡ false → a ≡ b → ⊥
apart a b e h = grind (arith, nat_tests)

-- one act more
pub places_push : (acts : List Act) (act : Act) (old new : Places) (n : ℕ) → n ≡ length acts → ArePlacesOf acts old
    → ((r i : ℕ) → place_in new r i ≡ cond (act.run == r && act.issue == i) (Some n) (place_in old r i)) → ArePlacesOf (acts ++ act ∷ []) new
places_push acts act old new n at was now = λ r i.
    subst (Tells (acts ++ act ∷ []) r i) (sym (now r i)) (by r i (act.run == r) refl (act.issue == i) refl)
  where
    by : (r i : ℕ) (a : Bool) → (act.run == r) ≡ a → (b : Bool) → (act.issue == i) ≡ b → Tells (acts ++ act ∷ []) r i (cond (act.run == r && act.issue == i) (Some n) (place_in old r i))
    by r i true p true q =
        let here : slice_get (acts ++ act ∷ []) n ≡ Some act = ap (slice_get (acts ++ act ∷ [])) at ∙ get_last acts act in
        subst (λ b. Tells (acts ++ act ∷ []) r i (cond b (Some n) (place_in old r i))) (sym (ap₂ (λ (x y : Bool). x && y) p q))
        (act, here, eqb-true act.run r p, eqb-true act.issue i q)
    by r i true p false q =
        subst (λ b. Tells (acts ++ act ∷ []) r i (cond b (Some n) (place_in old r i))) (sym (ap₂ (λ (x y : Bool). x && y) p q))
        (tells_push acts act r i (place_in old r i) (was r i) (λ x y. apart act.issue i q y))
    by r i false p b q =
        subst (λ c. Tells (acts ++ act ∷ []) r i (cond (c && (act.issue == i)) (Some n) (place_in old r i))) (sym p)
        (tells_push acts act r i (place_in old r i) (was r i) (λ x y. apart act.run r p x))

-- the run and issue of an act that is found are no others
pub found_repeats : (acts : List Act) (act : Act) (k : ℕ) → Tells acts act.run act.issue (Some k) → All (λ a. IsOther a act) acts → ⊥
found_repeats acts act k told other = All-contains (λ (a : Act). IsOther a act) acts told.0 other (got acts k told.0 told.1) told.2 told.3

some_repeats : (acts : List Act) (act : Act) (o : Option ℕ) → Tells acts act.run act.issue o → true ≡ is_some o → All (λ a. IsOther a act) acts → ⊥
some_repeats acts act None told e other = let no : true ≡ false = e in cc
some_repeats acts act (Some k) told e other = found_repeats acts act k told other

pub repeats : (acts : List Act) (act : Act) (places : Places) (o : Option ℕ) → ArePlacesOf acts places → o ≡ place_in places act.run act.issue → true ≡ is_some o → All (λ a. IsOther a act) acts → ⊥
repeats acts act places o are is e other = some_repeats acts act o (subst (Tells acts act.run act.issue) (sym is) (are act.run act.issue)) e other

none_told : (acts : List Act) (run issue : ℕ) (o : Option ℕ) → Tells acts run issue o → false ≡ is_some o → Tells acts run issue None
none_told acts run issue None told e = told
none_told acts run issue (Some k) told e = absurd (let no : false ≡ true = e in cc)

-- none of the acts has the run and issue
pub is_new : (acts : List Act) (act : Act) (places : Places) (o : Option ℕ) → ArePlacesOf acts places → o ≡ place_in places act.run act.issue → false ≡ is_some o → All (λ a. IsOther a act) acts
is_new acts act places o are is e = none_told acts act.run act.issue o (subst (Tells acts act.run act.issue) (sym is) (are act.run act.issue)) e

-- bytes that differ, or are the same
pub differs : (xs ys : List ℕ) → true ≡ not (bytes_eq xs ys) → xs ≡ ys → ⊥
differs xs ys e same = let yes : bytes_eq xs ys ≡ true = (bytes_eq-Decides xs ys).1 same in let no : true ≡ false = e ∙ ap not yes in cc

pub not_differs : (xs ys : List ℕ) → false ≡ not (bytes_eq xs ys) → xs ≡ ys
not_differs xs ys e = (bytes_eq-Decides xs ys).0 (by (bytes_eq xs ys) e)
  where
    by : (b : Bool) → false ≡ not b → b ≡ true
    by true h = refl
    by false h = absurd (let no : false ≡ true = h in cc)

-- ---- rules

pub table_push : (acts : List Act) (act : Act) → table_of (acts ++ act ∷ []) ≡ (reply (table_of acts) act.command act.moment).1
table_push acts act =
    let f : List Rule → List ℕ × ℕ → List Rule = λ rules asked. (reply rules asked.0 asked.1).1 in
    let h : Act → List ℕ × ℕ = λ (a : Act). (a.command, a.moment) in
    ap (fold f []) (map-append h acts (act ∷ [])) ∙ fold-append f [] (map h acts) (map h (act ∷ []))

-- ---- acts that fit

pub fit_none : (records : List Record) (agent : ℕ) → ActsFit records agent []
fit_none records agent n act is = absurd (get_none n act is)

pub fit_push : (records : List Record) (agent : ℕ) (acts : List Act) (act : Act) → ActsFit records agent acts → FitsAct records agent acts act → ActsFit records agent (acts ++ act ∷ [])
fit_push records agent acts act fit fits n x is = elim (get_push acts act n x is) [
  | inl old ↦ subst (λ (l : List Act). FitsAct records agent l x) (sym (take-append-le n acts (act ∷ []) (omega (arith, old.0)))) (fit n x old.1)
  | inr new ↦
      let all : take n (acts ++ act ∷ []) ≡ acts = subst (λ (k : ℕ). take k (acts ++ act ∷ []) ≡ acts) (sym new.0) (take-append_seam acts (act ∷ [])) in
      subst (λ (l : List Act). FitsAct records agent l x) (sym all) (subst (λ (a : Act). FitsAct records agent acts a) new.1 fits)
]

-- one act more of a longer list
pub fit_next : (records : List Record) (agent : ℕ) (acts : List Act) (n : ℕ) (act : Act) → slice_get acts n ≡ Some act → ActsFit records agent (take n acts)
    → FitsAct records agent (take n acts) act → ActsFit records agent (take (n + 1) acts)
fit_next records agent acts n act there fit fits =
    let next : take (n + 1) acts ≡ take n acts ++ act ∷ [] = ap (λ k. take k acts) (let e : n + 1 ≡ suc n = omega arith in e) ∙ take_next acts n act there in
    subst (ActsFit records agent) (sym next) (fit_push records agent (take n acts) act fit fits)

-- acts that fit are those of a filter
acts_upto : (records : List Record) (agent : ℕ) (acts : List Act) (n : ℕ) → n ≤ length acts → ActsFit records agent acts → AreActs (take n acts)
acts_upto records agent acts zero le fit = none_are_acts
acts_upto records agent acts (suc n) le fit =
    let x = get_there acts n (omega (arith, le)) in
    let fits = fit n x.0 x.1 in
    subst AreActs (sym (take_next acts n x.0 x.1)) (acts_more (take n acts) x.0 (acts_upto records agent acts n (omega (arith, le)) fit) fits.other fits.replied)

pub are_acts : (records : List Record) (agent : ℕ) (acts : List Act) → ActsFit records agent acts → AreActs acts
are_acts records agent acts fit = subst AreActs (take_all (length acts) acts (omega arith)) (acts_upto records agent acts (length acts) (omega arith) fit)
