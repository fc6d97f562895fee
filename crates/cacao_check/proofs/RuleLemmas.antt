-- Rules of steps, from what their tests find.
use Rattle.std.proofs.Common.{◌≡◌, ◌↔◌, ◌⊎◌, inl, inr, ℕ, ◌+◌, ◌<◌, ◌≤◌, Bool, true, false, IsTrue, List, [], ◌++◌, length, take, get_or, Option, Some, None, IsSome, IfSome, IfNone, Contains, slice_get, is_some, option_map, refl, sym, ◌∙◌, ap, subst, arith}
use Rattle.std.specs.Prelude.{All, ◌||◌, ◌&&◌, not}
use Rattle.std.specs.List.{list_all}
use Rattle.std.proofs.lemmas.Bool.{false≢true, cases_lt, and_parts, and_from, or_from}
use Rattle.std.proofs.lemmas.Bool.Decides.{Decides-by_and}
use Rattle.std.proofs.lemmas.Option.{slice_get_read, slice_get_within}
use Rattle.std.proofs.lemmas.Slice.Eq.{bytes_eq-Decides}
use Rattle.std.proofs.lemmas.List.{get_or_default, take_all}
use Rattle.std.proofs.lemmas.List.Folds.{list_all-append}
use Rattle.std.proofs.lemmas.List.Elements.{Contains-get_or, All-contains, All-more}
use Rattle.cacao_vars.specs.declared.declarations.Var.{Var}
use Rattle.cacao_vars.specs.declared.kinds.Kind.{Kind}
use Rattle.cacao_vars.specs.declared.kinds.Kind.TheVariants as kind
use Rattle.cacao_vars.specs.Declarations.{declared}
use Rattle.cacao_book.specs.declared.books.Book.{Book}
use Rattle.cacao_book.specs.declared.steps.Step.{Step}
use Rattle.cacao_check_regions.specs.declared.flaws.Flaw.{Flaw}
use Rattle.cacao_check_regions.specs.declared.flaws.Flaw.TheVariants as flaw
use Rattle.cacao_check_steps.specs.Links.{declares}
use Rattle.cacao_check_regions.specs.Regions.{Sees, IsPlaced}
use Rattle.cacao_check_steps.specs.Uses.{Uses, in_args_of, out_args_of, is_action, version_of}
use Rattle.cacao_check_steps.specs.Calls.{called, LeadsTo}
use Rattle.cacao_check_regions.specs.Flaws.{same_kind, may_take, is_flawed, result_flaw, SeesFlaw}
use Rattle.cacao_check.specs.Rules.{K19, K22, K23, K24, IsDeclaredAlike}

-- ---- lists

pub list_all_iff : {X : Type 0} (p : X → Bool) (xs : List X) → list_all p xs ≡ true ↔ All (λ x. p x ≡ true) xs
list_all_iff p xs = Decides-by_and p (λ x. p x ≡ true) (list_all p) (λ x. (λ e. e, λ e. e)) refl (λ x xs. refl) xs

-- ---- K22

pub k22_iff : (book : Book) (place : ℕ) (step : Step) (names : List (List ℕ)) → ((name : List ℕ) → Contains names name ↔ Uses step name) → All (λ (name : List ℕ). ¬ SeesFlaw book name flaw.Missing place) names ↔ K22 book place step
k22_iff book place step names uses = (
  λ all name seen used sees. there seen (All-contains (λ (n : List ℕ). ¬ SeesFlaw book n flaw.Missing place) names name all ((uses name).1 used)) sees,
  λ k k' d lt found. back found.0 (k (get_or names k' d) found.0 ((uses (get_or names k' d)).0 (Contains-get_or names k' d lt)) found.1) found.2,
)
  where
    there : {name : List ℕ} (seen : Option Var) → (¬ SeesFlaw book name flaw.Missing place) → Sees book name place seen → IsSome seen
    there None never sees = absurd (never (None, sees, refl))
    there (Some var) never sees = refl

    back : (seen : Option Var) → IsSome seen → is_flawed flaw.Missing seen ≡ true → ⊥
    back None some e = false≢true some
    back (Some var) some e = false≢true e

-- ---- K23

no_or : (a b : Bool) → ((a || not b) ≡ true → ⊥) → (a ≡ false) × (b ≡ true)
no_or true b h = absurd (h refl)
no_or false true h = (refl, refl)
no_or false false h = absurd (h refl)

is_no : (a : Bool) → (a ≡ true → ⊥) → a ≡ false
is_no true h = absurd (h refl)
is_no false h = refl

free : (action : Bool) (k : ℕ) (var : Var) → (is_flawed (result_flaw action k) (Some var) ≡ true → ⊥) → (var.constant ≡ false) × (IsTrue action → IsTrue (may_take k var.kind))
free true k var h = let r : (var.constant ≡ false) × (may_take k var.kind ≡ true) = no_or var.constant (may_take k var.kind) h in (r.0, λ a. r.1)
free false k var h = (is_no var.constant h, λ a. absurd (false≢true a))

not_free : (action : Bool) (k : ℕ) (var : Var) → (var.constant ≡ false) × (IsTrue action → IsTrue (may_take k var.kind)) → is_flawed (result_flaw action k) (Some var) ≡ true → ⊥
not_free true k var h e = false≢true (sym (or_from var.constant (not (may_take k var.kind)) h.0 (ap not (h.1 refl))) ∙ e)
not_free false k var h e = false≢true (sym h.0 ∙ e)

never_flawed : (action : Bool) (k : ℕ) → is_flawed (result_flaw action k) None ≡ true → ⊥
never_flawed true k e = false≢true e
never_flawed false k e = false≢true e

pub k23_kept : (book : Book) (place : ℕ) (step : Step) → ((k : ℕ) (name : List ℕ) → slice_get (out_args_of step.kind) k ≡ Some name → ¬ SeesFlaw book name (result_flaw (is_action step.kind) k) place) → K23 book place step
k23_kept book place step all k name var at sees = free (is_action step.kind) k var (λ e. all k name at (Some var, sees, e))

pub k23_broken : (book : Book) (place : ℕ) (step : Step) (k : ℕ) (name : List ℕ) → slice_get (out_args_of step.kind) k ≡ Some name → SeesFlaw book name (result_flaw (is_action step.kind) k) place → ¬ K23 book place step
k23_broken book place step k name at found kept = by_cases found.0 found.1 found.2
  where
    by_cases : (seen : Option Var) → Sees book name place seen → is_flawed (result_flaw (is_action step.kind) k) seen ≡ true → ⊥
    by_cases None sees e = never_flawed (is_action step.kind) k e
    by_cases (Some var) sees e = not_free (is_action step.kind) k var (kept k name var at sees) e

-- ---- K24

same_is : (one other : Kind) → same_kind one other ≡ true → one ≡ other
same_is kind.String kind.String e = refl
same_is kind.Bool kind.Bool e = refl
same_is kind.Integer kind.Integer e = refl
same_is kind.Long kind.Long e = refl
same_is kind.Ipv4Addr kind.Ipv4Addr e = refl
same_is kind.Ipv6Addr kind.Ipv6Addr e = refl
same_is kind.MacAddr kind.MacAddr e = refl
same_is kind.Uri kind.Uri e = refl
same_is kind.Uuid kind.Uuid e = refl
same_is kind.Hexstring kind.Hexstring e = refl
same_is (kind.Other a) (kind.Other b) e = ap kind.Other ((bytes_eq-Decides a b).0 e)
same_is _ _ e = absurd (false≢true e)

is_same : (one : Kind) → same_kind one one ≡ true
is_same kind.String = refl
is_same kind.Bool = refl
is_same kind.Integer = refl
is_same kind.Long = refl
is_same kind.Ipv4Addr = refl
is_same kind.Ipv6Addr = refl
is_same kind.MacAddr = refl
is_same kind.Uri = refl
is_same kind.Uuid = refl
is_same kind.Hexstring = refl
is_same (kind.Other a) = (bytes_eq-Decides a a).1 refl

pub unlike_iff : (book : Book) (name : List ℕ) (kind : Kind) (place : ℕ) → (¬ SeesFlaw book name (flaw.Unlike kind) place) ↔ ((ours : Var) → Sees book name place (Some ours) → ours.kind ≡ kind)
unlike_iff book name kind place = (
  λ never ours sees. there ours never sees (same_kind ours.kind kind) refl,
  λ all found. back all found.0 found.1 found.2,
)
  where
    there : (ours : Var) → (¬ SeesFlaw book name (flaw.Unlike kind) place) → Sees book name place (Some ours) → (b : Bool) → same_kind ours.kind kind ≡ b → ours.kind ≡ kind
    there ours never sees true e = same_is ours.kind kind e
    there ours never sees false e = absurd (never (Some ours, sees, ap not e))

    back : ((ours : Var) → Sees book name place (Some ours) → ours.kind ≡ kind) → (seen : Option Var) → Sees book name place seen → is_flawed (flaw.Unlike kind) seen ≡ true → ⊥
    back all None sees e = false≢true e
    back all (Some ours) sees e = false≢true (sym (ap not (ap (λ k. same_kind k kind) (all ours sees) ∙ is_same kind)) ∙ e)

-- what is asked of a name
abbrev pub AsksAlike : Book → ℕ → Book → Bool → List ℕ → Type 0
AsksAlike book place theirs as_external name = IsSome (declares book name place) ⊎ IsPlaced book place → IsDeclaredAlike book place theirs name as_external

pub k24_iff : (books : List Book) (book : Book) (place : ℕ) (step : Step) (m : ℕ) (theirs : Book) → called books step ≡ Some m → slice_get books m ≡ Some theirs
    → (All (AsksAlike book place theirs true) (in_args_of step.kind) × All (AsksAlike book place theirs false) (out_args_of step.kind)) ↔ K24 books book place step
k24_iff books book place step m theirs calls at = (
  λ both m' theirs' name calls' at' known.
      let same : m ≡ m' = (let e : Some m ≡ Some m' = sym calls ∙ calls' in cc) in
      let book_same : theirs ≡ theirs' = (let e : Some theirs ≡ Some theirs' = sym at ∙ ap (slice_get books) same ∙ at' in cc) in (
        λ c. subst (λ t. IsDeclaredAlike book place t name true) book_same (All-contains (AsksAlike book place theirs true) (in_args_of step.kind) name both.0 c known),
        λ c. subst (λ t. IsDeclaredAlike book place t name false) book_same (All-contains (AsksAlike book place theirs false) (out_args_of step.kind) name both.1 c known),
      ),
  λ kept. (
    λ k d lt known. (kept m theirs (get_or (in_args_of step.kind) k d) calls at known).0 (Contains-get_or (in_args_of step.kind) k d lt),
    λ k d lt known. (kept m theirs (get_or (out_args_of step.kind) k d) calls at known).1 (Contains-get_or (out_args_of step.kind) k d lt),
  ),
)

-- ---- K19

pub k19_iff : (books : List Book) (n : ℕ) (step : Step) (m : ℕ) (theirs : Book) → called books step ≡ Some m → slice_get books m ≡ Some theirs
    → (IfSome (version_of step.kind) (λ wanted. theirs.modified ≡ wanted) × ¬ LeadsTo books m n) ↔ K19 books n step
k19_iff books n step m theirs calls at = (
  λ h m' theirs' calls' at'.
      let same : m ≡ m' = (let e : Some m ≡ Some m' = sym calls ∙ calls' in cc) in
      let book_same : theirs ≡ theirs' = (let e : Some theirs ≡ Some theirs' = sym at ∙ ap (slice_get books) same ∙ at' in cc) in
      (subst (λ (t : Book). IfSome (version_of step.kind) (λ wanted. t.modified ≡ wanted)) book_same h.0, λ leads. h.1 (subst (λ k. LeadsTo books k n) (sym same) leads)),
  λ kept. kept m theirs calls at,
)

-- ---- from the tests to a rule

pub both_iff : {A B K : Type 0} (r : Bool) → A → (r ≡ true ↔ B) → ((A × B) ↔ K) → r ≡ true ↔ K
both_iff r a b k = (λ e. k.0 (a, b.0 e), λ h. b.1 (k.1 h).1)

pub broken_iff : {A B K : Type 0} (r : Bool) → r ≡ false → (A → ⊥) → ((A × B) ↔ K) → r ≡ true ↔ K
broken_iff r e never k = (λ h. absurd (false≢true (sym e ∙ h)), λ h. absurd (never (k.1 h).0))

pub not_iff : (r : Bool) (P : Type 0) → (r ≡ true ↔ P) → not r ≡ true ↔ (P → ⊥)
not_iff true P iff = (λ e. absurd (false≢true e), λ never. absurd (never (iff.0 refl)))
not_iff false P iff = (λ e p. false≢true (iff.1 p), λ never. refl)

-- ---- K16

pub all_appended : {X : Type 0} (p : X → Bool) (a b : List X) (r : Bool) → list_all p a ≡ true → r ≡ list_all p b → r ≡ true ↔ All (λ x. p x ≡ true) (a ++ b)
all_appended p a b r ea eb =
    let iff : list_all p (a ++ b) ≡ true ↔ All (λ x. p x ≡ true) (a ++ b) = list_all_iff p (a ++ b) in
    let joined : list_all p (a ++ b) ≡ (list_all p a && list_all p b) = list_all-append p a b in (
      λ h. iff.0 (joined ∙ and_from (list_all p a) (list_all p b) ea (sym eb ∙ h)),
      λ h. eb ∙ (and_parts (list_all p a) (list_all p b) (sym joined ∙ iff.1 h)).1,
    )

pub none_appended : {X : Type 0} (p : X → Bool) (a b : List X) (r : Bool) → r ≡ false → list_all p a ≡ false → r ≡ true ↔ All (λ x. p x ≡ true) (a ++ b)
none_appended p a b r e ea =
    let iff : list_all p (a ++ b) ≡ true ↔ All (λ x. p x ≡ true) (a ++ b) = list_all_iff p (a ++ b) in (
      λ h. absurd (false≢true (sym e ∙ h)),
      λ h. absurd (false≢true (sym ea ∙ (and_parts (list_all p a) (list_all p b) (sym (list_all-append p a b) ∙ iff.1 h)).0)),
    )

module _ (books : List Book) (book : Book) (place : ℕ) (step : Step) (m : ℕ) (theirs : Book) (calls : called books step ≡ Some m) (at : slice_get books m ≡ Some theirs) where
  pub k24_then : (ins outs : List (List ℕ)) (a b : Bool) → ins ≡ in_args_of step.kind → outs ≡ out_args_of step.kind → (a ≡ true ↔ All (AsksAlike book place theirs true) ins) → a ≡ true → (b ≡ true ↔ All (AsksAlike book place theirs false) outs) → b ≡ true ↔ K24 books book place step
  k24_then ins outs a b same_ins same_outs ia ea ib =
      let P : List (List ℕ) → Type 0 = λ names. All (AsksAlike book place theirs true) names in
      let Q : List (List ℕ) → Type 0 = λ names. b ≡ true ↔ All (AsksAlike book place theirs false) names in
      both_iff b (subst P same_ins (ia.0 ea)) (subst Q same_outs ib) (k24_iff books book place step m theirs calls at)

  pub k24_else : (ins : List (List ℕ)) (a : Bool) → ins ≡ in_args_of step.kind → (a ≡ true ↔ All (AsksAlike book place theirs true) ins) → a ≡ false → false ≡ true ↔ K24 books book place step
  k24_else ins a same_ins ia ea =
      let P : List (List ℕ) → Type 0 = λ names. All (AsksAlike book place theirs true) names in
      broken_iff false refl (λ all. false≢true (sym ea ∙ ia.1 (subst P (sym same_ins) all))) (k24_iff books book place step m theirs calls at)

  pub k19_then : (n : ℕ) (v r : Bool) → (v ≡ true ↔ IfSome (version_of step.kind) (λ wanted. theirs.modified ≡ wanted)) → v ≡ true → (r ≡ true ↔ (LeadsTo books m n → ⊥)) → r ≡ true ↔ K19 books n step
  k19_then n v r iv ev ir = both_iff r (iv.0 ev) ir (k19_iff books n step m theirs calls at)

  pub k19_else : (n : ℕ) (v : Bool) → (v ≡ true ↔ IfSome (version_of step.kind) (λ wanted. theirs.modified ≡ wanted)) → v ≡ false → false ≡ true ↔ K19 books n step
  k19_else n v iv ev = broken_iff false refl (λ fits. false≢true (sym ev ∙ iv.1 fits)) (k19_iff books n step m theirs calls at)

-- a mark that was read from a table of sets
pub marked_iff : (table : List (List Bool)) (m n : ℕ) (bits : List Bool) (r : Bool) (P : Type 0) → m < length table → bits ≡ get_or table m bits → r ≡ get_or bits n false → (get_or (get_or table m []) n false ≡ true ↔ P) → r ≡ true ↔ P
marked_iff table m n bits r P lt at e iff =
    let same : bits ≡ get_or table m [] = at ∙ get_or_default table m bits [] lt in
    (λ h. iff.0 (ap (λ b. get_or b n false) (sym same) ∙ sym e ∙ h), λ p. e ∙ ap (λ b. get_or b n false) same ∙ iff.1 p)

-- ---- walks over names

pub all_more : {X : Type 0} (P : X → Type 0) (xs : List X) (i : ℕ) (x : X) → i < length xs → x ≡ get_or xs i x → P x → All P (take i xs) → All P (take (i + 1) xs)
all_more P xs i x lt at p done = All-more P xs i x lt done (subst P at p)

pub all_done : {X : Type 0} (P : X → Type 0) (xs : List X) (i : ℕ) → length xs ≤ i → All P (take i xs) → true ≡ true ↔ All P xs
all_done P xs i over done = (λ e. subst (All P) (take_all i xs over) done, λ all. refl)

pub fails_at : {X : Type 0} (P : X → Type 0) (xs : List X) (i : ℕ) (x : X) → i < length xs → x ≡ get_or xs i x → (P x → ⊥) → false ≡ true ↔ All P xs
fails_at P xs i x lt at bad = (λ e. absurd (false≢true e), λ all. absurd (bad (subst P (sym at) (all i x lt))))

module _ (book : Book) (place : ℕ) (step : Step) (outs : List (List ℕ)) (action : Bool) (same_outs : outs ≡ out_args_of step.kind) (same_action : action ≡ is_action step.kind) where
  -- the results before this one may be written
  abbrev pub ResultsTaken : ℕ → Type 0
  ResultsTaken i = (k : ℕ) (name : List ℕ) → k < i → slice_get outs k ≡ Some name → ¬ SeesFlaw book name (result_flaw action k) place

  pub k23_no : (k : ℕ) (name : List ℕ) (flaw : Flaw) → k < length outs → name ≡ get_or outs k name → flaw ≡ result_flaw action k → SeesFlaw book name flaw place → false ≡ true ↔ K23 book place step
  k23_no k name flaw lt at same found =
      let here : slice_get outs k ≡ Some name = slice_get_read outs (length outs) k name refl lt at in
      let there : slice_get (out_args_of step.kind) k ≡ Some name = ap (λ l. slice_get l k) (sym same_outs) ∙ here in
      let f : SeesFlaw book name (result_flaw (is_action step.kind) k) place = subst (λ a. SeesFlaw book name (result_flaw a k) place) same_action (subst (λ v. SeesFlaw book name v place) same found) in
      (λ e. absurd (false≢true e), λ kept. absurd (k23_broken book place step k name there f kept))

  pub k23_more : (k : ℕ) (name : List ℕ) (flaw : Flaw) → k < length outs → name ≡ get_or outs k name → flaw ≡ result_flaw action k → (SeesFlaw book name flaw place → ⊥) → ResultsTaken k → ResultsTaken (k + 1)
  k23_more k name flaw lt at same free' done j other below there found = elim (cases_lt j k) [
    | inl before ↦ done j other before there found
    | inr now ↦ let here : slice_get outs k ≡ Some name = slice_get_read outs (length outs) k name refl lt at in
        let e : k ≡ j = omega arith in
        let n : other ≡ name = (let q : Some other ≡ Some name = sym there ∙ ap (slice_get outs) (sym e) ∙ here in cc) in
        free' (subst (λ v. SeesFlaw book name v place) (sym same) (subst (λ i. SeesFlaw book name (result_flaw action i) place) (sym e) (subst (λ m. SeesFlaw book m (result_flaw action j) place) n found)))
  ]

  pub k23_yes : (k : ℕ) → length outs ≤ k → ResultsTaken k → true ≡ true ↔ K23 book place step
  k23_yes k over done = (
    λ e. k23_kept book place step (λ j name there. let here : slice_get outs j ≡ Some name = ap (λ l. slice_get l j) same_outs ∙ there in
        let inside : j < length outs = slice_get_within outs j name here in
        λ found. done j name (omega arith) here (subst (λ a. SeesFlaw book name (result_flaw a j) place) (sym same_action) found)),
    λ kept. refl,
  )

-- ---- names alike

module _ (book : Book) (place : ℕ) (theirs : Book) (name : List ℕ) (as_external : Bool) (var : Var) (there : Some var ≡ declared theirs.variables name) where
  pub alike_yes : (m d : Bool) (flaw' : Flaw) (kind : Kind) → (m ≡ true ↔ (IsTrue as_external → IsTrue var.external)) → m ≡ true → flaw' ≡ flaw.Unlike kind → kind ≡ var.kind → (d ≡ true ↔ SeesFlaw book name flaw' place) → not d ≡ true ↔ IsDeclaredAlike book place theirs name as_external
  alike_yes m d flaw' kind im em same same_kind' id =
      let sees : d ≡ true ↔ SeesFlaw book name (flaw.Unlike var.kind) place = subst (λ k. d ≡ true ↔ SeesFlaw book name (flaw.Unlike k) place) same_kind' (subst (λ v. d ≡ true ↔ SeesFlaw book name v place) same id) in
      let free' : not d ≡ true ↔ (SeesFlaw book name (flaw.Unlike var.kind) place → ⊥) = not_iff d (SeesFlaw book name (flaw.Unlike var.kind) place) sees in
      let kinds = unlike_iff book name var.kind place in (
        λ e. rw (sym there) (im.0 em, kinds.0 (free'.0 e)),
        λ alike. free'.1 (kinds.1 (rw (sym there) at alike).1),
      )

-- ---- texts that are not read

flipped : (a b : Bool) → a ≡ not b → b ≡ not a
flipped a true e = sym (ap not e)
flipped a false e = sym (ap not e)

pub unread_iff : {B C X : Type 0} (now : B → X) (found : Option B) (o : Option X) (F : X → Type 0) (part : Option C) (s r : Bool) → option_map now found ≡ o → s ≡ is_some part → s ≡ false → IfNone part (IfSome o (λ x. F x → ⊥)) → is_some found ≡ not r → r ≡ true ↔ IfSome o F
unread_iff now found o F (Some c) s r e some none h n = absurd (false≢true (sym none ∙ some))
unread_iff {B} {C} {X} now None o F None s r e some none h n = let M : Option X → Type 0 = λ v. IfSome v F in (λ t. subst M e tt, λ k. flipped false r n)
unread_iff {B} {C} {X} now (Some b) o F None s r e some none h n =
    let N : Option X → Type 0 = λ v. IfSome v (λ x. F x → ⊥) in
    let M : Option X → Type 0 = λ v. IfSome v F in
    let never' : F (now b) → ⊥ = subst N (sym e) h in
    (λ t. absurd (false≢true (sym (flipped true r n) ∙ t)), λ k. absurd (never' (subst M (sym e) k)))
