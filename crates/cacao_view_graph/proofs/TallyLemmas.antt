-- What is counted at steps, one more at a time.
use Rattle.std.proofs.Common.{append-nil, ◌≤◌, IfSome, ◌≡◌, ◌≢◌, ◌∙◌, inl, inr, refl, sym, ap, ap₂, subst, arith, ℕ, zero, suc, ◌+◌, ◌<◌, ◌==◌, Bool, true, false, List, [], ◌∷◌, ◌++◌, length, length-append, take, set, get_or, Option, Some, None, Result, Ok, Err}
use Rattle.std.specs.Prelude.{IfOk, codes, count_by, decimal, flat_map, slice_get, if◌then◌else◌}
use Rattle.std.specs.List.{filter}
use Rattle.std.proofs.lemmas.Bool.{cases_eq}
use Rattle.std.proofs.lemmas.Grind.{common_steps, flat_map-append}
use Rattle.std.proofs.lemmas.List.Elements.{filter-append}
use Rattle.std.proofs.lemmas.List.{take_more}
use Rattle.std.proofs.lemmas.List.Sums.{count_by-le-length, length-filter}
use Rattle.std.proofs.lemmas.Option.{none-some, same_Some, slice_get_read, slice_get_within}
use Rattle.cacao_check.proofs.LawLemmas.{at_some}
use Rattle.cacao_view_graph.specs.Marks.{is_at, noted}
use Rattle.cacao_view_graph.specs.Tallies.{AllTallied, AreTallies, HasFew, HasTally, HaveTallies, IfTallied, IsMarkOf, IsTally}
use Rattle.cacao_view_graph.specs.declared.marks.Mark.{Mark}
use Rattle.cacao_view_graph.specs.declared.marks.Marks.{Marks}
use Rattle.cacao_view_graph.specs.declared.note.Note.{Note}
use Rattle.cacao_view_graph.specs.declared.spot.Spot.{Spot}
use Rattle.cacao_view_graph.specs.declared.tally.Tally.{Tally}
use Rattle.cacao_view_graph.proofs.PlacingLemmas.{get_pushed}

-- ---- one item more

counted_one : {X : Type 0} (p : X → Bool) (x : X) (b : Bool) → p x ≡ b → length (filter p (x ∷ [])) ≡ (if b then 1 else 0)
counted_one p x true e = rw e refl
counted_one p x false e = rw e refl

counted_more : {X : Type 0} (p : X → Bool) (xs : List X) (x : X) → count_by p (xs ++ x ∷ []) ≡ count_by p xs + (if p x then 1 else 0)
counted_more p xs x =
    sym (length-filter p (xs ++ x ∷ [])) ∙ ap length (filter-append p xs (x ∷ [])) ∙ length-append (filter p xs) (filter p (x ∷ []))
    ∙ ap (λ n. n + length (filter p (x ∷ []))) (length-filter p xs) ∙ ap (λ n. count_by p xs + n) (counted_one p x (p x) refl)

pub counted_yes : {X : Type 0} (p : X → Bool) (xs : List X) (x : X) → p x ≡ true → count_by p (xs ++ x ∷ []) ≡ count_by p xs + 1
counted_yes p xs x e = counted_more p xs x ∙ ap (λ (b : Bool). count_by p xs + (if b then 1 else 0)) e

pub counted_no : {X : Type 0} (p : X → Bool) (xs : List X) (x : X) → p x ≡ false → count_by p (xs ++ x ∷ []) ≡ count_by p xs
counted_no p xs x e = counted_more p xs x ∙ ap (λ (b : Bool). count_by p xs + (if b then 1 else 0)) e ∙ omega arith

-- ---- where a spot is

not_step : (book step : ℕ) (spot : Spot) → spot.step ≢ step → is_at book step spot ≡ false
not_step book step spot other = grind (arith, other)

there : (book step : ℕ) (spot : Spot) → spot.book ≡ book → spot.step ≡ step → is_at book step spot ≡ true
there book step spot b s = grind (arith, b, s)

-- ---- the item that is set

pub set_same : {X : Type 0} (xs : List X) (k : ℕ) (new x : X) → slice_get (set xs k new) k ≡ Some x → new ≡ x
set_same [] k new x e = absurd (none-some x e)
set_same (y ∷ ys) zero new x e = same_Some new x e
set_same (y ∷ ys) (suc k) new x e = set_same ys k new x e

pub set_other : {X : Type 0} (xs : List X) (k j : ℕ) (new : X) → j ≢ k → slice_get (set xs k new) j ≡ slice_get xs j
set_other [] k j new other = refl
set_other (y ∷ ys) zero zero new other = absurd (other refl)
set_other (y ∷ ys) zero (suc j) new other = refl
set_other (y ∷ ys) (suc k) zero new other = refl
set_other (y ∷ ys) (suc k) (suc j) new other = set_other ys k j new (λ e. other (ap suc e))

-- ---- steps before there is any walk or note

pub none_blank : (book : ℕ) → AreTallies book [] [] []
none_blank book step tally e = absurd (none-some tally e)

pub blank_more : (tallies : List Tally) (new : Tally) → new.walks ≡ 0 → new.text.items ≡ [] → ((book : ℕ) → AreTallies book [] [] tallies) → (book : ℕ) → AreTallies book [] [] (tallies ++ new ∷ [])
blank_more tallies new walks text before book step tally e = elim (get_pushed tallies new step tally e) [
  | inl old ↦ before book step tally old
  | inr last ↦ subst (λ (t : Tally). IsTally book [] [] step t) last.1 (record { walks = walks; text = text })
]

-- ---- one walk more

pub walk_past : (book : ℕ) (spot : Spot) (tallies : List Tally) → length tallies ≤ spot.step → (walked : List Spot) (notes : List Note) → AreTallies book walked notes tallies → AreTallies book (walked ++ spot ∷ []) notes tallies
walk_past book spot tallies past walked notes are step tally e =
    let within : step < length tallies = slice_get_within tallies step tally e in
    let other : is_at book step spot ≡ false = not_step book step spot (λ (same : spot.step ≡ step). omega (arith, past, within, same)) in
    record { walks = (are step tally e).walks ∙ sym (counted_no (is_at book step) walked spot other); text = (are step tally e).text }

pub walk_there : (book : ℕ) (spot : Spot) (tallies : List Tally) (old new : Tally) → spot.book ≡ book → spot.step < length tallies → old ≡ get_or tallies spot.step old → new.walks ≡ old.walks + 1 → new.text.items ≡ old.text.items
    → (walked : List Spot) (notes : List Note) → AreTallies book walked notes tallies → AreTallies book (walked ++ spot ∷ []) notes (set tallies spot.step new)
walk_there book spot tallies old new here lt is one text walked notes are step tally e = elim (cases_eq step spot.step) [
  | inl same ↦
      let at : new ≡ tally = set_same tallies spot.step new tally (ap (slice_get (set tallies spot.step new)) (sym same) ∙ e) in
      let was : IsTally book walked notes spot.step old = are spot.step old (slice_get_read tallies (length tallies) spot.step old refl lt is) in
      let more : new.walks ≡ count_by (is_at book spot.step) (walked ++ spot ∷ []) =
      one ∙ ap (λ n. n + 1) was.walks ∙ sym (counted_yes (is_at book spot.step) walked spot (there book spot.step spot here refl)) in
      subst (λ (k : ℕ). IsTally book (walked ++ spot ∷ []) notes k tally) (sym same)
      (subst (λ (t : Tally). IsTally book (walked ++ spot ∷ []) notes spot.step t) at (record { walks = more; text = text ∙ was.text }))
  | inr other ↦
      let was : IsTally book walked notes step tally = are step tally (sym (set_other tallies spot.step step new other) ∙ e) in
      let no : is_at book step spot ≡ false = not_step book step spot (λ (same : spot.step ≡ step). other (sym same)) in
      record { walks = was.walks ∙ sym (counted_no (is_at book step) walked spot no); text = was.text }
]

some_if : {X : Type 0} (o : Option X) (P : X → Type 0) → ((x : X) → o ≡ Some x → P x) → IfSome o P
some_if None P h = tt
some_if (Some x) P h = h x refl

-- few walks were counted at the step
pub few : (book : ℕ) (walked : List Spot) (notes : List Note) (tallies : List Tally) (step : ℕ) → length walked < 18446744073709551615 → AreTallies book walked notes tallies → HasFew tallies step
few book walked notes tallies step short are = some_if (slice_get tallies step) (λ tally. tally.walks < 18446744073709551615) (λ tally e.
    let n = (are step tally e).walks in let le = count_by-le-length (is_at book step) walked in omega (arith, n, le, short))

pub few_there : (tallies : List Tally) (step : ℕ) (tally : Tally) → HasFew tallies step → step < length tallies → tally ≡ get_or tallies step tally → tally.walks < 18446744073709551615
few_there tallies step tally has lt is = at_some (slice_get tallies step) (λ (t : Tally). t.walks < 18446744073709551615) tally (slice_get_read tallies (length tallies) step tally refl lt is) has

pub next_walk : (book : ℕ) (walked : List Spot) (place : ℕ) (spot : Spot) (new : List Tally) → place < length walked → spot ≡ get_or walked place spot → AreTallies book (take place walked ++ spot ∷ []) [] new
    → AreTallies book (take (place + 1) walked) [] new
next_walk book walked place spot new lt is are =
    subst (λ (l : List Spot). AreTallies book l [] new) (sym (take_more walked place spot lt ∙ ap (λ (s : Spot). take place walked ++ s ∷ []) (sym is))) are

-- ---- one note more

not_noted : (book step : ℕ) (note : Note) → is_at book step note.spot ≡ false → noted book step note ≡ []
not_noted book step note e = ap (λ (b : Bool). if b then note.text else []) e

noted_here : (book step : ℕ) (note : Note) → is_at book step note.spot ≡ true → noted book step note ≡ note.text
noted_here book step note e = ap (λ (b : Bool). if b then note.text else []) e

noted_more : (book step : ℕ) (notes : List Note) (note : Note) → flat_map (noted book step) (notes ++ note ∷ []) ≡ flat_map (noted book step) notes ++ noted book step note
noted_more book step notes note = flat_map-append (noted book step) notes (note ∷ []) ∙ ap (λ l. flat_map (noted book step) notes ++ l) (append-nil (noted book step note))

noted_no : (book step : ℕ) (notes : List Note) (note : Note) → is_at book step note.spot ≡ false → flat_map (noted book step) (notes ++ note ∷ []) ≡ flat_map (noted book step) notes
noted_no book step notes note e = noted_more book step notes note ∙ ap (λ l. flat_map (noted book step) notes ++ l) (not_noted book step note e) ∙ append-nil (flat_map (noted book step) notes)

noted_yes : (book step : ℕ) (notes : List Note) (note : Note) → is_at book step note.spot ≡ true → flat_map (noted book step) (notes ++ note ∷ []) ≡ flat_map (noted book step) notes ++ note.text
noted_yes book step notes note e = noted_more book step notes note ∙ ap (λ l. flat_map (noted book step) notes ++ l) (noted_here book step note e)

pub note_past : (book : ℕ) (note : Note) (tallies : List Tally) → length tallies ≤ note.spot.step → (walked : List Spot) (notes : List Note) → AreTallies book walked notes tallies → AreTallies book walked (notes ++ note ∷ []) tallies
note_past book note tallies past walked notes are step tally e =
    let within : step < length tallies = slice_get_within tallies step tally e in
    let other : is_at book step note.spot ≡ false = not_step book step note.spot (λ (same : note.spot.step ≡ step). omega (arith, past, within, same)) in
    record { walks = (are step tally e).walks; text = (are step tally e).text ∙ sym (noted_no book step notes note other) }

pub note_there : (book : ℕ) (note : Note) (tallies : List Tally) (old new : Tally) → note.spot.book ≡ book → note.spot.step < length tallies → old ≡ get_or tallies note.spot.step old → new.walks ≡ old.walks
    → new.text.items ≡ old.text.items ++ note.text → (walked : List Spot) (notes : List Note) → AreTallies book walked notes tallies → AreTallies book walked (notes ++ note ∷ []) (set tallies note.spot.step new)
note_there book note tallies old new here lt is walks text walked notes are step tally e = elim (cases_eq step note.spot.step) [
  | inl same ↦
      let at : new ≡ tally = set_same tallies note.spot.step new tally (ap (slice_get (set tallies note.spot.step new)) (sym same) ∙ e) in
      let was : IsTally book walked notes note.spot.step old = are note.spot.step old (slice_get_read tallies (length tallies) note.spot.step old refl lt is) in
      let more : new.text.items ≡ flat_map (noted book note.spot.step) (notes ++ note ∷ []) =
      text ∙ ap (λ l. l ++ note.text) was.text ∙ sym (noted_yes book note.spot.step notes note (there book note.spot.step note.spot here refl)) in
      subst (λ (k : ℕ). IsTally book walked (notes ++ note ∷ []) k tally) (sym same)
      (subst (λ (t : Tally). IsTally book walked (notes ++ note ∷ []) note.spot.step t) at (record { walks = walks ∙ was.walks; text = more }))
  | inr other ↦
      let was : IsTally book walked notes step tally = are step tally (sym (set_other tallies note.spot.step step new other) ∙ e) in
      let no : is_at book step note.spot ≡ false = not_step book step note.spot (λ (same : note.spot.step ≡ step). other (sym same)) in
      record { walks = was.walks; text = was.text ∙ sym (noted_no book step notes note no) }
]

pub next_note : (book : ℕ) (walked : List Spot) (notes : List Note) (place : ℕ) (note : Note) (new : List Tally) → place < length notes → note ≡ get_or notes place note → AreTallies book walked (take place notes ++ note ∷ []) new
    → AreTallies book walked (take (place + 1) notes) new
next_note book walked notes place note new lt is are =
    subst (λ (l : List Note). AreTallies book walked l new) (sym (take_more notes place note lt ∙ ap (λ (s : Note). take place notes ++ s ∷ []) (sym is))) are

-- ---- as the code goes on

pub short : {X : Type 0} (xs : List X) (place : ℕ) → place < length xs → place < 18446744073709551615 → length (take place xs) < 18446744073709551615
short xs place lt fits = let taken : length (take place xs) ≡ place = grind (arith, common_steps) in omega (arith, taken, fits)

-- ---- what is marked at a step

abbrev told_walks : ℕ → List ℕ → List ℕ
told_walks walks text = codes "\nwalked " ++ (decimal walks ++ 10 ∷ text)

mark_there : (marks : Marks) (book step : ℕ) (tally : Tally) (mark : Mark) → mark.text.items ≡ told_walks tally.walks tally.text.items → mark.pale ≡ (tally.walks == 0) → IsTally book marks.walked.items marks.notes.items step tally
    → IsMarkOf (Some marks) book step mark
mark_there marks book step tally mark text pale is = record { text = text ∙ ap₂ told_walks is.walks is.text; pale = pale ∙ ap (λ (n : ℕ). n == 0) is.walks }

pub marked_there : {E : Type 0} (o : Option Marks) (marks : Marks) (step : ℕ) (tallies : List Tally) (tally : Tally) (result : Result Mark E) → o ≡ Some marks → tally ≡ get_or tallies step tally
    → IfOk result (λ mark. mark.text.items ≡ told_walks tally.walks tally.text.items) → IfOk result (λ mark. mark.pale ≡ (tally.walks == 0))
    → IfOk result (λ mark. (book : ℕ) → IfTallied o book step tallies → IsMarkOf o book step mark)
marked_there o marks step tallies tally (Err e) some is text pale = tt
marked_there o marks step tallies tally (Ok mark) some is text pale = λ book tallied.
    let own = subst (λ (m : Option Marks). IfTallied m book step tallies) some tallied in
    subst (λ (m : Option Marks). IsMarkOf m book step mark) (sym some)
    (mark_there marks book step tally mark text pale (own.1 step tally (slice_get_read tallies (length tallies) step tally refl own.0 is)))

has_tally : (o : Option Marks) (book step : ℕ) (tallies : List Tally) → IfTallied o book step tallies → HasTally o step tallies
has_tally None book step tallies tallied = tt
has_tally (Some marks) book step tallies tallied = tallied.0

pub have_tallies : (o : Option Marks) (book steps : ℕ) (tallies : List Tally) → AllTallied o book steps tallies → HaveTallies o steps tallies
have_tallies o book steps tallies all step lt = has_tally o book step tallies (all step lt)
