-- What operators answered: the least issue that waits and has an answer, and the first answer for it.
use Rattle.std.proofs.Common.{◌≡◌, ◌≢◌, ◌⊎◌, inl, inr, ℕ, zero, suc, ◌+◌, ◌<◌, ◌≤◌, Bool, true, false, cond, List, [], ◌∷◌, length, refl, sym, ◌∙◌, subst, ap, arith, slice_index_or}
use Rattle.std.specs.Prelude.{Contains, Option, Some, None, ◌==◌, min, nat_le, slice_get}
use Rattle.std.specs.Option.{option_map_or}
use Rattle.std.proofs.lemmas.Bool.{false≢true}
use Rattle.std.proofs.lemmas.List.{get_or_default}
use Rattle.std.proofs.lemmas.Option.{none-some}
use Rattle.cacao_site.specs.View.{SiteView}
use Rattle.flow_engine_answers.specs.declared.answers.OperatorAnswer.{OperatorAnswer}
use Rattle.flow_world_steps.specs.EngineView.{EngineView}
use Rattle.flow_core_rules.specs.Changes.{is_waiting}
use Rattle.flow_core_rules.specs.State.{Shown}
use Rattle.flow_core_rules.specs.declared.issues.Issue.{Issue}
use Rattle.flow_world_steps.proofs.Basics.{same_some}
use Rattle.slpf_actuator.specs.ActuatorView.{ActuatorView}
use Rattle.flow_world_steps.specs.Turns.{HasAnswer, IsIdle, IsToBeTold, IsUntold, answer_for}
use Rattle.flow_world_steps.specs.Worlds.{Notes, looked}
use Rattle.flow_world_parts.specs.Leads.{IsLeastTold, IsTold, IsWaitingFor, WhereLooked, at}

-- ---- the first answer for an issue

eq_of : (n m : ℕ) → (n == m) ≡ true → n ≡ m
eq_of n m e = grind arith

eq_same : (n m : ℕ) → n ≡ m → (n == m) ≡ true
eq_same n m e = grind arith

behind : (x told : OperatorAnswer) (xs : List OperatorAnswer) → Contains xs told → Contains (x ∷ xs) told
behind x told xs has = (suc has.0, omega (arith, has.1), has.2)

pub record IsFound (answers : List OperatorAnswer) (issue : ℕ) (told : OperatorAnswer) : Type 0 where
  pub has : Contains answers told
  pub of_issue : told.issue ≡ issue

pub found_is : (answers : List OperatorAnswer) (issue : ℕ) (told : OperatorAnswer) → answer_for answers issue ≡ Some told → IsFound answers issue told
found_is [] issue told e = absurd (none-some told e)
found_is (x ∷ xs) issue told e = by (found_is xs issue told) (x.issue == issue) refl e
  where
    by : (answer_for xs issue ≡ Some told → IsFound xs issue told) → (b : Bool) → (x.issue == issue) ≡ b → cond b (Some x) (answer_for xs issue) ≡ Some told → IsFound (x ∷ xs) issue told
    by others true is e =
        let same = same_some e in
        record { has = (0, omega arith, same); of_issue = ap (λ (t : OperatorAnswer). t.issue) (sym same) ∙ eq_of x.issue issue is }
    by others false is e = let later = others e in record { has = behind x told xs later.has; of_issue = later.of_issue }

not_at : (issue : ℕ) (told : OperatorAnswer) → told.issue ≡ issue → (xs : List OperatorAnswer) (k : ℕ) → answer_for xs issue ≡ None → k < length xs → slice_index_or xs k told ≡ told → ⊥
not_at issue told is [] k none lt there = absurd (omega (arith, lt))
not_at issue told is (x ∷ xs) k none lt there = by (not_at issue told is xs) (x.issue == issue) refl none k lt there
  where
    by : ((k : ℕ) → answer_for xs issue ≡ None → k < length xs → slice_index_or xs k told ≡ told → ⊥) → (b : Bool) → (x.issue == issue) ≡ b → cond b (Some x) (answer_for xs issue) ≡ None
        → (k : ℕ) → k < length (x ∷ xs) → slice_index_or (x ∷ xs) k told ≡ told → ⊥
    by others true test none k lt there = none-some x (sym none)
    by others false test none zero lt there = false≢true (sym test ∙ eq_same x.issue issue (ap (λ (t : OperatorAnswer). t.issue) there ∙ is))
    by others false test none (suc k) lt there = others k none (omega (arith, lt)) there

pub not_found : (answers : List OperatorAnswer) (issue : ℕ) (told : OperatorAnswer) → answer_for answers issue ≡ None → IsFound answers issue told → ⊥
not_found answers issue told none is = not_at issue told is.of_issue answers is.has.0 none is.has.1 is.has.2

-- ---- what it is in a turn

pub told_of : (v : EngineView) (site : SiteView) (filters : List ActuatorView) (notes : Notes) (answers : List OperatorAnswer) (issue : ℕ) (told : OperatorAnswer) → notes.answers ≡ answers
    → HasAnswer (at site v filters notes looked) issue told → IsTold v answers issue
told_of v site filters notes answers issue told are has =
    let is = found_is answers issue told (ap (λ (l : List OperatorAnswer). answer_for l issue) (sym are) ∙ has.first) in
    record { waiting = record { it = has.it; there = has.there; waits = has.waits }; told = told; has = is.has; of_issue = is.of_issue }

module _ (answers : List OperatorAnswer) (so : SiteView) (v : EngineView) (idle : WhereLooked IsIdle answers so v) where
  pub untold_of : IsLeastTold v answers None → WhereLooked IsUntold answers so v
  untold_of none filters notes given = record {
    idle = idle filters notes given;
    none = λ issue told has. none issue (told_of v so filters notes answers issue told given.answers_are has);
  }

  pub to_be_told_of : (issue : ℕ) (told : OperatorAnswer) → IsLeastTold v answers (Some issue) → answer_for answers issue ≡ Some told → WhereLooked (λ w. IsToBeTold w issue told) answers so v
  to_be_told_of issue told least first filters notes given = record {
    idle = idle filters notes given;
    has = record {
      it = least.0.waiting.it;
      there = least.0.waiting.there;
      waits = least.0.waiting.waits;
      first = ap (λ (l : List OperatorAnswer). answer_for l issue) given.answers_are ∙ first;
    };
    least = λ lower other lt has. least.1 lower lt (told_of v so filters notes answers lower other given.answers_are has);
  }

-- one that is told has a first answer
pub never_unfound : (v : EngineView) (answers : List OperatorAnswer) (issue : ℕ) → IsTold v answers issue → answer_for answers issue ≢ None
never_unfound v answers issue is none = not_found answers issue is.told none (record { has = is.has; of_issue = is.of_issue })

-- ---- the least issue that waits and has an answer, among the first answers

-- among so many of them
abbrev pub IsLeastOf : EngineView → List OperatorAnswer → ℕ → Option ℕ → Type 0
IsLeastOf v answers n None = (k : ℕ) (told : OperatorAnswer) → k < n → slice_index_or answers k told ≡ told → IsWaitingFor v told.issue → ⊥
IsLeastOf v answers n (Some issue) =
    IsTold v answers issue × ((k : ℕ) (told : OperatorAnswer) → k < n → slice_index_or answers k told ≡ told → IsWaitingFor v told.issue → issue ≤ told.issue)

module _ (v : EngineView) (answers : List OperatorAnswer) where
  module _ (n : ℕ) (x : OperatorAnswer) (in_ : n < length answers) (there : slice_index_or answers n x ≡ x) where
    -- one among one more is among the others, or it is this one
    which : (k : ℕ) (told : OperatorAnswer) → k < n + 1 → slice_index_or answers k told ≡ told → (k < n) ⊎ (x ≡ told)
    which k told lt e = elim (less_or_same k n lt) [
      | inl less ↦ inl less
      | inr same ↦ inr (sym there ∙ (get_or_default answers n x told in_ ∙ subst (λ (m : ℕ). slice_index_or answers m told ≡ told) same e))
    ]
      where
        less_or_same : (k n : ℕ) → k < n + 1 → (k < n) ⊎ (k ≡ n)
        less_or_same zero zero lt = inr refl
        less_or_same zero (suc n) lt = inl (omega arith)
        less_or_same (suc k) zero lt = absurd (omega (arith, lt))
        less_or_same (suc k) (suc n) lt = elim (less_or_same k n (omega (arith, lt))) [
          | inl less ↦ inl (omega (arith, less))
          | inr same ↦ inr (ap suc same)
        ]

    -- this one does not wait
    pub not_this : (o : Option ℕ) → (IsWaitingFor v x.issue → ⊥) → IsLeastOf v answers n o → IsLeastOf v answers (n + 1) o
    not_this None not none = λ k told lt e waits. elim (which k told lt e) [
      | inl less ↦ none k told less e waits
      | inr same ↦ not (subst (λ (t : OperatorAnswer). IsWaitingFor v t.issue) (sym same) waits)
    ]
    not_this (Some issue) not least = (least.0, others)
      where
        others : (k : ℕ) (told : OperatorAnswer) → k < n + 1 → slice_index_or answers k told ≡ told → IsWaitingFor v told.issue → issue ≤ told.issue
        others k told lt e waits = elim (which k told lt e) [
          | inl less ↦ least.1 k told less e waits
          | inr same ↦ absurd (not (subst (λ (t : OperatorAnswer). IsWaitingFor v t.issue) (sym same) waits))
        ]

    told_here : IsWaitingFor v x.issue → IsTold v answers x.issue
    told_here waiting = record { waiting = waiting; told = x; has = (n, in_, there); of_issue = refl }

    -- this one waits
    pub this_too : (o : Option ℕ) → IsWaitingFor v x.issue → IsLeastOf v answers n o → IsLeastOf v answers (n + 1) (Some (option_map_or (min x.issue) o x.issue))
    this_too None waiting none = (told_here waiting, others)
      where
        others : (k : ℕ) (told : OperatorAnswer) → k < n + 1 → slice_index_or answers k told ≡ told → IsWaitingFor v told.issue → x.issue ≤ told.issue
        others k told lt e waits = elim (which k told lt e) [
          | inl less ↦ absurd (none k told less e waits)
          | inr same ↦ subst (λ (t : OperatorAnswer). x.issue ≤ t.issue) same (omega arith)
        ]
    this_too (Some issue) waiting least = (lesser_told, others)
      where
        one_of : (a b : ℕ) → (min a b ≡ a) ⊎ (min a b ≡ b)
        one_of a b = by (nat_le a b) refl
          where
            by : (t : Bool) → nat_le a b ≡ t → (min a b ≡ a) ⊎ (min a b ≡ b)
            by true is = inl (grind (arith, is))
            by false is = inr (grind (arith, is))

        min_le : (a b : ℕ) → min a b ≤ a
        min_le a b = grind arith

        min_le_right : (a b : ℕ) → min a b ≤ b
        min_le_right a b = grind arith

        lesser_told : IsTold v answers (min x.issue issue)
        lesser_told = elim (one_of x.issue issue) [
          | inl e ↦ subst (λ (m : ℕ). IsTold v answers m) (sym e) (told_here waiting)
          | inr e ↦ subst (λ (m : ℕ). IsTold v answers m) (sym e) least.0
        ]

        others : (k : ℕ) (told : OperatorAnswer) → k < n + 1 → slice_index_or answers k told ≡ told → IsWaitingFor v told.issue → min x.issue issue ≤ told.issue
        others k told lt e waits = elim (which k told lt e) [
          | inl less ↦ let le = least.1 k told less e waits in omega (arith, le, min_le_right x.issue issue)
          | inr same ↦ subst (λ (t : OperatorAnswer). min x.issue issue ≤ t.issue) same (min_le x.issue issue)
        ]

-- ---- as the session finds them

-- whether an issue is there and waits
pub waits_of : (v : EngineView) (seen : Shown) (issue : ℕ) (answer : Bool) → seen ≡ v.history.seen → answer ≡ option_map_or (λ (one : Issue). is_waiting one.phase) (slice_get seen.lists.issues issue) false → answer ≡ true
    → IsWaitingFor v issue
waits_of v seen issue answer same is does =
    by (slice_get v.history.seen.lists.issues issue) refl
    (sym (ap (λ (s : Shown). option_map_or (λ (one : Issue). is_waiting one.phase) (slice_get s.lists.issues issue) false) same) ∙ (sym is ∙ does))
  where
    by : (o : Option Issue) → slice_get v.history.seen.lists.issues issue ≡ o → option_map_or (λ (one : Issue). is_waiting one.phase) (slice_get v.history.seen.lists.issues issue) false ≡ true → IsWaitingFor v issue
    by None e waits = absurd (false≢true (sym (ap (λ (o : Option Issue). option_map_or (λ (one : Issue). is_waiting one.phase) o false) e) ∙ waits))
    by (Some it) e waits = record { it = it; there = e; waits = sym (ap (λ (o : Option Issue). option_map_or (λ (one : Issue). is_waiting one.phase) o false) e) ∙ waits }

pub never_waits : (v : EngineView) (seen : Shown) (issue : ℕ) (answer : Bool) → seen ≡ v.history.seen → answer ≡ option_map_or (λ (one : Issue). is_waiting one.phase) (slice_get seen.lists.issues issue) false → answer ≡ false
    → IsWaitingFor v issue → ⊥
never_waits v seen issue answer same is not waiting =
    let found : option_map_or (λ (one : Issue). is_waiting one.phase) (slice_get v.history.seen.lists.issues issue) false ≡ is_waiting waiting.it.phase =
    ap (λ (o : Option Issue). option_map_or (λ (one : Issue). is_waiting one.phase) o false) waiting.there in
    let held : answer ≡ option_map_or (λ (one : Issue). is_waiting one.phase) (slice_get v.history.seen.lists.issues issue) false =
    is ∙ ap (λ (s : Shown). option_map_or (λ (one : Issue). is_waiting one.phase) (slice_get s.lists.issues issue) false) same in
    false≢true (sym not ∙ (held ∙ (found ∙ waiting.waits)))

module _ (v : EngineView) (items answers : List OperatorAnswer) (same : items ≡ answers) (n : ℕ) (x : OperatorAnswer) (in_ : n < length items) (there : x ≡ slice_index_or items n x) where
  in_answers : n < length answers
  in_answers = subst (λ (l : List OperatorAnswer). n < length l) same in_

  there_too : slice_index_or answers n x ≡ x
  there_too = subst (λ (l : List OperatorAnswer). slice_index_or l n x ≡ x) same (sym there)

  pub least_with : (old new : Option ℕ) (lesser : ℕ) → IsWaitingFor v x.issue → lesser ≡ option_map_or (min x.issue) old x.issue → new ≡ Some lesser → IsLeastOf v answers n old → IsLeastOf v answers (n + 1) new
  least_with old new lesser waiting is e least = subst (λ (o : Option ℕ). IsLeastOf v answers (n + 1) o) (sym (e ∙ ap (λ (m : ℕ). Some m) is)) (this_too v answers n x in_answers there_too old waiting least)

  pub least_without : (old new : Option ℕ) → (IsWaitingFor v x.issue → ⊥) → new ≡ old → IsLeastOf v answers n old → IsLeastOf v answers (n + 1) new
  least_without old new not e least = subst (λ (o : Option ℕ). IsLeastOf v answers (n + 1) o) (sym e) (not_this v answers n x in_answers there_too old not least)

-- the first answer for the least issue is of that issue
pub waits_itself : (v : EngineView) (answers : List OperatorAnswer) (issue : ℕ) (told : OperatorAnswer) → IsLeastTold v answers (Some issue) → answer_for answers issue ≡ Some told → IsWaitingFor v told.issue
waits_itself v answers issue told least first = subst (λ (n : ℕ). IsWaitingFor v n) (sym (found_is answers issue told first).of_issue) least.0.waiting

pub to_be_told_itself : (answers : List OperatorAnswer) (so : SiteView) (v : EngineView) (idle : WhereLooked IsIdle answers so v) (issue : ℕ) (told : OperatorAnswer) → IsLeastTold v answers (Some issue)
    → answer_for answers issue ≡ Some told → WhereLooked (λ w. IsToBeTold w told.issue told) answers so v
to_be_told_itself answers so v idle issue told least first =
    subst (λ (n : ℕ). WhereLooked (λ w. IsToBeTold w n told) answers so v) (sym (found_is answers issue told first).of_issue) (to_be_told_of answers so v idle issue told least first)
