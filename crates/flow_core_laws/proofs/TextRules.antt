-- The edits of each rule write texts that fit, and none to a constant but where a scope was opened just now.
use Rattle.std.proofs.Common.{◌≡◌, ℕ, suc, ◌+◌, ◌<◌, ◌≤◌, ◌==◌, Bool, true, false, cond, IsTrue, List, [], ◌∷◌, ◌++◌, length, map, Contains, Option, Some, None, is_some, arith, refl, ap, sym, subst, ◌∙◌, append_assoc, length-append, inl, inr}
use Rattle.std.specs.Prelude.{IfSome, IsSomeAnd, option_and_then, option_map, slice_get, not, nat_le}
use Rattle.std.specs.Fmt.{decimal}
use Rattle.std.specs.List.{AllByRecursion, flat_map, list_any, list_all}
use Rattle.std.specs.Option.{option_map_or}
use Rattle.cacao_vars.specs.declared.declarations.Var.{Var}
use Rattle.cacao_vars.specs.declared.scoping.Scope.{Scope}
use Rattle.cacao_vars.specs.Declarations.{declared}
use Rattle.cacao_vars.specs.Scopes.{HasParentsBefore, home, home_declaration}
use Rattle.cacao_book.specs.declared.books.Book.{Book}
use Rattle.cacao_book.specs.declared.steps.Step.{Step}
use Rattle.cacao_book.specs.declared.step_kinds.StepKind.{StepKind}
use Rattle.cacao_book.specs.declared.step_kinds.StepKind.TheVariants as does
use Rattle.cacao_check.specs.declared.rules.SenseRule.TheVariants as rule
use Rattle.cacao_check.specs.Fits.{FitsKind}
use Rattle.cacao_check.specs.Laws.{ResultsFit}
use Rattle.cacao_check.specs.Rules.{K20, K23, K24, IsDeclaredAlike}
use Rattle.cacao_check_steps.specs.Calls.{book_with as place_with}
use Rattle.cacao_check_steps.specs.Links.{declares}
use Rattle.cacao_check_steps.specs.Uses.{call_of, in_args_of, out_args_of, is_action}
use Rattle.cacao_check_regions.specs.Flaws.{may_take}
use Rattle.cacao_check_regions.specs.Regions.{Sees, Outside, IsPlaced, nearer}
use Rattle.cacao_check_regions.specs.Regions.Outside.{region, main}
use Rattle.flow_core_rules.specs.declared.tasks.Task.{Task}
use Rattle.flow_core_rules.specs.declared.phases.Phase.{Phase}
use Rattle.flow_core_rules.specs.declared.phases.Phase.TheVariants as phase
use Rattle.flow_core_rules.specs.Givens.{book_at, book_with}
use Rattle.flow_core_rules.specs.Accepted.{Accepted}
use Rattle.flow_core_rules.specs.State.{State, Lists, value, value_shown, shown}
use Rattle.flow_core_rules.specs.Edits.{Edit, edited}
use Rattle.flow_core_rules.specs.Edits.Edit.{opens, writes, makes, moves}
use Rattle.flow_core_rules.specs.Conditions.{heads, is_true}
use Rattle.flow_core_rules.specs.Places.{places}
use Rattle.flow_core_rules.specs.Tasks.{Here, go, finish, child, next_key, exception_of, in_phase}
use Rattle.flow_core_rules.specs.Changes as changes
use Rattle.flow_core_rules.specs.Changes.{Waiting, has_ended}
use Rattle.flow_core_rules.specs.Laws.{HasPlacedWrites}
use Rattle.flow_core_rules.proofs.ShownLemmas.{edit_shown, values_shown}
use Rattle.flow_core_rules.proofs.PlacedLemmas.{some_if, two_ways}
use Rattle.flow_core_rules.proofs.HereLemmas.{here_of}
use Rattle.flow_core_rules.proofs.RunLemmas.{some_inner}
use Rattle.flow_core_setup.specs.Setups.{AreAccepted}
use Rattle.flow_core_laws.proofs.Somes.{none_some, clash}
use Rattle.flow_core_laws.specs.ReadInScope.{ReadsInScope}
use Rattle.flow_core_laws.proofs.AcceptedRules.{keeps_of_step, keeps_of_book, VarsFit, vars_fit, contains_at, IsCalled, called_known}
use Rattle.flow_core_laws.proofs.HomeLemmas.{declared_inside, declared_alone, declared_still}
use Rattle.flow_core_laws.proofs.ScopedEdits.{IsScopeOfBook}
use Rattle.flow_core_laws.proofs.ScopedRecords.{joins_at}
use Rattle.flow_core_laws.proofs.TextLemmas.{AreTextsFit, MayWrite, HasText, has_text, fits_seen, fit_opened, seen_at, declaration_at, parents_push}
use Rattle.flow_core_laws.proofs.TextEdits.{HasCalled, AreSound, get_end}
use Rattle.flow_core_laws.proofs.TextEdits.JoinsWell.{apart, no_call, call}

-- ---- a task that is done with its step does not join

finish_apart : (h : Here) (well : Bool) → joins_at (finish h well).phase ≡ None
finish_apart h well = by (next_key h.step well) well (exception_of h.seen h.task)
  where
    by : (o : Option (List ℕ)) (b : Bool) (x : Option (List ℕ))
        → joins_at (option_map_or (go h.seen.given h.now h.task) o (cond b (in_phase h.task (phase.Ended true)) (option_map_or (λ key. record (go h.seen.given h.now h.task key) { excepted = true }) x (in_phase h.task (phase.Ended false))))).phase ≡ None
    by (Some key) b x = refl
    by None true x = refl
    by None false None = refl
    by None false (Some key) = refl

after_apart : (w : Waiting) (status : ℕ) → joins_at (changes.after_answer w status).phase ≡ None
after_apart w status = by (not (status == 200)) (is_some (slice_get (places w.here.step.kind) (suc w.place)))
  where
    by : (a b : Bool) → joins_at (cond a (finish w.here false) (cond b (in_phase w.here.task (phase.Sending (suc w.place))) (finish w.here true))).phase ≡ None
    by true b = finish_apart w.here false
    by false true = refl
    by false false = finish_apart w.here true

pub sound_done : (h g : Here) (old : ℕ) (ss : List Scope) (n : ℕ) (well : Bool) → g.number ≡ h.number → AreSound h old ss n (changes.done g well)
sound_done h g old ss n well same = (same, apart (finish_apart g well), tt)

sound_made : (h : Here) (old : ℕ) (ss : List Scope) (n : ℕ) (f : List ℕ → Task) (keys : List (List ℕ)) → AreSound h old ss n (map (λ key. makes (f key)) keys)
sound_made h old ss n f [] = tt
sound_made h old ss n f (key ∷ keys) = sound_made h old ss (suc n) f keys

sound_branched : (h : Here) (old : ℕ) (ss : List Scope) (n scope : ℕ) (keys : List (List ℕ)) → call_of h.step.kind ≡ None → AreSound h old ss n (changes.branched (changes.inside h) scope keys)
sound_branched h old ss n scope [] calls = sound_done h (changes.inside h) old ss n true refl
sound_branched h old ss n scope (key ∷ keys) calls = (refl, no_call refl refl calls, sound_made h old ss n (child (changes.inside h) (changes.inside h).task.book scope) (key ∷ keys))

sound_choice : (h : Here) (old : ℕ) (ss : List Scope) (n : ℕ) (test : Bool) (xs ys : List Edit) → AreSound h old ss n xs → AreSound h old ss n ys → AreSound h old ss n (cond test xs ys)
sound_choice h old ss n true xs ys x y = x
sound_choice h old ss n false xs ys x y = y

-- ---- texts that are written, or bound

-- a text, if there is one, may stand in the name's home
abbrev pub MayTake : State → ℕ → List ℕ × Option (List ℕ) → Type 0
MayTake s scope p = (text : List ℕ) → p.1 ≡ Some text → (var : Var) → home_declaration s.scopes scope p.0 ≡ Some var → FitsKind var.kind text × (var.constant ≡ false)

pub sound_written : (s : State) (h : Here) (old n scope : ℕ) (ps : List (List ℕ × Option (List ℕ))) (es : List Edit) → AllByRecursion (MayTake s scope) ps → AreSound h old s.scopes n es
    → AreSound h old s.scopes n (flat_map (changes.written (shown s).lists scope) ps ++ es)
sound_written s h old n scope [] es all a = a
sound_written s h old n scope (p ∷ ps) es all a =
    subst (AreSound h old s.scopes n) (sym (append_assoc (changes.written (shown s).lists scope p) (flat_map (changes.written (shown s).lists scope) ps) es))
    (one p (flat_map (changes.written (shown s).lists scope) ps ++ es) all.0 (sound_written s h old n scope ps es all.1 a))
  where
    one : (p : List ℕ × Option (List ℕ)) (es : List Edit) → MayTake s scope p → AreSound h old s.scopes n es → AreSound h old s.scopes n (changes.written (shown s).lists scope p ++ es)
    one (name, None) es may a = a
    one (name, Some text) es may a = by (home s.scopes scope name) refl
      where
        by : (o : Option ℕ) → home s.scopes scope name ≡ o → AreSound h old s.scopes n (option_map_or (λ at. writes at name text ∷ []) o [] ++ es)
        by None e = a
        by (Some at) e = ((λ var is. let m = may text refl var (seen_at s.scopes scope at name e ∙ is) in (m.0, λ constant. absurd (clash var.constant constant m.1))), a)

abbrev MayBind : ℕ → List Scope → ℕ → List ℕ × Option (List ℕ) → Type 0
MayBind old ss scope p = (text : List ℕ) → p.1 ≡ Some text → MayWrite old ss scope p.0 text

sound_bound : (h : Here) (old n : ℕ) (ss : List Scope) (scope : ℕ) (ps : List (List ℕ × Option (List ℕ))) (es : List Edit) → AllByRecursion (MayBind old ss scope) ps → AreSound h old ss n es
    → AreSound h old ss n (flat_map (changes.binding scope) ps ++ es)
sound_bound h old n ss scope [] es all a = a
sound_bound h old n ss scope (p ∷ ps) es all a =
    subst (AreSound h old ss n) (sym (append_assoc (changes.binding scope p) (flat_map (changes.binding scope) ps) es))
    (one p (flat_map (changes.binding scope) ps ++ es) all.0 (sound_bound h old n ss scope ps es all.1 a))
  where
    one : (p : List ℕ × Option (List ℕ)) (es : List Edit) → MayBind old ss scope p → AreSound h old ss n es → AreSound h old ss n (changes.binding scope p ++ es)
    one (name, None) es may a = a
    one (name, Some text) es may a = (may text refl, a)

-- each of the names with its value
each_valued : (P : List ℕ × Option (List ℕ) → Type 0) (l : Lists) (scope : ℕ) (names : List (List ℕ)) → ((k : ℕ) (name : List ℕ) → slice_get names k ≡ Some name → P (name, value_shown l scope name))
    → AllByRecursion P (changes.valued l scope names)
each_valued P l scope [] h = tt
each_valued P l scope (name ∷ names) h = (h 0 name refl, each_valued P l scope names (λ k. h (suc k)))

-- ---- results of an action

-- the name of a result at this place takes it, and is no constant
abbrev TakesResult : State → ℕ → ℕ → List ℕ → Type 0
TakesResult s scope k name = (var : Var) → home_declaration s.scopes scope name ≡ Some var → (var.constant ≡ false) × IsTrue (may_take k var.kind)

module _ (fits : ResultsFit) (s : State) (scope status rule : ℕ) (text : List ℕ) (small : status ≤ 9007199254740991) (short : rule ≤ 9007199254740991) where
  first_taken : (name : List ℕ) → TakesResult s scope 0 name → MayTake s scope (name, Some (decimal status))
  first_taken name takes found e var seen =
      let t = takes var seen in
      (subst (FitsKind var.kind) (some_inner (decimal status) found e) (fits.number 0 status var.kind t.1 small (omega arith)), t.0)

  second_taken : (name : List ℕ) → TakesResult s scope 1 name → MayTake s scope (name, cond (rule == 0) None (Some (decimal rule)))
  second_taken name takes found e var seen = by (rule == 0) e
    where
      by : (b : Bool) → cond b None (Some (decimal rule)) ≡ Some found → FitsKind var.kind found × (var.constant ≡ false)
      by true h = absurd (none_some found h)
      by false h =
          let t = takes var seen in
          (subst (FitsKind var.kind) (some_inner (decimal rule) found h) (fits.number 1 rule var.kind t.1 short (omega arith)), t.0)

  third_taken : (name : List ℕ) → TakesResult s scope 2 name → MayTake s scope (name, Some text)
  third_taken name takes found e var seen =
      let t = takes var seen in
      (subst (FitsKind var.kind) (some_inner text found e) (fits.text var.kind text t.1), t.0)

  results_taken : (names : List (List ℕ)) → ((k : ℕ) (name : List ℕ) → slice_get names k ≡ Some name → TakesResult s scope k name)
      → AllByRecursion (MayTake s scope) (changes.paired names (changes.results status rule text))
  results_taken [] h = tt
  results_taken (a ∷ []) h = (first_taken a (h 0 a refl), tt)
  results_taken (a ∷ b ∷ []) h = (first_taken a (h 0 a refl), (second_taken b (h 1 b refl), tt))
  results_taken (a ∷ b ∷ c ∷ []) h = (first_taken a (h 0 a refl), (second_taken b (h 1 b refl), (third_taken c (h 2 c refl), tt)))
  results_taken (a ∷ b ∷ c ∷ d ∷ names) h = (first_taken a (h 0 a refl), (second_taken b (h 1 b refl), (third_taken c (h 2 c refl), tt)))

-- ---- where a task stands

outside_placed : (book : Book) (name : List ℕ) (place : ℕ) (seen : Option Var) → Outside book name place seen → IsPlaced book place
outside_placed book name place seen (region {control = c} inside sees) = inr (c, inside)
outside_placed book name place seen (main inside) = inl inside

alike_at : (o : Option Var) (P : Var → Type 0) (var : Var) → o ≡ Some var → IsSomeAnd o P → P var
alike_at (Some x) P var e h = subst P (some_inner x var e) h
alike_at None P var e h = absurd h

module _ (s : State) (accepted : Accepted AreAccepted FitsKind s.given.texts s.given.bind s.given) (placed : HasPlacedWrites s) (before : HasParentsBefore s.scopes) (fit : AreTextsFit s.scopes s.writes)
    (now t : ℕ) (task : Task) (step : Step) (book : Book) (book_is : book_at s.given task.book ≡ Some book) (there : slice_get book.steps task.step ≡ Some step) (reads : ReadsInScope s book task) (within : task.scope < length s.scopes) where
  abbrev here : Here
  here = here_of (shown s) now t task step

  own_fit : VarsFit step.variables
  own_fit = let k : K20 step.variables = keeps_of_step s.given accepted task.book task.step book step rule.K20 book_is there in vars_fit step.variables k

  -- what the step sees is what its scope has
  sees_from : (scope : ℕ) (name : List ℕ) (var : Var) → task.step_scope ≡ Some scope → home_declaration s.scopes scope name ≡ Some var → Sees book name task.step (Some var)
  sees_from scope name var at seen = subst (Sees book name task.step) (sym (reads.in_step scope name at) ∙ seen) (reads.sees name)

  results_at : (scope k : ℕ) (name : List ℕ) → task.step_scope ≡ Some scope → slice_get (out_args_of step.kind) k ≡ Some name → (var : Var) → home_declaration s.scopes scope name ≡ Some var
      → (var.constant ≡ false) × (IsTrue (is_action step.kind) → IsTrue (may_take k var.kind))
  results_at scope k name at is var seen =
      let kept : K23 book task.step step = keeps_of_step s.given accepted task.book task.step book step rule.K23 book_is there in
      kept k name var is (sees_from scope name var at seen)

  -- the results of an action
  answers_taken : ResultsFit → (scope status rule : ℕ) (text : List ℕ) → task.step_scope ≡ Some scope → status ≤ 9007199254740991 → rule ≤ 9007199254740991
      → AllByRecursion (MayTake s scope) (changes.paired (changes.out_args_of step.kind) (changes.results status rule text))
  answers_taken fits scope status rule text at small short = by step.kind refl
    where
      by : (kind : StepKind) → step.kind ≡ kind → AllByRecursion (MayTake s scope) (changes.paired (changes.out_args_of kind) (changes.results status rule text))
      by (does.Action a b c d names) same =
          results_taken fits s scope status rule text small short names (λ k name is var seen.
          let r = results_at scope k name at (ap (λ (x : StepKind). slice_get (out_args_of x) k) same ∙ is) var seen in
          (r.0, r.1 (ap is_action same)))
      by does.Start same = tt
      by does.End same = tt
      by (does.PlaybookAction a b c d) same = tt
      by (does.Parallel a) same = tt
      by (does.If a b c) same = tt
      by (does.While a b) same = tt
      by (does.Switch a b) same = tt

  -- ---- a call

  module _ (id : List ℕ) (theirs : ℕ × Book) (calls : call_of step.kind ≡ Some id) (known : IsCalled s.given id theirs) where
    alike : (name : List ℕ) → (Contains (in_args_of step.kind) name → IsDeclaredAlike book task.step theirs.1 name true) × (Contains (out_args_of step.kind) name → IsDeclaredAlike book task.step theirs.1 name false)
    alike name =
        let kept : K24 s.given.books book task.step step = keeps_of_step s.given accepted task.book task.step book step rule.K24 book_is there in
        kept theirs.0 theirs.1 name (ap (option_and_then (place_with s.given.books)) calls ∙ known.place_is) known.book_is
        (inr (outside_placed book name task.step (home_declaration s.scopes task.scope name) (reads.outside name)))

    -- what it hands back
    handed_back : (scope from_scope k : ℕ) (name : List ℕ) → task.step_scope ≡ Some scope → IsScopeOfBook s.scopes theirs.1 from_scope → slice_get (out_args_of step.kind) k ≡ Some name
        → MayTake s scope (name, value_shown (shown s).lists from_scope name)
    handed_back scope from_scope k name at theirs_is is text e var seen =
        let worth : value s from_scope name ≡ Some text = values_shown s from_scope name ∙ e in
        let found : HasText s from_scope name text = has_text s from_scope name text worth in
        let own : declared (theirs.1).variables name ≡ Some found.var = sym (declared_alone s.scopes from_scope (theirs.1).variables name theirs_is) ∙ found.seen_is in
        let a = alike_at (declared (theirs.1).variables name) (λ (v : Var). (IsTrue false → IsTrue v.external) × ((ours : Var) → Sees book name task.step (Some ours) → ours.kind ≡ v.kind)) found.var own
        ((alike name).1 (contains_at (out_args_of step.kind) k name is)) in
        let fits : FitsKind (found.var).kind text = fits_seen s from_scope name text found.var fit worth found.seen_is in
        (subst (λ kind. FitsKind kind text) (sym (a.1 var (sees_from scope name var at seen))) fits, (results_at scope k name at is var seen).0)

    -- the scopes that it opens
    abbrev own_scope : Scope
    own_scope = record { parent = Some task.scope; vars = step.variables }

    abbrev their_scope : Scope
    their_scope = record { parent = None; vars = (theirs.1).variables }

    abbrev opened : List Scope
    opened = (s.scopes ++ own_scope ∷ []) ++ their_scope ∷ []

    theirs_at : slice_get opened (suc (length s.scopes)) ≡ Some their_scope
    theirs_at =
        let grown : length (s.scopes ++ own_scope ∷ []) ≡ suc (length s.scopes) = omega (arith, length-append s.scopes (own_scope ∷ [])) in
        subst (λ k. slice_get opened k ≡ Some their_scope) grown (get_end (s.scopes ++ own_scope ∷ []) their_scope)

    -- what is handed to it
    handed_in : (k : ℕ) (name : List ℕ) → slice_get (in_args_of step.kind) k ≡ Some name
        → MayBind (length s.scopes) opened (suc (length s.scopes)) (name, value_shown (changes.inside here).seen.lists (length s.scopes) name)
    handed_in k name is text e var declared_is =
        let n : ℕ = length s.scopes in
        let mid : State = edited (opens (Some task.scope) step.variables) s in
        let worth : value mid n name ≡ Some text = values_shown mid n name ∙ ap (λ (l : Lists). value_shown l n name) (edit_shown s (opens (Some task.scope) step.variables) placed) ∙ e in
        let found : HasText mid n name text = has_text mid n name text worth in
        let fits : FitsKind (found.var).kind text = fits_seen mid n name text found.var (fit_opened s (Some task.scope) step.variables own_fit fit) worth found.seen_is in
        let after : HasParentsBefore (s.scopes ++ own_scope ∷ []) = parents_push s.scopes own_scope before within in
        let from_task : home_declaration mid.scopes n name ≡ nearer (declared step.variables name) (home_declaration s.scopes task.scope name) =
        declared_inside mid.scopes n task.scope step.variables name after (get_end s.scopes own_scope) within
        ∙ ap (nearer (declared step.variables name)) (declared_still s.scopes (own_scope ∷ []) before after name task.scope within) in
        let declares_is : declares book name task.step ≡ declared step.variables name = ap (option_and_then (λ (x : Step). declared x.variables name)) there in
        let sees : Sees book name task.step (Some found.var) =
        subst (Sees book name task.step) (ap (λ (o : Option Var). nearer o (home_declaration s.scopes task.scope name)) declares_is ∙ sym from_task ∙ found.seen_is) (reads.sees name) in
        let own : declared (theirs.1).variables name ≡ Some var = sym (declaration_at opened (suc n) their_scope name theirs_at) ∙ declared_is in
        let a = alike_at (declared (theirs.1).variables name) (λ (v : Var). (IsTrue true → IsTrue v.external) × ((ours : Var) → Sees book name task.step (Some ours) → ours.kind ≡ v.kind)) var own
        ((alike name).0 (contains_at (in_args_of step.kind) k name is)) in
        (subst (λ kind. FitsKind kind text) (a.1 found.var sees) fits, λ constant. (a.0 refl, omega arith))

    sound_called : book_with s.given id ≡ Some theirs → (in_args : List (List ℕ)) → in_args_of step.kind ≡ in_args
        → AreSound here (length s.scopes) s.scopes (length s.tasks) (changes.opening here ∷ changes.called (changes.inside here) (length s.scopes) in_args theirs)
    sound_called called_is in_args same =
        let n : ℕ = length s.scopes in
        let k20 : K20 (theirs.1).variables = keeps_of_book s.given accepted theirs.0 theirs.1 rule.K20 known.book_is in (
          own_fit,
          (
            vars_fit (theirs.1).variables k20,
            sound_bound here n (length s.tasks) opened (suc n) (changes.valued (changes.inside here).seen.lists n in_args)
                (moves t (changes.joining (changes.inside here)) ∷ makes (child (changes.inside here) theirs.0 (suc n) (theirs.1).start) ∷ [])
                (each_valued (MayBind n opened (suc n)) (changes.inside here).seen.lists n in_args (λ k name is. handed_in k name (ap (λ (names : List (List ℕ)). slice_get names k) same ∙ is)))
                (refl, call id theirs (child (changes.inside here) theirs.0 (suc n) (theirs.1).start) refl refl calls refl refl called_is theirs_at, tt),
          ),
        )

  -- ---- Walk of a task before its step

  sound_controlled : (kind : StepKind) → call_of step.kind ≡ None → AreSound here (length s.scopes) s.scopes (length s.tasks) (changes.controlled here kind)
  sound_controlled kind calls =
      (own_fit, sound_branched here (length s.scopes) (s.scopes ++ (record { parent = Some task.scope; vars = step.variables }) ∷ []) (length s.tasks) (length s.scopes) (heads (changes.inside here).seen.lists (length s.scopes) kind) calls)

  sound_entered : (kind : StepKind) → step.kind ≡ kind → IfSome (changes.entered here kind) (AreSound here (length s.scopes) s.scopes (length s.tasks))
  sound_entered does.Start same = sound_done here here (length s.scopes) s.scopes (length s.tasks) true refl
  sound_entered does.End same = (refl, apart refl, tt)
  sound_entered (does.Action a b c d e) same = (own_fit, (refl, apart refl, tt))
  sound_entered (does.PlaybookAction id version in_args out_args) same = by (book_with s.given id) refl (called_known s.given id)
    where
      by : (o : Option (ℕ × Book)) → book_with s.given id ≡ o → IfSome o (IsCalled s.given id)
          → IfSome (option_map (λ (theirs : ℕ × Book). changes.opening here ∷ changes.called (changes.inside here) (length s.scopes) in_args theirs) o) (AreSound here (length s.scopes) s.scopes (length s.tasks))
      by None e known = tt
      by (Some theirs) e known = sound_called id theirs (ap call_of same) known e in_args (ap in_args_of same)
  sound_entered (does.Parallel a) same = sound_controlled (does.Parallel a) (ap call_of same)
  sound_entered (does.If a b c) same = sound_controlled (does.If a b c) (ap call_of same)
  sound_entered (does.While a b) same = sound_controlled (does.While a b) (ap call_of same)
  sound_entered (does.Switch a b) same = sound_controlled (does.Switch a b) (ap call_of same)

  pub sound_at : (since : ℕ) → IfSome (changes.walked here (phase.At since)) (AreSound here (length s.scopes) s.scopes (length s.tasks))
  sound_at since = some_if (nat_le (since + step.delay) now) (changes.entered here step.kind) (AreSound here (length s.scopes) s.scopes (length s.tasks)) (sound_entered step.kind refl)

  -- ---- Walk of a task that joins

  sound_rejoined : (from scope : ℕ) → task.step_scope ≡ Some scope → ((id : List ℕ) → call_of step.kind ≡ Some id → HasCalled s.given s.scopes s.tasks id from) → (kind : StepKind) → step.kind ≡ kind
      → AreSound here (length s.scopes) s.scopes (length s.tasks) (changes.rejoined here from scope kind)
  sound_rejoined from scope at called (does.While condition on_true) same =
      sound_choice here (length s.scopes) s.scopes (length s.tasks) (is_true (shown s).lists scope condition) (makes (child here task.book scope on_true) ∷ []) (changes.done here true) tt
      (sound_done here here (length s.scopes) s.scopes (length s.tasks) true refl)
  sound_rejoined from scope at called (does.PlaybookAction id version in_args out_args) same =
      sound_written s here (length s.scopes) (length s.tasks) scope (option_map_or (λ (root : Task). changes.valued (shown s).lists root.scope out_args) (slice_get s.tasks from) []) (changes.done here true)
      (by (called id (ap call_of same)))
      (sound_done here here (length s.scopes) s.scopes (length s.tasks) true refl)
    where
      by : HasCalled s.given s.scopes s.tasks id from → AllByRecursion (MayTake s scope) (option_map_or (λ (root : Task). changes.valued (shown s).lists root.scope out_args) (slice_get s.tasks from) [])
      by c =
          let known : IsCalled s.given id c.theirs = subst (λ (o : Option (ℕ × Book)). IfSome o (IsCalled s.given id)) c.called_is (called_known s.given id) in
          subst (λ (o : Option Task). AllByRecursion (MayTake s scope) (option_map_or (λ (root : Task). changes.valued (shown s).lists root.scope out_args) o [])) (sym c.root_is)
          (each_valued (MayTake s scope) (shown s).lists (c.root).scope out_args (λ k name is.
          handed_back id c.theirs (ap call_of same) known scope (c.root).scope k name at c.scope_is (ap (λ (x : StepKind). slice_get (out_args_of x) k) same ∙ is)))
  sound_rejoined from scope at called does.Start same = sound_done here here (length s.scopes) s.scopes (length s.tasks) true refl
  sound_rejoined from scope at called does.End same = sound_done here here (length s.scopes) s.scopes (length s.tasks) true refl
  sound_rejoined from scope at called (does.Action a b c d e) same = sound_done here here (length s.scopes) s.scopes (length s.tasks) true refl
  sound_rejoined from scope at called (does.Parallel a) same = sound_done here here (length s.scopes) s.scopes (length s.tasks) true refl
  sound_rejoined from scope at called (does.If a b c) same = sound_done here here (length s.scopes) s.scopes (length s.tasks) true refl
  sound_rejoined from scope at called (does.Switch a b) same = sound_done here here (length s.scopes) s.scopes (length s.tasks) true refl

  pub sound_joined : (from scope : ℕ) → task.step_scope ≡ Some scope → ((id : List ℕ) → call_of step.kind ≡ Some id → HasCalled s.given s.scopes s.tasks id from) → (branches : List Task)
      → IfSome (changes.joined here from scope branches) (AreSound here (length s.scopes) s.scopes (length s.tasks))
  sound_joined from scope at called branches =
      let P : List Edit → Type 0 = AreSound here (length s.scopes) s.scopes (length s.tasks) in
      let stops : Option (List Edit) = Some (changes.done here false) in
      let goes : Option (List Edit) = Some (changes.rejoined here from scope step.kind) in
      let failed : Bool = list_any (λ one. changes.has_failed one.phase) branches in
      two_ways (not (list_all (λ one. has_ended one.phase) branches)) None (cond failed stops goes) P (tt {0})
      (two_ways failed stops goes P (sound_done here here (length s.scopes) s.scopes (length s.tasks) false refl) (sound_rejoined from scope at called step.kind refl))

  -- ---- an issue is made, or ends

  pub sound_moved : (p : Phase) → joins_at p ≡ None → AreSound here (length s.scopes) s.scopes (length s.tasks) (moves t (in_phase task p) ∷ [])
  sound_moved p e = (refl, apart e, tt)

  pub sound_answered : ResultsFit → (w : Waiting) (status rule : ℕ) (text : List ℕ) → w.here ≡ here → task.step_scope ≡ Some w.scope → status ≤ 9007199254740991 → rule ≤ 9007199254740991
      → AreSound here (length s.scopes) s.scopes (length s.tasks) (flat_map (changes.written (shown s).lists w.scope) (changes.paired (changes.out_args_of step.kind) (changes.results status rule text)) ++ moves t (changes.after_answer w status) ∷ [])
  sound_answered fits w status rule text same at small short =
      sound_written s here (length s.scopes) (length s.tasks) w.scope (changes.paired (changes.out_args_of step.kind) (changes.results status rule text)) (moves t (changes.after_answer w status) ∷ [])
      (answers_taken fits w.scope status rule text at small short) (refl, apart (after_apart w status), tt)
