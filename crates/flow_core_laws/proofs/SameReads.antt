-- What is read is the same where each name that is read is seen the same.
use Rattle.std.proofs.Common.{◌≡◌, ℕ, Bool, false, cond, List, [], ◌∷◌, ◌++◌, map, Contains, Option, Some, None, refl, ap, ◌∙◌}
use Rattle.std.specs.Prelude.{option_to_list}
use Rattle.std.specs.List.{flat_map}
use Rattle.std.specs.Option.{option_map_or}
use Rattle.cacao_vars.specs.declared.declarations.Var.{Var}
use Rattle.cacao_vars.specs.References.{name_run}
use Rattle.cacao_vars.specs.Scopes.{home, home_declaration}
use Rattle.cacao_cond.specs.Trees.{AnyTree}
use Rattle.cacao_cond.specs.Names.{named}
use Rattle.cacao_cond.specs.Truth.{holds}
use Rattle.cacao_cond.specs.Worths.{Worth, unset}
use Rattle.cacao_cond.specs.Worths.{value_of as worth_by}
use Rattle.cacao_book.specs.declared.step_kinds.StepKind.{StepKind}
use Rattle.cacao_book.specs.declared.step_kinds.StepKind.TheVariants as does
use Rattle.flow_core_rules.specs.State.{Lists, value_shown}
use Rattle.flow_core_rules.specs.Values.{worth_at}
use Rattle.flow_core_rules.specs.Conditions.{condition_of, is_true, chosen_case, heads}
use Rattle.flow_core_rules.specs.Edits.{Edit}
use Rattle.flow_core_rules.specs.Edits.Edit.{writes}
use Rattle.flow_core_rules.specs.Changes.{valued, written}
use Rattle.flow_core_laws.specs.Reads.{compared_names, entered_names}
use Rattle.flow_core_laws.proofs.Homes.{in_front, behind}

-- from a scope of the one a name has the declaration and the text that it has from a scope of the other
abbrev pub SeenSame : Lists → ℕ → Lists → ℕ → List ℕ → Type 0
SeenSame a k b j name = (home_declaration b.scopes j name ≡ home_declaration a.scopes k name) × (value_shown b j name ≡ value_shown a k name)

module _ (a b : Lists) (k j : ℕ) where
  abbrev AllSeen : List (List ℕ) → Type 0
  AllSeen names = (name : List ℕ) → Contains names name → SeenSame a k b j name

  pub valued_same : (names : List (List ℕ)) → AllSeen names → valued b j names ≡ valued a k names
  valued_same [] same = refl
  valued_same (name ∷ names) same =
      ap {B = List (List ℕ × Option (List ℕ))} (λ (o : Option (List ℕ)). (name, o) ∷ valued b j names) (same name (in_front name names)).1
      ∙ ap (λ (rest : List (List ℕ × Option (List ℕ))). (name, value_shown a k name) ∷ rest) (valued_same names (λ other c. same other (behind name names other c)))

  worth_same : (name : List ℕ) → SeenSame a k b j name → worth_at b j name ≡ worth_at a k name
  worth_same name same =
      ap (λ (o : Option (List ℕ)). option_map_or (λ (var : Var). worth_by var.kind o) (home_declaration b.scopes j name) unset) same.1
      ∙ ap (λ (o : Option Var). option_map_or (λ (var : Var). worth_by var.kind (value_shown a k name)) o unset) same.0

  worths_same : (names : List (List ℕ)) → AllSeen names → map {B = List ℕ × Worth} (λ name. (name, worth_at b j name)) names ≡ map {B = List ℕ × Worth} (λ name. (name, worth_at a k name)) names
  worths_same [] same = refl
  worths_same (name ∷ names) same =
      ap {B = List (List ℕ × Worth)} (λ (w : Worth). (name, w) ∷ map (λ other. (other, worth_at b j other)) names) (worth_same name (same name (in_front name names)))
      ∙ ap (λ (rest : List (List ℕ × Worth)). (name, worth_at a k name) ∷ rest) (worths_same names (λ other c. same other (behind name names other c)))

  pub true_same : (text : List ℕ) → AllSeen (compared_names text) → is_true b j text ≡ is_true a k text
  true_same text same = by (condition_of text) same
    where
      by : (o : Option AnyTree) → AllSeen (option_map_or named o [])
          → option_map_or (λ tree. holds tree (map (λ name. (name, worth_at b j name)) (named tree))) o false
          ≡ option_map_or (λ tree. holds tree (map (λ name. (name, worth_at a k name)) (named tree))) o false
      by None same = refl
      by (Some tree) same = ap (holds tree) (worths_same (named tree) same)

  pub heads_same : (kind : StepKind) → AllSeen (entered_names kind) → heads b j kind ≡ heads a k kind
  heads_same (does.Parallel next) same = refl
  heads_same (does.If condition on_true on_false) same = ap (λ (t : Bool). cond t (on_true ∷ []) (option_to_list on_false)) (true_same condition same)
  heads_same (does.While condition on_true) same = ap (λ (t : Bool). cond t (on_true ∷ []) []) (true_same condition same)
  heads_same (does.Switch subject cases) same = ap (λ (o : Option (List ℕ)). option_to_list (chosen_case cases o)) (same (name_run subject) (in_front (name_run subject) [])).1
  heads_same does.Start same = refl
  heads_same does.End same = refl
  heads_same (does.Action commands agent targets in_args out_args) same = refl
  heads_same (does.PlaybookAction playbook version in_args out_args) same = refl

-- texts are written where they were, where each name has the home that it had
pub written_same : (a b : Lists) (scope : ℕ) (ps : List (List ℕ × Option (List ℕ))) → ((name : List ℕ) → home b.scopes scope name ≡ home a.scopes scope name) → flat_map (written b scope) ps ≡ flat_map (written a scope) ps
written_same a b scope [] same = refl
written_same a b scope (p ∷ ps) same =
    ap (λ (es : List Edit). es ++ flat_map (written b scope) ps) (one p) ∙ ap (λ (es : List Edit). written a scope p ++ es) (written_same a b scope ps same)
  where
    one : (p : List ℕ × Option (List ℕ)) → written b scope p ≡ written a scope p
    one (name, None) = refl
    one (name, Some text) = ap (λ (o : Option ℕ). option_map_or (λ at. writes at name text ∷ []) o []) (same name)
