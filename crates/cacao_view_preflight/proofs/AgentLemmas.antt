-- Agents that are told, and the set of those that were met.
use Rattle.std.proofs.Common.{◌≡◌, ◌∙◌, refl, sym, ap, ap₂, subst, ℕ, ◌+◌, ◌<◌, ◌≤◌, not, ◌&&◌, ◌||◌, List, ◌++◌, length, take, drop, get_or, append-nil}
use Rattle.std.proofs.lemmas.List.{take_all}
use Rattle.std.specs.Str.{bytes_eq}
use Rattle.cacao_view_preflight.specs.NameSets.{HasJust, holds}
use Rattle.cacao_view_preflight.specs.Warnings.{Text, agent_line, each, is_first_unbound, of_names, warn_if}
use Rattle.cacao_view_preflight.specs.declared.name_set.NameSet.{NameSet}
use Rattle.cacao_view_preflight.proofs.EachLemmas.{each_all, each_next}
use Rattle.cacao_view_preflight.proofs.SetLemmas.{just_more, names_more}

abbrev pub tells : List Text → List Text → ℕ → List Text → ℕ → Text → List Text
tells all before n names place name = warn_if (is_first_unbound all (before ++ take place names) name) (agent_line n name)

-- the names up to this place were met, and are told as they should
pub record Told (bound old now : NameSet) (n : ℕ) (names : List Text) (place : ℕ) (old_lines so_far : List Text) : Type 0 where
  pub met : (before : List Text) → HasJust old before → HasJust now (before ++ take place names)
  pub lines : (all before : List Text) → HasJust bound all → HasJust old before → so_far ++ each (tells all before n names) place (drop place names) ≡ old_lines ++ of_names all before n names

pub told-none : (bound old : NameSet) (n : ℕ) (names : List Text) (lines : List Text) → Told bound old old n names 0 lines lines
told-none bound old n names lines = record { met = λ before just. subst (HasJust old) (sym (append-nil before)) just; lines = λ all before a b. refl }

pub told-more : (bound old now new : NameSet) (n : ℕ) (names : List Text) (place : ℕ) (name : Text) (l0 l1 l2 : List Text) → place < length names → name ≡ get_or names place name
    → l2 ≡ l1 ++ warn_if (not (holds bound name) && not (holds now name)) (agent_line n name) → ((other : Text) → holds new other ≡ (bytes_eq name other || holds now other))
    → Told bound old now n names place l0 l1 → Told bound old new n names (place + 1) l0 l2
told-more bound old now new n names place name l0 l1 l2 lt at adds more told = record {
  met = λ before just. subst (HasJust new) (sym (names_more names place name before lt at)) (just_more now new name (before ++ take place names) (told.met before just) more);
  lines = λ all before bound_is old_is.
      let first : (not (holds bound name) && not (holds now name)) ≡ is_first_unbound all (before ++ take place names) name
      = ap₂ (λ a b. not a && not b) (bound_is name) (told.met before old_is name) in
      each_next (tells all before n names) names place name l1 l2 (l0 ++ of_names all before n names) lt at
      (adds ∙ ap (λ b. l1 ++ warn_if b (agent_line n name)) first) (told.lines all before bound_is old_is);
}

pub told-lines : (bound old now : NameSet) (n : ℕ) (names : List Text) (place : ℕ) (l0 l1 : List Text) → length names ≤ place → Told bound old now n names place l0 l1
    → (all before : List Text) → HasJust bound all → HasJust old before → l1 ≡ l0 ++ of_names all before n names
told-lines bound old now n names place l0 l1 over told all before a b = each_all (tells all before n names) names place l1 (l0 ++ of_names all before n names) over (told.lines all before a b)

pub told-met : (bound old now : NameSet) (n : ℕ) (names : List Text) (place : ℕ) (l0 l1 : List Text) → length names ≤ place → Told bound old now n names place l0 l1
    → (before : List Text) → HasJust old before → HasJust now (before ++ names)
told-met bound old now n names place l0 l1 over told before just = subst (HasJust now) (ap (λ l. before ++ l) (take_all place names over)) (told.met before just)
