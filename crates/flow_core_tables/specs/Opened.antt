-- Scaffold: Scopes and their texts as they are kept: of one that declares nothing only the scope around it.
use Rattle.std.specs.Prelude.{◌≡◌, ℕ, suc, ◌+◌, ◌≤◌, List, [], ◌∷◌, Some, ⊤, vec_len, vec_capacity}
use Rattle.cacao_vars.specs.declared.scoping.Scope.{Scope}
use Rattle.flow_core_rules.specs.State.{Texts}
use Rattle.flow_core_tables.specs.declared.opened.Opened.TheInside.{Inside}
use Rattle.flow_core_tables.specs.declared.opened.Place.{Place}
use Rattle.flow_core_tables.specs.declared.opened.Place.TheVariants as place
use Rattle.flow_core_tables.specs.OpenedView.{OpenedView}

-- what all scopes have, where this is what those have that are kept, and a blank one has what its parent gives
abbrev pub shown : {A : Type 0} → (ℕ → A) → List Place → List A → List A
shown blank [] kept = []
shown blank (place.Inside around ∷ places) kept = blank around ∷ shown blank places kept
shown blank (place.Keeps number ∷ places) [] = []
shown blank (place.Keeps number ∷ places) (x ∷ kept) = x ∷ shown blank places kept

-- those that are kept are numbered from n on, in the order of the scopes
abbrev pub AreKept : {A : Type 0} → ℕ → List Place → List A → Type 0
AreKept n [] [] = ⊤
AreKept n [] (x ∷ kept) = ⊥
AreKept n (place.Inside around ∷ places) kept = AreKept n places kept
AreKept n (place.Keeps number ∷ places) [] = ⊥
AreKept n (place.Keeps number ∷ places) (x ∷ kept) = (number ≡ n) × AreKept (suc n) places kept

-- a scope that declares nothing, inside this one
abbrev pub blank_scope : ℕ → Scope
blank_scope around = record { parent = Some around; vars = [] }

abbrev pub blank_texts : ℕ → Texts
blank_texts around = []

abbrev pub opened_view : Inside → OpenedView
opened_view o = record {
  scopes = shown blank_scope o.places.items o.scopes.items;
  texts = shown blank_texts o.places.items o.texts.items;
  room = o.room;
}

pub record IsOpened (o : Inside) : Type 0 where
  pub scopes : AreKept 0 o.places.items o.scopes.items
  pub texts : AreKept 0 o.places.items o.texts.items
  pub none : o.none ≡ []
  pub small : o.room ≤ 4294967295
  pub within : vec_len o.places ≤ o.room
  pub places_room : o.room ≤ vec_capacity o.places
  pub scopes_room : vec_len o.scopes + o.room ≤ vec_capacity o.scopes + vec_len o.places
  pub texts_room : vec_len o.texts + o.room ≤ vec_capacity o.texts + vec_len o.places
