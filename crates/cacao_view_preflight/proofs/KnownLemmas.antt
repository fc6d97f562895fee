-- A command in which the texts of constants stand is filled as the command itself, and is a tree as that is.
use Rattle.std.proofs.Common.{◌≡◌, ◌∙◌, refl, sym, ap, ap₂, arith, ℕ, ℤ, suc, max, Bool, true, false, ◌&&◌, ◌==◌, List, [], ◌∷◌, ◌++◌, append-nil, length, drop, Option, Some, None}
use Rattle.std.specs.Prelude.{not, option_and_then, option_map, flat_map, unwrap_or, if◌then◌else◌}
use Rattle.std.specs.Option.{option_map_or}
use Rattle.std.specs.Str.{IsUtf8}
use Rattle.std.proofs.lemmas.Bool.{and_parts, eqb-true}
use Rattle.serde_json.specs.Data.{Data, null, boolean, number, string, array, object, Items, no_items, item, Members, no_members, member, depth, items_depth, members_depth}
use Rattle.serde_json.specs.Find.{of_integer}
use Rattle.cacao_json.specs.Profile.{AreFormed, AreFormedMembers, IsBelow, IsFormed, IsTree}
use Rattle.cacao_vars.specs.References.{Found, ReferencesGoOn, begins_with_reference, behind, behind_run, first_reference, name_run, references, references_from}
use Rattle.cacao_vars.specs.declared.declarations.Var.{Var}
use Rattle.flow_core_rules.specs.State.{Lists, value_shown}
use Rattle.flow_core_rules.specs.Values.{has_numbers, number_of, text_at, whole_number}
use Rattle.flow_core_rules.specs.Filled.{filled, filled_items, filled_members, filled_string, replaced, whole_reference}
use Rattle.cacao_view_preflight.specs.Constants.{constant_items, constant_members, is_plain, known_text, only_name, whole_name, with_constants}
use Rattle.cacao_view_preflight.specs.Laws.{HasConstants}
use Rattle.cacao_view_preflight.specs.Names.{Text}
use Rattle.cacao_view_preflight.specs.Settled.{has_reference}
use Rattle.cacao_view_preflight.proofs.FillLemmas.{plain}

-- ---- a text that is one reference

none-some : {A : Type 0} (x : A) → None ≡ Some x → ⊥
none-some x e = cc

inner : (a b : Found) → Some a ≡ Some b → a ≡ b
inner a b e = cc

inner_text : (a b : Text) → Some a ≡ Some b → a ≡ b
inner_text a b e = cc

empty : (xs : Text) → (length xs == 0) ≡ true → xs ≡ []
empty [] e = refl
empty (x ∷ xs) e = absurd (let none : length (x ∷ xs) ≡ 0 = eqb-true (length (x ∷ xs)) 0 e in omega (arith, none))

-- what is found where nothing stands around it
pub record IsAlone (text name : Text) : Type 0 where
  pub found : Found
  pub first : first_reference text ≡ Some found
  pub none_before : found.before ≡ []
  pub none_behind : found.rest ≡ []
  pub name_is : found.name ≡ name

alone_by : (text name : Text) (o : Option Found) → first_reference text ≡ o → option_and_then only_name o ≡ Some name → IsAlone text name
alone_by text name None e h = absurd (none-some name h)
alone_by text name (Some found) e h = by (length found.before == 0) (length found.rest == 0) refl refl h
  where
    by : (a b : Bool) → (length found.before == 0) ≡ a → (length found.rest == 0) ≡ b → (if a && b then Some found.name else None) ≡ Some name → IsAlone text name
    by true true p q h = record { found = found; first = e; none_before = empty found.before p; none_behind = empty found.rest q; name_is = inner_text found.name name h }
    by true false p q h = absurd (none-some name h)
    by false b p q h = absurd (none-some name h)

pub alone : (text name : Text) → whole_name text ≡ Some name → IsAlone text name
alone text name h = alone_by text name (first_reference text) refl h

-- its name is the run of name characters at the front
front : (text : Text) (found : Found) → first_reference text ≡ Some found → found.before ≡ [] → found.name ≡ name_run text
front [] found e none = absurd (none-some found e)
front (c ∷ cs) found e none = by (begins_with_reference (c ∷ cs)) (first_reference cs) e
  where
    by : (b : Bool) (o : Option Found) → (if b then Some (record { before = []; name = name_run (c ∷ cs); rest = drop 6 (behind_run (c ∷ cs)) }) else option_map (behind c) o) ≡ Some found → found.name ≡ name_run (c ∷ cs)
    by true o e = sym (ap (λ (f : Found). f.name) (inner (record { before = []; name = name_run (c ∷ cs); rest = drop 6 (behind_run (c ∷ cs)) }) found e))
    by false None e = absurd (none-some found e)
    by false (Some f) e = absurd (let one : c ∷ f.before ≡ [] = ap (λ (g : Found). g.before) (inner (behind c f) found e) ∙ none in cc)

no_reference : (worth : Option Text) → is_plain worth ≡ true → has_reference (unwrap_or worth []) ≡ false
no_reference None e = absurd (cc)
no_reference (Some text) e = by (has_reference text) e
  where
    by : (b : Bool) → not b ≡ true → b ≡ false
    by true e = absurd (cc)
    by false e = refl

not_true : (b : Bool) → not b ≡ true → b ≡ false
not_true true e = absurd (cc)
not_true false e = refl

-- one found, and those of what stands behind it
abbrev before_rest : Found → Text → List Found × List ℕ
before_rest found rest = (found ∷ (references rest).0, (references rest).1)

module _ (go : ReferencesGoOn) (known : Text → Option Var) (s : Lists) (scope : ℕ) (has : HasConstants known s scope) where
  -- ---- a reference to a constant

  module _ (text name : Text) (var : Var) (one : IsAlone text name) (is : known name ≡ Some var) where
    abbrev found : Found
    found = one.found

    parts : references text ≡ (found ∷ [], [])
    parts =
        go text ∙ ap (λ (o : Option Found). references_from o text) one.first
        ∙ ap (before_rest found) one.none_behind

    text_is : text_at s scope name ≡ unwrap_or var.worth []
    text_is = ap (λ (o : Option Text). unwrap_or o []) (has.valued name var is)

    replaced_is : replaced s scope text ≡ unwrap_or var.worth []
    replaced_is =
        ap (λ (p : List Found × List ℕ). flat_map (λ f. f.before ++ text_at s scope f.name) p.0 ++ p.1) parts
        ∙ append-nil ((found.before ++ text_at s scope found.name) ++ []) ∙ append-nil (found.before ++ text_at s scope found.name)
        ∙ ap (λ (b : Text). b ++ text_at s scope found.name) one.none_before ∙ ap (text_at s scope) one.name_is ∙ text_is

    numbers : has_numbers var.kind ≡ false
    numbers =
        let first = and_parts var.constant _ (has.fixed name var is) in
        let second = and_parts (not var.external) _ first.1 in
        not_true (has_numbers var.kind) (and_parts (not (has_numbers var.kind)) (is_plain var.worth) second.1).0

    text_plain : has_reference (unwrap_or var.worth []) ≡ false
    text_plain =
        let first = and_parts var.constant _ (has.fixed name var is) in
        let second = and_parts (not var.external) _ first.1 in
        no_reference var.worth (and_parts (not (has_numbers var.kind)) (is_plain var.worth) second.1).1

    no_number : number_of s scope name ≡ None
    no_number =
        ap (option_and_then (λ (v : Var). if has_numbers v.kind then option_and_then whole_number (value_shown s scope name) else None)) (has.declared name var is)
        ∙ ap (λ (b : Bool). if b then option_and_then whole_number (value_shown s scope name) else None) numbers

    none_whole : option_and_then (number_of s scope) (whole_reference text) ≡ None
    none_whole = by (begins_with_reference text && (length (behind_run text) == 6))
      where
        by : (b : Bool) → option_and_then (number_of s scope) (if b then Some (name_run text) else None) ≡ None
        by true = ap (number_of s scope) (sym (front text found one.first one.none_before) ∙ one.name_is) ∙ no_number
        by false = refl

    constant_filled : filled_string s scope (unwrap_or var.worth []) ≡ filled_string s scope text
    constant_filled =
        plain s scope go (unwrap_or var.worth []) text_plain
        ∙ ap string (sym replaced_is)
        ∙ sym (ap (λ (o : Option ℤ). option_map_or (λ z. number (of_integer z)) o (string (replaced s scope text))) none_whole)

  -- ---- texts and trees

  -- of a text, by the constant that stands for it
  text_by : (P : Text → Type 0) (text : Text) → P text → ((name : Text) (var : Var) → IsAlone text name → known name ≡ Some var → P (unwrap_or var.worth [])) → P (known_text known text)
  text_by P text itself other = by (whole_name text) refl
    where
      at : (name : Text) → IsAlone text name → (o : Option Var) → known name ≡ o → P (option_map_or (λ var. unwrap_or var.worth []) o text)
      at name one None e = itself
      at name one (Some var) e = other name var one e

      by : (o : Option Text) → whole_name text ≡ o → P (option_map_or (λ var. unwrap_or var.worth []) (option_and_then known o) text)
      by None e = itself
      by (Some name) e = at name (alone text name e) (known name) refl

  mutual
    pub filled_known : (d : Data) → filled s scope (with_constants known d) ≡ filled s scope d
    filled_known null = refl
    filled_known (boolean b) = refl
    filled_known (number n) = refl
    filled_known (string text) = text_by (λ t. filled_string s scope t ≡ filled_string s scope text) text refl (λ name var one is. constant_filled text name var one is)
    filled_known (array ds) = ap array (items_known ds)
    filled_known (object ms) = ap object (members_known ms)

    items_known : (ds : Items) → filled_items s scope (constant_items known ds) ≡ filled_items s scope ds
    items_known no_items = refl
    items_known (item d ds) = ap₂ item (filled_known d) (items_known ds)

    members_known : (ms : Members) → filled_members s scope (constant_members known ms) ≡ filled_members s scope ms
    members_known no_members = refl
    members_known (member k d ms) = ap₂ (member k) (filled_known d) (members_known ms)

  mutual
    depth_known : (d : Data) → depth (with_constants known d) ≡ depth d
    depth_known null = refl
    depth_known (boolean b) = refl
    depth_known (number n) = refl
    depth_known (string text) = refl
    depth_known (array ds) = ap suc (items_deep ds)
    depth_known (object ms) = ap suc (members_deep ms)

    items_deep : (ds : Items) → items_depth (constant_items known ds) ≡ items_depth ds
    items_deep no_items = refl
    items_deep (item d ds) = ap₂ max (depth_known d) (items_deep ds)

    members_deep : (ms : Members) → members_depth (constant_members known ms) ≡ members_depth ms
    members_deep no_members = refl
    members_deep (member k d ms) = ap₂ max (depth_known d) (members_deep ms)

  below_known : (k : List ℕ) (ms : Members) → IsBelow k ms → IsBelow k (constant_members known ms)
  below_known k no_members h = tt
  below_known k (member l d ms) h = h

  mutual
    formed_known : (d : Data) → IsFormed d → IsFormed (with_constants known d)
    formed_known null h = tt
    formed_known (boolean b) h = tt
    formed_known (number n) h = h
    formed_known (string text) h = text_by IsUtf8 text h (λ name var one is. has.texts name var is)
    formed_known (array ds) h = items_formed ds h
    formed_known (object ms) h = members_formed ms h

    items_formed : (ds : Items) → AreFormed ds → AreFormed (constant_items known ds)
    items_formed no_items h = tt
    items_formed (item d ds) h = (formed_known d h.0, items_formed ds h.1)

    members_formed : (ms : Members) → AreFormedMembers ms → AreFormedMembers (constant_members known ms)
    members_formed no_members h = tt
    members_formed (member k d ms) h = (h.0, formed_known d h.1, below_known k ms h.2, members_formed ms h.3)

  pub tree_known : (d : Data) → IsTree d → IsTree (with_constants known d)
  tree_known d t = record { shallow = omega (arith, depth_known d, t.shallow); formed = formed_known d t.formed }
