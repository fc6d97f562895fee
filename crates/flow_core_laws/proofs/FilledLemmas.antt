-- What is filled rests on the names to which it refers.
use Rattle.std.proofs.Common.{◌≡◌, ℕ, ◌==◌, ◌&&◌, Bool, true, false, cond, List, [], ◌∷◌, ◌++◌, length, map, drop, Contains, Option, Some, None, arith, refl, ap, sym, subst, ◌∙◌}
use Rattle.std.specs.Prelude.{All, ℤ, option_and_then, option_map, unwrap_or}
use Rattle.std.specs.List.{flat_map}
use Rattle.std.specs.Option.{option_map_or}
use Rattle.std.proofs.lemmas.List.Elements.{All-nil, All-cons, All-weaker, All-contains, Contains-append_left, Contains-append_right}
use Rattle.serde_json.specs.Data.{Data, null, boolean, number, string, array, object, Items, no_items, item, Members, no_members, member}
use Rattle.serde_json.specs.Find.{of_integer}
use Rattle.cacao_vars.specs.References.{Found, references, references_within, first_reference, behind, begins_with_reference, name_run, behind_run}
use Rattle.cacao_vars.specs.declared.declarations.Var.{Var}
use Rattle.cacao_vars.specs.Scopes.{home_declaration}
use Rattle.cacao_check_steps.specs.Uses.{referred, referred_in, strings, strings_of_items, strings_of_members}
use Rattle.flow_core_rules.specs.State.{Lists, value_shown}
use Rattle.flow_core_rules.specs.Values.{text_at, number_of, has_numbers, whole_number}
use Rattle.flow_core_rules.specs.Filled.{replaced, whole_reference, filled_string, filled, filled_items, filled_members}
use Rattle.flow_core_laws.proofs.Somes.{none_some, equal_of, parts_true}

-- a name is declared in the one as in the other, and has the same text
abbrev pub IsSameIn : Lists → Lists → ℕ → List ℕ → Type 0
IsSameIn a b scope name = (home_declaration b.scopes scope name ≡ home_declaration a.scopes scope name) × (value_shown b scope name ≡ value_shown a scope name)

-- ---- a whole reference is one of the references

whole_referred : (text name : List ℕ) → whole_reference text ≡ Some name → Contains (referred text) name
whole_referred text name e = by (begins_with_reference text && (length (behind_run text) == 6)) refl e
  where
    some_inner : (a b : List ℕ) → Some a ≡ Some b → a ≡ b
    some_inner a b h = cc

    referred_first : (text : List ℕ) → begins_with_reference text ≡ true → length (behind_run text) ≡ 6 → Contains (referred text) (name_run text)
    referred_first [] begins size = absurd (omega arith)
    referred_first (c ∷ cs) begins size =
        subst (λ (b : Bool). Contains (from (first b)) (name_run (c ∷ cs))) (sym begins) (0, omega arith, refl)
      where
        first : Bool → Option Found
        first b = cond b (Some (record { before = []; name = name_run (c ∷ cs); rest = drop 6 (behind_run (c ∷ cs)) })) (option_map (behind c) (first_reference cs))

        from : Option Found → List (List ℕ)
        from o = map (λ (x : Found). x.name) (option_map_or {U = List Found × List ℕ} (λ (x : Found). (x ∷ (references_within (length cs) x.rest).0, (references_within (length cs) x.rest).1)) o ([], c ∷ cs)).0

    by : (b : Bool) → (begins_with_reference text && (length (behind_run text) == 6)) ≡ b → cond b (Some (name_run text)) None ≡ Some name → Contains (referred text) name
    by true is h =
        let tests = parts_true (begins_with_reference text) (length (behind_run text) == 6) is in
        subst (Contains (referred text)) (some_inner (name_run text) name h) (referred_first text tests.0 (equal_of (length (behind_run text)) 6 tests.1))
    by false is h = absurd (none_some name h)

-- ---- what is filled

module _ (a b : Lists) (scope : ℕ) where
  abbrev AreSame : List ℕ → Type 0
  AreSame text = (name : List ℕ) → Contains (referred text) name → IsSameIn a b scope name

  found_same : (founds : List Found) → ((name : List ℕ) → Contains (map (λ (x : Found). x.name) founds) name → IsSameIn a b scope name)
      → flat_map (λ (x : Found). x.before ++ text_at b scope x.name) founds ≡ flat_map (λ (x : Found). x.before ++ text_at a scope x.name) founds
  found_same [] same = refl
  found_same (x ∷ founds) same =
      let here : IsSameIn a b scope x.name = same x.name (0, omega arith, refl) in
      ap (λ (o : Option (List ℕ)). (x.before ++ unwrap_or o []) ++ flat_map (λ (y : Found). y.before ++ text_at b scope y.name) founds) here.1
      ∙ ap (λ (rest : List ℕ). (x.before ++ text_at a scope x.name) ++ rest) (found_same founds (λ name c. same name (Contains-append_right (x.name ∷ []) (map (λ (y : Found). y.name) founds) name c)))

  pub replaced_same : (text : List ℕ) → AreSame text → replaced b scope text ≡ replaced a scope text
  replaced_same text same = ap (λ (front : List ℕ). front ++ (references text).1) (found_same (references text).0 same)

  number_same : (name : List ℕ) → IsSameIn a b scope name → number_of b scope name ≡ number_of a scope name
  number_same name same =
      ap (λ (o : Option Var). option_and_then (λ (var : Var). cond (has_numbers var.kind) (option_and_then whole_number (value_shown b scope name)) None) o) same.0
      ∙ ap (λ (o : Option (List ℕ)). option_and_then (λ (var : Var). cond (has_numbers var.kind) (option_and_then whole_number o) None) (home_declaration a.scopes scope name)) same.1

  whole_same : (o : Option (List ℕ)) → ((name : List ℕ) → o ≡ Some name → IsSameIn a b scope name) → option_and_then (number_of b scope) o ≡ option_and_then (number_of a scope) o
  whole_same None same = refl
  whole_same (Some name) same = number_same name (same name refl)

  string_same : (text : List ℕ) → AreSame text → filled_string b scope text ≡ filled_string a scope text
  string_same text same =
      ap (λ (o : Option ℤ). option_map_or (λ z. number (of_integer z)) o (string (replaced b scope text))) (whole_same (whole_reference text) (λ name e. same name (whole_referred text name e)))
      ∙ ap (λ (t : List ℕ). option_map_or (λ z. number (of_integer z)) (option_and_then (number_of a scope) (whole_reference text)) (string t)) (replaced_same text same)

  mutual
    filled_same : (d : Data) → ((text : List ℕ) → Contains (strings d) text → AreSame text) → filled b scope d ≡ filled a scope d
    filled_same null same = refl
    filled_same (boolean x) same = refl
    filled_same (number n) same = refl
    filled_same (string text) same = string_same text (same text (0, omega arith, refl))
    filled_same (array ds) same = ap array (items_same ds same)
    filled_same (object ms) same = ap object (members_same ms same)

    items_same : (ds : Items) → ((text : List ℕ) → Contains (strings_of_items ds) text → AreSame text) → filled_items b scope ds ≡ filled_items a scope ds
    items_same no_items same = refl
    items_same (item d ds) same =
        ap (λ (x : Data). item x (filled_items b scope ds)) (filled_same d (λ text c. same text (Contains-append_left (strings d) (strings_of_items ds) text c)))
        ∙ ap (item (filled a scope d)) (items_same ds (λ text c. same text (Contains-append_right (strings d) (strings_of_items ds) text c)))

    members_same : (ms : Members) → ((text : List ℕ) → Contains (strings_of_members ms) text → AreSame text) → filled_members b scope ms ≡ filled_members a scope ms
    members_same no_members same = refl
    members_same (member k d ms) same =
        ap (λ (x : Data). member k x (filled_members b scope ms)) (filled_same d (λ text c. same text (Contains-append_left (strings d) (strings_of_members ms) text c)))
        ∙ ap (member k (filled a scope d)) (members_same ms (λ text c. same text (Contains-append_right (strings d) (strings_of_members ms) text c)))

  -- the names of a tree are those of its strings
  among : (texts : List (List ℕ)) → All (λ (text : List ℕ). (name : List ℕ) → Contains (referred text) name → Contains (flat_map referred texts) name) texts
  among [] = All-nil (λ (text : List ℕ). (name : List ℕ) → Contains (referred text) name → Contains (flat_map referred []) name)
  among (x ∷ texts) =
      All-cons (λ (text : List ℕ). (name : List ℕ) → Contains (referred text) name → Contains (flat_map referred (x ∷ texts)) name) x texts (λ name c. Contains-append_left (referred x) (flat_map referred texts) name c)
      (All-weaker (λ (text : List ℕ). (name : List ℕ) → Contains (referred text) name → Contains (flat_map referred texts) name) (λ (text : List ℕ). (name : List ℕ) → Contains (referred text) name → Contains (flat_map referred (x ∷ texts)) name)
      (λ z h name c. Contains-append_right (referred x) (flat_map referred texts) name (h name c)) texts (among texts))

  pub data_same : (d : Data) → ((name : List ℕ) → Contains (referred_in d) name → IsSameIn a b scope name) → filled b scope d ≡ filled a scope d
  data_same d same = filled_same d (λ text c name n. same name (All-contains (λ (x : List ℕ). (name : List ℕ) → Contains (referred x) name → Contains (flat_map referred (strings d)) name) (strings d) text (among (strings d)) c name n))
