-- The names that a step uses.
use Rattle.std.proofs.Common.{◌≡◌, ◌↔◌, ◌⊎◌, inl, inr, ℕ, zero, suc, ◌+◌, ◌<◌, Bool, true, false, List, [], ◌∷◌, ◌++◌, length, map, get_or, Option, Some, None, Contains, IfSome, IfNone, IsSomeAnd, option_to_list, refl, sym, ◌∙◌, ap, subst, arith, length-append}
use Rattle.std.specs.List.{flat_map, list_any}
use Rattle.std.specs.Str.{bytes_eq}
use Rattle.std.proofs.lemmas.Grind.{flat_map-append}
use Rattle.std.proofs.lemmas.Slice.Eq.{bytes_eq-Decides}
use Rattle.std.proofs.lemmas.List.Elements.{Contains-append_left, Contains-append_right, Contains-append_cases, Contains-push, Contains-push_cases}
use Rattle.serde_json.specs.Data.{array, object}
use Rattle.cacao_json.specs.declared.tree.Tree.{Tree}
use Rattle.cacao_json.specs.declared.tree.Pair.{Pair}
use Rattle.cacao_json.specs.Tree.{data_of, pair_data, items_of, members_of}
use Rattle.cacao_json.specs.Size.{size, items_size, members_size}
use Rattle.cacao_vars.specs.Names.{IsName}
use Rattle.cacao_vars.specs.References.{reference_text}
use Rattle.cacao_cond.specs.Trees.{AnyTree, tree_of}
use Rattle.cacao_cond.specs.Grammar.{Spells, SpellsAtMostOne}
use Rattle.cacao_cond.specs.Names.{named, with_name, with_names}
use Rattle.cacao_cond.specs.declared.trees.Cond.{Cond}
use Rattle.cacao_book.specs.declared.books.Book.{Book}
use Rattle.cacao_book.specs.declared.steps.Step.{Step}
use Rattle.cacao_book.specs.declared.commands.StepCommand.{StepCommand}
use Rattle.cacao_check_steps.specs.declared.parts.Parts.{Parts}
use Rattle.cacao_check_steps.specs.Uses.{commands_of, in_args_of, out_args_of, condition_of, subject_of, referred, strings, strings_of_items, strings_of_members, referred_in, sent_names, Uses}
use Rattle.cacao_check_steps.specs.Uses.Uses.{in_condition, in_subject, as_argument, as_result, in_command}
use Rattle.cacao_check_steps.specs.UsedNames.{condition_names, used_names}
use Rattle.cacao_check_steps.specs.Parts.{ReadsStep}
use Rattle.cacao_check_steps.proofs.PairLemmas.{Contains-none, Contains-one, Contains-flat_map, flat_map-Contains}

-- ---- the references of a tree

pub items_referred : (ts : List Tree) → flat_map (λ (tree : Tree). referred_in (data_of tree)) ts ≡ referred_in (array (items_of (map data_of ts)))
items_referred [] = refl
items_referred (t ∷ ts) = ap (λ l. referred_in (data_of t) ++ l) (items_referred ts) ∙ sym (flat_map-append referred (strings (data_of t)) (strings_of_items (items_of (map data_of ts))))

pub members_referred : (ps : List Pair) → flat_map (λ (pair : Pair). referred_in (data_of pair.tree)) ps ≡ referred_in (object (members_of (map pair_data ps)))
members_referred [] = refl
members_referred (p ∷ ps) = ap (λ l. referred_in (data_of p.tree) ++ l) (members_referred ps) ∙ sym (flat_map-append referred (strings (data_of p.tree)) (strings_of_members (members_of (map pair_data ps))))

pub item_smaller : (ts : List Tree) (i : ℕ) (t : Tree) → i < length ts → t ≡ get_or ts i t → size (data_of t) < items_size (items_of (map data_of ts))
item_smaller [] i t lt at = absurd (omega arith)
item_smaller (u ∷ us) zero t lt at = omega (arith, ap (λ x. size (data_of x)) at)
item_smaller (u ∷ us) (suc i) t lt at = let r : size (data_of t) < items_size (items_of (map data_of us)) = item_smaller us i t (omega arith) at in omega arith

pub member_smaller : (ps : List Pair) (i : ℕ) (p : Pair) → i < length ps → p ≡ get_or ps i p → size (data_of p.tree) < members_size (members_of (map pair_data ps))
member_smaller [] i p lt at = absurd (omega arith)
member_smaller (q ∷ qs) zero p lt at = omega (arith, ap (λ (x : Pair). size (data_of x.tree)) at)
member_smaller (q ∷ qs) (suc i) p lt at = let r : size (data_of p.tree) < members_size (members_of (map pair_data qs)) = member_smaller qs i p (omega arith) at in omega arith

-- ---- the names of a condition, each once

listed-step : (n : List ℕ) (ns : List (List ℕ)) (name : List ℕ) (b : Bool) → bytes_eq n name ≡ b → (list_any (λ m. bytes_eq m name) ns ≡ true → Contains ns name) → list_any (λ m. bytes_eq m name) (n ∷ ns) ≡ true → Contains (n ∷ ns) name
listed-step n ns name true h later e = Contains-append_left (n ∷ []) ns name (0, omega arith, (bytes_eq-Decides n name).0 h)
listed-step n ns name false h later e = Contains-append_right (n ∷ []) ns name (later (rw h at e))

listed : (names : List (List ℕ)) (name : List ℕ) → list_any (λ n. bytes_eq n name) names ≡ true → Contains names name
listed [] name e = absurd (cc)
listed (n ∷ ns) name e = listed-step n ns name (bytes_eq n name) refl (λ h. listed ns name h) e

with_name_iff : (names : List (List ℕ)) (new x : List ℕ) → Contains (with_name names new) x ↔ (Contains names x ⊎ (new ≡ x))
with_name_iff names new x = by_cases (list_any (λ n. bytes_eq n new) names) refl
  where
    by_cases : (b : Bool) → list_any (λ n. bytes_eq n new) names ≡ b → Contains (with_name names new) x ↔ (Contains names x ⊎ (new ≡ x))
    by_cases true h = rw h (λ c. inl c, λ d. elim d [ inl c ↦ c | inr same ↦ subst (Contains names) same (listed names new h) ])
    by_cases false h = rw h (λ c. Contains-push_cases names new x c, λ d. elim d [ inl c ↦ Contains-append_left names (new ∷ []) x c | inr same ↦ subst (Contains (names ++ new ∷ [])) same (Contains-push names new) ])

with_names_iff : (names more : List (List ℕ)) (x : List ℕ) → Contains (with_names names more) x ↔ (Contains names x ⊎ Contains more x)
with_names_iff names [] x = (λ c. inl c, λ d. elim d [ inl c ↦ c | inr none ↦ absurd (Contains-none x none) ])
with_names_iff names (m ∷ ms) x =
    let r = with_names_iff (with_name names m) ms x in
    let s = with_name_iff names m x in (
      λ c. elim (r.0 c) [
        | inl one ↦ elim (s.0 one) [ inl old ↦ inl old | inr same ↦ inr (Contains-append_left (m ∷ []) ms x (0, omega arith, same)) ]
        | inr later ↦ inr (Contains-append_right (m ∷ []) ms x later)
      ],
      λ d. elim d [
        | inl old ↦ r.1 (inl (s.1 (inl old)))
        | inr new ↦ elim (Contains-append_cases (m ∷ []) ms x new) [ inl one ↦ r.1 (inl (s.1 (inr (Contains-one m x one)))) | inr later ↦ r.1 (inr later) ]
      ],
    )

-- ---- of a step

at_some : {X : Type 0} (o : Option X) (P : X → Type 0) → IsSomeAnd o P → (x : X) × (o ≡ Some x) × P x
at_some None P h = absurd h
at_some (Some x) P h = (x, refl, h)

module _ (once : SpellsAtMostOne) (step : Step) (name : List ℕ) where
  condition_uses : (cond : Option Cond) → IfSome cond (λ c. IsSomeAnd (condition_of step.kind) (Spells (tree_of c))) → Contains (condition_names cond) name → Uses step name
  condition_uses None h c = absurd (Contains-none name c)
  condition_uses (Some cond) h c =
      let text : (t : List ℕ) × (condition_of step.kind ≡ Some t) × Spells (tree_of cond) t = at_some (condition_of step.kind) (Spells (tree_of cond)) h in
      elim ((with_names_iff [] (named (tree_of cond)) name).0 c) [ inl none ↦ absurd (Contains-none name none) | inr there ↦ in_condition text.0 (tree_of cond) text.1 text.2 there ]

  uses_condition : (cond : Option Cond) → IfSome cond (λ c. IsSomeAnd (condition_of step.kind) (Spells (tree_of c))) → IfNone cond (IfSome (condition_of step.kind) (λ text. (tree : AnyTree) → ¬ Spells tree text))
      → (text : List ℕ) (tree : AnyTree) → condition_of step.kind ≡ Some text → Spells tree text → Contains (named tree) name → Contains (condition_names cond) name
  uses_condition None h none text tree at spells c = absurd ((rw at at none) tree spells)
  uses_condition (Some cond) h none text tree at spells c =
      let here : Spells (tree_of cond) text = rw at at h in
      (with_names_iff [] (named (tree_of cond)) name).1 (inr (subst (λ t. Contains (named t) name) (once tree (tree_of cond) text spells here) c))

  subject_uses : (subject : Option (List ℕ)) → IfSome subject (λ n. IsName n × (subject_of step.kind ≡ Some (reference_text n))) → Contains (option_to_list subject) name → Uses step name
  subject_uses None h c = absurd (Contains-none name c)
  subject_uses (Some n) h c = let same : n ≡ name = Contains-one n name c in in_subject (subst IsName same h.0) (h.1 ∙ ap (λ m. Some (reference_text m)) same)

  uses_subject : (subject : Option (List ℕ)) → IfSome subject (λ n. IsName n × (subject_of step.kind ≡ Some (reference_text n))) → IfNone subject (IfSome (subject_of step.kind) (λ text. (n : List ℕ) → IsName n → ¬ text ≡ reference_text n))
      → IsName name → subject_of step.kind ≡ Some (reference_text name) → Contains (option_to_list subject) name
  uses_subject None h none fits at = absurd ((rw at at none) name fits refl)
  uses_subject (Some n) h none fits at = (0, omega arith, same_reference n name (let e : Some (reference_text n) ≡ Some (reference_text name) = sym h.1 ∙ at in cc))
    where
      same_reference : (a b : List ℕ) → reference_text a ≡ reference_text b → a ≡ b
      same_reference [] [] e = refl
      same_reference [] (y ∷ ys) e = absurd (omega (arith, ap length e, length-append ys (58 ∷ 118 ∷ 97 ∷ 108 ∷ 117 ∷ 101 ∷ [])))
      same_reference (x ∷ xs) [] e = absurd (omega (arith, ap length e, length-append xs (58 ∷ 118 ∷ 97 ∷ 108 ∷ 117 ∷ 101 ∷ [])))
      same_reference (x ∷ xs) (y ∷ ys) e = let head : x ≡ y = cc in let tail : reference_text xs ≡ reference_text ys = cc in let rest : xs ≡ ys = same_reference xs ys tail in cc

  pub uses_iff : (books : List Book) (book : Book) (parts : Parts) → ReadsStep books book step parts → Contains (used_names step parts) name ↔ Uses step name
  uses_iff books book parts reads = (there, back)
    where
      command_uses : Contains (flat_map sent_names (commands_of step.kind)) name → Uses step name
      command_uses e = let found : (command : StepCommand) × Contains (commands_of step.kind) command × Contains (sent_names command) name = flat_map-Contains sent_names (commands_of step.kind) name e in in_command found.0 found.1 found.2

      there : Contains (used_names step parts) name → Uses step name
      there c = elim (Contains-append_cases (condition_names parts.condition ++ option_to_list parts.subject ++ in_args_of step.kind ++ out_args_of step.kind) (flat_map sent_names (commands_of step.kind)) name c) [
        | inr e ↦ command_uses e
        | inl abcd ↦ elim (Contains-append_cases (condition_names parts.condition ++ option_to_list parts.subject ++ in_args_of step.kind) (out_args_of step.kind) name abcd) [
          | inr d ↦ as_result d
          | inl abc ↦ elim (Contains-append_cases (condition_names parts.condition ++ option_to_list parts.subject) (in_args_of step.kind) name abc) [
            | inr arg ↦ as_argument arg
            | inl ab ↦ elim (Contains-append_cases (condition_names parts.condition) (option_to_list parts.subject) name ab) [
              | inl a ↦ condition_uses parts.condition reads.condition a
              | inr b ↦ subject_uses parts.subject reads.subject b
            ]
          ]
        ]
      ]

      back : Uses step name → Contains (used_names step parts) name
      back (in_condition text tree at spells c) =
          Contains-append_left (condition_names parts.condition ++ option_to_list parts.subject ++ in_args_of step.kind ++ out_args_of step.kind) (flat_map sent_names (commands_of step.kind)) name
          (Contains-append_left (condition_names parts.condition ++ option_to_list parts.subject ++ in_args_of step.kind) (out_args_of step.kind) name
          (Contains-append_left (condition_names parts.condition ++ option_to_list parts.subject) (in_args_of step.kind) name
          (Contains-append_left (condition_names parts.condition) (option_to_list parts.subject) name (uses_condition parts.condition reads.condition reads.no_condition text tree at spells c))))
      back (in_subject fits at) =
          Contains-append_left (condition_names parts.condition ++ option_to_list parts.subject ++ in_args_of step.kind ++ out_args_of step.kind) (flat_map sent_names (commands_of step.kind)) name
          (Contains-append_left (condition_names parts.condition ++ option_to_list parts.subject ++ in_args_of step.kind) (out_args_of step.kind) name
          (Contains-append_left (condition_names parts.condition ++ option_to_list parts.subject) (in_args_of step.kind) name
          (Contains-append_right (condition_names parts.condition) (option_to_list parts.subject) name (uses_subject parts.subject reads.subject reads.no_subject fits at))))
      back (as_argument c) =
          Contains-append_left (condition_names parts.condition ++ option_to_list parts.subject ++ in_args_of step.kind ++ out_args_of step.kind) (flat_map sent_names (commands_of step.kind)) name
          (Contains-append_left (condition_names parts.condition ++ option_to_list parts.subject ++ in_args_of step.kind) (out_args_of step.kind) name
          (Contains-append_right (condition_names parts.condition ++ option_to_list parts.subject) (in_args_of step.kind) name c))
      back (as_result c) =
          Contains-append_left (condition_names parts.condition ++ option_to_list parts.subject ++ in_args_of step.kind ++ out_args_of step.kind) (flat_map sent_names (commands_of step.kind)) name
          (Contains-append_right (condition_names parts.condition ++ option_to_list parts.subject ++ in_args_of step.kind) (out_args_of step.kind) name c)
      back (in_command command at c) =
          Contains-append_right (condition_names parts.condition ++ option_to_list parts.subject ++ in_args_of step.kind ++ out_args_of step.kind) (flat_map sent_names (commands_of step.kind)) name
          (Contains-flat_map sent_names (commands_of step.kind) name command at c)
