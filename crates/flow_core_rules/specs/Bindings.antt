-- Promise: Bindings: the filters that a run binds to agents and targets, and the texts that it binds to variables. The form and the
-- rules are this project's own.
use Rattle.std.specs.Prelude.{◌≡◌, ◌⊎◌, ℕ, ◌≤◌, List, [], ◌∷◌, map, codes, All, Option, Some, IsTrue, IfSome, IsSomeAnd, nat_abs, pos, unwrap_or, option_map}
use Rattle.serde_json.specs.Data.{Data, object, no_members}
use Rattle.cacao_json.specs.Reading.{tree}
use Rattle.cacao_text.specs.Canon.{canon}
use Rattle.cacao_ids.specs.Ids.{IsId}
use Rattle.cacao_vars.specs.declared.declarations.Var.{Var}
use Rattle.cacao_vars.specs.declared.kinds.Kind.{Kind}
use Rattle.cacao_vars.specs.Declarations.{declared}
use Rattle.cacao_vars.specs.Names.{IsName}
use Rattle.cacao_book_shape.specs.Members.{MayHave, ObjectWith, TextFits, IsShort, whole, members_at, text_of}

-- the data of a text of bindings; the empty text binds nothing
abbrev pub bindings_of : List ℕ → Option Data
bindings_of [] = Some (object no_members)
bindings_of (b ∷ bytes) = tree (b ∷ bytes)

-- the text of bindings that a Begin has: the canonical one, or none
abbrev pub bind_text : List ℕ → Data → List ℕ
bind_text [] d = []
bind_text (b ∷ bytes) d = canon d

-- the filters that are bound to agents and targets
abbrev pub agents_in : Data → List (List ℕ × ℕ)
agents_in d = map (λ m. (m.0, unwrap_or (option_map nat_abs (whole m.1)) 0)) (members_at (codes "agents") d)

-- the texts that are bound to variables
abbrev pub variables_in : Data → List (List ℕ × List ℕ)
variables_in d = map (λ m. (m.0, text_of m.1)) (members_at (codes "variables") d)

-- the number of a filter, from 1 to 16
abbrev pub IsFilter : Data → Type 0
IsFilter d = IsSomeAnd (whole d) (λ z. (n : ℕ) × (z ≡ pos n) × (1 ≤ n) × (n ≤ 16))

-- B1: an object that has at most `agents`, which are identifiers with the numbers of filters, and `variables`, which are names
-- with texts of at most 4,096 bytes.
abbrev pub B1 : Data → Type 0
B1 d =
    ObjectWith (λ name _. (name ≡ codes "agents") ⊎ (name ≡ codes "variables")) d
    × MayHave (codes "agents") (ObjectWith (λ name filter. IsId name × IsFilter filter)) d
    × MayHave (codes "variables") (ObjectWith (λ name text. IsName name × TextFits (IsShort 4096) text)) d

-- B2: each bound variable is declared by the first playbook as external.
abbrev pub B2 : List Var → Data → Type 0
B2 vars d = All (λ entry. IsSomeAnd (declared vars entry.0) (λ var. IsTrue var.external)) (variables_in d)

-- B3: its text fits its kind.
abbrev pub B3 : (Kind → List ℕ → Type 0) → List Var → Data → Type 0
B3 Fits vars d = All (λ entry. IfSome (declared vars entry.0) (λ var. Fits var.kind entry.1)) (variables_in d)

pub data BindRule : Type 0 where
  b1 : BindRule
  b2 : BindRule
  b3 : BindRule

abbrev pub bind_number : BindRule → ℕ
bind_number b1 = 1
bind_number b2 = 2
bind_number b3 = 3

-- what a rule asks of bindings, with the variables of the first playbook
abbrev pub KeepsBind : (Kind → List ℕ → Type 0) → List Var → Data → BindRule → Type 0
KeepsBind Fits vars d b1 = B1 d
KeepsBind Fits vars d b2 = B2 vars d
KeepsBind Fits vars d b3 = B3 Fits vars d
