-- Promise: The rules K13 to K25, each as one predicate that holds where the rule is kept. A step stands at a place of a book, and a book has a number.
use Rattle.std.specs.Prelude.{◌≡◌, ◌⊎◌, not, take, ℕ, ◌≤◌, Bool, true, false, List, ◌++◌, length, codes, All, Contains, Option, Some, IsSome, IfSome, IsSomeAnd, IsTrue, slice_get}
use Rattle.std.specs.List.{list_all, list_any}
use Rattle.std.specs.Str.{bytes_eq}
use Rattle.cacao_json.specs.Reading.{tree}
use Rattle.cacao_vars.specs.Names.{IsName}
use Rattle.cacao_vars.specs.References.{reference_text}
use Rattle.cacao_vars.specs.Declarations.{declared}
use Rattle.cacao_vars.specs.declared.declarations.Var.{Var}
use Rattle.cacao_cond.specs.Trees.{AnyTree}
use Rattle.cacao_cond.specs.Grammar.{Spells}
use Rattle.cacao_book.specs.declared.books.Book.{Book}
use Rattle.cacao_book.specs.declared.steps.Step.{Step}
use Rattle.cacao_book.specs.declared.step_kinds.StepKind.TheVariants.{Start}
use Rattle.cacao_book.specs.declared.commands.StepCommand.{StepCommand}
use Rattle.cacao_book_shape.specs.Members.{IsObject}
use Rattle.cacao_book.specs.Steps.{place_of, step_with}
use Rattle.cacao_check.specs.declared.breaks.Mode.{Mode}
use Rattle.cacao_check.specs.declared.breaks.Mode.TheVariants.{Run}
use Rattle.cacao_check_steps.specs.Links.{next_keys, head_keys, declares}
use Rattle.cacao_check_regions.specs.Regions.{Sees, Encloses, IsPlaced}
use Rattle.cacao_check_regions.specs.Endings.{ReachesEnd}
use Rattle.cacao_check_regions.specs.Flaws.{may_take}
use Rattle.cacao_check_steps.specs.Uses.{commands_of, addressees_of, in_args_of, out_args_of, condition_of, subject_of, call_of, version_of, is_action, Uses}
use Rattle.cacao_check_steps.specs.Calls.{book_with, called, LeadsTo}
use Rattle.cacao_check.specs.Fits.{FitsKind}

-- K13 (CACAO 2.0, section 5): in mode `Run`, each command of an action is for a filter, with an object as its content, or for an operator, with a text.
abbrev pub IsFilterText : List ℕ → Type 0
IsFilterText text = (length text ≤ 65536) × IsSomeAnd (tree text) IsObject

abbrev pub CanBeSent : StepCommand → Type 0
CanBeSent command =
    ((command.kind ≡ codes "openc2-http") × IsSomeAnd command.content IsFilterText)
    ⊎ ((command.kind ≡ codes "manual") × IsSomeAnd command.content (λ text. length text ≤ 4096))

abbrev pub K13 : Mode → Step → Type 0
K13 mode step = mode ≡ Run → All CanBeSent (commands_of step.kind)

-- K14 (section 3.1): no earlier book has the identifier.
abbrev pub K14 : List Book → ℕ → Book → Type 0
K14 books n book = IsTrue (list_all (λ earlier. not (bytes_eq earlier.id book.id)) (take n books))

-- K15 (section 3.1): the workflow starts at a start step of the book, and goes to a step of it at an exception, if to any.
abbrev pub StartsWell : Book → Type 0
StartsWell book = IsSomeAnd (step_with book.steps book.start) (λ step. step.kind ≡ Start)

abbrev pub K15 : Book → Type 0
K15 book = StartsWell book × IfSome book.exception (λ key. IsSome (place_of book.steps key))

-- K16 (section 4): each link names a step of the book.
abbrev pub K16 : Book → Step → Type 0
K16 book step = All (λ key. IsSome (place_of book.steps key)) (next_keys step ++ head_keys step.kind)

-- K17 (section 4.5): the agent and the targets of an action are defined by the book.
abbrev pub K17 : Book → Step → Type 0
K17 book step = IsTrue (list_all (λ name. list_any (λ agent. bytes_eq agent name) book.agents) (addressees_of step.kind))

-- K18 (section 4.6): in mode `Run`, a playbook-action calls a given book.
abbrev pub K18 : List Book → Mode → Step → Type 0
K18 books mode step = mode ≡ Run → IfSome (call_of step.kind) (λ id. IsSome (book_with books id))

-- K19 (section 4.6): the called book, if it is given, is of the version that is asked for, and does not lead back to this one.
abbrev pub K19 : List Book → ℕ → Step → Type 0
K19 books n step =
    (m : ℕ) (theirs : Book) → called books step ≡ Some m → slice_get books m ≡ Some theirs
    → IfSome (version_of step.kind) (λ wanted. theirs.modified ≡ wanted) × ¬ LeadsTo books m n

-- K20 (section 10.18): the value of each variable fits its kind.
abbrev pub VarFits : Var → Type 0
VarFits var = IfSome var.worth (FitsKind var.kind)

abbrev pub K20 : List Var → Type 0
K20 vars = All VarFits vars

-- K21 (sections 4.8 to 4.10): a condition is of the grammar, and a switch is exactly one reference.
abbrev pub ConditionIsRead : Step → Type 0
ConditionIsRead step = IfSome (condition_of step.kind) (λ text. (cond : AnyTree) × Spells cond text)

abbrev pub SubjectIsRead : Step → Type 0
SubjectIsRead step = IfSome (subject_of step.kind) (λ text. (name : List ℕ) × IsName name × (text ≡ reference_text name))

abbrev pub K21 : Step → Type 0
K21 step = ConditionIsRead step × SubjectIsRead step

-- K22 (section 10.18): each name that a step uses is declared wherever the step may stand.
abbrev pub K22 : Book → ℕ → Step → Type 0
K22 book place step = (name : List ℕ) (seen : Option Var) → Uses step name → Sees book name place seen → IsSome seen

-- K23 (section 4.5): no result is written to a constant. A result of an action is written to a kind that takes it.
abbrev pub K23 : Book → ℕ → Step → Type 0
K23 book place step =
    (k : ℕ) (name : List ℕ) (var : Var) → slice_get (out_args_of step.kind) k ≡ Some name → Sees book name place (Some var)
    → (var.constant ≡ false) × (IsTrue (is_action step.kind) → IsTrue (may_take k var.kind))

-- K24 (section 4.6): what is handed to a called book is declared by it as external, what it hands back is declared by it, and both are of one
-- kind here and there. A step in no region is asked of the names that it declares itself alone.
abbrev pub IsDeclaredAlike : Book → ℕ → Book → List ℕ → Bool → Type 0
IsDeclaredAlike book place theirs name as_external =
    IsSomeAnd (declared theirs.variables name)
    (λ var. (IsTrue as_external → IsTrue var.external)
    × ((ours : Var) → Sees book name place (Some ours) → ours.kind ≡ var.kind))

abbrev pub K24 : List Book → Book → ℕ → Step → Type 0
K24 books book place step =
    (m : ℕ) (theirs : Book) (name : List ℕ) → called books step ≡ Some m → slice_get books m ≡ Some theirs
    → IsSome (declares book name place) ⊎ IsPlaced book place
    → (Contains (in_args_of step.kind) name → IsDeclaredAlike book place theirs name true)
    × (Contains (out_args_of step.kind) name → IsDeclaredAlike book place theirs name false)

-- K25 (section 4): from each step a step is reached at which a path can end, and no control step is enclosed by itself.
abbrev pub K25 : Book → ℕ → Type 0
K25 book place = ReachesEnd book place × ¬ Encloses book place place
