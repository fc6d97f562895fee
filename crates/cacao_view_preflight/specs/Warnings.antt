-- Promise: What is warned of playbooks that are accepted to be run: each warning is a line, in this order.
use Rattle.std.specs.Prelude.{◌≡◌, ℕ, ◌+◌, ◌==◌, Bool, false, not, ◌&&◌, ◌||◌, List, [], ◌∷◌, ◌++◌, codes, decimal, map, Option, Some, None, is_none, take, Contains, slice_get, slice_index_or, if◌then◌else◌}
use Rattle.std.specs.List.{flat_map, list_any}
use Rattle.std.specs.Option.{option_map_or}
use Rattle.std.specs.Str.{bytes_eq}
use Rattle.serde_json.specs.Data.{Data, string}
use Rattle.serde_json.specs.Find.{as_object}
use Rattle.cacao_text.specs.Canon.{canon}
use Rattle.cacao_vars.specs.declared.declarations.Var.{Var}
use Rattle.cacao_book.specs.declared.books.Book.{Book}
use Rattle.cacao_book.specs.declared.commands.StepCommand.{StepCommand}
use Rattle.cacao_book.specs.declared.steps.Step.{Step}
use Rattle.cacao_book.specs.declared.step_kinds.StepKind.{StepKind}
use Rattle.cacao_book.specs.declared.step_kinds.StepKind.TheVariants as does
use Rattle.cacao_book_shape.specs.Members.{members_at, members_in, some_text}
use Rattle.cacao_check_steps.specs.Uses.{commands_of}
use Rattle.cacao_check_steps.specs.Links.{start_places}
use Rattle.cacao_check_regions.specs.Charts.{AreMarksOf, LinksDown}
use Rattle.base_graphs.specs.Closure.{Closure}
use Rattle.oc2_msg.specs.Reasons.{reason_text}
use Rattle.cacao_view_preflight.specs.declared.sure.Sure.{Sure}
use Rattle.cacao_view_preflight.specs.declared.sure.Sure.TheVariants as sure
pub use Rattle.cacao_view_preflight.specs.Names.{Text, is_named}
use Rattle.cacao_view_preflight.specs.Constants.{constant_in, outer_constants, sure_of}
use Rattle.cacao_view_preflight.specs.declared.step_members.TheConstants.{STEP, ACTION, PLAYBOOK_ACTION, PARALLEL, IF_CONDITION, WHILE_CONDITION, SWITCH_CONDITION}

-- what is made of each item and its number, one behind another
abbrev pub each : {A : Type 0} → (ℕ → A → List Text) → ℕ → List A → List Text
each make n [] = []
each make n (x ∷ xs) = make n x ++ each make (n + 1) xs

abbrev pub warn_if : Bool → Text → List Text
warn_if holds line = if holds then line ∷ [] else []

-- what a warning of a step begins with
abbrev pub step_front : ℕ → Text → Text
step_front n key = codes "warning: book " ++ (decimal n ++ (codes " step " ++ key))

abbrev pub names_of : List (Text × Data) → List Text
names_of = map (λ m. m.0)

-- ---- agents and targets: what goes to one that is not bound goes to filter 1. Each name is told once, where it stands first

abbrev pub agent_line : ℕ → Text → Text
agent_line n name =
    codes "warning: book " ++ (decimal n ++ (codes " agent " ++ (name ++ codes " is not bound: what goes to it goes to filter 1\n")))

abbrev pub is_first_unbound : List Text → List Text → Text → Bool
is_first_unbound bound before name = not (is_named bound name) && not (is_named before name)

-- those of one playbook, behind these
abbrev pub of_names : List Text → List Text → ℕ → List Text → List Text
of_names bound before n names =
    each (λ place name. warn_if (is_first_unbound bound (before ++ take place names) name) (agent_line n name)) 0 names

-- the agents and targets of playbooks
abbrev pub all_agents : List Book → List Text
all_agents = flat_map (λ book. book.agents)

abbrev pub of_agents : List Text → List Book → ℕ → Book → List Text
of_agents bound books n book = of_names bound (all_agents (take n books)) n book.agents

-- ---- bindings of what no playbook defines

abbrev pub binding_line : Text → Text
binding_line name = codes "warning: binding of " ++ (name ++ codes ": no playbook defines this agent\n")

abbrev pub of_bindings : List Text → List Text → List Text
of_bindings defined bound = flat_map (λ name. warn_if (not (is_named defined name)) (binding_line name)) bound

-- ---- external variables without a value: bindings may give one to those of the first playbook, a call to those of another, and
-- nothing to those of a step

abbrev pub is_unset : Var → Bool
is_unset var = var.external && is_none var.worth

abbrev pub variable_line : Text → Text
variable_line name = codes "warning: variable " ++ (name ++ codes " is external and has no value\n")

-- the variable is external and has no value, and is not among those that are given one
abbrev pub lacks_value : List Text → Var → Bool
lacks_value given var = is_unset var && not (is_named given var.name)

abbrev pub of_variables : List Text → List Var → List Text
of_variables bound vars = flat_map (λ var. warn_if (lacks_value bound var) (variable_line var.name)) vars

-- the names that a step hands over to the playbook with this identifier
abbrev pub handed : Text → StepKind → List Text
handed id (does.PlaybookAction playbook version in_args out_args) = if bytes_eq playbook id then in_args else []
handed id other = []

abbrev pub handed_in : Text → Book → List Text
handed_in id book = flat_map (λ step. handed id step.kind) book.steps

abbrev pub called_line : ℕ → Text → Text
called_line n name =
    codes "warning: book " ++ (decimal n ++ (codes " variable " ++ (name ++ codes " is external and has no value: no call names it in in_args\n")))

abbrev pub of_called : List Text → ℕ → List Var → List Text
of_called names n vars = flat_map (λ var. warn_if (lacks_value names var) (called_line n var.name)) vars

abbrev pub of_book_variables : List Text → List Book → ℕ → Book → List Text
of_book_variables bound books n book =
    if n == 0 then of_variables bound book.variables else of_called (flat_map (handed_in book.id) books) n book.variables

abbrev pub step_variable_words : Text → Text
step_variable_words name = codes " variable " ++ (name ++ codes " is external and has no value\n")

abbrev pub of_step_variables : ℕ → Step → List Text
of_step_variables n step = flat_map (λ var. warn_if (is_unset var) (step_front n step.key ++ step_variable_words var.name)) step.variables

abbrev pub of_inner_variables : ℕ → Book → List Text
of_inner_variables n book = flat_map (of_step_variables n) book.steps

-- ---- commands that filters refuse whatever the values are: the status and its text are told where they are sure

abbrev pub sure_words : Sure → Text
sure_words (sure.Answer refusal) = decimal refusal.status ++ (codes " " ++ reason_text refusal.text)
sure_words sure.Malformed = codes "400"
sure_words sure.Refused = codes "400 or 501"

abbrev pub refusal_words : ℕ → Text → Text
refusal_words c words = codes " command " ++ (decimal c ++ (codes ": filters answer " ++ (words ++ codes " whatever the values\n")))

abbrev pub command_line : ℕ → Text → ℕ → Sure → Text
command_line n key c sure = step_front n key ++ refusal_words c (sure_words sure)

abbrev pub refusal_lines : ℕ → Text → ℕ → Option Sure → List Text
refusal_lines n key c None = []
refusal_lines n key c (Some sure) = command_line n key c sure ∷ []

abbrev pub of_command : List Var → List Var → ℕ → Text → ℕ → StepCommand → List Text
of_command own outer n key c command = refusal_lines n key c (sure_of (constant_in own outer) command)

abbrev pub of_commands : List Var → ℕ → Step → List Text
of_commands outer n step = each (of_command step.variables outer n step.key) 0 (commands_of step.kind)

abbrev pub of_book_commands : ℕ → Book → List Text
of_book_commands n book = flat_map (of_commands (outer_constants book) n) book.steps

-- ---- members of a step that CACAO does not name for its type (CACAO 2.0, sections 4.1 to 4.10)

abbrev pub is_listed : List Text → Text → Bool
is_listed words name = list_any (λ word. bytes_eq name word) words

abbrev pub members_named : Text → List Text
members_named kind =
    if bytes_eq kind (codes "action") then map (λ word. word.now) ACTION.now
    else if bytes_eq kind (codes "playbook-action") then map (λ word. word.now) PLAYBOOK_ACTION.now
    else if bytes_eq kind (codes "parallel") then map (λ word. word.now) PARALLEL.now
    else if bytes_eq kind (codes "if-condition") then map (λ word. word.now) IF_CONDITION.now
    else if bytes_eq kind (codes "while-condition") then map (λ word. word.now) WHILE_CONDITION.now
    else if bytes_eq kind (codes "switch-condition") then map (λ word. word.now) SWITCH_CONDITION.now
    else []

abbrev pub is_step_member : Text → Text → Bool
is_step_member kind name = is_listed (map (λ word. word.now) STEP.now) name || is_listed (members_named kind) name

abbrev pub member_words : Text → Text
member_words name = codes ": CACAO names no member " ++ (canon (string name) ++ codes " of such a step\n")

abbrev pub member_line : ℕ → Text → Text → Text
member_line n key name = step_front n key ++ member_words name

abbrev pub members_of : Data → List (Text × Data)
members_of d = option_map_or members_in (as_object d) []

abbrev pub of_step_members : ℕ → Text × Data → List Text
of_step_members n step = flat_map (λ m. warn_if (not (is_step_member (some_text (codes "type") step.1) m.0)) (member_line n step.0 m.0)) (members_of step.1)

abbrev pub of_members : ℕ → Data → List Text
of_members n tree = flat_map (of_step_members n) (members_at (codes "workflow") tree)

-- ---- steps that no path reaches, from where a run or its exception begins along all links

abbrev pub step_line : ℕ → Text → Text
step_line n key = codes "warning: book " ++ (decimal n ++ (codes " step " ++ (key ++ codes ": no path reaches it\n")))

abbrev pub of_steps : List Bool → ℕ → Book → List Text
of_steps reached n book = each (λ place step. warn_if (not (slice_index_or reached place false)) (step_line n step.key)) 0 book.steps

abbrev pub of_reach : List (List Bool) → List Book → List Text
of_reach reached books = each (λ n book. of_steps (slice_index_or reached n []) n book) 0 books

abbrev pub IsReached : Book → ℕ → Type 0
IsReached book = Closure (Contains (start_places book)) (LinksDown book)

-- the marks of each playbook are those of the steps that are reached
abbrev pub AreReached : List Book → List (List Bool) → Type 0
AreReached books reached =
    (n : ℕ) (book : Book) → slice_get books n ≡ Some book → AreMarksOf (IsReached book) (slice_index_or reached n [])

-- ---- all of them

abbrev pub warnings_by : List Book → List Data → List Text → List Text → List (List Bool) → List Text
warnings_by books trees agents variables reached =
    each (of_agents agents books) 0 books
    ++ (of_bindings (all_agents books) agents
    ++ (each (of_book_variables variables books) 0 books
    ++ (each of_inner_variables 0 books ++ (each of_book_commands 0 books ++ (each of_members 0 trees ++ of_reach reached books)))))

-- by the names of the agents and of the variables that are bound
abbrev pub warnings : List Book → List Data → Data → List (List Bool) → List Text
warnings books trees bindings =
    warnings_by books trees (names_of (members_at (codes "agents") bindings)) (names_of (members_at (codes "variables") bindings))

-- The lines warn of the playbooks, whose trees are these, with these bindings, of all that is above and of nothing else.
pub record AreWarnings (books : List Book) (trees : List Data) (bindings : Data) (lines : List Text) : Type 0 where
  pub reached : List (List Bool)
  pub exact : AreReached books reached
  pub are : lines ≡ warnings books trees bindings reached
