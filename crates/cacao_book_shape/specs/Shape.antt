-- Promise: The rules of shape, K1 to K12, each as one predicate on data: K1 to K4 on those of a book, K5 to K12 on those of a
-- step. Section numbers are those of CACAO 2.0; what is marked "own" is this project's own demand.
use Rattle.std.specs.Prelude.{◌≡◌, ◌⊎◌, ℕ, suc, ◌≤◌, ◌&&◌, ◌||◌, Bool, not, List, [], ◌∷◌, length, codes, Option, Some, None, IfSome, IsTrue, slice_get, ⊤}
use Rattle.std.specs.List.{list_any}
use Rattle.std.specs.Str.{IsUtf8}
use Rattle.base64.specs.Engines.{standard}
use Rattle.base64.specs.GeneralPurpose.{encode_of, IsBytes}
use Rattle.serde_json.specs.Data.{Data}
use Rattle.cacao_ids.specs.Ids.{IsId, HasObjectType}
use Rattle.cacao_ids.specs.Stamps.{IsStamp}
use Rattle.cacao_vars.specs.Names.{IsName}
use Rattle.cacao_vars.specs.References.{reference_text}
use Rattle.cacao_book_shape.specs.Members.{Has, MayHave, has, has_text, IsText, TextFits, IsShort, IsFlag, IsUpTo, ListOf, EachItem, ObjectOf, ObjectWith, IsObject, members_at}

-- ---- words that several rules use

-- A declaration of a variable (section 10.18): its type is a text of 1 to 64 bytes, its value a text of at most 4,096
-- bytes (own: the lengths).
abbrev pub IsDeclaration : Data → Type 0
IsDeclaration d =
    Has (codes "type") (TextFits (λ text. (1 ≤ length text) × IsShort 64 text)) d
    × MayHave (codes "value") (TextFits (IsShort 4096)) d
    × MayHave (codes "constant") IsFlag d × MayHave (codes "external") IsFlag d

-- A variable dictionary: names and their declarations, at most 1,024 (own: the number).
abbrev pub IsDictionary : Data → Type 0
IsDictionary = ObjectOf 0 1024 (λ name d. IsName name × IsDeclaration d)

-- an object whose names are identifiers, of any size
abbrev pub IsIdTable : Data → Type 0
IsIdTable = ObjectWith (λ name _. IsId name)

-- the name of a variable, or a reference to it
abbrev pub IsArgument : List ℕ → Type 0
IsArgument text = (name : List ℕ) × IsName name × ((text ≡ name) ⊎ (text ≡ reference_text name))

-- at most so many of them
abbrev pub IsArguments : ℕ → Data → Type 0
IsArguments most = ListOf 0 most (TextFits IsArgument)

-- the eight types of steps (section 4)
abbrev pub step_types : List (List ℕ)
step_types =
    codes "start" ∷ codes "end" ∷ codes "action" ∷ codes "playbook-action" ∷ codes "parallel" ∷ codes "if-condition"
    ∷ codes "while-condition" ∷ codes "switch-condition" ∷ []

-- whether the type of a book, of a step or of a command is this one
abbrev pub is_of_type : List ℕ → Data → Bool
is_of_type name d = has_text (codes "type") name d

-- this holds, if the type is this one
abbrev pub OnType : List ℕ → Type 0 → Data → Type 0
OnType name Holds d = IsTrue (is_of_type name d) → Holds

-- the padded base64 (RFC 4648, section 4) of the bytes of a text in UTF-8, and nothing else
abbrev pub IsEncodedText : List ℕ → Type 0
IsEncodedText text = (bytes : List ℕ) × IsBytes bytes × IsUtf8 bytes × (text ≡ encode_of standard bytes)

-- ---- rules of the book (section 3.1)

-- The top is an object of the type and the version of CACAO 2.0 playbooks.
abbrev pub K1 : Data → Type 0
K1 t =
    IsObject t × IsTrue (has_text (codes "type") (codes "playbook") t)
    × IsTrue (has_text (codes "spec_version") (codes "cacao-2.0") t)

-- It says who it is, who made it, when it was made and changed, and its name.
abbrev pub K2 : Data → Type 0
K2 t =
    Has (codes "id") (TextFits (λ id. IsId id × HasObjectType (codes "playbook") id)) t
    × Has (codes "created_by") (TextFits IsId) t
    × Has (codes "created") (TextFits IsStamp) t × Has (codes "modified") (TextFits IsStamp) t × Has (codes "name") IsText t

-- Its variables are declared by a dictionary, its agents and targets by identifiers.
abbrev pub K3 : Data → Type 0
K3 t =
    MayHave (codes "playbook_variables") IsDictionary t × MayHave (codes "agent_definitions") IsIdTable t
    × MayHave (codes "target_definitions") IsIdTable t

-- It names its first step, perhaps one for exceptions, and has 1 to 4,096 steps under identifiers (own: the number).
abbrev pub K4 : Data → Type 0
K4 t =
    Has (codes "workflow_start") IsText t × MayHave (codes "workflow_exception") IsText t
    × Has (codes "workflow") (ObjectOf 1 4096 (λ key step. IsId key × IsObject step)) t

-- ---- rules of a step (section 4)

-- Its type is one of the eight.
abbrev pub K5 : Data → Type 0
K5 s = IsTrue (list_any (λ name. is_of_type name s) step_types)

-- Its delay and its timeout are whole numbers of milliseconds, at most 2,147,483,647 (own: the bound).
abbrev pub K6 : Data → Type 0
K6 s = MayHave (codes "delay") (IsUpTo 2147483647) s × MayHave (codes "timeout") (IsUpTo 2147483647) s

-- Its variables are declared by a dictionary.
abbrev pub K7 : Data → Type 0
K7 s = MayHave (codes "step_variables") IsDictionary s

-- A step goes on in any case (`on_completion`), or by its outcome (`on_success`, `on_failure`), and not by both.
abbrev pub completes : Data → Bool
completes s = has (codes "on_completion") s

abbrev pub splits : Data → Bool
splits s = has (codes "on_success") s || has (codes "on_failure") s

-- Steps of these types go on (own).
abbrev pub must_go_on : Data → Bool
must_go_on s = is_of_type (codes "start") s || is_of_type (codes "action") s || is_of_type (codes "playbook-action") s

abbrev pub LinksAreTexts : Data → Type 0
LinksAreTexts s =
    MayHave (codes "on_completion") IsText s × MayHave (codes "on_success") IsText s
    × MayHave (codes "on_failure") IsText s

abbrev pub links_agree : Data → Bool
links_agree s =
    not (completes s && splits s) && not (is_of_type (codes "end") s && (completes s || splits s))
    && (not (must_go_on s) || completes s || has (codes "on_success") s)

-- The three links are texts and go together; an end step has none; start and the two kinds of action go on.
abbrev pub K8 : Data → Type 0
K8 s = LinksAreTexts s × IsTrue (links_agree s)

-- An action has 1 to 64 commands, each with a type, an agent, and perhaps targets and arguments (own: the numbers).
abbrev pub K9 : Data → Type 0
K9 s = OnType (codes "action")
    (Has (codes "commands") (ListOf 1 64 (Has (codes "type") IsText)) s × Has (codes "agent") IsText s
    × MayHave (codes "targets") (ListOf 0 64 IsText) s
    × MayHave (codes "in_args") (IsArguments 64) s × MayHave (codes "out_args") (IsArguments 3) s) s

-- An OpenC2 command has its content as text or as base64 of text, or none (section 5).
abbrev pub HasContent : Data → Type 0
HasContent c =
    IsTrue (not (has (codes "content") c && has (codes "content_b64") c)) × MayHave (codes "content") IsText c
    × MayHave (codes "content_b64") (TextFits IsEncodedText) c

abbrev pub K10 : Data → Type 0
K10 s = OnType (codes "action") (MayHave (codes "commands") (EachItem (λ c. OnType (codes "openc2-http") (HasContent c) c)) s) s

-- A playbook-action names a playbook, perhaps its version, and perhaps arguments (own: the numbers).
abbrev pub K11 : Data → Type 0
K11 s = OnType (codes "playbook-action")
    (Has (codes "playbook_id") (TextFits IsId) s × MayHave (codes "playbook_version") IsText s
    × MayHave (codes "in_args") (IsArguments 64) s × MayHave (codes "out_args") (IsArguments 64) s) s

-- a condition of at most 2,048 bytes (own), and the step to which it leads
abbrev pub HasCondition : Data → Type 0
HasCondition s = Has (codes "condition") (TextFits (IsShort 2048)) s × Has (codes "on_true") IsText s

-- The four kinds of control steps have their branches (own: the numbers).
abbrev pub K12 : Data → Type 0
K12 s =
    OnType (codes "parallel") (Has (codes "next_steps") (ListOf 1 64 IsText) s) s
    × OnType (codes "if-condition") (HasCondition s × MayHave (codes "on_false") IsText s) s
    × OnType (codes "while-condition") (HasCondition s) s
    × OnType (codes "switch-condition")
    (Has (codes "switch") IsText s × Has (codes "cases") (ObjectOf 1 64 (λ _ step. IsText step)) s) s

-- ---- all of them

pub data ShapeRule : Type 0 where
  k1 : ShapeRule
  k2 : ShapeRule
  k3 : ShapeRule
  k4 : ShapeRule
  k5 : ShapeRule
  k6 : ShapeRule
  k7 : ShapeRule
  k8 : ShapeRule
  k9 : ShapeRule
  k10 : ShapeRule
  k11 : ShapeRule
  k12 : ShapeRule

abbrev pub shape_number : ShapeRule → ℕ
shape_number k1 = 1
shape_number k2 = 2
shape_number k3 = 3
shape_number k4 = 4
shape_number k5 = 5
shape_number k6 = 6
shape_number k7 = 7
shape_number k8 = 8
shape_number k9 = 9
shape_number k10 = 10
shape_number k11 = 11
shape_number k12 = 12

-- what a rule asks of the book; those of a step ask nothing of it
abbrev pub KeepsOfBook : ShapeRule → Data → Type 0
KeepsOfBook k1 t = K1 t
KeepsOfBook k2 t = K2 t
KeepsOfBook k3 t = K3 t
KeepsOfBook k4 t = K4 t
KeepsOfBook _ t = ⊤

-- what a rule asks of a step; those of the book ask nothing of it
abbrev pub KeepsOfStep : ShapeRule → Data → Type 0
KeepsOfStep k5 s = K5 s
KeepsOfStep k6 s = K6 s
KeepsOfStep k7 s = K7 s
KeepsOfStep k8 s = K8 s
KeepsOfStep k9 s = K9 s
KeepsOfStep k10 s = K10 s
KeepsOfStep k11 s = K11 s
KeepsOfStep k12 s = K12 s
KeepsOfStep _ s = ⊤

-- no rule is broken by a step
abbrev pub IsWellShapedStep : Data → Type 0
IsWellShapedStep s = (rule : ShapeRule) → KeepsOfStep rule s

-- the steps of a book in the order of their keys, each with its key
abbrev pub workflow : Data → List (List ℕ × Data)
workflow t = members_at (codes "workflow") t

-- A demand: a rule, of the book or of the step at a place.
pub record ShapeDemand : Type 0 where
  pub step : Option ℕ
  pub rule : ShapeRule

-- the book comes before its steps, and a place or a step before its later rules
abbrev pub place_rank : Option ℕ → ℕ
place_rank None = 0
place_rank (Some place) = suc place

abbrev pub shape_rank : ShapeDemand → List ℕ
shape_rank demand = place_rank demand.step ∷ shape_number demand.rule ∷ []

-- A place at which no step stands asks nothing.
abbrev pub KeepsShapeAt : Data → ShapeRule → Option ℕ → Type 0
KeepsShapeAt t rule None = KeepsOfBook rule t
KeepsShapeAt t rule (Some place) = IfSome (slice_get (workflow t) place) (λ step. KeepsOfStep rule step.1)

abbrev pub KeepsShape : Data → ShapeDemand → Type 0
KeepsShape t demand = KeepsShapeAt t demand.rule demand.step

-- the data break no rule of shape
abbrev pub IsWellShaped : Data → Type 0
IsWellShaped t = (demand : ShapeDemand) → KeepsShape t demand
