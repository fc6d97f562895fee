-- Promise: What the words ask for: one case and one row a word.
use Rattle.std.specs.Prelude.{Bool, true, false, not, ◌&&◌, nat_lt, nat_le, List, [], ◌∷◌, length, Option, Some, None, codes, if◌then◌else◌}
use Rattle.std.specs.List.{list_all}
use Rattle.std.specs.Str.{bytes_eq}
use Rattle.cacao_cli_words.specs.Words.{Reading, begins_hyphen, read, value_in}
use Rattle.cacao_view_words.specs.Rules.{NamedRule, is_like_rule, rule_in}
use Rattle.cacao_view_words.specs.Texts.{Text}
use Rattle.cacao_view_words.specs.Topics.{Named, first_named, named, topic_in}
use Rattle.cacao_view_words.specs.declared.topic.Topic.{Topic}
use Rattle.cacao_view_words.specs.declared.wanted.Wanted.{Wanted}
use Rattle.cacao_view_words.specs.declared.wanted.Wanted.TheVariants as want

-- what the program is asked to do; words without a reading ask to be told what was wanted there
pub data Request : Type 0 where
  helps : Request
  helps_with : (topic : Topic) → Request
  tells_version : Request
  logs : (as_json : Bool) (engine : Option Text) → Request  -- the file of the disk where none is named
  graphs : (books : List Text) → Request
  graphs_run : Request  -- that of the disk's file
  explains : (rule : NamedRule) → Request
  explains_books : (books : List Text) → Request
  preflights : (bind : Option Text) (books : List Text) → Request  -- with the bindings in this file
  lacks : (wanted : Wanted) → Request

-- what was found is asked for, or that was wanted
abbrev pub or_lacks : {A : Type 0} → Wanted → (A → Request) → Option A → Request
or_lacks wanted asks None = lacks wanted
or_lacks wanted asks (Some found) = asks found

-- no name, or a word of one of the programs
abbrev pub help_asks : List Text → Request
help_asks [] = helps
help_asks (word ∷ []) = or_lacks want.Topic helps_with (topic_in word)
help_asks (word ∷ other ∷ names) = lacks want.Topic

-- no name
abbrev pub version_asks : List Text → Request
version_asks [] = tells_version
version_asks (name ∷ names) = lacks want.NoMore

-- the name of a file has 1 to 1,024 bytes and begins with no hyphen
abbrev pub is_name : Text → Bool
is_name word = nat_lt 0 (length word) && (nat_le (length word) 1024 && not (begins_hyphen word))

abbrev pub logs_file : Bool → Text → Request
logs_file as_json word = if is_name word then logs as_json (Some word) else lacks want.Log

abbrev pub is_json : Text → Bool
is_json word = bytes_eq word (codes "--json")

-- `--json` and the name of a file, in either order, each at most once
abbrev pub log_asks : List Text → Request
log_asks [] = logs false None
log_asks (word ∷ []) = if is_json word then logs true None else logs_file false word
log_asks (first ∷ second ∷ []) =
    if is_json first then logs_file true second else (if is_json second then logs_file true first else lacks want.Log)
log_asks (first ∷ second ∷ third ∷ names) = lacks want.Log

-- the names of the files of playbooks; where none is named, the run of the disk's file
abbrev pub graph_asks : List Text → Request
graph_asks [] = graphs_run
graph_asks (book ∷ libraries) = if is_name book && list_all is_name libraries then graphs (book ∷ libraries) else lacks want.Graph

-- the name of a file that is not like that of a rule; a file of such a name has `./` before it
abbrev pub is_book : Text → Bool
is_book word = is_name word && not (is_like_rule word)

abbrev pub explain_books_asks : List Text → Request
explain_books_asks [] = lacks want.Rule
explain_books_asks (book ∷ libraries) =
    if is_book book && list_all is_book libraries then explains_books (book ∷ libraries) else lacks want.Rule

-- the rule, or the playbook where the name is no rule's
abbrev pub rule_or_book : Text → Option NamedRule → Request
rule_or_book name None = explain_books_asks (name ∷ [])
rule_or_book name (Some rule) = explains rule

-- one name, which is a rule's, or names of the files of playbooks
abbrev pub explain_asks : List Text → Request
explain_asks [] = lacks want.Rule
explain_asks (name ∷ []) = rule_or_book name (rule_in name)
explain_asks (name ∷ other ∷ names) = explain_books_asks (name ∷ other ∷ names)

abbrev pub preflight_books : Option Text → List Text → Request
preflight_books bind [] = lacks want.Playbook
preflight_books bind (book ∷ libraries) = preflights bind (book ∷ libraries)

abbrev pub preflight_of : Option Reading → Request
preflight_of None = lacks want.Playbook
preflight_of (Some r) = preflight_books (value_in (codes "bind") r.options) r.names

-- the option `--bind` and names of playbooks, at least one, as the words behind `run` are read
abbrev pub preflight_asks : List Text → Request
preflight_asks words = preflight_of (read (codes "bind" ∷ []) words)

-- what the names behind a first word ask for
abbrev pub commands : List (Named (List Text → Request))
commands =
    named (codes "help") help_asks
    ∷ named (codes "--help") help_asks
    ∷ named (codes "-h") help_asks
    ∷ named (codes "version") version_asks
    ∷ named (codes "--version") version_asks
    ∷ named (codes "log") log_asks
    ∷ named (codes "graph") graph_asks
    ∷ named (codes "explain") explain_asks
    ∷ named (codes "preflight") preflight_asks
    ∷ []

abbrev pub asks_of : List Text → Option (List Text → Request) → Request
asks_of names None = lacks want.First
asks_of names (Some asks) = asks names

abbrev pub first_asks : Text → List Text → Request
first_asks first names = asks_of names (first_named first commands)

-- the first word says what is asked for; no words at all ask for help
abbrev pub request : List Text → Request
request [] = helps
request (first ∷ names) = first_asks first names
