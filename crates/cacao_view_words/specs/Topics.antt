-- Promise: The words of the two programs, and what is said of each.
use Rattle.std.specs.Prelude.{List, map, [], ◌∷◌, Option, Some, None, codes, if◌then◌else◌}
use Rattle.std.specs.Str.{bytes_eq}
use Rattle.cacao_view_words.specs.Texts.{Text}
use Rattle.cacao_view_words.specs.declared.topic.Topic.{Topic}
use Rattle.cacao_view_words.specs.declared.topic.Topic.TheVariants as word
use Rattle.cacao_view_words.specs.declared.topic_texts.TheConstants.{CANON, CHECK, RUN, PAIR, FILTERS, FLEET, SHOW, RULES, DECIDE, SHADOW, AUDIT}
use Rattle.cacao_view_words.specs.declared.topic_texts.TheConstants.{REHEARSE, HELP, VERSION, LOG, GRAPH, EXPLAIN, PREFLIGHT, ALL_WORDS, VERSION_LINES}

-- a word, and what stands for it
pub record Named (A : Type 0) : Type 0 where
  pub name : Text
  pub item : A

abbrev pub named : {A : Type 0} → Text → A → Named A
named name item = record { name = name; item = item }

-- the first of that name
abbrev pub first_named : {A : Type 0} → Text → List (Named A) → Option A
first_named text [] = None
first_named text (one ∷ more) = if bytes_eq text one.name then Some one.item else first_named text more

-- the words of `cacao`, and then those of the program that only looks
abbrev pub topics : List (Named Topic)
topics =
    named (codes "canon") word.Canon
    ∷ named (codes "check") word.Check
    ∷ named (codes "run") word.Run
    ∷ named (codes "pair") word.Pair
    ∷ named (codes "filters") word.Filters
    ∷ named (codes "fleet") word.Fleet
    ∷ named (codes "show") word.Show
    ∷ named (codes "rules") word.Rules
    ∷ named (codes "decide") word.Decide
    ∷ named (codes "shadow") word.Shadow
    ∷ named (codes "audit") word.Audit
    ∷ named (codes "rehearse") word.Rehearse
    ∷ named (codes "help") word.Help
    ∷ named (codes "version") word.Version
    ∷ named (codes "log") word.Log
    ∷ named (codes "graph") word.Graph
    ∷ named (codes "explain") word.Explain
    ∷ named (codes "preflight") word.Preflight
    ∷ []

abbrev pub topic_in : Text → Option Topic
topic_in text = first_named text topics

abbrev pub topic_lines : Topic → List Text
topic_lines word.Canon = map (λ line. line.now) CANON.now
topic_lines word.Check = map (λ line. line.now) CHECK.now
topic_lines word.Run = map (λ line. line.now) RUN.now
topic_lines word.Pair = map (λ line. line.now) PAIR.now
topic_lines word.Filters = map (λ line. line.now) FILTERS.now
topic_lines word.Fleet = map (λ line. line.now) FLEET.now
topic_lines word.Show = map (λ line. line.now) SHOW.now
topic_lines word.Rules = map (λ line. line.now) RULES.now
topic_lines word.Decide = map (λ line. line.now) DECIDE.now
topic_lines word.Shadow = map (λ line. line.now) SHADOW.now
topic_lines word.Audit = map (λ line. line.now) AUDIT.now
topic_lines word.Rehearse = map (λ line. line.now) REHEARSE.now
topic_lines word.Help = map (λ line. line.now) HELP.now
topic_lines word.Version = map (λ line. line.now) VERSION.now
topic_lines word.Log = map (λ line. line.now) LOG.now
topic_lines word.Graph = map (λ line. line.now) GRAPH.now
topic_lines word.Explain = map (λ line. line.now) EXPLAIN.now
topic_lines word.Preflight = map (λ line. line.now) PREFLIGHT.now

-- what is said of all words, and of the version
abbrev pub all_words : List Text
all_words = map (λ line. line.now) ALL_WORDS.now

abbrev pub version_lines : List Text
version_lines = map (λ line. line.now) VERSION_LINES.now
