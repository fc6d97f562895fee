-- The word is one of the first six, or a later one.
use Rattle.std.proofs.Common.{◌∙◌, drop, take}
use Rattle.cacao_view_words.specs.Topics.{topics}
use Rattle.cacao_view_words.proofs.TopicLemmas.{named-behind, named-found}
use Rattle.cacao_view_words.proofs.topic.topic_in.Goals as goal

pub returns-in-Some : goal.returns-in-Some
returns-in-Some c = named-found c.args.word.now (take 6 topics) (drop 6 topics) c.in-Some.topic c.in-Some.ensures

pub returns-in-None : goal.returns-in-None
returns-in-None c = c.later_topic.ensures ∙ named-behind c.args.word.now (take 6 topics) (drop 6 topics) c.in-None.ensures
