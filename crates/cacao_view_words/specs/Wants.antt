-- Promise: What is said where the words have no reading.
use Rattle.cacao_view_words.specs.Texts.{Text}
use Rattle.cacao_view_words.specs.declared.wanted.TheConstants.{WANTED_FIRST, WANTED_TOPIC, WANTED_NO_MORE, WANTED_LOG, WANTED_GRAPH, WANTED_RULE, WANTED_PLAYBOOK}
use Rattle.cacao_view_words.specs.declared.wanted.Wanted.{Wanted}
use Rattle.cacao_view_words.specs.declared.wanted.Wanted.TheVariants as want

abbrev pub wanted_line : Wanted → Text
wanted_line want.First = WANTED_FIRST.now
wanted_line want.Topic = WANTED_TOPIC.now
wanted_line want.NoMore = WANTED_NO_MORE.now
wanted_line want.Log = WANTED_LOG.now
wanted_line want.Graph = WANTED_GRAPH.now
wanted_line want.Rule = WANTED_RULE.now
wanted_line want.Playbook = WANTED_PLAYBOOK.now
