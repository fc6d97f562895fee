use Rattle.cacao_view_graph.proofs.NoteLemmas.{told_note, told_rest}
use Rattle.cacao_view_graph.proofs.noting.note_task.Goals as goal

pub returns-clause-rest : goal.returns-clause-rest
returns-clause-rest c =
    told_rest c.args.key c.args.lines.now c.behind_words-words.result.now c.behind_way.result.now c.way_told-way.result c.behind_words-words.ensures c.way_told-way.ensures c.behind_way.ensures

pub returns-clause-notes : goal.returns-clause-notes
returns-clause-notes c =
    told_note c.args.task c.args.spot c.args.lines.now c.behind_words-words.result.now c.in_ok-text.text c.way_told-way.result c.args.notes.now.items c.push.new.self.items
    c.behind_words-words.ensures c.way_told-way.ensures c.in_ok-text.ensures c.in_ok-push.ensures.items
