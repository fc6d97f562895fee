use Rattle.cacao_view_explain.proofs.name_faults.first_unseen.Goals as goal

pub loop-name-init : goal.loop-name-init
loop-name-init c = c.new-memory.ensures c.args.book.now
