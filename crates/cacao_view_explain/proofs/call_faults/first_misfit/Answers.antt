use Rattle.cacao_view_explain.proofs.call_faults.first_misfit.Goals as goal

pub loop-number-init : goal.loop-number-init
loop-number-init c = c.new-memory.ensures c.args.book.now
