use Rattle.run_journal.proofs.DurableLemmas.{file_stays, items_stay}
use Rattle.run_journal.proofs.journal.Journal.append_behind.Goals as goal

pub returns-in-Err-clause-file : goal.returns-in-Err-clause-file
returns-in-Err-clause-file g c =
    let says = c.in-Err.ensures in
    file_stays c.in-Err.error c.args.self.now c.append.new.self says.breaks (λ e. (says.broken_stays e).1) (λ needed e. (says.full_stays needed e).1) says.no_other

pub returns-in-Err-clause-items : goal.returns-in-Err-clause-items
returns-in-Err-clause-items g c =
    let says = c.in-Err.ensures in
    items_stay c.in-Err.error c.args.self.now c.append.new.self says.breaks (λ e. (says.broken_stays e).1) (λ needed e. (says.full_stays needed e).1) says.no_other

pub returns-in-Err-clause-no_other : goal.returns-in-Err-clause-no_other
returns-in-Err-clause-no_other g c = λ place.
    let says = c.in-Err.ensures in
    ((λ e. let both = says.broken.0 e in let whole = c.requires.whole in cc), (says.no_other place).1, (says.no_other place).0)
