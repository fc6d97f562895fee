use Rattle.cacao_check.proofs.walking.keeps_of_step.Goals as goal

pub returns-in-K19-clause-keeps : goal.returns-in-K19-clause-keeps
returns-in-K19-clause-keeps c = rw c.in-K19.is c.keeps_k19.ensures

pub returns-in_ok-k22-in-K22-clause-keeps : goal.returns-in_ok-k22-in-K22-clause-keeps
returns-in_ok-k22-in-K22-clause-keeps c = rw c.in-K22.is c.in_ok-k22-in-K22.ensures.keeps

pub returns-in_ok-k23-in-K23-clause-keeps : goal.returns-in_ok-k23-in-K23-clause-keeps
returns-in_ok-k23-in-K23-clause-keeps c = rw c.in-K23.is c.in_ok-k23-in-K23.ensures.keeps

pub returns-in_ok-k24-in-K24-clause-keeps : goal.returns-in_ok-k24-in-K24-clause-keeps
returns-in_ok-k24-in-K24-clause-keeps c = rw c.in-K24.is c.in_ok-k24-in-K24.ensures.keeps
