-- The call is one on this file.
use Rattle.cacao_site_memory.proofs.site_calls.MemorySiteDisk.length.Goals as goal

pub returns-then-fails-clause-call : goal.returns-then-fails-clause-call
returns-then-fails-clause-call c = c.pass_failed.ensures.call c.args.file

pub returns-clause-call : goal.returns-clause-call
returns-clause-call c = c.pass.ensures.call c.args.file
