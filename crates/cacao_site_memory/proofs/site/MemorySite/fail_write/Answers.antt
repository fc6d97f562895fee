-- The call is one on this file.
use Rattle.cacao_site_memory.proofs.site.MemorySite.fail_write.Goals as goal

pub returns-else-self-from-clause-call : goal.returns-else-self-from-clause-call
returns-else-self-from-clause-call c = c.refuse.ensures.call c.args.file
