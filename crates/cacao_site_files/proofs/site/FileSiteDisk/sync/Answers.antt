-- The call is one on this file.
use Rattle.cacao_site_files.proofs.site.FileSiteDisk.sync.Goals as goal

pub returns-in-Ok-clause-call : goal.returns-in-Ok-clause-call
returns-in-Ok-clause-call g c = c.succeed.ensures.call c.args.file 0

pub returns-in-Err-clause-call : goal.returns-in-Err-clause-call
returns-in-Err-clause-call g c = c.fail.ensures.call c.args.file 0
