-- The call is one on this file.
use Rattle.std.proofs.Common.{length}
use Rattle.cacao_site_files.proofs.site.FileSiteDisk.write.Goals as goal

pub returns-in-Ok-clause-call : goal.returns-in-Ok-clause-call
returns-in-Ok-clause-call g c = c.succeed.ensures.call c.args.file (length c.args.bytes.now)

pub returns-in-Err-clause-call : goal.returns-in-Err-clause-call
returns-in-Err-clause-call g c = c.fail.ensures.call c.args.file (length c.args.bytes.now)
