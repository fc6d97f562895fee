-- The call is counted, and no file changes.
use Rattle.std.proofs.Common.{arith, rules}
use Rattle.cacao_site_memory.proofs.SiteLemmas.{says-from}
use Rattle.cacao_site_memory.proofs.site_link.MemorySiteSite.say.Goals as goal

pub returns-then-fails-clause-only : goal.returns-then-fails-clause-only
returns-then-fails-clause-only c =
    says-from _ _ c.pass_line.ensures.keeps c.pass_line.ensures.disk_calls (omega arith) c.pass_line.ensures.says (search rules) (search rules) (search rules) (search rules) (search rules) c.pass_line.ensures.mishaps (omega (arith, c.pass_line.ensures.unsaid, c.pass_line.ensures.unsaid_fits))

pub returns-clause-only : goal.returns-clause-only
returns-clause-only c =
    says-from _ _ c.add_line.ensures.keeps c.add_line.ensures.disk_calls (omega arith) c.add_line.ensures.says (search rules) (search rules) (search rules) (search rules) (search rules) c.add_line.ensures.mishaps (omega arith)
