-- Time goes on, and parcels that were held back become pending.
use Rattle.std.proofs.Common.{arith, refl, rules}
use Rattle.cacao_site_memory.proofs.SiteLemmas.{reaches-from}
use Rattle.cacao_site_memory.proofs.site_link.MemorySiteSite.reach.Goals as goal

pub returns-clause-reaches : goal.returns-clause-reaches
returns-clause-reaches c = reaches-from c.args.moment c.reach-now.result _ _ _ refl (omega arith) c.reach-now.ensures.now c.reach-now.ensures.asked c.reach-now.ensures.furthest c.reach-now.ensures.shorts refl (search rules) (search rules) (search rules) refl c.release.ensures.pending
