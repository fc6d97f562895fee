-- The parcel is lost and counted.
use Rattle.std.proofs.Common.{arith, refl, rules}
use Rattle.cacao_site_memory.proofs.SiteLemmas.{puts-lost}
use Rattle.cacao_site_memory.proofs.site.MemorySite.lose.Goals as goal

pub returns-clause-puts : goal.returns-clause-puts
returns-clause-puts c = λ parcel. puts-lost parcel _ _ refl (search rules) c.count_put.ensures.says c.count_put.ensures.unsaid refl (omega arith) c.count_put.ensures.mishaps
