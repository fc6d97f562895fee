-- The parcel is lost.
use Rattle.cacao_site_memory.proofs.site_link.MemorySiteSite.put.Goals as goal

pub returns-then-room-from-clause-puts : goal.returns-then-room-from-clause-puts
returns-then-room-from-clause-puts c = c.lose.ensures.puts c.args.parcel
