-- The parcels that are left, by their places.
use Rattle.std.proofs.Common.{drop}
use Rattle.cacao_site_memory.proofs.ParcelLemmas.{take-named}
use Rattle.cacao_site_memory.proofs.link.Link.take_first.Goals as goal

pub returns-clause-named : goal.returns-clause-named
returns-clause-named c = λ named.
    rw (c.pop_front.ensures.rest, c.in_ok-push.ensures.items)
    (take-named c.args.self.now.puts.items c.args.self.now.pending.items c.args.self.now.held.items c.args.self.now.taken.items c.args.place c.args.beat (drop 1 c.args.self.now.pending.items) c.requires.first c.requires.put c.requires.before named)
