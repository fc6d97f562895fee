-- What a command does that holds no session is what its words ask.
use Rattle.std.proofs.Common.{inl, inr, Option}
use Rattle.cacao_site.specs.View.{SiteView}
use Rattle.cacao_cli_ends.specs.Asked.{Asked}
use Rattle.cacao_cli_ends.specs.Ends.{End}
use Rattle.cacao_cli_ends.specs.Files.{ShelfCall}
use Rattle.cacao_cli_ends.specs.Work.{Work, ends, judges, opens_filter, opens_run, compares, rehearsals, starts, work}
use Rattle.cacao_cli_looks.specs.Looking.{Looks, Looked}
use Rattle.cacao_cli_status_laws.specs.Ended.{Performs, Performed}

looks-performs : (w : Work) (old new : SiteView) (last : End) → Looks w old new last → Performs w old new last
looks-performs (ends lines end) old new last h = h
looks-performs (opens_filter agent look) old new last h = h
looks-performs opens_run old new last h = h
looks-performs (compares files) old new last h = h
looks-performs (rehearsals positions) old new last h = absurd h
looks-performs (starts start) old new last h = absurd h
looks-performs (judges trees mode accepted) old new last (inl h) = inl (h.0, looks-performs accepted old new last h.1)
looks-performs (judges trees mode accepted) old new last (inr h) = inr h

pub looked_performed : (asked : Option Asked) (shelf : ShelfCall) (old new : SiteView) (last : End) → Looked asked shelf old new last → Performed asked shelf old new last
looked_performed asked shelf old new last h = record { read = h.read; reads = h.reads; performs = looks-performs (work asked h.read) old new last h.looks }
