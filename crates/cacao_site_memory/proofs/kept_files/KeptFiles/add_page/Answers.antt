-- Each byte stays where a block gets a page.
use Rattle.std.proofs.Common.{List, ℕ, ◌∙◌, ap, replicate, slice_set}
use Rattle.std.proofs.lemmas.List.{length-replicate}
use Rattle.cacao_site_memory.specs.Pages.{byte_in}
use Rattle.cacao_site_memory.proofs.PageLemmas.{byte-grown, zero_at}
use Rattle.cacao_site_memory.proofs.kept_files.KeptFiles.add_page.Goals as goal

pub returns-clause-bytes : goal.returns-clause-bytes
returns-clause-bytes c = λ file place.
    ap (λ (l : List ℕ). byte_in (slice_set c.args.self.now.table.items c.args.slot c.args.self.now.count) l file place) c.add_zeros.ensures.items
    ∙ byte-grown c.args.self.now.table.items c.args.self.now.pages.items (replicate 4096 0) c.args.self.now.count c.args.slot c.args.self.now.paged c.requires.none c.requires.slot (length-replicate {A = ℕ} 4096 0) (zero_at 4096) file place
