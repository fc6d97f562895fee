-- The byte that was put, and the others.
use Rattle.std.proofs.Common.{◌∙◌, arith}
use Rattle.cacao_site_memory.proofs.PageLemmas.{byte-put, byte-put_other}
use Rattle.cacao_site_memory.proofs.kept_files.KeptFiles.put.Goals as goal

pub returns-clause-put : goal.returns-clause-put
returns-clause-put c = λ done.
    byte-put c.page_at-page.new.self.table.items c.page_at-page.new.self.pages.items c.page_at-page.new.self.count c.args.file c.args.place c.page_at-page.result c.args.byte c.page_at-page.new.self.paged c.page_at-page.ensures.page (omega arith)

pub returns-clause-others : goal.returns-clause-others
returns-clause-others c = λ other k low ne.
    byte-put_other c.page_at-page.new.self.table.items c.page_at-page.new.self.pages.items c.page_at-page.new.self.count c.args.file c.args.place c.page_at-page.result c.args.byte c.page_at-page.new.self.paged c.page_at-page.ensures.page (omega arith) other k c.requires low ne
    ∙ c.page_at-page.ensures.bytes other k
