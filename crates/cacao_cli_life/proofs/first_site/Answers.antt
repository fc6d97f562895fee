use Rattle.cacao_cli_life.proofs.FirstSite.{first_begins}
use Rattle.cacao_cli_life.proofs.first_site.Goals as goal

pub returns : goal.returns
returns c = record { begins = first_begins _ c.new.result c.new.ensures.view }
