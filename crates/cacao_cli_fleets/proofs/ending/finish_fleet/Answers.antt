-- The line of another playbook.
use Rattle.std.proofs.Common.{sym, subst, codes}
use Rattle.cacao_cli_fleets.specs.FleetEnds.{TellsFleet, fleet_end_of}
use Rattle.cacao_cli_fleets.specs.declared.fleet_end.FleetEnd.{FleetEnd}
use Rattle.cacao_cli_fleets.proofs.EndLemmas.{other_text}
use Rattle.cacao_cli_fleets.proofs.MadeLemmas.{made, two}
use Rattle.cacao_cli_fleets.proofs.ending.finish_fleet.Goals as goal

pub returns-in-OtherBook : goal.returns-in-OtherBook
returns-in-OtherBook g c =
    subst (λ (e : FleetEnd). TellsFleet (fleet_end_of e) (g.S.Disk.view c.args.site.now) (g.S.Disk.view c.say_made-in-OtherBook.new.site) c.say_made-in-OtherBook.result) (sym c.in-OtherBook.is)
    (made (other_text c.in-OtherBook.run' c.in-OtherBook.index) _ 12 c.format-in-OtherBook.result (g.S.Disk.view c.args.site.now) (g.S.Disk.view c.say_made-in-OtherBook.new.site) c.say_made-in-OtherBook.result
    (two (codes "other playbook ") c.in-OtherBook.run' c.in-OtherBook.index) c.format-in-OtherBook.ensures.ok c.say_made-in-OtherBook.ensures)
