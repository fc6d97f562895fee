use Rattle.std.proofs.Common.{ap, refl, sym, subst}
use Rattle.std.specs.Prelude.{IfErr, OnOk}
use Rattle.flow_fleet.specs.Journals.{OpensNextJournal, RefusesNextJournal}
use Rattle.flow_fleet.proofs.OpenLemmas.{no_memory}
use Rattle.flow_fleet.proofs.opening.open_next.Goals.{in-Ok-push, in-Err-push}
use Rattle.flow_fleet.proofs.opening.open_next.Goals as goal

pub returns-after-push-clause-refused : goal.returns-after-push-clause-refused
returns-after-push-clause-refused g c = elim c.match-push.branch [
  | in-Ok-push w ↦ subst (λ r. IfErr r (λ error. RefusesNextJournal error c.args.place c.args.run c.args.setup (g.R.Disk.view c.args.rack.now) (g.R.Disk.view c.open_at.new.rack))) (sym w.result-is) tt
  | in-Err-push w ↦ subst (λ r. IfErr r (λ error. RefusesNextJournal error c.args.place c.args.run c.args.setup (g.R.Disk.view c.args.rack.now) (g.R.Disk.view c.open_at.new.rack))) (sym w.result-is)
      (no_memory c.args.place c.args.run c.args.setup (g.R.Disk.view c.args.rack.now) (g.R.Disk.view c.open_at.new.rack) c.in-Ok.engine c.in-Ok.ensures.opens)
]
