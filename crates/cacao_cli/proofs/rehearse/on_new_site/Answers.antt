-- The rehearsal has a summary, or the end says why it has none.
use Rattle.std.proofs.Common.{sym, subst}
use Rattle.cacao_cli_rehearsal.specs.Sites.{inside}
use Rattle.cacao_cli_ends.specs.Ends.{End}
use Rattle.cacao_cli_status_laws.specs.Rehearsing.{TellsRehearsal}
use Rattle.cacao_cli_status_laws.proofs.RehearseLemmas.{has-failed, has-summary}
use Rattle.cacao_cli.proofs.rehearse.on_new_site.Goals as goal

pub returns-in-Ok-rehearse : goal.returns-in-Ok-rehearse
returns-in-Ok-rehearse c = subst (λ (e : End). TellsRehearsal c.args.wanted.count e) (sym c.rehearsed_end.ensures)
    (has-summary c.args.wanted.count (inside c.in-Ok.site) (inside c.rehearse.new.site) c.in-Ok-rehearse.summary c.in-Ok.ensures c.in-Ok-rehearse.ensures.by_plan c.in-Ok-rehearse.ensures.ok)

pub returns : goal.returns
returns c = subst (λ (e : End). TellsRehearsal c.args.wanted.count e) (sym c.failed_end.ensures)
    (has-failed c.args.wanted.count (inside c.in-Ok.site) (inside c.rehearse.new.site) c.in-Err-rehearse.error c.args.wanted.few c.in-Ok.ensures (c.in-Err-rehearse.ensures.new_site c.in-Ok.ensures) c.in-Err-rehearse.ensures.by_plan c.in-Err-rehearse.ensures.err)
