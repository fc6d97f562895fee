-- An issue that expires was put in the same session, or a mishap was counted.
use Rattle.std.proofs.Common.{◌≡◌, ◌⊎◌, ℕ, ◌+◌, ◌≤◌, List, length, subst, ap, arith}
use Rattle.std.specs.Prelude.{Some}
use Rattle.cacao_site.specs.Counts.{last_count}
use Rattle.cacao_site.specs.LinkCalls.{GainsAll}
use Rattle.cacao_site.specs.View.{CountsView, LinkView, SiteView}
use Rattle.run_records.specs.declared.record.Record.TheVariants as entry
use Rattle.flow_core_rules.specs.Givens.{Given}
use Rattle.flow_engine.specs.OpenIssues.{count_of}
use Rattle.flow_engine_answers.specs.declared.answers.OperatorAnswer.{OperatorAnswer}
use Rattle.flow_world_steps.specs.Link.{PutsOrLost, commands_of}
use Rattle.flow_world_steps.specs.Sides.{times}
use Rattle.flow_world_steps.specs.Steps.{Step, Steps}
use Rattle.flow_world_steps.specs.Steps.Steps.{nothing}
use Rattle.flow_world_steps.specs.Worlds.{Notes, World}
use Rattle.flow_world_steps.proofs.Adding.{steps_add}
use Rattle.flow_world_steps.proofs.Lost.{steps_put_or_lose}
use Rattle.flow_world_steps.proofs.Put.{step_noted, steps_put_few}
use Rattle.flow_world_steps.proofs.Whole.{steps_add_up}
use Rattle.flow_world_laws.specs.AllCame.{WentOn}
use Rattle.flow_world_laws.specs.Came.{WasOverdue}
use Rattle.flow_world_laws.specs.Expires.{EachExpiryWasPut, ExpiresArePut, HasExpired}
use Rattle.flow_world_laws.proofs.Came.{offered_came, record_came, went_on}

pub expiries_put : (given : Given) (run most : ℕ) (answers : List OperatorAnswer) (a b : World) (old new : SiteView) → WentOn given run most answers a b old new
    → ExpiresArePut run a b old new
expiries_put given run most answers a b old new went = record {
  put = lost.put;
  puts = subst (λ (l : LinkView). GainsAll l.puts lost.put new.link.puts) went.rest.link
      (subst (λ (s : SiteView). GainsAll a.site.link.puts lost.put s.link.puts) went.to_is lost.puts);
  lost = lost.lost;
  few = subst (λ (c : CountsView). (c.mishaps + length lost.lost ≤ new.counts.mishaps) ⊎ (last_count ≤ new.counts.mishaps)) went.rest.counts
      (subst (λ (s : SiteView). (a.site.counts.mishaps + length lost.lost ≤ s.counts.mishaps) ⊎ (last_count ≤ s.counts.mishaps)) went.to_is lost.few);
  each = each;
  offered = offered;
}
  where
    lost : PutsOrLost a b
    lost = steps_put_or_lose a b went.steps

    -- an issue that was put at this world
    put_then : (issue : ℕ) (w then_ : World) → Step w then_ → Steps then_ b → 1 ≤ count_of w.engine.puts issue → count_of w.engine.puts issue ≤ times issue w.notes.put
        → 1 ≤ commands_of run issue lost.put + times issue lost.lost
    put_then issue w then_ step after some noted =
        let call = (step_noted w then_ step).noted issue in
        let later = (steps_put_few then_ b after).noted issue in
        let all = lost.each issue in
        let none : times issue a.notes.put ≡ 0 = ap (λ (n : Notes). times issue n.put) went.begins.notes in
        let same : commands_of a.engine.history.seen.run issue lost.put ≡ commands_of run issue lost.put = ap (λ (r : ℕ). commands_of r issue lost.put) went.begins.of_run in
        omega (arith, some, noted, call, later, all, none, same)

    each : (issue : ℕ) → HasExpired a b issue → 1 ≤ commands_of run issue lost.put + times issue lost.lost
    each issue is =
        let came = record_came given run most answers a b old new went is.front is.back (entry.Expire issue is.moment) is.is in
        let why : WasOverdue issue came.old = came.why in
        let counted = (steps_add_up a came.old given run most answers went.begins came.before).counted in
        put_then issue came.old came.new came.step came.after why.put (counted.noted issue)

    offered : (issue moment : ℕ) → b.notes.unsure ≡ Some (entry.Expire issue moment) → 1 ≤ commands_of run issue lost.put + times issue lost.lost
    offered issue moment unsure =
        let adds = steps_add a b went.steps in
        let came = (offered_came given run most answers a b old new went adds.added (entry.Expire issue moment) adds.is unsure).0 in
        let why : WasOverdue issue came.old = came.why in
        let counted = (steps_add_up a came.old given run most answers went.begins came.before).counted in
        put_then issue came.old b came.step nothing why.put (counted.noted issue)

pub each_expiry_was_put : EachExpiryWasPut
each_expiry_was_put given run most answers old new went = expiries_put given run most answers went.start went.to old new (went_on given run most answers old new went)
