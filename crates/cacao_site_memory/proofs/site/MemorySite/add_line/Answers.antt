-- The files stay, and the line has the present beat.
use Rattle.std.proofs.Common.{◌≡◌, ℕ, List, ◌+◌, length, ap, subst, sym, arith}
use Rattle.cacao_site_memory.specs.KeptFiles.{AreKept}
use Rattle.cacao_site_log.specs.Replay.{Call}
use Rattle.cacao_site_memory.specs.declared.plan.SitePlan.{SitePlan}
use Rattle.cacao_site_memory.proofs.SiteLemmas.{in-time-push}
use Rattle.cacao_site_memory.proofs.site.MemorySite.add_line.Goals as goal

pub invariant_of-self-clause-are_kept : goal.invariant_of-self-clause-are_kept
invariant_of-self-clause-are_kept c = subst (λ (l : List Call). AreKept c.pass_line.new.self.starts l c.pass_line.new.self.kept) (sym c.say.ensures.calls) c.pass_line.new.self.are_kept

pub invariant_of-self-clause-said_in_time : goal.invariant_of-self-clause-said_in_time
invariant_of-self-clause-said_in_time c =
    in-time-push _ (c.pass_line.new.self.first_beat + c.pass_line.new.self.calls) c.pass_line.new.self.log.lines _ c.args.bytes.now (omega arith) c.say.ensures.lines c.pass_line.new.self.said_in_time

pub say-requires-clause-line : goal.say-requires-clause-line
say-requires-clause-line c =
    let plan : c.pass_line.new.self.plan.calls ≡ c.args.self.now.plan.calls = ap (λ (p : SitePlan). p.calls) c.pass_line.ensures.rest.plan in
    omega (arith, plan, ap (λ (l : List (ℕ × List ℕ)). length l) c.pass_line.ensures.rest.lines, c.pass_line.ensures.rest.line_room, c.args.self.now.line_most)

pub invariant_of-self-clause-line_most : goal.invariant_of-self-clause-line_most
invariant_of-self-clause-line_most c =
    let plan : c.pass_line.new.self.plan.calls ≡ c.args.self.now.plan.calls = ap (λ (p : SitePlan). p.calls) c.pass_line.ensures.rest.plan in
    omega (arith, plan, ap (λ (l : List (ℕ × List ℕ)). length l) c.pass_line.ensures.rest.lines, c.pass_line.ensures.rest.line_room, c.args.self.now.line_most, c.say.ensures.count, c.say.ensures.most_lines, c.pass_line.ensures.calls)
