use Rattle.std.proofs.Common.{◌≡◌, ◌-◌, ◌+◌, ℕ, List, sym, subst, arith}
use Rattle.run_records.specs.Ranges.{ActInRange, InRange}
use Rattle.run_records.specs.Reading.{act_of, record_of}
use Rattle.flow_audit.specs.Parts.{AreFilters, IsFileOf, StopsFile}
use Rattle.flow_audit.specs.declared.reading.ActFile.{ActFile}
use Rattle.flow_audit.proofs.FileLemmas.{filters_more, first_bad, later_bad, no_filters}
use Rattle.flow_audit.proofs.reading.read_files.Goals as goal

pub loop-agent-init : goal.loop-agent-init
loop-agent-init c = subst (λ (l : List ActFile). AreFilters c.args.files.now 0 l) (sym c.new-filters.ensures.items) (no_filters c.args.files.now)

pub loop-agent-preserved : goal.loop-agent-preserved
loop-agent-preserved c =
    let files = c.args.files.now in
    let agent = c.loop-agent.agent in
    let file = c.in-Ok-read_acts.file in
    subst (λ (l : List ActFile). AreFilters files (agent + 1 - 1) l) (sym c.in_ok-push-in-Ok-read_acts.ensures.items)
    (filters_more files agent c.loop-agent.filters.items file (omega arith) c.loop-agent.invariant
    (subst (λ (image : List ℕ). IsFileOf act_of ActInRange image file.entries file.acts.items) c.file-in-loop-agent.ensures c.in-Ok-read_acts.ensures.ok))

pub returns-in-Err-clause-stops : goal.returns-in-Err-clause-stops
returns-in-Err-clause-stops c =
    first_bad c.args.files.now c.in-Err.stop (subst (λ (image : List ℕ). StopsFile record_of 0 image c.in-Err.stop) c.file.ensures c.in-Err.ensures.stops)

pub returns-in-Err-read_acts-clause-stops : goal.returns-in-Err-read_acts-clause-stops
returns-in-Err-read_acts-clause-stops c =
    let files = c.args.files.now in
    let agent = c.loop-agent.agent in
    later_bad files agent c.in-Ok.journal.entries c.in-Ok.journal.records.items c.loop-agent.filters.items c.in-Err-read_acts.stop (omega arith) (omega arith)
    (subst (λ (image : List ℕ). IsFileOf record_of InRange image c.in-Ok.journal.entries c.in-Ok.journal.records.items) c.file.ensures c.in-Ok.ensures.ok) c.loop-agent.invariant
    (subst (λ (image : List ℕ). StopsFile act_of agent image c.in-Err-read_acts.stop) c.file-in-loop-agent.ensures c.in-Err-read_acts.ensures.stops)

pub returns-clause-filters : goal.returns-clause-filters
returns-clause-filters c =
    let end : c.loop-agent.agent - 1 ≡ 16 = omega arith in
    subst (λ m. AreFilters c.args.files.now m c.loop-agent.filters.items) end c.loop-agent.invariant
