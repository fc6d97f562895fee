use Rattle.std.proofs.Common.{◌≡◌, ℕ, true, false, List, IsTrue, refl, sym, subst}
use Rattle.std.specs.Prelude.{◌↔◌}
use Rattle.run_records.specs.declared.act.Act.{Act}
use Rattle.flow_laws.specs.Acts.{ReadsAs}
use Rattle.flow_audit.specs.Breaks.{HasItsAct}
use Rattle.flow_audit.specs.Files.{acts_of}
use Rattle.flow_audit.specs.Parts.{HasTaken, IsActed, IsFlowOf, lists_of}
use Rattle.flow_audit.proofs.ReplyLemmas.{has_act, lacks_act}
use Rattle.flow_audit.proofs.answering.check_reply.Goals as goal

pub returns-clause-has : goal.returns-clause-has
returns-clause-has c = λ is.
    let records = c.args.run.now.file.records.items in
    let acts : ℕ → List Act = acts_of (lists_of c.args.filters.now) in
    let v = c.in-Some.flow in
    let r = c.in-Reply in
    let taken : HasTaken records v = subst (IsFlowOf records) c.in-Some.is c.requires.flow in
    let reads : List ℕ → Type 0 = ReadsAs r.status r.rule c.as_slice.result.now in
    let both : IsTrue true ↔ IsActed v.seen acts r.issue reads = (rw is at c.is_acted.ensures) in
    let acted : IsActed v.seen acts r.issue (ReadsAs r.status r.rule r.text) =
    subst (λ (t : List ℕ). IsActed v.seen acts r.issue (ReadsAs r.status r.rule t)) c.as_slice.ensures (both.0 refl) in
    subst (HasItsAct records acts) (sym r.is) (has_act c.accepted_is_runnable.ensures records v acts r.issue r.moment r.status r.rule r.text taken acted)

pub returns-clause-lacks : goal.returns-clause-lacks
returns-clause-lacks c = λ is has.
    let records = c.args.run.now.file.records.items in
    let acts : ℕ → List Act = acts_of (lists_of c.args.filters.now) in
    let v = c.in-Some.flow in
    let r = c.in-Reply in
    let taken : HasTaken records v = subst (IsFlowOf records) c.in-Some.is c.requires.flow in
    let reads : List ℕ → Type 0 = ReadsAs r.status r.rule c.as_slice.result.now in
    let both : IsTrue false ↔ IsActed v.seen acts r.issue reads = (rw is at c.is_acted.ensures) in
    let unacted : IsActed v.seen acts r.issue (ReadsAs r.status r.rule r.text) → ⊥ =
    λ acted. let wrong : false ≡ true = both.1 (subst (λ (t : List ℕ). IsActed v.seen acts r.issue (ReadsAs r.status r.rule t)) (sym c.as_slice.ensures) acted) in cc in
    lacks_act c.accepted_is_runnable.ensures records v acts r.issue r.moment r.status r.rule r.text taken unacted (subst (HasItsAct records acts) r.is has)
