use Rattle.std.proofs.Common.{◌≡◌, Some, true, false, subst, sym}
use Rattle.std.specs.Prelude.{MatchOption}
use Rattle.cacao_check.specs.Fits.{FitsKind}
use Rattle.run_records.specs.declared.record.Record.{Record}
use Rattle.run_records.specs.declared.record.Record.TheVariants as entry
use Rattle.flow_core_rules.specs.Accepted.{Accepted}
use Rattle.flow_core_plans.specs.Setups.{AreAccepted}
use Rattle.flow_core.specs.TakenRecords.{BeginsNone, HasBegun, IsStarted, NoneAccepted}
use Rattle.flow_core.proofs.BeginLemmas.{has_begun, late_begun, none_arm, not_begun, some_arm}
use Rattle.flow_core.proofs.flow.Flow.begun.Goals as goal

pub returns-in_default-2 : goal.returns-in_default-2
returns-in_default-2 c =
    let b = c.in-Begin in
    not_begun c.args.first.now b.run' b.moment b.books b.bind b.is
    (none_arm (NoneAccepted b.books b.bind) (Accepted AreAccepted FitsKind b.books b.bind) c.in_ok-setup.field-0 c.in_ok-setup.ensures c.in_default-2.not-Some)

pub returns-then-branch : goal.returns-then-branch
returns-then-branch c =
    let b = c.in-Begin in
    let given = c.in-Some.setup in
    let accepted = some_arm (NoneAccepted b.books b.bind) (Accepted AreAccepted FitsKind b.books b.bind) c.in_ok-setup.field-0 given c.in_ok-setup.ensures c.in-Some.is in
    let started : IsStarted c.idle-flow.result c.args.first.now true c.start.new.flow =
    subst (λ b. IsStarted c.idle-flow.result c.args.first.now b c.start.new.flow) c.if-branch.true c.in_ok-start.ensures in
    subst (λ (r : Record). HasBegun r c.start.new.flow) (sym b.is)
    (has_begun c.idle-flow.result c.start.new.flow b.run' b.moment b.books b.bind given accepted c.idle-flow.ensures.count c.idle-flow.ensures.seen
    (subst (λ (r : Record). IsStarted c.idle-flow.result r true c.start.new.flow) b.is started))

pub returns-else-branch : goal.returns-else-branch
returns-else-branch c =
    let b = c.in-Begin in
    let given = c.in-Some.setup in
    let accepted = some_arm (NoneAccepted b.books b.bind) (Accepted AreAccepted FitsKind b.books b.bind) c.in_ok-setup.field-0 given c.in_ok-setup.ensures c.in-Some.is in
    let started : IsStarted c.idle-flow.result c.args.first.now false c.start.new.flow =
    subst (λ b. IsStarted c.idle-flow.result c.args.first.now b c.start.new.flow) c.if-branch.false c.in_ok-start.ensures in
    subst BeginsNone (sym b.is)
    (late_begun c.idle-flow.result b.run' b.moment b.books b.bind given accepted c.idle-flow.ensures.count c.idle-flow.ensures.seen
    (subst (λ (r : Record). IsStarted c.idle-flow.result r false c.start.new.flow) b.is started))
