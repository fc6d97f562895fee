use Rattle.std.proofs.Common.{arith, refl, subst}
use Rattle.std.specs.Prelude.{Option}
use Rattle.cacao_site.specs.declared.parcel.Parcel.{Parcel}
use Rattle.oc2_wire_site.specs.LineSteps.{StepsOn}
use Rattle.oc2_wire_site.specs.LinesOf.{lines_of}
use Rattle.oc2_wire_site.proofs.PassLemmas.{breaks_flooded, breaks_over, passed_more, passed_none, takes_command}
use Rattle.oc2_wire_site.proofs.line_link.LineLink.read_command.Goals as goal

pub loop-count-init : goal.loop-count-init
loop-count-init g c = passed_none (lines_of g.K.Link.view c.args.self.now) c.requires

pub loop-count-preserved : goal.loop-count-preserved
loop-count-preserved g c =
    passed_more c.loop-count._count (lines_of g.K.Link.view c.args.self.now) (lines_of g.K.Link.view c.loop-count.self) (lines_of g.K.Link.view c.read_or_answer.new.self) c.loop-count.invariant
    (subst (λ (t : Option Parcel). StepsOn t (lines_of g.K.Link.view c.loop-count.self) (lines_of g.K.Link.view c.read_or_answer.new.self)) c.in-Ok-None.field-0-is c.in-Ok-None.ensures.steps)

pub returns-in-Ok-Some-clause-reads : goal.returns-in-Ok-Some-clause-reads
returns-in-Ok-Some-clause-reads g c =
    takes_command c.loop-count._count c.in-Ok-Some.parcel (lines_of g.K.Link.view c.args.self.now) (lines_of g.K.Link.view c.loop-count.self) (lines_of g.K.Link.view c.read_or_answer.new.self) (omega arith) c.loop-count.invariant
    (subst (λ (t : Option Parcel). StepsOn t (lines_of g.K.Link.view c.loop-count.self) (lines_of g.K.Link.view c.read_or_answer.new.self)) c.in-Ok-Some.field-0-is c.in-Ok-Some.ensures.steps)

pub returns-in-Err-clause-reads : goal.returns-in-Err-clause-reads
returns-in-Err-clause-reads g c =
    breaks_over c.loop-count._count (lines_of g.K.Link.view c.args.self.now) (lines_of g.K.Link.view c.loop-count.self) (lines_of g.K.Link.view c.read_or_answer.new.self) (omega arith) c.loop-count.invariant c.in-Err.ensures.broken

pub returns-clause-reads : goal.returns-clause-reads
returns-clause-reads g c =
    breaks_flooded c.loop-count._count (lines_of g.K.Link.view c.args.self.now) (lines_of g.K.Link.view c.loop-count.self) _ (omega arith) (omega arith) c.loop-count.invariant refl refl refl refl
