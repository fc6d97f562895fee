use Rattle.std.proofs.Common.{List, ℕ, false, subst}
use Rattle.std.specs.Prelude.{Option}
use Rattle.cacao_site.specs.declared.parcel.Parcel.{Parcel}
use Rattle.oc2_wire_site.specs.LineLinks.{FailsToSend, ReadsOne, SendsAll}
use Rattle.oc2_wire_site.specs.LinesOf.{lines_of}
use Rattle.oc2_wire_site.proofs.PassLemmas.{breaks_at_answer, breaks_soon, passes_one}
use Rattle.oc2_wire_site.proofs.line_link.LineLink.read_or_answer.Goals as goal

pub returns-in-Ok-clause-steps : goal.returns-in-Ok-clause-steps
returns-in-Ok-clause-steps g c =
    passes_one (lines_of g.K.Link.view c.args.self.now) (lines_of g.K.Link.view c.read.new.self) (lines_of g.K.Link.view c.send.new.self)
    (subst (λ (t : Option Parcel). ReadsOne false t (lines_of g.K.Link.view c.args.self.now) (lines_of g.K.Link.view c.read.new.self)) c.in-Ok-None.field-0-is c.in-Ok-None.ensures.one)
    (subst (λ (l : List ℕ). SendsAll l (lines_of g.K.Link.view c.read.new.self) (lines_of g.K.Link.view c.send.new.self)) c.nothing_line.ensures c.in-Ok.ensures.sends)

pub returns-in-Err-send-clause-broken : goal.returns-in-Err-send-clause-broken
returns-in-Err-send-clause-broken g c =
    breaks_at_answer (lines_of g.K.Link.view c.args.self.now) (lines_of g.K.Link.view c.read.new.self) (lines_of g.K.Link.view c.send.new.self)
    (subst (λ (t : Option Parcel). ReadsOne false t (lines_of g.K.Link.view c.args.self.now) (lines_of g.K.Link.view c.read.new.self)) c.in-Ok-None.field-0-is c.in-Ok-None.ensures.one)
    (subst (λ (l : List ℕ). FailsToSend l (lines_of g.K.Link.view c.read.new.self) (lines_of g.K.Link.view c.send.new.self)) c.nothing_line.ensures c.in-Err-send.ensures.fails)

pub returns-in-Err-clause-broken : goal.returns-in-Err-clause-broken
returns-in-Err-clause-broken g c = breaks_soon (lines_of g.K.Link.view c.args.self.now) (lines_of g.K.Link.view c.read.new.self) c.in-Err.ensures.broken
