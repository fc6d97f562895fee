use Rattle.std.proofs.Common.{subst, sym}
use Rattle.std.specs.Prelude.{Option}
use Rattle.cacao_site.specs.declared.parcel.Parcel.{Parcel}
use Rattle.oc2_wire_site.specs.LineLinks.{TakesBy, taken_of}
use Rattle.oc2_wire_site.specs.LinesOf.{lines_of}
use Rattle.oc2_wire_site.proofs.TakeLemmas.{asks_one, takes_answering, takes_asking, takes_broken, takes_unowed, wanted_by, wants_by, whole_read}
use Rattle.oc2_wire_site.proofs.line_link.LineLink.take.Goals as goal

pub returns-then-not-is_whole-clause-takes : goal.returns-then-not-is_whole-clause-takes
returns-then-not-is_whole-clause-takes g c = takes_broken c.args.asking c.args.owed (lines_of g.K.Link.view c.args.self.now) (c.is_whole.ensures.broken c.if-not-is_whole.true)

pub returns-then-not-asking-clause-takes : goal.returns-then-not-asking-clause-takes
returns-then-not-asking-clause-takes g c =
    subst (λ (t : Option Parcel). TakesBy c.args.asking c.args.owed t (lines_of g.K.Link.view c.args.self.now) (lines_of g.K.Link.view c.read_command-read.new.self)) (sym c.answer.ensures.taken)
    (takes_answering c.args.asking c.args.owed (taken_of c.read_command-read.result) (lines_of g.K.Link.view c.args.self.now) (lines_of g.K.Link.view c.read_command-read.new.self)
    c.if-not-asking.true (c.is_whole.ensures.whole c.if-not-is_whole.false) c.read_command-read.ensures.reads)

pub returns-then-not-asking-clause-want : goal.returns-then-not-asking-clause-want
returns-then-not-asking-clause-want g c = wants_by c.answer.result c.read_command-read.result c.read_command-read.new.self.state c.answer.ensures.want c.read_command-read.ensures.state

pub returns-then-not-asking-clause-wanted : goal.returns-then-not-asking-clause-wanted
returns-then-not-asking-clause-wanted g c =
    wanted_by c.answer.result c.read_command-read.result c.read_command-read.new.self.state c.args.self.now.state c.answer.ensures.wanted c.read_command-read.ensures.state c.read_command-read.ensures.whole

pub returns-then-not-owed-clause-takes : goal.returns-then-not-owed-clause-takes
returns-then-not-owed-clause-takes g c = takes_unowed c.args.asking c.args.owed (lines_of g.K.Link.view c.args.self.now) c.if-not-asking.false c.if-not-owed.true

pub returns-clause-takes : goal.returns-clause-takes
returns-clause-takes g c =
    subst (λ (t : Option Parcel). TakesBy c.args.asking c.args.owed t (lines_of g.K.Link.view c.args.self.now) (lines_of g.K.Link.view c.read-read.new.self)) (sym c.answer-2.ensures.taken)
    (takes_asking c.args.asking c.args.owed (taken_of c.read-read.result) (lines_of g.K.Link.view c.args.self.now) (lines_of g.K.Link.view c.read-read.new.self)
    c.if-not-asking.false c.if-not-owed.false (c.is_whole.ensures.whole c.if-not-is_whole.false)
    (asks_one c.read-read.result (lines_of g.K.Link.view c.args.self.now) (lines_of g.K.Link.view c.read-read.new.self) c.read-read.ensures.one c.read-read.ensures.broken))

pub returns-clause-want : goal.returns-clause-want
returns-clause-want g c = wants_by c.answer-2.result c.read-read.result c.read-read.new.self.state c.answer-2.ensures.want c.read-read.ensures.state

pub returns-clause-wanted : goal.returns-clause-wanted
returns-clause-wanted g c =
    wanted_by c.answer-2.result c.read-read.result c.read-read.new.self.state c.args.self.now.state c.answer-2.ensures.wanted c.read-read.ensures.state
    (whole_read c.read-read.result (lines_of g.K.Link.view c.args.self.now) (lines_of g.K.Link.view c.read-read.new.self) c.read-read.ensures.one)
