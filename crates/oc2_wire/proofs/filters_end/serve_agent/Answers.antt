use Rattle.std.proofs.Common.{refl}
use Rattle.oc2_wire_site.specs.WireOf.{wire_of}
use Rattle.oc2_wire.proofs.Reading.{filters_by_lines, keeps_lines}
use Rattle.oc2_wire.proofs.ServedLeft.{served_left}
use Rattle.oc2_wire.proofs.filters_end.serve_agent.Goals as goal

pub returns-clause-served : goal.returns-clause-served
returns-clause-served g c = c.serve-result.ensures.ended.served

pub returns-clause-keeps : goal.returns-clause-keeps
returns-clause-keeps g c = c.serve-result.ensures.ended.keeps

pub returns-clause-disk : goal.returns-clause-disk
returns-clause-disk g c = c.serve-result.ensures.ended.disk

pub returns-clause-steady : goal.returns-clause-steady
returns-clause-steady g c = c.serve-result.ensures.ended.steady

pub returns-clause-answering : goal.returns-clause-answering
returns-clause-answering g c = c.serve-result.ensures.ended.answering

pub returns-clause-lines : goal.returns-clause-lines
returns-clause-lines g c = c.serve-result.ensures.ended.lines

pub returns-clause-turns : goal.returns-clause-turns
returns-clause-turns g c = c.serve-result.ensures.turns

pub returns-clause-link : goal.returns-clause-link
returns-clause-link g c = c.serve-result.ensures.ended.link

pub returns-clause-read : goal.returns-clause-read
returns-clause-read g c = λ marked taken puts takes more.
    let old = wire_of g.S.Disk.view g.K.Link.view c.args.wire.now in
    let new = wire_of g.S.Disk.view g.K.Link.view c.serve-result.new.wire in
    let left = served_left old new c.serve-result.result c.serve-result.ensures.ended.served in
    keeps_lines old new c.law.ensures c.law-2.ensures left.label c.wire_law.ensures.marked marked taken puts refl refl takes more

pub returns-clause-by_lines : goal.returns-clause-by_lines
returns-clause-by_lines g c = λ marked told start.
    let old = wire_of g.S.Disk.view g.K.Link.view c.args.wire.now in
    let new = wire_of g.S.Disk.view g.K.Link.view c.serve-result.new.wire in
    let left = served_left old new c.serve-result.result c.serve-result.ensures.ended.served in
    filters_by_lines old new c.law.ensures c.law-2.ensures left.label c.wire_law.ensures.marked marked left.took.0 left.put.0 refl refl left.took.1 left.put.1
    c.filter_laws.ensures.got c.requires.answering (c.serve-result.ensures.ended.keeps told start)
