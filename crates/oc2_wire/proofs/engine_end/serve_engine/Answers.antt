use Rattle.std.proofs.Common.{refl}
use Rattle.oc2_wire_site.specs.WireOf.{wire_of}
use Rattle.oc2_wire.proofs.Reading.{asks_still, keeps_by_lines, keeps_lines}
use Rattle.oc2_wire.proofs.engine_end.serve_engine.Goals as goal

pub returns-clause-served : goal.returns-clause-served
returns-clause-served g c = c.serve-result.ensures.served

pub returns-clause-refused : goal.returns-clause-refused
returns-clause-refused g c = c.serve-result.ensures.refused

pub returns-clause-own : goal.returns-clause-own
returns-clause-own g c = c.serve-result.ensures.own

pub returns-clause-steady : goal.returns-clause-steady
returns-clause-steady g c = c.serve-result.ensures.steady

pub returns-clause-disk : goal.returns-clause-disk
returns-clause-disk g c = c.serve-result.ensures.disk

pub returns-clause-kept : goal.returns-clause-kept
returns-clause-kept g c = c.serve-result.ensures.kept

pub returns-clause-goes_on : goal.returns-clause-goes_on
returns-clause-goes_on g c = c.serve-result.ensures.goes_on

pub returns-clause-durably : goal.returns-clause-durably
returns-clause-durably g c = c.serve-result.ensures.durably

pub returns-clause-nothing : goal.returns-clause-nothing
returns-clause-nothing g c = c.serve-result.ensures.nothing

pub returns-clause-asking : goal.returns-clause-asking
returns-clause-asking g c =
    let old = wire_of g.S.Disk.view g.K.Link.view c.args.wire.now in
    let new = wire_of g.S.Disk.view g.K.Link.view c.serve-result.new.site in
    asks_still old new c.law.ensures c.law-2.ensures c.serve-result.ensures.disk.label c.requires.asking

pub returns-clause-lines : goal.returns-clause-lines
returns-clause-lines g c = λ marked taken puts takes more.
    let old = wire_of g.S.Disk.view g.K.Link.view c.args.wire.now in
    let new = wire_of g.S.Disk.view g.K.Link.view c.serve-result.new.site in
    keeps_lines old new c.law.ensures c.law-2.ensures c.serve-result.ensures.disk.label c.wire_law.ensures.marked marked taken puts refl refl takes more

pub returns-clause-by_lines : goal.returns-clause-by_lines
returns-clause-by_lines g c = λ marked told.
    let old = wire_of g.S.Disk.view g.K.Link.view c.args.wire.now in
    let new = wire_of g.S.Disk.view g.K.Link.view c.serve-result.new.site in
    let took = c.serve-result.ensures.took in
    let put = c.serve-result.ensures.put in
    keeps_by_lines old new c.law.ensures c.law-2.ensures c.serve-result.ensures.disk.label c.wire_law.ensures.marked marked took.0 put.0 refl refl took.1 put.1
    c.engine_laws.ensures.got c.args.run c.requires.asking (c.serve-result.ensures.kept told)
