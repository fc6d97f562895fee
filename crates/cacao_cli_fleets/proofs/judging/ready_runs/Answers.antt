-- The playbooks that were judged, and those that are left.
use Rattle.std.proofs.Common.{◌≡◌, ◌+◌, ap, arith, sym, length, List, rules}
use Rattle.std.specs.Vec.Iter.{into_iter_items, into_iter_len}
use Rattle.cacao_cli_ends.specs.Told.{end_of}
use Rattle.cacao_cli_looks.specs.declared.file_text.FileText.{FileText}
use Rattle.cacao_cli_fleets.specs.Judging.{runs_in}
use Rattle.cacao_cli_fleets.proofs.ReadyLemmas.{far-all, far-here, far-more, far-none, far-readable, far-refused, far-some}
use Rattle.cacao_cli_fleets.proofs.judging.ready_runs.Goals as goal

pub loop-text-init : goal.loop-text-init
loop-text-init c = far-none c.args.pairs.now c.args.texts.items _ _ (sym c.into_iter-text-iterator.ensures.into_iter_gives.0) (search rules)

pub loop-text-preserved : goal.loop-text-preserved
loop-text-preserved c =
    let l = c.loop-text in
    far-more c.args.pairs.now c.args.texts.items (into_iter_items l.text-iterator) (into_iter_items c.next.new.self) (into_iter_len l.text-iterator) l.place c.in-Some.text (runs_in l.runs) l.invariant c.in-Some.ensures.steps.0 (into_iter_len c.next.new.self) _
    (omega (arith, l.invariant.many, ap (λ (x : List FileText). length x) c.in-Some.ensures.steps.0, c.in-Some.ensures.steps.1)) c.in-Ok.ensures.ok

pub ready_one-requires-clause-here : goal.ready_one-requires-clause-here
ready_one-requires-clause-here c =
    let l = c.loop-text in
    far-here c.args.pairs.now c.args.texts.items (into_iter_items l.text-iterator) (into_iter_items c.next.new.self) (into_iter_len l.text-iterator) l.place c.in-Some.text (runs_in l.runs) l.invariant c.in-Some.ensures.steps.0 c.requires.many

pub ready_one-requires-clause-numbered : goal.ready_one-requires-clause-numbered
ready_one-requires-clause-numbered c = c.loop-text.invariant.first.numbered

pub ready_one-requires-clause-readable : goal.ready_one-requires-clause-readable
ready_one-requires-clause-readable c =
    let l = c.loop-text in
    far-readable c.args.pairs.now c.args.texts.items (into_iter_items l.text-iterator) (into_iter_items c.next.new.self) (into_iter_len l.text-iterator) l.place c.in-Some.text (runs_in l.runs) l.invariant c.in-Some.ensures.steps.0 c.requires.readable

pub returns-in-Err-clause-err : goal.returns-in-Err-clause-err
returns-in-Err-clause-err c =
    let l = c.loop-text in
    far-refused c.args.pairs.now c.args.texts.items (into_iter_items l.text-iterator) (into_iter_items c.next.new.self) (into_iter_len l.text-iterator) l.place c.in-Some.text (runs_in l.runs) l.invariant c.in-Some.ensures.steps.0 (end_of c.in-Err.end) c.in-Err.ensures.err
