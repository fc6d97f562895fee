use Rattle.std.proofs.Common.{◌<◌, length, subst, refl, arith}
use Rattle.std.proofs.lemmas.Option.{slice_get_read, slice_get_within, get_or_from_slice_get}
use Rattle.cacao_book.specs.Steps.{KeepsLimits}
use Rattle.cacao_check.proofs.walking.parts_at.Goals as goal

pub index-requires : goal.index-requires
index-requires c =
    let inside : c.args.place < length c.args.book.now.steps = slice_get_within c.args.book.now.steps c.args.place c.args.step.now c.requires.here in
    omega (arith, c.requires.survey.parts.len, c.args.survey.now.parts.ok.0)

pub returns-clause-reads : goal.returns-clause-reads
returns-clause-reads c =
    let inside : c.args.place < length c.args.book.now.steps = slice_get_within c.args.book.now.steps c.args.place c.args.step.now c.requires.here in
    let there : c.args.place < length c.args.survey.now.parts.items = omega (arith, c.requires.survey.parts.len) in
    c.requires.survey.parts.each c.args.place c.args.step.now c.index.result.now c.requires.here (slice_get_read c.args.survey.now.parts.items (length c.args.survey.now.parts.items) c.args.place c.index.result.now refl there c.index.ensures)

pub returns-clause-limits : goal.returns-clause-limits
returns-clause-limits c =
    let inside : c.args.place < length c.args.book.now.steps = slice_get_within c.args.book.now.steps c.args.place c.args.step.now c.requires.here in
    subst KeepsLimits (get_or_from_slice_get c.args.book.now.steps c.args.place c.args.step.now c.args.step.now c.requires.here) (c.as_slice.ensures.limits c.args.place c.args.step.now inside)
