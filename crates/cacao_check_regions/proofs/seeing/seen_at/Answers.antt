use Rattle.std.proofs.Common.{◌≡◌, ◌∙◌, ap, sym, Some, None}
use Rattle.cacao_vars.specs.Declarations.{declared}
use Rattle.cacao_book.specs.declared.steps.Step.{Step}
use Rattle.cacao_check_steps.specs.Links.{declares}
use Rattle.cacao_check_regions.proofs.SightLists.{seen_own, seen_outside, declares_read}
use Rattle.cacao_check_regions.proofs.seeing.seen_at.Goals as goal

pub returns-in-Some-clause-seen : goal.returns-in-Some-clause-seen
returns-in-Some-clause-seen c =
    let here = declares_read c.args.book.now c.as_slice-steps.result.now c.args.name.now c.args.place c.index-steps-place.result c.as_slice-steps.ensures.steps c.requires.place c.index-steps-place.is in
    let own : declares c.args.book.now c.args.name.now c.args.place ≡ Some c.in-Some.var.now = here ∙ ap (λ (s : Step). declared s.variables c.args.name.now) c.index-steps-place.is ∙ sym c.in-Some.ensures in
    seen_own c.args.book.now c.args.name.now c.args.place c.in-Some.var.now c.in_ok-items.items.items own c.in_ok-items.ensures.items

pub returns-clause-seen : goal.returns-clause-seen
returns-clause-seen c =
    let here = declares_read c.args.book.now c.as_slice-steps.result.now c.args.name.now c.args.place c.index-steps-place.result c.as_slice-steps.ensures.steps c.requires.place c.index-steps-place.is in
    let none : declares c.args.book.now c.args.name.now c.args.place ≡ None = here ∙ ap (λ (s : Step). declared s.variables c.args.name.now) c.index-steps-place.is ∙ sym c.in_default.ensures in
    seen_outside c.args.book.now c.args.name.now c.args.place c.in_ok-marks.marks c.in_ok-items-2.items.items none c.in_ok-marks.ensures c.in_ok-items-2.ensures.items
