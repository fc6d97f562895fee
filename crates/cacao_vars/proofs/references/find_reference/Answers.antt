-- The cuts are at characters of one byte.
use Rattle.std.proofs.Common.{subst, ◌+◌, ◌-◌, ◌<◌, ◌≡◌, ◌∙◌, ap, take, drop, ℕ, arith}
use Rattle.cacao_vars.specs.References.{HasReferenceAt, HasNoReference, StandsAt}
use Rattle.cacao_vars.proofs.FirstLemmas.{first_of, first_from, none_from, cut_before_value, cut_behind_value}
use Rattle.cacao_vars.proofs.references.find_reference.Goals as goal

pub returns-in_default-clause-none : goal.returns-in_default-clause-none
returns-in_default-clause-none c = subst HasNoReference c.as_bytes.ensures.value c.in_default.ensures.cases

pub returns-in_default-clause-exact : goal.returns-in_default-clause-exact
returns-in_default-clause-exact c = none_from c.args.text.now (subst HasNoReference c.as_bytes.ensures.value c.in_default.ensures.cases)

pub range-requires-2-clause-end_boundary : goal.range-requires-2-clause-end_boundary
range-requires-2-clause-end_boundary c =
    cut_before_value c.args.text.now c.in-Some.place c.in-Some.len (subst (λ t. StandsAt t c.in-Some.place c.in-Some.len) c.as_bytes.ensures.value c.in-Some.ensures.cases)

pub range_from-requires : goal.range_from-requires
range_from-requires c =
    λ _. cut_behind_value c.args.text.now c.in-Some.place c.in-Some.len c.utf8.text (subst (λ t. StandsAt t c.in-Some.place c.in-Some.len) c.as_bytes.ensures.value c.in-Some.ensures.cases)

first : goal.returns-clause-first
first c =
    let text = c.args.text.now in
    let place = c.in-Some.place in
    let len = c.in-Some.len in
    let front : place - 0 ≡ place = omega arith in
    let middle : place + len - place ≡ len = omega arith in
    first_of text c.range.result.now c.range-2.result.now c.range_from.result.now place len
    (subst (λ t. StandsAt t place len) c.as_bytes.ensures.value c.in-Some.ensures.cases)
    (c.range.ensures.value ∙ ap (λ n. take n text) front)
    (c.range-2.ensures.value ∙ ap (λ n. take n (drop place text)) middle)
    c.range_from.ensures.value
    (subst (λ t. (at : ℕ) → at < place → ¬ (HasReferenceAt t at)) c.as_bytes.ensures.value c.in-Some.ensures.first)

pub returns-clause-first : goal.returns-clause-first
returns-clause-first c = first c

pub returns-clause-exact : goal.returns-clause-exact
returns-clause-exact c = first_from c.range.result.now c.args.text.now c.range-2.result.now c.range_from.result.now (first c)
