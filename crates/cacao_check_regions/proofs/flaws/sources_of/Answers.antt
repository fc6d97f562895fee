use Rattle.std.proofs.Common.{◌≡◌, ◌↔◌, ◌∙◌, ◌++◌, ℕ, List, length, Contains, IsSome, ap, sym, subst}
use Rattle.cacao_check_steps.specs.Links.{declares}
use Rattle.cacao_check_regions.specs.Flaws.{is_flawed}
use Rattle.cacao_check_regions.proofs.ChartLemmas.{within_members}
use Rattle.cacao_check_regions.proofs.SightLists.{some_within}
use Rattle.cacao_check_regions.proofs.flaws.sources_of.Goals as goal

pub flawed-requires : goal.flawed-requires
flawed-requires c =
    within_members (length c.args.book.now.steps) c.find-places.result.now
    (λ p h. some_within c.args.book.now c.args.name.now p ((c.requires.declarers_are c.args.name.now p).0 (subst (λ (v : List ℕ). Contains v p) c.find-places.ensures h)))

pub returns : goal.returns
returns c =
    let declares_iff : (p : ℕ) → Contains c.find-places.result.now p ↔ IsSome (declares c.args.book.now c.args.name.now p) = λ p. (
      λ h. (c.requires.declarers_are c.args.name.now p).0 (subst (λ (v : List ℕ). Contains v p) c.find-places.ensures h),
      λ h. subst (λ (v : List ℕ). Contains v p) (sym c.find-places.ensures) ((c.requires.declarers_are c.args.name.now p).1 h),
    ) in
    let copied : c.append.new.self ≡ c.find-places.result.now = c.in_ok-append.ensures.ok ∙ ap (λ (v : List ℕ). v ++ c.find-places.result.now) c.new-declaring.ensures in
    record {
      declaring = λ p. (λ h. (declares_iff p).0 (subst (λ (v : List ℕ). Contains v p) copied h), λ h. subst (λ (v : List ℕ). Contains v p) (sym copied) ((declares_iff p).1 h));
      flawed = λ p. (λ h. ((c.in_ok-flawed.ensures p).0 h).1, λ h. (c.in_ok-flawed.ensures p).1 ((declares_iff p).1 h.0, h));
      at_start = c.is_flawed-at_start.ensures ∙ ap (is_flawed c.args.flaw.now) c.find.ensures;
    }
