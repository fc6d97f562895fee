use Rattle.std.proofs.Common.{◌<◌, ℕ, List, length, Contains, All, ap, sym, subst}
use Rattle.cacao_check_regions.proofs.ChartLemmas.{within_members}
use Rattle.cacao_check_regions.proofs.SightLists.{some_within}
use Rattle.cacao_check_regions.proofs.sights.declaring.Goals as goal

pub marked-requires : goal.marked-requires
marked-requires c =
    subst (λ n. All (λ place. place < n) c.find-places.result.now) (sym (ap length c.as_slice.ensures.steps))
    (within_members (length c.args.book.now.steps) c.find-places.result.now
    (λ p h. some_within c.args.book.now c.args.name.now p ((c.requires.declarers_are c.args.name.now p).0 (subst (λ (v : List ℕ). Contains v p) c.find-places.ensures h))))

pub returns : goal.returns
returns c p = (
  λ m. (c.requires.declarers_are c.args.name.now p).0 (subst (λ (v : List ℕ). Contains v p) c.find-places.ensures ((c.in_ok-marks.ensures p).0 m)),
  λ h. (c.in_ok-marks.ensures p).1 (subst (λ (v : List ℕ). Contains v p) (sym c.find-places.ensures) ((c.requires.declarers_are c.args.name.now p).1 h)),
)
