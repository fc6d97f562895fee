use Rattle.std.proofs.Common.{◌≡◌, not, true, sym, ◌∙◌, ap}
use Rattle.std.proofs.lemmas.Bool.{false≢true}
use Rattle.cacao_check_regions.proofs.SeenLemmas.{never_missing, found_unreached}
use Rattle.cacao_check_regions.proofs.flaws.is_found_anyhow.Goals as goal

pub returns-then-declares : goal.returns-then-declares
returns-then-declares c h seen s = never_missing c.args.book.now c.args.name.now (sym c.declares.ensures ∙ h) s

pub returns-else-declares : goal.returns-else-declares
returns-else-declares c h =
    found_unreached c.args.book.now c.args.name.now c.args.place
    (λ r. let m : c.has.result ≡ true = c.has.ensures ∙ (c.requires.reach_are c.args.place).1 r in false≢true (sym (ap not m) ∙ h))
