use Rattle.std.proofs.Common.{subst, List, Contains, None}
use Rattle.cacao_check_steps.specs.Uses.{Uses}
use Rattle.cacao_check_regions.specs.declared.flaws.Flaw.TheVariants as flaw
use Rattle.cacao_check_regions.specs.Flaws.{SeesFlaw}
use Rattle.cacao_check_regions.specs.Regions.{Sees}
use Rattle.cacao_view_words.specs.Texts.{Text}
use Rattle.cacao_view_explain.proofs.NameLemmas.{of_found, sees_none}
use Rattle.cacao_view_explain.proofs.name_faults.unseen_name.Goals as goal

pub returns : goal.returns
returns c =
    of_found (λ (name : Text). Contains c.as_slice.result.now name × SeesFlaw c.args.book.now name flaw.Missing c.args.place)
    (λ (name : Text). Uses c.args.step.now name × Sees c.args.book.now name c.args.place None) c.in_ok-found.found
    (λ name h. ((c.in_ok-names.ensures name).0 (subst (λ (l : List Text). Contains l name) c.as_slice.ensures.value h.0), sees_none c.args.book.now c.args.place name h.1))
    c.in_ok-found.ensures
