-- What stands before the first separator is the first part, and the others are the parts of the rest.
use Rattle.std.proofs.Common.{◌≡◌, ℕ, List, [], ◌∷◌, ◌++◌, MatchOption, Option, Some, None, ap, ◌∙◌}
use Rattle.std.specs.Borrow.{Bor}
use Rattle.std.proofs.lemmas.Str.Pattern.{split_parts}
use Rattle.oc2_nets.specs.Texts.{parts}
use Rattle.oc2_nets.proofs.TextParts.{Lacks, parts_one, parts_more}
use Rattle.oc2_nets.proofs.texts.cut.Goals as goal

at_first : (c : ℕ) (text : List ℕ) (r : Option (Bor (List ℕ) × Bor (List ℕ))) → MatchOption r (Lacks c text) (λ x. (text ≡ x.0.now ++ (c ∷ x.1.now)) × Lacks c x.0.now) → MatchOption r (parts c text ≡ text ∷ []) (λ x. parts c text ≡ x.0.now ∷ parts c x.1.now)
at_first c text None h = parts_one c text h
at_first c text (Some x) h = ap (parts c) h.0 ∙ parts_more c x.0.now x.1.now h.1

pub returns : goal.returns
returns c = at_first c.args.separator c.args.text.now c.split_once.result (split_parts c.args.separator c.args.text.now c.split_once.result c.split_once.ensures.cases c.requires)
