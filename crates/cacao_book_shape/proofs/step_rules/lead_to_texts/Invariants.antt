use Rattle.std.specs.Prelude.{map}
use Rattle.std.specs.List.{AllWithin}
use Rattle.cacao_json.specs.Tree.{pair_data}
use Rattle.cacao_book_shape.specs.Members.{IsText}
use Rattle.cacao_book_shape.proofs.step_rules.lead_to_texts.Given as goal

abbrev pub invariant-loop-case : goal.invariant-loop-case
invariant-loop-case l = AllWithin (λ m. IsText m.1) (map pair_data l.cases) 0 l.case-index
