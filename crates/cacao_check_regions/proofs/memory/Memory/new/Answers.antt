use Rattle.std.proofs.Common.{subst, sym}
use Rattle.std.specs.Prelude.{All}
use Rattle.std.proofs.lemmas.List.Elements.{All-nil}
use Rattle.cacao_check_regions.specs.declared.memory.Recall.{Recall}
use Rattle.cacao_check_regions.specs.Memories.{IsExact, Serves}
use Rattle.cacao_check_regions.proofs.memory.Memory.new.Goals as goal

pub returns : goal.returns
returns c book = record {
  searches = subst (All (IsExact book)) (sym c.new.ensures) (All-nil (IsExact book));
  recalls = subst (All (λ (recall : Recall). Serves book c.new.result.items.items recall.search recall.name recall.flaw)) (sym c.new-2.ensures.items) (All-nil (λ (recall : Recall). Serves book c.new.result.items.items recall.search recall.name recall.flaw));
}
