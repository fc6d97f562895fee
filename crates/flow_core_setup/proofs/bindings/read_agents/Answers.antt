use Rattle.std.proofs.Common.{map, List, ℕ, sym, subst, arith, codes, nat_abs, ◌∙◌, ap}
use Rattle.std.specs.Prelude.{All, unwrap_or, option_map}
use Rattle.serde_json.specs.Data.{Data}
use Rattle.serde_json.specs.Find.{get}
use Rattle.cacao_json.specs.Tree.{data_of, pair_data}
use Rattle.cacao_ids.specs.Ids.{IsId}
use Rattle.flow_core_rules.specs.Bindings.{IsFilter}
use Rattle.cacao_book_shape.specs.Members.{whole, members_at}
use Rattle.cacao_book_shape.proofs.ListLemmas.{fits_at, made_all}
use Rattle.flow_core_setup.proofs.SetupRunnable.{members_all}
use Rattle.flow_core_setup.specs.SetupGivens.{AreInOrder}
use Rattle.flow_core_setup.proofs.SetupOrder.{entries_in_order}
use Rattle.flow_core_setup.proofs.bindings.read_agents.Goals as goal

pub read_agent-requires : goal.read_agent-requires
read_agent-requires c =
    (fits_at pair_data (λ (m : List ℕ × Data). IsId m.0 × IsFilter m.1) c.members_under-pair-items.result.now c.loop-pair.pair-index c.pair-item.result c.loop-pair-test.true c.pair-item.is
    (subst (All (λ (m : List ℕ × Data). IsId m.0 × IsFilter m.1)) (sym c.members_under-pair-items.ensures.members) (members_all (λ (m : List ℕ × Data). IsId m.0 × IsFilter m.1) (get (codes "agents") (data_of c.args.tree.now)) c.requires.1))).1

pub returns-clause-agents : goal.returns-clause-agents
returns-clause-agents c = made_all pair_data (λ (m : List ℕ × Data). (m.0, unwrap_or (option_map nat_abs (whole m.1)) 0)) c.members_under-pair-items.result.now c.loop-pair.pair-index c.loop-pair.agents.items (omega arith) c.loop-pair.invariant ∙ ap (map (λ (m : List ℕ × Data). (m.0, unwrap_or (option_map nat_abs (whole m.1)) 0))) c.members_under-pair-items.ensures.members

pub returns-clause-order : goal.returns-clause-order
returns-clause-order c = subst AreInOrder (sym (returns-clause-agents c)) (entries_in_order (λ d. unwrap_or (option_map nat_abs (whole d)) 0) (members_at (codes "agents") (data_of c.args.tree.now)) c.members_under-pair-items.ensures.rising)
