use Rattle.std.proofs.Common.{map, List, ℕ, sym, subst, arith, codes, ◌∙◌, ap}
use Rattle.std.specs.Prelude.{All}
use Rattle.serde_json.specs.Data.{Data}
use Rattle.serde_json.specs.Find.{get}
use Rattle.cacao_json.specs.Tree.{data_of, pair_data}
use Rattle.cacao_vars.specs.Names.{IsName}
use Rattle.cacao_book_shape.specs.Members.{TextFits, IsShort, text_of}
use Rattle.cacao_book_shape.proofs.ListLemmas.{fits_at, made_all}
use Rattle.flow_core_setup.proofs.SetupRunnable.{members_all}
use Rattle.flow_core_setup.proofs.bindings.read_variables.Goals as goal

pub read_variable-requires : goal.read_variable-requires
read_variable-requires c =
    (fits_at pair_data (λ (m : List ℕ × Data). IsName m.0 × TextFits (IsShort 4096) m.1) c.members_under-pair-items.result.now c.loop-pair.pair-index c.pair-item.result c.loop-pair-test.true c.pair-item.is
    (subst (All (λ (m : List ℕ × Data). IsName m.0 × TextFits (IsShort 4096) m.1)) (sym c.members_under-pair-items.ensures.members) (members_all (λ (m : List ℕ × Data). IsName m.0 × TextFits (IsShort 4096) m.1) (get (codes "variables") (data_of c.args.tree.now)) c.requires.2))).0

pub returns : goal.returns
returns c = made_all pair_data (λ (m : List ℕ × Data). (m.0, text_of m.1)) c.members_under-pair-items.result.now c.loop-pair.pair-index c.loop-pair.variables.items (omega arith) c.loop-pair.invariant ∙ ap (map (λ (m : List ℕ × Data). (m.0, text_of m.1))) c.members_under-pair-items.ensures.members
