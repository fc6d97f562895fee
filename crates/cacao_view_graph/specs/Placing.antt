-- Scaffold: What the code holds of playbooks, as what is drawn of them.
use Rattle.std.specs.Prelude.{◌≡◌, ℕ, List, map, Some, slice_get}
use Rattle.std.specs.Option.{option_copied}
use Rattle.serde_json.specs.Data.{Data}
use Rattle.cacao_json.specs.Tree.{data_of, pair_data}
use Rattle.cacao_book.specs.declared.books.Book.{Book}
use Rattle.cacao_view_graph.specs.Drawings.{Drawn, DrawnBook}
use Rattle.cacao_view_graph.specs.Homes.{IsHome}
use Rattle.cacao_view_graph.specs.declared.placed.Placed.{Placed}
use Rattle.cacao_view_graph.specs.declared.placed_book.PlacedBook.{PlacedBook}

abbrev pub drawn_of : Placed → Drawn
drawn_of step = record {
  member = pair_data step.pair.now;
  home = option_copied step.home;
  notes = step.mark.text.items;
  pale = step.mark.pale;
}

abbrev pub drawn_book : PlacedBook → DrawnBook
drawn_book placed = record { tree = data_of placed.tree.now; steps = map drawn_of placed.steps.items }

-- these members are drawn, each with its home
pub record AreDrawnOf (book : Book) (members : List (List ℕ × Data)) (steps : List Drawn) : Type 0 where
  pub members_are : map (λ step. step.member) steps ≡ members
  pub homes : (place : ℕ) (step : Drawn) → slice_get steps place ≡ Some step → IsHome book place step.home
