-- Promise: How large data are: a number by which a recursion through their parts falls.
use Rattle.std.specs.Prelude.{ℕ, ◌+◌}
use Rattle.serde_json.specs.Data.{Data, null, boolean, number, string, array, object, Items, no_items, item, Members, no_members, member}

-- the items and members at all levels, and one for each array and object
abbrev mutual
  pub size : Data → ℕ
  size null = 0
  size (boolean b) = 0
  size (number n) = 0
  size (string s) = 0
  size (array ds) = 1 + items_size ds
  size (object ms) = 1 + members_size ms

  pub items_size : Items → ℕ
  items_size no_items = 0
  items_size (item d ds) = 1 + (size d + items_size ds)

  pub members_size : Members → ℕ
  members_size no_members = 0
  members_size (member k d ms) = 1 + (size d + members_size ms)
