-- Promise: The laws of canonical text.
use Rattle.std.specs.Prelude.{◌≡◌, ◌≤◌, ◌↔◌, ℕ, List, length, Some, option_map}
use Rattle.serde_json.specs.Data.{Data}
use Rattle.cacao_json.specs.Reading.{tree}
use Rattle.cacao_json.specs.Profile.{IsTree}
use Rattle.cacao_text.specs.Canon.{canon, unsigned_of, book_text}

-- what texts have as their trees are trees of the profile
abbrev pub TextsHaveTrees : Type 0
TextsHaveTrees = (bytes : List ℕ) (d : Data) → tree bytes ≡ Some d → IsTree d

-- canonical text has the tree that it was made of
abbrev pub ReadsBack : Type 0
ReadsBack = (d : Data) → IsTree d → tree (canon d) ≡ Some d

-- trees have equal canonical text exactly if they are equal
abbrev pub HasOneText : Type 0
HasOneText = (d e : Data) → IsTree d → IsTree e → (canon d ≡ canon e) ↔ (d ≡ e)

-- the canonical text of what canonical text reads as is that text
abbrev pub IsFixed : Type 0
IsFixed = (d : Data) → IsTree d → option_map canon (tree (canon d)) ≡ Some (canon d)

-- a book's text has the tree without signatures
abbrev pub BookReadsBack : Type 0
BookReadsBack = (d : Data) → IsTree d → tree (book_text d) ≡ Some (unsigned_of d)

-- the book's text of what a book's text reads as is that text
abbrev pub BookIsFixed : Type 0
BookIsFixed = (d : Data) → IsTree d → option_map book_text (tree (book_text d)) ≡ Some (book_text d)

-- canonical text is no longer than a text with the same tree
abbrev pub IsNoLonger : Type 0
IsNoLonger = (bytes : List ℕ) (d : Data) → tree bytes ≡ Some d → length (canon d) ≤ length bytes

-- leaving out signatures makes it no longer
abbrev pub BookIsNoLonger : Type 0
BookIsNoLonger = (d : Data) → length (book_text d) ≤ length (canon d)
