-- What is no object has no signatures.
use Rattle.std.proofs.Common.{◌≡◌, refl}
use Rattle.serde_json.specs.Data.{Members}
use Rattle.cacao_json.specs.declared.tree.Tree.{Tree}
use Rattle.cacao_json.specs.declared.tree.Tree.TheVariants as tree
use Rattle.cacao_json.specs.Tree.{data_of}
use Rattle.cacao_text.specs.Canon.{unsigned_of}

pub unsigned_of-other : (t : Tree) → ((ms : Members) → t ≡ tree.Members ms → ⊥) → unsigned_of (data_of t) ≡ data_of t
unsigned_of-other tree.Null h = refl
unsigned_of-other (tree.Flag b) h = refl
unsigned_of-other (tree.Whole z) h = refl
unsigned_of-other (tree.Text s) h = refl
unsigned_of-other (tree.List ds) h = refl
unsigned_of-other (tree.Members ms) h = absurd (h ms refl)
