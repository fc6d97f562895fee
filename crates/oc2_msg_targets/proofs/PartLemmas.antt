-- The members of an object, as the code has them.
use Rattle.std.proofs.Common.{◌≡◌, ◌≢◌, ℕ, ◌||◌, List, [], ◌∷◌, map, length, get_or, Some, None, refl, sym, ap, ◌∙◌, arith}
use Rattle.std.specs.Borrow.{Bor}
use Rattle.std.specs.List.{list_all, list_any}
use Rattle.std.specs.Str.{bytes_eq}
use Rattle.serde_json.specs.Data.{Data, object}
use Rattle.cacao_json.specs.declared.tree.Pair.{Pair}
use Rattle.cacao_json.specs.Tree.{pair_data, members_of}
use Rattle.oc2_msg_targets.specs.Parts.{names_of, are_among, has_only, single}

pub list_any-now : (name : List ℕ) (words : List (Bor (List ℕ))) → list_any (λ word. bytes_eq name word.now) words ≡ list_any (λ word. bytes_eq name word) (map (λ word. word.now) words)
list_any-now name [] = refl
list_any-now name (w ∷ ws) = ap (λ b. bytes_eq name w.now || b) (list_any-now name ws)

pub are_among-pairs : (words : List (Bor (List ℕ))) (ps : List Pair) → list_all (λ pair. list_any (λ word. bytes_eq (pair_data pair).0 word.now) words) ps ≡ are_among (map (λ word. word.now) words) (names_of (members_of (map pair_data ps)))
are_among-pairs words [] = refl
are_among-pairs words (p ∷ ps) = rw (list_any-now (pair_data p).0 words, are_among-pairs words ps) refl

pub has_only-pairs : (words : List (Bor (List ℕ))) (d : Data) (ps : List Pair) → d ≡ object (members_of (map pair_data ps)) → list_all (λ pair. list_any (λ word. bytes_eq (pair_data pair).0 word.now) words) ps ≡ has_only (map (λ word. word.now) words) d
has_only-pairs words d ps is = are_among-pairs words ps ∙ ap (has_only (map (λ word. word.now) words)) (sym is)

pub single-one : (d : Data) (ps : List Pair) (p : Pair) → d ≡ object (members_of (map pair_data ps)) → length ps ≡ 1 → p ≡ get_or ps 0 p → Some (pair_data p) ≡ single d
single-one d [] p is one at = absurd (omega arith)
single-one d (q ∷ []) p is one at = ap (λ r. Some (pair_data r)) at ∙ ap single (sym is)
single-one d (q ∷ r ∷ ps) p is one at = absurd (omega arith)

pub single-other : (d : Data) (ps : List Pair) → d ≡ object (members_of (map pair_data ps)) → length ps ≢ 1 → None ≡ single d
single-other d [] is other = ap single (sym is)
single-other d (q ∷ []) is other = absurd (other refl)
single-other d (q ∷ r ∷ ps) is other = ap single (sym is)
